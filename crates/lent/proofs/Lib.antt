pub mod CompareLaws
pub mod First66
pub mod LentLaws
pub mod PlaceLaws
pub mod StartLaws
pub mod SurveyLaws
