pub mod Decimal
pub mod Determined
pub mod Printed
pub mod Put
