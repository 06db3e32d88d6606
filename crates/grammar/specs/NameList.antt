-- The names of a table's clocks, as clauses see them. Assumes nothing.
use Rattle.std.specs.Prelude.{Bool, List}
use Rattle.text.specs.declared.Span.{Span}

-- where each name first stands, in the order of the clocks' numbers, and whether one more was named than there is room for
pub record NameList : Type 0 where
  pub spans : List Span
  pub over : Bool
