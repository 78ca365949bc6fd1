-- The variables that a region is found to take from outside, as its parts are read.
use Rattle.std.specs.Prelude.{ℕ, List}
use Rattle.om_scope_tree.specs.Captures.{with_use}

-- where the region begins, and what is found so far
pub record FoundVariables : Type 0 where
  pub start : ℕ
  pub variables : List ℕ

-- behind one more variable that is used
abbrev pub with_found : FoundVariables → (variable : ℕ) → FoundVariables
with_found found variable = record {
  start = found.start;
  variables = with_use found.start found.variables variable;
}
