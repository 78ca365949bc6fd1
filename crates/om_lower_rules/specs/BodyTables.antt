-- The tables of a body, as what is numbered in them.
use Rattle.std.specs.Prelude.{◌≡◌, ℕ, Bool, List, map}
use Rattle.om_scope_tree.specs.declared.resolved.Resolved.{Resolved}
use Rattle.om_scope_tree.specs.ResolvedView as view
use Rattle.om_lower_rules.specs.declared.body.BodyTables.{BodyTables}
use Rattle.om_lower_rules.specs.Numbered.{Numbered, numbered_in}

abbrev pub numbered_by : BodyTables → Numbered
numbered_by tables = record {
  slots = tables.variables.now;
  functions = map view.function tables.functions.now;
  formats = tables.program.now.formats;
  locks = tables.program.now.locks;
  is_main = tables.is_main;
}

-- they are those of a body of this program that has these variables
abbrev pub AreOfBody : BodyTables → Resolved → (variables : List ℕ) → (is_main : Bool) → Type 0
AreOfBody tables resolved variables is_main =
    numbered_by tables ≡ numbered_in (view.resolved resolved) variables is_main
