-- How many changes a source has.
use Rattle.std.specs.Prelude.{ℕ, ◌+◌, List, length, count_by, is_some}
use Rattle.lab_port.specs.declared.ported.Change.{Change}
use Rattle.lab_port.specs.declared.ported.Ported.{Ported}
use Rattle.lab_port.specs.Warnings.{warning_of}

-- how many changes have a warning
abbrev pub warnings_in : List Change → ℕ
warnings_in changes = count_by (λ change. is_some (warning_of change.rule)) changes

-- how many changes there are in all stages
abbrev pub change_count : Ported → ℕ
change_count ported =
    length ported.conditions.changes.items + length ported.calls.changes.items + length ported.names.changes.items
    + length ported.arguments.changes.items
    + length ported.arrays.changes.items
    + length ported.lists.changes.items + length ported.sizes.changes.items + length ported.texts.changes.items
    + length ported.again.changes.items + length ported.rules.changes.items

-- how many of them have a warning
abbrev pub warning_count : Ported → ℕ
warning_count ported =
    warnings_in ported.conditions.changes.items + warnings_in ported.calls.changes.items
    + warnings_in ported.names.changes.items
    + warnings_in ported.arguments.changes.items + warnings_in ported.arrays.changes.items
    + warnings_in ported.lists.changes.items
    + warnings_in ported.sizes.changes.items + warnings_in ported.texts.changes.items + warnings_in ported.again.changes.items
    + warnings_in ported.rules.changes.items
