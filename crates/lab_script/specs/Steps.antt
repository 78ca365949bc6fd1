-- Steps that are the same but for their numbers.
use Rattle.std.specs.Prelude.{List, map}
use Rattle.om_state.specs.declared.step.Entry.{Entry}

-- an entry without its serial
abbrev pub unnumbered : Entry → Entry
unnumbered e = record { serial = 0; worker = e.worker; choice = e.choice; line = e.line }

-- entries without their serials
abbrev pub bare : List Entry → List Entry
bare entries = map unnumbered entries
