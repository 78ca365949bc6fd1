-- What the check of a part of a tree answers.
use Rattle.std.specs.Prelude.{◌≡◌, List, [], Some, Result, Ok, Err}
use Rattle.om_lexer.specs.declared.fault.SourceFault.{SourceFault}
use Rattle.om_scope_rules.specs.Faults.{first_of}
use Rattle.om_scope_rules.specs.Outcomes.{Refuses}

-- a check that takes no memory: the first breach, where there is one
abbrev pub ChecksExactly : {X : Type 0} → Result X SourceFault → List SourceFault → Type 0
ChecksExactly (Ok found) breaches = breaches ≡ []
ChecksExactly (Err fault) breaches = first_of breaches ≡ Some fault

-- the first breach, where there is one, unless memory ran out
abbrev pub Checks : {X : Type 0} → Result X SourceFault → List SourceFault → Type 0
Checks (Ok found) breaches = breaches ≡ []
Checks (Err fault) breaches = Refuses breaches fault
