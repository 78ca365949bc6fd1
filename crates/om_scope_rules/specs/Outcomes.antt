-- What resolving a part of a tree answers.
use Rattle.std.specs.Prelude.{◌≡◌, ◌≢◌, List, Option, Some, Result, IfOk}
use Rattle.om_lexer.specs.declared.fault.SourceFault.{SourceFault}
use Rattle.om_lexer.specs.Faults.{no_memory}
use Rattle.om_scope_rules.specs.Faults.{first_of}

-- the first breach, unless memory ran out
abbrev pub Refuses : List SourceFault → SourceFault → Type 0
Refuses breaches fault = fault ≢ no_memory → first_of breaches ≡ Some fault

-- what is found is seen as this resolution
abbrev pub Finds : {X Y : Type 0} → (X → Y) → Result X SourceFault → Option Y → Type 0
Finds view result resolution = IfOk result (λ found. resolution ≡ Some (view found))
