-- What is promised where a refusal of a part stands beside a further rule: the first of the two is answered.
use Rattle.std.specs.Prelude.{Bool, ℕ, List, Result}
use Rattle.om_lexer.specs.declared.fault.FaultCode.{FaultCode}
use Rattle.om_lexer.specs.declared.fault.FaultCode.TheVariants as faults
use Rattle.om_lexer.specs.declared.fault.SourceFault.{SourceFault}
use Rattle.om_scope_rules.specs.Checks.{Checks}
use Rattle.om_scope_rules.specs.Faults.{perhaps_with, with_breach}
use Rattle.om_scope_rules.specs.Outcomes.{Refuses}

-- whatever breaches a part has, the first of them and of this rule, where it is broken, is refused
abbrev pub RefusesAmong : {X Y : Type 0} → Result X SourceFault → (broken : Bool) → FaultCode → (at : ℕ)
    → Result Y SourceFault → Type 0
RefusesAmong checked broken code at result =
    (breaches : List SourceFault) → Checks checked breaches → Checks result (perhaps_with broken code at breaches)

-- Whatever breaches a statement has, this fault is the first of them and of S12 at this byte, unless memory ran out.
abbrev pub IsFaultOfLoop : {X : Type 0} → Result X SourceFault → (at : ℕ) → SourceFault → Type 0
IsFaultOfLoop checked at fault =
    (breaches : List SourceFault) → Checks checked breaches
    → Refuses (with_breach (record { code = faults.LoopForm; at = at }) breaches) fault
