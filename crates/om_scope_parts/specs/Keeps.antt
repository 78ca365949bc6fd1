-- What is promised where a refusal of a part is answered as it is.
use Rattle.std.specs.Prelude.{◌≡◌, ◌++◌, [], ◌∷◌, List, Ok, Result}
use Rattle.om_lexer.specs.declared.fault.SourceFault.{SourceFault}
use Rattle.om_scope_rules.specs.Checks.{Checks}

-- whatever breaches a part has, the result is refused for them as the part is
abbrev pub KeepsRefusals : {X Y : Type 0} → Result X SourceFault → Result Y SourceFault → Type 0
KeepsRefusals found result = (breaches : List SourceFault) → Checks found breaches → Checks result breaches

-- what was found stands behind the items of a list
abbrev pub IsPushed : {X : Type 0} → Result X SourceFault → List X → List X → Type 0
IsPushed {X} found old new = (item : X) × (found ≡ Ok item) × (new ≡ old ++ item ∷ [])
