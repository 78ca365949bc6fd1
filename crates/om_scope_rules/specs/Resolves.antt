-- What resolving a part of a tree answers: a refusal, or what is found. The lemma at the end is matter of proofs.
use Rattle.std.specs.Prelude.{◌≡◌, ◌++◌, List, OnOk, Option, Some, Result, Err, Vec, map, option_map}
use Rattle.std.specs.declared.alloc.Global.{Global}
use Rattle.om_lexer.specs.declared.fault.SourceFault.{SourceFault}
use Rattle.om_scope_rules.specs.Checks.{Checks}
use Rattle.om_scope_rules.specs.Outcomes.{Finds, Refuses}

-- unless memory ran out, the first breach is refused, or there is none, and what is found is seen as this resolution
pub record Resolves {X Y : Type 0} (view : X → Y) (result : Result X SourceFault) (breaches : List SourceFault)
    (resolution : Option Y) : Type 0 where
  pub checked : Checks result breaches
  pub resolved : Finds view result resolution

-- these items stand behind those that were there, unless something is refused
abbrev pub Appends : {T X : Type 0} → Result T SourceFault → Vec X Global → Vec X Global → List X → Type 0
Appends result old new own = OnOk result (new.items ≡ old.items ++ own)

-- more items stand behind those that were there, seen as this resolution, unless something is refused
abbrev pub Adds : {T X Y : Type 0} → (X → Y) → Result T SourceFault → Vec X Global → Vec X Global → Option (List Y)
    → Type 0
Adds view result old new resolution = OnOk result
    (option_map (λ own. map view old.items ++ own) resolution ≡ Some (map view new.items))

-- For proofs: what is refused is not found.
pub refuses : {X Y : Type 0} {view : X → Y} {breaches : List SourceFault} {fault : SourceFault} {resolution : Option Y}
    → Refuses breaches fault → Resolves view (Err fault) breaches resolution
refuses refused = record { checked = refused; resolved = tt }
