-- The first breach of a part in which a further rule is broken.
use Rattle.std.proofs.Common.{◌≡◌, Bool, true, false, ℕ, zero, suc, List, [], ◌∷◌, Some, refl, sym, ap, ◌∙◌}
use Rattle.std.proofs.Common.{arith}
use Rattle.std.specs.Prelude.{◌||◌, ◌&&◌, nat_lt, nat_le, nat_eq, if◌then◌else◌, Result, Ok, Err}
use Rattle.std.specs.Result.{result_err}
use Rattle.std.proofs.lemmas.Bool.Decides.{nat_tests}
use Rattle.om_lexer.specs.declared.fault.FaultCode.{FaultCode}
use Rattle.om_lexer.specs.declared.fault.SourceFault.{SourceFault}
use Rattle.om_lexer.specs.Faults.{no_memory, number_of}
use Rattle.om_scope_rules.specs.Checks.{Checks}
use Rattle.om_scope_rules.specs.Faults.{answered_among, first_of, goes_first, with_breach}
use Rattle.om_scope_rules.specs.Outcomes.{Refuses}

-- out of memory goes before all
memory_first : (code : FaultCode) (at : ℕ) → goes_first no_memory (record { code = code; at = at }) ≡ true
memory_first code zero =
    let before : nat_le 0 (number_of code) ≡ true = grind (arith, nat_tests) in
    ap (λ last. nat_lt 0 0 || (nat_eq 0 0 && last)) before
memory_first code (suc at) =
    let before : nat_lt 0 (suc at) ≡ true = grind (arith, nat_tests) in
    ap (λ first. first || (nat_eq 0 (suc at) && nat_le 0 (number_of code))) before

-- among other breaches
earlier : (breaches : List SourceFault) (fault b : SourceFault) → first_of breaches ≡ Some fault → goes_first fault
    b ≡ true → first_of (with_breach b breaches) ≡ Some fault
earlier [] fault b e first = cc
earlier (breach ∷ breaches) fault b e first = let same : breach ≡ fault = cc in rw (same, first) refl

later : (breaches : List SourceFault) (fault b : SourceFault) → first_of breaches ≡ Some fault → goes_first fault b
    ≡ false → first_of (with_breach b breaches) ≡ Some b
later [] fault b e first = cc
later (breach ∷ breaches) fault b e first = let same : breach ≡ fault = cc in rw (same, first) refl

-- the fault of the part, whether it goes before the further one or not
refused_among : (code : FaultCode) (at : ℕ) (breaches : List SourceFault) (fault : SourceFault) (first : Bool)
    → Refuses breaches fault
    → goes_first fault (record { code = code; at = at }) ≡ first
    → Refuses (with_breach (record { code = code; at = at }) breaches)
    (if first then fault else record { code = code; at = at })
refused_among code at breaches fault true refused first other = earlier breaches fault
    (record { code = code; at = at }) (refused other) first
refused_among code at breaches fault false refused first other = later breaches fault
    (record { code = code; at = at })
    (refused (λ same. no_memory_first (sym first ∙ ap (λ f. goes_first f (record { code = code; at = at })) same
    ∙ memory_first code at))) first
  where
    no_memory_first : false ≡ true → ⊥
    no_memory_first e = cc

-- what is answered of a part in which a further rule is broken
pub among_refuses : {X : Type 0} (checked : Result X SourceFault) (code : FaultCode) (at : ℕ)
    (breaches : List SourceFault) → Checks checked breaches
    → Refuses (with_breach (record { code = code; at = at }) breaches) (answered_among (result_err checked)
    (record { code = code; at = at }))
among_refuses (Ok found) code at breaches none = λ other. ap
    (λ bs. first_of (with_breach (record { code = code; at = at }) bs)) none
among_refuses (Err fault) code at breaches refused = refused_among code at breaches fault
    (goes_first fault (record { code = code; at = at })) refused refl
