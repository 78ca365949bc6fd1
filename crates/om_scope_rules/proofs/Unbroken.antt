-- Where there is no breach, there is none of any part.
use Rattle.std.proofs.Common.{◌≡◌, Bool, true, false, cond, not, ◌||◌, ℕ, List, [], ◌∷◌, ◌++◌, refl}
use Rattle.om_lexer.specs.declared.fault.FaultCode.{FaultCode}
use Rattle.om_lexer.specs.declared.fault.SourceFault.{SourceFault}
use Rattle.om_scope_rules.specs.Faults.{breach_if, with_breach, goes_first, perhaps_with}

pub front : {X : Type 0} (xs ys : List X) → xs ++ ys ≡ [] → xs ≡ []
front [] ys e = refl
front (x ∷ xs) ys e = cc

pub back : {X : Type 0} (xs ys : List X) → xs ++ ys ≡ [] → ys ≡ []
back [] ys e = e
back (x ∷ xs) ys e = cc

pub not_broken : (broken : Bool) (code : FaultCode) (at : ℕ) → breach_if broken code at ≡ [] → broken ≡ false
not_broken true code at e = cc
not_broken false code at e = refl

never_with : (b : SourceFault) (breaches : List SourceFault) → with_breach b breaches ≡ [] → ⊥
never_with b [] e = cc
never_with b (breach ∷ breaches) e = by (goes_first breach b) e
  where
    by : (test : Bool) → cond test (breach ∷ with_breach b breaches) (b ∷ breach ∷ breaches) ≡ [] → ⊥
    by true f = cc
    by false f = cc

-- none further, and none among others
pub not_placed : (broken : Bool) (code : FaultCode) (at : ℕ) (breaches : List SourceFault) → perhaps_with broken
    code at breaches ≡ [] → breaches ≡ []
not_placed true code at breaches e = absurd (never_with (record { code = code; at = at }) breaches e)
not_placed false code at breaches e = e

pub never_placed : (code : FaultCode) (at : ℕ) (breaches : List SourceFault)
    → with_breach (record { code = code; at = at }) breaches ≡ [] → ⊥
never_placed code at breaches e = never_with (record { code = code; at = at }) breaches e

-- what one test decides of two
pub by_test : {A B : Type 0} (test : Bool) (P : A → B → Type 0) (a b : A) (x y : B) → P a x → P b y
    → P (cond test a b) (cond test x y)
by_test true P a b x y h g = h
by_test false P a b x y h g = g

-- the same where the cases know the answer
pub by_cases : {A B : Type 0} (test : Bool) (P : A → B → Type 0) (a b : A) (x y : B) → (test ≡ true → P a x)
    → (test ≡ false → P b y) → P (cond test a b) (cond test x y)
by_cases true P a b x y h g = h refl
by_cases false P a b x y h g = g refl

pub left_false : (a b : Bool) → (a || b) ≡ false → a ≡ false
left_false true b e = cc
left_false false b e = refl

pub right_false : (a b : Bool) → (a || b) ≡ false → b ≡ false
right_false true b e = cc
right_false false b e = e

pub fails : (a : Bool) → not a ≡ true → a ≡ false
fails true e = cc
fails false e = refl

pub not_false : (a : Bool) → not a ≡ false → a ≡ true
not_false true e = refl
not_false false e = cc
