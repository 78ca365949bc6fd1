-- What is true of all that steps give of which each may give nothing, and of parts without a breach.
use Rattle.std.proofs.Common.{◌≡◌, ℕ, Bool, true, false, cond, List, [], ◌∷◌, ◌++◌, Option, None, Some, refl}
use Rattle.std.proofs.Common.{subst}
use Rattle.std.specs.Prelude.{IfSome, ◌||◌}
use Rattle.om_lexer.specs.declared.fault.FaultCode.{FaultCode}
use Rattle.om_lexer.specs.declared.fault.SourceFault.{SourceFault}
use Rattle.om_scope_rules.specs.Faults.{breach_if, goes_first, with_breach}
use Rattle.om_scope_rules.specs.Perhaps.{◌>>=◌}

-- of the step behind one
pub if_then : {A B : Type 0} (P : A → Type 0) (Q : B → Type 0) (o : Option A) (f : A → Option B) → IfSome o P
    → ((x : A) → P x → IfSome (f x) Q) → IfSome (o >>= f) Q
if_then P Q None f h next = tt
if_then P Q (Some x) f h next = next x h

pub if_more : {A : Type 0} (P Q : A → Type 0) (o : Option A) → ((x : A) → P x → Q x) → IfSome o P → IfSome o Q
if_more P Q None more h = tt
if_more P Q (Some x) more h = more x h

-- of whatever is given
pub if_any : {A : Type 0} (o : Option A) → IfSome o (λ x. Unit {0})
if_any None = tt
if_any (Some x) = tt

-- of what is given
pub if_given : {A : Type 0} (P : A → Type 0) (o : Option A) (x : A) → IfSome o P → o ≡ Some x → P x
if_given P None x h e = absurd cc
if_given P (Some y) x h e = let same : y ≡ x = cc e in subst P same h

-- of one of two
pub if_either : {A : Type 0} (P : A → Type 0) (test : Bool) (x y : A) → P x → P y → P (cond test x y)
if_either P true x y hx hy = hx
if_either P false x y hx hy = hy

-- the same where the cases know the answer
pub by_cases : {A B : Type 0} (test : Bool) (P : A → B → Type 0) (a b : A) (x y : B) → (test ≡ true → P a x)
    → (test ≡ false → P b y) → P (cond test a b) (cond test x y)
by_cases true P a b x y h g = h refl
by_cases false P a b x y h g = g refl

-- ---- parts without a breach

pub front : {X : Type 0} (xs ys : List X) → xs ++ ys ≡ [] → xs ≡ []
front [] ys e = refl
front (x ∷ xs) ys e = absurd cc

pub back : {X : Type 0} (xs ys : List X) → xs ++ ys ≡ [] → ys ≡ []
back [] ys e = e
back (x ∷ xs) ys e = absurd cc

pub not_broken : (broken : Bool) (code : FaultCode) (at : ℕ) → breach_if broken code at ≡ [] → broken ≡ false
not_broken true code at e = absurd cc
not_broken false code at e = refl

pub right_false : (a b : Bool) → (a || b) ≡ false → b ≡ false
right_false true b e = absurd cc
right_false false b e = e

never_with : (b : SourceFault) (breaches : List SourceFault) → with_breach b breaches ≡ [] → ⊥
never_with b [] e = cc
never_with b (breach ∷ breaches) e = by (goes_first breach b) e
  where
    by : (test : Bool) → cond test (breach ∷ with_breach b breaches) (b ∷ breach ∷ breaches) ≡ [] → ⊥
    by true f = cc
    by false f = cc

pub never_placed : (code : FaultCode) (at : ℕ) (breaches : List SourceFault)
    → with_breach (record { code = code; at = at }) breaches ≡ [] → ⊥
never_placed code at breaches e = never_with (record { code = code; at = at }) breaches e
