-- What is true of all that steps give of which each may give nothing.
use Rattle.std.proofs.Common.{◌≡◌, Bool, true, false, cond, Option, None, Some, subst}
use Rattle.std.specs.Prelude.{IfSome}
use Rattle.om_scope_rules.specs.Perhaps.{◌>>=◌}

-- of the step behind one
pub if_then : {A B : Type 0} (P : A → Type 0) (Q : B → Type 0) (o : Option A) (f : A → Option B) → IfSome o P
    → ((x : A) → P x → IfSome (f x) Q) → IfSome (o >>= f) Q
if_then P Q None f h next = tt
if_then P Q (Some x) f h next = next x h

-- of the step behind one of which nothing is known
pub if_behind : {A B : Type 0} (Q : B → Type 0) (o : Option A) (f : A → Option B) → ((x : A) → IfSome (f x) Q)
    → IfSome (o >>= f) Q
if_behind Q None f next = tt
if_behind Q (Some x) f next = next x

-- of what gives something: what follows from what is true of it
pub if_weaker : {A : Type 0} (P Q : A → Type 0) (o : Option A) → IfSome o P → ((x : A) → P x → Q x) → IfSome o Q
if_weaker P Q None h next = tt
if_weaker P Q (Some x) h next = next x h

-- of one of two
pub if_either : {A : Type 0} (P : A → Type 0) (test : Bool) (x y : A) → P x → P y → P (cond test x y)
if_either P true x y hx hy = hx
if_either P false x y hx hy = hy

-- of what is given
pub if_given : {A : Type 0} (P : A → Type 0) (o : Option A) (x : A) → IfSome o P → o ≡ Some x → P x
if_given P None x h e = cc
if_given P (Some y) x h e = let same : y ≡ x = cc in subst P same h
