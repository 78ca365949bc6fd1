-- What is true of all that steps give of which each may give nothing.
use Rattle.std.proofs.Common.{◌≡◌, Bool, true, false, cond, List, [], ◌∷◌, All, Option, None, Some, subst}
use Rattle.std.specs.Prelude.{IfSome, IsSome, IsSomeAnd}
use Rattle.std.specs.Option.{option_or}
use Rattle.std.proofs.lemmas.List.Elements.{All-nil, All-cons, All-append}
use Rattle.om_scope_rules.specs.Perhaps.{◌>>=◌, each, each_along, all_of}

-- of the step behind one
pub if_then : {A B : Type 0} (P : A → Type 0) (Q : B → Type 0) (o : Option A) (f : A → Option B) → IfSome o P
    → ((x : A) → P x → IfSome (f x) Q) → IfSome (o >>= f) Q
if_then P Q None f h next = tt
if_then P Q (Some x) f h next = next x h

-- two at once
pub if_both : {A : Type 0} (P Q : A → Type 0) (o : Option A) → IfSome o P → IfSome o Q → IfSome o (λ x. P x × Q x)
if_both P Q None hp hq = tt
if_both P Q (Some x) hp hq = (hp, hq)

-- three at once
pub if_three : {A : Type 0} (P Q R : A → Type 0) (o : Option A) → IfSome o P → IfSome o Q → IfSome o R
    → IfSome o (λ x. P x × Q x × R x)
if_three P Q R None hp hq hr = tt
if_three P Q R (Some x) hp hq hr = (hp, hq, hr)

-- there is one, and of it
pub there_and : {A : Type 0} (P : A → Type 0) (o : Option A) → IsSome o → IfSome o P → IsSomeAnd o P
there_and P None there h = cc
there_and P (Some x) there h = h

-- of whatever is given
pub if_any : {A : Type 0} (o : Option A) → IfSome o (λ x. Unit {0})
if_any None = tt
if_any (Some x) = tt

-- of one of two
pub if_either : {A : Type 0} (P : A → Type 0) (test : Bool) (x y : A) → P x → P y → P (cond test x y)
if_either P true x y hx hy = hx
if_either P false x y hx hy = hy

pub if_first : {A : Type 0} (P : A → Type 0) (x y : Option A) → IfSome x P → IfSome y P → IfSome (option_or x y) P
if_first P None y hx hy = hy
if_first P (Some x) y hx hy = hx

-- of what is given
pub if_given : {A : Type 0} (P : A → Type 0) (o : Option A) (x : A) → IfSome o P → o ≡ Some x → P x
if_given P None x h e = cc
if_given P (Some y) x h e = let same : y ≡ x = cc in subst P same h

-- of all of several
pub if_each : {A B : Type 0} (P : B → Type 0) (f : A → Option B) → ((x : A) → IfSome (f x) P) → (xs : List A)
    → IfSome (each f xs) (All P)
if_each P f one [] = All-nil P
if_each P f one (x ∷ xs) = if_then P (All P) (f x) _ (one x) (λ y h. if_then (All P) (All P) (each f xs) _
    (if_each P f one xs) (λ ys hs. All-cons P y ys h hs))

pub if_all_of : {A B : Type 0} (P : B → Type 0) (f : A → Option (List B)) → ((x : A) → IfSome (f x) (All P))
    → (xs : List A) → IfSome (all_of f xs) (All P)
if_all_of P f one [] = All-nil P
if_all_of P f one (x ∷ xs) = if_then (All P) (All P) (f x) _ (one x) (λ ys h. if_then (All P) (All P) (all_of f xs)
    _ (if_all_of P f one xs) (λ zs hs. All-append P ys zs h hs))

-- of several in a row, where each keeps what is true of the state
module _ {S X Y : Type 0} (Good : S → Type 0) (P : Y → Type 0) (after : S → X → S) (keeps : (state : S) (x : X)
    → Good state → Good (after state x)) where
  pub if_each_along : (f : S → X → Option Y) → ((state : S) (x : X) → Good state → IfSome (f state x) P)
      → (xs : List X) (state : S) → Good state → IfSome (each_along f after state xs) (All P)
  if_each_along f one [] state good = All-nil P
  if_each_along f one (x ∷ xs) state good =
      if_then P (All P) (f state x) _ (one state x good)
      (λ y h. if_then (All P) (All P) (each_along f after (after state x) xs) _
      (if_each_along f one xs (after state x) (keeps state x good)) (λ ys hs. All-cons P y ys h hs))
