-- What is true of all that steps give of which each may give nothing, where something is true of what they are
-- given.
use Rattle.std.proofs.Common.{List, [], ◌∷◌, All, Option, None, Some}
use Rattle.std.specs.Prelude.{IfSome}
use Rattle.std.proofs.lemmas.List.Elements.{All-nil, All-cons, All-append, All-head, All-tail}
use Rattle.om_scope_rules.proofs.Steps.{if_then}
use Rattle.om_scope_rules.specs.Perhaps.{◌>>=◌, each, all_of}

-- of the step behind one of which nothing is known
pub if_behind : {A B : Type 0} (Q : B → Type 0) (o : Option A) (f : A → Option B) → ((x : A) → IfSome (f x) Q)
    → IfSome (o >>= f) Q
if_behind Q None f next = tt
if_behind Q (Some x) f next = next x

-- of what gives something: what follows from what is true of it
pub if_weaker : {A : Type 0} (P Q : A → Type 0) (o : Option A) → IfSome o P → ((x : A) → P x → Q x) → IfSome o Q
if_weaker P Q None h next = tt
if_weaker P Q (Some x) h next = next x h

-- of all of several
module _ {A B : Type 0} (P : A → Type 0) (Q : B → Type 0) where
  pub if_each : (f : A → Option B) → ((x : A) → P x → IfSome (f x) Q) → (xs : List A) → All P xs
      → IfSome (each f xs) (All Q)
  if_each f one [] h = All-nil Q
  if_each f one (x ∷ xs) h =
      if_then Q (All Q) (f x) _ (one x (All-head P x xs h)) (λ y hy.
      if_then (All Q) (All Q) (each f xs) _ (if_each f one xs (All-tail P x xs h)) (λ ys hys. All-cons Q y ys hy hys))

  pub if_all_of : (f : A → Option (List B)) → ((x : A) → P x → IfSome (f x) (All Q)) → (xs : List A) → All P xs
      → IfSome (all_of f xs) (All Q)
  if_all_of f one [] h = All-nil Q
  if_all_of f one (x ∷ xs) h =
      if_then (All Q) (All Q) (f x) _ (one x (All-head P x xs h)) (λ ys hys.
      if_then (All Q) (All Q) (all_of f xs) _ (if_all_of f one xs (All-tail P x xs h)) (λ zs hzs.
      All-append Q ys zs hys hzs))
