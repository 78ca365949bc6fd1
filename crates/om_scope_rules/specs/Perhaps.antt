-- Going on with what there is.
use Rattle.std.specs.Prelude.{List, [], ◌∷◌, ◌++◌, Option, None, Some}

infixl 10 ◌>>=◌
abbrev pub ◌>>=◌ : {A B : Type 0} → Option A → (A → Option B) → Option B
(Some x) >>= f = f x
None >>= f = None

-- of what may be left out
abbrev pub perhaps : {A B : Type 0} → (A → Option B) → Option A → Option (Option B)
perhaps f None = Some None
perhaps f (Some x) = f x >>= λ y. Some (Some y)

-- of each
abbrev pub each : {A B : Type 0} → (A → Option B) → List A → Option (List B)
each f [] = Some []
each f (x ∷ xs) = do
  y ← f x
  ys ← each f xs
  Some (y ∷ ys)

-- of parts in a row, each in the state behind those before it
abbrev pub each_along : {S X Y : Type 0} → (S → X → Option Y) → (S → X → S) → S → List X → Option (List Y)
each_along f after state [] = Some []
each_along f after state (x ∷ xs) = do
  y ← f state x
  ys ← each_along f after (after state x) xs
  Some (y ∷ ys)

-- all that each of them gives
abbrev pub all_of : {A B : Type 0} → (A → Option (List B)) → List A → Option (List B)
all_of f [] = Some []
all_of f (x ∷ xs) = do
  front ← f x
  rest ← all_of f xs
  Some (front ++ rest)

-- all that parts in a row give, each in the state behind those before it
abbrev pub all_along : {S X Y : Type 0} → (S → X → Option (List Y)) → (S → X → S) → S → List X → Option (List Y)
all_along f after state [] = Some []
all_along f after state (x ∷ xs) = do
  front ← f state x
  rest ← all_along f after (after state x) xs
  Some (front ++ rest)
