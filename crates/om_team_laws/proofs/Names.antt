-- Names that begin with other names.
use Rattle.std.proofs.Common.{◌≡◌, refl, sym, ◌∙◌, ap, ℕ, arith, List, [], ◌∷◌, ◌++◌, length, ◌⊎◌, inl, inr}
use Rattle.std.proofs.Common.{append_assoc, length-append}
use Rattle.om_team_laws.specs.Tasks.{StartsWith}

pub nothing_behind : (xs : List ℕ) → xs ++ [] ≡ xs
nothing_behind [] = refl
nothing_behind (x ∷ xs) = ap (λ z. x ∷ z) (nothing_behind xs)

-- no name stands below itself
pub not_below_itself : (xs rest : List ℕ) (x : ℕ) → xs ≡ xs ++ x ∷ rest → ⊥
not_below_itself xs rest x e =
    let long = ap length e in
    let sum = length-append xs (x ∷ rest) in
    absurd (omega (arith, long, sum))

-- a name with a number behind it, and what it begins with
pub split_last : (xs front : List ℕ) (y k : ℕ) (rest : List ℕ) → xs ++ y ∷ [] ≡ front ++ k ∷ rest
    → ((xs ≡ front) × (y ≡ k)) ⊎ ((more : List ℕ) × (xs ≡ front ++ k ∷ more))
split_last [] [] y k rest e = let same : y ≡ k = cc e in inl (refl, same)
split_last [] (f ∷ front) y k rest e =
    let tails : [] ≡ front ++ k ∷ rest = cc e in
    let long = ap length tails in
    let sum = length-append front (k ∷ rest) in
    absurd (omega (arith, long, sum))
split_last (x ∷ xs) [] y k rest e = let same : x ≡ k = cc e in inr (xs, ap (λ z. z ∷ xs) same)
split_last (x ∷ xs) (f ∷ front) y k rest e =
    let heads : x ≡ f = cc e in
    let tails : xs ++ y ∷ [] ≡ front ++ k ∷ rest = cc e in
    by heads (split_last xs front y k rest tails)
  where
    by : x ≡ f → ((xs ≡ front) × (y ≡ k)) ⊎ ((more : List ℕ) × (xs ≡ front ++ k ∷ more))
        → ((x ∷ xs ≡ f ∷ front) × (y ≡ k)) ⊎ ((more : List ℕ) × (x ∷ xs ≡ f ∷ front ++ k ∷ more))
    by h (inl both) = inl (ap (λ z. z ∷ xs) h ∙ ap (λ z. f ∷ z) both.0, both.1)
    by h (inr more) = inr (more.0, ap (λ z. z ∷ xs) h ∙ ap (λ z. f ∷ z) more.1)

pub split_end : (xs front rest : List ℕ) (y : ℕ) → xs ++ y ∷ [] ≡ front ++ rest
    → (front ≡ xs ++ y ∷ []) ⊎ StartsWith xs front
split_end xs front [] y e = inl (sym (nothing_behind front) ∙ sym e)
split_end xs front (r ∷ rest) y e = by (split_last xs front y r rest e)
  where
    by : ((xs ≡ front) × (y ≡ r)) ⊎ ((more : List ℕ) × (xs ≡ front ++ r ∷ more))
        → (front ≡ xs ++ y ∷ []) ⊎ StartsWith xs front
    by (inl both) = inr ([], both.0 ∙ sym (nothing_behind front))
    by (inr more) = inr (r ∷ more.0, more.1)

pub starts_itself : (xs : List ℕ) → StartsWith xs xs
starts_itself xs = ([], sym (nothing_behind xs))

-- what begins with a longer name begins with its front
pub starts_front : (name front more : List ℕ) → StartsWith name (front ++ more) → StartsWith name front
starts_front name front more h = (more ++ h.0, h.1 ∙ append_assoc front more h.0)

pub same_starts : (a b c d : List ℕ) → a ≡ b → c ≡ d → StartsWith a c → StartsWith b d
same_starts a b c d e f h = (h.0, sym e ∙ h.1 ∙ ap (λ z. z ++ h.0) f)
