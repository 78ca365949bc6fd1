-- Lists in two and three parts, and what is left of a list: matter of proofs, for crates that keep such lists.
use Rattle.std.proofs.Common.{◌≡◌, sym, ◌∙◌, ap, ℕ, suc, ◌+◌, ◌-◌, ◌<◌, List, ◌∷◌, ◌++◌, arith}
use Rattle.std.proofs.Common.{drop, slice_get, Some}
use Rattle.std.proofs.lemmas.List.{append_assoc, drop_more}
use Rattle.std.proofs.lemmas.Option.{get_or_from_slice_get, slice_get_within}

-- more behind the second of two parts
pub second_more : {A : Type 0} → (first second more : List A) → first ++ (second ++ more) ≡ (first ++ second) ++ more
second_more first second more = sym (append_assoc first second more)

-- the middle part is one more
pub regrouped : {A : Type 0} → (first middle last : List A) → (first ++ middle) ++ last ≡ first ++ (middle ++ last)
regrouped first middle last = append_assoc first middle last

-- all of the three parts behind what was there
pub all_behind : {A : Type 0} → (names first middle last : List A)
    → ((names ++ first) ++ middle) ++ last ≡ names ++ (first ++ (middle ++ last))
all_behind names first middle last =
    append_assoc (names ++ first) middle last ∙ append_assoc names first (middle ++ last)

-- one less is left behind one more
pub one_less : (n size : ℕ) → n < size → size - n ≡ suc (size - (n + 1))
one_less n size h = omega arith

-- a list from an item on
pub from_item : {T : Type 0} (xs : List T) (k : ℕ) (x : T) → slice_get xs k ≡ Some x → drop k xs ≡ x ∷ drop (k + 1) xs
from_item xs k x h = drop_more xs k x (slice_get_within xs k x h) ∙ ap (λ y. y ∷ drop (k + 1) xs)
    (get_or_from_slice_get xs k x x h)
