-- The least name of a kind behind another one is the first in the list of all that is behind it: matter of proofs,
-- for the crates that walk along such a list too.
use Rattle.std.proofs.Common.{◌≡◌, refl, sym, ◌∙◌, ap, subst, Bool, true, false, cond, Option, None, Some, List, [], ◌∷◌}
use Rattle.std.proofs.Common.{ℕ, ⊎_elim, ◌⊎◌, inl, inr, arith}
use Rattle.std.specs.Prelude.{Contains, IfSome, slice_get}
use Rattle.std.specs.List.{AllByRecursion}
use Rattle.std.specs.List.Sorted.{IsStrictlySortedBy}
use Rattle.std.specs.Ordering.{nat_cmp, is_lt, is_le, is_eq, ordering_reverse}
use Rattle.std.specs.declared.cmp.Ordering.{Ordering}
use Rattle.std.specs.declared.cmp.Ordering.TheVariants.{Less, Equal, Greater}
use Rattle.std.specs.Cmp.Lexicographic.{slice_cmp, texts_ties, nat_list_cmp_total}
use Rattle.std.proofs.lemmas.List.Elements.{Contains-append_left, Contains-append_right, Contains-append_cases}
use Rattle.std.proofs.lemmas.List.Elements.{Contains-push, Contains-push_cases}
use Rattle.om_foot.specs.Below.{same_list}
use Rattle.om_state.specs.Ready.{AreAll, IsNext, is_behind, is_from, names_behind, first_behind}

abbrev compare : List ℕ → List ℕ → Ordering
compare = slice_cmp nat_cmp

never : {A : Type 0} → false ≡ true → A
never e = cc

-- names in their order

equal_itself : (n : List ℕ) → is_eq (compare n n) ≡ true
equal_itself n = sym (texts_ties n n) ∙ (same_list n n).1 refl

equal_names : (m n : List ℕ) → is_eq (compare m n) ≡ true → m ≡ n
equal_names m n h = (same_list m n).0 (texts_ties m n ∙ h)

from_equal : (o : Ordering) → is_eq o ≡ true → is_le o ≡ true
from_equal Equal h = refl
from_equal Less h = cc
from_equal Greater h = cc

not_less_equal : (o : Ordering) → is_eq o ≡ true → is_lt o ≡ false
not_less_equal Equal h = refl
not_less_equal Less h = cc
not_less_equal Greater h = cc

both_from : (o p : Ordering) → o ≡ ordering_reverse p → is_le o ≡ true → is_le p ≡ true → is_eq o ≡ true
both_from Equal p same h g = refl
both_from Less Greater same h g = cc
both_from Less Less same h g = cc
both_from Less Equal same h g = cc
both_from Greater p same h g = cc

less_back : (o p : Ordering) → o ≡ ordering_reverse p → p ≡ Less → is_lt o ≡ false
less_back o Less same h = ap is_lt same
less_back o Equal same h = cc
less_back o Greater same h = cc

is_less : (o : Ordering) → is_lt o ≡ true → o ≡ Less
is_less Less h = refl
is_less Equal h = cc
is_less Greater h = cc

-- a list with an element in front

Contains-cases : (x : List ℕ) (xs : List (List ℕ)) (y : List ℕ) → Contains (x ∷ xs) y → (x ≡ y) ⊎ Contains xs y
Contains-cases x xs y h = ⊎_elim
    (λ one. ⊎_elim (λ none. absurd (omega (arith, none.1))) (λ is. inl is) (Contains-push_cases [] x y one))
    (λ rest. inr rest) (Contains-append_cases (x ∷ []) xs y h)

Contains-first : (x : List ℕ) (xs : List (List ℕ)) → Contains (x ∷ xs) x
Contains-first x xs = Contains-append_left (x ∷ []) xs x (Contains-push [] x)

Contains-rest : (x : List ℕ) (xs : List (List ℕ)) (y : List ℕ) → Contains xs y → Contains (x ∷ xs) y
Contains-rest x xs y h = Contains-append_right (x ∷ []) xs y h

abbrev Above : List ℕ → List (List ℕ) → Type 0
Above x xs = AllByRecursion (λ z. compare x z ≡ Less) xs

above_member : (x : List ℕ) (xs : List (List ℕ)) (y : List ℕ) → Above x xs → Contains xs y → compare x y ≡ Less
above_member x [] y h at = absurd (omega (arith, at.1))
above_member x (z ∷ zs) y h at =
    ⊎_elim (λ is. subst (λ w. compare x w ≡ Less) is h.0) (λ rest. above_member x zs y h.1 rest)
    (Contains-cases z zs y at)

-- the first name behind another one is a member behind it

abbrev Behind : Option (List ℕ) → List ℕ → Type 0
Behind after n = is_behind after n ≡ true

first_is : (after : Option (List ℕ)) (names : List (List ℕ)) (P : List ℕ → Type 0)
    → ((n : List ℕ) → Contains names n → Behind after n → P n) → IfSome (first_behind after names) P
first_is after [] P h = tt
first_is after (x ∷ xs) P h = go (is_behind after x) refl (first_is after xs P (λ n at. h n (Contains-rest x xs n at)))
  where
    go : (b : Bool) → is_behind after x ≡ b → IfSome (first_behind after xs) P
        → IfSome (slice_get (cond b (x ∷ names_behind after xs) (names_behind after xs)) 0) P
    go true is rest = h x (Contains-first x xs) is
    go false is rest = rest

-- no member behind it is before the first one

first_from : (after : Option (List ℕ)) (names : List (List ℕ)) → IsStrictlySortedBy (slice_cmp nat_cmp) names
    → (n : List ℕ) → Contains names n → Behind after n → is_from (first_behind after names) n ≡ true
unfolding IsStrictlySortedBy
first_from after [] sorted n at behind = absurd (omega (arith, at.1))
first_from after (x ∷ xs) sorted n at behind =
    go (is_behind after x) refl (λ rest. first_from after xs sorted.1 n rest behind) (Contains-cases x xs n at)
  where
    go : (b : Bool) → is_behind after x ≡ b → (Contains xs n → is_from (first_behind after xs) n ≡ true)
        → (x ≡ n) ⊎ Contains xs n
        → is_from (slice_get (cond b (x ∷ names_behind after xs) (names_behind after xs)) 0) n ≡ true
    go true is further (inl same) =
        from_equal (compare x n) (ap (λ y. is_eq (compare x y)) (sym same) ∙ equal_itself x)
    go true is further (inr rest) = ap is_le (above_member x xs n sorted.0 rest)
    go false is further (inl same) = never (sym is ∙ ap (is_behind after) same ∙ behind)
    go false is further (inr rest) = further rest

pub next_of_all : (is : List ℕ → Bool) (names : List (List ℕ)) → AreAll is names → (after : Option (List ℕ))
    → IsNext is after (first_behind after names)
next_of_all is names all after = record {
  found = first_is after names _ (λ n at behind. (behind, (all.members n).0 at));
  least = λ n behind there. first_from after names all.ascending n ((all.members n).1 there) behind;
}

-- there is one such name

pub one_next : (is : List ℕ → Bool) (after found other : Option (List ℕ)) → IsNext is after found
    → IsNext is after other → found ≡ other
one_next is after None None h g = refl
one_next is after None (Some n) h g = let no : false ≡ true = h.least n g.found.0 g.found.1 in cc
one_next is after (Some m) None h g = let no : false ≡ true = g.least m h.found.0 h.found.1 in cc
one_next is after (Some m) (Some n) h g = ap Some (equal_names m n
    (both_from (compare m n) (compare n m) (nat_list_cmp_total.antisymm m n) (h.least n g.found.0 g.found.1)
    (g.least m h.found.0 h.found.1)))

-- a walk along the list, from each name to the first one behind it

pub behind_all : (names : List (List ℕ)) → names_behind None names ≡ names
behind_all [] = refl
behind_all (x ∷ xs) = ap (λ ys. x ∷ ys) (behind_all xs)

pub behind_none : (after : Option (List ℕ)) (names : List (List ℕ)) → first_behind after names ≡ None
    → names_behind after names ≡ []
behind_none after names none = go (names_behind after names) none
  where
    go : (xs : List (List ℕ)) → slice_get xs 0 ≡ None → xs ≡ []
    go [] e = refl
    go (x ∷ xs) e = cc

-- all that is above a name is behind what each name above it is behind
above_behind : (after : Option (List ℕ)) (x : List ℕ) (xs : List (List ℕ))
    → ((y : List ℕ) → compare x y ≡ Less → Behind after y) → Above x xs → names_behind after xs ≡ xs
above_behind after x [] further above = refl
above_behind after x (y ∷ ys) further above =
    ap (λ b. cond b (y ∷ names_behind after ys) (names_behind after ys)) (further y above.0)
    ∙ ap (λ zs. y ∷ zs) (above_behind after x ys further above.1)

further_behind : (after : Option (List ℕ)) (x : List ℕ) → Behind after x → (y : List ℕ) → compare x y ≡ Less
    → Behind after y
further_behind None x h y e = refl
further_behind (Some a) x h y e = ap is_lt (nat_list_cmp_total.trans a x y (is_less (compare a x) h) e)

-- of a list that ascends, a member alone is not behind itself
at_front : (n x : List ℕ) (xs : List (List ℕ)) → is_lt (compare n x) ≡ false
    → names_behind (Some n) (x ∷ xs) ≡ names_behind (Some n) xs
at_front n x xs not_behind = ap (λ b. cond b (x ∷ names_behind (Some n) xs) (names_behind (Some n) xs)) not_behind

pub behind_next : (after : Option (List ℕ)) (names : List (List ℕ)) → IsStrictlySortedBy (slice_cmp nat_cmp) names
    → (n : List ℕ) → first_behind after names ≡ Some n → names_behind after names ≡ n ∷ names_behind (Some n) names
unfolding IsStrictlySortedBy
behind_next after [] sorted n first = cc
behind_next after (x ∷ xs) sorted n first =
    go (is_behind after x) refl first (λ found. behind_next after xs sorted.1 n found)
  where
    member : IfSome (first_behind after xs) (λ m. Contains xs m) → first_behind after xs ≡ Some n → Contains xs n
    member there is = subst (λ o. IfSome o (λ m. Contains xs m)) is there

    some : {a b : List ℕ} → Some a ≡ Some b → a ≡ b
    some e = cc

    here : Behind after x → x ∷ names_behind after xs ≡ x ∷ names_behind (Some x) (x ∷ xs)
    here is = ap (λ zs. x ∷ zs) (above_behind after x xs (further_behind after x is) sorted.0
        ∙ sym (above_behind (Some x) x xs (λ y e. ap is_lt e) sorted.0)
        ∙ sym (at_front x x xs (not_less_equal (compare x x) (equal_itself x))))

    go : (b : Bool) → is_behind after x ≡ b
        → slice_get (cond b (x ∷ names_behind after xs) (names_behind after xs)) 0 ≡ Some n
        → (first_behind after xs ≡ Some n → names_behind after xs ≡ n ∷ names_behind (Some n) xs)
        → cond b (x ∷ names_behind after xs) (names_behind after xs) ≡ n ∷ names_behind (Some n) (x ∷ xs)
    go true is found rest =
        subst (λ y. x ∷ names_behind after xs ≡ y ∷ names_behind (Some y) (x ∷ xs)) (some found) (here is)
    go false is found rest = rest found
        ∙ ap (λ zs. n ∷ zs) (sym (at_front n x xs (less_back (compare n x) (compare x n)
        (nat_list_cmp_total.antisymm n x)
        (above_member x xs n sorted.0 (member (first_is after xs _ (λ m at behind. at)) found)))))
