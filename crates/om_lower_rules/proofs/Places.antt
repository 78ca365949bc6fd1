-- The number of a thing in a table.
use Rattle.std.proofs.Common.{◌≡◌, ◌≤◌, ℕ, ◌+◌, Bool, true, false, not, ◌||◌, cond, None, Some, List, [], ◌∷◌, ◌++◌}
use Rattle.std.proofs.Common.{length, map, nat_lt, refl, sym, ap, subst, arith, ◌∙◌, if◌then◌else◌, Vec}
use Rattle.std.specs.declared.alloc.Global.{Global}
use Rattle.std.proofs.lemmas.List.{map-append}
use Rattle.std.proofs.lemmas.List.Sums.{prefix_len-le-length}
use Rattle.std.specs.List.{list_any, position, prefix_len}
use Rattle.std.specs.Option.{unwrap_or}
use Rattle.std.specs.Str.{bytes_eq}
use Rattle.om_lower_rules.specs.Tables.{number_in, with_sight}

number_next : (found : Bool) (n m : ℕ) → n ≡ m → (if found then 0 else n + 1) ≡ cond (not found) (1 + m) 0
number_next true n m same = refl
number_next false n m same = omega (arith, same)

-- it is how many stand before the first that passes
number_is : {A : Type 0} (is : A → Bool) (xs : List A) → number_in is xs ≡ prefix_len (λ x. not (is x)) xs
number_is is [] = refl
number_is is (x ∷ xs) = number_next (is x) _ _ (number_is is xs)

pub number_least : {A : Type 0} (is : A → Bool) (xs : List A) → number_in is xs ≤ length xs
number_least is xs = subst (λ n. n ≤ length xs) (sym (number_is is xs)) (prefix_len-le-length (λ x. not (is x)) xs)

number_before : (n m : ℕ) → n ≤ m → unwrap_or (cond (nat_lt n m) (Some n) None) m ≡ n
number_before n m le = grind arith

-- where it is found, or else behind all
pub number_found : {A : Type 0} (is : A → Bool) (xs : List A) → unwrap_or (position is xs) (length xs) ≡ number_in is xs
number_found is xs =
    number_before (prefix_len (λ x. not (is x)) xs) (length xs) (prefix_len-le-length (λ x. not (is x)) xs)
    ∙ sym (number_is is xs)

-- in the views of what is kept
pub number-map : {A B : Type 0} (is : B → Bool) (f : A → B) (xs : List A) → number_in is (map f xs)
    ≡ number_in (λ x. is (f x)) xs
number-map is f [] = refl
number-map is f (x ∷ xs) = ap (λ n. if is (f x) then 0 else n + 1) (number-map is f xs)

list_any-map : {A B : Type 0} (is : B → Bool) (f : A → B) (xs : List A) → list_any is (map f xs)
    ≡ list_any (λ x. is (f x)) xs
list_any-map is f [] = refl
list_any-map is f (x ∷ xs) = ap (λ rest. is (f x) || rest) (list_any-map is f xs)

-- the bytes of texts
abbrev pub texts_of : List (Vec ℕ Global) → List (List ℕ)
texts_of texts = map (λ text. text.items) texts

-- a text that is put into a set
pub noted_texts : (texts : List (Vec ℕ Global)) (text : Vec ℕ Global)
    → texts_of (if list_any (λ other. bytes_eq text.items other.items) texts then texts else texts ++ text ∷ [])
    ≡ with_sight bytes_eq (texts_of texts) text.items
noted_texts texts text =
    by (list_any (λ other. bytes_eq text.items other.items) texts)
    ∙ ap (λ there. if there then texts_of texts else texts_of texts ++ text.items ∷ [])
    (sym (list_any-map (bytes_eq text.items) (λ other. other.items) texts))
  where
    by : (there : Bool) → texts_of (if there then texts else texts ++ text ∷ [])
        ≡ (if there then texts_of texts else texts_of texts ++ text.items ∷ [])
    by true = refl
    by false = map-append (λ other. other.items) texts (text ∷ [])
