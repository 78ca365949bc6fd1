-- A list of names with a map beside it, behind one more name.
use Rattle.std.proofs.Common.{◌≡◌, ◌≤◌, ℕ, suc, ◌+◌, Bool, true, false, cond, not, ◌||◌, Option, None, Some, is_some, List, []}
use Rattle.std.proofs.Common.{◌∷◌, ◌++◌, length, length-append, position, refl, sym, ap, arith, ◌∙◌, Vec, nat_eq, nat_lt}
use Rattle.std.proofs.lemmas.List.Folds.{position_or_len_push}
use Rattle.std.proofs.lemmas.List.Sums.{prefix_len-le-length}
use Rattle.std.proofs.lemmas.Map.Keys.{IsDistinct-push}
use Rattle.std.proofs.lemmas.Slice.Eq.{bytes_eq-Decides}
use Rattle.std.specs.BTreeMap.{is_at}
use Rattle.std.specs.List.{IsDistinct, list_any, position_or_len}
use Rattle.std.specs.Map.{KeepsOthers, lookup}
use Rattle.std.specs.Option.{option_or}
use Rattle.std.specs.Ordering.{eq_by_cmp}
use Rattle.std.specs.Str.{bytes_eq}
use Rattle.std.specs.declared.alloc.Global.{Global}
use Rattle.om_scope_rules.specs.NameKeys.{at_name, at_name-changed, names_cmp, same_name-equiv}
use Rattle.om_scope_rules.specs.NameLists.{ArePlaces, same_name, with_name}
use Rattle.om_scope_rules.proofs.Texts.{list_any-map, texts_of}

at_end : (n count : ℕ) (is_last : Bool) → n ≤ count
    → cond (nat_lt (cond (nat_eq n count) (count + cond is_last 0 1) n) (count + 1))
    (Some (cond (nat_eq n count) (count + cond is_last 0 1) n)) None
    ≡ option_or (cond (nat_lt n count) (Some n) None) (cond is_last (Some count) None)
at_end n count true le = grind (arith, le)
at_end n count false le = grind (arith, le)

-- where a thing is found in a list with one more
pub position-push : {A : Type 0} (is : A → Bool) (xs : List A) (x : A) → position is (xs ++ x ∷ [])
    ≡ option_or (position is xs) (cond (is x) (Some (length xs)) None)
position-push is xs x =
    ap (λ count. cond (nat_lt (position_or_len is (xs ++ x ∷ [])) count) (Some (position_or_len is (xs ++ x ∷ []))) None)
    (length-append xs (x ∷ []))
    ∙ ap (λ n. cond (nat_lt n (length xs + 1)) (Some n) None) (position_or_len_push is xs x)
    ∙ at_end (position_or_len is xs) (length xs) (is x) (prefix_len-le-length _ xs)

place_there : (n count : ℕ) → n ≤ count → is_some (cond (nat_lt n count) (Some n) None) ≡ nat_lt n count
place_there n count le = grind (arith, le)

place_before : (n count : ℕ) (is_first : Bool) → (is_first || nat_lt n count) ≡ nat_lt (cond (not is_first) (1 + n) 0) (suc count)
place_before n count true = grind arith
place_before n count false = grind arith

-- a thing that is there has a place
pub position-there : {A : Type 0} (is : A → Bool) (xs : List A) → is_some (position is xs) ≡ list_any is xs
position-there is xs = place_there (position_or_len is xs) (length xs) (prefix_len-le-length _ xs) ∙ sym (among xs)
  where
    among : (ys : List _) → list_any is ys ≡ nat_lt (position_or_len is ys) (length ys)
    among [] = refl
    among (y ∷ ys) = ap (λ rest. is y || rest) (among ys) ∙ place_before (position_or_len is ys) (length ys) (is y)

-- ---- one more name

none_there : {A : Type 0} (found : Option A) → is_some found ≡ false → found ≡ None
none_there None e = refl
none_there (Some x) e = cc

-- what a map does not have is not in the list
pub absent_name : (names : List (List ℕ)) (places : List (Vec ℕ Global × ℕ)) (name : List ℕ) → ArePlaces names places
    → is_some (at_name name places) ≡ false → list_any (bytes_eq name) names ≡ false
absent_name names places name are absent = sym (position-there (bytes_eq name) names) ∙ ap is_some (sym (are name)) ∙ absent

pub known_name : (names : List (List ℕ)) (places : List (Vec ℕ Global × ℕ)) (name : List ℕ) → ArePlaces names places
    → is_some (at_name name places) ≡ true → list_any (bytes_eq name) names ≡ true
known_name names places name are known = sym (position-there (bytes_eq name) names) ∙ ap is_some (sym (are name)) ∙ known

last_place : (same : Bool) (found : Option ℕ) (count : ℕ) → (same ≡ true → found ≡ None)
    → cond same (Some count) found ≡ option_or found (cond same (Some count) None)
last_place true None count new = refl
last_place true (Some place) count new = let broken = new refl in cc
last_place false None count new = refl
last_place false (Some place) count new = refl

-- a name that is new has the place behind all others
pub places-push : (names : List (List ℕ)) (old new : List (Vec ℕ Global × ℕ)) (key : Vec ℕ Global) (count : ℕ)
    → ArePlaces names old → list_any (bytes_eq key.items) names ≡ false → count ≡ length names
    → lookup (is_at (names_cmp key)) new ≡ Some count
    → KeepsOthers (eq_by_cmp names_cmp) (is_at (names_cmp key)) old new
    → ArePlaces (names ++ key.items ∷ []) new
places-push names old new key count are absent counted put keeps name =
    let unknown : bytes_eq name key.items ≡ true → position (bytes_eq name) names ≡ None =
    λ same. none_there _ (position-there (bytes_eq name) names
    ∙ ap (λ n. list_any (bytes_eq n) names) ((bytes_eq-Decides name key.items).0 same) ∙ absent) in
    at_name-changed old new key.items count put keeps name
    ∙ ap (λ found. cond (bytes_eq name key.items) (Some count) found) (are name)
    ∙ last_place (bytes_eq name key.items) (position (bytes_eq name) names) count unknown
    ∙ ap (λ n. option_or (position (bytes_eq name) names) (cond (bytes_eq name key.items) (Some n) None)) counted
    ∙ sym (position-push (bytes_eq name) names key.items)

pub distinct-push : (names : List (Vec ℕ Global)) (name : Vec ℕ Global) → IsDistinct same_name names
    → list_any (bytes_eq name.items) (texts_of names) ≡ false → IsDistinct same_name (names ++ name ∷ [])
distinct-push names name distinct absent = IsDistinct-push same_name-equiv names name distinct
    (sym (list_any-map (bytes_eq name.items) (λ other. other.items) names) ∙ absent)

-- ---- what is added

pub with_new : (names : List (List ℕ)) (name : List ℕ) → list_any (bytes_eq name) names ≡ false
    → names ++ name ∷ [] ≡ with_name names name
with_new names name absent = rw absent refl

pub with_known : (names : List (List ℕ)) (name : List ℕ) → list_any (bytes_eq name) names ≡ true
    → names ≡ with_name names name
with_known names name known = rw known refl
