-- No two locks have one name, and each directive has the lock of its name: their table has each name once.
use Rattle.std.proofs.Common.{◌≡◌, ℕ, zero, suc, Bool, true, false, List, [], ◌∷◌, ◌++◌, Some, refl, sym, ap, ◌∙◌}
use Rattle.std.specs.Prelude.{slice_get, fold, ◌||◌, if◌then◌else◌}
use Rattle.std.specs.List.{list_any}
use Rattle.std.specs.Str.{bytes_eq}
use Rattle.std.proofs.lemmas.List.Folds.{list_any-append}
use Rattle.std.proofs.lemmas.Slice.Eq.{bytes_eq-Decides}
use Rattle.om_lower_rules.specs.Mentions.{lock_mention, lock_name, locks_of, tree_mentioned}
use Rattle.om_lower_rules.specs.Tables.{number_in, with_sight}
use Rattle.om_lower_laws.specs.LockLaws.{DirectivesHaveLocks, LocksDiffer}
use Rattle.om_lower_laws.proofs.Tables.{fold_keeps, neither, number_found, sight_new}

-- each once
abbrev AreApart : List (List ℕ) → Type 0
AreApart [] = Unit {0}
AreApart (x ∷ xs) = (list_any (bytes_eq x) xs ≡ false) × AreApart xs

same_bytes : (x y : List ℕ) → bytes_eq x y ≡ true → x ≡ y
same_bytes x y e = (bytes_eq-Decides x y).0 e

equal_bytes : (x y : List ℕ) → x ≡ y → bytes_eq x y ≡ true
equal_bytes x y e = (bytes_eq-Decides x y).1 e

differs : (x y : List ℕ) → bytes_eq x y ≡ false → bytes_eq y x ≡ false
differs x y e = by (bytes_eq y x) refl
  where
    by : (b : Bool) → bytes_eq y x ≡ b → b ≡ false
    by true same = let no : true ≡ false = sym (equal_bytes x y (sym (same_bytes y x same))) ∙ e in cc
    by false same = refl

-- one that is not there yet is behind them
pushed_apart : (xs : List (List ℕ)) (x : List ℕ) → list_any (bytes_eq x) xs ≡ false → AreApart xs
    → AreApart (xs ++ x ∷ [])
pushed_apart [] x e h = (refl, tt)
pushed_apart (y ∷ ys) x e h =
    let apart = neither (bytes_eq x y) (list_any (bytes_eq x) ys) e in (
      list_any-append (bytes_eq y) ys (x ∷ []) ∙ ap (λ z. z || (bytes_eq y x || false)) h.0
          ∙ ap (λ z. z || false) (differs x y apart.0),
      pushed_apart ys x apart.1 h.1,
    )

sight_apart : (found : List (List ℕ)) (x : List ℕ) → AreApart found → AreApart (with_sight bytes_eq found x)
sight_apart found x h = new (list_any (bytes_eq x) found) refl
  where
    new : (b : Bool) → list_any (bytes_eq x) found ≡ b → AreApart (if b then found else found ++ x ∷ [])
    new true e = h
    new false e = pushed_apart found x e h

fold_apart : (xs found : List (List ℕ)) → AreApart found → AreApart (fold (with_sight bytes_eq) found xs)
fold_apart [] found h = h
fold_apart (x ∷ xs) found h = fold_apart xs (with_sight bytes_eq found x) (sight_apart found x h)

-- what stands at a place of a list is in it
found_at : (xs : List (List ℕ)) (k : ℕ) (x : List ℕ) → slice_get xs k ≡ Some x → list_any (bytes_eq x) xs ≡ true
found_at [] k x e = absurd cc
found_at (y ∷ ys) zero x e =
    let same : y ≡ x = cc e in ap (λ b. b || list_any (bytes_eq x) ys) (equal_bytes x y (sym same))
found_at (y ∷ ys) (suc k) x e = either (bytes_eq x y) (found_at ys k x e)
  where
    either : (b : Bool) → list_any (bytes_eq x) ys ≡ true → (b || list_any (bytes_eq x) ys) ≡ true
    either true e = refl
    either false e = e

twice : (y x : List ℕ) (ys : List (List ℕ)) (j : ℕ) → list_any (bytes_eq y) ys ≡ false → Some y ≡ Some x
    → slice_get ys j ≡ Some x → ⊥
twice y x ys j h e g =
    let same : x ≡ y = cc e in
    let no : true ≡ false = sym (found_at ys j x g) ∙ ap (λ z. list_any (bytes_eq z) ys) same ∙ h in cc

one_place : (xs : List (List ℕ)) (i j : ℕ) (x : List ℕ) → AreApart xs → slice_get xs i ≡ Some x
    → slice_get xs j ≡ Some x → i ≡ j
one_place [] i j x h e g = absurd cc
one_place (y ∷ ys) zero zero x h e g = refl
one_place (y ∷ ys) zero (suc j) x h e g = absurd (twice y x ys j h.0 e g)
one_place (y ∷ ys) (suc i) zero x h e g = absurd (twice y x ys i h.0 g e)
one_place (y ∷ ys) (suc i) (suc j) x h e g = ap (λ n. suc n) (one_place ys i j x h.1 e g)

pub locks_differ : LocksDiffer
locks_differ tree raw i j name code e g =
    one_place (locks_of tree) i j name (fold_apart (tree_mentioned lock_mention tree) [] tt)
    (ap (λ locks. slice_get locks i) (sym code.locks) ∙ e) (ap (λ locks. slice_get locks j) (sym code.locks) ∙ g)

-- ---- each name is there

name_found : (xs found : List (List ℕ)) (k : ℕ) (x : List ℕ) → slice_get xs k ≡ Some x
    → list_any (bytes_eq x) (fold (with_sight bytes_eq) found xs) ≡ true
name_found [] found k x e = absurd cc
name_found (y ∷ ys) found zero x e =
    let same : y ≡ x = cc e in
    fold_keeps bytes_eq (bytes_eq x) ys (with_sight bytes_eq found y)
    (ap (λ z. list_any (bytes_eq z) (with_sight bytes_eq found y)) (sym same)
    ∙ sight_new bytes_eq found y (equal_bytes y y refl))
name_found (y ∷ ys) found (suc k) x e = name_found ys (with_sight bytes_eq found y) k x e

pub directives_have_locks : DirectivesHaveLocks
directives_have_locks tree raw b body k name code e =
    ap (λ locks. slice_get locks (number_in (bytes_eq (lock_name name)) (locks_of tree))) code.locks
    ∙ number_found bytes_eq same_bytes (lock_name name) (locks_of tree)
    (name_found (tree_mentioned lock_mention tree) [] k (lock_name name) e)
