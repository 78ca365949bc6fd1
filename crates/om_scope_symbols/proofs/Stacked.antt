-- Items that are noted for names: what is seen as further ones are noted, and forgotten again.
use Rattle.std.proofs.Common.{◌≡◌, ℕ, ◌-◌, ◌<◌, Bool, true, false, cond, List, [], ◌∷◌, ◌++◌, Option, None, Some}
use Rattle.std.proofs.Common.{take, if◌then◌else◌, length, refl, sym, ap, subst, ◌∙◌, Vec, arith}
use Rattle.std.proofs.Common.{length-append}
use Rattle.std.proofs.Math.Seq.{take-append_seam}
use Rattle.std.proofs.lemmas.Map.Text.{is_eq-slice_cmp}
use Rattle.std.proofs.lemmas.Slice.Eq.{bytes_eq-Decides}
use Rattle.std.specs.declared.alloc.Global.{Global}
use Rattle.std.specs.BTreeMap.{is_at}
use Rattle.std.specs.Cmp.Lexicographic.{slice_cmp}
use Rattle.std.specs.Map.{KeepsOthers, lookup}
use Rattle.std.specs.Option.{option_or, option_to_list}
use Rattle.std.specs.Ordering.{eq_by_cmp, nat_cmp}
use Rattle.std.specs.Prelude.{IsSome}
use Rattle.std.proofs.lemmas.Bool.{false≢true}
use Rattle.std.proofs.lemmas.List.{append-nil}
use Rattle.std.specs.Str.{bytes_eq}
use Rattle.om_scope_rules.specs.NameKeys.{at_name, at_name-changed, names_cmp}
use Rattle.om_scope_symbols.specs.Stacks.{innermost_of, seen_in, table_of, without_innermost}

-- ---- names that are equal

pub same_names : (xs ys : List ℕ) → bytes_eq xs ys ≡ true → xs ≡ ys
same_names xs ys e = (bytes_eq-Decides xs ys).0 e

pub name_itself : (xs : List ℕ) → bytes_eq xs xs ≡ true
name_itself xs = (bytes_eq-Decides xs xs).1 refl

-- ---- the last of several

pub innermost-last : {A : Type 0} (outer : List A) (item : A) → innermost_of (outer ++ item ∷ []) ≡ Some item
innermost-last [] item = refl
innermost-last (s ∷ outer) item = ap (λ found. option_or found (Some s)) (innermost-last outer item)

pub without-last : {A : Type 0} (outer : List A) (item : A) → without_innermost (outer ++ item ∷ []) ≡ outer
without-last outer item =
    let count : length (outer ++ item ∷ []) - 1 ≡ length outer = omega (arith, length-append outer (item ∷ [])) in
    ap (λ n. take n (outer ++ item ∷ [])) count ∙ take-append_seam outer (item ∷ [])

-- ---- a table

abbrev pub items_of : {A : Type 0} → Option (Vec A Global) → List A
items_of None = []
items_of (Some seen) = seen.items

pub seen-lookup : {A : Type 0} (entries : List (Vec ℕ Global × Vec A Global)) (name : List ℕ)
    → seen_in (table_of entries) name ≡ items_of (at_name name entries)
seen-lookup [] name = refl
seen-lookup (entry ∷ entries) name =
    ap (λ behind. if bytes_eq name entry.0.items then entry.1.items else behind) (seen-lookup entries name)
    ∙ by (bytes_eq name entry.0.items)
    ∙ ap (λ b. items_of (cond b (Some entry.1) (at_name name entries))) (sym (is_eq-slice_cmp name entry.0.items))
  where
    by : (b : Bool) → (if b then entry.1.items else items_of (at_name name entries))
        ≡ items_of (cond b (Some entry.1) (at_name name entries))
    by true = refl
    by false = refl

pub seen-found : {A : Type 0} (entries : List (Vec ℕ Global × Vec A Global)) (name : List ℕ) (seen : Vec A Global)
    → at_name name entries ≡ Some seen → seen_in (table_of entries) name ≡ seen.items
seen-found entries name seen found = seen-lookup entries name ∙ ap items_of found

pub seen-none : {A : Type 0} (entries : List (Vec ℕ Global × Vec A Global)) (name : List ℕ)
    → at_name name entries ≡ None → seen_in (table_of entries) name ≡ []
seen-none entries name none = seen-lookup entries name ∙ ap items_of none

pub none-left : {A : Type 0} (items : List A) → length items ≡ 0 → None ≡ innermost_of items
none-left [] empty = refl
none-left (item ∷ items) empty = absurd (omega (arith, empty))

-- what is left of a vector that gave its last
pub popped : {A : Type 0} (old new : List A) (last : Option A) → old ≡ new ++ option_to_list last
    → (0 < length old → IsSome last) → without_innermost old ≡ new
popped [] new None is some = is ∙ append-nil new
popped (item ∷ old) new None is some = absurd (false≢true (some (omega arith)))
popped old new (Some last) is some = ap without_innermost is ∙ without-last new last

-- in a table that has another vector at a name, the items of this name change so, and those of the others stay
pub seen-changed : {A : Type 0} (change : List A → List A) (old new : List (Vec ℕ Global × Vec A Global))
    (name : List ℕ) (now : Vec A Global) (other : List ℕ) → now.items ≡ change (seen_in (table_of old) name)
    → at_name name new ≡ Some now
    → KeepsOthers (eq_by_cmp names_cmp) (is_at (λ key. slice_cmp nat_cmp name key.items)) old new
    → seen_in (table_of new) other
    ≡ (if bytes_eq other name then change (seen_in (table_of old) other) else seen_in (table_of old) other)
seen-changed change old new name now other changed put keeps =
    seen-lookup new other
    ∙ ap items_of (at_name-changed old new name now put keeps other)
    ∙ by (bytes_eq other name) refl
  where
    by : (b : Bool) → bytes_eq other name ≡ b → items_of (cond b (Some now) (at_name other old))
        ≡ (if b then change (seen_in (table_of old) other) else seen_in (table_of old) other)
    by true e = changed ∙ ap (λ n. change (seen_in (table_of old) n)) (sym (same_names other name e))
    by false e = sym (seen-lookup old other)

-- as the vector at this name does
pub seen-write : {A : Type 0} (change : List A → List A) (old new : List (Vec ℕ Global × Vec A Global))
    (name : List ℕ) (seen now : Vec A Global) (other : List ℕ) → at_name name old ≡ Some seen
    → now.items ≡ change seen.items → at_name name new ≡ Some now
    → KeepsOthers (eq_by_cmp names_cmp) (is_at (λ key. slice_cmp nat_cmp name key.items)) old new
    → seen_in (table_of new) other
    ≡ (if bytes_eq other name then change (seen_in (table_of old) other) else seen_in (table_of old) other)
seen-write change old new name seen now other found changed =
    seen-changed change old new name now other (changed ∙ ap change (sym (seen-found old name seen found)))

-- or stays
pub seen-kept : {A : Type 0} (old new : List (Vec ℕ Global × Vec A Global)) (name : List ℕ) (seen now : Vec A Global)
    (other : List ℕ) → at_name name old ≡ Some seen → now.items ≡ seen.items → at_name name new ≡ Some now
    → KeepsOthers (eq_by_cmp names_cmp) (is_at (λ key. slice_cmp nat_cmp name key.items)) old new
    → seen_in (table_of new) other ≡ seen_in (table_of old) other
seen-kept old new name seen now other found kept put keeps =
    seen-write (λ items. items) old new name seen now other found kept put keeps ∙ by (bytes_eq other name)
  where
    by : (b : Bool) → (if b then seen_in (table_of old) other else seen_in (table_of old) other)
        ≡ seen_in (table_of old) other
    by true = refl
    by false = refl

-- a name that is not there has none that could go
pub seen-absent : {A : Type 0} (entries : List (Vec ℕ Global × Vec A Global)) (name other : List ℕ)
    → at_name name entries ≡ None
    → seen_in (table_of entries) other
    ≡ (if bytes_eq other name then without_innermost (seen_in (table_of entries) other) else seen_in
    (table_of entries) other)
seen-absent entries name other none = by (bytes_eq other name) refl
  where
    by : (b : Bool) → bytes_eq other name ≡ b → seen_in (table_of entries) other
        ≡ (if b then without_innermost (seen_in (table_of entries) other) else seen_in (table_of entries) other)
    by true e = let empty = ap (λ n. seen_in (table_of entries) n) (same_names other name e) ∙ seen-none entries
        name none in empty ∙ ap without_innermost (sym empty)
    by false e = refl

-- the first of a new name
pub seen-first : {A : Type 0} (before old new : List (Vec ℕ Global × Vec A Global)) (key : Vec ℕ Global)
    (name : List ℕ) (seen : Vec A Global) (item : A) (other : List ℕ) → old ≡ before → key.items ≡ name
    → at_name name before ≡ None → seen.items ≡ item ∷ [] → lookup (is_at (names_cmp key)) new ≡ Some seen
    → KeepsOthers (eq_by_cmp names_cmp) (is_at (names_cmp key)) old new
    → seen_in (table_of new) other
    ≡ (if bytes_eq other name then seen_in (table_of before) other ++ item ∷ [] else seen_in (table_of before) other)
seen-first before old new key name seen item other kept same none first put keeps =
    seen-changed (λ items. items ++ item ∷ []) before new key.items seen other
    (first ∙ ap (λ items. items ++ item ∷ []) (sym (ap (λ n. seen_in (table_of before) n) same
    ∙ seen-none before name none)))
    put (subst (λ es. KeepsOthers (eq_by_cmp names_cmp) (is_at (names_cmp key)) es new) kept keeps)
    ∙ ap (λ n. if bytes_eq other n then seen_in (table_of before) other ++ item ∷ [] else seen_in (table_of before)
    other) same
