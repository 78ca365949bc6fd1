-- The touches of objects that lie between two cells of a slot.
use Rattle.std.proofs.Common.{◌≡◌, refl, sym, ◌∙◌, ap, subst, Bool, true, false, cond, ◌&&◌, nat_eq, nat_lt, ℕ, ◌+◌, ◌<◌, arith}
use Rattle.std.proofs.Common.{Option, None, Some, List, [], ◌∷◌, ◌⊎◌, inl, inr}
use Rattle.std.specs.Prelude.{All, filter, not}
use Rattle.std.specs.Map.{lookup}
use Rattle.std.specs.BTreeMap.{is_at}
use Rattle.std.specs.BTreeMap.Range.{entries_between, range_contains, IsLeBy}
use Rattle.std.specs.declared.ops.Bound.TheVariants.{Included, Excluded}
use Rattle.std.specs.Ordering.{is_eq, is_gt, is_le, nat_cmp, ordering_then}
use Rattle.std.specs.Cmp.Lexicographic.{pointwise, slice_cmp, texts_ties}
use Rattle.std.specs.declared.cmp.Ordering.{Ordering}
use Rattle.std.specs.declared.cmp.Ordering.TheVariants.{Less, Equal, Greater}
use Rattle.std.proofs.lemmas.Bool.Decides.{nat_tests, Decides-eqb}
use Rattle.std.proofs.lemmas.List.Elements.{All-head, All-tail}
use Rattle.om_foot.specs.Below.{same_list}
use Rattle.om_foot.specs.declared.object.Obj.{Obj}
use Rattle.om_foot.specs.declared.object.Obj.TheVariants as object
use Rattle.om_foot.specs.declared.footprint.Mode.{Mode}
use Rattle.om_foot.specs.declared.footprint.Mode.TheVariants.{Read, Write, Add}
use Rattle.om_foot.specs.Footprint.{obj_eq}
use Rattle.om_foot.specs.Objects.{obj_eq-true, obj_eq-same, lookup-is_at}
use Rattle.om_foot.specs.contracts.object.ObjOrd.TheImpl.{cmp-value}
use Rattle.om_foot.specs.declared.object.Cells.{Cells}
use Rattle.om_foot.specs.Cells.{cells_of}
use Rattle.om_foot.specs.SharedCells.{cell_in}
use Rattle.om_undo_touches.specs.declared.by_mode.Touches.{Touches}
use Rattle.om_undo_touches.specs.declared.objects.ObjectTouches.{ObjectTouches}
use Rattle.om_foot.specs.Serials.{has}
use Rattle.om_undo_touches.specs.Slots.{is_cell_in}
use Rattle.om_undo_touches.specs.Touches.{list_of, has_in, has_object_touch, meets, meets_at}
use Rattle.om_foot.specs.Firsts.{IsFirst}
use Rattle.om_undo_touches.specs.Searches.{either_true}
use Rattle.om_undo_touches.proofs.CellLemmas.{meets_cell, met_in, same_truth}

-- whether an entry touches an object of a list, which is one of these cells, in conflict with a write
abbrev pub met_here : Cells → Obj × Touches → ℕ → Bool
met_here c e s = is_cell_in c e.0 && meets_at (λ m t. has (list_of e.1 m) t) Write s

abbrev pub any_in : Cells → List (Obj × Touches) → ℕ → Bool
any_in c [] s = false
any_in c (e ∷ es) s = cond (met_here c e s) true (any_in c es s)

-- the entries between the first cell and the one behind the last
abbrev pub between : Cells → List (Obj × Touches) → List (Obj × Touches)
between c es = entries_between cmp-value.it (Included (cell_in c 0)) (Excluded (cell_in c c.count)) es

-- the cells of a slot are in the order of their indexes

no_less : (o : Ordering) → is_eq o ≡ true → o ≡ Equal
no_less Less h = cc
no_less Equal h = refl
no_less Greater h = cc

name_ties : (t : List ℕ) → slice_cmp nat_cmp t t ≡ Equal
name_ties t = no_less (slice_cmp nat_cmp t t) (sym (texts_ties t t) ∙ (same_list t t).1 refl)

number_ties : (n : ℕ) → nat_cmp n n ≡ Equal
number_ties n = grind (arith, nat_tests)

pub cell_cmp : (c : Cells) (i j : ℕ) → cmp-value.it (cell_in c i) (cell_in c j) ≡ nat_cmp i j
cell_cmp c i j =
    λ k. ordering_then (name_ties c.slot.task k)
    (ordering_then (number_ties c.slot.frame k) (ordering_then (number_ties c.slot.slot k) (nat_cmp i j)))

-- the search goes forward
pub is_forward : (c : Cells) → IsLeBy cmp-value.it (cell_in c 0) (cell_in c c.count)
is_forward c = ap is_gt (cell_cmp c 0 c.count) ∙ least c.count
  where
    least : (n : ℕ) → is_gt (nat_cmp 0 n) ≡ false
    least n = grind (arith, nat_tests)

pub cell_within : (c : Cells) (i : ℕ) → i < c.count
    → range_contains cmp-value.it (Included (cell_in c 0)) (Excluded (cell_in c c.count)) (cell_in c i) ≡ true
cell_within c i h =
    (λ k. is_le (cell_cmp c 0 i k) && not (is_le (cell_cmp c c.count i k))) ∙ order i c.count h
  where
    order : (i n : ℕ) → i < n → is_le (nat_cmp 0 i) && not (is_le (nat_cmp n i)) ≡ true
    order i n h = grind (arith, nat_tests, h)

-- one of these cells, by its index

first_true : (a b : Bool) → a && b ≡ true → a ≡ true
first_true true b h = refl
first_true false b h = cc

second_true : (a b : Bool) → a && b ≡ true → b ≡ true
second_true true b h = h
second_true false b h = cc

both_true : (a b : Bool) → a ≡ true → b ≡ true → a && b ≡ true
both_true true b h g = g
both_true false b h g = cc

pub record IsAt (c : Cells) (o : Obj) : Type 0 where
  pub index : ℕ
  pub within : index < c.count
  pub is : o ≡ cell_in c index

number_is : (x y : ℕ) → nat_eq x y ≡ true → x ≡ y
number_is x y h = (Decides-eqb x y).0 h

pub cell_is : (c : Cells) (o : Obj) → is_cell_in c o ≡ true → IsAt c o
cell_is c (object.Cell t f n i) h =
    let a = first_true ((nat_lt i c.count && nat_eq n c.slot.slot) && nat_eq f c.slot.frame)
    (pointwise nat_eq t c.slot.task) h in
    let task = (same_list t c.slot.task).0 (second_true ((nat_lt i c.count && nat_eq n c.slot.slot) && nat_eq f c.slot.frame)
    (pointwise nat_eq t c.slot.task) h) in
    let frame = number_is f c.slot.frame (second_true (nat_lt i c.count && nat_eq n c.slot.slot) (nat_eq f c.slot.frame) a) in
    let b = first_true (nat_lt i c.count && nat_eq n c.slot.slot) (nat_eq f c.slot.frame) a in
    let slot = number_is n c.slot.slot (second_true (nat_lt i c.count) (nat_eq n c.slot.slot) b) in
    record {
      index = i;
      within = below i c.count (first_true (nat_lt i c.count) (nat_eq n c.slot.slot) b);
      is = λ k. object.Cell (task k) (frame k) (slot k) i;
    }
  where
    below : (i n : ℕ) → nat_lt i n ≡ true → i < n
    below i n e = grind (arith, nat_tests, e)
cell_is c o h = cc

pub is_cell : (c : Cells) (i : ℕ) → i < c.count → is_cell_in c (cell_in c i) ≡ true
is_cell c i h =
    both_true _ _
    (both_true _ _ (both_true _ _ (below i c.count h) ((Decides-eqb c.slot.slot c.slot.slot).1 refl))
    ((Decides-eqb c.slot.frame c.slot.frame).1 refl))
    ((same_list c.slot.task c.slot.task).1 refl)
  where
    below : (i n : ℕ) → i < n → nat_lt i n ≡ true
    below i n e = grind (arith, nat_tests, e)

-- what a look-up finds is found in the range

or_true : (x y : Bool) → y ≡ true → cond x true y ≡ true
or_true true y h = refl
or_true false y h = h

some_same : (a b : Touches) → Some a ≡ Some b → a ≡ b
some_same a b h = cc

abbrev lies : Cells → Obj → Bool
lies c o = range_contains cmp-value.it (Included (cell_in c 0)) (Excluded (cell_in c c.count)) o

found_in : (c : Cells) (es : List (Obj × Touches)) (q : Obj) (t : Touches) (s : ℕ) → lookup (obj_eq q) es ≡ Some t
    → lies c q ≡ true → met_here c (q, t) s ≡ true → any_in c (between c es) s ≡ true
found_in c [] q t s there in_range met = cc
found_in c (e ∷ es) q t s there in_range met =
    go (obj_eq q e.0) refl there (λ more. found_in c es q t s more in_range met)
  where
    kept : (b : Bool) → b ≡ true → met_here c e s ≡ true
        → any_in c (cond b (e ∷ between c es) (between c es)) s ≡ true
    kept true h m = ap (λ x. cond x true (any_in c (between c es) s)) m
    kept false h m = cc

    past : (b : Bool) → any_in c (between c es) s ≡ true
        → any_in c (cond b (e ∷ between c es) (between c es)) s ≡ true
    past true h = or_true (met_here c e s) (any_in c (between c es) s) h
    past false h = h

    go : (b : Bool) → obj_eq q e.0 ≡ b → cond b (Some e.1) (lookup (obj_eq q) es) ≡ Some t
        → (lookup (obj_eq q) es ≡ Some t → any_in c (between c es) s ≡ true)
        → any_in c (between c (e ∷ es)) s ≡ true
    go true is here more =
        let same : q ≡ e.0 = obj_eq-true q e.0 is in
        let value : e.1 ≡ t = some_same e.1 t here in
        kept (lies c e.0) (ap (lies c) (sym same) ∙ in_range)
        ((λ k. met_here c (sym same k, value k) s) ∙ met)
    go false is here more = past (lies c e.0) (more here)

pub range_found : (c : Cells) (touches : ObjectTouches) (s : ℕ)
    → meets (has_object_touch touches) (cells_of c) s ≡ true → any_in c (between c touches.objects.entries) s ≡ true
range_found c touches s h =
    let at = met_in (has_object_touch touches) c s h in
    let within : at.index < c.count = omega (arith, at.most) in
    go at.index within at.met (lookup (obj_eq (cell_in c at.index)) touches.objects.entries) refl
  where
    go : (i : ℕ) → i < c.count → meets_at (has_object_touch touches (cell_in c i)) Write s ≡ true
        → (o : Option Touches) → lookup (obj_eq (cell_in c i)) touches.objects.entries ≡ o
        → any_in c (between c touches.objects.entries) s ≡ true
    go i within met None none =
        let no : meets_at (has_object_touch touches (cell_in c i)) Write s ≡ false =
        ap (λ o. meets_at (λ m t. has_in o m t) Write s) none in cc
    go i within met (Some t) some =
        found_in c touches.objects.entries (cell_in c i) t s some (cell_within c i within)
        (both_true (is_cell_in c (cell_in c i)) (meets_at (λ m x. has (list_of t m) x) Write s) (is_cell c i within)
        (ap (λ o. meets_at (λ m x. has_in o m x) Write s) (sym some) ∙ met))

-- and what the range has is found by a look-up

-- an entry is the one at its key
abbrev pub Found : ObjectTouches → Obj × Touches → Type 0
Found touches e = lookup (is_at (cmp-value.it e.0)) touches.objects.entries ≡ Some e.1

pub range_meets : (c : Cells) (touches : ObjectTouches) (s : ℕ) (r : List (Obj × Touches))
    → All (Found touches) r
    → any_in c r s ≡ true → meets (has_object_touch touches) (cells_of c) s ≡ true
range_meets c touches s [] all h = cc
range_meets c touches s (e ∷ es) all h =
    go (either_true (met_here c e s) (any_in c es s) h)
    (λ later. range_meets c touches s es (All-tail (Found touches) e es all) later)
  where
    go : (met_here c e s ≡ true) ⊎ (any_in c es s ≡ true)
        → (any_in c es s ≡ true → meets (has_object_touch touches) (cells_of c) s ≡ true)
        → meets (has_object_touch touches) (cells_of c) s ≡ true
    go (inr later) more = more later
    go (inl here) more =
        let at = cell_is c e.0 (first_true (is_cell_in c e.0) (meets_at (λ m t. has (list_of e.1 m) t) Write s) here) in
        let met = second_true (is_cell_in c e.0) (meets_at (λ m t. has (list_of e.1 m) t) Write s) here in
        let there : lookup (obj_eq e.0) touches.objects.entries ≡ Some e.1 =
        sym (lookup-is_at e.0 touches.objects.entries) ∙ All-head (Found touches) e es all in
        meets_cell (has_object_touch touches) c at.index s at.within
        (ap (λ o. meets_at (has_object_touch touches o) Write s) (sym at.is)
        ∙ ap (λ o. meets_at (λ m t. has_in o m t) Write s) there ∙ met)

-- a search of the range is one of the cells
pub range_is : (c : Cells) (touches : ObjectTouches) (s : ℕ)
    → All (Found touches) (between c touches.objects.entries)
    → any_in c (between c touches.objects.entries) s ≡ meets (has_object_touch touches) (cells_of c) s
range_is c touches s all =
    same_truth _ _ (range_meets c touches s (between c touches.objects.entries) all) (range_found c touches s)

-- the search goes on by one entry
pub turn : (a b c : Bool) → cond (cond a true b) true c ≡ cond a true (cond b true c)
turn true b c = refl
turn false b c = refl
