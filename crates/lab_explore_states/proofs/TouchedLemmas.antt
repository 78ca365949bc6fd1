-- The objects that a step may change, one by one.
use Rattle.std.proofs.Common.{◌≡◌, refl, sym, ◌∙◌, ap, subst, Bool, true, false, cond, ℕ, zero, suc, ◌+◌, Option, None, Some}
use Rattle.std.proofs.Common.{List, [], ◌∷◌, ◌++◌, drop, slice_get}
use Rattle.om_foot.specs.declared.object.Obj.{Obj}
use Rattle.om_foot.specs.declared.footprint.Access.{Access}
use Rattle.om_foot.specs.Footprint.{obj_eq}
use Rattle.om_foot.specs.ListParts.{from_item}
use Rattle.om_state.specs.State.{State}
use Rattle.lab_explore_words.specs.Laws.{DistinctObjects}
use Rattle.lab_explore_rows.specs.Puts.{PutsAt}
use Rattle.lab_explore_rows.specs.RowFacts.{place_stays, row_put, starts_stay}
use Rattle.lab_explore_rows.specs.Rows.{IsEntry, IsRowBut, is_in}
use Rattle.lab_explore_rows.specs.Tables.{AreTables, Extends, TablesView, place_of}
use Rattle.lab_explore_states.specs.declared.touched.Touched.{Touched}
use Rattle.lab_explore_states.specs.Touched.{AreBy, ArePlaced, IsStartBut, Notes, changes, is_changed}
use Rattle.lab_explore_states.specs.Touched.{objects_of}

-- tables with further numbers

pub start_stays : (start : State) (t u : TablesView) (s : State) → Extends t u → IsStartBut start t s
    → IsStartBut start u s
start_stays start t u s extends h q none = go (place_of t q) refl
  where
    go : (o : Option ℕ) → place_of t q ≡ o → s q ≡ start q
    go None e = h q e
    go (Some n) e = let there = place_stays t u q n extends e in cc

pub placed_stay : (t u : TablesView) (xs : List Touched) → Extends t u → ArePlaced t xs → ArePlaced u xs
placed_stay t u [] extends h = tt
placed_stay t u (x ∷ xs) extends h =
    (place_stays t u x.object x.place extends h.0, placed_stay t u xs extends h.1)

pub placed_pushed : (t : TablesView) (xs : List Touched) (x : Touched) → ArePlaced t xs
    → place_of t x.object ≡ Some x.place → ArePlaced t (xs ++ x ∷ [])
placed_pushed t [] x all one = (one, tt)
placed_pushed t (y ∷ ys) x all one = (all.0, placed_pushed t ys x all.1 one)

pub placed_at : (t : TablesView) (xs : List Touched) (k : ℕ) (x : Touched) → slice_get xs k ≡ Some x → ArePlaced t xs
    → place_of t x.object ≡ Some x.place
placed_at t [] k x there all = cc
placed_at t (y ∷ ys) zero x there all =
    let is : y ≡ x = cc in subst (λ (z : Touched). place_of t z.object ≡ Some z.place) is all.0
placed_at t (y ∷ ys) (suc k) x there all = placed_at t ys k x there all.1

pub by_start_stays : (start : State) (t u : TablesView) → Extends t u → u.objects ≡ t.objects → u.starts ≡ t.starts
    → AreBy start t → AreBy start u
by_start_stays start t u extends objects starts h = record {
  tables = subst (λ os. AreTables os u.starts) (sym objects)
      (subst (λ ns. AreTables t.objects ns) (sym starts) h.tables);
  starts = starts_stay start t u extends.values objects starts h.starts;
}

-- objects that are noted

pub notes_nothing : (a : Access) (old : List Obj) → changes a.mode ≡ false → Notes a old old
notes_nothing a old h q not = (not, ap (λ b. cond b (cond (obj_eq a.object q) true false) false) h)

pub noted : (a : Access) (xs : List Touched) (x : Touched) → x.object ≡ a.object
    → Notes a (objects_of xs) (objects_of (xs ++ x ∷ []))
noted a [] x is q not = (
  refl,
  go (changes a.mode) (obj_eq a.object q)
      (ap (λ o. cond (obj_eq o q) true false) (sym is) ∙ not),
)
  where
    go : (b e : Bool) → cond e true false ≡ false → cond b (cond e true false) false ≡ false
    go true e h = h
    go false e h = refl
noted a (y ∷ ys) x is q not = go (obj_eq y.object q) (λ h. noted a ys x is q h) not
  where
    go : (b : Bool)
        → (is_in (objects_of (ys ++ x ∷ [])) q ≡ false
        → (is_in (objects_of ys) q ≡ false) × (is_changed (a ∷ []) q ≡ false))
        → cond b true (is_in (objects_of (ys ++ x ∷ [])) q) ≡ false
        → (cond b true (is_in (objects_of ys) q) ≡ false) × (is_changed (a ∷ []) q ≡ false)
    go true rest h = cc
    go false rest h = rest h

changed_behind : (a : Access) (rest : List Access) (q : Obj) → is_changed (a ∷ []) q ≡ false
    → is_changed (a ∷ rest) q ≡ is_changed rest q
changed_behind a rest q h = go (changes a.mode) (obj_eq a.object q) h
  where
    go : (b e : Bool) → cond b (cond e true false) false ≡ false
        → cond b (cond e true (is_changed rest q)) (is_changed rest q) ≡ is_changed rest q
    go true true g = cc
    go true false g = refl
    go false e g = refl

pub covered_next : (xs : List Access) (k : ℕ) (a : Access) (old new : List Obj) → slice_get xs k ≡ Some a
    → Notes a old new → ((q : Obj) → is_in old q ≡ false → is_changed xs q ≡ is_changed (drop k xs) q)
    → (q : Obj) → is_in new q ≡ false → is_changed xs q ≡ is_changed (drop (k + 1) xs) q
covered_next xs k a old new there notes was q not =
    let two = notes q not in
    was q two.0 ∙ ap (λ ys. is_changed ys q) (from_item xs k a there)
    ∙ changed_behind a (drop (k + 1) xs) q two.1

-- entries that are put

pub objects_from : (xs : List Touched) (k : ℕ) (x : Touched) → slice_get xs k ≡ Some x
    → objects_of (drop k xs) ≡ x.object ∷ objects_of (drop (k + 1) xs)
objects_from xs k x there = ap objects_of (from_item xs k x there)

pub row_next : DistinctObjects → (t u : TablesView) (start s : State) (xs : List Touched) (k : ℕ) (x : Touched)
    (entry : ℕ) (row new : List ℕ) → slice_get xs k ≡ Some x → Extends t u → u.objects ≡ t.objects
    → place_of t x.object ≡ Some x.place → IsEntry u.values entry (s x.object) (start x.object)
    → PutsAt x.place entry row new → IsRowBut t start (objects_of (drop k xs)) row s
    → IsRowBut u start (objects_of (drop (k + 1) xs)) new s
row_next apart t u start s xs k x entry row new there extends objects at here puts h =
    row_put apart t u start s x.place entry row new objects extends.values puts x.object
    (objects_of (drop (k + 1) xs)) at here
    (subst (λ os. IsRowBut t start os row s) (objects_from xs k x there) h)
