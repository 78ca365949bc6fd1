-- The cells of a slot that are named at once, as accesses.
use Rattle.std.proofs.Common.{◌≡◌, refl, sym, ◌∙◌, ap, Bool, true, false, cond, ◌&&◌, nat_eq, nat_lt, nat_le, ℕ, zero, suc, ◌+◌, ◌<◌, ◌≤◌, arith}
use Rattle.std.proofs.Common.{Option, None, Some, List, [], ◌∷◌, ◌++◌, ◌⊎◌, inl, inr}
use Rattle.std.specs.Cmp.Lexicographic.{pointwise}
use Rattle.std.proofs.lemmas.Bool.Decides.{nat_tests, Decides-eqb}
use Rattle.om_foot.specs.declared.object.Obj.{Obj}
use Rattle.om_foot.specs.declared.object.Obj.TheVariants as object
use Rattle.om_foot.specs.declared.footprint.Mode.{Mode}
use Rattle.om_foot.specs.declared.footprint.Mode.TheVariants.{Read, Write, Add}
use Rattle.om_foot.specs.declared.footprint.Access.{Access}
use Rattle.om_foot.specs.Footprint.{obj_eq, modes_conflict}
use Rattle.om_foot.specs.Objects.{obj_eq-true}
use Rattle.om_foot.specs.declared.object.SlotName.{SlotName}
use Rattle.om_foot.specs.declared.object.Cells.{Cells}
use Rattle.om_foot.specs.Cells.{cell_at, cells_from, cells_of, spot_of}
use Rattle.om_foot.specs.SharedCells.{cell_in}
use Rattle.om_undo_touches.specs.declared.slots.SlotTouches.{SlotTouches}
use Rattle.om_undo_touches.specs.declared.spans.SpanTouches.{SpanTouches}
use Rattle.om_undo_touches.specs.declared.objects.ObjectTouches.{ObjectTouches}
use Rattle.om_undo_touches.specs.declared.singles.SingleTouches.{SingleTouches}
use Rattle.om_undo_touches.specs.Controls.{with_objects}
use Rattle.om_foot.specs.Serials.{has}
use Rattle.om_undo_touches.specs.Slots.{slot_eq, has_span, spans_of, SlotsWith, SameSlots, SlotsWithout}
use Rattle.om_undo_touches.specs.Touches.{mode_eq, names, meets, meets_at, Touching, has_object_touch, has_single_touch, has_slot_write, has_slot_touch, IsSet, LosesOfEntry}
use Rattle.om_foot.specs.Firsts.{IsFirst}
use Rattle.om_undo_touches.specs.Searches.{either_true}
use Rattle.om_undo_touches.proofs.SlotLemmas.{slot_eq-true, slot_eq-same}

-- what names cells

and_false : (x : Bool) → x && false ≡ false
and_false true = refl
and_false false = refl

not_named : (x r : Bool) → r ≡ false → cond (x && false) true r ≡ false
not_named true r h = h
not_named false r h = h

names_read : (slot : SlotName) (j n : ℕ) (o : Obj) → names o Read (cells_from slot j n) ≡ false
names_read slot j zero o = refl
names_read slot j (suc n) o = not_named (obj_eq (cell_at slot j) o) _ (names_read slot (j + 1) n o)

names_add : (slot : SlotName) (j n : ℕ) (o : Obj) → names o Add (cells_from slot j n) ≡ false
names_add slot j zero o = refl
names_add slot j (suc n) o = not_named (obj_eq (cell_at slot j) o) _ (names_add slot (j + 1) n o)

no_cell : (slot : SlotName) (j : ℕ) (o : Obj) → None ≡ spot_of o → obj_eq (cell_at slot j) o ≡ false
no_cell slot j (object.Cell t f n i) h = cc
no_cell slot j o h = refl

names_none : (slot : SlotName) (j n : ℕ) (o : Obj) → None ≡ spot_of o → names o Write (cells_from slot j n) ≡ false
names_none slot j zero o h = refl
names_none slot j (suc n) o h =
    ap (λ b. cond (b && true) true (names o Write (cells_from slot (j + 1) n))) (no_cell slot j o h)
    ∙ names_none slot (j + 1) n o h

regroup : (p q r e w : Bool)
    → cond ((p && (q && (r && e))) && true) true ((p && (q && r)) && w) ≡ (p && (q && r)) && cond e true w
regroup true true true true w = refl
regroup true true true false w = refl
regroup true true false e w = refl
regroup true false r e w = refl
regroup false q r e w = refl

names_from : (slot : SlotName) (j n : ℕ) (q : SlotName) (i : ℕ) → names (cell_at q i) Write (cells_from slot j n)
    ≡ slot_eq slot q && (nat_le j i && nat_lt i (j + n))
names_from slot j zero q i =
    sym (ap (λ b. slot_eq slot q && b) empty ∙ and_false (slot_eq slot q))
  where
    empty : nat_le j i && nat_lt i (j + 0) ≡ false
    empty = grind (arith, nat_tests)
names_from slot j (suc n) q i =
    ap (cond ((pointwise nat_eq slot.task q.task && (nat_eq slot.frame q.frame && (nat_eq slot.slot q.slot && nat_eq j i))) && true) true)
    (names_from slot (j + 1) n q i)
    ∙ regroup (pointwise nat_eq slot.task q.task) (nat_eq slot.frame q.frame) (nat_eq slot.slot q.slot) (nat_eq j i)
    (nat_le (j + 1) i && nat_lt i (j + 1 + n))
    ∙ ap (λ b. slot_eq slot q && b) next
  where
    next : cond (nat_eq j i) true (nat_le (j + 1) i && nat_lt i (j + 1 + n)) ≡ nat_le j i && nat_lt i (j + suc n)
    next = grind (arith, nat_tests)

-- a cell is named where it is of the slot, and its index is below their count
pub names_cell : (c : Cells) (q : SlotName) (i : ℕ) → names (cell_at q i) Write (cells_of c)
    ≡ slot_eq c.slot q && nat_lt i c.count
names_cell c q i = names_from c.slot 0 c.count q i ∙ ap (λ b. slot_eq c.slot q && b) all
  where
    all : nat_le 0 i && nat_lt i (0 + c.count) ≡ nat_lt i c.count
    all = grind (arith, nat_tests)

-- the writes of a slot change by those of the cells, and no other touch does

with_more : (a e l x : Bool) → cond (a && (e && l)) true x ≡ cond (e && (a && l)) true x
with_more true true l x = refl
with_more true false l x = refl
with_more false true l x = refl
with_more false false l x = refl

none_more : (e n : Bool) → n ≡ false → false ≡ cond (e && n) true false
none_more true true h = sym h
none_more true false h = refl
none_more false n h = refl

pub cells_added : (c : Cells) (serial : ℕ) (old new : SlotTouches) → SlotsWith c.slot c.count serial old new
    → IsSet true (cells_of c) serial (has_slot_touch old) (has_slot_touch new)
cells_added c serial old new h (object.Cell t f n i) Write s =
    let q : SlotName = record { task = t; frame = f; slot = n } in
    h q i s
    ∙ with_more (slot_eq c.slot q) (nat_eq serial s) (nat_lt i c.count) (has_span (spans_of old q) i s)
    ∙ ap (λ b. cond (nat_eq serial s && b) true (has_span (spans_of old q) i s)) (sym (names_cell c q i))
cells_added c serial old new h o Write s =
    none_more (nat_eq serial s) (names o Write (cells_of c)) (names_none c.slot 0 c.count o refl)
cells_added c serial old new h o Read s =
    none_more (nat_eq serial s) (names o Read (cells_of c)) (names_read c.slot 0 c.count o)
cells_added c serial old new h o Add s =
    none_more (nat_eq serial s) (names o Add (cells_of c)) (names_add c.slot 0 c.count o)

no_more : (e x : Bool) → x ≡ cond (e && false) true x
no_more true x = refl
no_more false x = refl

pub cells_same : (serial : ℕ) (old new : SlotTouches) → SameSlots old new
    → IsSet true [] serial (has_slot_touch old) (has_slot_touch new)
cells_same serial old new h (object.Cell t f n i) Write s =
    let q : SlotName = record { task = t; frame = f; slot = n } in
    h q i s ∙ no_more (nat_eq serial s) (has_span (spans_of old q) i s)
cells_same serial old new h o Write s = no_more (nat_eq serial s) false
cells_same serial old new h o Read s = no_more (nat_eq serial s) false
cells_same serial old new h o Add s = no_more (nat_eq serial s) false

-- the writes of a slot by an entry go

other_entry : (a e x : Bool) → e ≡ false → cond (a && e) false x ≡ x
other_entry true true x h = cc
other_entry true false x h = refl
other_entry false e x h = refl

was_there : (b x : Bool) → cond b false x ≡ true → x ≡ true
was_there true x h = cc
was_there false x h = h

all_gone : (a e x : Bool) → a ≡ true → e ≡ true → cond (a && e) false x ≡ false
all_gone true true x h g = refl
all_gone true false x h g = cc
all_gone false e x h g = cc

-- whether an object is a cell of a slot
abbrev pub is_of : SlotName → Obj → Bool
is_of name (object.Cell t f n i) = slot_eq name (record { task = t; frame = f; slot = n })
is_of name _ = false

pub slot_less : (footprint : List Access) (name : SlotName) (serial : ℕ) (old new : SlotTouches)
    → SlotsWithout name serial old new
    → ((o : Obj) → names o Write footprint ≡ true → (is_of name o ≡ true) ⊎ (None ≡ spot_of o))
    → LosesOfEntry footprint serial (has_slot_touch old) (has_slot_touch new)
slot_less footprint name serial old new h within = record { others = others; fewer = fewer; gone = gone }
  where
    others : (o : Obj) (m : Mode) (s : ℕ) → nat_eq serial s ≡ false
        → has_slot_touch new o m s ≡ has_slot_touch old o m s
    others (object.Cell t f n i) Write s e =
        let q : SlotName = record { task = t; frame = f; slot = n } in
        h q i s ∙ other_entry (slot_eq name q) (nat_eq serial s) (has_span (spans_of old q) i s) e
    others o Write s e = refl
    others o Read s e = refl
    others o Add s e = refl

    fewer : (o : Obj) (m : Mode) (s : ℕ) → has_slot_touch new o m s ≡ true → has_slot_touch old o m s ≡ true
    fewer (object.Cell t f n i) Write s e =
        let q : SlotName = record { task = t; frame = f; slot = n } in
        was_there (slot_eq name q && nat_eq serial s) (has_span (spans_of old q) i s) (sym (h q i s) ∙ e)
    fewer o Write s e = e
    fewer o Read s e = e
    fewer o Add s e = e

    at : (t : List ℕ) (f n i : ℕ) → (is_of name (object.Cell t f n i) ≡ true) ⊎ (None ≡ spot_of (object.Cell t f n i))
        → has_slot_write new (object.Cell t f n i) serial ≡ false
    at t f n i (inl is) =
        let q : SlotName = record { task = t; frame = f; slot = n } in
        h q i serial
        ∙ all_gone (slot_eq name q) (nat_eq serial serial) (has_span (spans_of old q) i serial) is
        ((Decides-eqb serial serial).1 refl)
    at t f n i (inr is) = cc

    gone : (o : Obj) (m : Mode) → names o m footprint ≡ true → has_slot_touch new o m serial ≡ false
    gone (object.Cell t f n i) Write e = at t f n i (within (object.Cell t f n i) e)
    gone o Write e = refl
    gone o Read e = refl
    gone o Add e = refl

first_true : (a b : Bool) → a && b ≡ true → a ≡ true
first_true true b h = refl
first_true false b h = cc

-- those of cells
pub cells_less : (c : Cells) (serial : ℕ) (old new : SlotTouches) → SlotsWithout c.slot serial old new
    → LosesOfEntry (cells_of c) serial (has_slot_touch old) (has_slot_touch new)
cells_less c serial old new h = slot_less (cells_of c) c.slot serial old new h within
  where
    within : (o : Obj) → names o Write (cells_of c) ≡ true → (is_of c.slot o ≡ true) ⊎ (None ≡ spot_of o)
    within (object.Cell t f n i) e =
        let q : SlotName = record { task = t; frame = f; slot = n } in
        inl (first_true (slot_eq c.slot q) (nat_lt i c.count) (sym (names_cell c q i) ∙ e))
    within o e = inr refl

named_one : (e d : Bool) → cond (e && d) true false ≡ true → e ≡ true
named_one true d h = refl
named_one false d h = cc

-- those of the slot of one cell
pub cell_less : (it : Obj) (p : SlotName × ℕ) (mode : Mode) (serial : ℕ) (old new : SlotTouches)
    → Some p ≡ spot_of it → SlotsWithout p.0 serial old new
    → LosesOfEntry (record { object = it; mode = mode } ∷ []) serial (has_slot_touch old) (has_slot_touch new)
cell_less it p mode serial old new is h =
    slot_less (record { object = it; mode = mode } ∷ []) p.0 serial old new h within
  where
    here : (o : Obj) → Some p ≡ spot_of o → is_of p.0 o ≡ true
    here (object.Cell t f n i) e =
        let same : p ≡ (record { task = t; frame = f; slot = n }, i) = cc in
        ap (λ (x : SlotName × ℕ). is_of x.0 (object.Cell t f n i)) same
        ∙ slot_eq-same (record { task = t; frame = f; slot = n })
    here o e = cc

    within : (o : Obj) → names o Write (record { object = it; mode = mode } ∷ []) ≡ true
        → (is_of p.0 o ≡ true) ⊎ (None ≡ spot_of o)
    within o e =
        let same : it ≡ o = obj_eq-true it o (named_one (obj_eq it o) (mode_eq mode Write) e) in
        inl (here o (is ∙ ap spot_of same))

-- where an object is no cell, or no slot has a write, nothing is to go
pub none_less : (it : Obj) (mode : Mode) (serial : ℕ) (slots : SlotTouches)
    → ((s : ℕ) → has_slot_write slots it s ≡ false)
    → LosesOfEntry (record { object = it; mode = mode } ∷ []) serial (has_slot_touch slots) (has_slot_touch slots)
none_less it mode serial slots none = record { others = λ o m s e. refl; fewer = λ o m s e. e; gone = gone }
  where
    gone : (o : Obj) (m : Mode) → names o m (record { object = it; mode = mode } ∷ []) ≡ true
        → has_slot_touch slots o m serial ≡ false
    gone o Write e =
        let same : it ≡ o = obj_eq-true it o (named_one (obj_eq it o) (mode_eq mode Write) e) in
        ap (λ x. has_slot_write slots x serial) (sym same) ∙ none serial
    gone o Read e = refl
    gone o Add e = refl

-- a search of cells

met_cell : (touch : Touching) (slot : SlotName) (j n i s : ℕ) → j ≤ i → i < j + n
    → meets_at (touch (cell_at slot i)) Write s ≡ true → meets touch (cells_from slot j n) s ≡ true
met_cell touch slot j zero i s least most h = absurd (omega arith)
met_cell touch slot j (suc n) i s least most h = go (nat_eq j i) refl
    (λ least_more. met_cell touch slot (j + 1) n i s least_more (omega (arith, most)) h)
  where
    or_true : (x y : Bool) → y ≡ true → cond x true y ≡ true
    or_true true y e = refl
    or_true false y e = e

    go : (b : Bool) → nat_eq j i ≡ b → (j + 1 ≤ i → meets touch (cells_from slot (j + 1) n) s ≡ true)
        → meets touch (cells_from slot j (suc n)) s ≡ true
    go true is more =
        ap (λ b. cond b true (meets touch (cells_from slot (j + 1) n) s))
        (ap (λ k. meets_at (touch (cell_at slot k)) Write s) ((Decides-eqb j i).0 is) ∙ h)
    go false is more =
        or_true (meets_at (touch (cell_at slot j)) Write s) (meets touch (cells_from slot (j + 1) n) s)
        (more (grind (arith, nat_tests, is, least)))

-- what a cell of these meets, these meet
pub meets_cell : (touch : Touching) (c : Cells) (i s : ℕ) → i < c.count
    → meets_at (touch (cell_in c i)) Write s ≡ true → meets touch (cells_of c) s ≡ true
meets_cell touch c i s within h = met_cell touch c.slot 0 c.count i s (omega arith) (omega (arith, within)) h

-- a cell of these, by its index, that meets
pub record MetAt (touch : Touching) (slot : SlotName) (j n s : ℕ) : Type 0 where
  pub index : ℕ
  pub least : j ≤ index
  pub most : index < j + n
  pub met : meets_at (touch (cell_at slot index)) Write s ≡ true

met_from : (touch : Touching) (slot : SlotName) (j n s : ℕ) → meets touch (cells_from slot j n) s ≡ true
    → MetAt touch slot j n s
met_from touch slot j zero s h = cc
met_from touch slot j (suc n) s h = go (either_true (meets_at (touch (cell_at slot j)) Write s) _ h)
    (λ there. met_from touch slot (j + 1) n s there)
  where
    go : (meets_at (touch (cell_at slot j)) Write s ≡ true) ⊎ (meets touch (cells_from slot (j + 1) n) s ≡ true)
        → (meets touch (cells_from slot (j + 1) n) s ≡ true → MetAt touch slot (j + 1) n s)
        → MetAt touch slot j (suc n) s
    go (inl here) later = record { index = j; least = omega arith; most = omega arith; met = here }
    go (inr there) later =
        let more = later there in
        record {
          index = more.index;
          least = omega (arith, more.least);
          most = omega (arith, more.most);
          met = more.met;
        }

pub met_in : (touch : Touching) (c : Cells) (s : ℕ) → meets touch (cells_of c) s ≡ true → MetAt touch c.slot 0 c.count s
met_in touch c s h = met_from touch c.slot 0 c.count s h

pub same_truth : (a b : Bool) → (a ≡ true → b ≡ true) → (b ≡ true → a ≡ true) → a ≡ b
same_truth true true f g = refl
same_truth false false f g = refl
same_truth true false f g = sym (f refl)
same_truth false true f g = g refl

last_one : (b : Bool) → cond b true false ≡ b
last_one true = refl
last_one false = refl

-- a touch of a cell as one of a beginning of its slot is a write, and conflicts with each mode
pub meets_slot : (slots : SlotTouches) (o : Obj) (m : Mode) (s : ℕ)
    → meets_at (has_slot_touch slots o) m s ≡ has_slot_write slots o s
meets_slot slots o Read s = last_one (has_slot_write slots o s)
meets_slot slots o Write s = last_one (has_slot_write slots o s)
meets_slot slots o Add s = last_one (has_slot_write slots o s)

-- a beginning of a slot that has a cell has the first one
lower : (xs : List SpanTouches) (i s : ℕ) → has_span xs i s ≡ true → has_span xs 0 s ≡ true
lower [] i s h = h
lower (x ∷ xs) i s h = go (either_true (nat_lt i x.count && has x.serials s) (has_span xs i s) h) (λ e. lower xs i s e)
  where
    or_true : (a b : Bool) → b ≡ true → cond a true b ≡ true
    or_true true b e = refl
    or_true false b e = e

    first : (n : ℕ) → nat_lt i n ≡ true → nat_lt 0 n ≡ true
    first n e = grind (arith, nat_tests, e)

    here : (a b : Bool) → a ≡ true → b ≡ true → a && b ≡ true
    here true b f e = e
    here false b f e = cc

    second_true : (a b : Bool) → a && b ≡ true → b ≡ true
    second_true true b e = e
    second_true false b e = cc

    go : (nat_lt i x.count && has x.serials s ≡ true) ⊎ (has_span xs i s ≡ true)
        → (has_span xs i s ≡ true → has_span xs 0 s ≡ true) → has_span (x ∷ xs) 0 s ≡ true
    go (inl e) more =
        ap (λ b. cond b true (has_span xs 0 s))
        (here (nat_lt 0 x.count) (has x.serials s) (first x.count (first_true (nat_lt i x.count) (has x.serials s) e))
        (second_true (nat_lt i x.count) (has x.serials s) e))
    go (inr e) more = or_true (nat_lt 0 x.count && has x.serials s) (has_span xs 0 s) (more e)

-- a search of cells that were named at once finds the writes of the first
pub meets_first : (slots : SlotTouches) (c : Cells) (s : ℕ) → 0 < c.count
    → has_span (spans_of slots c.slot) 0 s ≡ meets (has_slot_touch slots) (cells_of c) s
meets_first slots c s some = same_truth _ _ into out
  where
    into : has_span (spans_of slots c.slot) 0 s ≡ true → meets (has_slot_touch slots) (cells_of c) s ≡ true
    into h = meets_cell (has_slot_touch slots) c 0 s some (meets_slot slots (cell_in c 0) Write s ∙ h)

    out : meets (has_slot_touch slots) (cells_of c) s ≡ true → has_span (spans_of slots c.slot) 0 s ≡ true
    out h =
        let at = met_in (has_slot_touch slots) c s h in
        lower (spans_of slots c.slot) at.index s (sym (meets_slot slots (cell_in c at.index) Write s) ∙ at.met)

pub meets_no_cell : (touch : Touching) (c : Cells) (s : ℕ) → c.count ≡ 0 → meets touch (cells_of c) s ≡ false
meets_no_cell touch c s none = ap (λ n. meets touch (cells_from c.slot 0 n) s) none

-- only the touches of cells count
pub meets_alike : (touch other : Touching) (c : Cells) (s : ℕ)
    → ((i : ℕ) (m : Mode) → touch (cell_in c i) m s ≡ other (cell_in c i) m s)
    → meets touch (cells_of c) s ≡ meets other (cells_of c) s
meets_alike touch other c s h = go 0 c.count
  where
    at : (i : ℕ) → meets_at (touch (cell_in c i)) Write s ≡ meets_at (other (cell_in c i)) Write s
    at i = λ k. cond (modes_conflict Write Read && h i Read k) true
        (cond (modes_conflict Write Write && h i Write k) true (modes_conflict Write Add && h i Add k))

    go : (j n : ℕ) → meets touch (cells_from c.slot j n) s ≡ meets other (cells_from c.slot j n) s
    go j zero = refl
    go j (suc n) = λ k. cond (at j k) true (go (j + 1) n k)

-- touches of these cells by an entry, where none of them is touched, and where all of an entry are taken out

write_meets : (touch : Mode → ℕ → Bool) (s : ℕ) → touch Write s ≡ true → meets_at touch Write s ≡ true
write_meets touch s h =
    ap (λ b. cond (touch Read s) true (cond b true (touch Add s))) h ∙ or_true (touch Read s)
  where
    or_true : (a : Bool) → cond a true true ≡ true
    or_true true = refl
    or_true false = refl

pub untouched_less : (touch : Touching) (c : Cells) (serial : ℕ) → meets touch (cells_of c) serial ≡ false
    → LosesOfEntry (cells_of c) serial touch touch
untouched_less touch c serial none = record { others = λ o m s e. refl; fewer = λ o m s e. e; gone = gone }
  where
    at : (q : SlotName) (i : ℕ) → slot_eq c.slot q && nat_lt i c.count ≡ true → (b : Bool)
        → touch (cell_at q i) Write serial ≡ b → b ≡ false
    at q i h false is = refl
    at q i h true is =
        let same : c.slot ≡ q = slot_eq-true c.slot q (first_true (slot_eq c.slot q) (nat_lt i c.count) h) in
        let within : i < c.count = below i c.count (second_true (slot_eq c.slot q) (nat_lt i c.count) h) in
        let met : meets touch (cells_of c) serial ≡ true =
        meets_cell touch c i serial within
        (ap (λ x. meets_at (touch (cell_at x i)) Write serial) same ∙ write_meets (touch (cell_at q i)) serial is) in
        cc
      where
        below : (i n : ℕ) → nat_lt i n ≡ true → i < n
        below i n e = grind (arith, nat_tests, e)

        second_true : (a b : Bool) → a && b ≡ true → b ≡ true
        second_true true b e = e
        second_true false b e = cc

    gone : (o : Obj) (m : Mode) → names o m (cells_of c) ≡ true → touch o m serial ≡ false
    gone (object.Cell t f n i) Write e =
        let q : SlotName = record { task = t; frame = f; slot = n } in
        at q i (sym (names_cell c q i) ∙ e) (touch (object.Cell t f n i) Write serial) refl
    gone o Write e = let none_named : names o Write (cells_of c) ≡ false = names_none c.slot 0 c.count o refl in cc
    gone o Read e = let none_named : names o Read (cells_of c) ≡ false = names_read c.slot 0 c.count o in cc
    gone o Add e = let none_named : names o Add (cells_of c) ≡ false = names_add c.slot 0 c.count o in cc

pub forgotten_less : (footprint : List Access) (serial : ℕ) (old new : Touching)
    → ((o : Obj) (m : Mode) (s : ℕ) → new o m s ≡ cond (nat_eq serial s) false (old o m s))
    → LosesOfEntry footprint serial old new
forgotten_less footprint serial old new h = record {
  others = λ o m s e. h o m s ∙ ap (λ b. cond b false (old o m s)) e;
  fewer = λ o m s e. was_there (nat_eq serial s) (old o m s) (sym (h o m s) ∙ e);
  gone = λ o m e. h o m serial ∙ ap (λ b. cond b false (old o m serial)) ((Decides-eqb serial serial).1 refl);
}

-- cells are no controls
pub no_control_named : (c : Cells) (w : ℕ) (m : Mode) → names (object.Control w) m (cells_of c) ≡ false
no_control_named c w Write = names_none c.slot 0 c.count (object.Control w) refl
no_control_named c w Read = names_read c.slot 0 c.count (object.Control w)
no_control_named c w Add = names_add c.slot 0 c.count (object.Control w)

pub singles_less : (c : Cells) (serial : ℕ) (singles : SingleTouches) (new : ObjectTouches)
    → LosesOfEntry (cells_of c) serial (has_object_touch singles.objects) (has_object_touch new)
    → LosesOfEntry (cells_of c) serial (has_single_touch singles) (has_single_touch (with_objects singles new))
singles_less c serial singles new h = record { others = others; fewer = fewer; gone = gone }
  where
    others : (o : Obj) (m : Mode) (s : ℕ) → nat_eq serial s ≡ false
        → has_single_touch (with_objects singles new) o m s ≡ has_single_touch singles o m s
    others (object.Control w) m s e = refl
    others o m s e = h.others o m s e

    fewer : (o : Obj) (m : Mode) (s : ℕ) → has_single_touch (with_objects singles new) o m s ≡ true
        → has_single_touch singles o m s ≡ true
    fewer (object.Control w) m s e = e
    fewer o m s e = h.fewer o m s e

    gone : (o : Obj) (m : Mode) → names o m (cells_of c) ≡ true
        → has_single_touch (with_objects singles new) o m serial ≡ false
    gone (object.Control w) m e = let none : names (object.Control w) m (cells_of c) ≡ false = no_control_named c w m in cc
    gone o m e = h.gone o m e
