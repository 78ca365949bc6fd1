-- Where footprints in parts conflict: a cell more of a slot, a slot more, and a part more.
use Rattle.std.proofs.Common.{◌≡◌, refl, sym, ◌∙◌, ap, Bool, true, false, cond, ◌&&◌, ℕ, suc, ◌+◌, ◌-◌, ◌<◌, List, [], ◌∷◌}
use Rattle.std.proofs.Common.{◌++◌, Option, None, Some, drop, drop-cons, get_or, length, add-one, arith, zero, ◌≤◌, ◌≢◌}
use Rattle.std.proofs.Common.{◌⊎◌, inl, inr, nat_eq}
use Rattle.std.proofs.lemmas.Bool.{ne_eqb}
use Rattle.std.proofs.lemmas.Bool.Decides.{eqb_tells}
use Rattle.std.specs.Cmp.Lexicographic.{pointwise}
use Rattle.om_foot.specs.declared.object.Obj.TheVariants as obj
use Rattle.om_foot.specs.declared.footprint.Mode.{Mode}
use Rattle.om_foot.specs.declared.footprint.Mode.TheVariants.{Write}
use Rattle.om_foot.specs.declared.object.Obj.{Obj}
use Rattle.om_foot.specs.declared.footprint.Access.{Access}
use Rattle.om_foot.specs.Footprint.{obj_eq, modes_conflict, conflicts_with_any, conflict_of}
use Rattle.om_foot.specs.declared.object.SlotName.{SlotName}
use Rattle.om_foot.specs.declared.object.Cells.{Cells}
use Rattle.om_foot.specs.Cells.{Spot, cell_at, spot_of, cell_access, cells_from, cells_of, cells_listed}

pub cells_next : (slot : SlotName) (n count : ℕ) → n < count
    → cells_from slot n (count - n) ≡ cell_access slot n ∷ cells_from slot (n + 1) (count - (n + 1))
cells_next slot n count h = let e : count - n ≡ suc (count - (n + 1)) = omega arith in ap (cells_from slot n) e

pub none_over : (slot : SlotName) (n count : ℕ) → count - n ≡ 0 → cells_from slot n (count - n) ≡ []
none_over slot n count e = ap (cells_from slot n) e

pub slots_next : (cs : List Cells) (i : ℕ) (c : Cells) → i < length cs → c ≡ get_or cs i c
    → cells_listed (drop i cs) ≡ cells_of c ++ cells_listed (drop (i + 1) cs)
slots_next cs i c h e = ap cells_listed (drop-cons cs i c h ∙ ap (λ x. x ∷ drop (suc i) cs) (sym e)
    ∙ ap (λ n. c ∷ drop n cs) (sym (add-one i)))

pub met_append : (a : Access) (xs ys : List Access)
    → conflicts_with_any a (xs ++ ys) ≡ cond (conflicts_with_any a xs) true (conflicts_with_any a ys)
met_append a [] ys = refl
met_append a (b ∷ xs) ys = go (obj_eq a.object b.object && modes_conflict a.mode b.mode) (met_append a xs ys)
  where
    go : (m : Bool)
        → conflicts_with_any a (xs ++ ys) ≡ cond (conflicts_with_any a xs) true (conflicts_with_any a ys)
        → cond m true (conflicts_with_any a (xs ++ ys))
        ≡ cond (cond m true (conflicts_with_any a xs)) true (conflicts_with_any a ys)
    go true rest = refl
    go false rest = rest

pub met_first : (a : Access) (xs ys : List Access) → conflicts_with_any a xs ≡ true → conflicts_with_any a (xs ++ ys) ≡ true
met_first a xs ys h = met_append a xs ys ∙ ap (λ m. cond m true (conflicts_with_any a ys)) h

pub met_not_first : (a : Access) (xs ys : List Access) → conflicts_with_any a xs ≡ false
    → conflicts_with_any a (xs ++ ys) ≡ conflicts_with_any a ys
met_not_first a xs ys h = met_append a xs ys ∙ ap (λ m. cond m true (conflicts_with_any a ys)) h

pub conflict_first : (xs ys bs : List Access) (o : Obj) → conflict_of xs bs ≡ Some o → conflict_of (xs ++ ys) bs ≡ Some o
conflict_first [] ys bs o h = cc
conflict_first (a ∷ xs) ys bs o h = go (conflicts_with_any a bs) (conflict_first xs ys bs o) h
  where
    go : (m : Bool) → (conflict_of xs bs ≡ Some o → conflict_of (xs ++ ys) bs ≡ Some o)
        → cond m (Some a.object) (conflict_of xs bs) ≡ Some o
        → cond m (Some a.object) (conflict_of (xs ++ ys) bs) ≡ Some o
    go true rest e = e
    go false rest e = rest e

pub conflict_not_first : (xs ys bs : List Access) → conflict_of xs bs ≡ None
    → conflict_of (xs ++ ys) bs ≡ conflict_of ys bs
conflict_not_first [] ys bs h = refl
conflict_not_first (a ∷ xs) ys bs h = go (conflicts_with_any a bs) (conflict_not_first xs ys bs) h
  where
    go : (m : Bool) → (conflict_of xs bs ≡ None → conflict_of (xs ++ ys) bs ≡ conflict_of ys bs)
        → cond m (Some a.object) (conflict_of xs bs) ≡ None
        → cond m (Some a.object) (conflict_of (xs ++ ys) bs) ≡ conflict_of ys bs
    go true rest e = cc
    go false rest e = rest e

-- an access in front of others

pub conflict_here : (a : Access) (xs bs : List Access) → conflicts_with_any a bs ≡ true
    → conflict_of (a ∷ xs) bs ≡ Some a.object
conflict_here a xs bs h = ap (λ m. cond m (Some a.object) (conflict_of xs bs)) h

pub conflict_behind : (a : Access) (xs bs : List Access) → conflicts_with_any a bs ≡ false
    → conflict_of (a ∷ xs) bs ≡ conflict_of xs bs
conflict_behind a xs bs h = ap (λ m. cond m (Some a.object) (conflict_of xs bs)) h

-- an access against the cells of a slot: it meets the one of its own index, or none

other_index : (x y z : Bool) (i j : ℕ) → nat_eq i j ≡ false → x && (y && (z && nat_eq i j)) ≡ false
other_index false y z i j h = refl
other_index true false z i j h = refl
other_index true true false i j h = refl
other_index true true true i j h = h

not_met : (o : Obj) (m : Mode) (b : Access) (rest : List Access) → obj_eq o b.object ≡ false
    → conflicts_with_any (record { object = o; mode = m }) (b ∷ rest)
    ≡ conflicts_with_any (record { object = o; mode = m }) rest
not_met o m b rest h =
    ap (λ same. cond (same && modes_conflict m b.mode) true
    (conflicts_with_any (record { object = o; mode = m }) rest)) h

missed : (t : List ℕ) (f s i : ℕ) (m : Mode) (slot : SlotName) (n count : ℕ) → (i < n) ⊎ (n + count ≤ i)
    → conflicts_with_any (record { object = obj.Cell t f s i; mode = m }) (cells_from slot n count) ≡ false
missed t f s i m slot n zero out = refl
missed t f s i m slot n (suc count) out =
    not_met (obj.Cell t f s i) m (cell_access slot n) (cells_from slot (n + 1) count)
    (other_index (pointwise nat_eq t slot.task) (nat_eq f slot.frame) (nat_eq s slot.slot) i n
    (ne_eqb i n (apart i n out)))
    ∙ missed t f s i m slot (n + 1) count (behind i n out)
  where
    apart : (i n : ℕ) → (i < n) ⊎ (n + suc count ≤ i) → i ≢ n
    apart i n (inl h) = λ e. omega (arith, e, h)
    apart i n (inr h) = λ e. omega (arith, e, h)

    behind : (i n : ℕ) → (i < n) ⊎ (n + suc count ≤ i) → (i < n + 1) ⊎ ((n + 1) + count ≤ i)
    behind i n (inl h) = inl (omega (arith, h))
    behind i n (inr h) = inr (omega (arith, h))

met_by : (t : List ℕ) (f s i : ℕ) (m : Mode) (slot : SlotName) (n count : ℕ)
    → ((nat_eq i n ≡ true) × (i ≡ n)) ⊎ ((nat_eq i n ≡ false) × (i ≢ n))
    → (i ≢ n → conflicts_with_any (record { object = obj.Cell t f s i; mode = m }) (cells_from slot (n + 1) count)
    ≡ obj_eq (obj.Cell t f s i) (cell_at slot i) && modes_conflict m Write)
    → conflicts_with_any (record { object = obj.Cell t f s i; mode = m }) (cells_from slot n (suc count))
    ≡ obj_eq (obj.Cell t f s i) (cell_at slot i) && modes_conflict m Write
met_by t f s i m slot n count (inl same) rest =
    ap (λ c. cond (obj_eq (obj.Cell t f s i) (cell_at slot n) && modes_conflict m Write) true c)
    (missed t f s i m slot (n + 1) count (inl (omega (arith, same.1))))
    ∙ one (obj_eq (obj.Cell t f s i) (cell_at slot n) && modes_conflict m Write)
    ∙ ap (λ k. obj_eq (obj.Cell t f s i) (cell_at slot k) && modes_conflict m Write) (sym same.1)
  where
    one : (b : Bool) → cond b true false ≡ b
    one true = refl
    one false = refl
met_by t f s i m slot n count (inr other) rest =
    not_met (obj.Cell t f s i) m (cell_access slot n) (cells_from slot (n + 1) count)
    (other_index (pointwise nat_eq t slot.task) (nat_eq f slot.frame) (nat_eq s slot.slot) i n other.0)
    ∙ rest other.1

met : (t : List ℕ) (f s i : ℕ) (m : Mode) (slot : SlotName) (n count : ℕ) → n ≤ i → i < n + count
    → conflicts_with_any (record { object = obj.Cell t f s i; mode = m }) (cells_from slot n count)
    ≡ obj_eq (obj.Cell t f s i) (cell_at slot i) && modes_conflict m Write
met t f s i m slot n zero low high = absurd (omega (arith, low, high))
met t f s i m slot n (suc count) low high = met_by t f s i m slot n count (eqb_tells i n)
    (λ other. met t f s i m slot (n + 1) count (omega (arith, low, other)) (omega (arith, high)))

abbrev index_in : Option Spot → ℕ
index_in None = 0
index_in (Some x) = x.1

pub no_spot : (o : Option Spot) → ((x : Spot) → o ≡ Some x → ⊥) → o ≡ None
no_spot None h = refl
no_spot (Some x) h = absurd (h x refl)

pub met_at_index : (a : Access) (c : Cells) (slot : SlotName) (i : ℕ) → spot_of a.object ≡ Some (slot, i)
    → i < c.count → conflicts_with_any a (cells_of c) ≡ obj_eq a.object (cell_at c.slot i) && modes_conflict a.mode Write
met_at_index a c slot i at within = go a.object at
  where
    go : (o : Obj) → spot_of o ≡ Some (slot, i) → conflicts_with_any (record { object = o; mode = a.mode }) (cells_of c)
        ≡ obj_eq o (cell_at c.slot i) && modes_conflict a.mode Write
    go (obj.Cell t f s j) is =
        let same : j ≡ i = ap index_in is in
        met t f s j a.mode c.slot 0 c.count (omega arith) (omega (arith, same, within))
        ∙ ap (λ k. obj_eq (obj.Cell t f s j) (cell_at c.slot k) && modes_conflict a.mode Write) same
    go (obj.Control w) is = cc
    go (obj.Global v k) is = cc
    go (obj.Task t) is = cc
    go (obj.Kids t) is = cc
    go (obj.Pending t k) is = cc
    go (obj.Arrived t k) is = cc
    go (obj.Work t k) is = cc
    go (obj.Lock l) is = cc
    go (obj.Group t) is = cc
    go obj.Output is = cc
    go (obj.Events w) is = cc

pub met_behind : (a : Access) (c : Cells) (slot : SlotName) (i : ℕ) → spot_of a.object ≡ Some (slot, i)
    → c.count ≤ i → conflicts_with_any a (cells_of c) ≡ false
met_behind a c slot i at behind = go a.object at
  where
    go : (o : Obj) → spot_of o ≡ Some (slot, i)
        → conflicts_with_any (record { object = o; mode = a.mode }) (cells_of c) ≡ false
    go (obj.Cell t f s j) is =
        let same : j ≡ i = ap index_in is in missed t f s j a.mode c.slot 0 c.count (inr (omega (arith, same, behind)))
    go (obj.Control w) is = cc
    go (obj.Global v k) is = cc
    go (obj.Task t) is = cc
    go (obj.Kids t) is = cc
    go (obj.Pending t k) is = cc
    go (obj.Arrived t k) is = cc
    go (obj.Work t k) is = cc
    go (obj.Lock l) is = cc
    go (obj.Group t) is = cc
    go obj.Output is = cc
    go (obj.Events w) is = cc

never : (o : Obj) (m : Mode) → ((slot : SlotName) (i : ℕ) → obj_eq o (cell_at slot i) ≡ false) → (slot : SlotName)
    (n count : ℕ) → conflicts_with_any (record { object = o; mode = m }) (cells_from slot n count) ≡ false
never o m none slot n zero = refl
never o m none slot n (suc count) =
    not_met o m (cell_access slot n) (cells_from slot (n + 1) count) (none slot n) ∙ never o m none slot (n + 1) count

pub no_cell_met : (a : Access) (c : Cells) → spot_of a.object ≡ None → conflicts_with_any a (cells_of c) ≡ false
no_cell_met a c at = never a.object a.mode (go a.object at) c.slot 0 c.count
  where
    go : (o : Obj) → spot_of o ≡ None → (slot : SlotName) (i : ℕ) → obj_eq o (cell_at slot i) ≡ false
    go (obj.Cell t f s j) is slot i = cc
    go (obj.Control w) is slot i = refl
    go (obj.Global v k) is slot i = refl
    go (obj.Task t) is slot i = refl
    go (obj.Kids t) is slot i = refl
    go (obj.Pending t k) is slot i = refl
    go (obj.Arrived t k) is slot i = refl
    go (obj.Work t k) is slot i = refl
    go (obj.Lock l) is slot i = refl
    go (obj.Group t) is slot i = refl
    go obj.Output is slot i = refl
    go (obj.Events w) is slot i = refl
