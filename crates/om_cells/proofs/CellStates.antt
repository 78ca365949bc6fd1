-- States with other values at the cells of a slot, and single places before those of slots.
use Rattle.std.proofs.Common.{◌≡◌, refl, sym, ◌∙◌, ap, subst, arith, ℕ, zero, suc, ◌+◌, ◌<◌, ◌≤◌}
use Rattle.std.proofs.Common.{Bool, true, false, cond, Option, None, Some, List, [], ◌∷◌, ◌++◌, map, Bor}
use Rattle.std.proofs.Math.Path.{fun_ext}
use Rattle.std.proofs.lemmas.List.{append-nil, map-append}
use Rattle.std.proofs.lemmas.List.Elements.{All-nil, All-cons, All-head, All-tail}
use Rattle.std.specs.Prelude.{All, is_some, unwrap_or, replicate}
use Rattle.std.specs.Option.{option_copied}
use Rattle.om_code.specs.declared.frame.Cell as cell
use Rattle.om_foot.specs.declared.object.Obj.{Obj}
use Rattle.om_foot.specs.declared.object.Obj.TheVariants as obj
use Rattle.om_foot.specs.declared.footprint.Access.{Access}
use Rattle.om_foot.specs.Footprint.{obj_eq}
use Rattle.om_foot.specs.Objects.{obj_eq-true}
use Rattle.om_foot.specs.declared.object.SlotName.{SlotName}
use Rattle.om_foot.specs.declared.object.Cells.{Cells}
use Rattle.om_state.specs.declared.value.Was.{Was}
use Rattle.om_state.specs.declared.value.Was.TheVariants as was
use Rattle.om_state.specs.declared.step.Update.{Update}
use Rattle.om_state.specs.declared.step.Update.TheVariants.{Put}
use Rattle.om_state.specs.declared.value.Val.{Val}
use Rattle.om_state.specs.declared.value.Val.TheVariants as value
use Rattle.om_state.specs.State.{State, with_value, updated, taken_back, undo_record}
use Rattle.om_foot.specs.Cells.{Spot, cell_at, spot_of, cell_access, cells_from, cells_of}
use Rattle.om_state.specs.Runs.{puts_of, were_listed}
use Rattle.om_cells.specs.Slots.{Slots, value_in, slot_value, kept_over, KeepsCells, olds}
use Rattle.om_cells.specs.Stores.{lies_in}

-- a single place before that in a slot

pub over_single : (v : Val) (x y : Option Val) → Some v ≡ y → Some v ≡ kept_over x y
over_single v None y h = h
over_single v (Some w) y h = ap (λ o. Some (unwrap_or o w)) h

pub over_none : (o x y : Option Val) → None ≡ y → o ≡ x → o ≡ kept_over x y
over_none o None y h e = e ∙ h
over_none o (Some w) y h e = e ∙ ap (λ p. Some (unwrap_or p w)) h

pub copied_some : {A : Type 0} (r : Option (Bor A)) → is_some r ≡ is_some (option_copied r)
copied_some None = refl
copied_some (Some v) = refl

pub single_put : (b : Bool) (v : Val) (x y z : Option Val) → z ≡ cond b (Some v) y
    → kept_over x z ≡ cond b (Some v) (kept_over x y)
single_put b v x y z h = ap (kept_over x) h ∙ go b x
  where
    go : (b : Bool) (x : Option Val) → kept_over x (cond b (Some v) y) ≡ cond b (Some v) (kept_over x y)
    go true None = refl
    go true (Some w) = refl
    go false x = refl

pub slot_put : (b : Bool) (v : Val) (x y z : Option Val) → (b ≡ true → y ≡ None) → z ≡ cond b (Some v) x
    → kept_over z y ≡ cond b (Some v) (kept_over x y)
slot_put b v x y z none h = ap (λ o. kept_over o y) h ∙ go b none
  where
    go : (b : Bool) → (b ≡ true → y ≡ None) → kept_over (cond b (Some v) x) y ≡ cond b (Some v) (kept_over x y)
    go true none = ap (λ o. Some (unwrap_or o v)) (none refl)
    go false none = refl

pub some_over : (x y : Option Val) → is_some x ≡ true → is_some (kept_over x y) ≡ true
some_over None y h = cc
some_over (Some w) y h = refl

pub single_over : (x y : Option Val) → is_some y ≡ true → is_some (kept_over x y) ≡ true
single_over None y h = h
single_over (Some w) y h = refl

pub none_over : (x y : Option Val) → is_some x ≡ false → y ≡ None → is_some (kept_over x y) ≡ false
none_over None y h none = ap is_some none
none_over (Some w) y h none = cc

pub same_some : (x z y : Option Val) → is_some z ≡ is_some x → is_some (kept_over z y) ≡ is_some (kept_over x y)
same_some None None y h = refl
same_some (Some v) (Some w) y h = refl
same_some None (Some w) y h = cc
same_some (Some v) None y h = cc

pub more_some : (x z y : Option Val) → (is_some x ≡ true → is_some z ≡ true) → is_some (kept_over x y) ≡ true
    → is_some (kept_over z y) ≡ true
more_some None None y h k = k
more_some None (Some w) y h k = refl
more_some (Some v) None y h k = let no : false ≡ true = h refl in cc
more_some (Some v) (Some w) y h k = refl

pub same_or : (x z y : Option Val) (d : Val) → unwrap_or z d ≡ unwrap_or x d
    → unwrap_or (kept_over z y) d ≡ unwrap_or (kept_over x y) d
same_or x z y d h = inner z y ∙ ap (unwrap_or y) h ∙ sym (inner x y)
  where
    inner : (x y : Option Val) → unwrap_or (kept_over x y) d ≡ unwrap_or y (unwrap_or x d)
    inner None y = refl
    inner (Some v) y = refl

-- where a cell lies

pub lies_not : (x y : Option Val) → is_some x ≡ false → false ≡ lies_in x y
lies_not None y h = refl
lies_not (Some v) y h = cc

pub lies_single : (v : Val) (x y : Option Val) → Some v ≡ y → false ≡ lies_in x y
lies_single v None y h = refl
lies_single v (Some w) (Some u) h = refl
lies_single v (Some w) None h = cc

pub lies_there : (x y : Option Val) → is_some x ≡ true → None ≡ y → true ≡ lies_in x y
lies_there None y h none = cc
lies_there (Some v) None h none = refl
lies_there (Some v) (Some w) h none = cc

pub slot_some : (x y : Option Val) → lies_in x y ≡ true → is_some x ≡ true
slot_some None y h = cc
slot_some (Some v) y h = refl

pub single_none : (x y : Option Val) → lies_in x y ≡ true → y ≡ None
single_none None y h = cc
single_none (Some v) None h = refl
single_none (Some v) (Some w) h = cc

pub single_some : (x y : Option Val) → lies_in x y ≡ false → is_some (kept_over x y) ≡ true → is_some y ≡ true
single_some None y h k = k
single_some (Some v) None h k = cc
single_some (Some v) (Some w) h k = refl

pub no_slots : (es : Slots) → es ≡ [] → (q : Obj) → slot_value es q ≡ None
no_slots es none q = ap (λ fs. slot_value fs q) none ∙ go (spot_of q)
  where
    go : (o : Option Spot) → value_in [] o ≡ None
    go None = refl
    go (Some p) = refl

-- all cells of a slot

all_from : (P : Access → Type 0) (slot : SlotName) (i n : ℕ)
    → ((k : ℕ) → i ≤ k → k < i + n → P (cell_access slot k)) → All P (cells_from slot i n)
all_from P slot i zero h = All-nil P
all_from P slot i (suc n) h = All-cons P (cell_access slot i) (cells_from slot (i + 1) n)
    (h i (omega arith) (omega arith))
    (all_from P slot (i + 1) n (λ k low high. h k (omega (arith, low)) (omega (arith, high))))

each_from : (P : Access → Type 0) (slot : SlotName) (i n : ℕ) → All P (cells_from slot i n)
    → (d k : ℕ) → k ≡ i + d → d < n → P (cell_access slot k)
each_from P slot i zero h d k is less = absurd (omega (arith, less))
each_from P slot i (suc n) h zero k is less = subst (λ j. P (cell_access slot j)) (omega (arith, is))
    (All-head P (cell_access slot i) (cells_from slot (i + 1) n) h)
each_from P slot i (suc n) h (suc d) k is less = each_from P slot (i + 1) n
    (All-tail P (cell_access slot i) (cells_from slot (i + 1) n) h) d k (omega (arith, is)) (omega (arith, less))

pub all_kept : (kept : Obj → Bool) (c : Cells) → KeepsCells kept c → All (λ a. kept a.object ≡ true) (cells_of c)
all_kept kept c h = all_from (λ a. kept a.object ≡ true) c.slot 0 c.count (λ k low high. h k (omega (arith, high)))

pub each_kept : (kept : Obj → Bool) (c : Cells) → All (λ a. kept a.object ≡ true) (cells_of c) → KeepsCells kept c
each_kept kept c h i less = each_from (λ a. kept a.object ≡ true) c.slot 0 c.count h i i (omega arith) less

-- cells of one slot at two indexes

abbrev index_of : Obj → ℕ
index_of (obj.Cell t f s i) = i
index_of _ = 0

other_cell : (slot : SlotName) (k i : ℕ) → k < i → obj_eq (cell_at slot k) (cell_at slot i) ≡ false
other_cell slot k i less = go (obj_eq (cell_at slot k) (cell_at slot i)) refl
  where
    go : (b : Bool) → obj_eq (cell_at slot k) (cell_at slot i) ≡ b → b ≡ false
    go false e = refl
    go true e = absurd (omega (arith, less, ap index_of (obj_eq-true (cell_at slot k) (cell_at slot i) e)))

swapped : (o p : Obj) (v w : Val) (s : State) → obj_eq o p ≡ false
    → with_value o v (with_value p w s) ≡ with_value p w (with_value o v s)
swapped o p v w s other = fun_ext λ q. go q (obj_eq o q) (obj_eq p q) refl refl
  where
    both : (q : Obj) → obj_eq o q ≡ true → obj_eq p q ≡ true → obj_eq o p ≡ true
    both q e f = ap (obj_eq o) (obj_eq-true p q f) ∙ e

    go : (q : Obj) (b c : Bool) → obj_eq o q ≡ b → obj_eq p q ≡ c
        → cond b v (cond c w (s q)) ≡ cond c w (cond b v (s q))
    go q true true e f = let no : false ≡ true = sym other ∙ both q e f in cc
    go q true false e f = refl
    go q false true e f = refl
    go q false false e f = refl

abbrev puts_listed : List Val → List Update
puts_listed vs = map Put vs

-- a put at a cell before the others
put_before : (slot : SlotName) (k i n : ℕ) (vs : List Val) (v : Val) (s : State) → k < i
    → with_value (cell_at slot k) v (updated (cells_from slot i n) (puts_listed vs) s)
    ≡ updated (cells_from slot i n) (puts_listed vs) (with_value (cell_at slot k) v s)
put_before slot k i zero vs v s less = refl
put_before slot k i (suc n) [] v s less = refl
put_before slot k i (suc n) (w ∷ ws) v s less =
    put_before slot k (i + 1) n ws v (with_value (cell_at slot i) w s) (omega (arith, less))
    ∙ ap (updated (cells_from slot (i + 1) n) (puts_listed ws))
    (swapped (cell_at slot k) (cell_at slot i) v w s (other_cell slot k i less))

back_of : (slot : SlotName) (i n : ℕ) (vs : List Val) (s : State)
    → taken_back (cells_from slot i n) (puts_listed vs) s ≡ updated (cells_from slot i n) (puts_listed vs) s
back_of slot i zero vs s = refl
back_of slot i (suc n) [] s = refl
back_of slot i (suc n) (v ∷ vs) s = ap (with_value (cell_at slot i) v) (back_of slot (i + 1) n vs s)
    ∙ put_before slot i (i + 1) n vs v s (omega arith)

abbrev values_of : List Was → List Val
values_of [] = []
values_of (was.Cells r ∷ ws) = replicate r.count (value.Cell r.cell) ++ values_of ws
values_of (was.Value v ∷ ws) = v ∷ values_of ws

run_listed : (c : cell.Cell) (n : ℕ) → puts_of c n ≡ puts_listed (replicate n (value.Cell c))
run_listed c zero = refl
run_listed c (suc n) = ap (λ us. Put (value.Cell c) ∷ us) (run_listed c n)

listed : (ws : List Was) → were_listed ws ≡ puts_listed (values_of ws)
listed [] = refl
listed (was.Cells r ∷ ws) = ap (λ us. us ++ were_listed ws) (run_listed r.cell r.count)
    ∙ ap (λ us. puts_listed (replicate r.count (value.Cell r.cell)) ++ us) (listed ws)
    ∙ sym (map-append Put (replicate r.count (value.Cell r.cell)) (values_of ws))
listed (was.Value v ∷ ws) = ap (λ us. Put v ∷ us) (listed ws)

-- taking back what cells were is putting it
pub taken_back-puts : (c : Cells) (ws : List Was) (s : State)
    → updated (cells_of c) (were_listed ws) s ≡ taken_back (cells_of c) (were_listed ws) s
taken_back-puts c ws s = ap (λ us. updated (cells_of c) us s) (listed ws)
    ∙ sym (back_of c.slot 0 c.count (values_of ws) s)
    ∙ sym (ap (λ us. taken_back (cells_of c) us s) (listed ws))

-- what takes a put of all cells back

old_with : (slot : SlotName) (k i n : ℕ) (v : Val) (s : State) → k < i
    → olds slot i n (with_value (cell_at slot k) v s) ≡ olds slot i n s
old_with slot k i zero v s less = refl
old_with slot k i (suc n) v s less =
    ap (λ b. Put (cond b v (s (cell_at slot i))) ∷ olds slot (i + 1) n (with_value (cell_at slot k) v s))
    (other_cell slot k i less)
    ∙ ap (λ us. Put (s (cell_at slot i)) ∷ us) (old_with slot k (i + 1) n v s (omega (arith, less)))

undone : (slot : SlotName) (c : cell.Cell) (i n : ℕ) (s : State)
    → olds slot i n s ≡ undo_record (cells_from slot i n) (puts_of c n) s
undone slot c i zero s = refl
undone slot c i (suc n) s = ap (λ us. Put (s (cell_at slot i)) ∷ us)
    (sym (old_with slot i (i + 1) n (value.Cell c) s (omega arith))
    ∙ undone slot c (i + 1) n (with_value (cell_at slot i) (value.Cell c) s))

pub undone_all : (c : Cells) (v : cell.Cell) (s : State)
    → olds c.slot 0 c.count s ≡ undo_record (cells_of c) (puts_of v c.count) s
undone_all c v s = undone c.slot v 0 c.count s

pub one_run : (c : cell.Cell) (n : ℕ) (ws : List Was) → ws ≡ was.Cells (record { cell = c; count = n }) ∷ []
    → were_listed ws ≡ puts_of c n
one_run c n ws is = ap were_listed is ∙ append-nil (puts_of c n)
