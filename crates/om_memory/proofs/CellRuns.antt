-- Updates of a slot's cells change no control, and are those of the other values.
use Rattle.std.proofs.Common.{◌≡◌, refl, ◌∙◌, ap, Bool, true, ℕ, zero, suc, ◌+◌, List, [], ◌∷◌}
use Rattle.std.proofs.Math.Path.{fun_ext}
use Rattle.std.proofs.lemmas.List.Elements.{All-nil, All-cons, All-head, All-tail}
use Rattle.std.specs.Prelude.{All}
use Rattle.om_foot.specs.declared.object.Obj.{Obj}
use Rattle.om_foot.specs.declared.object.Obj.TheVariants as obj
use Rattle.om_foot.specs.declared.object.SlotName.{SlotName}
use Rattle.om_foot.specs.declared.object.Cells.{Cells}
use Rattle.om_state.specs.declared.step.Update.{Update}
use Rattle.om_state.specs.State.{State, undo_of, state_after, state_before, updated, taken_back, undo_record}
use Rattle.om_foot.specs.Cells.{cell_access, cells_from, cells_of}
use Rattle.om_memory.specs.Trails.{TrailView}
use Rattle.om_memory.specs.Memories.{held_by, kept_by}

-- what is kept

kept_from : (ts : List TrailView) (k : Obj → Bool) (slot : SlotName) (i n : ℕ)
    → All (λ a. k a.object ≡ true) (cells_from slot i n) → All (λ a. kept_by ts k a.object ≡ true) (cells_from slot i n)
kept_from ts k slot i zero h = All-nil (λ a. kept_by ts k a.object ≡ true)
kept_from ts k slot i (suc n) h =
    All-cons (λ a. kept_by ts k a.object ≡ true) (cell_access slot i) (cells_from slot (i + 1) n)
    (All-head (λ a. k a.object ≡ true) (cell_access slot i) (cells_from slot (i + 1) n) h)
    (kept_from ts k slot (i + 1) n
    (All-tail (λ a. k a.object ≡ true) (cell_access slot i) (cells_from slot (i + 1) n) h))

pub cells_kept : (ts : List TrailView) (k : Obj → Bool) (c : Cells)
    → All (λ a. k a.object ≡ true) (cells_of c) → All (λ a. kept_by ts k a.object ≡ true) (cells_of c)
cells_kept ts k c h = kept_from ts k c.slot 0 c.count h

kept_to : (ts : List TrailView) (k : Obj → Bool) (slot : SlotName) (i n : ℕ)
    → All (λ a. kept_by ts k a.object ≡ true) (cells_from slot i n) → All (λ a. k a.object ≡ true) (cells_from slot i n)
kept_to ts k slot i zero h = All-nil (λ a. k a.object ≡ true)
kept_to ts k slot i (suc n) h =
    All-cons (λ a. k a.object ≡ true) (cell_access slot i) (cells_from slot (i + 1) n)
    (All-head (λ a. kept_by ts k a.object ≡ true) (cell_access slot i) (cells_from slot (i + 1) n) h)
    (kept_to ts k slot (i + 1) n
    (All-tail (λ a. kept_by ts k a.object ≡ true) (cell_access slot i) (cells_from slot (i + 1) n) h))

pub values_kept : (ts : List TrailView) (k : Obj → Bool) (c : Cells)
    → All (λ a. kept_by ts k a.object ≡ true) (cells_of c) → All (λ a. k a.object ≡ true) (cells_of c)
values_kept ts k c h = kept_to ts k c.slot 0 c.count h

-- one update

after_at : (ts : List TrailView) (slot : SlotName) (i : ℕ) (u : Update) (s : State) (q : Obj)
    → held_by ts (state_after (cell_access slot i) u s) q ≡ state_after (cell_access slot i) u (held_by ts s) q
after_at ts slot i u s (obj.Control w) = refl
after_at ts slot i u s (obj.Cell a b c d) = refl
after_at ts slot i u s (obj.Global a b) = refl
after_at ts slot i u s (obj.Task a) = refl
after_at ts slot i u s (obj.Kids a) = refl
after_at ts slot i u s (obj.Pending a b) = refl
after_at ts slot i u s (obj.Arrived a b) = refl
after_at ts slot i u s (obj.Work a b) = refl
after_at ts slot i u s (obj.Lock a) = refl
after_at ts slot i u s (obj.Group a) = refl
after_at ts slot i u s obj.Output = refl
after_at ts slot i u s (obj.Events a) = refl

before_at : (ts : List TrailView) (slot : SlotName) (i : ℕ) (u : Update) (s : State) (q : Obj)
    → held_by ts (state_before (cell_access slot i) u s) q ≡ state_before (cell_access slot i) u (held_by ts s) q
before_at ts slot i u s (obj.Control w) = refl
before_at ts slot i u s (obj.Cell a b c d) = refl
before_at ts slot i u s (obj.Global a b) = refl
before_at ts slot i u s (obj.Task a) = refl
before_at ts slot i u s (obj.Kids a) = refl
before_at ts slot i u s (obj.Pending a b) = refl
before_at ts slot i u s (obj.Arrived a b) = refl
before_at ts slot i u s (obj.Work a b) = refl
before_at ts slot i u s (obj.Lock a) = refl
before_at ts slot i u s (obj.Group a) = refl
before_at ts slot i u s obj.Output = refl
before_at ts slot i u s (obj.Events a) = refl

after : (ts : List TrailView) (slot : SlotName) (i : ℕ) (u : Update) (s : State)
    → held_by ts (state_after (cell_access slot i) u s) ≡ state_after (cell_access slot i) u (held_by ts s)
after ts slot i u s = fun_ext λ q. after_at ts slot i u s q

before : (ts : List TrailView) (slot : SlotName) (i : ℕ) (u : Update) (s : State)
    → held_by ts (state_before (cell_access slot i) u s) ≡ state_before (cell_access slot i) u (held_by ts s)
before ts slot i u s = fun_ext λ q. before_at ts slot i u s q

-- all of them

updated_from : (ts : List TrailView) (slot : SlotName) (i n : ℕ) (us : List Update) (s : State)
    → held_by ts (updated (cells_from slot i n) us s) ≡ updated (cells_from slot i n) us (held_by ts s)
updated_from ts slot i zero us s = refl
updated_from ts slot i (suc n) [] s = refl
updated_from ts slot i (suc n) (u ∷ us) s =
    updated_from ts slot (i + 1) n us (state_after (cell_access slot i) u s)
    ∙ ap (updated (cells_from slot (i + 1) n) us) (after ts slot i u s)

pub cells_updated : (ts : List TrailView) (c : Cells) (us : List Update) (s t : State) → t ≡ updated (cells_of c) us s
    → held_by ts t ≡ updated (cells_of c) us (held_by ts s)
cells_updated ts c us s t is = ap (held_by ts) is ∙ updated_from ts c.slot 0 c.count us s

taken_from : (ts : List TrailView) (slot : SlotName) (i n : ℕ) (us : List Update) (s : State)
    → held_by ts (taken_back (cells_from slot i n) us s) ≡ taken_back (cells_from slot i n) us (held_by ts s)
taken_from ts slot i zero us s = refl
taken_from ts slot i (suc n) [] s = refl
taken_from ts slot i (suc n) (u ∷ us) s =
    before ts slot i u (taken_back (cells_from slot (i + 1) n) us s)
    ∙ ap (state_before (cell_access slot i) u) (taken_from ts slot (i + 1) n us s)

pub cells_taken : (ts : List TrailView) (c : Cells) (us : List Update) (s t : State)
    → t ≡ taken_back (cells_of c) us s → held_by ts t ≡ taken_back (cells_of c) us (held_by ts s)
cells_taken ts c us s t is = ap (held_by ts) is ∙ taken_from ts c.slot 0 c.count us s

undo_from : (ts : List TrailView) (slot : SlotName) (i n : ℕ) (us : List Update) (s : State)
    → undo_record (cells_from slot i n) us s ≡ undo_record (cells_from slot i n) us (held_by ts s)
undo_from ts slot i zero us s = refl
undo_from ts slot i (suc n) [] s = refl
undo_from ts slot i (suc n) (u ∷ us) s =
    ap (λ vs. undo_of (cell_access slot i).mode u (s (cell_access slot i).object) ∷ vs)
    (undo_from ts slot (i + 1) n us (state_after (cell_access slot i) u s)
    ∙ ap (undo_record (cells_from slot (i + 1) n) us) (after ts slot i u s))

pub cells_undo : (ts : List TrailView) (c : Cells) (us : List Update) (s : State)
    → undo_record (cells_of c) us s ≡ undo_record (cells_of c) us (held_by ts s)
cells_undo ts c us s = undo_from ts c.slot 0 c.count us s
