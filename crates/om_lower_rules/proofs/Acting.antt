-- What each instruction makes of a frame is what the meaning says of its world.
use Rattle.std.proofs.Common.{◌≡◌, ℕ, ◌+◌, ℤ, true, false, List, Option, Some, None, refl, ap, ◌∙◌}
use Rattle.std.specs.Prelude.{Result, Ok, Err}
use Rattle.om_code.specs.declared.frame.Cell.{Cell}
use Rattle.om_code.specs.declared.frame.Cell.TheVariants as cell
use Rattle.om_code.specs.declared.frame.Fault.{Fault}
use Rattle.om_code.specs.declared.frame.Operand.{Operand}
use Rattle.om_code.specs.declared.instruction.BinaryOperator as machine
use Rattle.om_code.specs.declared.instruction.Instr.{Instr}
use Rattle.om_code.specs.declared.instruction.Instr.TheVariants as i
use Rattle.om_code.specs.declared.instruction.Serial.TheVariants as serials
use Rattle.om_code.specs.declared.instruction.Place.{Place}
use Rattle.om_code.specs.declared.instruction.Place.TheVariants as place
use Rattle.om_code.specs.declared.instruction.UnaryOperator as unary
use Rattle.om_code.specs.declared.raw.Raw.{Raw}
use Rattle.om_code.specs.declared.raw.Slot.{Slot}
use Rattle.om_code.specs.Frames.{Reads, Writes}
use Rattle.om_code.specs.Arithmetic.{operate, operate_on_one}
use Rattle.om_code.specs.Frames as frames
use Rattle.om_code.specs.Frames.{FrameTurn, Faulted, act_at, acted, turned, decided, gives, loaded, stored, kept, reads}
use Rattle.om_code.specs.Frames.{writes, cells_in, index_in}
use Rattle.om_lower_rules.specs.Meaning.{load_element, store_element}
use Rattle.om_lower_rules.specs.Running.{frame, with_int}
use Rattle.om_lower_rules.specs.Worlds.{World, Outcome, Got, Faulty, with_held, result, load, store, found, put_into}
use Rattle.om_lower_rules.specs.Worlds.{at_index, clear}

-- a turn that pushes a value, or faults
abbrev pub Pushed : FrameTurn → ℕ → List Operand → Outcome → Type 0
Pushed t q s (Got v w) = t ≡ frames.Onward (frame q (with_int v s) w)
Pushed t q s (Faulty f w) = (p : ℕ) × (r : List Operand) × (t ≡ Faulted f (frame p r w))

-- a turn that pushes nothing, or faults
abbrev pub Dropped : FrameTurn → ℕ → List Operand → Outcome → Type 0
Dropped t q s (Got v w) = t ≡ frames.Onward (frame q s w)
Dropped t q s (Faulty f w) = (p : ℕ) × (r : List Operand) × (t ≡ Faulted f (frame p r w))

module _ (raw : Raw) (slots : List Slot) where
  -- the turn of an instruction
  abbrev pub turn_on : Instr → ℕ → List Operand → World → FrameTurn
  turn_on x p s w = acted raw (frame p s w) (act_at raw slots x s)

  pub unary_acts : (o : unary.UnaryOperator) (p : ℕ) (v : ℤ) (s : List Operand) (w : World)
      → Pushed (turn_on (i.Serial (serials.Unary o)) p (with_int v s) w) (p + 1) s (result (operate_on_one o v) w)
  unary_acts o p v s w = given (operate_on_one o v)
    where
      given : (r : Result ℤ Fault) → Pushed (acted raw (frame p (with_int v s) w) (decided (gives 1 r))) (p + 1) s
          (result r w)
      given (Ok z) = refl
      given (Err f) = (p, with_int v s, refl)

  pub binary_acts : (o : machine.BinaryOperator) (p : ℕ) (x y : ℤ) (s : List Operand) (w : World)
      → Pushed (turn_on (i.Serial (serials.Binary o)) p (with_int y (with_int x s)) w) (p + 1) s (result (operate o x y) w)
  binary_acts o p x y s w = given (operate o x y)
    where
      given : (r : Result ℤ Fault) → Pushed (acted raw (frame p (with_int y (with_int x s)) w)
          (decided (gives 2 r))) (p + 1) s (result r w)
      given (Ok z) = refl
      given (Err f) = (p, with_int y (with_int x s), refl)

  -- ---- variables and elements

  loads : (at : Place) (index p : ℕ) (s : List Operand) (w : World)
      → Pushed (acted raw (frame p s w) (reads at index (loaded 0))) (p + 1) s (load at index w)
  unfolding load
  loads (place.Global n) index p s w = held_there (w.globals n index)
    where
      held_there : (c : Cell) → Pushed (turned raw (frame p s w) (Reads (place.Global n) index) (loaded 0 c))
          (p + 1) s (found c w)
      held_there (cell.Int v) = refl
      held_there cell.Unset = (p, s, refl)
      held_there cell.Dead = (p, s, refl)
  loads (place.Slot n) index p s w = held_there (w.slots n index)
    where
      held_there : (c : Cell) → Pushed (turned raw (frame p s w) (Reads (place.Slot n) index) (loaded 0 c)) (p + 1)
          s (found c w)
      held_there (cell.Int v) = refl
      held_there cell.Unset = (p, s, refl)
      held_there cell.Dead = (p, s, refl)

  pub load_acts : (at : Place) (p : ℕ) (s : List Operand) (w : World) → Pushed (turn_on (i.Serial (serials.Load at)) p s w) (p + 1) s
      (load at 0 w)
  load_acts at p s w = loads at 0 p s w

  element_loads : (at : Place) (index p : ℕ) (n : ℤ) (s : List Operand) (w : World)
      → Pushed (acted raw (frame p (with_int n s) w) (reads at index (loaded 1))) (p + 1) s (load at index w)
  unfolding load
  element_loads (place.Global g) index p n s w = held_there (w.globals g index)
    where
      held_there : (c : Cell) → Pushed (turned raw (frame p (with_int n s) w) (Reads (place.Global g) index)
          (loaded 1 c)) (p + 1) s (found c w)
      held_there (cell.Int v) = refl
      held_there cell.Unset = (p, with_int n s, refl)
      held_there cell.Dead = (p, with_int n s, refl)
  element_loads (place.Slot g) index p n s w = held_there (w.slots g index)
    where
      held_there : (c : Cell) → Pushed (turned raw (frame p (with_int n s) w) (Reads (place.Slot g) index)
          (loaded 1 c)) (p + 1) s (found c w)
      held_there (cell.Int v) = refl
      held_there cell.Unset = (p, with_int n s, refl)
      held_there cell.Dead = (p, with_int n s, refl)

  pub load_element_acts : (at : Place) (p : ℕ) (n : ℤ) (s : List Operand) (w : World)
      → Pushed (turn_on (i.Serial (serials.LoadElement at)) p (with_int n s) w) (p + 1) s (load_element at (cells_in raw slots at) n w)
  load_element_acts at p n s w = at_place (index_in (cells_in raw slots at) n)
    where
      at_place : (o : Option ℕ)
          → Pushed (acted raw (frame p (with_int n s) w) (frames.at_index o (λ k. reads at k (loaded 1)))) (p + 1) s
          (at_index o w (λ k. load at k w))
      at_place None = (p, with_int n s, refl)
      at_place (Some k) = element_loads at k p n s w

  -- a value is put, and kept on the stack
  stores : (at : Place) (takes index p q : ℕ) (pushed : Option Operand) (v : ℤ) (s t : List Operand) (w : World)
      → frames.moved takes pushed s ≡ t → p + 1 ≡ q
      → Dropped (acted raw (frame p s w) (writes at index (stored takes pushed v))) q t (store at index v w)
  unfolding store
  stores (place.Global g) takes index p q pushed v s t w e at = held_there (w.globals g index)
    where
      held_there : (c : Cell) → Dropped (turned raw (frame p s w) (Writes (place.Global g) index)
          (stored takes pushed v c)) q t (put_into c (place.Global g) index v w)
      held_there (cell.Int z) =
          ap (λ r. frames.Onward (frame (p + 1) r (with_held w (place.Global g) index (cell.Int v)))) e
          ∙ ap (λ n. frames.Onward (frame n t (with_held w (place.Global g) index (cell.Int v)))) at
      held_there cell.Unset =
          ap (λ r. frames.Onward (frame (p + 1) r (with_held w (place.Global g) index (cell.Int v)))) e
          ∙ ap (λ n. frames.Onward (frame n t (with_held w (place.Global g) index (cell.Int v)))) at
      held_there cell.Dead = (p, s, refl)
  stores (place.Slot g) takes index p q pushed v s t w e at = held_there (w.slots g index)
    where
      held_there : (c : Cell) → Dropped (turned raw (frame p s w) (Writes (place.Slot g) index)
          (stored takes pushed v c)) q t (put_into c (place.Slot g) index v w)
      held_there (cell.Int z) =
          ap (λ r. frames.Onward (frame (p + 1) r (with_held w (place.Slot g) index (cell.Int v)))) e
          ∙ ap (λ n. frames.Onward (frame n t (with_held w (place.Slot g) index (cell.Int v)))) at
      held_there cell.Unset =
          ap (λ r. frames.Onward (frame (p + 1) r (with_held w (place.Slot g) index (cell.Int v)))) e
          ∙ ap (λ n. frames.Onward (frame n t (with_held w (place.Slot g) index (cell.Int v)))) at
      held_there cell.Dead = (p, s, refl)

  -- what a store leaves, with its value on top, is what it pushes
  pushed_of : (t : FrameTurn) (q : ℕ) (v : ℤ) (s : List Operand) (at : Place) (index : ℕ) (w : World)
      → Dropped t q (with_int v s) (store at index v w) → Pushed t q s (store at index v w)
  unfolding store
  pushed_of t q v s (place.Global g) index w d = held_there (w.globals g index) d
    where
      held_there : (c : Cell) → Dropped t q (with_int v s) (put_into c (place.Global g) index v w)
          → Pushed t q s (put_into c (place.Global g) index v w)
      held_there (cell.Int z) d = d
      held_there cell.Unset d = d
      held_there cell.Dead d = d
  pushed_of t q v s (place.Slot g) index w d = held_there (w.slots g index) d
    where
      held_there : (c : Cell) → Dropped t q (with_int v s) (put_into c (place.Slot g) index v w)
          → Pushed t q s (put_into c (place.Slot g) index v w)
      held_there (cell.Int z) d = d
      held_there cell.Unset d = d
      held_there cell.Dead d = d

  pub store_keeps : (at : Place) (p : ℕ) (v : ℤ) (s : List Operand) (w : World)
      → Pushed (turn_on (i.Serial (serials.Store at true)) p (with_int v s) w) (p + 1) s (store at 0 v w)
  store_keeps at p v s w = pushed_of _ (p + 1) v s at 0 w (stores at 0 0 p (p + 1) None v (with_int v s)
      (with_int v s) w refl refl)

  pub store_drops : (at : Place) (p : ℕ) (v : ℤ) (s : List Operand) (w : World)
      → Dropped (turn_on (i.Serial (serials.Store at false)) p (with_int v s) w) (p + 1) s (store at 0 v w)
  store_drops at p v s w = stores at 1 0 p (p + 1) None v (with_int v s) s w refl refl

  pub store_element_keeps : (at : Place) (p : ℕ) (n v : ℤ) (s : List Operand) (w : World)
      → Pushed (turn_on (i.Serial (serials.StoreElement at true)) p (with_int v (with_int n s)) w) (p + 1) s
      (store_element at (cells_in raw slots at) n v w)
  store_element_keeps at p n v s w = at_place (index_in (cells_in raw slots at) n)
    where
      at_place : (o : Option ℕ) → Pushed (acted raw (frame p (with_int v (with_int n s)) w)
          (frames.at_index o (λ k. writes at k (stored 2 (kept true v) v)))) (p + 1) s
          (at_index o w (λ k. store at k v w))
      at_place None = (p, with_int v (with_int n s), refl)
      at_place (Some k) = pushed_of _ (p + 1) v s at k w (stores at 2 k p (p + 1) (kept true v) v
          (with_int v (with_int n s)) (with_int v s) w refl refl)

  pub store_element_drops : (at : Place) (p : ℕ) (n v : ℤ) (s : List Operand) (w : World)
      → Dropped (turn_on (i.Serial (serials.StoreElement at false)) p (with_int v (with_int n s)) w) (p + 1) s
      (store_element at (cells_in raw slots at) n v w)
  store_element_drops at p n v s w = at_place (index_in (cells_in raw slots at) n)
    where
      at_place : (o : Option ℕ) → Dropped (acted raw (frame p (with_int v (with_int n s)) w)
          (frames.at_index o (λ k. writes at k (stored 2 (kept false v) v)))) (p + 1) s
          (at_index o w (λ k. store at k v w))
      at_place None = (p, with_int v (with_int n s), refl)
      at_place (Some k) = stores at 2 k p (p + 1) (kept false v) v (with_int v (with_int n s)) s w refl refl

  pub clear_acts : (slot p : ℕ) (s : List Operand) (w : World) → turn_on (i.Serial (serials.Clear slot)) p s w
      ≡ frames.Onward (frame (p + 1) s (clear slot w))
  unfolding clear
  clear_acts slot p s w = refl
