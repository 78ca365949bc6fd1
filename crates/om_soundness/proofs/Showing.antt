-- What a state shows after the updates of a step.
use Rattle.std.proofs.Common.{◌≡◌, ℕ, zero, suc, ◌+◌, ◌<◌, ◌≤◌, ℤ, Bool, true, false, cond, ◌&&◌, List, [], ◌∷◌, ◌++◌}
use Rattle.std.proofs.Common.{refl, sym, ap, ◌∙◌, subst, nat_eq, ⊎_elim, arith}
use Rattle.std.specs.Prelude.{if◌then◌else◌}
use Rattle.std.specs.List.{AllByRecursion}
use Rattle.std.specs.Cmp.Lexicographic.{pointwise}
use Rattle.std.proofs.lemmas.Bool.{cases_lt}
use Rattle.std.proofs.lemmas.Bool.Decides.{nat_tests, Decides-eqb}
use Rattle.om_foot.specs.declared.footprint.Access.{Access}
use Rattle.om_foot.specs.declared.footprint.Mode.{Mode}
use Rattle.om_foot.specs.declared.footprint.Mode.TheVariants as mode
use Rattle.om_foot.specs.declared.object.Obj.{Obj}
use Rattle.om_foot.specs.declared.object.Obj.TheVariants as obj
use Rattle.om_foot.specs.Footprint.{obj_eq}
use Rattle.om_foot.specs.Objects.{obj_eq-same}
use Rattle.om_code.specs.declared.frame.Cell.{Cell}
use Rattle.om_code.specs.declared.frame.Cell.TheVariants as cell
use Rattle.om_code.specs.declared.instruction.Place.{Place}
use Rattle.om_code.specs.declared.instruction.Place.TheVariants as place
use Rattle.om_code.specs.declared.raw.Raw.{Raw}
use Rattle.om_code.specs.Frames.{cells_in}
use Rattle.om_code.specs.Places.{slots_of}
use Rattle.om_state.specs.declared.control.Context.{Context}
use Rattle.om_state.specs.declared.control.Control.{Control}
use Rattle.om_state.specs.declared.control.Home.TheVariants.{Own}
use Rattle.om_state.specs.declared.step.Tail.TheVariants.{Bytes}
use Rattle.om_state.specs.declared.step.Update.{Update}
use Rattle.om_state.specs.declared.step.Update.TheVariants.{Put, Append}
use Rattle.om_state.specs.declared.value.Val.{Val}
use Rattle.om_state.specs.declared.value.Val.TheVariants as value
use Rattle.om_state.specs.Rules.{control_access}
use Rattle.om_state.specs.State.{State, state_after, updated, value_after}
use Rattle.om_state.specs.Values.{value_with}
use Rattle.om_team_serial.specs.Objects.{write, slot_cells}
use Rattle.om_team_serial.specs.SerialRows.{unsets}
use Rattle.om_lower_rules.specs.Worlds.{World, with_held}
use Rattle.om_soundness.specs.Alone.{Shows, Keeps, IsApart, next_of}

eq_flip : (m n : ℕ) → nat_eq m n ≡ nat_eq n m
eq_flip m n = grind (arith, nat_tests)

flip_both : (a b c d : ℕ) → (nat_eq a b && nat_eq c d) ≡ (nat_eq b a && nat_eq d c)
flip_both a b c d = ap (λ z. z && nat_eq c d) (eq_flip a b) ∙ ap (λ z. nat_eq b a && z) (eq_flip c d)

-- a cell that is put where a test holds, in a state and in a world
put_is : (b d : Bool) (new old : Cell) (v : Val) → b ≡ d → v ≡ value.Cell old
    → cond b (value.Cell new) v ≡ value.Cell (if d then new else old)
put_is true true new old v e h = refl
put_is true false new old v e h = absurd cc
put_is false true new old v e h = absurd cc
put_is false false new old v e h = h

-- the same put at each access
abbrev pub each : Val → List Access → List Update
each v [] = []
each v (a ∷ names) = Put v ∷ each v names

unsets_are : (names : List Access) → each (value.Cell cell.Unset) names ≡ unsets names
unsets_are [] = refl
unsets_are (a ∷ names) = ap (λ us. Put (value.Cell cell.Unset) ∷ us) (unsets_are names)

-- ---- what is apart

module _ (worker : ℕ) (c : Context) where
  pub beside_control : (q : Obj) → IsApart worker c q → obj_eq (obj.Control worker) q ≡ false
  beside_control (obj.Control other) h = h
  beside_control _ h = refl

  pub beside_events : (q : Obj) → IsApart worker c q → obj_eq (obj.Events worker) q ≡ false
  beside_events (obj.Events other) h = h
  beside_events _ h = refl

  pub beside_global : (variable index : ℕ) (q : Obj) → IsApart worker c q
      → obj_eq (obj.Global variable index) q ≡ false
  beside_global variable index (obj.Global v i) h = absurd h
  beside_global variable index _ h = refl

  pub beside_output : (q : Obj) → IsApart worker c q → obj_eq obj.Output q ≡ false
  beside_output obj.Output h = absurd h
  beside_output _ h = refl

  not_here : (same_task same_frame rest : Bool) → (same_task && same_frame) ≡ false
      → (same_task && (same_frame && rest)) ≡ false
  not_here true true rest h = absurd cc
  not_here true false rest h = refl
  not_here false same_frame rest h = refl

  pub beside_cell : (slot index : ℕ) (q : Obj) → IsApart worker c q
      → obj_eq (obj.Cell c.task c.frame.ordinal slot index) q ≡ false
  beside_cell slot index (obj.Cell t f s i) h =
      not_here (pointwise nat_eq c.task t) (nat_eq c.frame.ordinal f) (nat_eq slot s && nat_eq index i) h
  beside_cell slot index _ h = refl

  pub keeps_on : (a : Access) (u : Update) (before s : State)
      → ((q : Obj) → IsApart worker c q → obj_eq a.object q ≡ false) → Keeps worker c before s
      → Keeps worker c before (state_after a u s)
  keeps_on a u before s apart k = λ q h. ap (λ b. cond b (value_after a.mode u (s q)) (s q)) (apart q h) ∙ k q h

-- ---- what a state shows

module _ (program : Raw) (worker : ℕ) (c : Context) where
  pub control_put : (old new : Control) (w : World) (s : State) → Shows program worker c old w s
      → Shows program worker c new w (state_after (control_access (next_of worker)) (Put (value.Control new)) s)
  control_put old new w s h = record {
    control = ap (λ b. cond b (value.Control new) (s (obj.Control worker))) (obj_eq-same (obj.Control worker));
    slots = h.slots;
    globals = h.globals;
    output = h.output;
  }

  pub events_put : (control : Control) (u : Update) (w : World) (s : State) → Shows program worker c control w s
      → Shows program worker c control w (state_after (write (obj.Events worker)) u s)
  events_put control u w s h = record { control = h.control; slots = h.slots; globals = h.globals; output = h.output }

  pub output_put : (control : Control) (bytes : List ℕ) (w : World) (s : State) → Shows program worker c control w s
      → Shows program worker c control (record w { output = w.output ++ bytes })
      (state_after (write obj.Output) (Append (Bytes bytes)) s)
  output_put control bytes w s h = record {
    control = h.control;
    slots = h.slots;
    globals = h.globals;
    output = ap (value_with (Bytes bytes)) h.output;
  }

  here_is : (slot index n k : ℕ)
      → obj_eq (obj.Cell c.task c.frame.ordinal slot index)
      (obj.Cell c.task c.frame.ordinal n k) ≡ (nat_eq slot n && nat_eq index k)
  here_is slot index n k =
      ap (λ b. b && (nat_eq c.frame.ordinal c.frame.ordinal && (nat_eq slot n && nat_eq index k)))
      (obj_eq-same (obj.Task c.task))
      ∙ ap (λ b. b && (nat_eq slot n && nat_eq index k)) (obj_eq-same (obj.Control c.frame.ordinal))

  -- the object of a variable's cell, where the frame owns its cells
  abbrev pub own_object : Place → ℕ → Obj
  own_object (place.Global variable) index = obj.Global variable index
  own_object (place.Slot slot) index = obj.Cell c.task c.frame.ordinal slot index

  pub cell_put : (control : Control) (p : Place) (index : ℕ) (v : ℤ) (w : World) (s : State)
      → Shows program worker c control w s
      → Shows program worker c control (with_held w p index (cell.Int v))
      (state_after (write (own_object p index)) (Put (value.Cell (cell.Int v))) s)
  cell_put control (place.Global variable) index v w s h = record {
    control = h.control;
    slots = h.slots;
    globals = λ n k. put_is (nat_eq variable n && nat_eq index k) (nat_eq n variable && nat_eq k index) (cell.Int v)
        (w.globals n k) (s (obj.Global n k))
        (flip_both variable n index k) (h.globals n k);
    output = h.output;
  }
  cell_put control (place.Slot slot) index v w s h = record {
    control = h.control;
    slots = λ n k lt. put_is (obj_eq (obj.Cell c.task c.frame.ordinal slot index)
        (obj.Cell c.task c.frame.ordinal n k)) (nat_eq n slot && nat_eq k index)
        (cell.Int v) (w.slots n k) (s (obj.Cell c.task c.frame.ordinal n k))
        (here_is slot index n k ∙ flip_both slot n index k) (h.slots n k lt);
    globals = h.globals;
    output = h.output;
  }

  pub keeps_cell : (p : Place) (index : ℕ) (u : Update) (before s : State) → Keeps worker c before s
      → Keeps worker c before (state_after (write (own_object p index)) u s)
  keeps_cell (place.Global variable) index u before s k =
      keeps_on worker c (write (obj.Global variable index)) u before s (beside_global worker c variable index) k
  keeps_cell (place.Slot slot) index u before s k =
      keeps_on worker c (write (obj.Cell c.task c.frame.ordinal slot index)) u before s
      (beside_cell worker c slot index) k

  -- ---- a slot with the same put in each of its cells

  abbrev pub cells_from : (slot index count : ℕ) → List Access
  cells_from slot index count = slot_cells c.task c.frame.ordinal slot Own index count

  module _ (v : Val) where
    pub all_written : (slot index count : ℕ) → AllByRecursion (λ a. a.mode ≡ mode.Write) (cells_from slot index count)
    all_written slot index zero = tt
    all_written slot index (suc count) = (refl, all_written slot (index + 1) count)

    pub slot_elsewhere : (q : Obj) (slot index count : ℕ) (s : State)
        → ((i : ℕ) → obj_eq (obj.Cell c.task c.frame.ordinal slot i) q ≡ false)
        → updated (cells_from slot index count) (each v (cells_from slot index count)) s q ≡ s q
    slot_elsewhere q slot index zero s apart = refl
    slot_elsewhere q slot index (suc count) s apart =
        slot_elsewhere q slot (index + 1) count
        (state_after (write (obj.Cell c.task c.frame.ordinal slot index)) (Put v) s) apart
        ∙ ap (λ b. cond b v (s q)) (apart index)

    put_or : (b : Bool) (u : Val) → u ≡ v → cond b v u ≡ v
    put_or true u e = refl
    put_or false u e = e

    pub stays : (q : Obj) (names : List Access) (s : State) → AllByRecursion (λ a. a.mode ≡ mode.Write) names
        → s q ≡ v → updated names (each v names) s q ≡ v
    stays q [] s writes e = e
    stays q (a ∷ names) s writes e =
        stays q names (state_after a (Put v) s) writes.1 (put_there q a a.mode (s q) writes.0 e)
      where
        put_there : (q : Obj) (a : Access) (m : Mode) (u : Val) → m ≡ mode.Write → u ≡ v
            → cond (obj_eq a.object q) (value_after m (Put v) u) u ≡ v
        put_there q a m u is e = subst (λ n. cond (obj_eq a.object q) (value_after n (Put v) u) u ≡ v) (sym is)
            (put_or (obj_eq a.object q) u e)

    pub slot_there : (slot index count k : ℕ) (s : State) → index ≤ k → k < index + count
        → updated (cells_from slot index count) (each v (cells_from slot index count)) s
        (obj.Cell c.task c.frame.ordinal slot k) ≡ v
    slot_there slot index zero k s le lt = absurd (omega (arith, le, lt))
    slot_there slot index (suc count) k s le lt =
        ⊎_elim
        (λ (more : index < k). slot_there slot (index + 1) count k
        (state_after (write (obj.Cell c.task c.frame.ordinal slot index)) (Put v) s)
        (omega (arith, more)) (omega (arith, lt)))
        (λ (less : k ≤ index). stays (obj.Cell c.task c.frame.ordinal slot k) (cells_from slot (index + 1) count)
        (state_after (write (obj.Cell c.task c.frame.ordinal slot index)) (Put v) s)
        (all_written slot (index + 1) count)
        (let same : index ≡ k = omega (arith, less, le) in
        subst (λ i. cond (obj_eq (obj.Cell c.task c.frame.ordinal slot index)
        (obj.Cell c.task c.frame.ordinal slot i)) v (s (obj.Cell c.task c.frame.ordinal slot i)) ≡ v) same
        (ap (λ b. cond b v (s (obj.Cell c.task c.frame.ordinal slot index)))
        (obj_eq-same (obj.Cell c.task c.frame.ordinal slot index)))))
        (cases_lt index k)

  -- ---- CLEAR

  clear_at : (slot count n k : ℕ) (old : Cell) (s : State) → (n ≡ slot → k < count)
      → s (obj.Cell c.task c.frame.ordinal n k) ≡ value.Cell old → (b : Bool) → nat_eq n slot ≡ b
      → updated (cells_from slot 0 count) (each (value.Cell cell.Unset) (cells_from slot 0 count)) s
      (obj.Cell c.task c.frame.ordinal n k) ≡ value.Cell (if b then cell.Unset else old)
  clear_at slot count n k old s inside h true e =
      let same : n ≡ slot = (Decides-eqb n slot).0 e in
      subst (λ m. updated (cells_from slot 0 count) (each (value.Cell cell.Unset) (cells_from slot 0 count)) s
      (obj.Cell c.task c.frame.ordinal m k) ≡ value.Cell cell.Unset) (sym same)
      (slot_there (value.Cell cell.Unset) slot 0 count k s (omega arith) (omega (arith, inside same)))
  clear_at slot count n k old s inside h false e =
      slot_elsewhere (value.Cell cell.Unset) (obj.Cell c.task c.frame.ordinal n k) slot 0 count s
      (λ i. here_is slot i n k ∙ ap (λ b. b && nat_eq i k) (eq_flip slot n ∙ e)) ∙ h

  cleared_by : (control : Control) (slot : ℕ) (w : World) (s : State) → Shows program worker c control w s
      → Shows program worker c control (record w { slots = λ n k. if nat_eq n slot then cell.Unset else w.slots n k })
      (updated (cells_from slot 0 (cells_in program (slots_of program c.frame.body) (place.Slot slot)))
      (each (value.Cell cell.Unset) (cells_from slot 0
      (cells_in program (slots_of program c.frame.body) (place.Slot slot)))) s)
  cleared_by control slot w s h =
      let count : ℕ = cells_in program (slots_of program c.frame.body) (place.Slot slot) in
      let unset : Val = value.Cell cell.Unset in
      record {
        control = slot_elsewhere unset (obj.Control worker) slot 0 count s (λ i. refl) ∙ h.control;
        slots = λ n k lt.
            clear_at slot count n k (w.slots n k) s
            (λ same. subst (λ m. k < cells_in program (slots_of program c.frame.body) (place.Slot m)) same lt)
            (h.slots n k lt)
            (nat_eq n slot) refl;
        globals = λ n k. slot_elsewhere unset (obj.Global n k) slot 0 count s (λ i. refl) ∙ h.globals n k;
        output = slot_elsewhere unset obj.Output slot 0 count s (λ i. refl) ∙ h.output;
      }

  pub slot_cleared : (control : Control) (slot : ℕ) (w : World) (s : State) → Shows program worker c control w s
      → Shows program worker c control (record w { slots = λ n k. if nat_eq n slot then cell.Unset else w.slots n k })
      (updated (cells_from slot 0 (cells_in program (slots_of program c.frame.body) (place.Slot slot)))
      (unsets (cells_from slot 0 (cells_in program (slots_of program c.frame.body) (place.Slot slot)))) s)
  slot_cleared control slot w s h =
      let cells : List Access = cells_from slot 0 (cells_in program (slots_of program c.frame.body) (place.Slot slot))
      in
      subst (λ us. Shows program worker c control
      (record w { slots = λ n k. if nat_eq n slot then cell.Unset else w.slots n k }) (updated cells us s))
      (unsets_are cells)
      (cleared_by control slot w s h)

  pub keeps_slot : (slot count : ℕ) (before s : State) → Keeps worker c before s
      → Keeps worker c before (updated (cells_from slot 0 count) (unsets (cells_from slot 0 count)) s)
  keeps_slot slot count before s k =
      λ q h.
      ap (λ us. updated (cells_from slot 0 count) us s q) (sym (unsets_are (cells_from slot 0 count)))
      ∙ slot_elsewhere (value.Cell cell.Unset) q slot 0 count s (λ i. beside_cell worker c slot i q h) ∙ k q h
