-- The rows of the frame machine's acts: the state behind a step shows the frame behind the act's turn.
use Rattle.std.proofs.Common.{◌≡◌, ℕ, ◌+◌, ◌<◌, ℤ, List, [], ◌∷◌, Option, Some, None, refl, sym, ap, subst}
use Rattle.std.specs.Prelude.{drop, unwrap_or}
use Rattle.om_foot.specs.declared.footprint.Access.{Access}
use Rattle.om_foot.specs.declared.object.Obj.{Obj}
use Rattle.om_foot.specs.declared.object.Obj.TheVariants as obj
use Rattle.om_code.specs.declared.frame.Cell.{Cell}
use Rattle.om_code.specs.declared.frame.Cell.TheVariants as cell
use Rattle.om_code.specs.declared.frame.Operand.{Operand}
use Rattle.om_code.specs.declared.instruction.Place.{Place}
use Rattle.om_code.specs.declared.instruction.Place.TheVariants as place
use Rattle.om_code.specs.declared.raw.Raw.{Raw}
use Rattle.om_code.specs.declared.raw.Slot.{Slot}
use Rattle.om_code.specs.Frames.{Touch}
use Rattle.om_code.specs.Frames.{Nothing, Reads, Writes, Clears, Prints}
use Rattle.om_code.specs.declared.act.Turn.{Turn}
use Rattle.om_code.specs.declared.act.Turn.TheVariants.{Goes, Returns, Finishes, Faults, Lacks}
use Rattle.om_code.specs.Frames as frames
use Rattle.om_code.specs.Frames.{Frame, FrameTurn, Act, acted, turned, cells_in, cell_at, content, print_bytes}
use Rattle.om_code.specs.Places.{slots_of}
use Rattle.om_state.specs.declared.control.Control.{Control}
use Rattle.om_state.specs.declared.control.Control.TheVariants.{Running, Faulted, Ended}
use Rattle.om_state.specs.declared.control.Stack.{Stack}
use Rattle.om_state.specs.declared.control.Edit.TheVariants.{Go}
use Rattle.om_state.specs.declared.step.Tail.TheVariants.{Bytes}
use Rattle.om_state.specs.declared.step.Update.TheVariants.{Put, Append}
use Rattle.om_state.specs.declared.value.Val.TheVariants as value
use Rattle.om_state.specs.Edits.{value_given}
use Rattle.om_state.specs.Homes.{cell_of}
use Rattle.om_state.specs.Rules.{control_access, state_after_outcome}
use Rattle.om_state.specs.State.{State, state_after, values_read}
use Rattle.om_state.specs.Values.{cell_in}
use Rattle.om_team_serial.specs.declared.row.Row.{Row}
use Rattle.om_team_serial.specs.declared.row.Row.TheVariants as row
use Rattle.om_team_serial.specs.Rows.{Asked}
use Rattle.om_team_serial.specs.Objects.{read, write, object_of, slot_cells}
use Rattle.om_team_serial.specs.SerialRows.{row_of, touch_row, unsets}
use Rattle.om_task.specs.Rules.{outcome_after}
use Rattle.om_lower_rules.specs.Running.{world_of}
use Rattle.om_lower_rules.specs.Worlds.{World, with_held}
use Rattle.om_soundness.specs.Alone.{Shows, Keeps, OwnsCells, dead, next_of, stack_at}
use Rattle.om_soundness.specs.AloneLaws.{CanFinish, IsCalled}
use Rattle.om_soundness.proofs.Showing.{control_put, output_put, cell_put, keeps_cell, keeps_on, keeps_slot, slot_cleared}
use Rattle.om_soundness.proofs.Showing.{beside_control, beside_output, cells_from, own_object}

-- turns that stay in their frame, and those of them that put nothing
abbrev pub IsOnward : Turn → Type 0
IsOnward (Returns v) = ⊥
IsOnward (Finishes n) = ⊥
IsOnward _ = Unit {0}

abbrev pub IsStill : Turn → Type 0
IsStill (Goes jump takes pushed (Some v)) = ⊥
IsStill t = IsOnward t

-- the cell of a variable is one of those that a state shows
abbrev pub IsInside : Raw → List Slot → Place → ℕ → Type 0
IsInside raw slots (place.Global variable) index = Unit {0}
IsInside raw slots (place.Slot slot) index = index < cells_in raw slots (place.Slot slot)

-- what an act touches is inside, and only what it writes is put
abbrev pub FitsTouch : Raw → List Slot → (Cell → Turn) → Touch → Type 0
FitsTouch raw slots t (Writes p index) = IsInside raw slots p index × ((c : Cell) → IsOnward (t c))
FitsTouch raw slots t (Reads p index) = IsInside raw slots p index × ((c : Cell) → IsStill (t c))
FitsTouch raw slots t touch = (c : Cell) → IsStill (t c)

-- neither CLEAR's nor PRINT's
abbrev pub IsPlain : Touch → Type 0
IsPlain (Clears slot) = ⊥
IsPlain (Prints text values) = ⊥
IsPlain _ = Unit {0}

abbrev pub Fits : Raw → List Slot → Act → Type 0
Fits raw slots a = FitsTouch raw slots a.turn a.touch × IsPlain a.touch

module _ (program : Raw) (worker : ℕ) (stack : Stack) (before s : State) where
  -- a state with this control and world, and all that is apart as before
  abbrev pub To : Option State → Control → World → Type 0
  To o control w = (t : State) × (o ≡ Some t) × Shows program worker stack.top control w t
      × Keeps worker stack.top before t

  -- what an instruction makes of the state, by its turn
  abbrev pub Leaves : Option State → FrameTurn → Type 0
  Leaves o (frames.Onward f) = To o (Running (stack_at stack f.place f.operands)) (world_of f)
  Leaves o (frames.Faulted x f) = To o (Faulted x (stack_at stack f.place f.operands)) (world_of f)
  Leaves o (frames.Finished v f) = CanFinish stack.top s → To o (Ended v) (world_of f)
  Leaves o (frames.Returned v f) =
      IsCalled stack.top → To o (Running (record stack { top = value_given v stack.top.callers stack.top }))
      (dead (world_of f))
  Leaves o frames.Stuck = Unit {0}

  module _ (f : Frame) where
    abbrev pub here : Stack
    here = stack_at stack f.place f.operands

    -- the state behind a row, by what it names
    abbrev pub behind : List Access → Row → Option State
    behind names r = state_after_outcome (control_access (next_of worker) ∷ names) (outcome_after (Running here) r) s

    abbrev pub behind_asked : Asked → Option State
    behind_asked a = behind a.names (a.row (values_read a.names s))

    abbrev with_control : Control → State
    with_control control = state_after (control_access (next_of worker)) (Put (value.Control control)) s

    abbrev gone : Option ℕ → List Operand → Control
    gone jump operands = Running (stack_at stack (unwrap_or jump (f.place + 1)) operands)

    module _ (shows : Shows program worker stack.top (Running here) (world_of f) s)
        (keeps : Keeps worker stack.top before s) where
      -- the control alone
      abbrev pub to_control : (control : Control) → To (Some (with_control control)) control (world_of f)
      to_control control = (
        with_control control,
        refl,
        control_put program worker stack.top (Running here) control (world_of f) s shows,
        keeps_on worker stack.top (control_access (next_of worker)) (Put (value.Control control)) before s
            (beside_control worker stack.top) keeps,
      )

      nothing_leaves : (t : Turn) → IsStill t
          → Leaves (behind [] (row_of (f.place + 1) [] t)) (turned program f Nothing t)
      nothing_leaves (Goes jump takes None None) h = to_control (gone jump (drop takes f.operands))
      nothing_leaves (Goes jump takes (Some x) None) h = to_control (gone jump (x ∷ drop takes f.operands))
      nothing_leaves (Goes jump takes pushed (Some v)) h = absurd h
      nothing_leaves (Returns v) h = absurd h
      nothing_leaves (Finishes v) h = absurd h
      nothing_leaves (Faults x) h = to_control (Faulted x here)
      nothing_leaves Lacks h = tt

      reads_leaves : (p : Place) (index : ℕ) (o : Obj) (t : Turn) → IsStill t
          → Leaves (behind (read o ∷ []) (row_of (f.place + 1) [] t)) (turned program f (Reads p index) t)
      reads_leaves p index o (Goes jump takes None None) h = to_control (gone jump (drop takes f.operands))
      reads_leaves p index o (Goes jump takes (Some x) None) h = to_control (gone jump (x ∷ drop takes f.operands))
      reads_leaves p index o (Goes jump takes pushed (Some v)) h = absurd h
      reads_leaves p index o (Returns v) h = absurd h
      reads_leaves p index o (Finishes v) h = absurd h
      reads_leaves p index o (Faults x) h = to_control (Faulted x here)
      reads_leaves p index o Lacks h = tt

      -- what is put beside the control, in a cell
      to_put : (control : Control) (p : Place) (index : ℕ) (v : ℤ)
          → To (Some (state_after (write (own_object program worker stack.top p index))
          (Put (value.Cell (cell.Int v))) (with_control control))) control
          (with_held (world_of f) p index (cell.Int v))
      to_put control p index v =
          let base = to_control control in (
            _,
            refl,
            cell_put program worker stack.top control p index v (world_of f) base.0 base.2,
            keeps_cell program worker stack.top p index (Put (value.Cell (cell.Int v))) before base.0 base.3,
          )

      writes_leaves : (p : Place) (index : ℕ) (t : Turn) → IsOnward t
          → Leaves (behind (write (own_object program worker stack.top p index) ∷ []) (row_of (f.place + 1) [] t))
          (turned program f (Writes p index) t)
      writes_leaves p index (Goes jump takes None None) h = to_control (gone jump (drop takes f.operands))
      writes_leaves p index (Goes jump takes (Some x) None) h = to_control (gone jump (x ∷ drop takes f.operands))
      writes_leaves (place.Global n) index (Goes jump takes None (Some v)) h =
          to_put (gone jump (drop takes f.operands)) (place.Global n) index v
      writes_leaves (place.Global n) index (Goes jump takes (Some x) (Some v)) h =
          to_put (gone jump (x ∷ drop takes f.operands)) (place.Global n) index v
      writes_leaves (place.Slot n) index (Goes jump takes None (Some v)) h =
          to_put (gone jump (drop takes f.operands)) (place.Slot n) index v
      writes_leaves (place.Slot n) index (Goes jump takes (Some x) (Some v)) h =
          to_put (gone jump (x ∷ drop takes f.operands)) (place.Slot n) index v
      writes_leaves p index (Returns v) h = absurd h
      writes_leaves p index (Finishes v) h = absurd h
      writes_leaves p index (Faults x) h = to_control (Faulted x here)
      writes_leaves p index Lacks h = tt

      -- CLEAR: each cell of a slot
      clears_leaves : (slot : ℕ)
          → Leaves (behind (cells_from program worker stack.top slot 0
          (cells_in program (slots_of program stack.top.frame.body) (place.Slot slot)))
          (row.Goes (Go (f.place + 1) 0 None ∷ [])
          (unsets (cells_from program worker stack.top slot 0
          (cells_in program (slots_of program stack.top.frame.body) (place.Slot slot))))))
          (turned program f (Clears slot) (frames.goes 0 None))
      clears_leaves slot =
          let base = to_control (gone None f.operands) in (
            _,
            refl,
            slot_cleared program worker stack.top (gone None f.operands) slot (world_of f) base.0 base.2,
            keeps_slot program worker stack.top slot
                (cells_in program (slots_of program stack.top.frame.body) (place.Slot slot)) before base.0 base.3,
          )

      -- PRINT: the output
      prints_leaves : (text values : ℕ)
          → Leaves (behind (write obj.Output ∷ [])
          (row.Goes (Go (f.place + 1) values None ∷ [])
          (Append (Bytes (print_bytes program text values f.operands)) ∷ [])))
          (turned program f (Prints text values) (frames.goes values None))
      prints_leaves text values =
          let base = to_control (gone None (drop values f.operands)) in (
            _,
            refl,
            output_put program worker stack.top (gone None (drop values f.operands))
                (print_bytes program text values f.operands) (world_of f) base.0 base.2,
            keeps_on worker stack.top (write obj.Output) (Append (Bytes (print_bytes program text values f.operands)))
                before base.0 (beside_output worker stack.top) base.3,
          )

      module _ (owns : OwnsCells stack.top) where
        object_is : (p : Place) (index : ℕ) → own_object program worker stack.top p index ≡ object_of here.top p index
        object_is (place.Global n) index = refl
        object_is (place.Slot n) index = ap (cell_of stack.top.task stack.top.frame.ordinal n index) (sym (owns n))

        -- what is read is what the frame has there
        cell_is : (p : Place) (index : ℕ) → IsInside program (slots_of program stack.top.frame.body) p index
            → cell_at f p index ≡ cell_in (s (own_object program worker stack.top p index))
        cell_is (place.Global n) index inside = sym (ap cell_in (shows.globals n index))
        cell_is (place.Slot n) index inside = sym (ap cell_in (shows.slots n index inside))

        -- an act that stays in its frame, and whose turn is not that of PRINT or CLEAR
        pub act_leaves : (touch : Touch) (t : Cell → Turn)
            → FitsTouch program (slots_of program stack.top.frame.body) t touch → IsPlain touch
            → Leaves (behind_asked (touch_row program here.top t touch))
            (turned program f touch (t (content f touch)))
        act_leaves Nothing t fits plain = nothing_leaves (t cell.Unset) (fits cell.Unset)
        act_leaves (Reads p index) t fits plain =
            subst (λ o. Leaves (behind (read o ∷ []) (row_of (f.place + 1) [] (t (cell_in (s o)))))
            (turned program f (Reads p index) (t (cell_at f p index)))) (object_is p index)
            (subst (λ c. Leaves (behind (read (own_object program worker stack.top p index) ∷ [])
            (row_of (f.place + 1) [] (t c))) (turned program f (Reads p index) (t (cell_at f p index))))
            (cell_is p index fits.0)
            (reads_leaves p index (own_object program worker stack.top p index) (t (cell_at f p index))
            (fits.1 (cell_at f p index))))
        act_leaves (Writes p index) t fits plain =
            subst (λ o. Leaves (behind (write o ∷ []) (row_of (f.place + 1) [] (t (cell_in (s o)))))
            (turned program f (Writes p index) (t (cell_at f p index)))) (object_is p index)
            (subst (λ c. Leaves (behind (write (own_object program worker stack.top p index) ∷ [])
            (row_of (f.place + 1) [] (t c))) (turned program f (Writes p index) (t (cell_at f p index))))
            (cell_is p index fits.0)
            (writes_leaves p index (t (cell_at f p index)) (fits.1 (cell_at f p index))))
        act_leaves (Clears slot) t fits plain = absurd plain
        act_leaves (Prints text values) t fits plain = absurd plain

        pub clear_leaves : (slot : ℕ) → Leaves
            (behind_asked (touch_row program here.top (λ c. frames.goes 0 None) (Clears slot)))
            (turned program f (Clears slot) (frames.goes 0 None))
        clear_leaves slot =
            subst (λ home. Leaves (behind (slot_cells stack.top.task stack.top.frame.ordinal slot home 0
            (cells_in program (slots_of program stack.top.frame.body) (place.Slot slot)))
            (row.Goes (Go (f.place + 1) 0 None ∷ [])
            (unsets (slot_cells stack.top.task stack.top.frame.ordinal slot home 0
            (cells_in program (slots_of program stack.top.frame.body) (place.Slot slot))))))
            (turned program f (Clears slot) (frames.goes 0 None))) (sym (owns slot))
            (clears_leaves slot)

        pub print_leaves : (text values : ℕ)
            → Leaves (behind_asked (touch_row program here.top (λ c. frames.goes values None) (Prints text values)))
            (turned program f (Prints text values) (frames.goes values None))
        print_leaves text values = prints_leaves text values
