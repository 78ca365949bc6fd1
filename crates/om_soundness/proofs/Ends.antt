-- The steps that end a frame: FIN ends the program, RET and RETN give a value to the frame that waits.
use Rattle.std.proofs.Common.{◌≡◌, ℕ, zero, suc, ◌+◌, ◌<◌, ℤ, Bool, true, false, cond, List, [], ◌∷◌, ◌++◌, Option}
use Rattle.std.proofs.Common.{Some, None, refl, sym, ap, ◌∙◌, subst, slice_get, option_map, arith}
use Rattle.std.specs.Prelude.{unwrap_or}
use Rattle.std.specs.List.{AllByRecursion}
use Rattle.om_foot.specs.declared.footprint.Access.{Access}
use Rattle.om_foot.specs.declared.footprint.Mode.TheVariants as mode
use Rattle.om_foot.specs.declared.object.Obj.{Obj}
use Rattle.om_foot.specs.declared.object.Obj.TheVariants as obj
use Rattle.om_foot.specs.Footprint.{obj_eq}
use Rattle.om_code.specs.declared.frame.Cell.TheVariants as cell
use Rattle.om_code.specs.declared.frame.Operand.{Operand}
use Rattle.om_code.specs.declared.frame.Operand.TheVariants as operand
use Rattle.om_code.specs.declared.raw.Raw.{Raw}
use Rattle.om_code.specs.declared.raw.Slot.{Slot}
use Rattle.om_code.specs.declared.act.Turn.TheVariants.{Returns, Finishes}
use Rattle.om_code.specs.Frames as frames
use Rattle.om_code.specs.Frames.{Frame, acted, on_int, decided, cells_in}
use Rattle.om_code.specs.Places.{slots_of}
use Rattle.om_events.specs.declared.event.Record.{Record}
use Rattle.om_events.specs.declared.event.Record.TheVariants as event_record
use Rattle.om_events.specs.declared.kind.Endpoint.TheVariants as endpoint
use Rattle.om_events.specs.declared.kind.TaskFlag.TheVariants as flag
use Rattle.om_state.specs.declared.control.Context.{Context}
use Rattle.om_state.specs.declared.control.Control.{Control}
use Rattle.om_state.specs.declared.control.Control.TheVariants.{Running, Ended}
use Rattle.om_state.specs.declared.control.Frame as controls
use Rattle.om_state.specs.declared.control.Stack.{Stack}
use Rattle.om_state.specs.declared.step.Update.TheVariants.{Put, Keep}
use Rattle.om_state.specs.declared.value.Val.{Val}
use Rattle.om_state.specs.declared.value.Val.TheVariants as value
use Rattle.om_state.specs.Edits.{value_given}
use Rattle.om_state.specs.Rules.{control_access}
use Rattle.om_state.specs.State.{State, state_after, updated}
use Rattle.om_team_serial.specs.Objects.{read, events, event, own_slot, own_from, own_cells, home_at, deaths}
use Rattle.om_team_serial.specs.SerialRows.{return_row}
use Rattle.om_team_serial.specs.Ends.{finished_row, finished}
use Rattle.om_team_serial.specs.Rows.{is_zero}
use Rattle.om_lower_rules.specs.Running.{world_of}
use Rattle.om_soundness.specs.Alone.{Shows, Keeps, OwnsCells, dead, next_of}
use Rattle.om_soundness.proofs.Showing.{each, events_put, keeps_on, beside_events, beside_cell, cells_from, all_written}
use Rattle.om_soundness.proofs.Showing.{slot_elsewhere, slot_there, stays}
use Rattle.om_soundness.proofs.Turns.{Leaves, To, here, behind, behind_asked, to_control}

same_both : (b : Bool) (v : Val) → cond b v v ≡ v
same_both true v = refl
same_both false v = refl

-- ---- FIN

module _ (program : Raw) (worker : ℕ) (stack : Stack) (before s : State) (f : Frame)
    (shows : Shows program worker stack.top (Running (here program worker stack before s f)) (world_of f) s)
    (keeps : Keeps worker stack.top before s) where
  abbrev at : Stack
  at = here program worker stack before s f

  -- where no task of the team is unfinished
  ends : (v : ℤ) (e : Record)
      → To program worker stack before s
      (Some (state_after (events worker) (event e)
      (state_after (read (obj.Pending stack.top.team.name stack.top.phase)) Keep
      (state_after (control_access (next_of worker)) (Put (value.Control (Ended v))) s))))
      (Ended v) (world_of f)
  ends v e =
      let base = to_control program worker stack before s f shows keeps (Ended v) in
      let h = base.2 in (
        _,
        refl,
        events_put program worker stack.top (Ended v) (event e) (world_of f)
            (state_after (read (obj.Pending stack.top.team.name stack.top.phase)) Keep base.0)
            (record { control = h.control; slots = h.slots; globals = h.globals; output = h.output }),
        keeps_on worker stack.top (events worker) (event e) before
            (state_after (read (obj.Pending stack.top.team.name stack.top.phase)) Keep base.0)
            (beside_events worker stack.top)
            (λ q apart. same_both (obj_eq (obj.Pending stack.top.team.name stack.top.phase) q) (base.0 q)
            ∙ base.3 q apart),
      )

  pub value_finishes : (v : ℤ)
      → Leaves program worker stack before s
      (behind_asked program worker stack before s f (finished_row worker at.top stack.top.kind (Some v)))
      (frames.Finished v f)
  value_finishes v can =
      subst (λ kind. To program worker stack before s
      (behind_asked program worker stack before s f (finished_row worker at.top kind (Some v))) (Ended v)
      (world_of f)) (sym can.initial)
      (subst (λ n. To program worker stack before s
      (behind program worker stack before s f
      (read (obj.Pending stack.top.team.name stack.top.phase) ∷ events worker ∷ [])
      (finished at.top v (is_zero n))) (Ended v) (world_of f)) (sym can.none)
      (ends v (event_record.ImplicitTask endpoint.End [] stack.top.task 0 1 flag.Initial)))

  pub finish_leaves : (o : Option ℤ)
      → Leaves program worker stack before s
      (behind_asked program worker stack before s f (finished_row worker at.top stack.top.kind o))
      (acted program f (on_int o (λ a. decided (Finishes a))))
  finish_leaves None = tt
  finish_leaves (Some v) = value_finishes v

-- ---- RET and RETN

deaths_are : (names : List Access) → each (value.Cell cell.Dead) names ≡ deaths names
deaths_are [] = refl
deaths_are (a ∷ names) = ap (λ us. Put (value.Cell cell.Dead) ∷ us) (deaths_are names)

all_behind : (P : Access → Type 0) (names bs : List Access) → AllByRecursion P names → AllByRecursion P bs
    → AllByRecursion P (names ++ bs)
all_behind P [] bs h k = k
all_behind P (a ∷ names) bs h k = (h.0, all_behind P names bs h.1 k)

module _ (program : Raw) (worker : ℕ) (c : Context) (owns : OwnsCells c) (v : Val) where
  abbrev put_all : List Access → State → State
  put_all names s = updated names (each v names) s

  abbrev own_part : (number : ℕ) → Slot → List Access
  own_part number slot = own_slot c number slot.cells (home_at c.frame.homes number)

  part_is : (number : ℕ) (slot : Slot) → own_part number slot ≡ cells_from program worker c number 0 slot.cells
  part_is number slot = ap (own_slot c number slot.cells) (owns number)

  put_behind : (names bs : List Access) (s : State) → put_all (names ++ bs) s ≡ put_all bs (put_all names s)
  put_behind [] bs s = refl
  put_behind (a ∷ names) bs s = put_behind names bs (state_after a (Put v) s)

  pub own_elsewhere : (number : ℕ) (slots : List Slot) (q : Obj) (s : State)
      → ((slot i : ℕ) → obj_eq (obj.Cell c.task c.frame.ordinal slot i) q ≡ false)
      → put_all (own_from c number slots) s q ≡ s q
  own_elsewhere number [] q s apart = refl
  own_elsewhere number (slot ∷ slots) q s apart =
      ap (λ t. t q) (put_behind (own_part number slot) (own_from c (number + 1) slots) s)
      ∙ own_elsewhere (number + 1) slots q (put_all (own_part number slot) s) apart
      ∙ subst (λ names. put_all names s q ≡ s q) (sym (part_is number slot))
      (slot_elsewhere program worker c v q number 0 slot.cells s (apart number))

  own_written : (number : ℕ) (slots : List Slot) → AllByRecursion (λ a. a.mode ≡ mode.Write) (own_from c number slots)
  own_written number [] = tt
  own_written number (slot ∷ slots) =
      all_behind (λ a. a.mode ≡ mode.Write) (own_part number slot) (own_from c (number + 1) slots)
      (subst (AllByRecursion (λ a. a.mode ≡ mode.Write)) (sym (part_is number slot))
      (all_written program worker c v number 0 slot.cells))
      (own_written (number + 1) slots)

  pub own_there : (number m n k : ℕ) (slots : List Slot) (s : State) → n ≡ number + m
      → k < unwrap_or (option_map (λ (slot : Slot). slot.cells) (slice_get slots m)) 0
      → put_all (own_from c number slots) s (obj.Cell c.task c.frame.ordinal n k) ≡ v
  own_there number m n k [] s e lt = absurd (omega (arith, lt))
  own_there number zero n k (slot ∷ slots) s e lt =
      let here : number ≡ n = omega (arith, e) in
      ap (λ t. t (obj.Cell c.task c.frame.ordinal n k))
      (put_behind (own_part number slot) (own_from c (number + 1) slots) s)
      ∙ stays program worker c v (obj.Cell c.task c.frame.ordinal n k) (own_from c (number + 1) slots)
      (put_all (own_part number slot) s) (own_written (number + 1) slots)
      (subst (λ m. put_all (own_part number slot) s (obj.Cell c.task c.frame.ordinal m k) ≡ v) here
      (subst (λ names. put_all names s (obj.Cell c.task c.frame.ordinal number k) ≡ v) (sym (part_is number slot))
      (slot_there program worker c v number 0 slot.cells k s (omega arith) (omega (arith, lt)))))
  own_there number (suc m) n k (slot ∷ slots) s e lt =
      ap (λ t. t (obj.Cell c.task c.frame.ordinal n k))
      (put_behind (own_part number slot) (own_from c (number + 1) slots) s)
      ∙ own_there (number + 1) m n k slots (put_all (own_part number slot) s) (omega (arith, e)) lt

module _ (program : Raw) (worker : ℕ) (stack : Stack) (before s : State) (f : Frame)
    (shows : Shows program worker stack.top (Running (here program worker stack before s f)) (world_of f) s)
    (keeps : Keeps worker stack.top before s) (owns : OwnsCells stack.top) where
  abbrev there : Stack
  there = here program worker stack before s f

  abbrev slots : List Slot
  slots = slots_of program stack.top.frame.body

  dies : (control : Control)
      → To program worker stack before s
      (Some (updated (own_cells there.top slots) (deaths (own_cells there.top slots))
      (state_after (control_access (next_of worker)) (Put (value.Control control)) s)))
      control (dead (world_of f))
  dies control =
      let base = to_control program worker stack before s f shows keeps control in
      let h = base.2 in
      let names : List Access = own_cells there.top slots in
      let v : Val = value.Cell cell.Dead in
      let elsewhere = own_elsewhere program worker there.top owns v 0 slots in
      let by_each : updated names (deaths names) base.0 ≡ updated names (each v names) base.0 = ap
      (λ us. updated names us base.0) (sym (deaths_are names)) in (
        _,
        refl,
        subst (Shows program worker stack.top control (dead (world_of f))) (sym by_each)
            (record {
              control = elsewhere (obj.Control worker) base.0 (λ slot i. refl) ∙ h.control;
              slots = λ n k lt. own_there program worker there.top owns v 0 n n k slots base.0 (omega arith) lt;
              globals = λ n k. elsewhere (obj.Global n k) base.0 (λ slot i. refl) ∙ h.globals n k;
              output = elsewhere obj.Output base.0 (λ slot i. refl) ∙ h.output;
            }),
        λ q apart. ap (λ t. t q) by_each ∙ elsewhere q base.0 (λ slot i. beside_cell worker stack.top slot i q apart)
            ∙ base.3 q apart,
      )

  pub value_returns : (v : Operand)
      → Leaves program worker stack before s
      (behind_asked program worker stack before s f (return_row there.top slots stack.top.callers (Some v)))
      (frames.Returned v f)
  value_returns v called =
      let given : value_given v stack.top.callers there.top ≡ value_given v stack.top.callers stack.top =
      ap (λ cs. value_given v cs there.top) called.waits ∙ sym (ap (λ cs. value_given v cs stack.top) called.waits) in
      subst (λ (top : Context). To program worker stack before s
      (behind_asked program worker stack before s f (return_row there.top slots stack.top.callers (Some v)))
      (Running (record stack { top = top })) (dead (world_of f))) given
      (subst (λ (cs : List controls.Frame).
      To program worker stack before s
      (behind_asked program worker stack before s f (return_row there.top slots cs (Some v)))
      (Running (record stack { top = value_given v stack.top.callers there.top })) (dead (world_of f)))
      (sym called.waits)
      (dies (Running (record stack { top = value_given v stack.top.callers there.top }))))

  pub return_leaves : (o : Option ℤ)
      → Leaves program worker stack before s
      (behind_asked program worker stack before s f
      (return_row there.top slots stack.top.callers (option_map operand.Int o)))
      (acted program f (on_int o (λ a. decided (Returns (operand.Int a)))))
  return_leaves None = tt
  return_leaves (Some v) = value_returns (operand.Int v)
