-- The row of the table at a state that shows a frame makes of the state what the instruction makes of the frame.
use Rattle.std.proofs.Common.{ℕ, ◌≤◌, ℤ, pos, true, false, List, Option, Some, None}
use Rattle.std.specs.Prelude.{All}
use Rattle.om_code.specs.declared.frame.Operand.TheVariants as operand
use Rattle.om_code.specs.declared.instruction.Instr.{Instr}
use Rattle.om_code.specs.declared.instruction.Instr.TheVariants as i
use Rattle.om_code.specs.declared.instruction.Serial.TheVariants as serials
use Rattle.om_code.specs.declared.instruction.Function.TheVariants as calls
use Rattle.om_code.specs.declared.raw.Raw.{Raw}
use Rattle.om_code.specs.declared.raw.Slot.{Slot}
use Rattle.om_code.specs.Frames.{Frame, Act, act, act_at, acted, int_at, print}
use Rattle.om_code.specs.Places.{slots_of}
use Rattle.om_code.specs.Printing.{ints_on}
use Rattle.om_code.specs.Validity.{NamesKnown}
use Rattle.om_state.specs.declared.control.Control.TheVariants.{Running}
use Rattle.om_state.specs.declared.control.Stack.{Stack}
use Rattle.om_state.specs.State.{State}
use Rattle.om_team_serial.specs.Sites.{site}
use Rattle.om_task.specs.Table.{row_of}
use Rattle.om_team_serial.specs.SerialRows.{act_row}
use Rattle.om_lower_rules.specs.Running.{world_of}
use Rattle.om_soundness.specs.Alone.{Shows, Keeps, OwnsCells}
use Rattle.om_soundness.proofs.Turns.{Fits, Leaves, here, behind_asked, act_leaves, clear_leaves, print_leaves}
use Rattle.om_soundness.proofs.Instructions as fits
use Rattle.om_soundness.proofs.Ends as ends

module _ (program : Raw) (workers worker : ℕ) (stack : Stack) (before s : State) (f : Frame)
    (shows : Shows program worker stack.top (Running (here program worker stack before s f)) (world_of f) s)
    (keeps : Keeps worker stack.top before s) (owns : OwnsCells stack.top)
    (cells : All (λ slot. 1 ≤ slot.cells) (slots_of program stack.top.frame.body)) where
  abbrev slots : List Slot
  slots = slots_of program stack.top.frame.body

  abbrev at : Stack
  at = here program worker stack before s f

  -- an act that fits
  by_act : (a : Act) → Fits program slots a
      → Leaves program worker stack before s (behind_asked program worker stack before s f (act_row program at.top a))
      (acted program f a)
  by_act a fits = act_leaves program worker stack before s f shows keeps owns a.touch a.turn fits.0 fits.1

  by_print : (text values : ℕ) (o : Option (List ℤ))
      → Leaves program worker stack before s
      (behind_asked program worker stack before s f (act_row program at.top (print text values o)))
      (acted program f (print text values o))
  by_print text values None = tt
  by_print text values (Some vs) = print_leaves program worker stack before s f shows keeps owns text values

  pub instruction_leaves : (instr : Instr) → NamesKnown program slots instr
      → Leaves program worker stack before s
      (behind_asked program worker stack before s f (row_of (site program workers worker at) instr))
      (acted program f (act_at program slots instr f.operands))
  instruction_leaves (i.Serial (serials.Constant v)) known = by_act (act program slots (serials.Constant v) f.operands) ((λ c. tt), tt)
  instruction_leaves (i.Serial serials.Duplicate) known =
      by_act (act program slots serials.Duplicate f.operands) (fits.duplicate_fits program slots cells f.operands)
  instruction_leaves (i.Serial serials.Pop) known =
      by_act (act program slots serials.Pop f.operands) (fits.pop_fits program slots cells f.operands)
  instruction_leaves (i.Serial serials.Nop) known = by_act (act program slots serials.Nop f.operands) ((λ c. tt), tt)
  instruction_leaves (i.Serial (serials.Unary o)) known =
      by_act (act program slots (serials.Unary o) f.operands) (fits.unary_fits program slots cells f.operands o)
  instruction_leaves (i.Serial (serials.Binary o)) known =
      by_act (act program slots (serials.Binary o) f.operands) (fits.binary_fits program slots cells f.operands o)
  instruction_leaves (i.Serial (serials.Jump target)) known = by_act (act program slots (serials.Jump target) f.operands) ((λ c. tt), tt)
  instruction_leaves (i.Serial (serials.JumpIfZero target)) known =
      by_act (act program slots (serials.JumpIfZero target) f.operands)
      (fits.jump_fits program slots cells f.operands target)
  instruction_leaves (i.Serial serials.Use) known =
      by_act (act program slots serials.Use f.operands) (fits.use_fits program slots cells f.operands)
  instruction_leaves (i.Serial (serials.Load p)) known =
      by_act (act program slots (serials.Load p) f.operands) (fits.load_fits program slots cells f.operands p known)
  instruction_leaves (i.Serial (serials.Store p kept)) known =
      by_act (act program slots (serials.Store p kept) f.operands)
      (fits.store_fits program slots cells f.operands p kept known)
  instruction_leaves (i.Serial (serials.LoadElement p)) known =
      by_act (act program slots (serials.LoadElement p) f.operands)
      (fits.load_element_fits program slots cells f.operands p)
  instruction_leaves (i.Serial (serials.StoreElement p kept)) known =
      by_act (act program slots (serials.StoreElement p kept) f.operands)
      (fits.store_element_fits program slots cells f.operands p kept)
  instruction_leaves (i.Serial (serials.Clear slot)) known = clear_leaves program worker stack before s f shows keeps owns slot
  instruction_leaves (i.Serial (serials.Print text values)) known = by_print text values (ints_on values f.operands)
  instruction_leaves (i.Serial (serials.Atomic o side p)) known =
      by_act (act program slots (serials.Atomic o side p) f.operands)
      (fits.atomic_fits program slots cells f.operands o side p known)
  instruction_leaves (i.Serial (serials.AtomicElement o side p)) known =
      by_act (act program slots (serials.AtomicElement o side p) f.operands)
      (fits.atomic_element_fits program slots cells f.operands o side p)
  instruction_leaves (i.Function calls.Return) known =
      ends.return_leaves program worker stack before s f shows keeps owns (int_at 0 f.operands)
  instruction_leaves (i.Function calls.ReturnNothing) known =
      ends.value_returns program worker stack before s f shows keeps owns operand.NoValue
  instruction_leaves (i.Function (calls.Finish true)) known =
      ends.finish_leaves program worker stack before s f shows keeps (int_at 0 f.operands)
  instruction_leaves (i.Function (calls.Finish false)) known = ends.value_finishes program worker stack before s f shows keeps (pos 0)
  instruction_leaves _ known = tt
