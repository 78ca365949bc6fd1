-- Why an instruction of valid code may still lack what it needs: no operand, place or name is missing then.
use Rattle.std.specs.Prelude.{◌≡◌, ◌≢◌, ◌⊎◌, ℕ, Bool, true, false, Option, None, Some, List, [], slice_get, take}
use Rattle.std.specs.Prelude.{Contains}
use Rattle.om_code.specs.declared.frame.Operand.{Operand}
use Rattle.om_code.specs.declared.frame.Operand.TheVariants.{NoValue}
use Rattle.om_code.specs.declared.instruction.Instr.{Instr}
use Rattle.om_code.specs.declared.instruction.Instr.TheVariants as i
use Rattle.om_code.specs.declared.instruction.Serial.TheVariants as serials
use Rattle.om_code.specs.declared.instruction.Function.TheVariants as calls
use Rattle.om_code.specs.declared.instruction.Team.TheVariants as teams
use Rattle.om_code.specs.declared.instruction.Sharing.TheVariants as sharings
use Rattle.om_code.specs.declared.instruction.Region.TheVariants as regionals
use Rattle.om_code.specs.declared.instruction.Task.TheVariants as taskings
use Rattle.om_code.specs.declared.raw.Raw.{Raw}
use Rattle.om_code.specs.Ways.{pops}
use Rattle.om_state.specs.declared.control.Construct.{Construct}
use Rattle.om_state.specs.declared.control.Construct.TheVariants as construct
use Rattle.om_state.specs.declared.control.Kind.TheVariants.{Initial, Implicit, Explicit}
use Rattle.om_state.specs.declared.control.Share.{Share}
use Rattle.om_state.specs.declared.control.Stack.{Stack}
use Rattle.om_state.specs.OpenShares.{is_loop}
use Rattle.om_team_serial.specs.Objects.{innermost}
use Rattle.om_team_worksharing.specs.Rows.{share_in, is_section, is_right_form, is_masked, is_critical}
use Rattle.om_task.specs.Tasks.{innermost_group}
use Rattle.om_team_serial.specs.Sites.{targets_of}

-- one of so many operands on top is what a call gave whose function returned no value
abbrev pub HasNoValue : ℕ → List Operand → Type 0
HasNoValue count operands = Contains (take count operands) NoValue

-- the innermost region is a loop
abbrev pub is_in_loop : Option Share → Bool
is_in_loop None = false
is_in_loop (Some share) = is_loop share.sharing

-- the innermost region has no section taken, or one that the list doesn't have
abbrev pub HasNoSection : List ℕ → Option Share → Type 0
HasNoSection targets None = Unit {0}
HasNoSection targets (Some share) = (is_section share ≡ false) ⊎ (slice_get targets share.next ≡ None)

abbrev pub is_worksharing : Option Construct → Bool
is_worksharing (Some (construct.Share share)) = true
is_worksharing (Some (construct.Single runs)) = true
is_worksharing _ = false

-- what an instruction may lack on a stack: an int among its operands, an open region of its kind, a frame or a
-- context to go back to, a context of its kind, a right step or chunk, a section
abbrev pub MayLack : Raw → Stack → Instr → Type 0
MayLack program stack (i.Serial serials.Duplicate) = ⊥
MayLack program stack (i.Serial serials.Pop) = ⊥
MayLack program stack (i.Serial serials.Use) = ⊥
MayLack program stack (i.Function calls.Return) = HasNoValue 1 stack.top.frame.operands ⊎ (stack.top.callers ≡ [])
MayLack program stack (i.Function calls.ReturnNothing) = stack.top.callers ≡ []
MayLack program stack (i.Team teams.Leave) = (stack.top.kind ≢ Implicit) ⊎ (stack.below ≡ [])
MayLack program stack (i.Sharing (sharings.Loop form)) = HasNoValue 2 stack.top.frame.operands ⊎ (is_right_form form ≡ false)
MayLack program stack (i.Sharing (sharings.Grab otherwise)) = share_in stack.top ≡ None
MayLack program stack (i.Sharing (sharings.Iterate slot otherwise)) = is_in_loop (share_in stack.top) ≡ false
MayLack program stack (i.Sharing (sharings.Pick list)) = HasNoSection (targets_of program list) (share_in stack.top)
MayLack program stack (i.Sharing sharings.EndWorksharing) = is_worksharing (innermost stack.top.constructs) ≡ false
MayLack program stack (i.Region regionals.EndMasked) = is_masked (innermost stack.top.constructs) ≡ false
MayLack program stack (i.Region (regionals.LeaveCritical lock)) = is_critical lock (innermost stack.top.constructs) ≡ false
MayLack program stack (i.Task taskings.GroupEnd) = innermost_group (innermost stack.top.constructs) ≡ None
MayLack program stack (i.Task taskings.TaskEnd) = (stack.top.kind ≢ Explicit) ⊎ (stack.below ≡ [])
MayLack program stack (i.Function (calls.Finish has_value)) =
    (stack.top.kind ≢ Initial) ⊎ HasNoValue (pops (i.Function (calls.Finish has_value))) stack.top.frame.operands
MayLack program stack instr = HasNoValue (pops instr) stack.top.frame.operands
