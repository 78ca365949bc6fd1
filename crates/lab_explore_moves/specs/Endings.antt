-- What is asked of controls and replies.
use Rattle.std.specs.Prelude.{ℤ, Bool, true, false, Option, None, Some}
use Rattle.om_state.specs.declared.control.Control as controls
use Rattle.om_state.specs.declared.control.Control.TheVariants.{Running, Ended}
use Rattle.om_state.specs.declared.step.Blocked.{Blocked}
use Rattle.om_undo_history.specs.declared.reply.StepReply.{StepReply}
use Rattle.om_undo_history.specs.declared.reply.StepReply.TheVariants as step_reply

-- the value with which the program has ended, if it did
abbrev pub value_in : controls.Control → Option ℤ
value_in (Ended value) = Some value
value_in _ = None

abbrev pub is_running : controls.Control → Bool
is_running (Running stack) = true
is_running _ = false

-- why a step was blocked, if it was
abbrev pub blocked_by : StepReply → Option Blocked
blocked_by (step_reply.Blocked why) = Some why
blocked_by _ = None
