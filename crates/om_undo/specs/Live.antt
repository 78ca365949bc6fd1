-- Matter of proofs: a worker's control that is changed in place, and its trail, may cross threads.
use Rattle.std.proofs.Crossing.{crosses}
use denote.RattleType.{RattleType}
use denote.Param.Send.{IsSend, sendable}
use Rattle.om_state.specs.contracts.control.Construct as construct
use Rattle.om_foot.specs.contracts.shared.Shared as shared
use Rattle.om_memory.specs.contracts.control.Context as context
use Rattle.om_memory.specs.contracts.control.Control as control
use Rattle.om_memory.specs.contracts.control.Frame as frame
use Rattle.om_memory.specs.contracts.control.Inverse as inverse
use Rattle.om_memory.specs.contracts.control.Stack as stack
use Rattle.om_seq.specs.contracts.pile.Pile as log
use Rattle.om_memory.specs.contracts.tape.Tape as tape
use Rattle.om_memory.specs.contracts.trail.Trail as trail
use Rattle.om_undo.specs.Shared.{shared_send}
use Rattle.om_undo.specs.Values.{homes_send, names_send, teams_send, groups_send, construct_send, construct_sync}

module _ (T : RattleType) where
  tape_send : IsSend T → IsSend (tape.the_row T)
  tape_send s = search (crosses, sendable) depth 40

  log_send : IsSend T → IsSend (log.the_row T)
  log_send s = search (crosses, sendable) depth 40

region_send : IsSend (shared.the_row construct.the_row)
region_send = shared_send construct.the_row construct_send construct_sync

frame_send : IsSend frame.the_field.row
frame_send = search (homes_send, tape_send, sendable) depth 40

context_send : IsSend context.the_field.row
context_send =
    search (names_send, teams_send, groups_send, region_send, frame_send, tape_send, crosses, sendable) depth 40

stack_send : IsSend stack.the_field.row
stack_send = search (context_send, tape_send, crosses, sendable) depth 40

control_send : IsSend control.the_field.row
control_send = search (stack_send, sendable) depth 40

inverse_send : IsSend inverse.the_field.row
inverse_send = search (control_send, context_send, frame_send, region_send, crosses, sendable) depth 40

pub trail_send : IsSend trail.the_row
trail_send = search (control_send, inverse_send, log_send, sendable) depth 40
