-- Matter of proofs: what an object holds, and an update of it, may cross threads.
use denote.Param.Send.{IsSend, IsSync, sendable}
use Rattle.std.specs.contracts.option.Option as option
use Rattle.om_seq.specs.contracts.Seq as seq
use Rattle.om_foot.specs.contracts.name.Name as name
use Rattle.om_events.specs.contracts.event.Record as event
use Rattle.om_state.specs.contracts.control.Construct as construct
use Rattle.om_state.specs.contracts.control.Context as context
use Rattle.om_state.specs.contracts.control.Control as control
use Rattle.om_state.specs.contracts.control.Frame as frame
use Rattle.om_state.specs.contracts.control.Home as home
use Rattle.om_state.specs.contracts.control.Team as team
use Rattle.om_state.specs.contracts.open_share.OpenShare as open_share
use Rattle.om_state.specs.contracts.shared_team.SharedTeam as shared_team
use Rattle.om_foot.specs.contracts.shared.Shared as shared
use Rattle.om_state.specs.contracts.shared_control.SharedControl as shared_control
use Rattle.om_state.specs.contracts.shared_pile.SharedPile as stack
use Rattle.om_state.specs.contracts.step.Update as update
use Rattle.om_state.specs.contracts.value.Ready as ready
use Rattle.om_state.specs.contracts.value.Val as value
use Rattle.om_undo.specs.Lists.{seq_send, seq_sync, pile_send, pile_sync}
use Rattle.om_undo.specs.Names.{name_send, name_sync}
use Rattle.om_undo.specs.Shared.{shared_send, shared_sync, stack_send, stack_sync}

-- ---- what contexts and tasks share
pub names_send : IsSend (shared.the_row name.the_row)
names_send = shared_send _ name_send name_sync

names_sync : IsSync (shared.the_row name.the_row)
names_sync = shared_sync _ name_send name_sync

event_send : IsSend event.the_row
event_send = search (names_send, seq_send, sendable) depth 60 fits 20000

home_send : IsSend home.the_row
home_send = search (names_send, sendable) depth 40

home_sync : IsSync home.the_row
home_sync = search (names_sync, sendable) depth 40

pub homes_send : IsSend (shared.the_row (seq.the_row home.the_row))
homes_send = shared_send _ (seq_send _ home_send) (seq_sync _ home_sync)

homes_sync : IsSync (shared.the_row (seq.the_row home.the_row))
homes_sync = shared_sync _ (seq_send _ home_send) (seq_sync _ home_sync)

team_send : IsSend team.the_row
team_send = search (names_send, sendable) depth 40

team_sync : IsSync team.the_row
team_sync = search (names_sync, sendable) depth 40

places_send : IsSend (shared.the_row team.the_row)
places_send = shared_send _ team_send team_sync

places_sync : IsSync (shared.the_row team.the_row)
places_sync = shared_sync _ team_send team_sync

pub teams_send : IsSend shared_team.the_row
teams_send = search (places_send, sendable) depth 40

teams_sync : IsSync shared_team.the_row
teams_sync = search (places_sync, sendable) depth 40

group_send : IsSend (option.the_row name.the_row)
group_send = search (name_send, sendable) depth 20

group_sync : IsSync (option.the_row name.the_row)
group_sync = search (name_sync, sendable) depth 20

pub groups_send : IsSend (shared.the_row (option.the_row name.the_row))
groups_send = shared_send _ group_send group_sync

groups_sync : IsSync (shared.the_row (option.the_row name.the_row))
groups_sync = shared_sync _ group_send group_sync

-- ---- what a worker works on
open_share_send : IsSend open_share.the_row
open_share_send = search sendable depth 40 fits 20000

open_share_sync : IsSync open_share.the_row
open_share_sync = search sendable depth 40 fits 20000

pub construct_send : IsSend construct.the_row
construct_send = search (name_send, open_share_send, sendable) depth 40 fits 20000

pub construct_sync : IsSync construct.the_row
construct_sync = search (name_sync, open_share_sync, sendable) depth 40 fits 20000

constructs_send : IsSend (stack.the_row construct.the_row)
constructs_send = stack_send _ construct_send construct_sync

constructs_sync : IsSync (stack.the_row construct.the_row)
constructs_sync = stack_sync _ construct_send construct_sync

frame_send : IsSend frame.the_field.row
frame_send = search (homes_send, pile_send, sendable) depth 40

frame_sync : IsSync frame.the_field.row
frame_sync = search (homes_sync, pile_sync, sendable) depth 40

callers_send : IsSend (stack.the_row frame.the_row)
callers_send = stack_send frame.the_row (search (frame_send, sendable)) (search (frame_sync, sendable))

callers_sync : IsSync (stack.the_row frame.the_row)
callers_sync = stack_sync frame.the_row (search (frame_send, sendable)) (search (frame_sync, sendable))

context_send : IsSend context.the_field.row
context_send =
    search (names_send, teams_send, groups_send, constructs_send, frame_send, callers_send, sendable) depth 40

context_sync : IsSync context.the_field.row
context_sync =
    search (names_sync, teams_sync, groups_sync, constructs_sync, frame_sync, callers_sync, sendable) depth 40

below_send : IsSend (stack.the_row context.the_row)
below_send = stack_send context.the_row (search (context_send, sendable)) (search (context_sync, sendable))

below_sync : IsSync (stack.the_row context.the_row)
below_sync = stack_sync context.the_row (search (context_send, sendable)) (search (context_sync, sendable))

control_send : IsSend control.the_field.row
control_send = search (context_send, below_send, sendable) depth 40

control_sync : IsSync control.the_field.row
control_sync = search (context_sync, below_sync, sendable) depth 40

controls_send : IsSend (shared.the_row control.the_row)
controls_send = shared_send control.the_row (search (control_send, sendable)) (search (control_sync, sendable))

shared_control_send : IsSend shared_control.the_row
shared_control_send = search (controls_send, sendable) depth 40

-- ---- what any object holds
ready_send : IsSend ready.the_field.row
ready_send = search (homes_send, names_send, groups_send, sendable) depth 40

ready_sync : IsSync ready.the_field.row
ready_sync = search (homes_sync, names_sync, groups_sync, sendable) depth 40

readies_send : IsSend (shared.the_row ready.the_row)
readies_send = shared_send ready.the_row (search (ready_send, sendable)) (search (ready_sync, sendable))

pub value_send : IsSend value.the_field.row
value_send = search (shared_control_send, readies_send, event_send, seq_send, sendable) depth 40

pub update_send : IsSend update.the_row
update_send = search (value_send, event_send, seq_send, sendable) depth 40
