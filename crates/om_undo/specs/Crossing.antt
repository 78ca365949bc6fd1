-- Matter of proofs: a machine may cross threads, so that it may be sent to another one.
use Rattle.std.proofs.Crossing.{crosses}
use Rattle.std.proofs.MapsCrossingOver.{crosses as maps}
use denote.Param.Send.{IsSend, IsSync, sendable}
use Rattle.om_foot.specs.contracts.object.Obj as object
use Rattle.om_foot.specs.contracts.part.Part as part
use Rattle.om_cells.specs.contracts.places.Place as place
use Rattle.om_cells.specs.contracts.places.Places as places
use Rattle.om_foot.specs.contracts.shared.Shared as shared
use Rattle.om_state.specs.contracts.value.Was as was
use Rattle.om_foot.specs.contracts.shared_cells.SharedCells as shared_cells
use Rattle.om_foot.specs.contracts.shared_object.SharedObject as shared_object
use Rattle.om_cells.specs.contracts.slots.SlotPlace as slot_place
use Rattle.om_cells.specs.contracts.slots.Slots as slots
use Rattle.om_cells.specs.contracts.store.Store as values
use Rattle.om_memory.specs.contracts.memory.Memory as store
use Rattle.om_undo_touches.specs.contracts.accesses.Accesses as accesses
use Rattle.om_foot.specs.contracts.blocks.Blocks as blocks
use Rattle.om_undo_touches.specs.contracts.by_mode.Touches as touches
use Rattle.om_undo_touches.specs.contracts.controls.ControlTouches as control_touches
use Rattle.om_undo_touches.specs.contracts.objects.ObjectTouches as object_touches
use Rattle.om_foot.specs.contracts.offsets.Offsets as offsets
use Rattle.om_undo_touches.specs.contracts.own.OwnEntries as own
use Rattle.om_foot.specs.contracts.serials.Serials as serials
use Rattle.om_foot.specs.contracts.object_accesses.ObjectAccesses as object_accesses
use Rattle.om_foot.specs.contracts.shared_access.ObjectAccess as object_access
use Rattle.om_foot.specs.contracts.shared_access.SharedAccess as shared_access
use Rattle.om_undo_touches.specs.contracts.singles.SingleTouches as single_touches
use Rattle.om_undo_touches.specs.contracts.slots.SlotTouches as slot_touches
use Rattle.om_undo_touches.specs.contracts.spans.Spans as spans
use Rattle.om_undo_touches.specs.contracts.touches.TouchLists as lists
use Rattle.om_undo_history.specs.contracts.kept.Backs as backs
use Rattle.om_undo_history.specs.contracts.history.History as history
use Rattle.om_undo_history.specs.contracts.kept.Kept as kept
use Rattle.om_undo_history.specs.contracts.kept.SmallEntry as small_entry
use Rattle.om_undo_history.specs.contracts.records.Records as records
use Rattle.om_undo.specs.contracts.machine.Machine as machine
use Rattle.om_undo.specs.Lists.{seq_send}
use Rattle.om_undo.specs.Live.{trail_send}
use Rattle.om_undo.specs.Names.{name_send, object_send, object_sync}
use Rattle.om_undo.specs.Programs.{program_send}
use Rattle.om_undo.specs.Shared.{shared_send, shared_sync}
use Rattle.om_undo.specs.Values.{value_send, update_send}

objects_send : IsSend (shared.the_row object.the_row)
objects_send = shared_send object.the_row (search (object_send, sendable)) (search (object_sync, sendable))

objects_sync : IsSync (shared.the_row object.the_row)
objects_sync = shared_sync object.the_row (search (object_send, sendable)) (search (object_sync, sendable))

shared_object_send : IsSend shared_object.the_row
shared_object_send = search (objects_send, sendable) depth 40

shared_object_sync : IsSync shared_object.the_row
shared_object_sync = search (objects_sync, sendable) depth 40

object_access_send : IsSend object_access.the_row
object_access_send = search (shared_object_send, sendable) depth 40

object_access_sync : IsSync object_access.the_row
object_access_sync = search (shared_object_sync, sendable) depth 40

moded_send : IsSend (shared.the_row object_access.the_row)
moded_send = shared_send object_access.the_row object_access_send object_access_sync

shared_access_send : IsSend shared_access.the_row
shared_access_send = search (moded_send, sendable) depth 40

object_accesses_send : IsSend object_accesses.the_row
object_accesses_send = search (shared_object_send, shared_access_send, sendable) depth 40

place_send : IsSend place.the_row
place_send = search (object_accesses_send, value_send, sendable) depth 40

shared_cells_send : IsSend shared_cells.the_row
shared_cells_send = search (shared_object_send, sendable) depth 40

was_send : IsSend was.the_field.row
was_send = search (value_send, sendable) depth 40

slot_place_send : IsSend slot_place.the_field.row
slot_place_send = search (object_accesses_send, shared_cells_send, value_send, maps, crosses, sendable) depth 40

slots_send : IsSend slots.the_field.row
slots_send = search (name_send, slot_place_send, maps, crosses, sendable) depth 40

part_send : IsSend part.the_field.row
part_send = search sendable depth 40

places_send : IsSend places.the_field.row
places_send = search (part_send, place_send, maps, crosses, sendable) depth 40

values_send : IsSend values.the_field.row
values_send = search (name_send, places_send, slots_send, maps, crosses, sendable) depth 40

store_send : IsSend store.the_field.row
store_send = search (trail_send, values_send, crosses, sendable) depth 40

accesses_send : IsSend accesses.the_row
accesses_send = search (shared_access_send, shared_cells_send, seq_send, crosses, sendable) depth 40

backs_send : IsSend backs.the_field.row
backs_send = search (update_send, was_send, seq_send, crosses, sendable) depth 40

small_entry_send : IsSend small_entry.the_row
small_entry_send = search (name_send, crosses, sendable) depth 40

kept_send : IsSend kept.the_row
kept_send = search (small_entry_send, accesses_send, backs_send, crosses, sendable) depth 40

offsets_send : IsSend offsets.the_row
offsets_send = search sendable depth 40

blocks_send : IsSend blocks.the_field.row
blocks_send = search (offsets_send, maps, crosses, sendable) depth 40

serials_send : IsSend serials.the_field.row
serials_send = search (blocks_send, crosses, sendable) depth 40

touches_send : IsSend touches.the_field.row
touches_send = search (serials_send, sendable) depth 40

control_touches_send : IsSend control_touches.the_field.row
control_touches_send = search (touches_send, maps, crosses, sendable) depth 40

object_touches_send : IsSend object_touches.the_field.row
object_touches_send = search (shared_object_send, touches_send, maps, crosses, sendable) depth 40

single_touches_send : IsSend single_touches.the_field.row
single_touches_send = search (control_touches_send, object_touches_send, crosses, sendable) depth 40

spans_send : IsSend spans.the_field.row
spans_send = search (serials_send, maps, crosses, sendable) depth 40

slot_touches_send : IsSend slot_touches.the_field.row
slot_touches_send = search (name_send, spans_send, maps, crosses, sendable) depth 40

lists_send : IsSend lists.the_field.row
lists_send = search (single_touches_send, slot_touches_send, crosses, sendable) depth 40

own_send : IsSend own.the_field.row
own_send = search (serials_send, maps, crosses, sendable) depth 40

records_send : IsSend records.the_row
records_send = search (kept_send, lists_send, own_send, maps, crosses, sendable) depth 40

history_send : IsSend history.the_field.row
history_send = search (store_send, records_send, crosses, sendable) depth 40

pub machine_send : IsSend machine.the_row
machine_send = search (program_send, history_send, sendable) depth 40
