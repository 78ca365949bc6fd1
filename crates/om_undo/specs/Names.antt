-- Matter of proofs: names and objects may cross threads.
use denote.Param.Send.{IsSend, IsSync, sendable}
use Rattle.om_foot.specs.contracts.name.Name as name
use Rattle.om_foot.specs.contracts.object.Obj as object

pub name_send : IsSend name.the_row
name_send = search sendable depth 40

pub name_sync : IsSync name.the_row
name_sync = search sendable depth 40

pub object_send : IsSend object.the_field.row
object_send = search (name_send, sendable) depth 40

pub object_sync : IsSync object.the_field.row
object_sync = search (name_sync, sendable) depth 40
