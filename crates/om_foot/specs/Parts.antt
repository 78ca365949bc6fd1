-- An object as a name and what is left of it.
use Rattle.std.specs.Prelude.{Option, None, Some, ℕ, List}
use Rattle.om_foot.specs.declared.object.Obj.{Obj}
use Rattle.om_foot.specs.declared.object.Obj.TheVariants as obj
use Rattle.om_foot.specs.declared.part.Part.{Part}
use Rattle.om_foot.specs.declared.part.Part.TheVariants as part

-- the name in an object, if there is one
abbrev pub name_of : Obj → Option (List ℕ)
name_of (obj.Control w) = None
name_of (obj.Cell t f s i) = Some t
name_of (obj.Global g i) = None
name_of (obj.Task t) = Some t
name_of (obj.Kids t) = Some t
name_of (obj.Pending t p) = Some t
name_of (obj.Arrived t n) = Some t
name_of (obj.Work t r) = Some t
name_of (obj.Lock l) = None
name_of (obj.Group g) = Some g
name_of obj.Output = None
name_of (obj.Events w) = None

-- what is left without it
abbrev pub part_of : Obj → Part
part_of (obj.Control w) = part.Control w
part_of (obj.Cell t f s i) = part.Cell f s i
part_of (obj.Global g i) = part.Global g i
part_of (obj.Task t) = part.Task
part_of (obj.Kids t) = part.Kids
part_of (obj.Pending t p) = part.Pending p
part_of (obj.Arrived t n) = part.Arrived n
part_of (obj.Work t r) = part.Work r
part_of (obj.Lock l) = part.Lock l
part_of (obj.Group g) = part.Group
part_of obj.Output = part.Output
part_of (obj.Events w) = part.Events w
