-- The texts of objects, as a reply names them.
use Rattle.std.specs.Prelude.{ℕ, List, [], ◌∷◌, ◌++◌, codes, decimal, Option, None, Some, option_and_then, slice_get}
use Rattle.om_code.specs.declared.raw.GlobalVariable.{GlobalVariable}
use Rattle.om_code.specs.declared.raw.Raw.{Raw}
use Rattle.om_foot.specs.declared.object.Obj.{Obj}
use Rattle.om_foot.specs.declared.object.Obj.TheVariants as object
use Rattle.om_foot.specs.Names.{name_text}
use Rattle.om_shell_commands.specs.declared.value.GlobalCell.{GlobalCell}

abbrev pub name_in : Option GlobalVariable → List ℕ
name_in None = []
name_in (Some global) = global.name

-- the name of a global
abbrev pub name_of : Raw → ℕ → List ℕ
name_of program global = name_in (slice_get program.globals global)

-- the length of a global, where it is an array
abbrev pub length_of : Raw → ℕ → Option ℕ
length_of program global = option_and_then (λ g. g.length) (slice_get program.globals global)

-- the index of a cell is shown of an array alone
abbrev pub index_text : Option ℕ → ℕ → List ℕ
index_text None index = []
index_text (Some length) index = codes "[" ++ decimal index ++ codes "]"

-- a cell of a global as the source writes it: `x`, or `a[2]`
abbrev pub variable_text : Raw → GlobalCell → List ℕ
variable_text program cell = name_of program cell.variable ++ index_text (length_of program cell.variable) cell.index

-- the name of a critical region; `-` for the unnamed one
abbrev pub lock_text : Option (List ℕ) → List ℕ
lock_text None = []
lock_text (Some []) = codes "-"
lock_text (Some (byte ∷ bytes)) = byte ∷ bytes

-- a place in a team: `0.1 2`
abbrev pub place_text : List ℕ → ℕ → List ℕ
place_text team number = name_text team ++ codes " " ++ decimal number

-- an object that has a number in a team, by its kind: `pending 0.1 2`
abbrev pub team_text : List ℕ → List ℕ → ℕ → List ℕ
team_text kind team number = kind ++ place_text team number

-- a cell of a local variable: its task, the ordinal of its frame, its slot and its index: `0.1.0/0/2/0`
abbrev pub cell_place_text : List ℕ → ℕ → ℕ → ℕ → List ℕ
cell_place_text task frame slot index = name_text task ++ codes "/" ++ decimal frame ++ codes "/" ++ decimal slot
    ++ codes "/" ++ decimal index

-- a cell of a local variable: `cell 0.1.0/0/2/0`
abbrev pub slot_text : List ℕ → ℕ → ℕ → ℕ → List ℕ
slot_text task frame slot index = codes "cell " ++ cell_place_text task frame slot index

-- a cell of a global: `global a[2]`
abbrev pub global_text : Raw → GlobalCell → List ℕ
global_text program cell = codes "global " ++ variable_text program cell

-- a critical region: `lock x`
abbrev pub region_text : Raw → ℕ → List ℕ
region_text program lock = codes "lock " ++ lock_text (slice_get program.locks lock)

abbrev pub object_text : Raw → Obj → List ℕ
object_text program (object.Control worker) = codes "control " ++ decimal worker
object_text program (object.Cell task frame slot index) = slot_text task frame slot index
object_text program (object.Global global index) = global_text program
    (record { variable = global; index = index })
object_text program (object.Task task) = codes "task " ++ name_text task
object_text program (object.Kids task) = codes "children " ++ name_text task
object_text program (object.Pending team phase) = team_text (codes "pending ") team phase
object_text program (object.Arrived team number) = team_text (codes "arrived ") team number
object_text program (object.Work team region) = team_text (codes "work ") team region
object_text program (object.Lock lock) = region_text program lock
object_text program (object.Group group) = codes "group " ++ name_text group
object_text program object.Output = codes "output"
object_text program (object.Events worker) = codes "events " ++ decimal worker
