-- The words for the objects at which steps conflict.
use Rattle.std.specs.Prelude.{ℕ, List, [], ◌++◌, ◌∷◌, codes, decimal, Option, None, Some, slice_get}
use Rattle.om_code.specs.declared.raw.GlobalVariable.{GlobalVariable}
use Rattle.om_code.specs.declared.raw.Raw.{Raw}
use Rattle.om_foot.specs.declared.object.Obj.{Obj}
use Rattle.om_foot.specs.declared.object.Obj.TheVariants as object
use Rattle.om_foot.specs.Names.{name_text}
use Rattle.lab_draw.specs.Escapes.{escaped}

abbrev pub named_text : List ℕ → List ℕ → List ℕ
named_text before name = before ++ name_text name

abbrev pub numbered_text : List ℕ → List ℕ → ℕ → List ℕ
numbered_text before team number = named_text before team ++ (codes " number " ++ decimal number)

-- its task, the ordinal of its frame, its slot and its index: `cell 0.1.0/0/2/0`
abbrev pub cell_words : List ℕ → ℕ → ℕ → ℕ → List ℕ
cell_words task frame slot index = named_text (codes "cell ") task ++ (codes "/" ++ decimal frame)
    ++ (codes "/" ++ decimal slot) ++ (codes "/" ++ decimal index)

-- what stands round it where the name of the variable is known: `x (cell 0.1.0/0/2/0)`
abbrev pub before_cell : List ℕ → List ℕ
before_cell [] = []
before_cell (c ∷ cs) = escaped (c ∷ cs) ++ codes " ("

abbrev pub behind_cell : List ℕ → List ℕ
behind_cell [] = []
behind_cell (c ∷ cs) = codes ")"

-- the index of a cell is shown of an array alone
abbrev pub index_words : Option ℕ → ℕ → List ℕ
index_words None index = []
index_words (Some length) index = codes "[" ++ decimal index ++ codes "]"

abbrev pub global_words : Option GlobalVariable → ℕ → List ℕ
global_words None index = []
global_words (Some global) index = escaped global.name ++ index_words global.length index

-- a cell of a global as the source writes it: `x`, or `a[2]`
abbrev pub variable_words : Raw → ℕ → ℕ → List ℕ
variable_words program variable index = global_words (slice_get program.globals variable) index

abbrev pub name_in : Option (List ℕ) → List ℕ
name_in None = []
name_in (Some name) = name

-- the name of a critical region, where it has one
abbrev pub name_of_lock : Raw → ℕ → List ℕ
name_of_lock program lock = name_in (slice_get program.locks lock)

abbrev pub lock_words : Raw → ℕ → List ℕ
lock_words program lock = codes "lock of critical " ++ escaped (name_of_lock program lock)

-- The words for an object. Where it is a cell of a local variable, `name` is that variable's name, or has no bytes where
-- it is not known.
abbrev pub object_words : Raw → List ℕ → Obj → List ℕ
object_words program name (object.Control worker) = codes "control of worker " ++ decimal worker
object_words program name (object.Cell task frame slot index) =
    before_cell name ++ cell_words task frame slot index ++ behind_cell name
object_words program name (object.Global variable index) = variable_words program variable index
object_words program name (object.Task task) = named_text (codes "task ") task
object_words program name (object.Kids task) = named_text (codes "children of task ") task
object_words program name (object.Pending team phase) = numbered_text (codes "tasks of team ") team phase
object_words program name (object.Arrived team number) = numbered_text (codes "barriers of team ") team number
object_words program name (object.Work team region) = numbered_text (codes "shares of team ") team region
object_words program name (object.Lock lock) = lock_words program lock
object_words program name (object.Group group) = named_text (codes "task group ") group
object_words program name object.Output = codes "output"
object_words program name (object.Events worker) = codes "events of worker " ++ decimal worker
