-- The words of objects: the number of its kind, and its parameters.
use Rattle.std.specs.Prelude.{ℕ, List, [], ◌∷◌, ◌++◌}
use Rattle.om_foot.specs.declared.object.Obj.{Obj}
use Rattle.om_foot.specs.declared.object.Obj.TheVariants as object
use Rattle.lab_explore_words.specs.Lists.{number_words, name_words}

abbrev pub object_words : Obj → List ℕ
object_words (object.Control worker) = 0 ∷ number_words worker
object_words (object.Cell task frame slot index) =
    1 ∷ (name_words task ++ (number_words frame ++ (number_words slot ++ number_words index)))
object_words (object.Global variable index) = 2 ∷ (number_words variable ++ number_words index)
object_words (object.Task name) = 3 ∷ name_words name
object_words (object.Kids name) = 4 ∷ name_words name
object_words (object.Pending team phase) = 5 ∷ (name_words team ++ number_words phase)
object_words (object.Arrived team number) = 6 ∷ (name_words team ++ number_words number)
object_words (object.Work team region) = 7 ∷ (name_words team ++ number_words region)
object_words (object.Lock number) = 8 ∷ number_words number
object_words (object.Group name) = 9 ∷ name_words name
object_words object.Output = 10 ∷ []
object_words (object.Events worker) = 11 ∷ number_words worker
