-- The words of values: numbers that no other value has, and with which the words of no other value begin.
use Rattle.std.specs.Prelude.{ℕ, List, [], ◌∷◌, ◌++◌}
use Rattle.om_code.specs.declared.frame.Cell as cells
use Rattle.om_code.specs.declared.frame.Cell.TheVariants as cell
use Rattle.om_events.specs.declared.event.Record as records
use Rattle.om_events.specs.declared.event.Record.TheVariants as event
use Rattle.om_events.specs.Numbers.{endpoint_number, thread_number, status_number, work_number, sync_number}
use Rattle.om_events.specs.Numbers.{flag_number}
use Rattle.om_state.specs.declared.value.Ready.{Ready}
use Rattle.om_state.specs.declared.value.Task as tasks
use Rattle.om_state.specs.declared.value.Task.TheVariants as task
use Rattle.om_state.specs.declared.value.Val.{Val}
use Rattle.om_state.specs.declared.value.Val.TheVariants as value
use Rattle.lab_explore_words.specs.Lists.{number_words, long_words, int_words, list_words, option_words, name_words}
use Rattle.lab_explore_words.specs.Words.{home_words, control_words}

abbrev pub cell_words : cells.Cell → List ℕ
cell_words cell.Unset = 0 ∷ []
cell_words (cell.Int value) = 1 ∷ int_words value
cell_words cell.Dead = 2 ∷ []

unfoldable pub ready_words : Ready → List ℕ
ready_words r = number_words r.body ++ (number_words r.line ++ (list_words home_words r.homes ++ (name_words r.team
    ++ (number_words r.phase ++ option_words name_words r.group))))

abbrev pub task_words : tasks.Task → List ℕ
task_words task.Absent = 0 ∷ []
task_words (task.Ready ready) = 1 ∷ ready_words ready
task_words (task.Running worker) = 2 ∷ number_words worker
task_words task.Done = 3 ∷ []

abbrev pub record_words : records.Record → List ℕ
record_words (event.ThreadBegin thread) = 0 ∷ number_words (thread_number thread)
record_words (event.ParallelBegin task team size) = 1 ∷ (name_words task ++ (name_words team ++ number_words size))
record_words (event.ParallelEnd team task) = 2 ∷ (name_words team ++ name_words task)
record_words (event.TaskCreate task made) = 3 ∷ (name_words task ++ name_words made)
record_words (event.TaskSchedule prior status next) =
    4 ∷ (name_words prior ++ (number_words (status_number status) ++ name_words next))
record_words (event.ImplicitTask endpoint team task size number flag) =
    5 ∷ (number_words (endpoint_number endpoint) ++ (name_words team ++ (name_words task ++ (number_words size
    ++ (number_words number ++ number_words (flag_number flag))))))
record_words (event.MutexReleased lock) = 6 ∷ list_words number_words lock
record_words (event.Work work endpoint team task count) =
    7 ∷ (number_words (work_number work) ++ (number_words (endpoint_number endpoint) ++ (name_words team
    ++ (name_words task ++ number_words count))))
record_words (event.Masked endpoint team task) =
    8 ∷ (number_words (endpoint_number endpoint) ++ (name_words team ++ name_words task))
record_words (event.SyncRegion sync endpoint team task) =
    9 ∷ (number_words (sync_number sync) ++ (number_words (endpoint_number endpoint) ++ (name_words team
    ++ name_words task)))
record_words (event.MutexAcquire lock) = 10 ∷ list_words number_words lock
record_words (event.MutexAcquired lock) = 11 ∷ list_words number_words lock

abbrev pub value_words : Val → List ℕ
value_words (value.Control control) = 0 ∷ control_words control
value_words (value.Cell cell) = 1 ∷ cell_words cell
value_words (value.Task task) = 2 ∷ task_words task
value_words (value.Count count) = 3 ∷ long_words count
value_words (value.Number number) = 4 ∷ number_words number
value_words (value.Lock holder) = 5 ∷ option_words number_words holder
value_words (value.Output bytes) = 6 ∷ list_words number_words bytes
value_words (value.Events records) = 7 ∷ list_words record_words records
