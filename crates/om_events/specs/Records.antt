-- The texts of event records.
use Rattle.std.specs.Prelude.{ℕ, List, [], ◌∷◌, ◌++◌, codes, decimal}
use Rattle.om_foot.specs.Names.{name_text}
use Rattle.om_events.specs.declared.event.Record.{Record}
use Rattle.om_events.specs.declared.event.Record.TheVariants as event
use Rattle.om_events.specs.declared.kind.Endpoint.{Endpoint}
use Rattle.om_events.specs.declared.kind.TaskFlag.TheVariants as flag
use Rattle.om_events.specs.Numbers.{endpoint_number, thread_number, status_number, work_number, sync_number}
use Rattle.om_events.specs.Numbers.{flag_number}

-- words, each behind a space
abbrev pub spaced : List (List ℕ) → List ℕ
spaced [] = []
spaced (word ∷ words) = codes " " ++ word ++ spaced words

-- the name of a critical region, `-` for the empty one
abbrev pub lock_text : List ℕ → List ℕ
lock_text [] = codes "-"
lock_text (letter ∷ letters) = letter ∷ letters

-- what names a region's end: the endpoint, the team and the task
abbrev pub ends : Endpoint → List ℕ → List ℕ → List (List ℕ) → List (List ℕ)
ends endpoint team task words = decimal (endpoint_number endpoint) ∷ name_text team ∷ name_text task ∷ words

-- the text of a record: the number and the name of its callback (OpenMP 5.2, 19.4.2), then its values;
-- behind the callbacks of a mutex stands 5, `ompt_mutex_critical` (OpenMP 5.2, 19.4.4)
abbrev pub record_text : Record → List ℕ
record_text (event.ThreadBegin thread) =
    codes "1 thread_begin" ++ spaced (decimal (thread_number thread) ∷ [])
record_text (event.ParallelBegin task team size) =
    codes "3 parallel_begin" ++ spaced (name_text task ∷ name_text team ∷ decimal size ∷ [])
record_text (event.ParallelEnd team task) =
    codes "4 parallel_end" ++ spaced (name_text team ∷ name_text task ∷ [])
record_text (event.TaskCreate task new) =
    codes "5 task_create" ++ spaced (name_text task ∷ name_text new ∷ decimal (flag_number flag.Explicit) ∷ [])
record_text (event.TaskSchedule prior status next) =
    codes "6 task_schedule" ++ spaced (name_text prior ∷ decimal (status_number status) ∷ name_text next ∷ [])
record_text (event.ImplicitTask endpoint team task size number kind) =
    codes "7 implicit_task"
    ++ spaced (ends endpoint team task (decimal size ∷ decimal number ∷ decimal (flag_number kind) ∷ []))
record_text (event.MutexReleased lock) = codes "17 mutex_released 5" ++ spaced (lock_text lock ∷ [])
record_text (event.Work work endpoint team task count) =
    codes "20 work" ++ spaced (decimal (work_number work) ∷ ends endpoint team task (decimal count ∷ []))
record_text (event.Masked endpoint team task) =
    codes "21 masked" ++ spaced (ends endpoint team task [])
record_text (event.SyncRegion sync endpoint team task) =
    codes "23 sync_region" ++ spaced (decimal (sync_number sync) ∷ ends endpoint team task [])
record_text (event.MutexAcquire lock) = codes "26 mutex_acquire 5" ++ spaced (lock_text lock ∷ [])
record_text (event.MutexAcquired lock) = codes "27 mutex_acquired 5" ++ spaced (lock_text lock ∷ [])
