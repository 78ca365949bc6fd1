-- The numbers that OMPT gives to the values of its enumerations (OpenMP 5.2, 19.4.4).
use Rattle.std.specs.Prelude.{ℕ}
use Rattle.om_events.specs.declared.kind.Endpoint.{Endpoint}
use Rattle.om_events.specs.declared.kind.Endpoint.TheVariants as endpoint
use Rattle.om_events.specs.declared.kind.Thread.{Thread}
use Rattle.om_events.specs.declared.kind.Thread.TheVariants as thread
use Rattle.om_events.specs.declared.kind.TaskStatus.{TaskStatus}
use Rattle.om_events.specs.declared.kind.TaskStatus.TheVariants as status
use Rattle.om_events.specs.declared.kind.Work.{Work}
use Rattle.om_events.specs.declared.kind.Work.TheVariants as work
use Rattle.om_events.specs.declared.kind.Sync.{Sync}
use Rattle.om_events.specs.declared.kind.Sync.TheVariants as sync
use Rattle.om_events.specs.declared.kind.TaskFlag.{TaskFlag}
use Rattle.om_events.specs.declared.kind.TaskFlag.TheVariants as flag

-- ompt_scope_endpoint_t
abbrev pub endpoint_number : Endpoint → ℕ
endpoint_number endpoint.Begin = 1
endpoint_number endpoint.End = 2

-- ompt_thread_t
abbrev pub thread_number : Thread → ℕ
thread_number thread.Initial = 1
thread_number thread.Worker = 2

-- ompt_task_status_t
abbrev pub status_number : TaskStatus → ℕ
status_number status.Complete = 1
status_number status.Yield = 2
status_number status.Switch = 7

-- ompt_work_t
abbrev pub work_number : Work → ℕ
work_number work.Loop = 1
work_number work.Sections = 2
work_number work.SingleExecutor = 3
work_number work.SingleOther = 4

-- ompt_sync_region_t
abbrev pub sync_number : Sync → ℕ
sync_number sync.BarrierExplicit = 3
sync_number sync.TaskWait = 5
sync_number sync.TaskGroup = 6
sync_number sync.BarrierWorksharing = 8
sync_number sync.BarrierParallel = 9

-- ompt_task_flag_t
abbrev pub flag_number : TaskFlag → ℕ
flag_number flag.Initial = 1
flag_number flag.Implicit = 2
flag_number flag.Explicit = 4
