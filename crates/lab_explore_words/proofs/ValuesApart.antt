-- The words of values tell these apart.
use Rattle.std.proofs.Common.{◌≡◌, refl, ℕ, List}
use Rattle.om_code.specs.declared.frame.Cell.TheVariants as cell
use Rattle.om_events.specs.declared.event.Record.TheVariants as event
use Rattle.om_events.specs.declared.kind.Endpoint.{Endpoint}
use Rattle.om_events.specs.declared.kind.Endpoint.TheVariants as endpoint
use Rattle.om_events.specs.declared.kind.Thread.{Thread}
use Rattle.om_events.specs.declared.kind.Thread.TheVariants as thread
use Rattle.om_events.specs.declared.kind.TaskStatus.{TaskStatus}
use Rattle.om_events.specs.declared.kind.TaskStatus.TheVariants as status
use Rattle.om_events.specs.declared.kind.Work.{Work}
use Rattle.om_events.specs.declared.kind.Work.TheVariants as work
use Rattle.om_events.specs.declared.kind.Sync.{Sync}
use Rattle.om_events.specs.declared.kind.Sync.TheVariants as sync
use Rattle.om_events.specs.declared.kind.TaskFlag.{TaskFlag}
use Rattle.om_events.specs.declared.kind.TaskFlag.TheVariants as flag
use Rattle.om_events.specs.Numbers.{endpoint_number, thread_number, status_number, work_number, sync_number}
use Rattle.om_events.specs.Numbers.{flag_number}
use Rattle.om_state.specs.declared.value.Task.TheVariants as task
use Rattle.om_state.specs.declared.value.Val.TheVariants as value
use Rattle.lab_explore_words.specs.Laws.{TellApart}
use Rattle.lab_explore_words.specs.Lists.{number_words, list_words, name_words}
use Rattle.lab_explore_words.specs.Words.{home_words}
use Rattle.lab_explore_words.specs.Values.{cell_words, ready_words, task_words, record_words, value_words}
use Rattle.lab_explore_words.proofs.NumbersApart.{behind, heads, differ, number_apart, cut, numbered, int_apart}
use Rattle.lab_explore_words.proofs.NumbersApart.{long_apart, list_apart}
use Rattle.lab_explore_words.proofs.NumbersApart.{option_apart, name_apart}
use Rattle.lab_explore_words.proofs.ControlsApart.{home_apart, control_apart}

-- numbers of OMPT

thread_same : (a b : Thread) → thread_number a ≡ thread_number b → a ≡ b
thread_same thread.Initial thread.Initial h = refl
thread_same thread.Worker thread.Worker h = refl
thread_same _ _ h = absurd (differ _ _ h refl)

endpoint_same : (a b : Endpoint) → endpoint_number a ≡ endpoint_number b → a ≡ b
endpoint_same endpoint.Begin endpoint.Begin h = refl
endpoint_same endpoint.End endpoint.End h = refl
endpoint_same _ _ h = absurd (differ _ _ h refl)

status_same : (a b : TaskStatus) → status_number a ≡ status_number b → a ≡ b
status_same status.Complete status.Complete h = refl
status_same status.Yield status.Yield h = refl
status_same status.Switch status.Switch h = refl
status_same _ _ h = absurd (differ _ _ h refl)

work_same : (a b : Work) → work_number a ≡ work_number b → a ≡ b
work_same work.Loop work.Loop h = refl
work_same work.Sections work.Sections h = refl
work_same work.SingleExecutor work.SingleExecutor h = refl
work_same work.SingleOther work.SingleOther h = refl
work_same _ _ h = absurd (differ _ _ h refl)

sync_same : (a b : Sync) → sync_number a ≡ sync_number b → a ≡ b
sync_same sync.BarrierExplicit sync.BarrierExplicit h = refl
sync_same sync.TaskWait sync.TaskWait h = refl
sync_same sync.TaskGroup sync.TaskGroup h = refl
sync_same sync.BarrierWorksharing sync.BarrierWorksharing h = refl
sync_same sync.BarrierParallel sync.BarrierParallel h = refl
sync_same _ _ h = absurd (differ _ _ h refl)

flag_same : (a b : TaskFlag) → flag_number a ≡ flag_number b → a ≡ b
flag_same flag.Initial flag.Initial h = refl
flag_same flag.Implicit flag.Implicit h = refl
flag_same flag.Explicit flag.Explicit h = refl
flag_same _ _ h = absurd (differ _ _ h refl)

abbrev endpoint_words : Endpoint → List ℕ
endpoint_words a = number_words (endpoint_number a)

endpoint_apart : TellApart endpoint_words
endpoint_apart = numbered endpoint_number endpoint_same

-- values

cell_apart : TellApart cell_words
cell_apart cell.Unset cell.Unset x y h = (refl, behind _ _ _ _ h)
cell_apart (cell.Int a) (cell.Int b) x y h =
    let p = int_apart a b x y (behind _ _ _ _ h) in ((λ i. cell.Int (p.0 i)), p.1)
cell_apart cell.Dead cell.Dead x y h = (refl, behind _ _ _ _ h)
cell_apart _ _ x y h = absurd (heads _ _ _ _ h refl)

ready_apart : TellApart ready_words
unfolding ready_words
ready_apart a b x y h =
    let p0 = cut number_words number_apart a.body b.body _ _ x y h in
    let p1 = cut number_words number_apart a.line b.line _ _ x y p0.1 in
    let p2 = cut (list_words home_words) (list_apart home_words home_apart) a.homes b.homes _ _ x y p1.1 in
    let p3 = cut name_words name_apart a.team b.team _ _ x y p2.1 in
    let p4 = cut number_words number_apart a.phase b.phase _ _ x y p3.1 in
    let p5 = option_apart name_words name_apart a.group b.group x y p4.1 in (
      (λ i. record {
        body = p0.0 i;
        line = p1.0 i;
        homes = p2.0 i;
        team = p3.0 i;
        phase = p4.0 i;
        group = p5.0 i;
      }),
      p5.1,
    )

task_apart : TellApart task_words
task_apart task.Absent task.Absent x y h = (refl, behind _ _ _ _ h)
task_apart (task.Ready a) (task.Ready b) x y h =
    let p = ready_apart a b x y (behind _ _ _ _ h) in ((λ i. task.Ready (p.0 i)), p.1)
task_apart (task.Running a) (task.Running b) x y h =
    let p = number_apart a b x y (behind _ _ _ _ h) in ((λ i. task.Running (p.0 i)), p.1)
task_apart task.Done task.Done x y h = (refl, behind _ _ _ _ h)
task_apart _ _ x y h = absurd (heads _ _ _ _ h refl)

record_apart : TellApart record_words
record_apart (event.ThreadBegin a) (event.ThreadBegin b) x y h =
    let p = numbered thread_number thread_same a b x y (behind _ _ _ _ h) in
    ((λ i. event.ThreadBegin (p.0 i)), p.1)
record_apart (event.ParallelBegin t m s) (event.ParallelBegin u n r) x y h =
    let p = cut name_words name_apart t u _ _ x y (behind _ _ _ _ h) in
    let q = cut name_words name_apart m n _ _ x y p.1 in
    let w = number_apart s r x y q.1 in
    ((λ i. event.ParallelBegin (p.0 i) (q.0 i) (w.0 i)), w.1)
record_apart (event.ParallelEnd m t) (event.ParallelEnd n u) x y h =
    let p = cut name_words name_apart m n _ _ x y (behind _ _ _ _ h) in
    let q = name_apart t u x y p.1 in
    ((λ i. event.ParallelEnd (p.0 i) (q.0 i)), q.1)
record_apart (event.TaskCreate m t) (event.TaskCreate n u) x y h =
    let p = cut name_words name_apart m n _ _ x y (behind _ _ _ _ h) in
    let q = name_apart t u x y p.1 in
    ((λ i. event.TaskCreate (p.0 i) (q.0 i)), q.1)
record_apart (event.TaskSchedule m s t) (event.TaskSchedule n r u) x y h =
    let p = cut name_words name_apart m n _ _ x y (behind _ _ _ _ h) in
    let w = cut (λ (a : TaskStatus). number_words (status_number a)) (numbered status_number status_same) s r _ _ x y
    p.1 in
    let q = name_apart t u x y w.1 in
    ((λ i. event.TaskSchedule (p.0 i) (w.0 i) (q.0 i)), q.1)
record_apart (event.ImplicitTask d m t s k f) (event.ImplicitTask e n u r l g) x y h =
    let p0 = cut endpoint_words endpoint_apart d e _ _ x y (behind _ _ _ _ h) in
    let p1 = cut name_words name_apart m n _ _ x y p0.1 in
    let p2 = cut name_words name_apart t u _ _ x y p1.1 in
    let p3 = cut number_words number_apart s r _ _ x y p2.1 in
    let p4 = cut number_words number_apart k l _ _ x y p3.1 in
    let p5 = numbered flag_number flag_same f g x y p4.1 in
    ((λ i. event.ImplicitTask (p0.0 i) (p1.0 i) (p2.0 i) (p3.0 i) (p4.0 i) (p5.0 i)), p5.1)
record_apart (event.MutexReleased a) (event.MutexReleased b) x y h =
    let p = list_apart number_words number_apart a b x y (behind _ _ _ _ h) in
    ((λ i. event.MutexReleased (p.0 i)), p.1)
record_apart (event.Work v d m t s) (event.Work w e n u r) x y h =
    let p0 = cut (λ (a : Work). number_words (work_number a)) (numbered work_number work_same) v w _ _ x y
    (behind _ _ _ _ h) in
    let p1 = cut endpoint_words endpoint_apart d e _ _ x y p0.1 in
    let p2 = cut name_words name_apart m n _ _ x y p1.1 in
    let p3 = cut name_words name_apart t u _ _ x y p2.1 in
    let p4 = number_apart s r x y p3.1 in
    ((λ i. event.Work (p0.0 i) (p1.0 i) (p2.0 i) (p3.0 i) (p4.0 i)), p4.1)
record_apart (event.Masked d m t) (event.Masked e n u) x y h =
    let p0 = cut endpoint_words endpoint_apart d e _ _ x y (behind _ _ _ _ h) in
    let p1 = cut name_words name_apart m n _ _ x y p0.1 in
    let p2 = name_apart t u x y p1.1 in
    ((λ i. event.Masked (p0.0 i) (p1.0 i) (p2.0 i)), p2.1)
record_apart (event.SyncRegion v d m t) (event.SyncRegion w e n u) x y h =
    let p0 = cut (λ (a : Sync). number_words (sync_number a)) (numbered sync_number sync_same) v w _ _ x y
    (behind _ _ _ _ h) in
    let p1 = cut endpoint_words endpoint_apart d e _ _ x y p0.1 in
    let p2 = cut name_words name_apart m n _ _ x y p1.1 in
    let p3 = name_apart t u x y p2.1 in
    ((λ i. event.SyncRegion (p0.0 i) (p1.0 i) (p2.0 i) (p3.0 i)), p3.1)
record_apart (event.MutexAcquire a) (event.MutexAcquire b) x y h =
    let p = list_apart number_words number_apart a b x y (behind _ _ _ _ h) in
    ((λ i. event.MutexAcquire (p.0 i)), p.1)
record_apart (event.MutexAcquired a) (event.MutexAcquired b) x y h =
    let p = list_apart number_words number_apart a b x y (behind _ _ _ _ h) in
    ((λ i. event.MutexAcquired (p.0 i)), p.1)
record_apart _ _ x y h = absurd (heads _ _ _ _ h refl)

pub value_apart : TellApart value_words
value_apart (value.Control a) (value.Control b) x y h =
    let p = control_apart a b x y (behind _ _ _ _ h) in ((λ i. value.Control (p.0 i)), p.1)
value_apart (value.Cell a) (value.Cell b) x y h =
    let p = cell_apart a b x y (behind _ _ _ _ h) in ((λ i. value.Cell (p.0 i)), p.1)
value_apart (value.Task a) (value.Task b) x y h =
    let p = task_apart a b x y (behind _ _ _ _ h) in ((λ i. value.Task (p.0 i)), p.1)
value_apart (value.Count a) (value.Count b) x y h =
    let p = long_apart a b x y (behind _ _ _ _ h) in ((λ i. value.Count (p.0 i)), p.1)
value_apart (value.Number a) (value.Number b) x y h =
    let p = number_apart a b x y (behind _ _ _ _ h) in ((λ i. value.Number (p.0 i)), p.1)
value_apart (value.Lock a) (value.Lock b) x y h =
    let p = option_apart number_words number_apart a b x y (behind _ _ _ _ h) in ((λ i. value.Lock (p.0 i)), p.1)
value_apart (value.Output a) (value.Output b) x y h =
    let p = list_apart number_words number_apart a b x y (behind _ _ _ _ h) in ((λ i. value.Output (p.0 i)), p.1)
value_apart (value.Events a) (value.Events b) x y h =
    let p = list_apart record_words record_apart a b x y (behind _ _ _ _ h) in ((λ i. value.Events (p.0 i)), p.1)
value_apart _ _ x y h = absurd (heads _ _ _ _ h refl)
