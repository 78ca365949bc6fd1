-- The steps of a walk, one at a time.
use Rattle.std.proofs.Common.{◌≡◌, refl, ap, ◌∙◌, ◌<◌, ◌≤◌, ◌-◌, ◌+◌, ℕ, zero, suc, Bool, true, false, cond, arith}
use Rattle.om_state.specs.declared.step.Choice.TheVariants.{Next}
use Rattle.om_state.specs.declared.step.Label.{Label}
use Rattle.om_book.specs.Books.{BookView, is_full}
use Rattle.om_shell_debugger.specs.declared.marks.Marks.{Marks}
use Rattle.om_shell_debugger.specs.Calls.{with_step}
use Rattle.om_task.specs.Plans.{label_at}
use Rattle.om_undo.specs.Machines.{MachineView, step_reply}
use Rattle.om_undo.specs.PlannedSteps.{PlannedView, is_made, planned_at}
use Rattle.lab_macros.specs.declared.walk.Miss.TheVariants.{Far}
use Rattle.lab_macros.specs.declared.walk.Stride.{Stride}
use Rattle.lab_macros.specs.declared.walk.Walk.TheVariants as walk
use Rattle.lab_macros.specs.Walks.{behind_stride, can_step, stride_of, walk_by, walk_within}

-- what is planned says whether the step can be made
pub can_be_made : (m : MachineView) (l : Label) (p : PlannedView) (can : Bool) → p ≡ planned_at m l
    → can ≡ is_made (step_reply p.machine p.label) → can ≡ is_made (step_reply m l)
can_be_made m l p can is e = e ∙ ap (λ (v : PlannedView). is_made (step_reply v.machine v.label)) is

same_by : (can full : Bool) (b after : BookView) → after.start ≡ b.start
    → (cond can (cond full b after) b).start ≡ b.start
same_by true true b after e = refl
same_by true false b after e = e
same_by false full b after e = refl

-- a step leaves the book's start as it was
pub same_start : (worker : ℕ) (b : BookView) → (behind_stride worker b).start ≡ b.start
same_start worker b = same_by (can_step worker b) (is_full b) b (with_step b (label_at worker Next)) refl

pub walk_ends : (left made : ℕ) (marks : Marks) (worker : ℕ) (b : BookView) → left ≤ 0
    → walk_within left made marks worker b ≡ walk.Missed Far
unfolding walk_within
walk_ends zero made marks worker b p = refl
walk_ends (suc n) made marks worker b p = absurd (omega (arith, p))

pub walk_came : (left made : ℕ) (marks : Marks) (worker : ℕ) (b : BookView) (came : Stride) → 0 < left
    → stride_of marks worker b ≡ came
    → walk_within left made marks worker b ≡ walk_by came made (walk_within (left - 1) (made + 1) marks worker
    (behind_stride worker b))
unfolding walk_within
walk_came zero made marks worker b came p e = absurd (omega (arith, p))
walk_came (suc n) made marks worker b came p e =
    let same : suc n - 1 ≡ n = omega arith in
    rw same (ap (λ s. walk_by s made (walk_within n (made + 1) marks worker (behind_stride worker b))) e)
