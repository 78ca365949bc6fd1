use Rattle.std.proofs.Common.{arith, ◌≡◌, ◌+◌, ◌∙◌, ℕ, suc, List, drop, sym, subst}
use Rattle.std.proofs.Math.Seq.{drop-cons}
use Rattle.om_state.specs.declared.value.Run.{Run}
use Rattle.om_state.specs.Runs.{runs_listed}
use Rattle.lab_replay.specs.Said.{first_number}
use Rattle.lab_replay.proofs.Numbers.{run_found, run_passed}
use Rattle.lab_replay.proofs.value.number_in_runs.Goals as goal

pub returns-then-is_some : goal.returns-then-is_some
returns-then-is_some c =
    let runs : List Run = c.args.runs.now in
    let i : ℕ = c.loop-run.run-index in
    run_found (drop i runs) (drop (suc i) runs) _ _ _ (drop-cons runs i _ c.loop-run-test.true)
    c.loop-run.invariant c.number_of_run-number.ensures (sym c.is_some.ensures ∙ c.if-is_some.true)

pub loop-run-preserved : goal.loop-run-preserved
loop-run-preserved c =
    let runs : List Run = c.args.runs.now in
    let i : ℕ = c.loop-run.run-index in
    let next : suc i ≡ i + 1 = omega arith in
    subst (λ k. first_number (runs_listed (drop k runs)) ≡ first_number (runs_listed runs)) next
    (run_passed (drop i runs) (drop (suc i) runs) _ _ _ (drop-cons runs i _ c.loop-run-test.true)
    c.loop-run.invariant c.number_of_run-number.ensures (sym c.is_some.ensures ∙ c.if-is_some.false))
