use Rattle.std.proofs.Common.{refl, sym, ◌∙◌, arith}
use Rattle.std.proofs.lemmas.Result.{on_ok_weaker}
use Rattle.om_shell_debugger.proofs.Bounded.{run_ends, run_came}
use Rattle.om_shell_debugger.proofs.runs.run.Goals as goal

pub returns-in-NoMove : goal.returns-in-NoMove
returns-in-NoMove c =
    let came = sym c.in_ok-advance.ensures.moved ∙ c.in-NoMove.is in
    let said = sym c.steps.invariant.said ∙ run_came _ _ _ _ _ c.steps-test.true came in
    rw said (on_ok_weaker c.push_without_move.result (λ written. (written, c.in_ok-advance.ensures.after))
    (rw (c.in_ok-advance.ensures.after, c.steps.invariant.text) at c.push_without_move.ensures))

pub returns-in-Full : goal.returns-in-Full
returns-in-Full c =
    let came = sym c.in_ok-advance.ensures.moved ∙ c.in-Full.is in
    let said = sym c.steps.invariant.said ∙ run_came _ _ _ _ _ c.steps-test.true came in
    rw said (on_ok_weaker c.push_full.result (λ written. (written, c.in_ok-advance.ensures.after))
    (rw c.steps.invariant.text at c.push_full.ensures))

pub returns-in-Stopped : goal.returns-in-Stopped
returns-in-Stopped c =
    let came = sym c.in_ok-advance.ensures.moved ∙ c.in-Stopped.is in
    let said = sym c.steps.invariant.said ∙ run_came _ _ _ _ _ c.steps-test.true came in
    rw said (on_ok_weaker c.push_ran.result (λ written. (written, c.in_ok-advance.ensures.after))
    (rw (
      c.program.ensures,
      c.machine.ensures.program,
      c.in_ok-advance.ensures.after,
      c.steps.invariant.text,
    ) at c.push_ran.ensures))

pub steps-preserved : goal.steps-preserved
steps-preserved c =
    let came = sym c.in_ok-advance.ensures.moved ∙ c.in-GoesOn.is in
    rw c.in_ok-advance.ensures.after (record {
      said = sym (run_came _ _ _ _ _ c.steps-test.true came) ∙ c.steps.invariant.said;
      text = c.steps.invariant.text;
      count = omega (arith, c.steps.invariant.count, c.steps-test.true);
    })

pub returns : goal.returns
returns c =
    let said = sym c.steps.invariant.said ∙ run_ends _ _ _ _ (omega (arith, c.steps-test.false)) in
    rw said (on_ok_weaker c.push_ran-2.result (λ written. (written, refl))
    (rw c.steps.invariant.text at c.push_ran-2.ensures))
