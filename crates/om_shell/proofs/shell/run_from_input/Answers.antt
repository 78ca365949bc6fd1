use Rattle.std.proofs.lemmas.Result.{err_from_is_err_and, IfOk-weaker}
use Rattle.om_shell.proofs.RunLaws.{Runs_marked, Breaks_reading, Breaks_marked}
use Rattle.om_shell.proofs.RunLaws.{IfErr_weaker}
use Rattle.om_shell.proofs.shell.run_from_input.Goals as goal

pub returns-in_err-marked-clause-broken_off : goal.returns-in_err-marked-clause-broken_off
returns-in_err-marked-clause-broken_off g c =
    let p = err_from_is_err_and c.from_residual.result c.from_residual.ensures.1 in
    rw (p.1, p.2) (Breaks_reading _ _ _ _ _ c.in_err-marked.ensures.failed)

pub returns-then-marked-clause-to_end : goal.returns-then-marked-clause-to_end
returns-then-marked-clause-to_end g c =
    let read = c.in_ok-marked.ensures.marked c.if-marked.true in
    IfOk-weaker c.serve.result _ _ (λ ended served. Runs_marked _ _ _ _ _ _ _ _ _ read served)
    (rw c.deref.ensures.value at c.serve.ensures.served)

pub returns-then-marked-clause-broken_off : goal.returns-then-marked-clause-broken_off
returns-then-marked-clause-broken_off g c =
    let read = c.in_ok-marked.ensures.marked c.if-marked.true in
    IfErr_weaker c.serve.result _ _ (λ fault part. Breaks_marked _ _ _ _ _ _ _ fault read part)
    (rw c.deref.ensures.value at c.serve.ensures.broken_off)
