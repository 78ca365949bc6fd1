use Rattle.std.proofs.Common.{rules, inr, ◌≢◌}
use Rattle.std.proofs.lemmas.Result.{err_from_is_err_and}
use Rattle.om_lexer.specs.declared.fault.FaultCode.TheVariants.{Memory}
use Rattle.om_shell.proofs.ServeLaws.{is_refused, Serves_refused, ServesPart_refused}
use Rattle.om_shell.proofs.session.Host.serve.Goals as goal

pub returns-in_err-tell-in-Err-clause-broken_off : goal.returns-in_err-tell-in-Err-clause-broken_off
returns-in_err-tell-in-Err-clause-broken_off g c =
    let p = err_from_is_err_and c.from_residual.result c.from_residual.ensures.1 in
    let other : c.in-Err.fault.code ≢ Memory = search rules in
    let part = c.in_err-tell-in-Err.ensures.begun_on_error in
    rw (p.1, p.2) (inr (ServesPart_refused _ _ _ _ c.in-Err.fault _ (is_refused _ _ c.in-Err.ensures.refused
    other) part.0 part.1))

pub returns-in_ok-tell-in-Err-clause-served : goal.returns-in_ok-tell-in-Err-clause-served
returns-in_ok-tell-in-Err-clause-served g c =
    let other : c.in-Err.fault.code ≢ Memory = search rules in
    rw (c.refused.ensures.status, c.refused.ensures.book) (Serves_refused _ _ _ _ c.in-Err.fault
    (is_refused _ _ c.in-Err.ensures.refused other) c.in_ok-tell-in-Err.ensures.told)
