use Rattle.std.proofs.Common.{◌+◌, None, arith, drop}
use Rattle.std.proofs.lemmas.List.{drop_all}
use Rattle.om_lower_emit.specs.Writing.{goes_end}
use Rattle.om_lower_rules.specs.Rows.{end}
use Rattle.om_lower_rules.specs.Scopes.{parameter_scope}
use Rattle.om_lower_emit.proofs.ScopeStacks.{left_one}
use Rattle.om_lower_emit.specs.Scoping.{each_end, each_next, scopes_begin, stand_opens_at}
use Rattle.om_lower_emit.proofs.declaration.begin_parameters.Goals as goal

pub loop-parameter-init : goal.loop-parameter-init
loop-parameter-init c = λ names d. scopes_begin names _ _ _

pub loop-parameter-preserved : goal.loop-parameter-preserved
loop-parameter-preserved c = λ names d.
    each_next names (λ at. parameter_scope) _ _ (drop (c.loop-parameter.parameter-index + 1) c.args.parameters.now) _ d _ d _ d _
    (left_one c.args.parameters.now c.loop-parameter.parameter-index c.parameter-item.result
    c.loop-parameter-test.true c.parameter-item.is)
    (c.loop-parameter.invariant names d)
    (stand_opens_at names 0 None c.parameter-item.result (λ at. end) d d _ _ (omega arith) c.in_ok-begin.ensures (goes_end 0 d).writes)

pub returns : goal.returns
returns c = λ names d.
    each_end names (λ at. parameter_scope) _ _ d _ d _
    (drop_all c.loop-parameter.parameter-index c.args.parameters.now c.loop-parameter-test.false)
    (c.loop-parameter.invariant names d)
