use Rattle.std.proofs.Common.{ap, map}
use Rattle.om_code.specs.declared.instruction.Instr.TheVariants as i
use Rattle.om_code.specs.declared.instruction.Region.TheVariants as regionals
use Rattle.om_lower_emit.specs.Emits.{names_at}
use Rattle.om_lower_emit.proofs.Leaves.{emits_one, emits_put_then, emits_then_one, emits_two}
use Rattle.om_lower_emit.specs.Going.{begins, puts_is}
use Rattle.om_scope_tree.specs.ResolvedView as view
use Rattle.om_lower_emit.proofs.Scoped.{critical_begins, group_begins, masked_begins, single_begins}
use Rattle.om_lower_emit.proofs.construct.begin_construct.Goals as goal

pub returns-in_ok-starts-in-Single-clause-code : goal.returns-in_ok-starts-in-Single-clause-code
returns-in_ok-starts-in-Single-clause-code c = rw c.in-Single.is (begins _ _ _ _ _ c.in_ok-label.ensures
    (emits_put_then (names_at c.args.here.now) _ _ _ _ _ _ c.in_ok-put_jump-in-Single.ensures
    c.in_ok-starts-in-Single.ensures.code))

pub returns-in_ok-put_jump-in-Masked-clause-code : goal.returns-in_ok-put_jump-in-Masked-clause-code
returns-in_ok-put_jump-in-Masked-clause-code c = rw c.in-Masked.is (begins _ _ _ _ _ c.in_ok-label.ensures
    (emits_then_one (names_at c.args.here.now) _ _ _ _ _ _ c.in_ok-filter-in-Masked.ensures
    c.in_ok-put_jump-in-Masked.ensures))

pub returns-in_ok-put-in-Critical-2-clause-code : goal.returns-in_ok-put-in-Critical-2-clause-code
returns-in_ok-put-in-Critical-2-clause-code c = rw c.in-Critical.is (begins _ _ _ _ _ c.in_ok-label.ensures
    (emits_two (names_at c.args.here.now) _ _ _ _ _ _
    (puts_is _ _ _ _ _ (ap (λ x. i.Region (regionals.AskCritical x)) c.lock_number-lock.ensures) c.in_ok-put-in-Critical.ensures)
    (puts_is _ _ _ _ _ (ap (λ x. i.Region (regionals.EnterCritical x)) c.lock_number-lock.ensures) c.in_ok-put-in-Critical-2.ensures)))

pub returns-in_ok-put-in-Taskgroup-clause-code : goal.returns-in_ok-put-in-Taskgroup-clause-code
returns-in_ok-put-in-Taskgroup-clause-code c = rw c.in-Taskgroup.is (begins _ _ _ _ _ c.in_ok-label.ensures
    (emits_one (names_at c.args.here.now) _ _ _ _ c.in_ok-put-in-Taskgroup.ensures))

pub returns-in_ok-starts-in-Single-clause-scopes : goal.returns-in_ok-starts-in-Single-clause-scopes
returns-in_ok-starts-in-Single-clause-scopes c = rw c.in-Single.is (single_begins (names_at c.args.here.now)
    c.args.here.now.at.line c.in-Single.nowait (map view.clause c.args.clauses.now) _ _ _ _ _ _ _ _ c.in_ok-label.ensures
    c.in_ok-put_jump-in-Single.ensures c.in_ok-starts-in-Single.ensures.scopes)

pub returns-in_ok-put_jump-in-Masked-clause-scopes : goal.returns-in_ok-put_jump-in-Masked-clause-scopes
returns-in_ok-put_jump-in-Masked-clause-scopes c = rw c.in-Masked.is (masked_begins (names_at c.args.here.now)
    c.args.here.now.at.line (map view.clause c.args.clauses.now) _ _ _ _ _ _ _ c.in_ok-label.ensures
    c.in_ok-filter-in-Masked.ensures c.in_ok-put_jump-in-Masked.ensures)

pub returns-in_ok-put-in-Critical-2-clause-scopes : goal.returns-in_ok-put-in-Critical-2-clause-scopes
returns-in_ok-put-in-Critical-2-clause-scopes c = rw c.in-Critical.is (critical_begins (names_at c.args.here.now)
    c.args.here.now.at.line c.in-Critical.name (map view.clause c.args.clauses.now) _ _ _ _ _ _ _ _ c.in_ok-label.ensures
    c.in_ok-put-in-Critical.ensures c.in_ok-put-in-Critical-2.ensures)

pub returns-in_ok-put-in-Taskgroup-clause-scopes : goal.returns-in_ok-put-in-Taskgroup-clause-scopes
returns-in_ok-put-in-Taskgroup-clause-scopes c = rw c.in-Taskgroup.is (group_begins (names_at c.args.here.now)
    c.args.here.now.at.line (map view.clause c.args.clauses.now) _ _ _ _ _ _ c.in_ok-label.ensures
    c.in_ok-put-in-Taskgroup.ensures)
