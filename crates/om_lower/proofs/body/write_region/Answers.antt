use Rattle.std.proofs.Common.{sym, subst}
use Rattle.om_lower.specs.Emitted.{WritesBodyAs, WritesScopesAs}
use Rattle.om_lower.proofs.body.write_region.Goals as goal

pub returns-in-Parallel-clause-code : goal.returns-in-Parallel-clause-code
returns-in-Parallel-clause-code c =
    subst (λ kind. WritesBodyAs kind c.write_parallel.result c.args.tables.now c.args.numbers c.args.region.now
    c.args.writing.now c.write_parallel.new.writing) (sym c.in-Parallel.is) c.write_parallel.ensures.code

pub returns-in-Parallel-clause-scopes : goal.returns-in-Parallel-clause-scopes
returns-in-Parallel-clause-scopes c =
    subst (λ kind. WritesScopesAs kind c.write_parallel.result c.args.tables.now c.args.region.now
    c.args.writing.now c.write_parallel.new.writing) (sym c.in-Parallel.is) c.write_parallel.ensures.scopes

pub returns-in-Task-clause-code : goal.returns-in-Task-clause-code
returns-in-Task-clause-code c =
    subst (λ kind. WritesBodyAs kind c.write_task.result c.args.tables.now c.args.numbers c.args.region.now
    c.args.writing.now c.write_task.new.writing) (sym c.in-Task.is) c.write_task.ensures.code

pub returns-in-Task-clause-scopes : goal.returns-in-Task-clause-scopes
returns-in-Task-clause-scopes c =
    subst (λ kind. WritesScopesAs kind c.write_task.result c.args.tables.now c.args.region.now
    c.args.writing.now c.write_task.new.writing) (sym c.in-Task.is) c.write_task.ensures.scopes
