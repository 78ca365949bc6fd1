use Rattle.std.proofs.Common.{true, sym, subst}
use Rattle.om_lower.specs.Regions.{EmitsRegion, clauses_of, statement_as}
use Rattle.om_lower_rules.specs.Coded.{RegionIsCoded}
use Rattle.om_lower.proofs.region.region_there.Goals as goal

pub parallel-requires-clause-code : goal.parallel-requires-clause-code
parallel-requires-clause-code c =
    subst (λ kind. RegionIsCoded true kind (clauses_of c.args.region.now)) c.in-Parallel.is c.requires.code

pub returns-in-Parallel-clause-emitted : goal.returns-in-Parallel-clause-emitted
returns-in-Parallel-clause-emitted c =
    subst (λ kind. EmitsRegion c.parallel.result c.args.tables.now c.args.numbers (statement_as kind c.args.region.now)
    c.args.draft.now c.parallel.new.draft) (sym c.in-Parallel.is) c.parallel.ensures.emitted

pub returns-in-Task-clause-emitted : goal.returns-in-Task-clause-emitted
returns-in-Task-clause-emitted c =
    subst (λ kind. EmitsRegion c.task.result c.args.tables.now c.args.numbers (statement_as kind c.args.region.now)
    c.args.draft.now c.task.new.draft) (sym c.in-Task.is) c.task.ensures.emitted
