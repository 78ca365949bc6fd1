use Rattle.std.specs.Prelude.{map}
use Rattle.om_scope_tree.specs.ResolvedView as view
use Rattle.om_lower_rules.specs.BodyTables.{numbered_by}
use Rattle.om_lower_rules.specs.Numbering.{numbers_of}
use Rattle.om_lower_emit.specs.Writing.{emits_one}
use Rattle.om_lower.proofs.Regions.{emits_parallel}
use Rattle.om_lower.proofs.region.parallel.Goals as goal

pub returns-clause-emitted : goal.returns-clause-emitted
returns-clause-emitted c = λ jumps.
    emits_parallel (numbered_by c.args.tables.now) (numbers_of c.args.numbers) c.args.region.now.at
    (map view.clause c.args.region.now.clauses.now) c.args.region.now.captures.now
    (view.statement c.args.region.now.statement.now) jumps _ _ _ _ _ _ c.in_ok-count.ensures.count
    c.in_ok-sized.ensures.sized c.in_ok-sized.ensures.emitted c.in_ok-count.ensures.emitted
    (emits_one (numbered_by c.args.tables.now) _ _ _ _ c.in_ok-put.ensures)
