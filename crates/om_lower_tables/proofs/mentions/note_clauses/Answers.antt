use Rattle.std.proofs.Common.{arith}
use Rattle.std.proofs.lemmas.Grind.{common_steps}
use Rattle.om_scope_tree.specs.ResolvedView as view
use Rattle.om_scope_tree.specs.Weights.{clause_weight}
use Rattle.om_lower_tables.specs.Room.{IsRoomFor}
use Rattle.om_lower_tables.proofs.Rooms.{clause_behind}
use Rattle.om_lower_tables.proofs.Weights.{sum_left}
use Rattle.om_lower_tables.proofs.mentions.note_clauses.Goals as goal

pub note_clause-requires : goal.note_clause-requires
unfolding IsRoomFor
note_clause-requires c =
    omega (
      arith,
      sum_left clause_weight view.clause c.args.clauses.now c.loop-clause.clause-index c.clause-item.result
          c.loop-clause-test.true c.clause-item.is,
      c.loop-clause.invariant.0,
    )

pub loop-clause-preserved : goal.loop-clause-preserved
unfolding IsRoomFor
loop-clause-preserved c = (
  omega (
    arith,
    sum_left clause_weight view.clause c.args.clauses.now c.loop-clause.clause-index c.clause-item.result
        c.loop-clause-test.true c.clause-item.is,
    clause_behind (view.clause c.clause-item.result) c.loop-clause.found c.note_clause.new.found
        c.in_ok-note_clause.ensures,
    c.loop-clause.invariant.0,
  ),
  (grind (arith, common_steps), grind (arith, common_steps), grind (arith, common_steps), grind (arith, common_steps)),
)
