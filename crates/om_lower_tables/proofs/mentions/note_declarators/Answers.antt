use Rattle.std.proofs.Common.{option_map, arith}
use Rattle.std.proofs.lemmas.Grind.{common_steps}
use Rattle.om_scope_tree.specs.ResolvedView as view
use Rattle.om_scope_tree.specs.Weights.{declarator_weight}
use Rattle.om_lower_tables.specs.Room.{IsRoomFor}
use Rattle.om_lower_tables.proofs.Rooms.{perhaps_texts}
use Rattle.om_lower_tables.proofs.Weights.{sum_left}
use Rattle.om_lower_tables.proofs.mentions.note_declarators.Goals as goal

pub loop-declarator-preserved : goal.loop-declarator-preserved
unfolding IsRoomFor
loop-declarator-preserved c = (
  omega (
    arith,
    sum_left declarator_weight view.declarator c.args.declarators.now c.loop-declarator.declarator-index
        c.declarator-item.result c.loop-declarator-test.true c.declarator-item.is,
    perhaps_texts (option_map view.expression c.declarator-item.result.initial) _ _ _ _
        c.in_ok-note_perhaps.ensures.0 c.in_ok-note_perhaps.ensures.1,
    c.loop-declarator.invariant.0,
  ),
  (grind (arith, common_steps), grind (arith, common_steps), grind (arith, common_steps), grind (arith, common_steps)),
)
