use Rattle.std.proofs.Common.{map, ap, arith}
use Rattle.om_scope_tree.specs.ResolvedTree as trees
use Rattle.om_scope_tree.specs.ResolvedView as view
use Rattle.om_scope_tree.specs.Weights.{statements_weight}
use Rattle.om_lower_tables.specs.Room.{IsRoomFor}
use Rattle.om_lower_tables.proofs.Rooms.{given}
use Rattle.om_lower_tables.proofs.sites.sites_of.Goals as goal

pub next_body-numbers-requires : goal.next_body-numbers-requires
unfolding IsRoomFor
next_body-numbers-requires c = omega (arith, c.requires.room)

pub see_statements-requires-clause-room : goal.see_statements-requires-clause-room
unfolding IsRoomFor
see_statements-requires-clause-room c =
    omega (
      arith,
      ap given c.next_body-numbers.ensures,
      ap (λ xs. statements_weight (trees.statements (map view.statement xs))) c.as_slice.ensures.value,
      c.requires.room,
    )
