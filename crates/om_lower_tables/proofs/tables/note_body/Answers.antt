use Rattle.std.proofs.Common.{map, ap, arith}
use Rattle.om_scope_tree.specs.ResolvedTree as trees
use Rattle.om_scope_tree.specs.ResolvedView as view
use Rattle.om_scope_tree.specs.Weights.{statements_weight}
use Rattle.om_lower_tables.specs.Room.{IsRoomFor}
use Rattle.om_lower_tables.proofs.Rooms.{given}
use Rattle.om_lower_tables.proofs.tables.note_body.Goals as goal

pub next_body-inner-requires : goal.next_body-inner-requires
unfolding IsRoomFor
next_body-inner-requires c = omega (arith, c.requires.room)

pub note_statements-requires : goal.note_statements-requires
unfolding IsRoomFor
note_statements-requires c =
    omega (
      arith,
      ap given c.next_body-inner.ensures,
      ap (λ xs. statements_weight (trees.statements (map view.statement xs))) c.as_slice.ensures.value,
      c.requires.room,
    )
