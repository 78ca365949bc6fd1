use Rattle.std.proofs.Common.{length, map, ap, arith}
use Rattle.std.specs.Prelude.{sum}
use Rattle.om_scope_tree.specs.ResolvedView as view
use Rattle.om_scope_tree.specs.Weights.{function_weight}
use Rattle.om_lower_tables.specs.Room.{IsRoomFor}
use Rattle.om_lower_tables.proofs.Rooms.{given}
use Rattle.om_lower_tables.proofs.tables.tables_of.Goals as goal

pub note_functions-requires-clause-room : goal.note_functions-requires-clause-room
unfolding IsRoomFor
note_functions-requires-clause-room c =
    omega (
      arith,
      ap length c.new.ensures,
      ap length c.new-2.ensures,
      ap given c.first.ensures,
      ap (λ fs. sum (map function_weight (map view.function fs))) c.as_slice.ensures.value,
      c.requires.small,
    )
