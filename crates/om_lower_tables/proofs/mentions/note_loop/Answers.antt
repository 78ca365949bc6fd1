use Rattle.std.proofs.Common.{arith}
use Rattle.om_scope_tree.specs.ResolvedView as view
use Rattle.om_lower_tables.specs.Room.{IsRoomFor}
use Rattle.om_lower_tables.proofs.Rooms.{value_behind}
use Rattle.om_lower_tables.proofs.mentions.note_loop.Goals as goal

pub note_value-requires-2 : goal.note_value-requires-2
unfolding IsRoomFor
note_value-requires-2 c =
    omega (
      arith,
      value_behind (view.expression c.args.repeated.now.from) c.args.found.now c.note_value.new.found
          c.in_ok-note_value.ensures,
      c.requires.room,
    )
