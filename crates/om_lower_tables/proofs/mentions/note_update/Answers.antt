use Rattle.std.proofs.Common.{option_map, arith}
use Rattle.om_scope_tree.specs.ResolvedView as view
use Rattle.om_lower_tables.specs.Room.{IsRoomFor}
use Rattle.om_lower_tables.proofs.Rooms.{perhaps_behind}
use Rattle.om_lower_tables.proofs.mentions.note_update.Goals as goal

pub note_value-requires : goal.note_value-requires
unfolding IsRoomFor
note_value-requires c =
    omega (
      arith,
      perhaps_behind (option_map view.expression c.args.update.now.index) c.args.found.now
          c.note_perhaps.new.found c.in_ok-note_perhaps.ensures,
      c.requires.room,
    )
