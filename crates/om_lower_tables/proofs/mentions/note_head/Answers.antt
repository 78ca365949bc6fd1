use Rattle.std.proofs.Common.{option_map, arith}
use Rattle.om_scope_tree.specs.ResolvedView as view
use Rattle.om_lower_tables.specs.Room.{IsRoomFor}
use Rattle.om_lower_tables.proofs.Rooms.{perhaps_behind, start_behind}
use Rattle.om_lower_tables.proofs.mentions.note_head.Goals as goal

pub note_perhaps-requires : goal.note_perhaps-requires
unfolding IsRoomFor
note_perhaps-requires c =
    omega (
      arith,
      start_behind (view.start c.args.head.now.start) c.args.found.now c.note_start.new.found
          c.in_ok-note_start.ensures,
      c.requires.room,
    )

pub note_perhaps-requires-2 : goal.note_perhaps-requires-2
unfolding IsRoomFor
note_perhaps-requires-2 c =
    omega (
      arith,
      start_behind (view.start c.args.head.now.start) c.args.found.now c.note_start.new.found
          c.in_ok-note_start.ensures,
      perhaps_behind (option_map view.expression c.args.head.now.condition) c.note_start.new.found
          c.note_perhaps.new.found c.in_ok-note_perhaps.ensures,
      c.requires.room,
    )
