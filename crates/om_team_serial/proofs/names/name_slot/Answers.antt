use Rattle.om_memory.specs.Plain.{plain_context}
use Rattle.om_team_serial.specs.Objects.{home_at}
use Rattle.om_team_serial.proofs.Same.{slot_named}
use Rattle.om_team_serial.proofs.names.name_slot.Goals as goal

pub returns : goal.returns
returns c = slot_named c.push_cells.result c.push_cells.new.self c.args.names.now c.slot_of-slot.result
    (plain_context c.args.context.now).task (plain_context c.args.context.now).frame.ordinal c.args.slot
    (home_at (plain_context c.args.context.now).frame.homes c.args.slot) c.args.count
    c.slot_of-slot.ensures c.push_cells.ensures
