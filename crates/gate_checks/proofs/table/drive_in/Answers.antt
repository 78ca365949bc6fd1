use Rattle.std.proofs.Common.{arith}
use Rattle.om_drive.specs.DistinctSeats.{seats_differ, seats_count}
use Rattle.gate_checks.proofs.table.drive_in.Goals as goal

pub close-requires : goal.close-requires
close-requires g c = grind (arith, seats_differ, seats_count)
