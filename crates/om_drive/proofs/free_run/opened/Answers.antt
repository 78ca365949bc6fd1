use Rattle.std.proofs.Common.{rules}
use Rattle.om_drive.specs.DistinctSeats.{seats_count}
use Rattle.om_drive.proofs.free_run.opened.Goals as goal

pub returns-clause-many : goal.returns-clause-many
returns-clause-many g c = search (rules, seats_count)
