use Rattle.om_team_worksharing.specs.Iterations.{int_that_fits}
use Rattle.om_soundness.proofs.programs.is_int.Goals as goal

pub returns : goal.returns
returns c = int_that_fits c.args.value c.ranges.value
