use Rattle.std.proofs.Common.{arith, ◌∙◌, sym}
use Rattle.lab_replay.proofs.Numbers.{first_of_run}
use Rattle.lab_replay.proofs.value.number_of_run.Goals as goal

pub returns : goal.returns
returns c = grind (arith, first_of_run)
