use Rattle.std.proofs.Common.{length, ap, ◌∙◌}
use Rattle.lab_port.proofs.Lengths.{stage_fit}
use Rattle.lab_port.proofs.stage.marks_in.Goals as goal

pub returns-clause-fit : goal.returns-clause-fit
returns-clause-fit c = ap length c.in_ok-found.ensures.marks ∙ stage_fit c.args.stage c.args.pieces.now
