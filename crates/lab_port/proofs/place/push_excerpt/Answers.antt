use Rattle.std.proofs.Common.{arith}
use Rattle.lab_port.proofs.Lines.{front_inside}
use Rattle.lab_port.proofs.place.push_excerpt.Goals as goal

pub overflow_sub-front : goal.overflow_sub-front
overflow_sub-front c = omega (arith, c.requires.2, front_inside c.args.source.now c.args.seen.at)
