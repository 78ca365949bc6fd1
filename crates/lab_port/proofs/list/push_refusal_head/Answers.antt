use Rattle.std.proofs.Common.{arith}
use Rattle.lab_port.proofs.Lines.{front_inside}
use Rattle.lab_port.proofs.list.push_refusal_head.Goals as goal

pub push_column-requires : goal.push_column-requires
push_column-requires c =
    grind (arith, c.requires.0, c.requires.2, front_inside c.args.source.now c.args.seen.at)
