use Rattle.std.proofs.Common.{arith}
use Rattle.lab_port_kinds.proofs.Steps.{lines_on}
use Rattle.lab_port_kinds.proofs.kind.push_lines.Goals as goal

pub loop-i-preserved : goal.loop-i-preserved
loop-i-preserved c =
    lines_on c.args.places.now c.loop-i.i c.index-places-i.result c.loop-i.out.items c.push_line.new.out.items _
    (omega (arith, c.loop-i-test.true)) c.index-places-i.is c.in_ok-push_line.ensures c.loop-i.invariant
