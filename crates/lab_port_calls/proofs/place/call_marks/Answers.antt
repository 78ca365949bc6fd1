use Rattle.std.proofs.Common.{arith}
use Rattle.lab_port_calls.proofs.Steps.{marks_on, names_on}
use Rattle.lab_port_calls.proofs.place.call_marks.Goals as goal

pub loop-i-preserved : goal.loop-i-preserved
loop-i-preserved c = record {
  marks = marks_on c.args.all.now c.loop-i.i c.index-all-i.result c.loop-i.names c.mark_here.new.names c.loop-i.spot
      c.spot_behind-spot.result c.in_ok-found.found c.in_ok-mark.mark c.loop-i.marks.items c.push.new.self.items _
      (omega (arith, c.loop-i-test.true)) c.index-all-i.is c.in_ok-found.ensures c.in_ok-mark.ensures.mark
      c.in_ok-mark.ensures.names c.spot_behind-spot.ensures c.in_ok-push.ensures.items c.loop-i.invariant.marks;
  names = names_on c.args.all.now c.loop-i.i c.index-all-i.result c.loop-i.names c.mark_here.new.names _ c.loop-i.spot
      c.spot_behind-spot.result c.in_ok-found.found c.in_ok-mark.mark
      (omega (arith, c.loop-i-test.true)) c.index-all-i.is c.in_ok-found.ensures c.in_ok-mark.ensures.mark
      c.in_ok-mark.ensures.names c.spot_behind-spot.ensures c.loop-i.invariant.names;
}
