use Rattle.lab_macros.proofs.SayingLaws.{times_on}
use Rattle.lab_macros.proofs.said.push_times.Goals as goal

pub left-preserved : goal.left-preserved
left-preserved c =
    times_on c.left.left c.args.part.now c.left.text.items c.extend_from_slice.new.self.items _ c.left-test.true
    c.in_ok-extend_from_slice.ensures.items c.left.invariant
