use Rattle.om_lower.proofs.Items.{pushed_in}
use Rattle.om_lower.proofs.program.copy_texts.Goals as goal

pub loop-number-preserved : goal.loop-number-preserved
loop-number-preserved c =
    pushed_in c.args.texts.now c.loop-number.copied.items c.push.new.self.items c.loop-number.number
    c.in_ok-copy_text.field-0
    c.in_ok-push.ensures.items c.loop-number.invariant c.in_ok-copy_text.ensures
