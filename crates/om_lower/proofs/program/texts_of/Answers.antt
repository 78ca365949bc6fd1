use Rattle.std.proofs.Common.{◌<◌, subst}
use Rattle.om_lower_rules.specs.Mentions.{IsTextOf}
use Rattle.om_lower.proofs.Items.{zip_in}
use Rattle.om_lower.proofs.program.texts_of.Goals as goal

pub loop-number-preserved : goal.loop-number-preserved
loop-number-preserved c =
    zip_in IsTextOf c.args.formats.now c.loop-number.texts.items c.push.new.self.items c.loop-number.number
    c.in_ok-text_at.field-0
    (subst (λ all. c.loop-number.number < all) c.len-number-end.ensures.all c.loop-number-test.true)
    c.in_ok-push.ensures.items c.loop-number.invariant c.in_ok-text_at.ensures
