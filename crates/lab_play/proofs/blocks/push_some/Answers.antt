use Rattle.std.proofs.Common.{◌∙◌, ap}
use Rattle.lab_schedules.specs.Schedules.{labels_of}
use Rattle.lab_play.proofs.Steps.{labels_push}
use Rattle.lab_play.proofs.blocks.push_some.Goals as goal

pub returns-in_ok-push : goal.returns-in_ok-push
returns-in_ok-push c =
    ap labels_of c.in_ok-push.ensures.items ∙ labels_push c.args.blocks.now.items c.args.block.now
