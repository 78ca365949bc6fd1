use Rattle.std.specs.Int.{w128}
use Rattle.std.proofs.lemmas.Int.{to_z-of_z}
use Rattle.om_task.proofs.Counts.{all_added}
use Rattle.om_task.proofs.task.add_to_counts.Goals as goal

pub returns-in-Some : goal.returns-in-Some
returns-in-Some c =
    all_added c.push-in-Some.result c.args.updates.now _ _ _ c.args.number _ c.args.group.now _
    (to_z-of_z w128 c.args.number c.ranges.number)
    c.in-Some.is c.in_ok-push.ensures c.in_ok-push-2.ensures c.push-in-Some.ensures
