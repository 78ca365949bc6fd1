use Rattle.std.proofs.Common.{◌∙◌, ap, refl, Some, None}
use Rattle.std.specs.Prelude.{slice_get}
use Rattle.std.specs.Option.{option_copied}
use Rattle.lab_graph.proofs.Ranked.{finds_last, looked_up}
use Rattle.lab_graph.proofs.lanes.last_meeting.Goals as goal

pub returns-in-Some : goal.returns-in-Some
returns-in-Some c =
    finds_last c.args.touches.now c.args.before.now c.args.later.now c.args.rank (Some c.in-Some.found)
    (option_copied c.get.result) c.in-Some.ensures
    (looked_up c.args.before.now c.index_of.result c.get.result c.get.ensures.lookup.0 c.get.ensures.lookup.1
    ∙ ap (slice_get c.args.before.now) c.index_of.ensures)

pub returns-in-None : goal.returns-in-None
returns-in-None c =
    finds_last c.args.touches.now c.args.before.now c.args.later.now c.args.rank None None c.in-None.ensures refl
