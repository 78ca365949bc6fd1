use Rattle.std.proofs.Common.{◌∙◌, sym}
use Rattle.std.proofs.lemmas.Result.{on_ok_weaker}
use Rattle.lab_graph.proofs.Ranked.{own_noted, others_noted}
use Rattle.lab_graph.proofs.lanes.note.Goals as goal

pub returns-then-is_of : goal.returns-then-is_of
returns-then-is_of c =
    on_ok_weaker c.add_each.result
    (λ more. own_noted c.args.worker c.args.step.now c.args.rank c.args.touches.now c.add_each.new.self
    (sym c.is_of.ensures ∙ c.if-is_of.true) more)
    c.add_each.ensures.added

pub returns : goal.returns
returns c =
    others_noted c.args.worker c.args.step.now c.args.rank c.args.touches.now
    (sym c.is_of.ensures ∙ c.if-is_of.false)
