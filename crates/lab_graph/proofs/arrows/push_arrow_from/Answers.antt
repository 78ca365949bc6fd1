use Rattle.std.proofs.Common.{◌∙◌, sym}
use Rattle.std.proofs.lemmas.Result.{on_ok_weaker}
use Rattle.lab_graph.proofs.Adding.{own_lane, free_lane, one_arrow}
use Rattle.lab_graph.proofs.arrows.push_arrow_from.Goals as goal

pub returns-then-is_of : goal.returns-then-is_of
returns-then-is_of c =
    own_lane c.args.worker c.args.spot.now.before.now c.args.spot.now.later.now c.args.arrows.now.items
    (sym c.is_of.ensures ∙ c.if-is_of.true)

pub returns-in-Some : goal.returns-in-Some
returns-in-Some c =
    on_ok_weaker c.push_arrow.result
    (λ added. one_arrow c.args.worker c.args.spot.now.before.now c.in-Some.earlier.now c.args.spot.now.later.now
    c.args.arrows.now.items c.push_arrow.new.arrows.items (sym c.is_of.ensures ∙ c.if-is_of.false)
    (c.in-Some.ensures c.args.worker c.requires.0 c.requires.1 c.requires.2) added)
    c.push_arrow.ensures

pub returns-in-None : goal.returns-in-None
returns-in-None c =
    free_lane c.args.worker c.args.spot.now.before.now c.args.spot.now.later.now c.args.arrows.now.items
    (sym c.is_of.ensures ∙ c.if-is_of.false)
    (c.in-None.ensures c.args.worker c.requires.0 c.requires.1 c.requires.2)
