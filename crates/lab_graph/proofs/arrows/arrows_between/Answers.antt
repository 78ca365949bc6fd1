use Rattle.std.proofs.Common.{◌∙◌, ◌++◌, sym, ap, subst, arith, drop, length-drop, take-append-drop}
use Rattle.lab_graph.specs.Ranks.{AreFrom}
use Rattle.lab_graph.specs.Pictures.{arrows_from, lanes}
use Rattle.lab_graph.proofs.Adding.{next_step}
use Rattle.lab_graph.proofs.arrows.arrows_between.Goals as goal

pub push_arrows_into-requires : goal.push_arrows_into-requires
push_arrows_into-requires c = (
  drop c.loop-at.at c.args.steps.now,
  subst (λ l. AreFrom 0 l c.args.lanes.now)
      (sym (ap (λ l. l ++ drop c.loop-at.at c.args.steps.now) c.spot_at-spot.ensures.before
      ∙ take-append-drop c.loop-at.at c.args.steps.now)) c.requires.1,
  c.spot_at-spot.ensures.rank ∙ sym (length-drop c.loop-at.at c.args.steps.now),
)

pub loop-at-preserved : goal.loop-at-preserved
loop-at-preserved c =
    next_step (lanes c.args.steps.now) c.args.steps.now c.loop-at.at c.spot_at-spot.result.later.now
    c.loop-at.arrows.items c.push_arrows_into.new.arrows.items _ (omega arith) c.spot_at-spot.ensures.later
    (c.in_ok-push_arrows_into.ensures
    ∙ (λ j. c.loop-at.arrows.items ++ arrows_from 0 (c.requires.0 j) (c.spot_at-spot.ensures.before j)
    c.spot_at-spot.result.later.now))
    c.loop-at.invariant
