use Rattle.std.proofs.Common.{◌∙◌, sym}
use Rattle.om_lower.proofs.Filling.{filled_first, filled_next, filled_last, number_below}
use Rattle.om_lower.proofs.lowering.joined.Goals as goal

pub loop-list-init : goal.loop-list-init
loop-list-init c = filled_first _ _ _ _ c.into_iter-list-iterator.ensures.into_iter_gives.0 c.in_ok-picks.ensures

pub put_list-requires : goal.put_list-requires
put_list-requires c = number_below _ _ c.requires _ _ _ _ _ c.loop-list.invariant c.in-Some.ensures.steps.0

pub loop-list-preserved : goal.loop-list-preserved
loop-list-preserved c =
    filled_next _ _ c.requires _ _ _ _ _ c.loop-list.invariant c.in-Some.ensures.steps.0 _ c.put_list.ensures

pub returns-clause-stand : goal.returns-clause-stand
returns-clause-stand c =
    let rest = c.loop-list.list-iterator.rest in
    filled_last _ _ _ _ _ c.loop-list.invariant (sym rest.ok.0 ∙ c.in-None.ensures.steps.0) _ c.of.ensures
