use Rattle.std.proofs.Common.{◌∙◌, ap, sym}
use Rattle.std.specs.Prelude.{is_some, option_map}
use Rattle.om_team_serial.proofs.Lists.{group_here, group_below}
use Rattle.om_team_serial.proofs.names.group_of.Goals as goal

pub returns-then-is_some : goal.returns-then-is_some
returns-then-is_some c =
    c.group_name.ensures ∙ group_here c.args.context.now.constructs.items c.args.context.now.group c.loop-depth.depth
    c.in-Some.construct.now (sym c.region_at.ensures ∙ ap (option_map (λ t. t.now)) c.in-Some.is)
    (ap is_some (sym c.group_name.ensures) ∙ sym c.is_some.ensures ∙ c.if-is_some.true)
    ∙ c.loop-depth.invariant

pub loop-depth-preserved : goal.loop-depth-preserved
loop-depth-preserved c =
    group_below c.args.context.now.constructs.items c.args.context.now.group c.loop-depth.depth c.in-Some.construct.now
    (sym c.region_at.ensures ∙ ap (option_map (λ t. t.now)) c.in-Some.is) (ap is_some (sym c.group_name.ensures)
    ∙ sym c.is_some.ensures ∙ c.if-is_some.false)
    ∙ c.loop-depth.invariant
