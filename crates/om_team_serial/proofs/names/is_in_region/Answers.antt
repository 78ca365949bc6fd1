use Rattle.std.proofs.Common.{◌∙◌, ap, sym}
use Rattle.std.specs.Prelude.{option_map}
use Rattle.om_team_serial.proofs.Lists.{region_at, region_below}
use Rattle.om_team_serial.proofs.names.is_in_region.Goals as goal

pub returns-in_default-group_name : goal.returns-in_default-group_name
returns-in_default-group_name c =
    region_at c.args.constructs.now.items c.loop-depth.depth c.in-Some.construct.now (sym c.region_at.ensures
    ∙ ap (option_map (λ t. t.now)) c.in-Some.is) (sym c.group_name.ensures ∙ c.in_default-group_name.is)
    ∙ c.loop-depth.invariant

pub loop-depth-preserved : goal.loop-depth-preserved
loop-depth-preserved c =
    region_below c.args.constructs.now.items c.loop-depth.depth c.in-Some.construct.now _ (sym c.region_at.ensures
    ∙ ap (option_map (λ t. t.now)) c.in-Some.is) (sym c.group_name.ensures ∙ c.in-Some-group_name.is)
    ∙ c.loop-depth.invariant
