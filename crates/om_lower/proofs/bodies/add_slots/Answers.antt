use Rattle.std.proofs.Common.{◌++◌, [], ap, map, subst, take, ◌∙◌}
use Rattle.om_lower.specs.Limits.{HasFewSlots, HasManySlots, HasSlots}
use Rattle.om_lower_tables.specs.Sites.{bodies_in, body_in, body_round, round_behind}
use Rattle.om_lower.proofs.Items.{all_next_at, any_at}
use Rattle.om_lower.proofs.Knowing.{slots_next}
use Rattle.om_lower.proofs.SiteBodies.{all_bodies, site_at, taken_bodies}
use Rattle.om_lower_rules.specs.Bodies.{variables_of}
use Rattle.om_lower.proofs.bodies.add_slots.Goals as goal

pub returns-then-not-branch-clause-many : goal.returns-then-not-branch-clause-many
returns-then-not-branch-clause-many c =
    let sites = c.args.sites.now in
    let b = body_round (round_behind [] (take c.loop-site.site-index sites)) c.site-item.result in
    λ same. any_at HasManySlots (bodies_in [] sites) c.loop-site.site-index b
    (site_at sites c.loop-site.site-index c.site-item.result c.loop-site-test.true c.site-item.is)
    (subst (λ few. HasSlots few (body_in [] c.site-item.result)) c.if-not-branch.true
    c.in_ok-add_variables.ensures.few)

pub loop-site-preserved : goal.loop-site-preserved
loop-site-preserved c =
    let sites = c.args.sites.now in
    let b = body_round (round_behind [] (take c.loop-site.site-index sites)) c.site-item.result in
    let there = site_at sites c.loop-site.site-index c.site-item.result c.loop-site-test.true c.site-item.is in (
      all_next_at HasFewSlots (bodies_in [] sites) c.loop-site.site-index b there c.loop-site.invariant.0
          (subst (λ few. HasSlots few (body_in [] c.site-item.result)) c.if-not-branch.false
          c.in_ok-add_variables.ensures.few),
      slots_next _ _ _ (bodies_in [] sites) c.loop-site.site-index b there c.loop-site.invariant.1
          c.in_ok-add_variables.ensures.added,
    )

pub returns-clause-few : goal.returns-clause-few
returns-clause-few c =
    λ same. all_bodies HasFewSlots c.args.sites.now c.loop-site.site-index c.loop-site-test.false
    c.loop-site.invariant.0

pub returns-clause-added : goal.returns-clause-added
returns-clause-added c =
    λ same. c.loop-site.invariant.1
    ∙ ap (λ all. c.args.slots.now.items ++ map variables_of all)
    (taken_bodies c.args.sites.now c.loop-site.site-index c.loop-site-test.false)
