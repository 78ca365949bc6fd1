use Rattle.std.proofs.Common.{[], ap, map, sym, subst, take, ◌∙◌}
use Rattle.om_lower.specs.Inputs.{known_bodies, tree_of}
use Rattle.om_lower.specs.Limits.{IsOver}
use Rattle.om_lower.specs.Made.{AddsBody, AreListsOf, AreMade}
use Rattle.om_lower.specs.Ready.{IsReady}
use Rattle.om_lower_tables.specs.Sites.{bodies_in, body_round, round_behind, round_with}
use Rattle.om_lower.proofs.Items.{all_at, any_at}
use Rattle.om_lower.proofs.Coding.{body_added, none_made}
use Rattle.om_lower.proofs.SiteBodies.{adds_round, none_behind, round_next, site_at, taken_bodies}
use Rattle.om_lower.proofs.bodies.add_sites.Goals as goal

pub add_next-requires-clause-ready : goal.add_next-requires-clause-ready
add_next-requires-clause-ready c =
    let sites = c.args.sites.now in
    let round = round_behind [] (take c.loop-site.site-index sites) in
    let known = known_bodies c.args.known.now in
    subst (λ all. IsReady known c.args.known.now.extents.now (body_round all c.site-item.result))
    (sym c.loop-site.invariant.2)
    (all_at (IsReady known c.args.known.now.extents.now) (bodies_in [] sites) c.loop-site.site-index
    (body_round round c.site-item.result) c.requires.ready
    (site_at sites c.loop-site.site-index c.site-item.result c.loop-site-test.true c.site-item.is))

pub loop-site-init : goal.loop-site-init
loop-site-init c =
    let none = none_made (tree_of c.args.known.now.input.now) (bodies_in [] c.args.sites.now) c.args.made.now
    c.requires.bodies c.requires.lists in
    (none.0, none.1, ap (map (λ one. one.now)) c.new-round.ensures.items ∙ sym (none_behind c.args.sites.now))

pub returns-then-not-branch : goal.returns-then-not-branch
returns-then-not-branch c =
    let tree = tree_of c.args.known.now.input.now in
    let sites = c.args.sites.now in
    let b = body_round (round_behind [] (take c.loop-site.site-index sites)) c.site-item.result in
    any_at (λ b. IsOver tree b) (bodies_in [] sites) c.loop-site.site-index b
    (site_at sites c.loop-site.site-index c.site-item.result c.loop-site-test.true c.site-item.is)
    (subst (λ fits. AddsBody tree b c.loop-site.made c.add_next.new.made fits) c.if-not-branch.true
    (adds_round tree c.site-item.result _ _ c.loop-site.made c.add_next.new.made
    c.in_ok-add_next.field-0 c.loop-site.invariant.2 c.in_ok-add_next.ensures.adds))

pub loop-site-preserved : goal.loop-site-preserved
loop-site-preserved c =
    let tree = tree_of c.args.known.now.input.now in
    let sites = c.args.sites.now in
    let site = c.site-item.result in
    let round = round_behind [] (take c.loop-site.site-index sites) in
    let b = body_round round site in
    let made = body_added tree (bodies_in [] sites) c.loop-site.site-index b c.loop-site.made c.add_next.new.made
    (site_at sites c.loop-site.site-index site c.loop-site-test.true c.site-item.is)
    (c.loop-site.invariant.0, c.loop-site.invariant.1)
    (subst (λ fits. AddsBody tree b c.loop-site.made c.add_next.new.made fits) c.if-not-branch.false
    (adds_round tree site _ round c.loop-site.made c.add_next.new.made
    c.in_ok-add_next.field-0 c.loop-site.invariant.2 c.in_ok-add_next.ensures.adds)) in (
      made.0,
      made.1,
      c.in_ok-add_next.ensures.round ∙ ap (λ all. round_with all site) c.loop-site.invariant.2
          ∙ sym (round_next sites c.loop-site.site-index site c.loop-site-test.true c.site-item.is),
    )

pub returns : goal.returns
returns c =
    let tree = tree_of c.args.known.now.input.now in
    let all = taken_bodies c.args.sites.now c.loop-site.site-index c.loop-site-test.false in (
      subst (λ sites. AreMade tree c.loop-site.made.lists sites c.loop-site.made.bodies) all c.loop-site.invariant.0,
      subst (λ sites. AreListsOf sites c.loop-site.made.lists) all c.loop-site.invariant.1,
    )
