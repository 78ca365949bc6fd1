use Rattle.std.proofs.Common.{ap, subst, sym, ◌∙◌}
use Rattle.om_lower_tables.specs.Sites.{body_in, innermost}
use Rattle.om_lower.specs.Inputs.{known_bodies, tree_of}
use Rattle.om_lower.specs.Ready.{IsReady}
use Rattle.om_lower.proofs.Knowing.{round_pushed, round_seen}
use Rattle.om_lower.proofs.SiteBodies.{adds_in}
use Rattle.om_lower.proofs.bodies.add_next.Goals as goal

pub add_body-added-requires : goal.add_body-added-requires
add_body-added-requires c = record {
  seen = record {
    input = c.requires.given;
    ready = subst (λ outer.
        IsReady (known_bodies c.args.known.now) c.args.known.now.extents.now (body_in outer c.args.site.now))
        (sym (c.innermost-outer.ensures
        ∙ ap innermost (round_seen c.args.round.now.items c.as_slice.result.now (λ one. one.now) c.args.site.now.depth
        (c.as_slice.ensures.value ∙ c.truncate.ensures.items)))) c.requires.ready;
    variables = c.own_variables-variables.ensures;
  };
}

pub returns-clause-adds : goal.returns-clause-adds
returns-clause-adds c =
    adds_in (tree_of c.args.known.now.input.now) c.args.site.now _ _ c.args.made.now c.add_body-added.new.made
    c.in_ok-fits.fits
    (c.innermost-outer.ensures
    ∙ ap innermost (round_seen c.args.round.now.items c.as_slice.result.now (λ one. one.now) c.args.site.now.depth
    (c.as_slice.ensures.value ∙ c.truncate.ensures.items))) c.in_ok-fits.ensures

pub returns-clause-round : goal.returns-clause-round
returns-clause-round c =
    round_pushed c.args.round.now.items _ _ (λ one. one.now) c.args.site.now.depth _ _ c.truncate.ensures.items
    c.in_ok-push.ensures.items c.own_variables-variables.ensures
