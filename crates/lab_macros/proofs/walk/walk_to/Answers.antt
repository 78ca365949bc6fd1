use Rattle.std.proofs.Common.{◌<◌, sym, subst, ◌∙◌, arith}
use Rattle.lab_macros.proofs.WalkLaws.{same_start, walk_came, walk_ends}
use Rattle.lab_macros.proofs.walk.walk_to.Goals as goal

pub returns-in-There : goal.returns-in-There
returns-in-There c =
    let came = sym c.in_ok-make_stride.ensures.stride ∙ c.in-There.is in
    sym (walk_came _ _ _ _ _ _ c.steps-test.true came) ∙ c.steps.invariant.way

pub returns-in-Missed : goal.returns-in-Missed
returns-in-Missed c =
    let came = sym c.in_ok-make_stride.ensures.stride ∙ c.in-Missed.is in
    sym (walk_came _ _ _ _ _ _ c.steps-test.true came) ∙ c.steps.invariant.way

pub steps-preserved : goal.steps-preserved
steps-preserved c =
    let came = sym c.in_ok-make_stride.ensures.stride ∙ c.in-On.is in
    rw c.in_ok-make_stride.ensures.after (record {
      way = sym (walk_came _ _ _ _ _ _ c.steps-test.true came) ∙ c.steps.invariant.way;
      count = omega (arith, c.steps.invariant.count, c.steps-test.true);
      in_range = subst (λ s. c.args.worker < s.workers) (sym (same_start c.args.worker c.steps.book))
          c.steps.invariant.in_range;
    })

pub returns : goal.returns
returns c = sym (walk_ends _ _ _ _ _ (omega (arith, c.steps-test.false))) ∙ c.steps.invariant.way
