use Rattle.std.proofs.Common.{◌≡◌, subst, ℕ}
use Rattle.om_code.specs.declared.raw.Raw.{Raw}
use Rattle.lab_explore.specs.declared.search.Search.{Search}
use Rattle.lab_explore.specs.Searches.{Answers}
use Rattle.lab_explore.proofs.explored.explore.Goals as goal

pub returns : goal.returns
returns g c =
    let x : Search = c.in_ok-search.search in
    c.told.ensures c.args.program c.args.workers c.args.limits.now
    (subst (λ (p : Raw). Answers p c.args.workers c.args.limits.now c.run-verdict.result c.run-verdict.new.search)
    c.in_ok-search.ensures.search.way.program_is
    (subst (λ (n : ℕ). Answers x.machine.program n c.args.limits.now c.run-verdict.result c.run-verdict.new.search)
    c.in_ok-search.ensures.search.way.workers_are c.run-verdict.ensures))
