use Rattle.std.proofs.Common.{ℕ, ◌<◌, length, arith, subst, map, ⊎_elim}
use Rattle.std.specs.Prelude.{Contains}
use Rattle.std.proofs.lemmas.List.Elements.{Contains-get_or}
use Rattle.lab_explore_closed.specs.declared.found.Met.{Met}
use Rattle.lab_explore_closed.specs.Explored.{met_of_found}
use Rattle.lab_explore_notes.proofs.NoteLemmas.{take_cases_at}
use Rattle.lab_explore_notes.proofs.faults.note_mets.Goals as goal

pub note_met-requires-clause-met : goal.note_met-requires-clause-met
note_met-requires-clause-met c =
    let less : c.loop-met.met-index < length c.args.mets.now = omega arith in
    c.requires.met _ (Contains-get_or c.args.mets.now c.loop-met.met-index _ less)

pub loop-met-preserved : goal.loop-met-preserved
loop-met-preserved c =
    let i : ℕ = c.loop-met.met-index in
    let less : i < length c.args.mets.now = omega arith in (
      c.note_met.ensures.right,
      (λ k at. c.note_met.ensures.keeps k (c.loop-met.invariant.1 k at)),
      λ m at. ⊎_elim
          (λ old. c.note_met.ensures.keeps m (c.loop-met.invariant.2 m old))
          (λ is. subst (λ (x : Met). Contains (map met_of_found c.note_met.new.faults) x) is
          c.in_ok-note_met.ensures.noted)
          (take_cases_at c.args.mets.now i _ m less at),
    )
