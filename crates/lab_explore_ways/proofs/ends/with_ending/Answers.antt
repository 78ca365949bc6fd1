use Rattle.std.proofs.Common.{◌≡◌, sym, ◌∙◌, subst, true, rules, List}
use Rattle.std.specs.Prelude.{All}
use Rattle.lab_explore_closed.specs.declared.found.FoundEnd.{FoundEnd}
use Rattle.lab_explore_closed.specs.Explored.{IsPossibleEnd}
use Rattle.lab_explore_notes.proofs.SameLemmas.{endings_decide}
use Rattle.lab_explore_ways.proofs.WayLemmas.{last_of}
use Rattle.lab_explore_ways.proofs.ends.with_ending.Goals as goal

pub returns-then-is_same_ending : goal.returns-then-is_same_ending
returns-then-is_same_ending c program workers all =
    let yes : c.is_same_ending.result ≡ true = search rules in
    let those : All (IsPossibleEnd program workers) c.into_vec.result.items =
    subst (λ (es : List FoundEnd). All (IsPossibleEnd program workers) es) (sym c.into_vec.ensures) all in (
      (endings_decide c.in_ok-end.end.ending c.args.ending.now).0 (sym c.is_same_ending.ensures ∙ yes),
      last_of (IsPossibleEnd program workers) c.into_vec.result.items c.pop.new.self.items c.in_ok-end.end
          c.in_ok-end.ensures.items those,
    )
