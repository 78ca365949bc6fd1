use Rattle.std.proofs.Common.{◌≡◌, sym, ◌∙◌, ap, subst, true, false, rules, List, ◌++◌, ◌∷◌, [], map}
use Rattle.std.specs.Prelude.{Contains}
use Rattle.lab_explore_closed.specs.declared.found.FoundFault.{FoundFault}
use Rattle.lab_explore_closed.specs.declared.found.Met.{Met}
use Rattle.lab_explore_closed.specs.Explored.{IsPossibleFault, met_of_found}
use Rattle.lab_explore_notes.specs.Notes.{AreFaults}
use Rattle.lab_explore_notes.specs.Same.{same_met, is_among}
use Rattle.lab_explore_notes.proofs.NoteLemmas.{push_right, told_last, is_fault}
use Rattle.lab_explore_notes.proofs.SameLemmas.{mets_decide, is_there, is_not_there}
use Rattle.lab_explore_notes.proofs.faults.note_met.Goals as goal

pub returns-then-is_listed-clause-noted : goal.returns-then-is_listed-clause-noted
returns-then-is_listed-clause-noted c =
    let yes : c.is_listed.result ≡ true = search rules in
    is_there same_met mets_decide (map met_of_found c.args.faults.now) c.args.met.now
    (ap (λ (fs : List FoundFault). is_among same_met (map met_of_found fs) c.args.met.now) (sym c.as_slice.ensures)
    ∙ sym c.is_listed.ensures ∙ yes)

pub returns-clause-right : goal.returns-clause-right
returns-clause-right c =
    let old : List FoundFault = c.args.faults.now in
    let met : Met = c.args.met.now in
    let f : FoundFault = record { path = c.in_ok-path.path; met = met } in
    let no : c.is_listed.result ≡ false = search rules in
    let new : c.push.new.self ≡ old ++ f ∷ [] = c.in_ok-push.ensures.added in
    subst (λ fs. AreFaults c.args.machine.now.program c.args.machine.now.workers fs) (sym new)
    (push_right (IsPossibleFault c.args.machine.now.program c.args.machine.now.workers) met_of_found old f
    c.requires.right
    (is_fault c.args.machine.now c.in_ok-path.path met c.requires.way c.in_ok-path.ensures c.requires.met.0
    c.requires.met.1)
    (is_not_there same_met mets_decide (map met_of_found old) met
    (ap (λ (fs : List FoundFault). is_among same_met (map met_of_found fs) met) (sym c.as_slice.ensures)
    ∙ sym c.is_listed.ensures ∙ no)))

pub returns-clause-noted : goal.returns-clause-noted
returns-clause-noted c =
    let old : List FoundFault = c.args.faults.now in
    let f : FoundFault = record { path = c.in_ok-path.path; met = c.args.met.now } in
    let new : c.push.new.self ≡ old ++ f ∷ [] = c.in_ok-push.ensures.added in
    subst (λ fs. Contains (map met_of_found fs) c.args.met.now) (sym new) (told_last met_of_found old f)
