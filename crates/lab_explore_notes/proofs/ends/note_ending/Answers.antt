use Rattle.std.proofs.Common.{◌≡◌, sym, ◌∙◌, ap, subst, true, false, rules, List, ◌++◌, ◌∷◌, [], map}
use Rattle.std.specs.Prelude.{Contains}
use Rattle.lab_explore_closed.specs.declared.found.FoundEnd.{FoundEnd}
use Rattle.lab_explore_closed.specs.Explored.{IsPossibleEnd, ending_of_found}
use Rattle.lab_explore_notes.specs.Notes.{AreEnds, Keeps}
use Rattle.lab_explore_notes.specs.Same.{same_ending, is_among}
use Rattle.lab_explore_notes.proofs.NoteLemmas.{push_right, keeps_push, told_last, is_end}
use Rattle.lab_explore_notes.proofs.SameLemmas.{endings_decide, is_there, is_not_there}
use Rattle.lab_explore_notes.proofs.ends.note_ending.Goals as goal

pub returns-then-is_listed-clause-noted : goal.returns-then-is_listed-clause-noted
returns-then-is_listed-clause-noted c =
    let yes : c.is_listed.result ≡ true = search rules in
    is_there same_ending endings_decide (map ending_of_found c.args.ends.now) c.args.ending
    (ap (λ (fs : List FoundEnd). is_among same_ending (map ending_of_found fs) c.args.ending) (sym c.as_slice.ensures)
    ∙ sym c.is_listed.ensures ∙ yes)

pub returns-clause-right : goal.returns-clause-right
returns-clause-right c =
    let old : List FoundEnd = c.args.ends.now in
    let f : FoundEnd = record { path = c.in_ok-path.path; ending = c.args.ending } in
    let no : c.is_listed.result ≡ false = search rules in
    let new : c.push.new.self ≡ old ++ f ∷ [] = c.in_ok-push.ensures.added in
    subst (λ fs. AreEnds c.args.machine.now.program c.args.machine.now.workers fs) (sym new)
    (push_right (IsPossibleEnd c.args.machine.now.program c.args.machine.now.workers) ending_of_found old f
    c.requires.right
    (is_end c.args.machine.now c.in_ok-path.path c.args.ending c.requires.way c.in_ok-path.ensures c.requires.end
    c.requires.ending)
    (is_not_there same_ending endings_decide (map ending_of_found old) c.args.ending
    (ap (λ (fs : List FoundEnd). is_among same_ending (map ending_of_found fs) c.args.ending) (sym c.as_slice.ensures)
    ∙ sym c.is_listed.ensures ∙ no)))

pub returns-clause-keeps : goal.returns-clause-keeps
returns-clause-keeps c =
    let old : List FoundEnd = c.args.ends.now in
    let f : FoundEnd = record { path = c.in_ok-path.path; ending = c.args.ending } in
    let new : c.push.new.self ≡ old ++ f ∷ [] = c.in_ok-push.ensures.added in
    subst (λ fs. Keeps ending_of_found old fs) (sym new) (keeps_push ending_of_found old f)

pub returns-clause-noted : goal.returns-clause-noted
returns-clause-noted c =
    let old : List FoundEnd = c.args.ends.now in
    let f : FoundEnd = record { path = c.in_ok-path.path; ending = c.args.ending } in
    let new : c.push.new.self ≡ old ++ f ∷ [] = c.in_ok-push.ensures.added in
    subst (λ fs. Contains (map ending_of_found fs) c.args.ending) (sym new) (told_last ending_of_found old f)
