use Rattle.std.proofs.Common.{◌≡◌, ◌∙◌, ap}
use Rattle.std.proofs.lemmas.Result.{IfOk-weaker}
use Rattle.lab_explore_moves.specs.Letters.{letters_below}
use Rattle.lab_explore_moves.proofs.LetterLemmas.{all_letters}
use Rattle.lab_explore_moves.proofs.letters.letters.Goals as goal

pub returns : goal.returns
returns c = IfOk-weaker c.letters_by.result _ _
    (λ labels is. all_letters c.possible_starts_are_ready.ensures c.args.machine.now c.in_ok-names.names.items
    c.in_ok-names.ensures labels.items
    (is ∙ (λ i. letters_below (c.as_slice.ensures.value i) (c.workers.ensures.same i)))) c.letters_by.ensures
