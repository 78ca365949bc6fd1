use Rattle.std.proofs.Common.{◌≡◌, ◌++◌, sym, ◌∙◌, ap}
use Rattle.lab_explore_moves.specs.Letters.{letters_of}
use Rattle.lab_explore_moves.proofs.LetterLemmas.{below_next}
use Rattle.lab_explore_moves.proofs.letters.letters_by.Goals as goal

pub loop-worker-preserved : goal.loop-worker-preserved
loop-worker-preserved c =
    c.in_ok-push_letters_of.ensures
    ∙ ap (λ ls. ls ++ letters_of c.loop-worker.worker c.args.names.now) c.loop-worker.invariant
    ∙ sym (below_next c.args.names.now c.loop-worker.worker)
