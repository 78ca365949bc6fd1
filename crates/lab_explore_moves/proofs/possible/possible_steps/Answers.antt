use Rattle.std.proofs.Common.{◌≡◌, ◌∙◌, ap, sym, subst}
use Rattle.std.proofs.lemmas.Result.{IfOk-weaker}
use Rattle.lab_explore_closed.specs.Runs.{AreOf}
use Rattle.lab_explore_moves.specs.Possible.{possible_among}
use Rattle.lab_explore_moves.proofs.PossibleLemmas.{are_possible}
use Rattle.lab_explore_moves.proofs.possible.possible_steps.Goals as goal

pub possible_among-requires : goal.possible_among-requires
possible_among-requires c =
    subst (λ ls. AreOf c.args.machine.now.workers ls) (sym c.as_slice.ensures.value) c.in_ok-letters.ensures.own

pub returns : goal.returns
returns c = IfOk-weaker c.possible_among.result _ _
    (λ all is. are_possible c.args.machine.now c.in_ok-letters.letters.items all.items c.in_ok-letters.ensures
    (is ∙ ap (possible_among c.args.machine.now) c.as_slice.ensures.value))
    c.possible_among.ensures
