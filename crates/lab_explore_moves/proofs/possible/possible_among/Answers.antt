use Rattle.std.proofs.Common.{ℕ, ◌<◌, List, length, arith}
use Rattle.om_state.specs.declared.step.Label.{Label}
use Rattle.lab_explore_moves.specs.Possible.{possible_among}
use Rattle.lab_explore_moves.proofs.LetterLemmas.{own_at}
use Rattle.lab_explore_moves.proofs.PossibleLemmas.{among_next}
use Rattle.lab_explore_moves.proofs.possible.possible_among.Goals as goal

pub push_possible-requires : goal.push_possible-requires
push_possible-requires c = own_at c.args.machine.now.workers c.args.letters.now c.loop-letter.letter-index
    c.letter-item.result c.requires c.loop-letter-test.true c.letter-item.is

pub loop-letter-preserved : goal.loop-letter-preserved
loop-letter-preserved c =
    let i : ℕ = c.loop-letter.letter-index in
    let ls : List Label = c.args.letters.now in
    let less : i < length ls = omega arith in
    among_next c.args.machine.now ls i c.letter-item.result c.loop-letter.all.items c.push_possible.new.all.items
    (possible_among c.args.machine.now ls) less c.letter-item.is c.loop-letter.invariant c.in_ok-push_possible.ensures
