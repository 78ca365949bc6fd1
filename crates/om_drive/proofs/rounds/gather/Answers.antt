use Rattle.std.proofs.Common.{◌∙◌, ◌+◌, ◌++◌, ◌∷◌, [], ap, sym, get_or}
use Rattle.std.proofs.lemmas.List.{take_more}
use Rattle.om_drive.proofs.rounds.gather.Goals as goal

pub loop-i-preserved : goal.loop-i-preserved
loop-i-preserved g c =
    let numbers = c.args.numbers.now in
    let i = c.loop-i.i in
    record {
      many = c.in_default.ensures.one_more ∙ ap (λ n. n + 1) c.loop-i.invariant.many;
      numbers = c.in_default.ensures.ok ∙ ap (λ ns. ns ++ get_or numbers i 0 ∷ []) c.loop-i.invariant.numbers
          ∙ sym (take_more numbers i 0 c.loop-i-test.true);
    }
