use Rattle.std.proofs.Common.{refl, sym, ap, ◌∙◌}
use Rattle.lab_explore_rows.specs.WordTables.{number_of}
use Rattle.lab_explore_states.proofs.SetLemmas.{some_of}
use Rattle.lab_explore_states.proofs.stored.put_in.Goals as goal

pub returns-then-is_some-clause-put_in : goal.returns-then-is_some-clause-put_in
returns-then-is_some-clause-put_in c =
    let there = some_of c.number.result (sym c.is_some.ensures ∙ c.if-is_some.true) in (
      (
        there.0,
        ap (λ words. number_of c.args.rows.now words) (sym c.cut-row.ensures) ∙ sym c.number.ensures.number ∙ there.1,
      ),
      refl,
      refl,
    )
