use Rattle.std.proofs.Common.{arith}
use Rattle.std.proofs.lemmas.Result.{err_from_is_err_and}
use Rattle.lab_notes.proofs.PassLaws.{breaks_behind, goes_on_one}
use Rattle.lab_notes.proofs.filter.pass_parts.Goals as goal

pub returns-in_err-pass_part-clause-broken_off : goal.returns-in_err-pass_part-clause-broken_off
returns-in_err-pass_part-clause-broken_off g c =
    let p = err_from_is_err_and c.from_residual.result c.from_residual.ensures.1 in
    rw p.1 (breaks_behind _ _ _ _ _ _ _ c.parts.invariant.passed c.in_err-pass_part.ensures.broken_off)

pub parts-preserved : goal.parts-preserved
parts-preserved g c = grind (arith, goes_on_one)
