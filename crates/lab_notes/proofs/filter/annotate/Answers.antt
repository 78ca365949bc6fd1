use Rattle.std.proofs.lemmas.Result.{err_from_is_err_and}
use Rattle.lab_notes.proofs.PassLaws.{never_begun}
use Rattle.lab_notes.proofs.filter.annotate.Goals as goal

pub returns-in_err-names-clause-begun_on_error : goal.returns-in_err-names-clause-begun_on_error
returns-in_err-names-clause-begun_on_error g c =
    let p = err_from_is_err_and c.from_residual.result c.from_residual.ensures.1 in
    rw p.1 (never_begun _ _)
