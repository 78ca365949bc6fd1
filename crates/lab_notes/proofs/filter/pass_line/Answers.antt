use Rattle.std.proofs.Common.{arith, ◌+◌, ap, ◌∙◌, length, length-drop}
use Rattle.std.proofs.lemmas.Result.{err_from_is_err_and}
use Rattle.lab_notes.proofs.PassLaws.{line_passed, line_broken, nothing_broken}
use Rattle.lab_notes.proofs.filter.pass_line.Goals as goal

pub returns-in_err-text-clause-broken_off : goal.returns-in_err-text-clause-broken_off
returns-in_err-text-clause-broken_off g c =
    let p = err_from_is_err_and c.from_residual.result c.from_residual.ensures.1 in
    rw p.1 (nothing_broken _ _ _)

pub returns-in_err-send-clause-broken_off : goal.returns-in_err-send-clause-broken_off
returns-in_err-send-clause-broken_off g c =
    let p = err_from_is_err_and c.from_residual-in_err-send.result c.from_residual-in_err-send.ensures.1 in
    let noted = rw c.deref.ensures.value at c.in_ok-text.ensures.text in
    let part = rw c.deref-2.ensures.value at c.in_err-send.ensures.begun_on_error in
    rw p.1 (line_broken _ _ c.args.waiting.now.read.pending.items c.in_ok-text.text.items c.args.end c.requires.ended noted
    part.1)

pub returns-clause-passed : goal.returns-clause-passed
returns-clause-passed g c =
    let noted = rw c.deref.ensures.value at c.in_ok-text.ensures.text in
    let counted = rw c.deref.ensures.value at c.in_ok-text.ensures.due in
    let wrote = rw c.deref-2.ensures.value at c.in_ok-send.ensures.written in
    line_passed _ _ c.args.waiting.now.read.pending.items c.in_ok-text.text.items c.discard.new.self.read.pending.items c.args.end
    c.discard.new.self.due c.requires.ended noted (c.discard.ensures.due ∙ counted) wrote c.discard.ensures.pending

pub returns-clause-fewer : goal.returns-clause-fewer
returns-clause-fewer g c =
    omega (
      arith,
      ap length c.discard.ensures.pending,
      length-drop (c.args.end + 1) c.args.waiting.now.read.pending.items,
      c.requires.within,
    )
