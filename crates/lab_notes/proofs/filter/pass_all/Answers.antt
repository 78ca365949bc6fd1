use Rattle.std.proofs.Common.{sym, subst}
use Rattle.std.proofs.lemmas.Result.{err_from_is_err_and}
use Rattle.om_shell.specs.Lines.{HasNoLineEnd}
use Rattle.lab_notes.proofs.PassLaws.{nothing_passed, read_on, all_passed, last_broken, read_broken}
use Rattle.lab_notes.proofs.filter.pass_all.Goals as goal

pub reads-init : goal.reads-init
reads-init g c = rw (c.requires.nothing_pending, c.requires.nothing_due) (nothing_passed _ _)

pub returns-in_err-read_more-clause-broken_off : goal.returns-in_err-read_more-clause-broken_off
returns-in_err-read_more-clause-broken_off g c =
    let p = err_from_is_err_and c.from_residual-in_err-read_more.result c.from_residual-in_err-read_more.ensures.1 in
    let far = c.in_ok-pass_parts.ensures.passed _ _ _ c.reads.invariant in
    rw p.1 (read_broken _ _ _ _ _ _ _ _ far c.in_err-read_more.ensures.failed)

pub returns-then-not-branch-clause-passed : goal.returns-then-not-branch-clause-passed
returns-then-not-branch-clause-passed g c =
    let far = c.in_ok-pass_parts.ensures.passed _ _ _ c.reads.invariant in
    let read = c.in_ok-read_more.ensures.read in
    let ended = c.in_ok-read_more.ensures.ended c.if-not-branch.true in
    let on = read_on _ _ _ _ _ _ _ read.0 _ far read.1 read.2 in
    let unended = subst HasNoLineEnd (sym ended.1) c.in_ok-pass_parts.ensures.unended in
    let wrote = rw c.deref.ensures.value at c.in_ok-send.ensures.written in
    all_passed _ _ _ _ _ _ _ on unended ended.0 wrote

pub returns-in_err-send-clause-broken_off : goal.returns-in_err-send-clause-broken_off
returns-in_err-send-clause-broken_off g c =
    let p = err_from_is_err_and c.from_residual-in_err-send.result c.from_residual-in_err-send.ensures.1 in
    let far = c.in_ok-pass_parts.ensures.passed _ _ _ c.reads.invariant in
    let read = c.in_ok-read_more.ensures.read in
    let ended = c.in_ok-read_more.ensures.ended c.if-not-branch.true in
    let on = read_on _ _ _ _ _ _ _ read.0 _ far read.1 read.2 in
    let unended = subst HasNoLineEnd (sym ended.1) c.in_ok-pass_parts.ensures.unended in
    let part = rw c.deref.ensures.value at c.in_err-send.ensures.begun_on_error in
    rw p.1 (last_broken _ _ _ _ _ _ _ on unended part.1)

pub reads-preserved : goal.reads-preserved
reads-preserved g c =
    let far = c.in_ok-pass_parts.ensures.passed _ _ _ c.reads.invariant in
    let read = c.in_ok-read_more.ensures.read in
    read_on _ _ _ _ _ _ _ read.0 _ far read.1 read.2
