use Rattle.std.proofs.Common.{arith, rules, [], refl, sym, ap, subst, take, ◌∙◌}
use Rattle.std.proofs.lemmas.Result.{err_from_is_err_and}
use Rattle.om_shell.specs.Lines.{HasNoLineEnd}
use Rattle.om_shell.proofs.Conversing.{conversed_none, conversed_lines, short_unended, conversed_read, conversed_quits}
use Rattle.om_shell.proofs.Conversing.{conversed_breaks, conversed_unread, conversed_ends, conversed_breaks_last}
use Rattle.om_shell.proofs.LineEnds.{known_whole}
use Rattle.om_shell.proofs.conversation.converse.Goals as goal

pub reads-init : goal.reads-init
reads-init g c = record { so_far = conversed_none _ _ _ _; within = omega arith; known = refl }

pub answer_lines-requires : goal.answer_lines-requires
answer_lines-requires g c = rw c.deref.ensures.value (search rules, (c.reads.invariant.within, c.reads.invariant.known))

pub discard-requires : goal.discard-requires
discard-requires g c =
    let batch = rw (c.if-quits.false, c.deref.ensures.value) at c.in_ok-used.ensures.answered in
    (batch.1 []).within

pub returns-in_err-used-clause-broken_off : goal.returns-in_err-used-clause-broken_off
returns-in_err-used-clause-broken_off g c =
    let p = err_from_is_err_and c.from_residual.result c.from_residual.ensures.1 in
    let part = rw c.deref.ensures.value at c.in_err-used.ensures.begun_on_error in
    rw (p.1, p.2) (conversed_breaks _ _ _ _ _ c.reads.session.debugger _ _ c.reads.invariant.so_far part)

pub returns-then-quits-clause-done : goal.returns-then-quits-clause-done
returns-then-quits-clause-done g c =
    let batch = rw (c.if-quits.true, c.deref.ensures.value) at c.in_ok-used.ensures.answered in
    conversed_quits _ _ _ _ _ c.reads.session.debugger c.answer_lines.new.session.debugger _ c.in_ok-used.used
    c.reads.invariant.so_far batch

pub reads-preserved : goal.reads-preserved
reads-preserved g c =
    let batch = rw (c.if-quits.false, c.deref.ensures.value) at c.in_ok-used.ensures.answered in
    let left = rw c.deref.ensures.value at (c.in_ok-used.ensures.left c.if-quits.false) in
    let short = c.shorten.ensures.pending ∙ ap (take 1026) c.discard.ensures.pending in
    let read = c.in_ok-read_more.ensures.read in
    let known = known_whole _ read.0 _ c.len-searched.result read.2 (omega arith) (short_unended _ _ left short) in
    record {
      so_far = conversed_read _ _ _ _ _ _ _ _ read.0
          (conversed_lines _ _ _ _ _ c.reads.session.debugger c.answer_lines.new.session.debugger _ _ c.in_ok-used.used
          c.reads.invariant.so_far batch left short) read.1 read.2;
      within = known.0;
      known = known.1;
    }

pub returns-in_err-read_more-clause-broken_off : goal.returns-in_err-read_more-clause-broken_off
returns-in_err-read_more-clause-broken_off g c =
    let p = err_from_is_err_and c.from_residual-in_err-read_more.result c.from_residual-in_err-read_more.ensures.1 in
    let batch = rw (c.if-quits.false, c.deref.ensures.value) at c.in_ok-used.ensures.answered in
    let left = rw c.deref.ensures.value at (c.in_ok-used.ensures.left c.if-quits.false) in
    let short = c.shorten.ensures.pending ∙ ap (take 1026) c.discard.ensures.pending in
    rw (p.1, p.2) (conversed_unread _ _ _ _ _ c.answer_lines.new.session.debugger _ _
    (conversed_lines _ _ _ _ _ c.reads.session.debugger c.answer_lines.new.session.debugger _ _ c.in_ok-used.used
    c.reads.invariant.so_far batch left short) (short_unended _ _ left short) c.in_err-read_more.ensures.failed)

pub returns-in_err-answer-clause-broken_off : goal.returns-in_err-answer-clause-broken_off
returns-in_err-answer-clause-broken_off g c =
    let p = err_from_is_err_and c.from_residual-in_err-answer.result c.from_residual-in_err-answer.ensures.1 in
    let batch = rw (c.if-quits.false, c.deref.ensures.value) at c.in_ok-used.ensures.answered in
    let left = rw c.deref.ensures.value at (c.in_ok-used.ensures.left c.if-quits.false) in
    let short = c.shorten.ensures.pending ∙ ap (take 1026) c.discard.ensures.pending in
    let read = c.in_ok-read_more.ensures.read in
    let same = (c.in_ok-read_more.ensures.ended c.if-not-branch.true).1 in
    let fault = rw c.deref-then-not-branch.ensures.value at c.in_err-answer.ensures.begun_on_error in
    rw (p.1, p.2) (conversed_breaks_last _ _ _ _ _ c.answer_lines.new.session.debugger _ _
    (conversed_read _ _ _ _ _ c.answer_lines.new.session.debugger _ _ read.0
    (conversed_lines _ _ _ _ _ c.reads.session.debugger c.answer_lines.new.session.debugger _ _ c.in_ok-used.used
    c.reads.invariant.so_far batch left short) read.1 read.2)
    (subst HasNoLineEnd (sym same) (short_unended _ _ left short)) fault.0 fault.1)

pub returns-then-not-branch-clause-done : goal.returns-then-not-branch-clause-done
returns-then-not-branch-clause-done g c =
    let batch = rw (c.if-quits.false, c.deref.ensures.value) at c.in_ok-used.ensures.answered in
    let left = rw c.deref.ensures.value at (c.in_ok-used.ensures.left c.if-quits.false) in
    let short = c.shorten.ensures.pending ∙ ap (take 1026) c.discard.ensures.pending in
    let read = c.in_ok-read_more.ensures.read in
    let ended = c.in_ok-read_more.ensures.ended c.if-not-branch.true in
    let said = rw c.deref-then-not-branch.ensures.value at c.in_ok-answer.ensures.answered in
    conversed_ends _ _ _ _ _ c.answer_lines.new.session.debugger _ _ said.0 _
    (conversed_read _ _ _ _ _ c.answer_lines.new.session.debugger _ _ read.0
    (conversed_lines _ _ _ _ _ c.reads.session.debugger c.answer_lines.new.session.debugger _ _ c.in_ok-used.used
    c.reads.invariant.so_far batch left short) read.1 read.2)
    (subst HasNoLineEnd (sym ended.1) (short_unended _ _ left short)) ended.0 said.1 said.2
