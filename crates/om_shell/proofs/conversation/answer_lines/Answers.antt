use Rattle.std.proofs.Common.{arith, rules, ◌≢◌, [], drop-drop, length-drop, true, false, refl, sym, subst, ◌∙◌}
use Rattle.std.proofs.lemmas.Result.{err_from_is_err_and}
use Rattle.std.proofs.KnownBytes.{Appends-nil}
use Rattle.om_shell.specs.declared.ended.ShellFault.TheVariants.{Memory, Read}
use Rattle.om_shell.specs.Lines.{HasNoLineEnd}
use Rattle.om_shell.proofs.Bytes.{slice_to_end}
use Rattle.om_shell.proofs.SessionLaws.{Batch_none, Batch_further, Batch_breaks, all_begins}
use Rattle.om_shell.proofs.conversation.answer_lines.Goals as goal

pub batches-init : goal.batches-init
batches-init g c = record {
  answered = Batch_none _ _ _ (Appends-nil _);
  at_most = omega arith;
  within = c.requires.within;
  known = c.requires.known;
}

pub gather-gathered-requires : goal.gather-gathered-requires
gather-gathered-requires g c = rw (slice_to_end c.args.bytes.now c.batches.at)
    (search rules, (c.batches.invariant.within, c.batches.invariant.known))

pub returns-in_err-write-clause-begun_on_error : goal.returns-in_err-write-clause-begun_on_error
returns-in_err-write-clause-begun_on_error g c =
    let bytes = c.args.bytes.now in
    let at = c.batches.at in
    let p = err_from_is_err_and c.from_residual.result c.from_residual.ensures.1 in
    let begun = rw (slice_to_end bytes at) at c.gather-gathered.ensures.begun in
    let part = c.in_err-write.ensures.begun_on_error in
    rw (p.1, p.2) (Batch_breaks _ _ _ bytes _ at _ c.batches.session.debugger Memory _ c.batches.invariant.answered
    begun part.1 part.0)

pub returns-in_err-used-clause-begun_on_error : goal.returns-in_err-used-clause-begun_on_error
returns-in_err-used-clause-begun_on_error g c =
    let bytes = c.args.bytes.now in
    let at = c.batches.at in
    let p = err_from_is_err_and c.from_residual-in_err-used.result c.from_residual-in_err-used.ensures.1 in
    let begun = rw (slice_to_end bytes at) at c.gather-gathered.ensures.begun in
    let other : Memory ≢ Read = search rules in
    rw (p.1, p.2) (Batch_breaks _ _ _ bytes _ at _ c.batches.session.debugger Memory _ c.batches.invariant.answered
    begun (all_begins _ _ _ c.in_ok-write.ensures.written) other)

pub overflow_add-at : goal.overflow_add-at
overflow_add-at g c =
    let bytes = c.args.bytes.now in
    let at = c.batches.at in
    let batch = rw (slice_to_end bytes at) at c.in_ok-used.ensures.answered in
    omega (arith, (batch.1 []).within, length-drop at bytes, c.batches.invariant.at_most)

pub returns-then-quits-clause-answered : goal.returns-then-quits-clause-answered
returns-then-quits-clause-answered g c =
    let bytes = c.args.bytes.now in
    let at = c.batches.at in
    let batch = rw (slice_to_end bytes at, c.if-quits.true) at c.in_ok-used.ensures.answered in
    Batch_further _ _ _ bytes _ at c.in_ok-used.used _ c.batches.session.debugger
    c.gather-gathered.new.self.debugger true c.batches.invariant.answered batch c.in_ok-write.ensures.written

pub returns-then-not-has_enough-clause-answered : goal.returns-then-not-has_enough-clause-answered
returns-then-not-has_enough-clause-answered g c =
    let bytes = c.args.bytes.now in
    let at = c.batches.at in
    let batch = rw (slice_to_end bytes at, c.if-quits.false) at c.in_ok-used.ensures.answered in
    Batch_further _ _ _ bytes _ at c.in_ok-used.used _ c.batches.session.debugger
    c.gather-gathered.new.self.debugger false c.batches.invariant.answered batch c.in_ok-write.ensures.written

pub returns-then-not-has_enough-clause-left : goal.returns-then-not-has_enough-clause-left
returns-then-not-has_enough-clause-left g c = λ _.
    let bytes = c.args.bytes.now in
    let at = c.batches.at in
    let left = rw (slice_to_end bytes at) at c.in_ok-used.ensures.left in
    subst HasNoLineEnd (drop-drop c.in_ok-used.used at bytes)
    (left c.if-quits.false (sym c.has_enough.ensures ∙ c.if-not-has_enough.true))

pub batches-smaller : goal.batches-smaller
batches-smaller g c =
    let bytes = c.args.bytes.now in
    let at = c.batches.at in
    let batch = rw (slice_to_end bytes at) at c.in_ok-used.ensures.answered in
    let some = c.in_ok-used.ensures.some (sym c.has_enough.ensures ∙ c.if-not-has_enough.false) in
    omega (arith, some, (batch.1 []).within, length-drop at bytes, c.batches.invariant.at_most)

pub batches-preserved : goal.batches-preserved
batches-preserved g c =
    let bytes = c.args.bytes.now in
    let at = c.batches.at in
    let batch = rw (slice_to_end bytes at, c.if-quits.false) at c.in_ok-used.ensures.answered in
    record {
      answered = Batch_further _ _ _ bytes _ at c.in_ok-used.used _ c.batches.session.debugger
          c.gather-gathered.new.self.debugger false c.batches.invariant.answered batch
          c.in_ok-write.ensures.written;
      at_most = omega (arith, (batch.1 []).within, length-drop at bytes, c.batches.invariant.at_most);
      within = omega arith;
      known = refl;
    }
