use Rattle.std.proofs.Common.{refl}
use Rattle.om_shell.proofs.KeptSource.{keep_lines, keep_mark}
use Rattle.om_shell.proofs.source.take_lines.Goals as goal

pub returns-in-Some-clause-ended : goal.returns-in-Some-clause-ended
returns-in-Some-clause-ended c =
    let marked = rw (c.in-Some.is, c.deref.ensures.value) at c.scan-at.ensures.marked in
    let kept = rw c.deref-2.ensures.value at c.in_ok-keep.ensures.kept in
    λ _ taken k. keep_mark taken _ _ _ _ c.scan-at.result.0 c.in-Some.after marked kept c.discard.ensures.pending k

pub returns-clause-kept : goal.returns-clause-kept
returns-clause-kept c =
    let scanned = rw (c.in_default.is, c.deref.ensures.value) at c.scan-at.ensures.scanned in
    let kept = rw c.deref-2.ensures.value at c.in_ok-keep.ensures.kept in
    λ _ taken k. c.in_ok-take_long_line.ensures.kept taken
    (keep_lines taken _ _ _ _ c.scan-at.result.0 (scanned refl) c.in_ok-keep.ensures.few kept
    c.discard-2.ensures.pending k)
