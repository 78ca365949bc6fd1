use Rattle.std.proofs.Common.{arith, ◌≤◌, ◌-◌, length, take, drop, sym, subst, length-drop, take-append-drop}
use Rattle.om_shell.specs.Lines.{HasNoLineEnd}
use Rattle.om_shell.proofs.KeptSource.{keep_long, no_end_behind}
use Rattle.om_shell.proofs.source.take_long_line.Goals as goal

pub returns-clause-kept : goal.returns-clause-kept
returns-clause-kept c =
    let pending = c.args.input.now.pending.items in
    let over = c.len-over.result - 4 in
    let long : 4 ≤ length (drop over pending) = omega (
      arith,
      length-drop over pending,
      c.len.ensures,
      c.len-over.ensures,
      c.if-len-le-STUB.false,
    ) in
    let kept = rw c.deref.ensures.value at c.in_ok-keep.ensures.kept in
    λ taken k. keep_long taken _ pending _ _ over c.requires.unended long c.in_ok-keep.ensures.few kept
    c.discard.ensures.pending k

pub returns-clause-unended : goal.returns-clause-unended
returns-clause-unended c =
    let pending = c.args.input.now.pending.items in
    let over = c.len-over.result - 4 in
    subst HasNoLineEnd (sym c.discard.ensures.pending) (no_end_behind (take over pending) (drop over pending)
    (subst HasNoLineEnd (sym (take-append-drop over pending)) c.requires.unended))
