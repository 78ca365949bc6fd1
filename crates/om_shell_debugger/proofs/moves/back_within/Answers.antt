use Rattle.std.proofs.Common.{refl, sym, ◌∙◌}
use Rattle.std.proofs.lemmas.Result.{on_ok_weaker}
use Rattle.om_shell_debugger.proofs.Bounded.{back_full, back_stops, back_goes_on}
use Rattle.om_shell_debugger.proofs.moves.back_within.Goals as goal

pub undo_told-reply-requires : goal.undo_told-reply-requires
undo_told-reply-requires c = (_, _, c.in_ok-undo.ensures)

pub returns-then-is_full : goal.returns-then-is_full
returns-then-is_full c =
    let said = sym c.undos.invariant.said ∙ back_full _ _ _ _ (sym c.is_full.ensures ∙ c.if-is_full.true) in
    rw said (on_ok_weaker c.push_full.result (λ written. (written, refl))
    (rw c.undos.invariant.text at c.push_full.ensures))

pub returns-then-not-undoes_on : goal.returns-then-not-undoes_on
returns-then-not-undoes_on c =
    let room = sym c.is_full.ensures ∙ c.if-is_full.false in
    let reply = c.undo_told-reply.ensures _ _ c.in_ok-undo.ensures in
    let stops = rw (reply, c.machine.ensures.left, c.in_ok-undo.ensures) at
    (sym c.undoes_on.ensures.on ∙ c.if-not-undoes_on.true) in
    let said = sym c.undos.invariant.said ∙ back_stops _ _ _ _ room stops in
    rw said (on_ok_weaker c.push_kept.result (λ written. (written, c.in_ok-undo.ensures))
    (rw (
      c.program.ensures,
      c.machine-then-not-undoes_on.ensures.program,
      c.in_ok-undo.ensures,
      reply,
      c.undos.invariant.text,
    ) at c.push_kept.ensures))

pub undos-preserved : goal.undos-preserved
undos-preserved c =
    let room = sym c.is_full.ensures ∙ c.if-is_full.false in
    let reply = c.undo_told-reply.ensures _ _ c.in_ok-undo.ensures in
    let on = rw (reply, c.machine.ensures.left, c.in_ok-undo.ensures) at
    (sym c.undoes_on.ensures.on ∙ c.if-not-undoes_on.false) in
    rw c.in_ok-undo.ensures (record {
      said = back_goes_on _ _ _ _ room on ∙ c.undos.invariant.said;
      text = c.undos.invariant.text;
      in_range = c.undos.invariant.in_range;
    })
