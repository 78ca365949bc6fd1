use Rattle.std.proofs.Common.{refl, sym, ◌∙◌}
use Rattle.std.proofs.lemmas.Result.{on_ok_weaker}
use Rattle.om_shell_debugger.proofs.Bounded.{next_full, next_stops, next_goes_on}
use Rattle.om_shell_debugger.proofs.moves.next_within.Goals as goal

pub returns-then-is_full : goal.returns-then-is_full
returns-then-is_full c =
    let said = sym c.steps.invariant.said ∙ next_full _ _ _ _ (sym c.is_full.ensures ∙ c.if-is_full.true) in
    rw said (on_ok_weaker c.push_full.result (λ written. (written, refl))
    (rw c.steps.invariant.text at c.push_full.ensures))

pub returns-then-not-steps_on : goal.returns-then-not-steps_on
returns-then-not-steps_on c =
    let room = sym c.is_full.ensures ∙ c.if-is_full.false in
    let stops = rw (c.in_ok-reply.ensures.reply, c.machine.ensures.left, c.in_ok-reply.ensures.after) at
    (sym c.steps_on.ensures.on ∙ c.if-not-steps_on.true) in
    let said = sym c.steps.invariant.said ∙ next_stops _ _ _ _ room stops in
    rw said (on_ok_weaker c.push_step.result (λ written. (written, c.in_ok-reply.ensures.after))
    (rw (c.in_ok-reply.ensures.reply, c.steps.invariant.text) at c.push_step.ensures))

pub steps-preserved : goal.steps-preserved
steps-preserved c =
    let room = sym c.is_full.ensures ∙ c.if-is_full.false in
    let on = rw (c.in_ok-reply.ensures.reply, c.machine.ensures.left, c.in_ok-reply.ensures.after) at
    (sym c.steps_on.ensures.on ∙ c.if-not-steps_on.false) in
    rw c.in_ok-reply.ensures.after (record {
      said = next_goes_on _ _ _ _ room on ∙ c.steps.invariant.said;
      text = c.steps.invariant.text;
      in_range = c.steps.invariant.in_range;
    })
