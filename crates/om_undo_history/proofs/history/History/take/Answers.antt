-- The choice that is kept is the label's.
use Rattle.std.proofs.Common.{◌≡◌, sym, ap, subst, refl, IfOk, OnOk}
use Rattle.om_state.specs.declared.step.Choice.{Choice}
use Rattle.om_state.specs.declared.step.Label.{Label}
use Rattle.om_state.specs.Rules.{Rules}
use Rattle.om_undo_history.specs.Pasts.{IsPlanned, RepliesToStep, TakesStep, step_for}
use Rattle.om_undo_history.proofs.history.History.take.Goals as goal

same : (l : Label) (x : Choice) → x ≡ l.choice → (let m : Label = record { worker = l.worker; choice = x } in m) ≡ l
same l x is = ap (λ (y : Choice). let m : Label = record { worker = l.worker; choice = y } in m) is

pub take_by-requires-clause-planned : goal.take_by-requires-clause-planned
take_by-requires-clause-planned c =
    subst (λ (l : Label). (r : Rules) × IsPlanned r c.args.self.now l (step_for l c.args.change c.args.self.now))
    (sym (same c.args.label.now _ c.in-Ok.ensures)) c.requires.planned

pub returns-in-Ok-clause-reply : goal.returns-in-Ok-clause-reply
returns-in-Ok-clause-reply c =
    subst (λ (l : Label). IfOk c.take_by.result (RepliesToStep l (step_for l c.args.change c.args.self.now)
    c.args.self.now)) (same c.args.label.now _ c.in-Ok.ensures) c.take_by.ensures.reply

pub returns-in-Ok-clause-after : goal.returns-in-Ok-clause-after
returns-in-Ok-clause-after c =
    subst (λ (l : Label). OnOk c.take_by.result (TakesStep l (step_for l c.args.change c.args.self.now)
    c.args.self.now c.take_by.new.self)) (same c.args.label.now _ c.in-Ok.ensures) c.take_by.ensures.after

pub returns-in-Err-clause-unchanged_on_error : goal.returns-in-Err-clause-unchanged_on_error
returns-in-Err-clause-unchanged_on_error c = (refl, λ r held. held)
