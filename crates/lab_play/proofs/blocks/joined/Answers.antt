use Rattle.std.proofs.Common.{◌≡◌, sym, ◌∙◌, ap, ℕ, ◌+◌, ◌++◌, replicate, arith}
use Rattle.std.proofs.lemmas.List.{replicate-append-replicate}
use Rattle.om_state.specs.declared.step.Choice.TheVariants as choice
use Rattle.om_state.specs.declared.step.Label.{Label}
use Rattle.lab_schedules.specs.Schedules.{labels_in}
use Rattle.lab_play.proofs.blocks.joined.Goals as goal

abbrev step_of : ℕ → Label
step_of worker = record { worker = worker; choice = choice.Next }

pub returns : goal.returns
returns c =
    let worker = c.in-Steps-Steps.worker in
    let sum : c.in_ok-checked_add.field-0 ≡ c.in-Steps-Steps.count + c.in-Steps-Steps.more = grind arith in
    let same : worker ≡ c.in-Steps-Steps.next = grind arith in
    ap (λ (n : ℕ). replicate n (step_of worker)) sum
    ∙ sym (replicate-append-replicate c.in-Steps-Steps.count c.in-Steps-Steps.more (step_of worker))
    ∙ ap (λ (w : ℕ). replicate c.in-Steps-Steps.count (step_of worker) ++ replicate c.in-Steps-Steps.more (step_of w)) same
    ∙ (λ i. labels_in (sym c.in-Steps-Steps.is-0 i) ++ labels_in (sym c.in-Steps-Steps.is-1 i))
