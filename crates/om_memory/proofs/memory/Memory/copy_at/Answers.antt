use Rattle.std.proofs.Common.{◌∙◌, ap, sym}
use Rattle.std.specs.Option.{option_copied}
use Rattle.om_state.specs.declared.value.Val.TheVariants as value
use Rattle.om_memory.specs.Memories.{state_of, plain_or_idle}
use Rattle.om_memory.proofs.Values.{untrailed, is_control}
use Rattle.om_memory.proofs.memory.Memory.copy_at.Goals as goal

pub copy_value-requires : goal.copy_value-requires
copy_value-requires c = untrailed c.args.object.now (sym c.worker_of.ensures ∙ c.in_default.is)

pub returns-in_default-control : goal.returns-in_default-control
unfolding state_of
returns-in_default-control c =
    ap value.Control (c.idle.ensures
    ∙ ap (λ r. plain_or_idle (option_copied r)) (sym c.in_default-control.is) ∙ c.control.ensures)
    ∙ ap (state_of c.args.self.now)
    (sym (is_control c.args.object.now _ (sym c.worker_of.ensures ∙ c.in-Some.is)))

pub returns : goal.returns
unfolding state_of
returns c =
    ap value.Control (c.in_ok-of.ensures ∙ c.in_ok-copy.ensures
    ∙ ap (λ r. plain_or_idle (option_copied r)) (sym c.in-Some-control.is) ∙ c.control.ensures)
    ∙ ap (state_of c.args.self.now)
    (sym (is_control c.args.object.now _ (sym c.worker_of.ensures ∙ c.in-Some.is)))
