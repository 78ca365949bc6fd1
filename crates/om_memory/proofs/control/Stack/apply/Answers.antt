-- An edit of the running context is one of its stack.
use Rattle.std.proofs.Common.{◌∙◌, refl, map}
use Rattle.om_memory.specs.Plain.{plain_held}
use Rattle.om_memory.proofs.Backs.{turn_of_stack, can_turn_stack}
use Rattle.om_memory.proofs.control.Stack.apply.Goals as goal

pub returns-in-Ok : goal.returns-in-Ok
returns-in-Ok c = record {
  changed = rw (c.deref_mut.ensures.value) at (c.in-Ok.ensures.changed
      (map plain_held c.args.self.now.below.items));
  can = can_turn_stack c.in-Ok.inverse _ c.in-Ok.ensures.can;
  back = turn_of_stack c.in-Ok.inverse _ c.in-Ok.ensures.can ∙ rw (
    c.in-Ok.ensures.back,
    c.deref_mut.ensures.value,
  ) refl;
  unchanged_on_error = tt;
}

pub returns-in-Err : goal.returns-in-Err
returns-in-Err c = record {
  changed = tt;
  can = tt;
  back = tt;
  unchanged_on_error = rw (c.in-Err.ensures.unchanged_on_error, c.deref_mut.ensures.value) refl;
}
