-- An edit of the stack of a worker that runs is one of its control.
use Rattle.std.proofs.Common.{◌∙◌, ap, sym}
use Rattle.om_memory.specs.declared.control.Control.TheVariants as control
use Rattle.om_memory.proofs.Backs.{stack_of_control, can_stack_control}
use Rattle.om_memory.proofs.edit.apply.Goals as goal

pub returns-in-Ok : goal.returns-in-Ok
returns-in-Ok c = record {
  changed = rw (c.in-Running-control.is) c.in-Ok.ensures.changed;
  can = can_stack_control c.in-Ok.inverse _ c.in-Ok.ensures.can;
  back = stack_of_control c.in-Ok.inverse _ c.in-Ok.ensures.can ∙ ap control.Running c.in-Ok.ensures.back
      ∙ sym c.in-Running-control.is;
  unchanged_on_error = tt;
}

pub returns-in-Err : goal.returns-in-Err
returns-in-Err c = record {
  changed = tt;
  can = tt;
  back = tt;
  unchanged_on_error = ap control.Running c.in-Err.ensures.unchanged_on_error ∙ sym c.in-Running-control.is;
}
