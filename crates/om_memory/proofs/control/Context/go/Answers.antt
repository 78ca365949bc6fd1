-- What the box of the running frame holds is read and put back.
use Rattle.std.proofs.Common.{refl}
use Rattle.om_memory.proofs.control.Context.go.Goals as goal

pub returns-in-Ok-clause-back : goal.returns-in-Ok-clause-back
returns-in-Ok-clause-back c = rw (c.in-Ok.ensures.back, c.deref_mut.ensures.value) refl

pub returns-in-Err-clause-unchanged_on_error : goal.returns-in-Err-clause-unchanged_on_error
returns-in-Err-clause-unchanged_on_error c = rw (
  c.in-Err.ensures.unchanged_on_error,
  c.deref_mut.ensures.value,
) refl
