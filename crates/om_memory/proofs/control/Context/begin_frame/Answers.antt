-- The frame that waits is on top, and goes back.
use Rattle.std.proofs.Common.{◌≡◌, ◌+◌, ◌-◌, refl, arith}
use Rattle.std.specs.Box.{with_value}
use Rattle.om_memory.proofs.Tapes.{unpushed_pushed}
use Rattle.om_memory.proofs.control.Context.begin_frame.Goals as goal

pub returns-in-Ok-clause-back : goal.returns-in-Ok-clause-back
returns-in-Ok-clause-back c =
    let k = c.args.self.now in
    let count : k.frames + 1 - 1 ≡ k.frames = omega arith in
    rw (
      count,
      c.in-Ok.ensures.over,
      c.in-Ok.ensures.pushed,
      unpushed_pushed
          (with_value k.frame c.pass-passed.new.self) k.callers.items k.callers.taken,
      c.pass-passed.ensures.back,
      c.deref_mut.ensures.value,
    ) refl

pub returns-in-Err-clause-unchanged_on_error : goal.returns-in-Err-clause-unchanged_on_error
returns-in-Err-clause-unchanged_on_error c =
    rw (
      c.in-Err.ensures.unchanged_on_error,
      c.pass_back.ensures,
      c.deref_mut-in-Err.ensures.value,
      c.in-Err.ensures.running_on_error,
      c.pass-passed.ensures.back,
      c.deref_mut.ensures.value,
    ) refl
