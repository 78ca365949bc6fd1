-- The frame that went on waits again, without the value.
use Rattle.std.proofs.Common.{refl}
use Rattle.om_memory.proofs.Tapes.{unpushed_pushed, top_again, same_item}
use Rattle.om_memory.proofs.control.Context.end_frame.Goals as goal

pub returns-in-Ok-clause-back : goal.returns-in-Ok-clause-back
returns-in-Ok-clause-back c =
    let k = c.args.self.now in
    let t = c.deref_mut.result.now.operands in
    rw (
      c.in-Ok.ensures.over,
      c.in-Ok.ensures.pushed,
      unpushed_pushed c.args.value t.items t.taken,
      c.deref_mut.ensures.value,
      c.swap_down.ensures.swapped,
      top_again c.swap_down.new.item k.callers.items c.swap_down.ensures.top,
    ) refl

pub returns-in-Err-clause-unchanged_on_error : goal.returns-in-Err-clause-unchanged_on_error
returns-in-Err-clause-unchanged_on_error c =
    let k = c.args.self.now in
    let same = same_item c.swap_up.new.item k.frame (rw c.swap_down.ensures.swapped at c.swap_up.ensures.nearest) in
    rw (
      same,
      c.swap_up.ensures.swapped,
      c.in-Err.ensures.unchanged_on_error,
      c.deref_mut.ensures.value,
      c.swap_down.ensures.swapped,
      top_again c.swap_down.new.item k.callers.items c.swap_down.ensures.top,
    ) refl
