use Rattle.std.proofs.Common.{ap}
use Rattle.om_code.specs.declared.instruction.Instr.TheVariants as i
use Rattle.om_code.specs.declared.instruction.Region.TheVariants as regionals
use Rattle.om_lower_emit.specs.Emits.{names_at}
use Rattle.om_lower_emit.specs.Going.{puts_is}
use Rattle.om_lower_emit.proofs.Opened.{ends_here, ends_put, ends_put_here}
use Rattle.om_lower_emit.proofs.construct.end_construct.Goals as goal

pub returns-in_ok-worksharing_end-in-Single : goal.returns-in_ok-worksharing_end-in-Single
returns-in_ok-worksharing_end-in-Single c = rw c.in-Single.is (ends_here _ _ _ _ _ c.requires.free c.define.ensures
    (c.in_ok-worksharing_end-in-Single.ensures (names_at c.args.here.now)))

pub returns-in_ok-put-in-Masked : goal.returns-in_ok-put-in-Masked
returns-in_ok-put-in-Masked c = rw c.in-Masked.is (ends_put_here (names_at c.args.here.now) _ _ _ _ _ _
    c.in_ok-put-in-Masked.ensures c.define-in-Masked.ensures)

pub returns-in_ok-put-in-Critical : goal.returns-in_ok-put-in-Critical
returns-in_ok-put-in-Critical c = rw c.in-Critical.is (ends_put (names_at c.args.here.now) _ _ _ _ _
    c.requires.free (puts_is _ _ _ _ _ (ap (λ x. i.Region (regionals.LeaveCritical x)) c.lock_number-lock.ensures) c.in_ok-put-in-Critical.ensures))

pub returns-in_ok-put-in-Taskgroup : goal.returns-in_ok-put-in-Taskgroup
returns-in_ok-put-in-Taskgroup c = rw c.in-Taskgroup.is (ends_put (names_at c.args.here.now) _ _ _ _ _
    c.requires.free c.in_ok-put-in-Taskgroup.ensures)
