use Rattle.std.proofs.Common.{ap}
use Rattle.om_code.specs.declared.instruction.Instr.TheVariants as i
use Rattle.om_code.specs.declared.instruction.Serial.TheVariants as serials
use Rattle.om_lower_emit.specs.Emits.{names_at}
use Rattle.std.proofs.lemmas.List.{drop_all}
use Rattle.om_lower_emit.specs.Writing.{emits_one}
use Rattle.om_lower_emit.specs.Each.{begin_each, end_each, got, next_each}
use Rattle.om_lower_emit.specs.Going.{puts_is}
use Rattle.om_lower.proofs.region.load_originals.Goals as goal

pub loop-copy-init : goal.loop-copy-init
loop-copy-init c = begin_each _ _ _ _ _

pub loop-copy-preserved : goal.loop-copy-preserved
loop-copy-preserved c = next_each _ _ _ _ _ _ _ _ _ _ c.loop-copy-test.true (got _ _ _ c.loop-copy-test.true)
    c.loop-copy.invariant
    (emits_one (names_at c.args.here.now) _ _ _ _
    (puts_is _ _ _ _ _ (ap (λ x. i.Serial (serials.Load x)) c.place.ensures) c.in_ok-put.ensures))

pub returns : goal.returns
returns c = end_each _ _ _ _ _ _ _ _ (drop_all c.loop-copy.copy-index c.args.copies.now c.loop-copy-test.false)
    c.loop-copy.invariant
