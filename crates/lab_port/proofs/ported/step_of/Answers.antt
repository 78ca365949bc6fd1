use Rattle.std.proofs.Common.{sym, subst}
use Rattle.lab_port.specs.Written.{Stand}
use Rattle.lab_port.proofs.Wholes.{whole_step}
use Rattle.lab_port.proofs.ported.step_of.Goals as goal

pub text_of-requires : goal.text_of-requires
text_of-requires c = subst (Stand c.args.text.now 0) (sym c.deref.ensures.value) c.in_ok-changes.ensures.apart

pub returns : goal.returns
returns c =
    whole_step c.args.stage c.args.text.now (record { changes = c.in_ok-changes.changes; text = c.in_ok-made.made })
    c.deref.result.now c.in_ok-changes.ensures.changes c.in_ok-changes.ensures.apart c.deref.ensures.value
    c.in_ok-made.ensures.text
