use Rattle.lab_port.proofs.Wholes.{whole_changes, whole_stand}
use Rattle.lab_port.proofs.ported.changes_in.Goals as goal

pub returns-clause-apart : goal.returns-clause-apart
returns-clause-apart c =
    whole_stand c.args.stage c.args.text.now c.in_ok-changes.changes.items
    (whole_changes c.args.stage c.args.text.now c.in_ok-pieces.pieces.items c.deref.result.now
    c.in_ok-changes.changes.items c.in_ok-pieces.ensures.pieces c.deref.ensures.value c.in_ok-changes.ensures)
