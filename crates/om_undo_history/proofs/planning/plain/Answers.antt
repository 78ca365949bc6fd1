use Rattle.std.proofs.Common.{◌≡◌, true}
use Rattle.om_foot.specs.declared.footprint.Access.{Access}
use Rattle.om_undo_touches.specs.Accesses.{control_write}
use Rattle.om_memory.specs.Memories.{is_kept}
use Rattle.om_undo_history.proofs.CellParts.{All-front}
use Rattle.om_undo_history.proofs.planning.plain.Goals as goal

pub returns-in-Ok-clause-kept : goal.returns-in-Ok-clause-kept
returns-in-Ok-clause-kept c =
    All-front (λ (a : Access). is_kept c.singles.new.store a.object ≡ true) (control_write c.args.worker)
    c.args.others.now (c.singles.ensures.others_kept _ c.requires) c.in-Ok.ensures.kept
