use Rattle.std.proofs.Common.{◌≡◌, sym, ap, ◌∙◌, subst}
use Rattle.om_undo.specs.Machines.{MachineView}
use Rattle.lab_play.proofs.Undone.{AreBelow, rest_below, taken_back}
use Rattle.lab_play.proofs.player.Player.rewind.Goals as goal

pub invariant_of-self-clause-stand : goal.invariant_of-self-clause-stand
invariant_of-self-clause-stand c =
    taken_back c.loop-worker.self.machine c.undo.new.self c.pop.new.self.items c.in-Some.worker c.undo.ensures.after
    (sym c.in-Some.ensures.items ∙ c.loop-worker.self.stand)

pub invariant_of-self-clause-in_range : goal.invariant_of-self-clause-in_range
invariant_of-self-clause-in_range c =
    let same : c.undo.new.self.workers ≡ c.loop-worker.self.machine.workers =
    ap (λ (m : MachineView). m.workers) c.undo.ensures.after in
    subst (λ n. AreBelow c.pop.new.self.items n) (sym same)
    (rest_below c.pop.new.self.items c.in-Some.worker _
    (subst (λ xs. AreBelow xs c.loop-worker.self.machine.workers) c.in-Some.ensures.items c.loop-worker.self.in_range))
