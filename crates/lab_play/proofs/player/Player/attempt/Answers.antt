use Rattle.std.proofs.Common.{◌≡◌, sym, ap, ◌∙◌, subst, arith}
use Rattle.om_undo.specs.Machines.{MachineView}
use Rattle.lab_play.proofs.Undone.{AreBelow, noted, taken_back}
use Rattle.lab_play.proofs.player.Player.attempt.Goals as goal

pub invariant_of-self-then-is_err-clause-stand : goal.invariant_of-self-then-is_err-clause-stand
invariant_of-self-then-is_err-clause-stand c =
    let kept : c.push.new.self.items ≡ c.args.self.now.made.items = grind arith in
    kept ∙ taken_back c.step.new.self c.undo.new.self c.args.self.now.made.items c.args.label.now.worker c.undo.ensures.after
    (noted c.args.self.now.machine c.step.new.self _ c.args.self.now.made.items _ _ _ c.in_ok-reply.ensures.after
    (sym c.in_ok-reply.ensures.reply ∙ c.in-Done.is) c.args.self.now.stand)

pub invariant_of-self-then-is_err-clause-in_range : goal.invariant_of-self-then-is_err-clause-in_range
invariant_of-self-then-is_err-clause-in_range c =
    let kept : c.push.new.self.items ≡ c.args.self.now.made.items = grind arith in
    let same : c.undo.new.self.workers ≡ c.args.self.now.machine.workers =
    ap (λ (m : MachineView). m.workers) c.undo.ensures.after
    ∙ ap (λ (m : MachineView). m.workers) c.in_ok-reply.ensures.after in
    subst (λ n. AreBelow c.push.new.self.items n) (sym same)
    (subst (λ xs. AreBelow xs c.args.self.now.machine.workers) (sym kept) c.args.self.now.in_range)
