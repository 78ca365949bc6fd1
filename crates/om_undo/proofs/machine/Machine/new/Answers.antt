use Rattle.std.proofs.Common.{sym}
use Rattle.om_task.specs.Rules.{rules_of}
use Rattle.om_undo.proofs.machine.Machine.new.Goals as goal

pub invariant_of-result : goal.invariant_of-result
invariant_of-result c = record {
  at_least_one = c.requires.at_least_one;
  at_most_32 = c.requires.at_most_32;
  held = c.new.ensures.held (rules_of c.args.program c.args.workers)
      (c.steady_rules.ensures c.args.program c.args.workers)
      (c.shaped_rules.ensures c.args.program c.args.workers) (sym c.in_ok-store.ensures);
}
