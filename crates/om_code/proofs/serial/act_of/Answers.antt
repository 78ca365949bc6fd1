use Rattle.std.proofs.Common.{subst, sym}
use Rattle.om_code.specs.declared.instruction.Instr.TheVariants as i
use Rattle.om_code.specs.Frames.{Act, IsThere, IsRight}
use Rattle.om_code.specs.Rights.{act_right}
use Rattle.om_code.proofs.Touches.{touch_there}
use Rattle.om_code.proofs.serial.act_of.Goals as goal

pub returns-clause-there : goal.returns-clause-there
returns-clause-there c =
    subst (λ (a : Act). IsThere c.args.raw.now c.args.slots.now c.args.operands.now a.touch) (sym c.row.ensures)
    (touch_there c.args.raw.now c.args.slots.now c.args.operands.now c.args.instr c.requires)

pub returns-clause-right : goal.returns-clause-right
returns-clause-right c = λ cell.
    subst (λ (a : Act). IsRight (i.Serial c.args.instr) (a.turn cell)) (sym c.row.ensures)
    (act_right c.args.raw.now c.args.slots.now c.args.instr c.args.operands.now cell)
