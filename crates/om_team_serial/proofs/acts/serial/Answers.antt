use Rattle.std.proofs.Common.{◌∙◌, ap}
use Rattle.om_code.specs.Frames.{act}
use Rattle.om_code.specs.Places.{slots_of}
use Rattle.om_memory.specs.Memories.{state_of}
use Rattle.om_memory.specs.Plain.{plain_context}
use Rattle.om_memory.specs.declared.control.Frame.{Frame}
use Rattle.om_team_serial.specs.AtStates.{to_same}
use Rattle.om_team_serial.specs.SerialRows.{act_row}
use Rattle.om_team_serial.proofs.acts.serial.Goals as goal

pub returns : goal.returns
returns c =
    let body = ap (λ (f : Frame). f.body) c.deref.ensures in
    let slots = c.slots_of-slots.ensures ∙ ap (slots_of c.args.raw.now) body in
    let same = c.act_of-act.ensures.same
    ∙ (λ i. act c.args.raw.now (slots i) c.args.instr (c.operands_of.ensures i)) in
    to_same c.answer.result _ _ (state_of c.args.store.now)
    (ap (act_row c.args.raw.now (plain_context c.args.context.now)) same) c.answer.ensures
