use Rattle.std.proofs.Common.{◌∙◌, ap, subst}
use Rattle.std.specs.Prelude.{IfSome}
use Rattle.om_code.specs.Places.{instruction_at, slots_of}
use Rattle.om_code.specs.Validity.{NamesKnown}
use Rattle.om_memory.specs.Plain.{plain_stack}
use Rattle.om_memory.specs.declared.control.Context.{Context}
use Rattle.om_memory.specs.declared.control.Frame.{Frame}
use Rattle.om_team.proofs.Ready.{ready_if}
use Rattle.om_team.proofs.table.instruction_of.Goals as goal

pub returns-clause-ready : goal.returns-clause-ready
returns-clause-ready c =
    let body = ap (λ (f : Frame). f.body) (c.deref-2.ensures ∙ ap (λ (k : Context). k.frame.value) c.deref.ensures) in
    let next = ap (λ (f : Frame). f.next) (c.deref-4.ensures ∙ ap (λ (k : Context). k.frame.value) c.deref-3.ensures) in
    ready_if c.args.program.now (plain_stack c.args.stack.now) c.instruction.result c.instruction.ensures.valid
    (c.instruction.ensures.same ∙ (λ i. instruction_at c.args.program.now (body i) (next i)))
    (subst (λ b. IfSome c.instruction.result (λ instr. NamesKnown c.args.program.now
    (slots_of c.args.program.now b) instr)) body c.instruction.ensures.known)
    c.requires
