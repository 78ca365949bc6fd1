use Rattle.std.proofs.Common.{ap, ◌∙◌}
use Rattle.lab_port.specs.declared.stage.Stage.TheVariants as stages
use Rattle.lab_port.specs.Portings.{refusals_of}
use Rattle.lab_port.proofs.Wholes.{step_on}
use Rattle.lab_port.proofs.ported.port.Goals as goal

pub returns-clause-ports : goal.returns-clause-ports
returns-clause-ports c = record {
  conditions = c.in_ok-conditions.ensures;
  calls = step_on stages.Calls c.in_ok-conditions.conditions.text.items c.deref.result.now c.in_ok-calls.calls
      c.deref.ensures.value c.in_ok-calls.ensures;
  names = step_on stages.Names c.in_ok-calls.calls.text.items c.deref-2.result.now c.in_ok-names.names
      c.deref-2.ensures.value c.in_ok-names.ensures;
  arguments = step_on stages.Arguments c.in_ok-names.names.text.items c.deref-3.result.now c.in_ok-arguments.arguments
      c.deref-3.ensures.value c.in_ok-arguments.ensures;
  arrays = step_on stages.Arrays c.in_ok-arguments.arguments.text.items c.deref-4.result.now c.in_ok-arrays.arrays
      c.deref-4.ensures.value c.in_ok-arrays.ensures;
  lists = step_on stages.Lists c.in_ok-arrays.arrays.text.items c.deref-5.result.now c.in_ok-lists.lists
      c.deref-5.ensures.value c.in_ok-lists.ensures;
  sizes = step_on stages.Sizes c.in_ok-lists.lists.text.items c.deref-6.result.now c.in_ok-sizes.sizes
      c.deref-6.ensures.value c.in_ok-sizes.ensures;
  texts = step_on stages.Texts c.in_ok-sizes.sizes.text.items c.deref-7.result.now c.in_ok-texts.texts
      c.deref-7.ensures.value c.in_ok-texts.ensures;
  again = step_on stages.Texts c.in_ok-texts.texts.text.items c.deref-8.result.now c.in_ok-again.again
      c.deref-8.ensures.value c.in_ok-again.ensures;
  rules = step_on stages.Rules c.in_ok-again.again.text.items c.deref-9.result.now c.in_ok-rules.rules
      c.deref-9.ensures.value c.in_ok-rules.ensures;
  refusals = c.in_ok-refusals.ensures ∙ ap refusals_of c.deref-10.ensures.value;
}

pub returns-clause-lines : goal.returns-clause-lines
returns-clause-lines c =
    let calls = step_on stages.Calls c.in_ok-conditions.conditions.text.items c.deref.result.now c.in_ok-calls.calls
    c.deref.ensures.value c.in_ok-calls.ensures in
    let names = step_on stages.Names c.in_ok-calls.calls.text.items c.deref-2.result.now c.in_ok-names.names
    c.deref-2.ensures.value c.in_ok-names.ensures in
    let arguments = step_on stages.Arguments c.in_ok-names.names.text.items c.deref-3.result.now c.in_ok-arguments.arguments
    c.deref-3.ensures.value c.in_ok-arguments.ensures in
    let arrays = step_on stages.Arrays c.in_ok-arguments.arguments.text.items c.deref-4.result.now c.in_ok-arrays.arrays
    c.deref-4.ensures.value c.in_ok-arrays.ensures in
    let lists = step_on stages.Lists c.in_ok-arrays.arrays.text.items c.deref-5.result.now c.in_ok-lists.lists
    c.deref-5.ensures.value c.in_ok-lists.ensures in
    let sizes = step_on stages.Sizes c.in_ok-lists.lists.text.items c.deref-6.result.now c.in_ok-sizes.sizes
    c.deref-6.ensures.value c.in_ok-sizes.ensures in
    let texts = step_on stages.Texts c.in_ok-sizes.sizes.text.items c.deref-7.result.now c.in_ok-texts.texts
    c.deref-7.ensures.value c.in_ok-texts.ensures in
    let again = step_on stages.Texts c.in_ok-texts.texts.text.items c.deref-8.result.now c.in_ok-again.again
    c.deref-8.ensures.value c.in_ok-again.ensures in
    let rules = step_on stages.Rules c.in_ok-again.again.text.items c.deref-9.result.now c.in_ok-rules.rules
    c.deref-9.ensures.value c.in_ok-rules.ensures in
    rules.lines ∙ again.lines ∙ texts.lines ∙ sizes.lines ∙ lists.lines ∙ arrays.lines ∙ arguments.lines ∙ names.lines ∙ calls.lines
    ∙ c.in_ok-conditions.ensures.lines
