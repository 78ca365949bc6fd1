use Rattle.std.proofs.Common.{◌≡◌, ◌∙◌, sym, ap, add-one, arith, length, subst, ◌<◌, ℕ, get_or, Some}
use Rattle.om_code.specs.declared.raw.GlobalVariable.{GlobalVariable}
use Rattle.om_foot.specs.declared.object.Obj.TheVariants as obj
use Rattle.om_state.specs.declared.value.Val.TheVariants as value
use Rattle.om_state.specs.State.{with_value}
use Rattle.om_task.specs.Rules.{initial_in, first_control, first_records}
use Rattle.om_task.proofs.Starting.{start_below, start-none, start-more, int}
use Rattle.om_task.proofs.start.with_globals.Goals as goal

pub loop-number-init : goal.loop-number-init
loop-number-init c =
    c.in_ok-create.ensures.state
    ∙ (λ j. with_value (obj.Events 0) (c.in_ok-initial_records.ensures j) (c.in_ok-begin_initial.ensures j))
    ∙ (λ j. with_value (obj.Events 0) (value.Events (first_records 1 0))
    (with_value (obj.Control 0) (value.Control (first_control c.args.program.now 0)) (c.new-store.ensures.state j)))
    ∙ start-none c.args.program.now

pub loop-number-preserved : goal.loop-number-preserved
loop-number-preserved c =
    let n : ℕ = c.loop-number.number in
    let d : GlobalVariable = c.global-item.result in
    let here : d ≡ get_or c.args.program.now.globals n d = c.global-item.is ∙ ap (λ gs. get_or gs n d)
    c.globals-global-items.ensures.same in
    let within : n < length c.args.program.now.globals = subst (λ gs. n < length gs)
    c.globals-global-items.ensures.same (omega arith) in
    c.in_ok-create-2.ensures.state
    ∙ (λ j. with_value (obj.Global n 0) (c.initial_value.ensures j) (c.loop-number.invariant j))
    ∙ (λ j. with_value (obj.Global n 0) (int (initial_in (Some (here j)))) (start_below c.args.program.now n))
    ∙ start-more c.args.program.now n d within
    ∙ ap (start_below c.args.program.now) (sym (add-one n))
