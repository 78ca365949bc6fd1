use Rattle.std.proofs.Common.{sym, ap, ◌∙◌, arith, length, Some}
use Rattle.om_state.specs.declared.step.Choice.TheVariants.{Start}
use Rattle.om_state.specs.Ready.{first_behind, names_behind}
use Rattle.om_state.specs.NextNames.{behind_all, behind_none, behind_next}
use Rattle.om_undo.specs.ReadyNames.{ready_names}
use Rattle.om_shell_debugger.specs.Runs.{planned_for, start_among}
use Rattle.om_shell_debugger.proofs.Bounded.{no_start, can_where_planned, cannot_where_none, planned_is, start_here, start_behind}
use Rattle.om_shell_debugger.proofs.runs.first_start.Goals as goal

pub returns-then-not-is_at_scheduling_point : goal.returns-then-not-is_at_scheduling_point
returns-then-not-is_at_scheduling_point c =
    ap (planned_for c.args.machine.now c.args.worker)
    (sym (no_start c.starts_at_scheduling_points.ensures c.args.machine.now c.args.worker _
    (sym c.is_at_scheduling_point.ensures ∙ c.if-not-is_at_scheduling_point.true)))

pub names-init : goal.names-init
names-init c = ap (start_among c.args.machine.now c.args.worker) (behind_all (ready_names c.args.machine.now))

pub returns-in-Some-2 : goal.returns-in-Some-2
returns-in-Some-2 c =
    let m = c.args.machine.now in
    let names = ready_names m in
    let name = c.in-Some.name in
    let first = ap (λ o. first_behind o names) (sym c.as_ref.ensures.value) ∙ sym c.next_ready.ensures
    ∙ c.in-Some.is in
    let next = behind_next c.names.after names (c.ready_names_are_ready.ensures m).ascending name first in
    let can = can_where_planned m c.args.worker (Start name) _ _ c.in-Some-2.is c.in_ok-step.ensures in
    planned_is m c.args.worker (Start name) _ _ c.in-Some-2.is c.in_ok-step.ensures
    ∙ ap (planned_for m c.args.worker)
    (sym (start_here m c.args.worker name (names_behind (Some name) names) can)
    ∙ ap (start_among m c.args.worker) (sym next) ∙ c.names.invariant)

pub names-smaller : goal.names-smaller
names-smaller c =
    let m = c.args.machine.now in
    let first = ap (λ o. first_behind o (ready_names m)) (sym c.as_ref.ensures.value) ∙ sym c.next_ready.ensures
    ∙ c.in-Some.is in
    omega (
      arith,
      ap length (behind_next c.names.after (ready_names m) (c.ready_names_are_ready.ensures m).ascending
          c.in-Some.name first),
    )

pub names-preserved : goal.names-preserved
names-preserved c =
    let m = c.args.machine.now in
    let names = ready_names m in
    let name = c.in-Some.name in
    let first = ap (λ o. first_behind o names) (sym c.as_ref.ensures.value) ∙ sym c.next_ready.ensures
    ∙ c.in-Some.is in
    let next = behind_next c.names.after names (c.ready_names_are_ready.ensures m).ascending name first in
    let cannot = cannot_where_none m c.args.worker (Start name) _ c.in-None.is c.in_ok-step.ensures in
    sym (start_behind m c.args.worker name (names_behind (Some name) names) cannot)
    ∙ ap (start_among m c.args.worker) (sym next) ∙ c.names.invariant

pub returns : goal.returns
returns c =
    let m = c.args.machine.now in
    let names = ready_names m in
    let none = ap (λ o. first_behind o names) (sym c.as_ref.ensures.value) ∙ sym c.next_ready.ensures
    ∙ c.in_default.is in
    ap (planned_for m c.args.worker)
    (ap (start_among m c.args.worker) (sym (behind_none c.names.after names none)) ∙ c.names.invariant)
