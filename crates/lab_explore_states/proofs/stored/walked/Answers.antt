use Rattle.std.proofs.Common.{◌≡◌, sym, ap, subst, ◌∙◌, false, []}
use Rattle.om_state.specs.State.{State}
use Rattle.om_undo.specs.Machines.{state_in, with_step}
use Rattle.lab_explore_rows.specs.RowFacts.{row_stays}
use Rattle.lab_explore_rows.specs.Rows.{IsRow, is_in}
use Rattle.lab_explore_states.specs.Standings.{state_of}
use Rattle.lab_explore_states.specs.Touched.{is_changed, objects_of, start_at}
use Rattle.lab_explore_states.proofs.FrameLemmas.{step_keeps}
use Rattle.lab_explore_states.proofs.stored.walked.Goals as goal

pub followed-requires-clause-here : goal.followed-requires-clause-here
followed-requires-clause-here c =
    subst (λ start. IsRow c.touched_by.new.tables start c.args.here.now.row (state_of c.args.here.now))
    (sym (ap start_at c.in_ok-take.ensures.after))
    (row_stays (start_at c.args.machine.now) c.args.tables.now c.touched_by.new.tables [] c.args.here.now.row
    (state_of c.args.here.now) c.in_ok-touched.ensures.extends c.requires.here)

pub followed-requires-clause-stays : goal.followed-requires-clause-stays
followed-requires-clause-stays c = λ q not.
    let all = c.in_ok-accesses.accesses in
    let clear : is_changed all q ≡ false =
    ap (λ xs. is_changed xs q) (sym c.as_slice.ensures)
    ∙ c.in_ok-touched.ensures.covers q (ap (λ xs. is_in (objects_of xs) q) (sym c.as_slice-2.ensures.value) ∙ not) in
    ap (λ m. state_in m q) c.in_ok-take.ensures.after
    ∙ ap (λ m. state_in (with_step m c.args.step.label) q) (sym c.requires.planned)
    ∙ step_keeps c.args.step.machine c.args.step.label all q c.in_ok-accesses.ensures clear
    ∙ ap (λ m. state_in m q) c.requires.planned ∙ ap (λ (s : State). s q) (sym c.requires.stands)
