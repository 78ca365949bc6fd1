use mir.Val.{bool_byte}
use Rattle.std.proofs.Common.{◌≡◌, ℕ, ◌+◌, Bool, true, false, ◌∙◌, ap, sym, arith}
use Rattle.om_code.specs.Frames.{int_at}
use Rattle.om_code.specs.Printing.{ints_on}
use Rattle.om_memory.specs.Memories.{state_of}
use Rattle.om_state.specs.declared.control.Context.{Context}
use Rattle.om_state.specs.declared.control.Team.{Team}
use Rattle.om_team_serial.specs.AtStates.{to_same}
use Rattle.om_team_serial.specs.SerialRows.{number_row}
use Rattle.om_team_serial.specs.Sites.{site_of, launch}
use Rattle.om_team_worksharing.specs.Rows.{arrive_row, depart_row}
use Rattle.om_team.specs.Rows.{begin_row, fork_row}
use Rattle.om_team.specs.Table.{fork_takes, team_rows}
use Rattle.om_team.proofs.table.team_answer.Goals as goal

-- the operands that FORK takes: its values, and its size where it has one
takes_are : (sized : Bool) (values n size : ℕ) → n ≡ values → size ≡ bool_byte sized → n + size ≡ fork_takes sized values
takes_are true values n size e f = λ i. e i + f i
takes_are false values n size e f = let none : size ≡ 0 = f in omega arith

pub returns-in-ThreadNumber : goal.returns-in-ThreadNumber
returns-in-ThreadNumber c =
    let number = ap (λ (t : Team). t.number) c.get.ensures.same
    ∙ ap (λ (k : Context). k.team.number) c.context-context.ensures in
    to_same c.number.result _ _ (state_of c.args.here.now.store.now)
    ((λ i. number_row (c.context-context.ensures i) (number i))
    ∙ ap (team_rows (site_of c.args.here.now)) (sym c.in-ThreadNumber.is))
    (c.number.ensures (state_of c.args.here.now.store.now))

pub returns-in-TeamSize : goal.returns-in-TeamSize
returns-in-TeamSize c =
    let size = ap (λ (t : Team). t.size) c.get-in-TeamSize.ensures.same
    ∙ ap (λ (k : Context). k.team.size) c.context-context.ensures in
    to_same c.number-in-TeamSize.result _ _ (state_of c.args.here.now.store.now)
    ((λ i. number_row (c.context-context.ensures i) (size i))
    ∙ ap (team_rows (site_of c.args.here.now)) (sym c.in-TeamSize.is))
    (c.number-in-TeamSize.ensures (state_of c.args.here.now.store.now))

pub returns-in-Fork : goal.returns-in-Fork
returns-in-Fork c =
    let takes = takes_are c.in-Fork.sized c.in-Fork.values c.from.result c.from-in-Fork.result c.from.ensures
    c.from-in-Fork.ensures in
    let begun = c.launch.ensures ∙ ap (λ n. launch (site_of c.args.here.now) n c.in-Fork.body) takes in
    let operands = ap (λ (k : Context). k.frame.operands) c.context-context.ensures in
    to_same c.fork.result _ _ (state_of c.args.here.now.store.now)
    ((λ i. fork_row c.args.here.now.worker c.args.here.now.workers (begun i) (c.body.ensures i)
    (c.context-context.ensures i) c.in-Fork.sized (int_at c.in-Fork.values (operands i))
    (ints_on c.in-Fork.values (operands i))) ∙ ap (team_rows (site_of c.args.here.now)) (sym c.in-Fork.is))
    c.fork.ensures

pub returns-in-Begin : goal.returns-in-Begin
returns-in-Begin c =
    to_same c.begin.result _ _ (state_of c.args.here.now.store.now)
    ((λ i. begin_row c.args.here.now.worker (c.next.ensures i) (c.context-context.ensures i)) ∙ ap (team_rows (site_of c.args.here.now)) (sym c.in-Begin.is))
    c.begin.ensures

pub returns-in-Arrive : goal.returns-in-Arrive
returns-in-Arrive c =
    to_same c.arrive.result _ _ (state_of c.args.here.now.store.now)
    ((λ i. arrive_row c.args.here.now.worker (c.next.ensures i) c.in-Arrive.barrier (c.context-context.ensures i)) ∙ ap (team_rows (site_of c.args.here.now)) (sym c.in-Arrive.is))
    (c.arrive.ensures (state_of c.args.here.now.store.now))

pub returns-in-Depart : goal.returns-in-Depart
returns-in-Depart c =
    to_same c.depart.result _ _ (state_of c.args.here.now.store.now)
    ((λ i. depart_row c.args.here.now.worker (c.next.ensures i) c.in-Depart.barrier (c.context-context.ensures i)) ∙ ap (team_rows (site_of c.args.here.now)) (sym c.in-Depart.is))
    c.depart.ensures
