-- A step that goes on from a barrier finds that each member of the team has reached it.
use Rattle.std.proofs.Common.{◌≡◌, refl, sym, ap, subst, ℕ, zero, suc, ◌+◌, ◌<◌, ◌≤◌, pos, arith, Bool, true, false}
use Rattle.std.proofs.Common.{if◌then◌else◌, Option, None, Some, List, [], ◌∷◌, ◌++◌, ⊎_elim}
use Rattle.std.specs.Prelude.{ℤ, nat_lt}
use Rattle.std.proofs.lemmas.Bool.{cases_lt, ltb-true}
use Rattle.std.proofs.lemmas.Bool.Decides.{Decides-int_eq}
use Rattle.om_foot.specs.declared.footprint.Access.{Access}
use Rattle.om_foot.specs.declared.object.Obj.TheVariants as obj
use Rattle.om_code.specs.declared.instruction.Instr.{Instr}
use Rattle.om_code.specs.declared.instruction.Instr.TheVariants as i
use Rattle.om_code.specs.declared.instruction.Team.TheVariants as teams
use Rattle.om_code.specs.declared.instruction.Barrier.{Barrier}
use Rattle.om_code.specs.declared.raw.Raw.{Raw}
use Rattle.om_code.specs.declared.raw.Slot.{Slot}
use Rattle.om_code.specs.Places.{instruction_at}
use Rattle.om_state.specs.declared.control.Context.{Context}
use Rattle.om_state.specs.declared.control.Control as controls
use Rattle.om_state.specs.declared.control.Control.TheVariants.{Idle, Running, Faulted, Ended}
use Rattle.om_state.specs.declared.control.Kind.{Kind}
use Rattle.om_state.specs.declared.control.Kind.TheVariants as kind
use Rattle.om_state.specs.declared.control.Stack.{Stack}
use Rattle.om_state.specs.declared.step.Choice.{Choice}
use Rattle.om_state.specs.declared.step.Choice.TheVariants.{Next, Start}
use Rattle.om_state.specs.declared.step.Label.{Label}
use Rattle.om_state.specs.declared.value.Val.TheVariants as value
use Rattle.om_state.specs.Rules.{control_access, next_state, state_after_outcome, step_at}
use Rattle.om_state.specs.State.{State, values_read}
use Rattle.om_state.specs.Values.{control_in, count_in, number_in}
use Rattle.om_team_serial.specs.Objects.{events, own_cells, read}
use Rattle.om_team_serial.specs.Rows.{Asked, is_zero}
use Rattle.om_team_serial.specs.Sites.{Site, next, site, slots}
use Rattle.om_team_worksharing.specs.Barriers.{arrivals, is_open}
use Rattle.om_team_worksharing.specs.Rows.{depart_row, departed, leave_row, left, left_row}
use Rattle.om_task.specs.Rules.{choice_row, departs, further_in, outcome_after, row_in, rules_of}
use Rattle.om_team_laws.specs.Waits.{FindsAllThere}

pub zero_count : (n : ℤ) → is_zero n ≡ true → n ≡ pos 0
zero_count n e = (Decides-int_eq n (pos 0)).0 e

-- ---- what an open barrier says

module _ (s : State) (team : List ℕ) (phase : ℕ) where
  -- the members from this thread number on
  record AllThere (number count : ℕ) : Type 0 where
    reached : (k : ℕ) → number ≤ k → k < number + count → phase < number_in (s (obj.Arrived team k))
    none_pending : count_in (s (obj.Pending team phase)) ≡ pos 0

  open_says : (number count : ℕ) (more : List Access)
      → is_open phase count (values_read ((arrivals team number count ++ read (obj.Pending team phase) ∷ []) ++ more) s)
      ≡ true → AllThere number count
  open_says number zero more e = record {
    reached = λ k le lt. absurd (omega (arith, le, lt));
    none_pending = zero_count (count_in (s (obj.Pending team phase))) e;
  }
  open_says number (suc count) more e =
      by (nat_lt phase (number_in (s (obj.Arrived team number)))) refl e (λ f. open_says (number + 1) count more f)
    where
      by : (b : Bool) → nat_lt phase (number_in (s (obj.Arrived team number))) ≡ b
          → (if b then is_open phase count (values_read ((arrivals team (number + 1) count
          ++ read (obj.Pending team phase) ∷ []) ++ more) s) else false) ≡ true
          → (is_open phase count (values_read ((arrivals team (number + 1) count
          ++ read (obj.Pending team phase) ∷ []) ++ more) s) ≡ true → AllThere (number + 1) count)
          → AllThere number (suc count)
      by true is e rest =
          let more_there = rest e in
          record {
            reached = λ k le lt. here is more_there k le lt;
            none_pending = more_there.none_pending;
          }
        where
          here : nat_lt phase (number_in (s (obj.Arrived team number))) ≡ true → AllThere (number + 1) count → (k : ℕ)
              → number ≤ k → k < number + suc count → phase < number_in (s (obj.Arrived team k))
          here is h k le lt = ⊎_elim
              (λ (below : k < number + 1).
              let same : number ≡ k = omega (arith, below, le) in
              subst (λ m. phase < number_in (s (obj.Arrived team m))) same
              (ltb-true phase (number_in (s (obj.Arrived team number))) is))
              (λ (behind : number + 1 ≤ k). h.reached k behind (omega (arith, lt))) (cases_lt k (number + 1))
      by false is e rest = cc

-- ---- the rows

module _ (l : Label) (stack : Stack) (s : State) where
  abbrev Makes : Asked → Type 0
  Makes a = (t : State) → state_after_outcome (control_access l ∷ a.names)
      (outcome_after (Running stack) (a.row (values_read a.names s))) s ≡ Some t → FindsAllThere s stack.top

  of_all : AllThere s stack.top.team.name stack.top.phase 0 stack.top.team.size → FindsAllThere s stack.top
  of_all h = record {
    reached = λ number lt. h.reached number (omega arith) (omega (arith, lt));
    none_pending = h.none_pending;
  }

  departed_finds : (names : List Access) (to : ℕ) (b : Barrier) (opens : Bool)
      → (opens ≡ true → FindsAllThere s stack.top) → (t : State) → state_after_outcome (control_access l ∷ names)
      (outcome_after (Running stack) (departed to b stack.top opens)) s ≡ Some t → FindsAllThere s stack.top
  departed_finds names to b true h t e = h refl
  departed_finds names to b false h t e = cc

  depart_finds : (worker to : ℕ) (b : Barrier) → Makes (depart_row worker to b stack.top)
  depart_finds worker to b t e =
      let a = depart_row worker to b stack.top in
      departed_finds a.names to b (is_open stack.top.phase stack.top.team.size (values_read a.names s))
      (λ opens. of_all (open_says s stack.top.team.name stack.top.phase 0 stack.top.team.size (events worker ∷ []) opens)) t
      e

  left_finds : (names : List Access) (below : List Context) (own : List Access) (opens : Bool)
      → (opens ≡ true → FindsAllThere s stack.top) → (t : State) → state_after_outcome (control_access l ∷ names)
      (outcome_after (Running stack) (left stack.top below own opens)) s ≡ Some t → FindsAllThere s stack.top
  left_finds names below own true h t e = h refl
  left_finds names below own false h t e = cc

  left_row_finds : (worker : ℕ) (below : List Context) (own : List Access)
      → Makes (left_row worker stack.top below own)
  left_row_finds worker below own t e =
      let a = left_row worker stack.top below own in
      left_finds a.names below own (is_open stack.top.phase stack.top.team.size (values_read a.names s))
      (λ opens. of_all (open_says s stack.top.team.name stack.top.phase 0 stack.top.team.size (own ++ events worker ∷ [])
      opens)) t e

  leave_finds : (worker : ℕ) (below : List Context) (its : List Slot) (which : Kind) (number : ℕ)
      → Makes (leave_row worker stack.top below its which number)
  leave_finds worker below its kind.Initial number t e = cc
  leave_finds worker below its kind.Explicit number t e = cc
  leave_finds worker [] its kind.Implicit zero t e = cc
  leave_finds worker [] its kind.Implicit (suc n) t e = left_row_finds worker [] (own_cells stack.top its) t e
  leave_finds worker (c ∷ below) its kind.Implicit zero t e =
      left_row_finds worker (c ∷ below) (own_cells stack.top its) t e
  leave_finds worker (c ∷ below) its kind.Implicit (suc n) t e =
      left_row_finds worker (c ∷ below) (own_cells stack.top its) t e

module _ (program : Raw) (workers : ℕ) (l : Label) (stack : Stack) (s : State) where
  abbrev here : Site
  here = site program workers l.worker stack

  row_finds : (o : Option Instr) (choice : Choice) → departs o ≡ true → choice ≡ Next
      → Makes l stack s (choice_row here o choice)
  row_finds None choice d e t is = cc
  row_finds (Some (i.Serial x)) choice d e t is = cc
  row_finds (Some (i.Function x)) choice d e t is = cc
  row_finds (Some (i.Sharing x)) choice d e t is = cc
  row_finds (Some (i.Region x)) choice d e t is = cc
  row_finds (Some (i.Task x)) choice d e t is = cc
  row_finds (Some (i.Team teams.ThreadNumber)) choice d e t is = cc
  row_finds (Some (i.Team teams.TeamSize)) choice d e t is = cc
  row_finds (Some (i.Team (teams.Fork body sized values))) choice d e t is = cc
  row_finds (Some (i.Team teams.Begin)) choice d e t is = cc
  row_finds (Some (i.Team (teams.Arrive b))) choice d e t is = cc
  row_finds (Some (i.Team (teams.Depart b))) (Start name) d e t is = cc
  row_finds (Some (i.Team teams.Leave)) (Start name) d e t is = cc
  row_finds (Some (i.Team (teams.Depart b))) Next d e t is = depart_finds l stack s l.worker (next here) b t is
  row_finds (Some (i.Team teams.Leave)) Next d e t is =
      leave_finds l stack s l.worker stack.below (slots here) stack.top.kind stack.top.team.number t is

  by_control : (c : controls.Control) → c ≡ Running stack
      → departs (instruction_at program stack.top.frame.body stack.top.frame.next) ≡ true → l.choice ≡ Next → (t : State)
      → state_after_outcome (control_access l ∷ further_in program workers l c)
      (outcome_after c (row_in program workers l c (values_read (further_in program workers l c) s))) s ≡ Some t
      → FindsAllThere s stack.top
  by_control (Running other) same d e t is =
      let its : stack ≡ other = cc same in
      row_finds (instruction_at program stack.top.frame.body stack.top.frame.next) l.choice d e t
      (subst (λ (x : Stack). state_after_outcome (control_access l ∷ further_in program workers l (Running x))
      (outcome_after (Running x) (row_in program workers l (Running x)
      (values_read (further_in program workers l (Running x)) s))) s ≡ Some t) (sym its) is)
  by_control Idle same d e t is = cc
  by_control (Faulted fault other) same d e t is = cc
  by_control (Ended result) same d e t is = cc

  pub finds_all : s (obj.Control l.worker) ≡ value.Control (Running stack) → l.choice ≡ Next
      → departs (instruction_at program stack.top.frame.body stack.top.frame.next) ≡ true → (t : State)
      → next_state (rules_of program workers) s l ≡ Some t → FindsAllThere s stack.top
  unfolding step_at
  finds_all runs choice d t is = by_control (control_in (s (obj.Control l.worker))) (ap control_in runs) d choice t is
