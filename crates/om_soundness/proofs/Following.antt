-- The steps of a worker alone, one behind the other.
use Rattle.std.proofs.Common.{◌≡◌, ℕ, zero, suc, ◌≤◌, List, [], ◌∷◌, Option, Some, None, refl, sym, ap, ◌∙◌, subst}
use Rattle.std.proofs.Common.{slice_get, option_map, arith}
use Rattle.std.specs.Prelude.{All, unwrap_or, option_and_then, replicate}
use Rattle.std.proofs.lemmas.Option.{slice_get_within, get_or_from_slice_get}
use Rattle.om_foot.specs.declared.object.Obj.TheVariants as obj
use Rattle.om_code.specs.declared.raw.Body.{Body}
use Rattle.om_code.specs.declared.raw.Line.{Line}
use Rattle.om_code.specs.declared.raw.Raw.{Raw}
use Rattle.om_code.specs.declared.raw.Slot.{Slot}
use Rattle.om_code.specs.Frames as frames
use Rattle.om_code.specs.Frames.{Frame, FrameTurn, act_at, acted, frame_turn, turn_at}
use Rattle.om_code.specs.Places.{slots_of, instruction_at}
use Rattle.om_code.specs.Validity.{IsKnown, NamesKnown}
use Rattle.om_state.specs.declared.control.Control.{Control}
use Rattle.om_state.specs.declared.control.Control.TheVariants.{Running}
use Rattle.om_state.specs.declared.control.Stack.{Stack}
use Rattle.om_state.specs.declared.value.Val.{Val}
use Rattle.om_state.specs.declared.value.Val.TheVariants as value
use Rattle.om_state.specs.Rules.{step_at, next_state, state_after_outcome, and_then, control_access, replay_from}
use Rattle.om_state.specs.State.{State, values_read}
use Rattle.om_state.specs.Values.{control_in, count_in}
use Rattle.om_task.specs.Rules.{rules_of, further_in, outcome_of, next_row}
use Rattle.om_team_serial.specs.Sites.{site}
use Rattle.om_lower_rules.specs.Running.{on_from, run, world_of}
use Rattle.om_lower_rules.specs.Worlds.{World}
use Rattle.om_soundness.specs.Alone.{Shows, Keeps, OwnsCells, next_of, stack_at}
use Rattle.om_soundness.specs.AloneLaws.{CanFinish, Leads, LeadsSoon, Follows, FramesFollow}
use Rattle.om_soundness.proofs.Turns.{Leaves, To, behind_asked}
use Rattle.om_soundness.proofs.Table.{instruction_leaves}

-- what holds of every element holds of one that is found
pub of_all : {X : Type 0} (P : X → Type 0) (xs : List X) (k : ℕ) (x : X) → All P xs → slice_get xs k ≡ Some x → P x
of_all P xs k x all h = subst P (get_or_from_slice_get xs k x x h) (all k x (slice_get_within xs k x h))

module _ (program : Raw) (workers worker : ℕ) (stack : Stack) where
  abbrev next : State → Option State
  next s = next_state (rules_of program workers) s (next_of worker)

  -- the step of a worker that runs a frame is that of the row of its instruction
  next_is : (s : State) (f : Frame)
      → s (obj.Control worker) ≡ value.Control (Running (stack_at stack f.place f.operands))
      → next s
      ≡ behind_asked program worker stack s s f
      (next_row (site program workers worker (stack_at stack f.place f.operands))
      (instruction_at program stack.top.frame.body f.place))
  unfolding step_at
  next_is s f e =
      ap (λ (v : Val). state_after_outcome
      (control_access (next_of worker) ∷ further_in program workers (next_of worker) (control_in v))
      (outcome_of program workers (next_of worker)
      (v ∷ values_read (further_in program workers (next_of worker) (control_in v)) s)) s) e

  module _ (body : Body) (found : slice_get program.bodies stack.top.frame.body ≡ Some body)
      (known : IsKnown program body) (owns : OwnsCells stack.top) where
    slots_are : slots_of program stack.top.frame.body ≡ body.slots
    slots_are = ap (λ (o : Option Body). unwrap_or (option_map (λ (b : Body). b.slots) o) []) found

    instruction_is : (at : ℕ) → instruction_at program stack.top.frame.body at ≡ option_map
        (λ (l : Line). l.instruction) (slice_get body.code at)
    instruction_is at = ap (λ (o : Option Body).
        option_map (λ (l : Line). l.instruction) (option_and_then (λ (b : Body). slice_get b.code at) o)) found

    at_line : (s : State) (f : Frame)
        → Shows program worker stack.top (Running (stack_at stack f.place f.operands)) (world_of f) s
        → (o : Option Line) → slice_get body.code f.place ≡ o
        → Leaves program worker stack s s
        (behind_asked program worker stack s s f
        (next_row (site program workers worker (stack_at stack f.place f.operands))
        (option_map (λ (l : Line). l.instruction) o)))
        (turn_at program body f o)
    at_line s f shows None e = tt
    at_line s f shows (Some line) e =
        subst (λ slots. Leaves program worker stack s s
        (behind_asked program worker stack s s f
        (next_row (site program workers worker (stack_at stack f.place f.operands)) (Some line.instruction)))
        (acted program f (act_at program slots line.instruction f.operands))) slots_are
        (instruction_leaves program workers worker stack s s f shows (λ q h. refl) owns
        (subst (All (λ (slot : Slot). 1 ≤ slot.cells)) (sym slots_are) known.cells) line.instruction
        (subst (λ slots. NamesKnown program slots line.instruction) (sym slots_are)
        (of_all (λ (l : Line). NamesKnown program body.slots l.instruction) body.code f.place line known.names e)))

    pub step_leaves : (s : State) (f : Frame)
        → Shows program worker stack.top (Running (stack_at stack f.place f.operands)) (world_of f) s
        → Leaves program worker stack s s (next s) (frame_turn program body f)
    step_leaves s f shows =
        subst (λ o. Leaves program worker stack s s o (frame_turn program body f))
        (sym (next_is s f shows.control
        ∙ ap (λ o. behind_asked program worker stack s s f
        (next_row (site program workers worker (stack_at stack f.place f.operands)) o)) (instruction_is f.place)))
        (at_line s f shows (slice_get body.code f.place) refl)

    -- ---- steps behind a step

    can_finish : (s t : State) → Keeps worker stack.top s t → CanFinish stack.top s → CanFinish stack.top t
    can_finish s t keeps can = record {
      initial = can.initial;
      none = ap count_in (keeps (obj.Pending stack.top.team.name stack.top.phase) tt)
          ∙ can.none;
    }

    lead_on : (s t : State) (n : ℕ) (control : Control) (w : World) → next s ≡ Some t → Keeps worker stack.top s t
        → Leads program workers worker stack t n control w
        → Leads program workers worker stack s (suc n) control w
    lead_on s t n control w e keeps l = (
      l.0,
      ap (λ o. and_then o (λ u. replay_from (rules_of program workers) u (replicate n (next_of worker)))) e
          ∙ l.1,
      l.2,
      λ q h. l.3 q h ∙ keeps q h,
    )

    soon_on : (s t : State) (n : ℕ) (control : Control) (w : World) → next s ≡ Some t → Keeps worker stack.top s t
        → LeadsSoon program workers worker stack t n control w
        → LeadsSoon program workers worker stack s (suc n) control w
    soon_on s t n control w e keeps l = (suc l.0, omega (arith, l.1), lead_on s t l.0 control w e keeps l.2)

    follow_on : (s t : State) (n : ℕ) → next s ≡ Some t → Keeps worker stack.top s t → (r : FrameTurn)
        → Follows program workers worker stack t n r
        → Follows program workers worker stack s (suc n) r
    follow_on s t n e keeps (frames.Onward f) h = lead_on s t n _ _ e keeps h
    follow_on s t n e keeps (frames.Faulted x f) h = soon_on s t n _ _ e keeps h
    follow_on s t n e keeps (frames.Finished v f) h = λ can. soon_on s t n _ _ e keeps (h (can_finish s t keeps can))
    follow_on s t n e keeps (frames.Returned v f) h = λ called. soon_on s t n _ _ e keeps (h called)
    follow_on s t n e keeps frames.Stuck h = tt

    soon : (s : State) (n : ℕ) (control : Control) (w : World) → To program worker stack s s (next s) control w
        → LeadsSoon program workers worker stack s (suc n) control w
    soon s n control w to = (1, omega arith, (to.0, ap (λ o. and_then o (λ u. Some u)) to.1, to.2, to.3))

    -- every state that shows a frame follows it for n instructions
    abbrev AllFollow : ℕ → Type 0
    AllFollow n =
        (s : State) (f : Frame) → Shows program worker stack.top (Running (stack_at stack f.place f.operands))
        (world_of f) s
        → Follows program workers worker stack s n (run program body n f)

    behind_turn : (n : ℕ) → AllFollow n → (s : State) (t : FrameTurn) → Leaves program worker stack s s (next s) t
        → Follows program workers worker stack s (suc n) (on_from t (run program body n))
    behind_turn n all s (frames.Onward g) to = follow_on s to.0 n to.1 to.3 (run program body n g) (all to.0 g to.2)
    behind_turn n all s (frames.Faulted x g) to = soon s n _ _ to
    behind_turn n all s (frames.Finished v g) h = λ can. soon s n _ _ (h can)
    behind_turn n all s (frames.Returned v g) h = λ called. soon s n _ _ (h called)
    behind_turn n all s frames.Stuck h = tt

    pub follow : (n : ℕ) → AllFollow n
    follow zero = λ s f shows. (s, refl, shows, λ q h. refl)
    follow (suc n) = λ s f shows. behind_turn n (follow n) s (frame_turn program body f) (step_leaves s f shows)

pub frames_follow : FramesFollow
frames_follow program body workers worker stack s f found known owns shows n =
    follow program workers worker stack body found known owns n s f shows
