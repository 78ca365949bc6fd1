-- What a step changes of what is given out.
use Rattle.std.proofs.Common.{◌≡◌, refl, sym, ◌∙◌, ap, subst, ℕ, ◌+◌, ◌-◌, ◌≤◌, ◌<◌, arith, Bool, true, false, cond}
use Rattle.std.proofs.Common.{◌&&◌, if◌then◌else◌, None, Some, List, [], ◌∷◌, ◌++◌}
use Rattle.std.specs.Prelude.{min, nat_lt}
use Rattle.std.proofs.lemmas.Bool.{ltb-true}
use Rattle.om_foot.specs.Below.{two_true}
use Rattle.om_foot.specs.declared.footprint.Access.{Access}
use Rattle.om_foot.specs.declared.object.Obj.TheVariants as obj
use Rattle.om_foot.specs.Footprint.{obj_eq}
use Rattle.om_foot.specs.Objects.{obj_eq-same, obj_eq-true}
use Rattle.om_code.specs.declared.frame.Fault.{Fault}
use Rattle.om_state.specs.declared.control.Control.TheVariants.{Running, Faulted}
use Rattle.om_state.specs.declared.control.Edit.{Edit}
use Rattle.om_state.specs.declared.control.Edit.TheVariants.{Go, BeginContext, CountBirth}
use Rattle.om_state.specs.declared.control.Frame.{Frame}
use Rattle.om_state.specs.declared.control.Stack.{Stack}
use Rattle.om_state.specs.declared.control.Team.{Team}
use Rattle.om_state.specs.declared.step.Label.{Label}
use Rattle.om_state.specs.declared.step.Update.{Update}
use Rattle.om_state.specs.declared.step.Update.TheVariants.{Put, Keep}
use Rattle.om_state.specs.declared.value.Val.TheVariants as value
use Rattle.om_state.specs.Edits.{changed}
use Rattle.om_state.specs.Rules.{control_access}
use Rattle.om_state.specs.State.{State, updated}
use Rattle.om_state.specs.Values.{number_in}
use Rattle.om_team_serial.specs.Objects.{write}
use Rattle.om_team_worksharing.specs.declared.chunk.Chunk.{Chunk}
use Rattle.om_team_worksharing.specs.Chunks.{chunk_within}
use Rattle.om_team.specs.Teams.{member, member_controls, workers_from}
use Rattle.om_team_laws.specs.Works.{given_out}
use Rattle.om_team_laws.proofs.Behind.{behind_put, behind_quiet, no_member, with_control}
use Rattle.om_team_laws.proofs.Cases.{behind}
use Rattle.om_team_laws.proofs.Traced.{AreUntraced, none_left, skipped}

-- ---- chunks

-- a chunk begins with the first iteration that is not given out, and ends behind it
pub record Rises (first : ℕ) (chunk : Chunk) : Type 0 where
  pub begins : chunk.first ≡ first
  pub ends : first < chunk.end

pub chunk_rises : (count first size : ℕ) (chunk : Chunk) → chunk_within count first size ≡ Some chunk
    → Rises first chunk
chunk_rises count first size chunk e = by (nat_lt 0 size && nat_lt first count) refl e
  where
    below_both : (a b n : ℕ) → n < a → n < b → n < min a b
    below_both a b n h g = omega (arith, h, g)

    by : (b : Bool) → (nat_lt 0 size && nat_lt first count) ≡ b
        → (if b then Some (record { first = first; end = min (first + size) count }) else None) ≡ Some chunk
        → Rises first chunk
    by true is e =
        let two = two_true (nat_lt 0 size) (nat_lt first count) is in
        let some : 0 < size = ltb-true 0 size two.0 in
        let left : first < count = ltb-true first count two.1 in
        let made : record { first = first; end = min (first + size) count } ≡ chunk = cc e in
        record {
          begins = ap (λ (c : Chunk). c.first) (sym made);
          ends = subst (λ (c : Chunk). first < c.end) made (below_both (first + size) count first (omega (arith, some)) left);
        }
    by false is e = cc

-- ---- what is given out behind a step

module _ (l : Label) (stack : Stack) (s : State) (team : List ℕ) (region : ℕ) where
  pub same_quiet : (names : List Access) (es : List Edit) (us : List Update) → AreUntraced names
      → given_out (behind l stack s names es us) team region ≡ given_out s team region
  same_quiet names es us u =
      ap number_in (behind_quiet l (changed es (Running stack)) s names us (obj.Work team region) u refl)

  -- an object that is no work
  pub same_put : (a : Access) (x : Update) (names : List Access) (es : List Edit) (us : List Update)
      → AreUntraced names → obj_eq a.object (obj.Work team region) ≡ false
      → given_out (behind l stack s (a ∷ names) es (x ∷ us)) team region ≡ given_out s team region
  same_put a x names es us u f =
      let c = changed es (Running stack) in
      ap number_in (behind_put l c s a x names us (obj.Work team region) u refl
      ∙ skipped (obj_eq a.object (obj.Work team region)) _ (with_control l c s (obj.Work team region)) f)

  pub same_fault : (names : List Access) (f : Fault)
      → given_out (updated (control_access l ∷ names) (Put (value.Control (Faulted f stack)) ∷ []) s) team region
      ≡ given_out s team region
  same_fault names f = ap number_in (none_left names (with_control l (Faulted f stack) s) (obj.Work team region))

  pub same_forked : (t : Team) (frame : Frame) (to takes : ℕ) (names : List Access) (us : List Update)
      → AreUntraced names
      → given_out (behind l stack s (workers_from 1 (t.size - 1) ++ names)
      (Go to takes None ∷ CountBirth ∷ BeginContext (member t frame) ∷ [])
      (member_controls t frame 1 (t.size - 1) ++ us)) team region ≡ given_out s team region
  same_forked t frame to takes names us u =
      let c = changed (Go to takes None ∷ CountBirth ∷ BeginContext (member t frame) ∷ []) (Running stack) in
      ap number_in (no_member t frame 1 (t.size - 1) names us (with_control l c s) (obj.Work team region) u refl
      (λ w. refl))

  -- a number is put at a work: at this one, or at another
  pub put_there : (other : List ℕ) (number n : ℕ) (names : List Access) (es : List Edit) (us : List Update)
      → AreUntraced names
      → given_out (behind l stack s (write (obj.Work other number) ∷ names) es (Put (value.Number n) ∷ us)) team region
      ≡ number_in (cond (obj_eq (obj.Work other number) (obj.Work team region)) (value.Number n)
      (s (obj.Work team region)))
  put_there other number n names es us u =
      ap number_in (behind_put l (changed es (Running stack)) s (write (obj.Work other number)) (Put (value.Number n)) names
      us (obj.Work team region) u refl)

  pub kept_there : (other : List ℕ) (number : ℕ) (names : List Access) (es : List Edit) (us : List Update)
      → AreUntraced names
      → given_out (behind l stack s (write (obj.Work other number) ∷ names) es (Keep ∷ us)) team region
      ≡ given_out s team region
  kept_there other number names es us u =
      ap number_in (behind_put l (changed es (Running stack)) s (write (obj.Work other number)) Keep names us
      (obj.Work team region) u refl ∙ same (obj_eq (obj.Work other number) (obj.Work team region)))
    where
      same : (b : Bool) → cond b (s (obj.Work team region)) (s (obj.Work team region)) ≡ s (obj.Work team region)
      same true = refl
      same false = refl

-- where more is put at a work than was there, no less is there
pub no_less : (s : State) (team other : List ℕ) (region number n : ℕ) → given_out s other number ≤ n
    → given_out s team region
    ≤ number_in (cond (obj_eq (obj.Work other number) (obj.Work team region)) (value.Number n) (s (obj.Work team region)))
no_less s team other region number n le = by (obj_eq (obj.Work other number) (obj.Work team region)) refl
  where
    by : (b : Bool) → obj_eq (obj.Work other number) (obj.Work team region) ≡ b
        → given_out s team region ≤ number_in (cond b (value.Number n) (s (obj.Work team region)))
    by true e =
        let same : obj.Work other number ≡ obj.Work team region = obj_eq-true _ _ e in
        let was : given_out s other number ≡ given_out s team region = ap (λ q. number_in (s q)) same in
        omega (arith, le, was)
    by false e = omega arith

-- what is put at a work itself is there
pub put_here : (s : State) (team : List ℕ) (region n : ℕ)
    → number_in (cond (obj_eq (obj.Work team region) (obj.Work team region)) (value.Number n) (s (obj.Work team region)))
    ≡ n
put_here s team region n =
    ap (λ b. number_in (cond b (value.Number n) (s (obj.Work team region)))) (obj_eq-same (obj.Work team region))
