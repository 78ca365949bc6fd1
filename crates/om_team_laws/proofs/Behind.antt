-- What is at controls, tasks, locks and works behind a step, by the updates of its row.
use Rattle.std.proofs.Common.{◌≡◌, refl, sym, ◌∙◌, ap, subst, ℕ, zero, suc, ◌+◌, ◌≤◌, arith, Bool, true, false, cond}
use Rattle.std.proofs.Common.{List, [], ◌∷◌, ◌++◌}
use Rattle.std.specs.Prelude.{nat_eq}
use Rattle.std.proofs.lemmas.Bool.{eqb-true, eq-eqb}
use Rattle.om_foot.specs.declared.footprint.Access.{Access}
use Rattle.om_foot.specs.declared.object.Obj.{Obj}
use Rattle.om_foot.specs.declared.object.Obj.TheVariants as obj
use Rattle.om_foot.specs.Footprint.{obj_eq}
use Rattle.om_state.specs.declared.control.Context.{Context}
use Rattle.om_state.specs.declared.control.Control as controls
use Rattle.om_state.specs.declared.control.Control.TheVariants.{Running}
use Rattle.om_state.specs.declared.control.Frame.{Frame}
use Rattle.om_state.specs.declared.control.Team.{Team}
use Rattle.om_state.specs.declared.step.Label.{Label}
use Rattle.om_state.specs.declared.step.Update.{Update}
use Rattle.om_state.specs.declared.step.Update.TheVariants.{Put}
use Rattle.om_state.specs.declared.value.Val.{Val}
use Rattle.om_state.specs.declared.value.Val.TheVariants as value
use Rattle.om_state.specs.Rules.{control_access}
use Rattle.om_state.specs.State.{State, state_after, updated}
use Rattle.om_state.specs.Values.{control_in}
use Rattle.om_team_serial.specs.Objects.{write}
use Rattle.om_team.specs.Teams.{member, member_controls, workers_from}
use Rattle.om_team_laws.specs.Contexts.{contexts_at, contexts_of}
use Rattle.om_team_laws.proofs.Traced.{AreUntraced, is_traced, none_left, skipped, untouched}

-- the state in which a worker has this control
abbrev pub with_control : Label → controls.Control → State → State
with_control l c s = state_after (control_access l) (Put (value.Control c)) s

-- a row that names nothing of these besides
pub behind_quiet : (l : Label) (c : controls.Control) (s : State) (names : List Access) (us : List Update) (q : Obj)
    → AreUntraced names → is_traced q ≡ true
    → updated (control_access l ∷ names) (Put (value.Control c) ∷ us) s q ≡ with_control l c s q
behind_quiet l c s names us q h e = untouched names us (with_control l c s) q h e

-- and one that puts something at one object
pub behind_put : (l : Label) (c : controls.Control) (s : State) (a : Access) (u : Update) (names : List Access)
    (us : List Update) (q : Obj) → AreUntraced names → is_traced q ≡ true
    → updated (control_access l ∷ a ∷ names) (Put (value.Control c) ∷ u ∷ us) s q
    ≡ state_after a u (with_control l c s) q
behind_put l c s a u names us q h e = untouched names us (state_after a u (with_control l c s)) q h e

-- ---- the contexts of each worker

-- of the worker itself, and of others
pub own_or_other : (P : List Context → Type 0) (worker w : ℕ) (c : controls.Control) (old : Val)
    → (w ≡ worker → P (contexts_of c)) → P (contexts_of (control_in old))
    → P (contexts_of (control_in (cond (nat_eq worker w) (value.Control c) old)))
own_or_other P worker w c old own other = by (nat_eq worker w) refl
  where
    by : (b : Bool) → nat_eq worker w ≡ b → P (contexts_of (control_in (cond b (value.Control c) old)))
    by true e = own (sym (eqb-true worker w e))
    by false e = other

-- the same, of another worker indeed
pub own_or_else : (P : List Context → Type 0) (worker w : ℕ) (c : controls.Control) (old : Val)
    → (w ≡ worker → P (contexts_of c)) → (nat_eq worker w ≡ false → P (contexts_of (control_in old)))
    → P (contexts_of (control_in (cond (nat_eq worker w) (value.Control c) old)))
own_or_else P worker w c old own other = by (nat_eq worker w) refl
  where
    by : (b : Bool) → nat_eq worker w ≡ b → P (contexts_of (control_in (cond b (value.Control c) old)))
    by true e = own (sym (eqb-true worker w e))
    by false e = other e

-- ---- members of a team

-- what is at a control behind the controls of members: that of a member, or what was there
pub members_behind : (P : Val → Type 0) (team : Team) (frame : Frame) (number count : ℕ) (names : List Access)
    (us : List Update) (s : State) (w : ℕ) → AreUntraced names
    → P (s (obj.Control w))
    → (number ≤ w → P (value.Control (Running (record { top = member (record team { number = w }) frame; below = [] }))))
    → P (updated (workers_from number count ++ names) (member_controls team frame number count ++ us) s (obj.Control w))
members_behind P team frame number zero names us s w h old new =
    subst P (sym (untouched names us s (obj.Control w) h refl)) old
members_behind P team frame number (suc count) names us s w h old new =
    members_behind P team frame (number + 1) count names us
    (state_after (write (obj.Control number)) (Put (value.Control (Running (record {
      top = member (record team { number = number }) frame;
      below = [];
    })))) s) w h (by (nat_eq number w) refl) (λ le. new (omega (arith, le)))
  where
    by : (b : Bool) → nat_eq number w ≡ b
        → P (cond b (value.Control (Running (record {
          top = member (record team { number = number }) frame;
          below = [];
        }))) (s (obj.Control w)))
    by true e =
        let same : number ≡ w = eqb-true number w e in
        subst (λ n. P (value.Control (Running (record {
          top = member (record team { number = n }) frame;
          below = [];
        })))) (sym same) (new (omega (arith, same)))
    by false e = old

-- and at any other object what was there
pub no_member : (team : Team) (frame : Frame) (number count : ℕ) (names : List Access) (us : List Update) (s : State)
    (q : Obj) → AreUntraced names → is_traced q ≡ true → ((w : ℕ) → obj_eq (obj.Control w) q ≡ false)
    → updated (workers_from number count ++ names) (member_controls team frame number count ++ us) s q ≡ s q
no_member team frame number zero names us s q h e f = untouched names us s q h e
no_member team frame number (suc count) names us s q h e f =
    no_member team frame (number + 1) count names us
    (state_after (write (obj.Control number)) (Put (value.Control (Running (record {
      top = member (record team { number = number }) frame;
      below = [];
    })))) s) q h e f ∙ skipped (obj_eq (obj.Control number) q) _ (s q) (f number)

-- ---- the worker's own contexts

pub with_own : (l : Label) (c : controls.Control) (s : State)
    → with_control l c s (obj.Control l.worker) ≡ value.Control c
with_own l c s = ap (λ b. cond b (value.Control c) (s (obj.Control l.worker))) (eq-eqb l.worker l.worker refl)

pub own_quiet : (l : Label) (c : controls.Control) (s : State) (names : List Access) (us : List Update)
    → AreUntraced names
    → contexts_at (updated (control_access l ∷ names) (Put (value.Control c) ∷ us) s) l.worker ≡ contexts_of c
own_quiet l c s names us h =
    ap (λ v. contexts_of (control_in v))
    (behind_quiet l c s names us (obj.Control l.worker) h refl ∙ with_own l c s)

pub own_put : (l : Label) (c : controls.Control) (s : State) (a : Access) (u : Update) (names : List Access)
    (us : List Update) → AreUntraced names → obj_eq a.object (obj.Control l.worker) ≡ false
    → contexts_at (updated (control_access l ∷ a ∷ names) (Put (value.Control c) ∷ u ∷ us) s) l.worker ≡ contexts_of c
own_put l c s a u names us h e =
    ap (λ v. contexts_of (control_in v))
    (behind_put l c s a u names us (obj.Control l.worker) h refl
    ∙ skipped (obj_eq a.object (obj.Control l.worker)) _ (with_control l c s (obj.Control l.worker)) e
    ∙ with_own l c s)

pub own_fault : (l : Label) (c : controls.Control) (s : State) (names : List Access)
    → contexts_at (updated (control_access l ∷ names) (Put (value.Control c) ∷ []) s) l.worker ≡ contexts_of c
own_fault l c s names =
    ap (λ v. contexts_of (control_in v)) (none_left names (with_control l c s) (obj.Control l.worker) ∙ with_own l c s)

-- and those of another worker
pub other_put : (l : Label) (c : controls.Control) (s : State) (a : Access) (u : Update) (names : List Access)
    (us : List Update) (w : ℕ) → AreUntraced names → obj_eq a.object (obj.Control w) ≡ false
    → nat_eq l.worker w ≡ false
    → contexts_at (updated (control_access l ∷ a ∷ names) (Put (value.Control c) ∷ u ∷ us) s) w ≡ contexts_at s w
other_put l c s a u names us w h e apart =
    ap (λ v. contexts_of (control_in v))
    (behind_put l c s a u names us (obj.Control w) h refl
    ∙ skipped (obj_eq a.object (obj.Control w)) _ (with_control l c s (obj.Control w)) e
    ∙ skipped (nat_eq l.worker w) (value.Control c) (s (obj.Control w)) apart)
