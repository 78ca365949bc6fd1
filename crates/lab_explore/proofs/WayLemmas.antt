-- A machine on its way: one step more, and its last step undone.
use Rattle.std.proofs.Common.{◌≡◌, refl, sym, ◌∙◌, ap, subst, ℕ, ◌+◌, ◌==◌, ◌<◌, Bool, true, false, Option, None, Some}
use Rattle.std.proofs.Common.{List, [], ◌∷◌, ◌++◌, map, eq-eqb, append-nil}
use Rattle.std.specs.Prelude.{unwrap_or}
use Rattle.std.proofs.lemmas.List.{map-append}
use Rattle.om_foot.specs.declared.footprint.Access.{Access}
use Rattle.om_state.specs.declared.step.Entry.{Entry}
use Rattle.om_state.specs.declared.step.Label.{Label}
use Rattle.om_state.specs.declared.step.Outcome.{Outcome}
use Rattle.om_state.specs.declared.step.Outcome.TheVariants as outcome
use Rattle.om_state.specs.Rules.{Rules, and_then, next_state, replay, replay_from, state_after_outcome, step_at}
use Rattle.om_state.specs.State.{State}
use Rattle.om_undo.specs.Machines.{MachineView, rules_for, state_in, step_reply, with_step, with_undo}
use Rattle.om_undo.specs.PlannedSteps.{is_made}
use Rattle.om_undo_history.specs.declared.reply.UndoReply.TheVariants.{Undone}
use Rattle.om_undo_history.specs.Runs.{History, label_of, state_of_entries, last_or_first, last_place, reply_against}
use Rattle.om_undo_history.specs.Runs.{reply_at, reply_to_undo, history_without, history_with, after_undo}
use Rattle.om_undo_history.specs.Runs.{entry_for, reply_for}
use Rattle.lab_explore_closed.specs.Closed.{replay_more, one_more, one_less}
use Rattle.lab_explore_closed.specs.Runs.{AreOf, Leads}
use Rattle.lab_explore_notes.specs.Notes.{IsOnWay}
use Rattle.lab_explore.specs.Acts.{in_order, state_by}

-- the last entry is undone

last_is : (w : ℕ) (es : List Entry) (e : Entry) → e.worker ≡ w
    → last_place w (es ++ e ∷ []) ≡ Some (record { earlier = es; entry = e; later = [] })
last_is w [] e h = ap (λ b. last_or_first None b e []) (eq-eqb e.worker w h)
last_is w (x ∷ xs) e h = ap (λ o. last_or_first o (x.worker == w) x (xs ++ e ∷ [])) (last_is w xs e h)

is_undone : (r : Rules) (es : List Entry) (e : Entry) (n : ℕ)
    → reply_to_undo r (record { entries = es ++ e ∷ []; made = n }) e.worker ≡ Undone e.serial e.line
unfolding reply_against
is_undone r es e n = ap (reply_at r) (last_is e.worker es e refl)

last_undone : (r : Rules) (es : List Entry) (e : Entry) (n : ℕ)
    → after_undo r (record { entries = es ++ e ∷ []; made = n }) e.worker ≡ record { entries = es; made = n }
last_undone r es e n =
    let h : History = record { entries = es ++ e ∷ []; made = n } in
    ap (λ o. history_without h o (reply_to_undo r h e.worker)) (last_is e.worker es e refl)
    ∙ ap (λ reply. history_without h (Some (record { earlier = es; entry = e; later = [] })) reply) (is_undone r es
    e n)
    ∙ (λ i. record { entries = append-nil es i; made = n })

pub undone : (m : MachineView) (es : List Entry) (e : Entry) (w : ℕ) → m.history.entries ≡ es ++ e ∷ []
    → e.worker ≡ w → with_undo m w ≡ record m { history = record { entries = es; made = m.history.made } }
undone m es e w h is =
    ap (λ (x : History). record m { history = x })
    ((λ i. after_undo (rules_for m) (record { entries = h i; made = m.history.made }) (sym is i))
    ∙ last_undone (rules_for m) es e m.history.made)

-- a step that can be made adds its entry, and leads on

pub record IsOneMore (m : MachineView) (l : Label) (n : MachineView) : Type 0 where
  pub entry : Entry
  pub label : label_of entry ≡ l
  pub machine : n ≡ record m {
    history = record {
      entries = m.history.entries ++ entry ∷ [];
      made = m.history.made
          + 1;
    };
  }
  pub state : State
  pub next : next_state (rules_for m) (state_in m) l ≡ Some state

one_more_by : (m : MachineView) (l : Label) (serial line : ℕ) (fp : List Access) (e : Entry) (o : Outcome)
    → is_made (reply_for serial line o) ≡ true
    → ((history_with m.history e o ≡ record { entries = m.history.entries ++ e ∷ []; made = m.history.made + 1 })
    × ((t : State) × (state_after_outcome fp o (state_in m) ≡ Some t)))
one_more_by m l serial line fp e (outcome.Updates us) h = (refl, (_, refl))
one_more_by m l serial line fp e (outcome.Blocked why) h = cc
one_more_by m l serial line fp e outcome.Ended h = cc

pub one_more_made : (m : MachineView) (l : Label) → is_made (step_reply m l) ≡ true → IsOneMore m l (with_step m l)
one_more_made m l h =
    let d = step_at (rules_for m) (state_in m) l in
    let e : Entry = entry_for m.history.made l d in
    let both = one_more_by m l (m.history.made + 1) d.line d.footprint e d.outcome h in
    record {
      entry = e;
      label = refl;
      machine = ap (λ (x : History). record m { history = x }) both.0;
      state = both.1.0;
      next = both.1.1;
    }

-- where a step can't be made it leads nowhere

none_by : (serial line : ℕ) (fp : List Access) (s : State) (o : Outcome) → is_made (reply_for serial line o) ≡ false
    → state_after_outcome fp o s ≡ None
none_by serial line fp s (outcome.Updates us) h = cc
none_by serial line fp s (outcome.Blocked why) h = refl
none_by serial line fp s outcome.Ended h = refl

pub none_made : (m : MachineView) (l : Label) → is_made (step_reply m l) ≡ false
    → next_state (rules_for m) (state_in m) l ≡ None
none_made m l h =
    let d = step_at (rules_for m) (state_in m) l in
    none_by (m.history.made + 1) d.line d.footprint (state_in m) d.outcome h

-- the run that leads there

replayed_more : (r : Rules) (es : List Entry) (e : Entry) (l : Label) (s t : State)
    → replay r (map label_of es) ≡ Some s → label_of e ≡ l → next_state r s l ≡ Some t
    → replay r (map label_of (es ++ e ∷ [])) ≡ Some t
replayed_more r es e l s t before is step =
    ap (replay r) (map-append label_of es (e ∷ [])) ∙ ap (λ m. replay r (map label_of es ++ m ∷ [])) is
    ∙ replay_more r (map label_of es) l r.start s t before step

state_is : (r : Rules) (es : List Entry) (t : State) → replay r (map label_of es) ≡ Some t → state_of_entries r es ≡ t
state_is r es t h = ap (λ o. unwrap_or o r.start) h

pub record IsFurther (r : Rules) (workers : ℕ) (es : List Entry) (t : State) : Type 0 where
  pub leads : Leads r workers (map label_of es) (state_of_entries r es)
  pub state : state_of_entries r es ≡ t

further : (r : Rules) (workers : ℕ) (es : List Entry) (t : State) → AreOf workers (map label_of es)
    → replay r (map label_of es) ≡ Some t → IsFurther r workers es t
further r workers es t own h = record {
  leads = record { own = own; replayed = h ∙ ap Some (sym (state_is r es t h)) };
  state = state_is r es t h;
}

pub leads_on : (r : Rules) (workers : ℕ) (es : List Entry) (e : Entry) (l : Label) (s t : State)
    → Leads r workers (map label_of es) s → label_of e ≡ l → l.worker < workers → next_state r s l ≡ Some t
    → IsFurther r workers (es ++ e ∷ []) t
leads_on r workers es e l s t before is own step =
    further r workers (es ++ e ∷ []) t
    (subst (λ ls. AreOf workers ls)
    (sym (map-append label_of es (e ∷ []) ∙ ap (λ m. map label_of es ++ m ∷ []) is))
    (one_more workers (map label_of es) l before.own own))
    (replayed_more r es e l s t before.replayed is step)

-- the beginning of a run is a run

replayed_less : (r : Rules) (ls : List Label) (l : Label) (s u : State) → replay_from r s (ls ++ l ∷ []) ≡ Some u
    → (t : State) × (replay_from r s ls ≡ Some t)
replayed_less r [] l s u h = (s, refl)
replayed_less r (m ∷ ms) l s u h = go (next_state r s m) (λ v g. replayed_less r ms l v u g) h
  where
    go : (o : Option State) → ((v : State) → replay_from r v (ms ++ l ∷ []) ≡ Some u
        → (t : State) × (replay_from r v ms ≡ Some t))
        → and_then o (λ v. replay_from r v (ms ++ l ∷ [])) ≡ Some u
        → (t : State) × (and_then o (λ v. replay_from r v ms) ≡ Some t)
    go None rest g = cc
    go (Some v) rest g = rest v g

pub leads_back : (r : Rules) (workers : ℕ) (es : List Entry) (e : Entry) (u : State)
    → Leads r workers (map label_of (es ++ e ∷ [])) u → Leads r workers (map label_of es) (state_of_entries r es)
leads_back r workers es e u h =
    let append : map label_of (es ++ e ∷ []) ≡ map label_of es ++ label_of e ∷ [] = map-append label_of es (e ∷ []) in
    let less = replayed_less r (map label_of es) (label_of e) r.start u
    (subst (λ ls. replay r ls ≡ Some u) append h.replayed) in
    (further r workers es less.0
    (one_less workers (map label_of es) (label_of e) (subst (λ ls. AreOf workers ls) append h.own)) less.1).leads

own_last : (workers : ℕ) (ls : List Label) (l : Label) → AreOf workers (ls ++ l ∷ []) → l.worker < workers
own_last workers [] l h = h.0
own_last workers (m ∷ ms) l h = own_last workers ms l h.1

pub last_own : (workers : ℕ) (es : List Entry) (e : Entry) → AreOf workers (map label_of (es ++ e ∷ []))
    → e.worker < workers
last_own workers es e h =
    own_last workers (map label_of es) (label_of e)
    (subst (λ ls. AreOf workers ls) (map-append label_of es (e ∷ [])) h)
