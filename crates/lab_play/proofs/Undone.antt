-- The workers of entries, over steps and undos.
use Rattle.std.proofs.Common.{◌≡◌, ◌<◌, ◌+◌, ℕ, zero, suc, Option, Some, List, [], ◌∷◌, ◌++◌, refl, sym, ap, ◌∙◌}
use Rattle.std.proofs.Common.{append-nil, eq-eqb, ◌==◌, None, length, get_or, arith}
use Rattle.std.proofs.lemmas.List.{map_push}
use Rattle.om_state.specs.declared.step.Entry.{Entry}
use Rattle.om_state.specs.declared.step.Label.{Label}
use Rattle.om_state.specs.declared.step.Outcome.{Outcome}
use Rattle.om_state.specs.declared.step.Outcome.TheVariants as outcome
use Rattle.om_state.specs.declared.step.Step.{Step}
use Rattle.om_state.specs.Rules.{Rules, step_at}
use Rattle.om_code.specs.declared.frame.Fault.{Fault}
use Rattle.om_undo_history.specs.declared.reply.StepReply.TheVariants as step_reply
use Rattle.om_undo_history.specs.Runs.{History, after_step, after_undo, entry_for, history_with, last_or_first, last_place}
use Rattle.om_undo_history.specs.Runs.{history_without, reply_against, reply_at, reply_for, reply_to_step}
use Rattle.om_undo_history.specs.Runs.{state_of_entries}
use Rattle.om_undo.specs.Machines.{MachineView, rules_for}
use Rattle.lab_play.specs.Entries.{workers_of}

-- entries in front of a last one of a worker
record EndsBy (es : List Entry) (ws : List ℕ) (w : ℕ) : Type 0 where
  pub front : List Entry
  pub last : Entry
  pub is : es ≡ front ++ last ∷ []
  pub workers : workers_of front ≡ ws
  pub worker : last.worker ≡ w

one_last : (e : Entry) (es : List Entry) (w : ℕ) → e.worker ∷ workers_of es ≡ w ∷ [] → EndsBy (e ∷ es) [] w
one_last e [] w h = record { front = []; last = e; is = refl; workers = refl; worker = cc }
one_last e (x ∷ xs) w h = cc

more_last : (e : Entry) (es : List Entry) (v w : ℕ) (ws : List ℕ) → e.worker ≡ v → EndsBy es ws w
    → EndsBy (e ∷ es) (v ∷ ws) w
more_last e es v w ws h p = record {
  front = e ∷ p.front;
  last = p.last;
  is = ap (λ l. e ∷ l) p.is;
  workers = (λ i. h i ∷ p.workers i);
  worker = p.worker;
}

ends_by : (es : List Entry) (ws : List ℕ) (w : ℕ) → workers_of es ≡ ws ++ w ∷ [] → EndsBy es ws w
ends_by [] [] w h = cc
ends_by [] (v ∷ vs) w h = cc
ends_by (e ∷ es) [] w h = one_last e es w h
ends_by (e ∷ es) (v ∷ vs) w h =
    let same : e.worker ≡ v = cc in
    let rest : workers_of es ≡ vs ++ w ∷ [] = cc in
    more_last e es v w vs same (ends_by es vs w rest)

last_place-push : (w : ℕ) (es : List Entry) (e : Entry) → e.worker ≡ w
    → last_place w (es ++ e ∷ []) ≡ Some (record { earlier = es; entry = e; later = [] })
last_place-push w [] e h = ap (λ b. last_or_first None b e []) (eq-eqb e.worker w h)
last_place-push w (x ∷ xs) e h = ap (λ o. last_or_first o (x.worker == w) x (xs ++ e ∷ [])) (last_place-push w xs e h)

-- an undo of the last entry's worker takes that entry out
without_last : (r : Rules) (h : History) (es : List Entry) (e : Entry) (w : ℕ) → h.entries ≡ es ++ e ∷ []
    → e.worker ≡ w → (after_undo r h w).entries ≡ es
unfolding reply_against
without_last r h es e w is own =
    let at = ap (last_place w) is ∙ last_place-push w es e own in
    ap (λ p. (history_without h p (reply_at r p)).entries) at ∙ append-nil es

pub workers_undone : (r : Rules) (h : History) (ws : List ℕ) (w : ℕ) → workers_of h.entries ≡ ws ++ w ∷ []
    → ws ≡ workers_of (after_undo r h w).entries
workers_undone r h ws w is =
    let p = ends_by h.entries ws w is in
    sym p.workers ∙ ap workers_of (sym (without_last r h p.front p.last w p.is p.worker))

workers_with : (h : History) (l : Label) (d : Step) (o : Outcome) (serial line : ℕ) (fault : Option Fault)
    → reply_for (h.made + 1) d.line o ≡ step_reply.Done serial line fault
    → workers_of (history_with h (entry_for h.made l d) o).entries ≡ workers_of h.entries ++ l.worker ∷ []
workers_with h l d (outcome.Updates us) serial line fault e =
    map_push (λ (x : Entry). x.worker) h.entries (entry_for h.made l d)
workers_with h l d (outcome.Blocked b) serial line fault e = cc
workers_with h l d outcome.Ended serial line fault e = cc

-- a step that is done adds its worker
pub workers_done : (r : Rules) (h : History) (l : Label) (serial line : ℕ) (fault : Option Fault)
    → reply_to_step r h l ≡ step_reply.Done serial line fault
    → workers_of (after_step r h l).entries ≡ workers_of h.entries ++ l.worker ∷ []
workers_done r h l serial line fault e =
    let d : Step = step_at r (state_of_entries r h.entries) l in
    workers_with h l d d.outcome serial line fault e

-- a step that is done and is noted
pub noted : (m s : MachineView) (l : Label) (ws : List ℕ) (serial line : ℕ) (fault : Option Fault)
    → s ≡ record m { history = after_step (rules_for m) m.history l }
    → reply_to_step (rules_for m) m.history l ≡ step_reply.Done serial line fault → ws ≡ workers_of m.history.entries
    → ws ++ l.worker ∷ [] ≡ workers_of s.history.entries
noted m s l ws serial line fault stepped done stand =
    ap (λ v. v ++ l.worker ∷ []) stand ∙ sym (workers_done (rules_for m) m.history l serial line fault done)
    ∙ ap (λ (x : MachineView). workers_of x.history.entries) (sym stepped)

-- an undo behind such a step
pub taken_back : (s u : MachineView) (ws : List ℕ) (w : ℕ)
    → u ≡ record s { history = after_undo (rules_for s) s.history w } → ws ++ w ∷ [] ≡ workers_of s.history.entries
    → ws ≡ workers_of u.history.entries
taken_back s u ws w undone stand =
    workers_undone (rules_for s) s.history ws w (sym stand)
    ∙ ap (λ (x : MachineView). workers_of x.history.entries) (sym undone)

-- all are below a number
abbrev pub AreBelow : List ℕ → ℕ → Type 0
AreBelow ws n = (k : ℕ) → k < length ws → get_or ws k 0 < n

pub rest_below : (ws : List ℕ) (w n : ℕ) → AreBelow (ws ++ w ∷ []) n → AreBelow ws n
rest_below [] w n all k within = absurd (omega (arith, within))
rest_below (v ∷ vs) w n all zero within = all zero (omega arith)
rest_below (v ∷ vs) w n all (suc k) within =
    rest_below vs w n (λ j below. all (suc j) (omega (arith, below))) k (omega (arith, within))
