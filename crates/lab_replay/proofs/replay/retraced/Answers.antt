use Rattle.std.proofs.Common.{◌≡◌, sym, ◌∙◌, ap, subst, ℕ, suc, ◌+◌, ◌<◌, List, ◌∷◌, ◌++◌, [], take, drop, length, arith}
use Rattle.std.specs.Prelude.{map}
use Rattle.om_state.specs.declared.step.Entry.{Entry}
use Rattle.om_state.specs.Rules.{Rules, replay}
use Rattle.om_task.specs.Rules.{start_of}
use Rattle.om_undo_history.specs.Runs.{label_of}
use Rattle.om_undo_history.specs.Records.{entries_of}
use Rattle.om_undo_history.specs.Pasts.{Past}
use Rattle.om_undo.specs.Machines.{rules_for}
use Rattle.lab_graph.specs.declared.traced.Traced.{Traced}
use Rattle.lab_replay.specs.Said.{AreSaidFrom}
use Rattle.lab_replay.specs.Traces.{transition_of, IsRemade}
use Rattle.lab_replay.proofs.Remade.{remade_more}
use Rattle.lab_replay.proofs.Replays.{can_be_made, split_at, taken_more, touched_is}
use Rattle.lab_replay.proofs.replay.retraced.Goals as goal

pub loop-entry-init : goal.loop-entry-init
loop-entry-init c = record {
  held = c.new-history.ensures.held (rules_for c.args.machine.now)
      (c.steady_rules.ensures c.args.machine.now.program c.args.machine.now.workers)
      (c.shaped_rules.ensures c.args.machine.now.program c.args.machine.now.workers)
      (sym (c.in_ok-store.ensures ∙ (λ i. start_of (c.program.ensures i) (c.workers.ensures.same i))));
  labels = ap (λ (p : Past). map label_of (entries_of p.records)) c.new-history.ensures.past;
  made = ap (λ (p : Past). p.made) c.new-history.ensures.past;
  noted = ap (λ (ts : List Traced). map transition_of ts) c.new-steps.ensures.items;
  said = subst (λ (ts : List Traced). AreSaidFrom c.args.machine.now.program (rules_for c.args.machine.now)
      (rules_for c.args.machine.now).start [] ts)
      (sym c.new-steps.ensures.items) tt;
}

pub traced-requires-clause-made : goal.traced-requires-clause-made
traced-requires-clause-made c =
    let r : Rules = rules_for c.args.machine.now in
    let es : List Entry = c.args.entries.now in
    let i : ℕ = c.loop-entry.entry-index in
    let less : i < length es = omega arith in
    can_be_made c.args.machine.now.program r c.loop-entry.history (take i es) c.loop-entry.steps.items c.entry-item.result (drop (suc i) es)
    c.requires.replayed.0 c.loop-entry.invariant
    (ap (λ (l : List Entry). replay r (map label_of l)) (sym (split_at es i c.entry-item.result less c.entry-item.is))
    ∙ c.requires.replayed.1)

pub traced-requires-clause-touched : goal.traced-requires-clause-touched
traced-requires-clause-touched c =
    let es : List Entry = c.args.entries.now in
    let i : ℕ = c.loop-entry.entry-index in
    let less : i < length es = omega arith in
    touched_is c.args.machine.now c.loop-entry.history (take i es) c.loop-entry.steps.items c.entry-item.result
    (drop (suc i) es)
    (sym c.requires.entries ∙ split_at es i c.entry-item.result less c.entry-item.is) c.requires.numbered
    c.loop-entry.invariant

pub loop-entry-preserved : goal.loop-entry-preserved
loop-entry-preserved c =
    let r : Rules = rules_for c.args.machine.now in
    let es : List Entry = c.args.entries.now in
    let i : ℕ = c.loop-entry.entry-index in
    let e : Entry = c.entry-item.result in
    let t : Traced = c.in-Ok.step in
    let less : i < length es = omega arith in
    let more : IsRemade c.args.machine.now.program r c.traced.new.history (take i es ++ e ∷ []) (c.loop-entry.steps.items ++ t ∷ []) =
    remade_more c.args.machine.now.program r c.loop-entry.history c.traced.new.history (take i es) c.loop-entry.steps.items e t
    c.loop-entry.invariant c.in-Ok.ensures.noted c.in-Ok.ensures.said c.in-Ok.ensures.longer in
    let pushed : c.push.new.self.items ≡ c.loop-entry.steps.items ++ t ∷ [] = c.in_ok-push-in-Ok.ensures.items in
    subst (λ ts. IsRemade c.args.machine.now.program r c.traced.new.history (take (i + 1) es) ts) (sym pushed)
    (subst (λ l. IsRemade c.args.machine.now.program r c.traced.new.history l (c.loop-entry.steps.items ++ t ∷ []))
    (sym (taken_more es i e less c.entry-item.is)) more)
