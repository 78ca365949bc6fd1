-- A step with which no later one conflicts can be taken out.
use Rattle.std.proofs.Common.{◌≡◌, refl, sym, ◌∙◌, ap, subst, Bool, true, false, cond, Option, None, Some, List, []}
use Rattle.std.proofs.Common.{◌∷◌, ◌++◌}
use Rattle.om_foot.specs.declared.object.Obj.{Obj}
use Rattle.om_foot.specs.declared.footprint.Mode.{Mode}
use Rattle.om_foot.specs.declared.footprint.Mode.TheVariants as mode
use Rattle.om_foot.specs.declared.footprint.Access.{Access}
use Rattle.om_foot.specs.Footprint.{obj_eq}
use Rattle.om_state.specs.declared.value.Val.{Val}
use Rattle.om_state.specs.declared.step.Update.TheVariants as update
use Rattle.om_foot.specs.Apart.{AllApart-flip, all_apart}
use Rattle.om_foot.specs.Objects.{obj_eq-true}
use Rattle.om_state.specs.declared.step.Update.{Update}
use Rattle.om_state.specs.declared.step.Label.{Label}
use Rattle.om_state.specs.declared.step.Step.{Step}
use Rattle.om_state.specs.State.{State, updated, undo_record, taken_back}
use Rattle.om_state.specs.Rules.{Rules, step_at, next_state, and_then, replay_from, replay}
use Rattle.om_undo_history.specs.Laws.{IfRead, AgreeAt, steps_then, steps_from, ApartFromAll, writes, is_written, updates_of}
use Rattle.om_undo_history.specs.Laws.{TakenOut}
use Rattle.om_undo_history.proofs.Frame.{IfRead-trans, updated-agree, undo_record-agree}
use Rattle.om_undo_history.proofs.Back.{taken_back-updated, taken_back-at}
use Rattle.om_undo_history.proofs.Exchange.{Made, made, Swapped, swapped}

-- what a step keeps of what it did
abbrev pub kept_at : Step → State → List Update
kept_at d s = undo_record d.footprint (updates_of d.outcome) s

-- a state with a step from `before` taken out of it
abbrev pub without : Step → State → State → State
without d before now = taken_back d.footprint (kept_at d before) now

pub record Gone (r : Rules) (s : State) (l : Label) (s1 : State) (ls : List Label) (now : State) : Type 0 where
  pub replayed : replay_from r s ls ≡ Some (without (step_at r s l) s now)
  pub same : steps_from r s ls ≡ steps_from r s1 ls

pub then_made : (o : Option State) (f : State → Option State) (t : State) → and_then o f ≡ Some t
    → (m : State) × (o ≡ Some m) × (f m ≡ Some t)
then_made None f t h = cc
then_made (Some m) f t h = (m, refl, h)

pub gone : (ls : List Label) (r : Rules) (l : Label) (s s1 now : State) → next_state r s l ≡ Some s1
    → replay_from r s1 ls ≡ Some now → ApartFromAll (step_at r s l).footprint (steps_from r s1 ls)
    → Gone r s l s1 ls now
gone [] r l s s1 now taken rest apart =
    let was : Made r s l s1 = made r s l s1 taken in
    let d : Step = step_at r s l in
    let is_now : s1 ≡ now = cc in
    let us : updates_of d.outcome ≡ was.updates = ap updates_of was.outcome_is in
    let to_now : updated d.footprint (updates_of d.outcome) s ≡ now = ap (λ x. updated d.footprint x s) us
    ∙ was.state_is ∙ is_now in
    record {
      replayed =
          ap Some
          (sym (ap (taken_back d.footprint (kept_at d s)) (sym to_now)
          ∙ taken_back-updated d.footprint (updates_of d.outcome) s));
      same = refl;
    }
gone (m ∷ ms) r l s s1 now taken rest apart =
    let d : Step = step_at r s l in
    let next = then_made (next_state r s1 m) (λ t. replay_from r t ms) now rest in
    let s2 : State = next.0 in
    let x : Swapped r s l m s1 s2 = swapped r s s1 s2 l m taken next.1 apart.0 in
    let fb : List Access = (step_at r s1 m).footprint in
    let mid : State = updated fb x.updates s in
    let later : ApartFromAll d.footprint (steps_from r s2 ms) =
    subst (λ o. ApartFromAll d.footprint (steps_then o (λ t. steps_from r t ms))) next.1 apart.1 in
    let later_mid : ApartFromAll (step_at r mid l).footprint (steps_from r s2 ms) =
    subst (λ (e : Step). ApartFromAll e.footprint (steps_from r s2 ms)) (sym x.a_same) later in
    let ih : Gone r mid l s2 ms now = gone ms r l mid s2 now x.a_then next.2 later_mid in
    let kept : kept_at d mid ≡ kept_at d s = undo_record-agree fb d.footprint x.updates (updates_of d.outcome) s
    (AllApart-flip d.footprint fb (all_apart d.footprint fb apart.0)) in
    let end : without (step_at r mid l) mid now ≡ without d s now = ap (λ (e : Step). without e mid now) x.a_same
    ∙ ap (λ ks. taken_back d.footprint ks now) kept in
    record {
      replayed = ap (λ o. and_then o (λ t. replay_from r t ms)) x.b_first ∙ ih.replayed ∙ ap Some end;
      same = λ i. x.b_same i ∷ (ap (λ o. steps_then o (λ t. steps_from r t ms)) x.b_first ∙ ih.same
          ∙ sym (ap (λ o. steps_then o (λ t. steps_from r t ms)) next.1)) i;
    }

-- where no later step conflicts with a footprint, its objects hold what they held: those that it reads or writes
AgreeAt-same : (footprint : List Access) (s : State) → AgreeAt footprint s s
AgreeAt-same [] s = tt
AgreeAt-same (a ∷ rest) s = (IfRead-same a.mode (s a.object), AgreeAt-same rest s)
  where
    IfRead-same : (m : Mode) (x : Val) → IfRead m (x ≡ x)
    IfRead-same mode.Add x = tt
    IfRead-same mode.Read x = refl
    IfRead-same mode.Write x = refl

AgreeAt-trans : (footprint : List Access) (s t u : State) → AgreeAt footprint s t → AgreeAt footprint t u
    → AgreeAt footprint s u
AgreeAt-trans [] s t u h g = tt
AgreeAt-trans (a ∷ rest) s t u h g = (IfRead-trans a.mode _ _ _ h.0 g.0, AgreeAt-trans rest s t u h.1 g.1)

agree_later : (ls : List Label) (r : Rules) (footprint : List Access) (s now : State) → replay_from r s ls ≡ Some now
    → ApartFromAll footprint (steps_from r s ls) → AgreeAt footprint now s
agree_later [] r footprint s now h apart = let is : s ≡ now = cc in subst (λ t. AgreeAt footprint t s) is
    (AgreeAt-same footprint s)
agree_later (l ∷ ls) r footprint s now h apart =
    let next = then_made (next_state r s l) (λ t. replay_from r t ls) now h in
    let t : State = next.0 in
    let was : Made r s l t = made r s l t next.1 in
    let fb : List Access = (step_at r s l).footprint in
    let later : ApartFromAll footprint (steps_from r t ls) =
    subst (λ o. ApartFromAll footprint (steps_then o (λ x. steps_from r x ls))) next.1 apart.1 in
    let here : AgreeAt footprint t s = subst (λ x. AgreeAt footprint x s) was.state_is
    (updated-agree fb footprint was.updates s (AllApart-flip footprint fb (all_apart footprint fb apart.0))) in
    AgreeAt-trans footprint now t s (agree_later ls r footprint t now next.2 later) here

-- a write reads
written_value : (e : Bool) (m : Mode) (u : Update) (rest : Bool) (P : Type 0)
    → cond e (cond (writes m u) true rest) rest ≡ true → (e ≡ true → IfRead m P) → (rest ≡ true → P) → P
written_value false m u rest P h here other = other h
written_value true mode.Write (update.Put x) rest P h here other = here refl
written_value true mode.Write (update.Append t) rest P h here other = here refl
written_value true _ _ rest P h here other = other h

same_written : (footprint : List Access) (us : List Update) (s t : State) (q : Obj) → AgreeAt footprint s t
    → is_written footprint us q ≡ true → s q ≡ t q
same_written [] us s t q h is = cc
same_written (a ∷ rest) [] s t q h is = cc
same_written (a ∷ rest) (u ∷ us) s t q h is =
    written_value (obj_eq a.object q) a.mode u (is_written rest us q) (s q ≡ t q) is
    (λ e. subst (λ x. IfRead a.mode (s x ≡ t x)) (obj_eq-true a.object q e) h.0) (same_written rest us s t q h.1)

and_then-then : (o : Option State) (f g h : State → Option State) → ((t : State) → h t ≡ and_then (f t) g)
    → and_then o h ≡ and_then (and_then o f) g
and_then-then None f g h e = refl
and_then-then (Some t) f g h e = e t

pub replay-append : (r : Rules) (s : State) (ls ms : List Label)
    → replay_from r s (ls ++ ms) ≡ and_then (replay_from r s ls) (λ t. replay_from r t ms)
replay-append r s [] ms = refl
replay-append r s (l ∷ ls) ms = and_then-then (next_state r s l) _ _ _ (λ t. replay-append r t ls ms)

pub taken_out : (r : Rules) (earlier later : List Label) (l : Label) (before s1 now : State)
    → replay r earlier ≡ Some before → next_state r before l ≡ Some s1 → replay_from r s1 later ≡ Some now
    → ApartFromAll (step_at r before l).footprint (steps_from r s1 later)
    → TakenOut r before l s1 later now × (replay r (earlier ++ later) ≡ replay_from r before later)
taken_out r earlier later l before s1 now start taken rest apart =
    let x : Gone r before l s1 later now = gone later r l before s1 now taken rest apart in
    let d : Step = step_at r before l in
    let was : Made r before l s1 = made r before l s1 taken in
    let us : List Update = updates_of d.outcome in
    let to_s1 : s1 ≡ updated d.footprint us before =
    sym (ap (λ x. updated d.footprint x before) (ap updates_of was.outcome_is) ∙ was.state_is) in
    let there : (q : Obj) → is_written d.footprint us q ≡ true → now q ≡ updated d.footprint us before q =
    λ q is. same_written d.footprint us now s1 q (agree_later later r d.footprint s1 now rest apart) is
    ∙ ap (λ (t : State). t q) to_s1 in (
      record {
        after = without d before now;
        replayed = x.replayed;
        same_steps = x.same;
        each_object = λ q. taken_back-at d.footprint us before now q (there q);
      },
      replay-append r _ earlier later ∙ ap (λ o. and_then o (λ t. replay_from r t later)) start,
    )
