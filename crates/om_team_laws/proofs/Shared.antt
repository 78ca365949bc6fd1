-- An iteration or a section is in one hand at most, and is given out and begun once.
use Rattle.std.proofs.Common.{◌≡◌, refl, sym, ◌∙◌, ap, subst, ℕ, zero, suc, ◌+◌, ◌≤◌, ◌<◌, arith, Bool, true, false}
use Rattle.std.proofs.Common.{if◌then◌else◌, Some, List, [], ◌∷◌, drop, ◌⊎◌, inl, inr, ⊎_elim}
use Rattle.std.specs.Prelude.{nat_eq, nat_le}
use Rattle.std.specs.Cmp.Lexicographic.{pointwise}
use Rattle.std.proofs.lemmas.Bool.{eq-eqb, eqb-true, leb-true}
use Rattle.om_foot.specs.Below.{same_list, two_true}
use Rattle.om_code.specs.declared.raw.Raw.{Raw}
use Rattle.om_state.specs.declared.control.Control.TheVariants.{Idle, Running}
use Rattle.om_state.specs.declared.control.Share.{Share}
use Rattle.om_state.specs.declared.control.Team.{Team}
use Rattle.om_state.specs.declared.step.Label.{Label}
use Rattle.om_state.specs.Rules.{next_state, replay_from}
use Rattle.om_state.specs.State.{State}
use Rattle.om_state.specs.Values.{control_in}
use Rattle.om_task.specs.Rules.{first_context, rules_of, start_of}
use Rattle.om_team_laws.specs.Contexts.{contexts_of, tally}
use Rattle.om_team_laws.specs.Works.{Begins, Gives, IsInHand, IsSharedOut, given_out, hands, hands_of, has_iteration}
use Rattle.om_team_laws.specs.Works.{in_hand, is_dynamic}
use Rattle.om_team_laws.proofs.Hands.{Deals, IsDealt, Less, step_deals}
use Rattle.om_team_laws.proofs.Replays.{rest_keeps}

-- ---- in one hand at most

-- what is not given out is in no hand
pub not_in_hand : (s : State) → IsSharedOut s → (team : List ℕ) (region iteration w : ℕ)
    → given_out s team region ≤ iteration → in_hand s team region iteration w ≡ 0
not_in_hand s h team region iteration w le = by (in_hand s team region iteration w) refl
  where
    by : (n : ℕ) → in_hand s team region iteration w ≡ n → in_hand s team region iteration w ≡ 0
    by zero e = e
    by (suc n) e =
        let given = h.given team region iteration w (omega (arith, e)) in
        absurd (omega (arith, given, le))

module _ (s t : State) (worker : ℕ) (h : IsSharedOut s) (d : Deals s worker t) where
  once : (team : List ℕ) (region iteration w : ℕ)
      → Less s t team region iteration ⊎ IsDealt s t team region iteration worker
      → in_hand t team region iteration w ≤ 1
  once team region iteration w (inl less) =
      let a = less w in
      let b = h.once team region iteration w in
      omega (arith, a, b)
  once team region iteration w (inr new) = by (nat_eq worker w) refl
    where
      by : (b : Bool) → nat_eq worker w ≡ b → in_hand t team region iteration w ≤ 1
      by true e =
          let same : worker ≡ w = eqb-true worker w e in
          let own = new.own in
          let none = not_in_hand s h team region iteration worker new.new in
          subst (λ n. in_hand t team region iteration n ≤ 1) same (omega (arith, own, none))
      by false e =
          let less = new.others w e in
          let none = not_in_hand s h team region iteration w new.new in
          omega (arith, less, none)

  -- only the worker that got it has it
  has_it : (team : List ℕ) (region iteration w : ℕ) → IsDealt s t team region iteration worker
      → IsInHand t team region iteration w → worker ≡ w
  has_it team region iteration w new has = by (nat_eq worker w) refl
    where
      by : (b : Bool) → nat_eq worker w ≡ b → worker ≡ w
      by true e = eqb-true worker w e
      by false e =
          let less = new.others w e in
          let none = not_in_hand s h team region iteration w new.new in
          absurd (omega (arith, less, none, has))

  one : (team : List ℕ) (region iteration v w : ℕ)
      → Less s t team region iteration ⊎ IsDealt s t team region iteration worker
      → IsInHand t team region iteration v → IsInHand t team region iteration w → v ≡ w
  one team region iteration v w (inl less) a b =
      let c = less v in
      let d = less w in
      h.one team region iteration v w (omega (arith, a, c)) (omega (arith, b, d))
  one team region iteration v w (inr new) a b =
      sym (has_it team region iteration v new a) ∙ has_it team region iteration w new b

  given : (team : List ℕ) (region iteration w : ℕ)
      → Less s t team region iteration ⊎ IsDealt s t team region iteration worker
      → IsInHand t team region iteration w → iteration < given_out t team region
  given team region iteration w (inl less) has =
      let a = less w in
      let more = d.no_less team region in
      let was = h.given team region iteration w (omega (arith, a, has)) in
      omega (arith, more, was)
  given team region iteration w (inr new) has = new.given

  pub keeps_shared : IsSharedOut t
  keeps_shared = record {
    once = λ team region iteration w. once team region iteration w (d.deals team region iteration);
    one = λ team region iteration v w. one team region iteration v w (d.deals team region iteration);
    given = λ team region iteration w. given team region iteration w (d.deals team region iteration);
  }

pub step_shared : (program : Raw) (workers : ℕ) (s t : State) (l : Label) → IsSharedOut s
    → next_state (rules_of program workers) s l ≡ Some t → IsSharedOut t
step_shared program workers s t l h is = keeps_shared s t l.worker h (step_deals program workers s t l is)

-- where a program starts no worker has any
none_yet : (program : Raw) (b : Bool) (team : List ℕ) (region iteration : ℕ)
    → tally (hands_of team region iteration)
    (contexts_of (if b then Running (record { top = first_context program; below = [] }) else Idle)) ≡ 0
none_yet program true team region iteration = by (pointwise nat_eq (first_context program).team.name team)
  where
    by : (b : Bool) → (if b then 0 else 0) + 0 ≡ zero
    by true = omega arith
    by false = omega arith
none_yet program false team region iteration = refl

pub start_shared : (program : Raw) (workers : ℕ) → IsSharedOut (start_of program workers)
start_shared program workers = record {
  once = λ team region iteration w.
      let none = none_yet program (nat_eq w 0) team region iteration in omega (arith, none);
  one = λ team region iteration v w a b.
      let none = none_yet program (nat_eq v 0) team region iteration in absurd (omega (arith, none, a));
  given = λ team region iteration w a.
      let none = none_yet program (nat_eq w 0) team region iteration in absurd (omega (arith, none, a));
}

-- ---- given out once

module _ (program : Raw) (workers : ℕ) where
  -- what is given out stays given out
  pub stays_given : (ls : List Label) (s t : State) (team : List ℕ) (region n : ℕ) → n ≤ given_out s team region
      → replay_from (rules_of program workers) s ls ≡ Some t → n ≤ given_out t team region
  stays_given ls s t team region n le e =
      rest_keeps (rules_of program workers) (λ u. n ≤ given_out u team region)
      (λ u v l h is. let more = (step_deals program workers u v l is).no_less team region in omega (arith, h, more)) ls s t
      le e

  -- a step that gives it gives out what was not
  gives_new : (s t : State) (l : Label) (team : List ℕ) (region iteration worker : ℕ)
      → next_state (rules_of program workers) s l ≡ Some t → Gives s t team region iteration worker
      → IsDealt s t team region iteration l.worker
  gives_new s t l team region iteration worker is g =
      ⊎_elim
      (λ (less : Less s t team region iteration).
      let a = less worker in
      let b = g.before in
      let c = g.after in
      absurd (omega (arith, a, b, c))) (λ (new : IsDealt s t team region iteration l.worker). new)
      ((step_deals program workers s t l is).deals team region iteration)

  pub given_once : (between : List Label) (l m : Label) (s t u v : State) (team : List ℕ)
      (region iteration worker other : ℕ)
      → next_state (rules_of program workers) s l ≡ Some t → Gives s t team region iteration worker
      → replay_from (rules_of program workers) t between ≡ Some u
      → next_state (rules_of program workers) u m ≡ Some v → Gives u v team region iteration other → ⊥
  given_once between l m s t u v team region iteration worker other is g e next again =
      let first = (gives_new s t l team region iteration worker is g).given in
      let still = stays_given between t u team region (suc iteration) (omega (arith, first)) e in
      let new = (gives_new u v m team region iteration other next again).new in
      absurd (omega (arith, still, new))

  -- ---- begun once

  -- nobody has it any more
  record IsGone (s : State) (team : List ℕ) (region iteration : ℕ) : Type 0 where
    nobody : (w : ℕ) → in_hand s team region iteration w ≡ 0
    past : iteration < given_out s team region

  stays_gone : (s t : State) (l : Label) (team : List ℕ) (region iteration : ℕ) → IsGone s team region iteration
      → next_state (rules_of program workers) s l ≡ Some t → IsGone t team region iteration
  stays_gone s t l team region iteration h is =
      let d = step_deals program workers s t l is in
      ⊎_elim
      (λ (less : Less s t team region iteration). record {
        nobody = λ w.
            let a = less w in
            let b = h.nobody w in
            omega (arith, a, b);
        past =
            let a = h.past in
            let b = d.no_less team region in
            omega (arith, a, b);
      })
      (λ (new : IsDealt s t team region iteration l.worker).
      let a = new.new in
      let b = h.past in
      absurd (omega (arith, a, b))) (d.deals team region iteration)

  -- its worker has it before the step, and not behind it
  record IsTaken (s t : State) (team : List ℕ) (region iteration worker : ℕ) : Type 0 where
    had : IsInHand s team region iteration worker
    less : in_hand t team region iteration worker + 1 ≡ in_hand s team region iteration worker

  not_counted : (share : Share) (region iteration : ℕ) → share.next ≡ iteration
      → has_iteration region iteration (record share { next = share.next + 1 }) ≡ false
  not_counted share region iteration e =
      by (has_iteration region iteration (record share { next = share.next + 1 })) refl
    where
      by : (b : Bool) → has_iteration region iteration (record share { next = share.next + 1 }) ≡ b → b ≡ false
      by true is =
          let two = two_true (is_dynamic share.schedule) _ is in
          let more = two_true (nat_eq share.region region) _ two.1 in
          let last = two_true (nat_le (share.next + 1) iteration) _ more.1 in
          let le : share.next + 1 ≤ iteration = leb-true (share.next + 1) iteration last.0 in
          absurd (omega (arith, le, e))
      by false is = refl

  begun : (s t : State) (team : List ℕ) (region iteration worker : ℕ) → Begins s t team region iteration worker
      → IsTaken s t team region iteration worker
  begun s t team region iteration worker b =
      let rest : ℕ = hands region iteration (drop 1 b.stack.top.constructs) in
      let is_team : pointwise nat_eq b.stack.top.team.name team ≡ true = (same_list b.stack.top.team.name team).1 b.of_team in
      let there : pointwise nat_eq b.context.team.name team ≡ true =
      ap (λ (x : Team). pointwise nat_eq x.name team) b.same_team ∙ is_team in
      let was : in_hand s team region iteration worker
      ≡ tally (hands_of team region iteration) (b.stack.top ∷ b.stack.below) =
      ap (λ v. tally (hands_of team region iteration) (contexts_of (control_in v))) b.running in
      let now : in_hand t team region iteration worker
      ≡ tally (hands_of team region iteration) (b.context ∷ b.stack.below) =
      ap (tally (hands_of team region iteration)) b.same_below in
      let old : hands_of team region iteration b.stack.top ≡ 1 + rest =
      ap (λ x. if x then hands region iteration b.stack.top.constructs else 0) is_team
      ∙ ap (hands region iteration) b.innermost
      ∙ ap (λ x. (if x then 1 else 0) + rest) b.in_chunk in
      let new : hands_of team region iteration b.context ≡ 0 + rest =
      ap (λ x. if x then hands region iteration b.context.constructs else 0) there
      ∙ ap (hands region iteration) b.counted
      ∙ ap (λ x. (if x then 1 else 0) + rest) (not_counted b.share region iteration b.is_it) in
      record { had = omega (arith, was, old); less = omega (arith, was, now, old, new) }

  gone : (s t : State) (l : Label) (team : List ℕ) (region iteration : ℕ) → IsSharedOut s
      → next_state (rules_of program workers) s l ≡ Some t → Begins s t team region iteration l.worker
      → IsGone t team region iteration
  gone s t l team region iteration h is b =
      let d = step_deals program workers s t l is in
      let taken = begun s t team region iteration l.worker b in
      let was = h.given team region iteration l.worker taken.had in
      ⊎_elim
      (λ (less : Less s t team region iteration). record {
        nobody = λ w. left less taken w (nat_eq l.worker w) refl;
        past = let more = d.no_less team region in omega (arith, was, more);
      })
      (λ (new : IsDealt s t team region iteration l.worker).
      let a = new.new in
      absurd (omega (arith, a, was))) (d.deals team region iteration)
    where
      left : Less s t team region iteration → IsTaken s t team region iteration l.worker → (w : ℕ) (x : Bool)
          → nat_eq l.worker w ≡ x → in_hand t team region iteration w ≡ 0
      left less taken w true e =
          let same : l.worker ≡ w = eqb-true l.worker w e in
          let a = h.once team region iteration l.worker in
          let c = taken.less in
          subst (λ n. in_hand t team region iteration n ≡ 0) same (omega (arith, a, c))
      left less taken w false e = none (in_hand s team region iteration w) refl
        where
          none : (n : ℕ) → in_hand s team region iteration w ≡ n → in_hand t team region iteration w ≡ 0
          none zero f = let a = less w in omega (arith, a, f)
          none (suc n) f =
              let same : l.worker ≡ w =
              h.one team region iteration l.worker w taken.had (omega (arith, f)) in
              let no : true ≡ false = sym (eq-eqb l.worker w same) ∙ e in
              cc

  pub begun_once : (between : List Label) (l m : Label) (s t u v : State) (team : List ℕ) (region iteration : ℕ)
      → IsSharedOut s → next_state (rules_of program workers) s l ≡ Some t
      → Begins s t team region iteration l.worker → replay_from (rules_of program workers) t between ≡ Some u
      → Begins u v team region iteration m.worker → ⊥
  begun_once between l m s t u v team region iteration h is b e again =
      let behind = rest_keeps (rules_of program workers) (λ x. IsGone x team region iteration)
      (λ x y k g next. stays_gone x y k team region iteration g next) between t u
      (gone s t l team region iteration h is b) e in
      let none = behind.nobody m.worker in
      let had = (begun u v team region iteration m.worker again).had in
      absurd (omega (arith, none, had))
