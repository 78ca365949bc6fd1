-- An iteration of a loop with a static schedule is one of its member's chunks, and is begun once.
use Rattle.std.proofs.Common.{◌≡◌, refl, sym, ◌∙◌, ap, subst, ℕ, ◌+◌, ◌≤◌, ◌<◌, arith, Bool, true, false}
use Rattle.std.proofs.Common.{if◌then◌else◌, Option, Some, List, [], ◌∷◌, ◌++◌, drop, ◌⊎◌, inl, inr, ⊎_elim, append_assoc}
use Rattle.std.specs.Prelude.{nat_eq, nat_le, ◌&&◌}
use Rattle.std.proofs.lemmas.Bool.{cases_lt, eq-eqb, leb-true, le-leb}
use Rattle.om_foot.specs.Below.{both_true, two_true}
use Rattle.om_code.specs.declared.raw.Raw.{Raw}
use Rattle.om_state.specs.declared.control.Construct.TheVariants as construct
use Rattle.om_state.specs.declared.control.Context.{Context}
use Rattle.om_state.specs.declared.control.Control.TheVariants.{Idle, Running}
use Rattle.om_state.specs.declared.control.Frame.{Frame}
use Rattle.om_state.specs.declared.control.Kind.TheVariants as kind
use Rattle.om_state.specs.declared.control.Share.{Share}
use Rattle.om_state.specs.declared.control.Team.{Team}
use Rattle.om_state.specs.declared.step.Label.{Label}
use Rattle.om_state.specs.declared.value.Ready.{Ready}
use Rattle.om_state.specs.declared.value.Task.TheVariants as task
use Rattle.om_state.specs.Rules.{next_state, replay_from}
use Rattle.om_state.specs.State.{State}
use Rattle.om_state.specs.Values.{control_in}
use Rattle.om_team_worksharing.specs.Chunks.{IsChunkSize, IsPartition, LiesIn}
use Rattle.om_team.specs.Teams.{member}
use Rattle.om_task.specs.Rules.{first_context, rules_of, start_of}
use Rattle.om_task.specs.Tasks.{task_context}
use Rattle.om_team_laws.specs.Contexts.{contexts_at, contexts_of}
use Rattle.om_team_laws.specs.Statics.{AreAlike, AreOwned, BeginsOwn, HasOwnChunk, IsOf, chances, open_waits, size_in, to_meet}
use Rattle.om_team_laws.specs.Statics.{waits}
use Rattle.om_team_laws.specs.Tasks.{AreDistinct, Has, IsOrderly, task_at}
use Rattle.om_team_laws.proofs.Chunks.{lies_sized}
use Rattle.om_team_laws.proofs.Coming.{Comes, Follows, IsNext, Moves, step_moves}
use Rattle.om_team_laws.proofs.Names.{nothing_behind}
use Rattle.om_team_laws.proofs.Replays.{rest_keeps}
use Rattle.om_team_laws.proofs.TaskCases.{step_goes_on}

-- ---- what each context has

pub record IsSteady (c : Context) : Type 0 where
  -- a member's task has the name of its team, and its thread number behind it
  pub named : (c.kind ≡ kind.Explicit → ⊥) → c.task ≡ c.team.name ++ c.team.number ∷ []
  pub owned : AreOwned c.team c.kind c.constructs
  -- and an iteration may be begun once at most
  pub once : c.team.number < c.team.size → (region iteration : ℕ) → chances region iteration c ≤ 1

abbrev pub AreSteady : State → Type 0
AreSteady s = (w : ℕ) (c : Context) → Has (contexts_at s w) c → IsSteady c

at_most_one : (b : Bool) → (if b then 1 else 0) ≤ 1
at_most_one true = omega arith
at_most_one false = omega arith

new_once : (region : ℕ) → to_meet region 0 + 0 ≤ 1
new_once region = let one = at_most_one (nat_le 0 region) in omega (arith, one)

steady_member : (team : Team) (frame : Frame) → IsSteady (member team frame)
steady_member team frame = record {
  named = λ implicit. refl;
  owned = tt;
  once = λ small region iteration. new_once region;
}

steady_task : (name : List ℕ) (below : Context) (ready : Ready) → IsSteady (task_context name below ready)
steady_task name below ready = record {
  named = λ implicit. absurd (implicit refl);
  owned = tt;
  once = λ small region iteration. new_once region;
}

steady_first : (program : Raw) → IsSteady (first_context program)
steady_first program = record {
  named = λ implicit. refl;
  owned = tt;
  once = λ small region iteration. new_once region;
}

-- the number of a member in its team
small_team : (a b : Team) → b ≡ a → b.number < b.size → a.number < a.size
small_team a b e lt = subst (λ (x : Team). x.number < x.size) e lt

steady_follows : (a b : Context) → Follows a b → IsSteady a → IsSteady b
steady_follows a b f h = record {
  named = λ implicit. f.task ∙ h.named (λ e. implicit (f.kind ∙ e)) ∙ ap (λ (x : Team). x.name ++ x.number ∷ []) (sym f.team);
  owned = (f.own h.owned).0;
  once = λ small region iteration.
      let was : a.team.number < a.team.size = small_team a.team b.team f.team small in
      let less = (f.own h.owned).1 was region iteration in
      let one = h.once was region iteration in
      omega (arith, less, one);
}

module _ (s t : State) (m : Moves s t) where
  pub steady_moves : AreSteady s → AreSteady t
  steady_moves h w d a = by (m.comes w d a)
    where
      by : Comes s w d → IsSteady d
      by (inl on) = steady_follows on.old d on.follows (h w on.old on.there)
      by (inr (inl new)) = subst IsSteady new.is (steady_member new.team new.frame)
      by (inr (inr new)) = subst IsSteady new.is (steady_task new.name new.below new.ready)

first_steady : (program : Raw) (b : Bool) (c : Context)
    → Has (contexts_of (if b then Running (record { top = first_context program; below = [] }) else Idle)) c → IsSteady c
first_steady program true c (inl is) = subst IsSteady is (steady_first program)
first_steady program true c (inr a) = absurd a
first_steady program false c a = absurd a

start_steady : (program : Raw) (workers : ℕ) → AreSteady (start_of program workers)
start_steady program workers w c a = first_steady program (nat_eq w 0) c a

-- ---- a task of this name began, and none will begin again

record IsPast (s : State) (name : List ℕ) : Type 0 where
  -- no context is to make it, or what it stands below
  born : (w : ℕ) (c : Context) (number : ℕ) (rest : List ℕ) → Has (contexts_at s w) c
      → name ≡ c.task ++ number ∷ rest → number ≤ c.births
  -- and no task waits that is it, or that it stands below
  begun : (other : List ℕ) (ready : Ready) (rest : List ℕ) → task_at s other ≡ task.Ready ready
      → name ≡ other ++ rest → ⊥

at_least : (m n : ℕ) → (n < m → ⊥) → m ≤ n
at_least m n less = ⊎_elim (λ (lt : n < m). absurd (less lt)) (λ (le : m ≤ n). le) (cases_lt n m)

past_there : (s : State) (w : ℕ) (c : Context) → IsOrderly s → Has (contexts_at s w) c → IsPast s c.task
past_there s w c h a = record {
  born = λ v d number rest b e.
      at_least number d.births (λ lt. h.unborn v w d c number b a lt
      (rest, e ∙ sym (append_assoc d.task (number ∷ []) rest)));
  begun = λ other ready rest e f. h.waiting other ready w c e a (rest, f);
}

module _ (s t : State) (m : Moves s t) (name : List ℕ) (h : IsPast s name) where
  -- a name that is made next begins it not
  not_next : (other rest : List ℕ) → IsNext s other → name ≡ other ++ rest → ⊥
  not_next other rest next e =
      let le = h.born next.worker next.maker (next.maker.births + 1) rest next.there
      (e ∙ ap (λ z. z ++ rest) next.named ∙ append_assoc next.maker.task ((next.maker.births + 1) ∷ []) rest) in
      absurd (omega (arith, le))

  past_moves : IsPast t name
  past_moves = record {
    born = λ w d number rest a e. by d number rest e (m.comes w d a);
    begun = λ other ready rest e f. ⊎_elim (λ (was : task_at s other ≡ task.Ready ready). h.begun other ready rest was f)
        (λ (next : IsNext s other). not_next other rest next f) (m.waits other ready e);
  }
    where
      by : {w : ℕ} (d : Context) (number : ℕ) (rest : List ℕ) → name ≡ d.task ++ number ∷ rest → Comes s w d
          → number ≤ d.births
      by {w} d number rest e (inl on) =
          let births = on.follows.births in
          let le = h.born w on.old number rest on.there (e ∙ ap (λ z. z ++ number ∷ rest) on.follows.task) in
          omega (arith, births, le)
      by {w} d number rest e (inr (inl new)) =
          absurd (not_next new.team.name (new.team.number ∷ number ∷ rest) new.next
          (e ∙ ap (λ (z : Context). z.task ++ number ∷ rest) (sym new.is)
          ∙ append_assoc new.team.name (new.team.number ∷ []) (number ∷ rest)))
      by {w} d number rest e (inr (inr new)) =
          absurd (h.begun new.name new.ready (number ∷ rest) new.waited
          (e ∙ ap (λ (z : Context). z.task ++ number ∷ rest) (sym new.is)))

-- ---- no context of this name may begin the iteration any more

record IsOver (name : List ℕ) (region iteration : ℕ) (s : State) : Type 0 where
  steady : AreSteady s
  past : IsPast s name
  none : (w : ℕ) (c : Context) → Has (contexts_at s w) c → c.task ≡ name → c.team.number < c.team.size
      → chances region iteration c ≡ 0

none_left : (m n : ℕ) → n ≤ m → m ≡ 0 → n ≡ 0
none_left m n le e = omega (arith, le, e)

over_moves : (name : List ℕ) (region iteration : ℕ) (s t : State) → Moves s t → IsOver name region iteration s
    → IsOver name region iteration t
over_moves name region iteration s t m h = record {
  steady = steady_moves s t m h.steady;
  past = past_moves s t m name h.past;
  none = λ w d a e small. by d e small (m.comes w d a);
}
  where
    by : {w : ℕ} (d : Context) → d.task ≡ name → d.team.number < d.team.size → Comes s w d
        → chances region iteration d ≡ 0
    by {w} d e small (inl on) =
        let was = small_team on.old.team d.team on.follows.team small in
        none_left (chances region iteration on.old) (chances region iteration d)
        ((on.follows.own (h.steady w on.old on.there).owned).1 was region iteration)
        (h.none w on.old on.there (sym on.follows.task ∙ e) was)
    by {w} d e small (inr (inl new)) =
        absurd (not_next s t m name h.past new.team.name (new.team.number ∷ []) new.next
        (sym e ∙ ap (λ (z : Context). z.task) (sym new.is)))
    by {w} d e small (inr (inr new)) =
        absurd (h.past.begun new.name new.ready [] new.waited
        (sym e ∙ ap (λ (z : Context). z.task) (sym new.is) ∙ sym (nothing_behind new.name)))

-- ---- a step that begins it

module _ (s t : State) (team : List ℕ) (region iteration worker : ℕ)
    (b : BeginsOwn s t team region iteration worker) where
  its_contexts : contexts_at s worker ≡ b.stack.top ∷ b.stack.below
  its_contexts = ap (λ v. contexts_of (control_in v)) b.running

  pub top_there : Has (contexts_at s worker) b.stack.top
  top_there = subst (λ cs. Has cs b.stack.top) (sym its_contexts) (inl refl)

  waits_now : waits region iteration b.share ≡ true
  waits_now =
      ap (λ x. if x then false else (nat_eq b.share.region region && nat_le b.share.next iteration)) b.static
      ∙ both_true (nat_eq b.share.region region) (nat_le b.share.next iteration)
      (eq-eqb b.share.region region b.of_region)
      (let is = b.is_it in le-leb b.share.next iteration (omega (arith, is)))

  waits_no_more : waits region iteration (record b.share { next = b.share.next + 1 }) ≡ false
  waits_no_more = by (waits region iteration (record b.share { next = b.share.next + 1 })) refl
    where
      by : (x : Bool) → waits region iteration (record b.share { next = b.share.next + 1 }) ≡ x → x ≡ false
      by true e =
          let plain : (nat_eq b.share.region region && nat_le (b.share.next + 1) iteration) ≡ true =
          ap (λ x. if x then false else (nat_eq b.share.region region && nat_le (b.share.next + 1) iteration))
          (sym b.static) ∙ e in
          let le : b.share.next + 1 ≤ iteration =
          leb-true (b.share.next + 1) iteration
          (two_true (nat_eq b.share.region region) (nat_le (b.share.next + 1) iteration) plain).1 in
          let is = b.is_it in
          absurd (omega (arith, le, is))
      by false e = refl

  abbrev rest : ℕ
  rest = open_waits region iteration (drop 1 b.stack.top.constructs)

  open_before : open_waits region iteration b.stack.top.constructs ≡ 1 + rest
  open_before = ap (open_waits region iteration) b.innermost ∙ ap (λ x. (if x then 1 else 0) + rest) waits_now

  open_behind : open_waits region iteration b.context.constructs ≡ 0 + rest
  open_behind = ap (open_waits region iteration) b.counted ∙ ap (λ x. (if x then 1 else 0) + rest) waits_no_more

  -- it may be begun before the step
  pub has_chance : 1 ≤ chances region iteration b.stack.top
  has_chance = let before = open_before in omega (arith, before)

  no_chance : IsSteady b.stack.top → b.stack.top.team.number < b.stack.top.team.size
      → chances region iteration b.context ≡ 0
  no_chance h small =
      let one = h.once small region iteration in
      let before = open_before in
      let behind = open_behind in
      let met = ap (to_meet region) b.same_regions in
      omega (arith, one, before, behind, met)

  -- the loop is of a member, and the iteration of its chunk
  owned_share : IsSteady b.stack.top → AreOwned b.stack.top.team b.stack.top.kind
      (construct.Share b.share ∷ drop 1 b.stack.top.constructs)
  owned_share h = subst (AreOwned b.stack.top.team b.stack.top.kind) b.innermost h.owned

  pub not_explicit : IsSteady b.stack.top → b.stack.top.kind ≡ kind.Explicit → ⊥
  not_explicit h = (owned_share h).0.0

  pub is_own : IsSteady b.stack.top → b.stack.top.team.number < b.stack.top.team.size
      → (r : ℕ) × IsOf b.stack.top.team b.share r iteration
  is_own h small =
      let chunk : HasOwnChunk b.stack.top.team b.share = (owned_share h).0.1 b.static small in
      let is = b.is_it in
      chunk.own iteration (omega (arith, is)) b.in_chunk

  -- behind the step it is over for the task
  over_behind : IsOrderly s → IsOrderly t → AreSteady s → Moves s t
      → b.stack.top.team.number < b.stack.top.team.size → IsOver b.stack.top.task region iteration t
  over_behind h k steady m small = record {
    steady = steady_moves s t m steady;
    past = past_moves s t m b.stack.top.task (past_there s worker b.stack.top h top_there);
    none = λ w c a e less. by w c a e;
  }
    where
      there : Has (contexts_at t worker) b.context
      there = subst (λ cs. Has cs b.context) (sym b.same_below) (inl refl)

      apart : AreDistinct (b.context ∷ b.stack.below)
      apart = subst AreDistinct b.same_below (k.distinct worker)

      own : (c : Context) → c.task ≡ b.stack.top.task → Has (b.context ∷ b.stack.below) c
          → chances region iteration c ≡ 0
      own c e (inl is) =
          subst (λ x. chances region iteration x ≡ 0) is (no_chance (steady worker b.stack.top top_there) small)
      own c e (inr a) = absurd (apart.0 c a (e ∙ sym b.same_task))

      by : (w : ℕ) (c : Context) → Has (contexts_at t w) c → c.task ≡ b.stack.top.task
          → chances region iteration c ≡ 0
      by w c a e =
          let same : w ≡ worker = k.apart w worker c b.context a there (e ∙ sym b.same_task) in
          own c e (subst (λ cs. Has cs c) b.same_below (subst (λ n. Has (contexts_at t n) c) same a))

-- ---- runs

module _ (program : Raw) (workers : ℕ) where
  pub runs_steady : (ls : List Label) (s : State) → replay_from (rules_of program workers) (start_of program workers) ls ≡ Some s
      → AreSteady s
  runs_steady ls s e =
      rest_keeps (rules_of program workers) AreSteady
      (λ u v l h is. steady_moves u v (step_moves program workers u v l is) h) ls (start_of program workers) s
      (start_steady program workers) e

  pub own_once : (between : List Label) (l m : Label) (s t u v : State) (team : List ℕ) (region iteration : ℕ)
      → IsOrderly s → AreSteady s → next_state (rules_of program workers) s l ≡ Some t
      → (b : BeginsOwn s t team region iteration l.worker) → replay_from (rules_of program workers) t between ≡ Some u
      → (c : BeginsOwn u v team region iteration m.worker) → b.stack.top.team.number < b.stack.top.team.size
      → c.stack.top.team.number < c.stack.top.team.size → b.stack.top.team.number ≡ c.stack.top.team.number → ⊥
  own_once between l m s t u v team region iteration h steady is b e c small less same =
      let over = rest_keeps (rules_of program workers) (IsOver b.stack.top.task region iteration)
      (λ x y k g next. over_moves b.stack.top.task region iteration x y (step_moves program workers x y k next) g) between t
      u
      (over_behind s t team region iteration l.worker b h (step_goes_on program workers s t l h is).orderly steady
      (step_moves program workers s t l is) small) e in
      let first = steady l.worker b.stack.top (top_there s t team region iteration l.worker b) in
      let second = over.steady m.worker c.stack.top (top_there u v team region iteration m.worker c) in
      let one = first.named (not_explicit s t team region iteration l.worker b first) in
      let two = second.named (not_explicit u v team region iteration m.worker c second) in
      let names : c.stack.top.task ≡ b.stack.top.task =
      two ∙ ap (λ z. z ++ c.stack.top.team.number ∷ []) (c.of_team ∙ sym b.of_team)
      ∙ ap (λ n. b.stack.top.team.name ++ n ∷ []) (sym same) ∙ sym one in
      let none = over.none m.worker c.stack.top (top_there u v team region iteration m.worker c) names less in
      let some = has_chance u v team region iteration m.worker c in
      absurd (omega (arith, none, some))

  steady_later : (between : List Label) (s t u : State) (l : Label) → AreSteady s
      → next_state (rules_of program workers) s l ≡ Some t → replay_from (rules_of program workers) t between ≡ Some u
      → AreSteady u
  steady_later between s t u l h is e =
      rest_keeps (rules_of program workers) AreSteady
      (λ x y k g next. steady_moves x y (step_moves program workers x y k next) g) between t u
      (steady_moves s t (step_moves program workers s t l is) h) e

  -- members whose loops are alike have no iteration in common
  module _ (partition : (size : Option ℕ) (n t : ℕ) → IsChunkSize size → 1 ≤ t → IsPartition size n t) where
    one_member : (a d : Team) (x y : Share) (iteration r q : ℕ) → AreAlike a d x y → a.number < a.size
        → d.number < d.size → IsOf a x r iteration → IsOf d y q iteration → a.number ≡ d.number
    one_member a d x y iteration r q alike small less h g =
        let p = partition (size_in x.schedule) x.count a.size
        (lies_sized (size_in x.schedule) x.count a.size a.number r iteration h) (omega (arith, small)) in
        (p.one a.number r d.number q iteration small (subst (λ n. d.number < n) (sym alike.size) less) h
        (subst (λ z. LiesIn z x.count a.size d.number q iteration) (sym alike.schedule)
        (subst (λ n. LiesIn (size_in y.schedule) n a.size d.number q iteration) (sym alike.count)
        (subst (λ n. LiesIn (size_in y.schedule) y.count n d.number q iteration) (sym alike.size) g)))).0

    pub static_once : (between : List Label) (l m : Label) (s t u v : State) (team : List ℕ) (region iteration : ℕ)
        → IsOrderly s → AreSteady s → next_state (rules_of program workers) s l ≡ Some t
        → (b : BeginsOwn s t team region iteration l.worker) → replay_from (rules_of program workers) t between ≡ Some u
        → (c : BeginsOwn u v team region iteration m.worker)
        → (b.stack.top.team.number ≡ c.stack.top.team.number)
        ⊎ AreAlike b.stack.top.team c.stack.top.team b.share c.share → ⊥
    static_once between l m s t u v team region iteration h steady is b e c (inl same) =
        own_once between l m s t u v team region iteration h steady is b e c b.has_number c.has_number same
    static_once between l m s t u v team region iteration h steady is b e c (inr alike) =
        let first = is_own s t team region iteration l.worker b
        (steady l.worker b.stack.top (top_there s t team region iteration l.worker b)) b.has_number in
        let later = steady_later between s t u l steady is e in
        let second = is_own u v team region iteration m.worker c
        (later m.worker c.stack.top (top_there u v team region iteration m.worker c)) c.has_number in
        own_once between l m s t u v team region iteration h steady is b e c b.has_number c.has_number
        (one_member b.stack.top.team c.stack.top.team b.share c.share iteration first.0 second.0 alike b.has_number
        c.has_number first.1 second.1)
