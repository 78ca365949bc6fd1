-- Names of tasks are new, and tasks go on in their order, behind each kind of step.
use Rattle.std.proofs.Common.{◌≡◌, refl, sym, ◌∙◌, ap, ℕ, ◌+◌, ◌≤◌, ◌<◌, arith, Bool, true, false}
use Rattle.std.proofs.Common.{cond, List, [], ◌∷◌, ◌++◌, ◌⊎◌, inl, inr, ⊎_elim, append_assoc}
use Rattle.std.specs.Prelude.{nat_eq}
use Rattle.std.specs.Cmp.Lexicographic.{pointwise}
use Rattle.om_foot.specs.Below.{same_list}
use Rattle.om_foot.specs.declared.object.Obj.TheVariants as obj
use Rattle.om_state.specs.declared.control.Context.{Context}
use Rattle.om_state.specs.declared.control.Kind.TheVariants as kind
use Rattle.om_state.specs.declared.value.Ready.{Ready}
use Rattle.om_state.specs.declared.value.Task as tasks
use Rattle.om_state.specs.declared.value.Task.TheVariants as task
use Rattle.om_state.specs.declared.value.Val.TheVariants as value
use Rattle.om_state.specs.State.{State}
use Rattle.om_state.specs.Values.{task_in}
use Rattle.om_team_laws.specs.Contexts.{contexts_at}
use Rattle.om_team_laws.specs.Tasks.{AreDistinct, Has, IsOrderly, StartsWith, task_at}
use Rattle.om_team_laws.proofs.Names.{not_below_itself, nothing_behind, same_starts, split_end, split_last, starts_front}
use Rattle.om_team_laws.proofs.Names.{starts_itself}

-- a context that a worker had before, and that has made no less since
pub record FromOld (s : State) (w : ℕ) (d : Context) : Type 0 where
  pub old : Context
  pub there : Has (contexts_at s w) old
  pub task : d.task ≡ old.task
  pub kind : d.kind ≡ old.kind
  pub births : old.births ≤ d.births

pub as_it_was : (s : State) (w : ℕ) (d : Context) → Has (contexts_at s w) d → FromOld s w d
as_it_was s w d h = record { old = d; there = h; task = refl; kind = refl; births = omega arith }

-- no task is both
pub absent_ready : (x : tasks.Task) (ready : Ready) → x ≡ task.Absent → x ≡ task.Ready ready → ⊥
absent_ready x ready e f = let no : task.Absent ≡ task.Ready ready = sym e ∙ f in cc

module _ (s : State) (h : IsOrderly s) where
  pub unborn_old : (v w : ℕ) (c d : Context) (number : ℕ) → FromOld s v c → FromOld s w d → c.births < number
      → StartsWith d.task (c.task ++ number ∷ []) → ⊥
  unborn_old v w c d number f g lt b =
      let more = f.births in
      h.unborn v w f.old g.old number f.there g.there (omega (arith, more, lt))
      (same_starts d.task g.old.task (c.task ++ number ∷ []) (f.old.task ++ number ∷ []) g.task
      (ap (λ n. n ++ number ∷ []) f.task) b)

  pub unmade_old : (w : ℕ) (c : Context) (number : ℕ) (name : List ℕ) → FromOld s w c → c.births < number
      → StartsWith name (c.task ++ number ∷ []) → task_at s name ≡ task.Absent
  unmade_old w c number name f lt b =
      let more = f.births in
      h.unmade w f.old number name f.there (omega (arith, more, lt))
      (same_starts name name (c.task ++ number ∷ []) (f.old.task ++ number ∷ []) refl
      (ap (λ n. n ++ number ∷ []) f.task) b)

  pub waiting_old : (name : List ℕ) (ready : Ready) (w : ℕ) (d : Context) → task_at s name ≡ task.Ready ready
      → FromOld s w d → StartsWith d.task name → ⊥
  waiting_old name ready w d e g b =
      h.waiting name ready w g.old e g.there (same_starts d.task g.old.task name name g.task refl b)

  pub apart_old : (v w : ℕ) (c d : Context) → FromOld s v c → FromOld s w d → c.task ≡ d.task → v ≡ w
  apart_old v w c d f g e = h.apart v w f.old g.old f.there g.there (sym f.task ∙ e ∙ g.task)

  pub running_old : (w : ℕ) (c : Context) → FromOld s w c → c.kind ≡ kind.Explicit
      → task_at s c.task ≡ task.Running w
  running_old w c f e = ap (task_at s) f.task ∙ h.running w f.old f.there (sym f.kind ∙ e)

  -- ---- a step that changes no task, and begins no context
  module _ (t : State) (from : (w : ℕ) (d : Context) → Has (contexts_at t w) d → FromOld s w d)
      (dist : (w : ℕ) → AreDistinct (contexts_at t w)) where
    pub old_only : ((name : List ℕ) → task_at t name ≡ task_at s name) → IsOrderly t
    old_only same = record {
      unborn = λ v w c d number a b lt x. unborn_old v w c d number (from v c a) (from w d b) lt x;
      unmade = λ w c number name a lt x. same name ∙ unmade_old w c number name (from w c a) lt x;
      waiting = λ name ready w d e b x. waiting_old name ready w d (sym (same name) ∙ e) (from w d b) x;
      childless = λ name ready number rest e. same (name ++ number ∷ rest)
          ∙ h.childless name ready number rest (sym (same name) ∙ e);
      apart = λ v w c d a b e. apart_old v w c d (from v c a) (from w d b) e;
      distinct = dist;
      running = λ w c a e. same c.task ∙ running_old w c (from w c a) e;
    }

  -- ---- a step that changes the task of one name
  module _ (t : State) (changed : List ℕ) (now : tasks.Task)
      (rel : (name : List ℕ) → task_at t name
      ≡ task_in (cond (pointwise nat_eq changed name) (value.Task now) (s (obj.Task name)))) where
    pub which : (name : List ℕ) → ((changed ≡ name) × (task_at t name ≡ now))
        ⊎ ((changed ≡ name → ⊥) × (task_at t name ≡ task_at s name))
    which name = by (pointwise nat_eq changed name) refl
      where
        by : (b : Bool) → pointwise nat_eq changed name ≡ b
            → ((changed ≡ name) × (task_at t name ≡ now)) ⊎ ((changed ≡ name → ⊥) × (task_at t name ≡ task_at s name))
        by true e = inl (
          (same_list changed name).0 e,
          rel name ∙ ap (λ b. task_in (cond b (value.Task now) (s (obj.Task name)))) e,
        )
        by false e = inr (
          λ same. (let no : true ≡ false = sym ((same_list changed name).1 same) ∙ e in cc),
          rel name ∙ ap (λ b. task_in (cond b (value.Task now) (s (obj.Task name)))) e,
        )

    -- at another name nothing changes
    other : (name : List ℕ) → (changed ≡ name → ⊥) → task_at t name ≡ task_at s name
    other name differs = ⊎_elim (λ (here : (changed ≡ name) × (task_at t name ≡ now)). absurd (differs here.0))
        (λ (there : (changed ≡ name → ⊥) × (task_at t name ≡ task_at s name)). there.1) (which name)

    -- what is ready behind the step was ready before it, where the step makes none
    was_ready : ((ready : Ready) → now ≡ task.Ready ready → ⊥) → (name : List ℕ) (ready : Ready)
        → task_at t name ≡ task.Ready ready → task_at s name ≡ task.Ready ready
    was_ready none name ready e = ⊎_elim
        (λ (here : (changed ≡ name) × (task_at t name ≡ now)). absurd (none ready (sym here.1 ∙ e)))
        (λ (there : (changed ≡ name → ⊥) × (task_at t name ≡ task_at s name)). sym there.1 ∙ e) (which name)

    -- and is another name
    not_it : ((ready : Ready) → now ≡ task.Ready ready → ⊥) → (name : List ℕ) (ready : Ready)
        → task_at t name ≡ task.Ready ready → changed ≡ name → ⊥
    not_it none name ready e same = ⊎_elim
        (λ (here : (changed ≡ name) × (task_at t name ≡ now)). none ready (sym here.1 ∙ e))
        (λ (there : (changed ≡ name → ⊥) × (task_at t name ≡ task_at s name)). there.0 same) (which name)

    -- ---- a task ends: its context is no more
    module _ (done : now ≡ task.Done) (w₀ : ℕ) (top : Context) (was : Has (contexts_at s w₀) top)
        (named : top.task ≡ changed)
        (from : (w : ℕ) (d : Context) → Has (contexts_at t w) d → FromOld s w d)
        (dist : (w : ℕ) → AreDistinct (contexts_at t w))
        (gone : (w : ℕ) (d : Context) → Has (contexts_at t w) d → d.task ≡ top.task → ⊥) where
      no_ready : (ready : Ready) → now ≡ task.Ready ready → ⊥
      no_ready ready e = let no : task.Done ≡ task.Ready ready = sym done ∙ e in cc

      pub ends : IsOrderly t
      ends = record {
        unborn = λ v w c d number a b lt x. unborn_old v w c d number (from v c a) (from w d b) lt x;
        unmade = λ w c number name a lt x.
            other name (λ same. unborn_old w w₀ c top number (from w c a) (as_it_was s w₀ top was) lt
            (same_starts name top.task (c.task ++ number ∷ []) (c.task ++ number ∷ []) (sym same ∙ sym named) refl x))
            ∙ unmade_old w c number name (from w c a) lt x;
        waiting = λ name ready w d e b x. waiting_old name ready w d (was_ready no_ready name ready e) (from w d b) x;
        childless = λ name ready number rest e.
            let before = was_ready no_ready name ready e in
            other (name ++ number ∷ rest) (λ same. h.waiting name ready w₀ top before was
            (number ∷ rest, named ∙ same))
            ∙ h.childless name ready number rest before;
        apart = λ v w c d a b e. apart_old v w c d (from v c a) (from w d b) e;
        distinct = dist;
        running = λ w c a e. other c.task (λ same. gone w c a (sym same ∙ sym named))
            ∙ running_old w c (from w c a) e;
      }

    -- ---- a task begins: it has a context now
    pub record IsTheNew (worker w : ℕ) (d : Context) : Type 0 where
      pub here : w ≡ worker
      pub named : d.task ≡ changed
      pub fresh : d.births ≡ 0

    module _ (worker : ℕ) (ready₀ : Ready) (is_running : now ≡ task.Running worker)
        (was : task_at s changed ≡ task.Ready ready₀)
        (from : (w : ℕ) (d : Context) → Has (contexts_at t w) d → FromOld s w d ⊎ IsTheNew worker w d)
        (dist : (w : ℕ) → AreDistinct (contexts_at t w)) where
      none_ready : (ready : Ready) → now ≡ task.Ready ready → ⊥
      none_ready ready e = let no : task.Running worker ≡ task.Ready ready = sym is_running ∙ e in cc

      -- nothing that is there begins with its name
      not_under : (w : ℕ) (d : Context) → FromOld s w d → StartsWith d.task changed → ⊥
      not_under w d f b = waiting_old changed ready₀ w d was f b

      unborn_begun : (v w : ℕ) (c d : Context) (number : ℕ) → FromOld s v c ⊎ IsTheNew worker v c
          → FromOld s w d ⊎ IsTheNew worker w d → c.births < number → StartsWith d.task (c.task ++ number ∷ []) → ⊥
      unborn_begun v w c d number (inl f) (inl g) lt x = unborn_old v w c d number f g lt x
      unborn_begun v w c d number (inl f) (inr n) lt x =
          absent_ready (task_at s changed) ready₀ (unmade_old v c number changed f lt
          (same_starts d.task changed (c.task ++ number ∷ []) (c.task ++ number ∷ []) n.named refl x)) was
      unborn_begun v w c d number (inr n) (inl g) lt x =
          not_under w d g (starts_front d.task changed (number ∷ [])
          (same_starts d.task d.task (c.task ++ number ∷ []) (changed ++ number ∷ []) refl
          (ap (λ z. z ++ number ∷ []) n.named) x))
      unborn_begun v w c d number (inr n) (inr m) lt x =
          not_below_itself changed x.0 number (sym m.named ∙ x.1
          ∙ ap (λ z. (z ++ number ∷ []) ++ x.0) n.named ∙ append_assoc changed (number ∷ []) x.0)

      unmade_begun : (w : ℕ) (c : Context) (number : ℕ) (name : List ℕ) → FromOld s w c ⊎ IsTheNew worker w c
          → c.births < number → StartsWith name (c.task ++ number ∷ []) → task_at t name ≡ task.Absent
      unmade_begun w c number name (inl f) lt x =
          other name (λ same. absent_ready (task_at s changed) ready₀ (unmade_old w c number changed f lt
          (same_starts name changed (c.task ++ number ∷ []) (c.task ++ number ∷ []) (sym same) refl x)) was)
          ∙ unmade_old w c number name f lt x
      unmade_begun w c number name (inr n) lt x =
          let below : name ≡ changed ++ number ∷ x.0 =
          x.1 ∙ ap (λ z. (z ++ number ∷ []) ++ x.0) n.named ∙ append_assoc changed (number ∷ []) x.0 in
          other name (λ same. not_below_itself changed x.0 number (same ∙ below))
          ∙ ap (task_at s) below ∙ h.childless changed ready₀ number x.0 was

      waiting_begun : (name : List ℕ) (ready : Ready) (w : ℕ) (d : Context) → task_at t name ≡ task.Ready ready
          → FromOld s w d ⊎ IsTheNew worker w d → StartsWith d.task name → ⊥
      waiting_begun name ready w d e (inl g) x = waiting_old name ready w d (was_ready none_ready name ready e) g x
      waiting_begun name ready w d e (inr n) x = by x.0 (sym n.named ∙ x.1)
        where
          by : (rest : List ℕ) → changed ≡ name ++ rest → ⊥
          by [] f = not_it none_ready name ready e (f ∙ nothing_behind name)
          by (r ∷ rest) f = absent_ready (task_at s changed) ready₀
              (ap (task_at s) f ∙ h.childless name ready r rest (was_ready none_ready name ready e)) was

      apart_begun : (v w : ℕ) (c d : Context) → FromOld s v c ⊎ IsTheNew worker v c
          → FromOld s w d ⊎ IsTheNew worker w d → c.task ≡ d.task → v ≡ w
      apart_begun v w c d (inl f) (inl g) e = apart_old v w c d f g e
      apart_begun v w c d (inl f) (inr n) e =
          absurd (not_under v c f (same_starts changed c.task changed changed (sym (e ∙ n.named)) refl
          (starts_itself changed)))
      apart_begun v w c d (inr n) (inl g) e =
          absurd (not_under w d g (same_starts changed d.task changed changed (sym n.named ∙ e) refl
          (starts_itself changed)))
      apart_begun v w c d (inr n) (inr m) e = n.here ∙ sym m.here

      running_begun : (w : ℕ) (c : Context) → FromOld s w c ⊎ IsTheNew worker w c → c.kind ≡ kind.Explicit
          → task_at t c.task ≡ task.Running w
      running_begun w c (inl f) e =
          other c.task (λ same. not_under w c f (same_starts changed c.task changed changed same refl
          (starts_itself changed))) ∙ running_old w c f e
      running_begun w c (inr n) e = ⊎_elim
          (λ (it : (changed ≡ c.task) × (task_at t c.task ≡ now)). it.1 ∙ is_running
          ∙ ap (λ m. task.Running m) (sym n.here))
          (λ (it : (changed ≡ c.task → ⊥) × (task_at t c.task ≡ task_at s c.task)). absurd (it.0 (sym n.named)))
          (which c.task)

      pub begins : IsOrderly t
      begins = record {
        unborn = λ v w c d number a b lt x. unborn_begun v w c d number (from v c a) (from w d b) lt x;
        unmade = λ w c number name a lt x. unmade_begun w c number name (from w c a) lt x;
        waiting = λ name ready w d e b x. waiting_begun name ready w d e (from w d b) x;
        childless = λ name ready number rest e.
            let before = was_ready none_ready name ready e in
            other (name ++ number ∷ rest) (λ same. absent_ready (task_at s changed) ready₀
            (ap (task_at s) same ∙ h.childless name ready number rest before) was)
            ∙ h.childless name ready number rest before;
        apart = λ v w c d a b e. apart_begun v w c d (from v c a) (from w d b) e;
        distinct = dist;
        running = λ w c a e. running_begun w c (from w c a) e;
      }

    -- ---- a task is made, under the next name of a context
    module _ (w₀ : ℕ) (top : Context) (ready₀ : Ready) (made : now ≡ task.Ready ready₀)
        (was : Has (contexts_at s w₀) top) (named : changed ≡ top.task ++ (top.births + 1) ∷ [])
        (from : (w : ℕ) (d : Context) → Has (contexts_at t w) d → FromOld s w d)
        (dist : (w : ℕ) → AreDistinct (contexts_at t w))
        (counted : (w : ℕ) (d : Context) → Has (contexts_at t w) d → d.task ≡ top.task
        → d.births ≡ top.births + 1) where
      -- nothing that is there begins with the new name
      not_new : (w : ℕ) (d : Context) → FromOld s w d → StartsWith d.task changed → ⊥
      not_new w d f b = unborn_old w₀ w top d (top.births + 1) (as_it_was s w₀ top was) f (omega arith)
          (same_starts d.task d.task changed (top.task ++ (top.births + 1) ∷ []) refl named b)

      absent_new : (name : List ℕ) → StartsWith name changed → task_at s name ≡ task.Absent
      absent_new name b = unmade_old w₀ top (top.births + 1) name (as_it_was s w₀ top was) (omega arith)
          (same_starts name name changed (top.task ++ (top.births + 1) ∷ []) refl named b)

      -- it is no name that is still to come
      not_to_come : (w : ℕ) (c : Context) (number : ℕ) → Has (contexts_at t w) c → c.births < number
          → StartsWith changed (c.task ++ number ∷ []) → ⊥
      not_to_come w c number a lt x =
          by (split_last top.task c.task (top.births + 1) number x.0
          (sym named ∙ x.1 ∙ append_assoc c.task (number ∷ []) x.0))
        where
          by : ((top.task ≡ c.task) × (top.births + 1 ≡ number))
              ⊎ ((more : List ℕ) × (top.task ≡ c.task ++ number ∷ more)) → ⊥
          by (inl both) =
              let births = counted w c a (sym both.0) in
              let same = both.1 in
              absurd (omega (arith, births, same, lt))
          by (inr more) = unborn_old w w₀ c top number (from w c a) (as_it_was s w₀ top was) lt
              (more.0, more.1 ∙ sym (append_assoc c.task (number ∷ []) more.0))

      waiting_made : (name : List ℕ) (ready : Ready) (w : ℕ) (d : Context) → task_at t name ≡ task.Ready ready
          → FromOld s w d → StartsWith d.task name → ⊥
      waiting_made name ready w d e f x = ⊎_elim
          (λ (it : (changed ≡ name) × (task_at t name ≡ now)). not_new w d f
          (same_starts d.task d.task name changed refl (sym it.0) x))
          (λ (it : (changed ≡ name → ⊥) × (task_at t name ≡ task_at s name)).
          waiting_old name ready w d (sym it.1 ∙ e) f x) (which name)

      -- what is made stands below no task that waits
      no_child : (name : List ℕ) (ready : Ready) (number : ℕ) (rest : List ℕ) → task_at s name ≡ task.Ready ready
          → changed ≡ name ++ number ∷ rest → ⊥
      no_child name ready number rest e f = by (split_end top.task name (number ∷ rest) (top.births + 1) (sym named ∙ f))
        where
          by : (name ≡ top.task ++ (top.births + 1) ∷ []) ⊎ StartsWith top.task name → ⊥
          by (inl same) = not_below_itself changed rest number (f
              ∙ ap (λ z. z ++ number ∷ rest) (same ∙ sym named))
          by (inr below) = h.waiting name ready w₀ top e was below

      childless_made : (name : List ℕ) (ready : Ready) (number : ℕ) (rest : List ℕ)
          → task_at t name ≡ task.Ready ready → task_at t (name ++ number ∷ rest) ≡ task.Absent
      childless_made name ready number rest e = ⊎_elim
          (λ (it : (changed ≡ name) × (task_at t name ≡ now)).
          other (name ++ number ∷ rest) (λ same. not_below_itself changed rest number
          (same ∙ ap (λ z. z ++ number ∷ rest) (sym it.0)))
          ∙ absent_new (name ++ number ∷ rest) (number ∷ rest, ap (λ z. z ++ number ∷ rest) (sym it.0)))
          (λ (it : (changed ≡ name → ⊥) × (task_at t name ≡ task_at s name)).
          other (name ++ number ∷ rest) (no_child name ready number rest (sym it.1 ∙ e))
          ∙ h.childless name ready number rest (sym it.1 ∙ e)) (which name)

      pub makes : IsOrderly t
      makes = record {
        unborn = λ v w c d number a b lt x. unborn_old v w c d number (from v c a) (from w d b) lt x;
        unmade = λ w c number name a lt x.
            other name (λ same. not_to_come w c number a lt
            (same_starts name changed (c.task ++ number ∷ []) (c.task ++ number ∷ []) (sym same) refl x))
            ∙ unmade_old w c number name (from w c a) lt x;
        waiting = λ name ready w d e b x. waiting_made name ready w d e (from w d b) x;
        childless = childless_made;
        apart = λ v w c d a b e. apart_old v w c d (from v c a) (from w d b) e;
        distinct = dist;
        running = λ w c a e. other c.task (λ same. not_new w c (from w c a)
            (same_starts changed c.task changed changed same refl (starts_itself changed)))
            ∙ running_old w c (from w c a) e;
      }
