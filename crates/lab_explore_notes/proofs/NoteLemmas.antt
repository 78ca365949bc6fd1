-- Things that are noted, each once.
use Rattle.std.proofs.Common.{◌≡◌, refl, sym, ◌∙◌, ap, subst, ℕ, zero, suc, ◌+◌, ◌<◌, ◌≤◌, Some}
use Rattle.std.proofs.Common.{List, [], ◌∷◌, ◌++◌, map, length, take, get_or, arith, ⊎_elim, ◌⊎◌, inl, inr}
use Rattle.std.specs.Prelude.{Contains}
use Rattle.std.proofs.Math.Seq.{take-suc}
use Rattle.std.proofs.lemmas.List.{map-append}
use Rattle.std.proofs.lemmas.List.Elements.{All-nil, All-push, Contains-append_left, Contains-append_right}
use Rattle.std.proofs.lemmas.List.Elements.{Contains-append_cases, Contains-push, Contains-push_cases}
use Rattle.om_code.specs.declared.raw.Raw.{Raw}
use Rattle.om_state.specs.declared.control.Control as controls
use Rattle.om_state.specs.declared.control.Control.TheVariants as control
use Rattle.om_state.specs.declared.step.Entry.{Entry}
use Rattle.om_state.specs.State.{State}
use Rattle.om_task.specs.Rules.{line_in}
use Rattle.om_undo.specs.Machines.{MachineView, rules_for, state_in}
use Rattle.om_undo_history.specs.Runs.{label_of}
use Rattle.lab_explore_closed.specs.declared.found.Ending.{Ending}
use Rattle.lab_explore_closed.specs.declared.found.Met.{Met}
use Rattle.lab_explore_closed.specs.Endings.{IsMet, control_at, fault_in, met_in, mets_at, ending_at}
use Rattle.lab_explore_closed.specs.Explored.{IsPossibleEnd, IsPossibleFault}
use Rattle.lab_explore_closed.specs.Lists.{AllDifferent}
use Rattle.lab_explore_closed.specs.Runs.{Leads, IsEnd}
use Rattle.lab_explore_notes.specs.Notes.{AreRight, Keeps, IsOnWay}

-- one thing more

different_push : {K : Type 0} (xs : List K) (x : K) → AllDifferent xs → ¬ Contains xs x → AllDifferent (xs ++ x ∷ [])
different_push [] x h not = ((λ at. absurd (omega (arith, at.1))), tt)
different_push {K} (y ∷ ys) x h not = (
  (λ at. ⊎_elim (λ old. h.0 old) (λ is. not (subst (λ z. Contains (y ∷ ys) z) (sym is) (0, omega arith, refl)))
      (Contains-push_cases ys x y at)),
  different_push ys x h.1 (λ at. not (Contains-append_right (y ∷ []) ys x at)),
)

module _ {F K : Type 0} (IsRight : F → Type 0) (told : F → K) where
  pub push_right : (fs : List F) (f : F) → AreRight IsRight told fs → IsRight f → ¬ Contains (map told fs) (told f)
      → AreRight IsRight told (fs ++ f ∷ [])
  push_right fs f h is new = record {
    each = All-push IsRight fs f h.each is;
    once = subst (λ (ks : List K). AllDifferent ks) (sym (map-append told fs (f ∷ [])))
        (different_push (map told fs) (told f) h.once new);
  }

  pub none_right : AreRight IsRight told []
  none_right = record { each = All-nil IsRight; once = tt }

module _ {F K : Type 0} (told : F → K) where
  pub keeps_push : (fs : List F) (f : F) → Keeps told fs (fs ++ f ∷ [])
  keeps_push fs f k at =
      subst (λ ks. Contains ks k) (sym (map-append told fs (f ∷ [])))
      (Contains-append_left (map told fs) (told f ∷ []) k at)

  pub told_last : (fs : List F) (f : F) → Contains (map told (fs ++ f ∷ [])) (told f)
  told_last fs f =
      subst (λ ks. Contains ks (told f)) (sym (map-append told fs (f ∷ []))) (Contains-push (map told fs) (told f))

-- the items of a list up to a place

pub take_cases : {A : Type 0} (xs : List A) (k : ℕ) (x y : A) → k < length xs → x ≡ get_or xs k x
    → Contains (take (k + 1) xs) y → Contains (take k xs) y ⊎ (x ≡ y)
take_cases {A} xs k x y less is at =
    Contains-push_cases (take k xs) x y
    (subst (λ (ys : List A). Contains ys y)
    (ap (λ n. take n xs) next ∙ take-suc xs k x less ∙ ap (λ z. take k xs ++ z ∷ []) (sym is)) at)
  where
    next : k + 1 ≡ suc k
    next = omega arith

pub take_cases_at : {A : Type 0} (xs : List A) (k : ℕ) (d y : A) → k < length xs
    → Contains (take (k + 1) xs) y → Contains (take k xs) y ⊎ (get_or xs k d ≡ y)
take_cases_at {A} xs k d y less at =
    Contains-push_cases (take k xs) (get_or xs k d) y
    (subst (λ (ys : List A). Contains ys y) (ap (λ n. take n xs) next ∙ take-suc xs k d less) at)
  where
    next : k + 1 ≡ suc k
    next = omega arith

pub take_whole : {A : Type 0} (xs : List A) (n : ℕ) → length xs ≤ n → take n xs ≡ xs
take_whole [] zero h = refl
take_whole [] (suc n) h = refl
take_whole (x ∷ xs) zero h = absurd (omega (arith, h))
take_whole (x ∷ xs) (suc n) h = ap (λ ys. x ∷ ys) (take_whole xs n (omega (arith, h)))

pub at_place : {A : Type 0} (xs : List A) (k : ℕ) (x : A) → k < length xs → x ≡ get_or xs k x → Contains xs x
at_place xs k x less is = (k, less, sym is)

-- faults that workers have met

fault_met : (program : Raw) (s : State) (n : ℕ) (c : controls.Control) (m : Met) → control_at s n ≡ c
    → Contains (met_in program n c) m → (m.worker ≡ n) × IsMet program s m
fault_met program s n control.Idle m e at = absurd (omega (arith, at.1))
fault_met program s n (control.Running stack) m e at = absurd (omega (arith, at.1))
fault_met program s n (control.Ended value) m e at = absurd (omega (arith, at.1))
fault_met program s n (control.Faulted fault stack) m e at =
    let one : Met = record { fault = fault; worker = n; line = line_in program (control.Faulted fault stack) } in
    let is : one ≡ m =
    ⊎_elim (λ none. absurd (omega (arith, none.1))) (λ same. same) (Contains-push_cases [] one m at) in (
      ap (λ (x : Met). x.worker) (sym is),
      subst (λ x. IsMet program s x) is (record { fault = ap fault_in e; line = sym (ap (line_in program) e) }),
    )

pub mets_are : (program : Raw) (s : State) (n : ℕ) (m : Met) → Contains (mets_at program s n) m
    → (m.worker < n) × IsMet program s m
mets_are program s zero m at = absurd (omega (arith, at.1))
mets_are program s (suc n) m at =
    ⊎_elim
    (λ lower. let h = mets_are program s n m lower in (less h.0, h.1))
    (λ here. let h = fault_met program s n (control_at s n) m refl here in (last h.0, h.1))
    (Contains-append_cases (mets_at program s n) (met_in program n (control_at s n)) m at)
  where
    less : m.worker < n → m.worker < suc n
    less h = omega (arith, h)

    last : m.worker ≡ n → m.worker < suc n
    last h = omega (arith, h)

met_there : (program : Raw) (s : State) (n : ℕ) (c : controls.Control) (m : Met) → control_at s n ≡ c → m.worker ≡ n
    → fault_in c ≡ Some m.fault → m.line ≡ line_in program c → Contains (met_in program n c) m
met_there program s n control.Idle m e own h line = cc
met_there program s n (control.Running stack) m e own h line = cc
met_there program s n (control.Ended value) m e own h line = cc
met_there program s n (control.Faulted fault stack) m e own h line =
    let same : fault ≡ m.fault = cc in
    let is : (let one : Met = record {
      fault = fault;
      worker = n;
      line = line_in program (control.Faulted fault
          stack);
    } in
    one) ≡ m = λ i. record { fault = same i; worker = sym own i; line = sym line i } in
    (0, omega arith, is)

pub all_mets : (program : Raw) (s : State) (n : ℕ) (m : Met) → m.worker < n → IsMet program s m
    → Contains (mets_at program s n) m
all_mets program s zero m less is = absurd (omega (arith, less))
all_mets program s (suc n) m less is =
    ⊎_elim
    (λ lower. Contains-append_left (mets_at program s n) (met_in program n (control_at s n)) m
    (all_mets program s n m lower is))
    (λ here. Contains-append_right (mets_at program s n) (met_in program n (control_at s n)) m
    (met_there program s n (control_at s n) m refl here
    (subst (λ w. fault_in (control_at s w) ≡ Some m.fault) here is.fault)
    (subst (λ w. m.line ≡ line_in program (control_at s w)) here is.line)))
    (which m.worker n less)
  where
    which : (w k : ℕ) → w < suc k → (w < k) ⊎ (w ≡ k)
    which w k h = grind arith

-- what is found where a machine stands

pub is_fault : (m : MachineView) (path : List Entry) (met : Met) → IsOnWay m → path ≡ m.history.entries
    → met.worker < m.workers → IsMet m.program (state_in m) met
    → IsPossibleFault m.program m.workers (record { path = path; met = met })
is_fault m path met way is own h = record {
  state = state_in m;
  leads = subst (λ es. Leads (rules_for m) m.workers (map label_of es) (state_in m)) (sym is) way;
  worker = own;
  met = h;
}

pub is_end : (m : MachineView) (path : List Entry) (ending : Ending) → IsOnWay m → path ≡ m.history.entries
    → IsEnd (rules_for m) m.workers (state_in m) → ending ≡ ending_at m.program m.workers (state_in m)
    → IsPossibleEnd m.program m.workers (record { path = path; ending = ending })
is_end m path ending way is end h = record {
  state = state_in m;
  leads = subst (λ es. Leads (rules_for m) m.workers (map label_of es) (state_in m)) (sym is) way;
  end = end;
  ending = h;
}

-- the same of a list that is another one

module _ {A : Type 0} (xs ys : List A) (e : xs ≡ ys) (k : ℕ) where
  pub at_place_of : (x : A) → k < length xs → x ≡ get_or xs k x → Contains ys x
  at_place_of x less is = subst (λ (zs : List A). Contains zs x) e (at_place xs k x less is)

  pub take_cases_of : (x y : A) → k < length xs → x ≡ get_or xs k x → Contains (take (k + 1) ys) y
      → Contains (take k ys) y ⊎ (x ≡ y)
  take_cases_of x y less is at =
      ⊎_elim (λ old. inl (subst (λ (zs : List A). Contains (take k zs) y) e old)) (λ same. inr same)
      (take_cases xs k x y less is (subst (λ (zs : List A). Contains (take (k + 1) zs) y) (sym e) at))

  pub whole_of : (y : A) → length xs ≤ k → Contains ys y → Contains (take k ys) y
  whole_of y all at =
      subst (λ (zs : List A). Contains (take k zs) y) e
      (subst (λ (zs : List A). Contains zs y) (sym (take_whole xs k all))
      (subst (λ (zs : List A). Contains zs y) (sym e) at))
