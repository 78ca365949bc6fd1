-- The tests decide whether two things are the same.
use Rattle.std.proofs.Common.{◌≡◌, refl, sym, ◌∙◌, ap, ℕ, Bool, true, false, cond, nat_eq, ◌&&◌, Option, None, Some}
use Rattle.std.proofs.Common.{List, [], ◌∷◌, arith, ⊎_elim, ◌⊎◌, inl, inr}
use Rattle.std.specs.Prelude.{Contains}
use Rattle.std.specs.Bool.{Decides}
use Rattle.std.specs.Cmp.Lexicographic.{pointwise}
use Rattle.std.specs.Ordering.{int_eq}
use Rattle.std.proofs.lemmas.Bool.Decides.{Decides-eqb, Decides-int_eq}
use Rattle.std.proofs.lemmas.Slice.Eq.{slice_eq-Decides}
use Rattle.std.proofs.lemmas.List.Elements.{Contains-append_right, Contains-append_cases, Contains-push_cases}
use Rattle.om_code.specs.declared.frame.Fault.{Fault}
use Rattle.om_code.specs.declared.frame.Fault.TheVariants as fault
use Rattle.om_code.specs.Faults.{fault_number}
use Rattle.om_foot.specs.Footprint.{obj_eq}
use Rattle.om_foot.specs.Objects.{obj_eq-true, obj_eq-same}
use Rattle.om_foot.specs.Below.{same_list, two_true, both_true}
use Rattle.om_state.specs.declared.step.Blocked.{Blocked}
use Rattle.om_state.specs.declared.step.Blocked.TheVariants as blocked
use Rattle.om_state.specs.Values.{blocked_number}
use Rattle.lab_explore_closed.specs.declared.found.AccessKind.{AccessKind}
use Rattle.lab_explore_closed.specs.declared.found.AccessKind.TheVariants as kind
use Rattle.lab_explore_closed.specs.declared.found.Ending.{Ending}
use Rattle.lab_explore_closed.specs.declared.found.Ending.TheVariants.{Faults, Ends, Sticks}
use Rattle.lab_explore_closed.specs.declared.found.Met.{Met}
use Rattle.lab_explore_closed.specs.declared.found.Pair.{Pair}
use Rattle.lab_explore_closed.specs.declared.found.Place.{Place}
use Rattle.lab_explore_closed.specs.declared.found.Wait.{Wait}
use Rattle.lab_explore_closed.specs.Races.{kind_number}
use Rattle.lab_explore_notes.specs.Same.{same_met, other_in, same_blocked, same_why, same_wait}
use Rattle.lab_explore_notes.specs.Same.{same_ending, same_place, same_pair, is_among}

number_is : (x y : ℕ) → nat_eq x y ≡ true → x ≡ y
number_is x y h = (Decides-eqb x y).0 h

number_same : (x : ℕ) → nat_eq x x ≡ true
number_same x = (Decides-eqb x x).1 refl

-- numbers stand for faults, reasons and kinds

fault_from : ℕ → Fault
fault_from n = cond (nat_eq n 1) fault.Overflow (cond (nat_eq n 2) fault.ZeroDivisor (cond (nat_eq n 3) fault.Index
    (cond (nat_eq n 4) fault.Unset (cond (nat_eq n 5) fault.Dead (cond (nat_eq n 6) fault.NoValue
    (cond (nat_eq n 7) fault.Frames (cond (nat_eq n 8) fault.Size (cond (nat_eq n 9) fault.Nesting fault.Name))))))))

fault_back : (f : Fault) → fault_from (fault_number f) ≡ f
unfolding fault_from
fault_back fault.Overflow = refl
fault_back fault.ZeroDivisor = refl
fault_back fault.Index = refl
fault_back fault.Unset = refl
fault_back fault.Dead = refl
fault_back fault.NoValue = refl
fault_back fault.Frames = refl
fault_back fault.Size = refl
fault_back fault.Nesting = refl
fault_back fault.Name = refl

fault_is : (f g : Fault) → nat_eq (fault_number f) (fault_number g) ≡ true → f ≡ g
fault_is f g h = sym (fault_back f) ∙ ap fault_from (number_is (fault_number f) (fault_number g) h) ∙ fault_back g

blocked_from : ℕ → ℕ → Blocked
blocked_from n worker = cond (nat_eq n 1) blocked.Barrier (cond (nat_eq n 2) (blocked.Critical worker)
    (cond (nat_eq n 3) blocked.Children (cond (nat_eq n 4) (blocked.Busy worker) (cond (nat_eq n 5) blocked.Idle
    (cond (nat_eq n 6) blocked.Task (cond (nat_eq n 7) blocked.Place blocked.Group))))))

blocked_back : (b : Blocked) → blocked_from (blocked_number b) (other_in b) ≡ b
unfolding blocked_from
blocked_back blocked.Barrier = refl
blocked_back (blocked.Critical worker) = refl
blocked_back blocked.Children = refl
blocked_back (blocked.Busy worker) = refl
blocked_back blocked.Idle = refl
blocked_back blocked.Task = refl
blocked_back blocked.Place = refl
blocked_back blocked.Group = refl

blocked_is : (a b : Blocked) → same_blocked a b ≡ true → a ≡ b
blocked_is a b h =
    let two = two_true (nat_eq (blocked_number a) (blocked_number b)) (nat_eq (other_in a) (other_in b)) h in
    sym (blocked_back a)
    ∙ (λ i. blocked_from (number_is (blocked_number a) (blocked_number b) two.0 i)
    (number_is (other_in a) (other_in b) two.1 i)) ∙ blocked_back b

kind_from : ℕ → AccessKind
kind_from n = cond (nat_eq n 0) kind.Reads (cond (nat_eq n 1) kind.Writes kind.Ends)

kind_back : (k : AccessKind) → kind_from (kind_number k) ≡ k
unfolding kind_from
kind_back kind.Reads = refl
kind_back kind.Writes = refl
kind_back kind.Ends = refl

kind_is : (a b : AccessKind) → nat_eq (kind_number a) (kind_number b) ≡ true → a ≡ b
kind_is a b h = sym (kind_back a) ∙ ap kind_from (number_is (kind_number a) (kind_number b) h) ∙ kind_back b

-- faults that were met

met_is : (a b : Met) → same_met a b ≡ true → a ≡ b
met_is a b h =
    let t = two_true (nat_eq (fault_number a.fault) (fault_number b.fault))
    (nat_eq a.worker b.worker && nat_eq a.line b.line) h in
    let u = two_true (nat_eq a.worker b.worker) (nat_eq a.line b.line) t.1 in
    λ i. record {
      fault = fault_is a.fault b.fault t.0 i;
      worker = number_is a.worker b.worker u.0 i;
      line = number_is a.line b.line u.1 i;
    }

met_same : (a : Met) → same_met a a ≡ true
met_same a = both_true _ _ (number_same (fault_number a.fault))
    (both_true _ _ (number_same a.worker) (number_same a.line))

pub mets_decide : (a b : Met) → Decides (same_met a b) (a ≡ b)
mets_decide a b = (met_is a b, λ is. ap (same_met a) (sym is) ∙ met_same a)

-- workers that wait

why_is : (a b : Option Blocked) → same_why a b ≡ true → a ≡ b
why_is None None h = refl
why_is (Some a) (Some b) h = ap Some (blocked_is a b h)
why_is None (Some b) h = cc
why_is (Some a) None h = cc

why_same : (a : Option Blocked) → same_why a a ≡ true
why_same None = refl
why_same (Some a) = both_true _ _ (number_same (blocked_number a)) (number_same (other_in a))

wait_is : (a b : Wait) → same_wait a b ≡ true → a ≡ b
wait_is a b h =
    let t = two_true (nat_eq a.worker b.worker) (nat_eq a.line b.line && same_why a.blocked b.blocked) h in
    let u = two_true (nat_eq a.line b.line) (same_why a.blocked b.blocked) t.1 in
    λ i. record {
      worker = number_is a.worker b.worker t.0 i;
      line = number_is a.line b.line u.0 i;
      blocked = why_is a.blocked b.blocked u.1 i;
    }

wait_same : (a : Wait) → same_wait a a ≡ true
wait_same a = both_true _ _ (number_same a.worker) (both_true _ _ (number_same a.line) (why_same a.blocked))

waits_decide : (a b : Wait) → Decides (same_wait a b) (a ≡ b)
waits_decide a b = (wait_is a b, λ is. ap (same_wait a) (sym is) ∙ wait_same a)

-- endings

met_lists : (xs ys : List Met) → Decides (pointwise same_met xs ys) (xs ≡ ys)
met_lists xs ys = slice_eq-Decides mets_decide xs ys (pointwise same_met xs ys) refl

wait_lists : (xs ys : List Wait) → Decides (pointwise same_wait xs ys) (xs ≡ ys)
wait_lists xs ys = slice_eq-Decides waits_decide xs ys (pointwise same_wait xs ys) refl

ending_is : (a b : Ending) → same_ending a b ≡ true → a ≡ b
ending_is (Faults ms output) (Faults ns printed) h =
    let t = two_true (pointwise same_met ms ns) (pointwise nat_eq output printed) h in
    λ i. Faults ((met_lists ms ns).0 t.0 i) ((same_list output printed).0 t.1 i)
ending_is (Ends value output) (Ends other printed) h =
    let t = two_true (int_eq value other) (pointwise nat_eq output printed) h in
    λ i. Ends ((Decides-int_eq value other).0 t.0 i) ((same_list output printed).0 t.1 i)
ending_is (Sticks output ws) (Sticks printed vs) h =
    let t = two_true (pointwise nat_eq output printed) (pointwise same_wait ws vs) h in
    λ i. Sticks ((same_list output printed).0 t.0 i) ((wait_lists ws vs).0 t.1 i)
ending_is (Faults ms output) (Ends other printed) h = cc
ending_is (Faults ms output) (Sticks printed vs) h = cc
ending_is (Ends value output) (Faults ns printed) h = cc
ending_is (Ends value output) (Sticks printed vs) h = cc
ending_is (Sticks output ws) (Faults ns printed) h = cc
ending_is (Sticks output ws) (Ends other printed) h = cc

ending_same : (a : Ending) → same_ending a a ≡ true
ending_same (Faults ms output) = both_true _ _ ((met_lists ms ms).1 refl) ((same_list output output).1 refl)
ending_same (Ends value output) = both_true _ _ ((Decides-int_eq value value).1 refl) ((same_list output output).1
    refl)
ending_same (Sticks output ws) = both_true _ _ ((same_list output output).1 refl) ((wait_lists ws ws).1 refl)

pub endings_decide : (a b : Ending) → Decides (same_ending a b) (a ≡ b)
endings_decide a b = (ending_is a b, λ is. ap (same_ending a) (sym is) ∙ ending_same a)

-- pairs of accesses

place_is : (p q : Place) → same_place p q ≡ true → p ≡ q
place_is p q h =
    let t = two_true (nat_eq p.line q.line) (nat_eq (kind_number p.kind) (kind_number q.kind)) h in
    λ i. record { line = number_is p.line q.line t.0 i; kind = kind_is p.kind q.kind t.1 i }

place_same : (p : Place) → same_place p p ≡ true
place_same p = both_true _ _ (number_same p.line) (number_same (kind_number p.kind))

pair_is : (a b : Pair) → same_pair a b ≡ true → a ≡ b
pair_is a b h =
    let t = two_true (same_place a.first b.first) (same_place a.second b.second && obj_eq a.object b.object) h in
    let u = two_true (same_place a.second b.second) (obj_eq a.object b.object) t.1 in
    λ i. record {
      first = place_is a.first b.first t.0 i;
      second = place_is a.second b.second u.0 i;
      object = obj_eq-true a.object b.object u.1 i;
    }

pair_same : (a : Pair) → same_pair a a ≡ true
pair_same a = both_true _ _ (place_same a.first) (both_true _ _ (place_same a.second) (obj_eq-same a.object))

pub pairs_decide : (a b : Pair) → Decides (same_pair a b) (a ≡ b)
pairs_decide a b = (pair_is a b, λ is. ap (same_pair a) (sym is) ∙ pair_same a)

-- among others

module _ {K : Type 0} (same : K → K → Bool) (decides : (a b : K) → Decides (same a b) (a ≡ b)) where
  behind : (x : K) (xs : List K) (k : K) → Contains xs k → Contains (x ∷ xs) k
  behind x xs k at = Contains-append_right (x ∷ []) xs k at

  cases : (x : K) (xs : List K) (k : K) → Contains (x ∷ xs) k → (x ≡ k) ⊎ Contains xs k
  cases x xs k h = ⊎_elim
      (λ one. ⊎_elim (λ none. absurd (omega (arith, none.1))) (λ is. inl is) (Contains-push_cases [] x k one))
      (λ rest. inr rest) (Contains-append_cases (x ∷ []) xs k h)

  pub is_there : (xs : List K) (k : K) → is_among same xs k ≡ true → Contains xs k
  is_there [] k h = cc
  is_there (x ∷ xs) k h = go (same x k) refl (λ g. is_there xs k g) h
    where
      go : (b : Bool) → same x k ≡ b → (is_among same xs k ≡ true → Contains xs k)
          → cond b true (is_among same xs k) ≡ true → Contains (x ∷ xs) k
      go true e rest g = (0, omega arith, (decides x k).0 e)
      go false e rest g = behind x xs k (rest g)

  pub is_not_there : (xs : List K) (k : K) → is_among same xs k ≡ false → ¬ Contains xs k
  is_not_there [] k h at = absurd (omega (arith, at.1))
  is_not_there (x ∷ xs) k h at = go (same x k) refl (λ g rest. is_not_there xs k g rest) h
    where
      go : (b : Bool) → same x k ≡ b → (is_among same xs k ≡ false → ¬ Contains xs k)
          → cond b true (is_among same xs k) ≡ false → ⊥
      go true e rest g = cc
      go false e rest g =
          ⊎_elim (λ is. absurd (apart (sym e ∙ (decides x k).1 is))) (λ more. rest g more) (cases x xs k at)
        where
          apart : false ≡ true → ⊥
          apart f = cc
