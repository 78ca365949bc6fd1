-- Tests whether two things that are told are the same.
use Rattle.std.specs.Prelude.{ℕ, Bool, true, false, nat_eq, ◌&&◌, Option, None, Some, List, [], ◌∷◌, cond}
use Rattle.std.specs.Cmp.Lexicographic.{pointwise}
use Rattle.std.specs.Ordering.{int_eq}
use Rattle.om_code.specs.Faults.{fault_number}
use Rattle.om_foot.specs.Footprint.{obj_eq}
use Rattle.om_state.specs.declared.step.Blocked.{Blocked}
use Rattle.om_state.specs.declared.step.Blocked.TheVariants as blocked
use Rattle.om_state.specs.Values.{blocked_number}
use Rattle.lab_explore_closed.specs.declared.found.Ending.{Ending}
use Rattle.lab_explore_closed.specs.declared.found.Ending.TheVariants.{Faults, Ends, Sticks}
use Rattle.lab_explore_closed.specs.declared.found.Met.{Met}
use Rattle.lab_explore_closed.specs.declared.found.Pair.{Pair}
use Rattle.lab_explore_closed.specs.declared.found.Place.{Place}
use Rattle.lab_explore_closed.specs.declared.found.Wait.{Wait}
use Rattle.lab_explore_closed.specs.Races.{kind_number}

abbrev pub same_met : Met → Met → Bool
same_met a b = nat_eq (fault_number a.fault) (fault_number b.fault) && (nat_eq a.worker b.worker && nat_eq a.line
    b.line)

-- the worker that a reason names, or 0
abbrev pub other_in : Blocked → ℕ
other_in (blocked.Critical worker) = worker
other_in (blocked.Busy worker) = worker
other_in _ = 0

abbrev pub same_blocked : Blocked → Blocked → Bool
same_blocked a b = nat_eq (blocked_number a) (blocked_number b) && nat_eq (other_in a) (other_in b)

abbrev pub same_why : Option Blocked → Option Blocked → Bool
same_why None None = true
same_why (Some a) (Some b) = same_blocked a b
same_why _ _ = false

abbrev pub same_wait : Wait → Wait → Bool
same_wait a b = nat_eq a.worker b.worker && (nat_eq a.line b.line && same_why a.blocked b.blocked)

abbrev pub same_ending : Ending → Ending → Bool
same_ending (Faults ms output) (Faults ns printed) = pointwise same_met ms ns && pointwise nat_eq output printed
same_ending (Ends value output) (Ends other printed) = int_eq value other && pointwise nat_eq output printed
same_ending (Sticks output ws) (Sticks printed vs) = pointwise nat_eq output printed && pointwise same_wait ws vs
same_ending _ _ = false

abbrev pub same_place : Place → Place → Bool
same_place p q = nat_eq p.line q.line && nat_eq (kind_number p.kind) (kind_number q.kind)

abbrev pub same_pair : Pair → Pair → Bool
same_pair a b = same_place a.first b.first && (same_place a.second b.second && obj_eq a.object b.object)

-- whether a thing is among those that are listed, by such a test
abbrev pub is_among : {K : Type 0} → (K → K → Bool) → List K → K → Bool
is_among same [] k = false
is_among same (x ∷ xs) k = cond (same x k) true (is_among same xs k)
