-- The moves of workers.
use Rattle.std.proofs.Common.{◌≡◌, ◌<◌, ◌+◌, ℕ, zero, suc, true, false, is_some, List, [], ◌∷◌, length, drop, get_or}
use Rattle.std.proofs.Common.{refl, sym, ap, ◌∙◌, arith}
use Rattle.om_state.specs.declared.step.Choice.TheVariants.{Start}
use Rattle.om_undo.specs.Machines.{MachineView}
use Rattle.om_shell_debugger.specs.Runs.{can_step, start_among}

pub start_here : (m : MachineView) (worker : ℕ) (name : List ℕ) (names : List (List ℕ)) → can_step m worker
    (Start name) ≡ true
    → is_some (start_among m worker (name ∷ names)) ≡ true
start_here m worker name names e = rw e refl

pub start_behind : (m : MachineView) (worker : ℕ) (name : List ℕ) (names : List (List ℕ)) → can_step m worker
    (Start name) ≡ false
    → start_among m worker (name ∷ names) ≡ start_among m worker names
start_behind m worker name names e = rw e refl

drop_here : {A : Type 0} (xs : List A) (k : ℕ) (x : A) → k < length xs → x ≡ get_or xs k x → drop k xs ≡ x
    ∷ drop (suc k) xs
drop_here [] k x within is = absurd (omega (arith, within))
drop_here (y ∷ ys) zero x within is = ap (λ v. v ∷ ys) (sym is)
drop_here (y ∷ ys) (suc n) x within is = drop_here ys n x (omega (arith, within)) is

pub drop_next : {A : Type 0} (xs : List A) (k : ℕ) (x : A) → k < length xs → x ≡ get_or xs k x → drop k xs ≡ x
    ∷ drop (k + 1) xs
drop_next xs k x within is =
    let one_more : suc k ≡ k + 1 = omega arith in
    drop_here xs k x within is ∙ ap (λ n. x ∷ drop n xs) one_more
