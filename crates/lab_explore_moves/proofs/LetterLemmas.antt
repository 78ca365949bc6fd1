-- The steps that are tried are all that can be made.
use Rattle.std.proofs.Common.{◌≡◌, refl, sym, ◌∙◌, ap, subst, ℕ, zero, suc, ◌+◌, ◌<◌, ◌≤◌, true}
use Rattle.std.proofs.Common.{Some, List, [], ◌∷◌, ◌++◌, map, length, get_or, arith, ⊎_elim, ◌⊎◌, inl, inr}
use Rattle.std.specs.Prelude.{Contains}
use Rattle.std.proofs.lemmas.List.Elements.{Contains-append_left, Contains-append_right, Contains-append_cases}
use Rattle.std.proofs.lemmas.List.Elements.{Contains-push, Contains-push_cases}
use Rattle.om_state.specs.declared.step.Choice.{Choice}
use Rattle.om_state.specs.declared.step.Choice.TheVariants.{Next, Start}
use Rattle.om_state.specs.declared.step.Label.{Label}
use Rattle.om_state.specs.Ready.{AreReady}
use Rattle.om_state.specs.Rules.{next_state}
use Rattle.om_state.specs.State.{State}
use Rattle.om_undo.specs.Machines.{MachineView, rules_for, state_in}
use Rattle.lab_explore_closed.specs.Endings.{next_by}
use Rattle.lab_explore_closed.specs.Runs.{AreOf}
use Rattle.lab_explore_closed.specs.Starts.{PossibleStartsAreReady, start_by}
use Rattle.lab_explore_moves.specs.Letters.{letters_of, letters_below, AreLetters}

-- lists of labels

first : (x : Label) (xs : List Label) → Contains (x ∷ xs) x
first x xs = Contains-append_left (x ∷ []) xs x (Contains-push [] x)

behind : (x : Label) (xs : List Label) (y : Label) → Contains xs y → Contains (x ∷ xs) y
behind x xs y h = Contains-append_right (x ∷ []) xs y h

pub cases : (x : Label) (xs : List Label) (y : Label) → Contains (x ∷ xs) y → (x ≡ y) ⊎ Contains xs y
cases x xs y h = ⊎_elim
    (λ one. ⊎_elim (λ none. absurd (omega (arith, none.1))) (λ is. inl is) (Contains-push_cases [] x y one))
    (λ rest. inr rest) (Contains-append_cases (x ∷ []) xs y h)

name_cases : (x : List ℕ) (xs : List (List ℕ)) (y : List ℕ) → Contains (x ∷ xs) y → (x ≡ y) ⊎ Contains xs y
name_cases x xs y h = ⊎_elim
    (λ one. ⊎_elim (λ none. absurd (omega (arith, none.1))) (λ is. inl is) (Contains-push_cases [] x y one))
    (λ rest. inr rest) (Contains-append_cases (x ∷ []) xs y h)

start_there : (worker : ℕ) (names : List (List ℕ)) (name : List ℕ) → Contains names name
    → Contains (map (λ (n : List ℕ). start_by worker n) names) (start_by worker name)
start_there worker [] name h = absurd (omega (arith, h.1))
start_there worker (x ∷ xs) name h =
    ⊎_elim
    (λ is. subst (λ y. Contains (map (λ (n : List ℕ). start_by worker n) (x ∷ xs)) (start_by worker y)) is
    (first (start_by worker x) (map (λ (n : List ℕ). start_by worker n) xs)))
    (λ rest. behind (start_by worker x) (map (λ (n : List ℕ). start_by worker n) xs) (start_by worker name)
    (start_there worker xs name rest)) (name_cases x xs name h)

-- those of a worker are among those of all

among : (names : List (List ℕ)) (worker workers : ℕ) (l : Label) → worker < workers
    → Contains (letters_of worker names) l → Contains (letters_below names workers) l
among names worker zero l less h = absurd (omega (arith, less))
among names worker (suc workers) l less h =
    ⊎_elim (λ lower. Contains-append_left (letters_below names workers) (letters_of workers names) l
    (among names worker workers l lower h))
    (λ is. Contains-append_right (letters_below names workers) (letters_of workers names) l
    (subst (λ w. Contains (letters_of w names) l) is h)) (which worker workers less)
  where
    which : (w n : ℕ) → w < suc n → (w < n) ⊎ (w ≡ n)
    which w n h = grind arith

start_own : (worker workers : ℕ) (names : List (List ℕ)) → worker < workers
    → AreOf workers (map (λ (n : List ℕ). start_by worker n) names)
start_own worker workers [] less = tt
start_own worker workers (x ∷ xs) less = (less, start_own worker workers xs less)

own_append : (workers : ℕ) (xs ys : List Label) → AreOf workers xs → AreOf workers ys → AreOf workers (xs ++ ys)
own_append workers [] ys h g = g
own_append workers (x ∷ xs) ys h g = (h.0, own_append workers xs ys h.1 g)

own_below : (names : List (List ℕ)) (n workers : ℕ) → n ≤ workers → AreOf workers (letters_below names n)
own_below names zero workers h = tt
own_below names (suc n) workers h =
    let less : n < workers = omega (arith, h) in
    own_append workers (letters_below names n) (letters_of n names) (own_below names n workers (omega (arith, h)))
    (less, start_own n workers names less)

pub below_next : (names : List (List ℕ)) (worker : ℕ)
    → letters_below names (worker + 1) ≡ letters_below names worker ++ letters_of worker names
below_next names worker = ap (letters_below names) next
  where
    next : worker + 1 ≡ suc worker
    next = omega arith

there : (starts : PossibleStartsAreReady) (m : MachineView) (names : List (List ℕ)) → AreReady (state_in m) names
    → (worker : ℕ) (choice : Choice) (t : State)
    → next_state (rules_for m) (state_in m) (record { worker = worker; choice = choice }) ≡ Some t
    → Contains (letters_of worker names) (record { worker = worker; choice = choice })
there starts m names ready worker Next t h =
    first (next_by worker) (map (λ (n : List ℕ). start_by worker n) names)
there starts m names ready worker (Start name) t h =
    behind (next_by worker) (map (λ (n : List ℕ). start_by worker n) names) (start_by worker name)
    (start_there worker names name
    ((ready.members name).1 (starts m.program m.workers worker name (state_in m) t h)))

pub all_letters : (starts : PossibleStartsAreReady) (m : MachineView) (names : List (List ℕ))
    → AreReady (state_in m) names → (letters : List Label) → letters ≡ letters_below names m.workers
    → AreLetters m letters
all_letters starts m names ready letters is = record {
  own = subst (λ ls. AreOf m.workers ls) (sym is) (own_below names m.workers m.workers (omega arith));
  each = λ l t less h. subst (λ ls. Contains ls l) (sym is)
      (among names l.worker m.workers l less (there starts m names ready l.worker l.choice t h));
}

-- one letter of a list

pub own_at : (workers : ℕ) (ls : List Label) (k : ℕ) (l : Label) → AreOf workers ls → k < length ls
    → l ≡ get_or ls k l → l.worker < workers
own_at workers [] k l own less is = absurd (omega (arith, less))
own_at workers (x ∷ xs) zero l own less is = subst (λ y. y.worker < workers) (sym is) own.0
own_at workers (x ∷ xs) (suc k) l own less is = own_at workers xs k l own.1 (omega (arith, less)) is
