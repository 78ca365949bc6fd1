-- The names of the ready tasks among kept values: all of them, ascending.
use Rattle.std.proofs.Common.{◌≡◌, refl, sym, ◌∙◌, ap, subst, Bool, true, false, cond, None, Some, List, [], ◌∷◌, ◌++◌}
use Rattle.std.proofs.Common.{ℕ, ⊎_elim, arith}
use Rattle.std.specs.Prelude.{All, Contains, Option, option_to_list, map, slice_get, ◌&&◌}
use Rattle.std.specs.List.{AllByRecursion}
use Rattle.std.specs.List.Sorted.{IsStrictlySortedBy}
use Rattle.std.specs.Map.{lookup}
use Rattle.std.specs.BTreeMap.Range.{entries_between, range_contains}
use Rattle.std.specs.declared.ops.Bound.TheVariants.{Excluded, Unbounded}
use Rattle.std.specs.Ordering.{nat_cmp}
use Rattle.std.specs.Cmp.Lexicographic.{slice_cmp}
use Rattle.std.specs.declared.cmp.Ordering.TheVariants.{Less}
use Rattle.std.proofs.lemmas.List.Elements.{All-head, All-tail, Contains-append_left, Contains-append_right}
use Rattle.std.proofs.lemmas.List.Elements.{Contains-append_cases, Contains-push, Contains-push_cases}
use Rattle.om_foot.specs.declared.part.Part.TheVariants as part
use Rattle.om_cells.specs.Places.{Places, value_at}
use Rattle.om_cells.specs.Named.{Named, value_among}
use Rattle.om_state.specs.Ready.{AreAll, IsNext, is_behind, names_behind}
use Rattle.om_state.specs.NextNames.{next_of_all}
use Rattle.om_cells.specs.ReadyEntries.{is_ready_task, is_ready_in, name_if_ready, names_ready}
use Rattle.om_cells.proofs.PlaceLemmas.{same_name, name_is}

abbrev keys : Named → List (List ℕ)
keys es = map (λ (e : List ℕ × Places). e.0) es

-- a name is below those of the entries behind its own

abbrev Below : List ℕ → List (List ℕ) → Type 0
Below name names = AllByRecursion (λ m. slice_cmp nat_cmp name m ≡ Less) names

one_below : (name m : List ℕ) (b : Bool) (names : List (List ℕ)) → slice_cmp nat_cmp name m ≡ Less → Below name names
    → Below name (option_to_list (cond b (Some m) None) ++ names)
one_below name m true names h rest = (h, rest)
one_below name m false names h rest = rest

all_below : (name : List ℕ) (es : Named) → Below name (keys es) → Below name (names_ready es)
all_below name [] h = tt
all_below name (e ∷ es) h = one_below name e.0 (is_ready_task (value_at e.1 part.Task)) (names_ready es) h.0
    (all_below name es h.1)

-- so the names ascend

abbrev Ascend : List (List ℕ) → Type 0
Ascend names = IsStrictlySortedBy (slice_cmp nat_cmp) names

one_ascends : (m : List ℕ) (b : Bool) (names : List (List ℕ)) → Below m names → Ascend names
    → Ascend (option_to_list (cond b (Some m) None) ++ names)
unfolding IsStrictlySortedBy
one_ascends m true names h rest = (h, rest)
one_ascends m false names h rest = rest

names_ascend : (es : Named) → Ascend (keys es) → Ascend (names_ready es)
unfolding IsStrictlySortedBy
names_ascend [] h = tt
names_ascend (e ∷ es) h = one_ascends e.0 (is_ready_task (value_at e.1 part.Task)) (names_ready es)
    (all_below e.0 es h.0) (names_ascend es h.1)

-- a name among them is that of a ready task

abbrev IsHeldReady : Named → List ℕ → Type 0
IsHeldReady es n = is_ready_task (value_among (lookup (same_name n) es) part.Task) ≡ true

one_named : (m n : List ℕ) (b : Bool) → Contains (option_to_list (cond b (Some m) None)) n → (b ≡ true) × (m ≡ n)
one_named m n true h = (refl, ⊎_elim (λ none. absurd (omega (arith, none.1))) (λ is. is) (Contains-push_cases [] m n h))
one_named m n false h = absurd (omega (arith, h.1))

none_named : (n : List ℕ) (P : Type 0) → Contains [] n → P
none_named n P h = absurd (omega (arith, h.1))

held_found : (all : Named) (m : List ℕ) (ps : Places) (n : List ℕ) → lookup (same_name m) all ≡ Some ps
    → m ≡ n → is_ready_task (value_at ps part.Task) ≡ true → IsHeldReady all n
held_found all m ps n found is ready =
    ap (λ o. is_ready_task (value_among o part.Task)) (ap (λ x. lookup (same_name x) all) (sym is) ∙ found) ∙ ready

each_ready : (all es : Named) (n : List ℕ)
    → All (λ (e : List ℕ × Places). lookup (same_name e.0) all ≡ Some e.1) es → Contains (names_ready es) n
    → IsHeldReady all n
each_ready all [] n found h = none_named n _ h
each_ready all (e ∷ es) n found h =
    ⊎_elim (λ first. let x = one_named e.0 n (is_ready_task (value_at e.1 part.Task)) first in
    held_found all e.0 e.1 n (All-head (λ (y : List ℕ × Places). lookup (same_name y.0) all ≡ Some y.1) e es
    found) x.1 x.0)
    (λ rest. each_ready all es n
    (All-tail (λ (y : List ℕ × Places). lookup (same_name y.0) all ≡ Some y.1) e es found) rest)
    (Contains-append_cases (option_to_list (name_if_ready e.0 e.1)) (names_ready es) n h)

-- and each ready task is among them

first_there : (n : List ℕ) (b : Bool) → b ≡ true → Contains (option_to_list (cond b (Some n) None)) n
first_there n true h = Contains-push [] n
first_there n false h = cc

either_there : (n m : List ℕ) (ps : Places) (es : Named) (b : Bool) → same_name n m ≡ b
    → is_ready_task (value_among (cond b (Some ps) (lookup (same_name n) es)) part.Task) ≡ true
    → (IsHeldReady es n → Contains (names_ready es) n)
    → Contains (option_to_list (name_if_ready m ps) ++ names_ready es) n
either_there n m ps es true same ready rest =
    Contains-append_left (option_to_list (name_if_ready m ps)) (names_ready es) n
    (subst (λ x. Contains (option_to_list (name_if_ready x ps)) n) (name_is n m same)
    (first_there n (is_ready_task (value_at ps part.Task)) ready))
either_there n m ps es false same ready rest =
    Contains-append_right (option_to_list (name_if_ready m ps)) (names_ready es) n (rest ready)

all_there : (es : Named) (n : List ℕ) → IsHeldReady es n → Contains (names_ready es) n
all_there [] n h = cc
all_there (e ∷ es) n h = either_there n e.0 e.1 es (same_name n e.0) refl h (all_there es n)

pub are_ready : (es : Named) → Ascend (keys es)
    → All (λ (e : List ℕ × Places). lookup (same_name e.0) es ≡ Some e.1) es → AreAll (is_ready_in es) (names_ready es)
are_ready es sorted found = record {
  ascending = names_ascend es sorted;
  members = λ n. (each_ready es es n found, all_there es n);
}

-- those of the entries behind a name are those of the names behind it

abbrev pub between : List ℕ → Named → Named
between after es = entries_between (slice_cmp nat_cmp) (Excluded after) Unbounded es

within : (after n : List ℕ) → range_contains (slice_cmp nat_cmp) (Excluded after) Unbounded n ≡ is_behind (Some after) n
within after n = go (is_behind (Some after) n)
  where
    go : (b : Bool) → b && true ≡ b
    go true = refl
    go false = refl

ready_between : (after : List ℕ) (es : Named) → names_ready (between after es)
    ≡ names_behind (Some after) (names_ready es)
ready_between after [] = refl
ready_between after (e ∷ es) =
    ap (λ b. names_ready (cond b (e ∷ between after es) (between after es))) (within after e.0)
    ∙ inside (is_behind (Some after) e.0)
    ∙ go (is_behind (Some after) e.0) (is_ready_task (value_at e.1 part.Task)) refl (ready_between after es)
  where
    inside : (b : Bool) → names_ready (cond b (e ∷ between after es) (between after es))
        ≡ cond b (option_to_list (name_if_ready e.0 e.1) ++ names_ready (between after es))
        (names_ready (between after es))
    inside true = refl
    inside false = refl

    go : (b c : Bool) → is_behind (Some after) e.0 ≡ b
        → names_ready (between after es) ≡ names_behind (Some after) (names_ready es)
        → cond b (option_to_list (cond c (Some e.0) None) ++ names_ready (between after es))
        (names_ready (between after es))
        ≡ names_behind (Some after) (option_to_list (cond c (Some e.0) None) ++ names_ready es)
    go true true is rest = ap (λ names. e.0 ∷ names) rest
        ∙ ap (λ b. cond b (e.0 ∷ names_behind (Some after) (names_ready es))
        (names_behind (Some after) (names_ready es))) (sym is)
    go true false is rest = rest
    go false true is rest = rest
        ∙ ap (λ b. cond b (e.0 ∷ names_behind (Some after) (names_ready es))
        (names_behind (Some after) (names_ready es))) (sym is)
    go false false is rest = rest

pub next_between : (es : Named) → Ascend (keys es)
    → All (λ (e : List ℕ × Places). lookup (same_name e.0) es ≡ Some e.1) es → (after : List ℕ)
    → (found : Option (List ℕ)) → found ≡ slice_get (names_ready (between after es)) 0
    → IsNext (is_ready_in es) (Some after) found
next_between es sorted there after found is = subst (IsNext (is_ready_in es) (Some after))
    (sym (is ∙ ap (λ names. slice_get names 0) (ready_between after es)))
    (next_of_all (is_ready_in es) (names_ready es) (are_ready es sorted there) (Some after))
