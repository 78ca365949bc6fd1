-- Names put into a list that ascends.
use Rattle.std.proofs.Common.{◌≡◌, refl, sym, ◌∙◌, ap, subst, List, [], ◌∷◌, ℕ, ◌⊎◌, inl, inr, ⊎_elim, arith}
use Rattle.std.specs.Prelude.{Contains}
use Rattle.std.specs.List.{AllByRecursion}
use Rattle.std.specs.List.Sorted.{IsStrictlySortedBy}
use Rattle.std.specs.Ordering.{nat_cmp, ordering_reverse}
use Rattle.std.specs.Cmp.Lexicographic.{slice_cmp}
use Rattle.std.specs.declared.cmp.Ordering.{Ordering}
use Rattle.std.specs.declared.cmp.Ordering.TheVariants.{Less, Equal, Greater}
use Rattle.std.proofs.lemmas.Cmp.{nat_list_cmp_total}
use Rattle.std.proofs.lemmas.List.Elements.{Contains-append_left, Contains-append_right, Contains-append_cases}
use Rattle.std.proofs.lemmas.List.Elements.{Contains-push, Contains-push_cases}
use Rattle.std.proofs.lemmas.Map.Lookups.{exact_bytes}
use Rattle.om_undo.specs.ReadyNames.{placed, inserted}

abbrev compared : List ℕ → List ℕ → Ordering
compared a b = slice_cmp nat_cmp a b

-- a name is below those of a list
abbrev Below : List ℕ → List (List ℕ) → Type 0
Below name names = AllByRecursion (λ m. compared name m ≡ Less) names

abbrev pub Ascend : List (List ℕ) → Type 0
Ascend names = IsStrictlySortedBy (slice_cmp nat_cmp) names

below_lower : (a b : List ℕ) (names : List (List ℕ)) → compared a b ≡ Less → Below b names → Below a names
below_lower a b [] h all = tt
below_lower a b (m ∷ ms) h all = (nat_list_cmp_total.trans a b m h all.0, below_lower a b ms h all.1)

placed_below : (k name m : List ℕ) (ms further : List (List ℕ)) (o : Ordering) → compared k name ≡ Less
    → Below k (m ∷ ms)
    → Below k further → Below k (placed o name m ms further)
placed_below k name m ms further Less h all rest = (h, all)
placed_below k name m ms further Equal h all rest = all
placed_below k name m ms further Greater h all rest = (all.0, rest)

inserted_below : (k name : List ℕ) (names : List (List ℕ)) → compared k name ≡ Less → Below k names
    → Below k (inserted name names)
inserted_below k name [] h all = (h, tt)
inserted_below k name (m ∷ ms) h all =
    placed_below k name m ms (inserted name ms) (compared name m) h all (inserted_below k name ms h all.1)

above : (name m : List ℕ) → compared name m ≡ Greater → compared m name ≡ Less
above name m e = nat_list_cmp_total.antisymm m name ∙ ap ordering_reverse e

placed_ascends : (name m : List ℕ) (ms further : List (List ℕ)) (o : Ordering) → compared name m ≡ o → Below m ms
    → Ascend ms
    → (compared m name ≡ Less → Below m further) → Ascend further → Ascend (placed o name m ms further)
unfolding IsStrictlySortedBy
placed_ascends name m ms further Less e below ascends rest_below rest = (
  (e, below_lower name m ms e below),
  (below, ascends),
)
placed_ascends name m ms further Equal e below ascends rest_below rest = (below, ascends)
placed_ascends name m ms further Greater e below ascends rest_below rest = (rest_below (above name m e), rest)

pub inserted_ascends : (name : List ℕ) (names : List (List ℕ)) → Ascend names → Ascend (inserted name names)
unfolding IsStrictlySortedBy
inserted_ascends name [] h = (tt, tt)
inserted_ascends name (m ∷ ms) h =
    placed_ascends name m ms (inserted name ms) (compared name m) refl h.0 h.1 (λ e. inserted_below m name ms e h.0)
    (inserted_ascends name ms h.1)

-- members

pub stands_first : (n : List ℕ) (names : List (List ℕ)) → Contains (n ∷ names) n
stands_first n names = Contains-append_left (n ∷ []) names n (Contains-push [] n)

pub stands_behind : (m n : List ℕ) (names : List (List ℕ)) → Contains names n → Contains (m ∷ names) n
stands_behind m n names h = Contains-append_right (m ∷ []) names n h

nowhere : (n : List ℕ) (P : Type 0) → Contains [] n → P
nowhere n P h = absurd (omega (arith, h.1))

pub first_or_behind : (m n : List ℕ) (names : List (List ℕ)) → Contains (m ∷ names) n → (m ≡ n) ⊎ Contains names n
first_or_behind m n names h =
    ⊎_elim (λ first. inl (⊎_elim (λ none. nowhere n (m ≡ n) none) (λ is. is) (Contains-push_cases [] m n first)))
    (λ rest. inr rest)
    (Contains-append_cases (m ∷ []) names n h)

placed_has : (name m n : List ℕ) (ms further : List (List ℕ)) (o : Ordering) → Contains (placed o name m ms further) n
    → (Contains further n → (name ≡ n) ⊎ Contains ms n) → (name ≡ n) ⊎ Contains (m ∷ ms) n
placed_has name m n ms further Less h rest = first_or_behind name n (m ∷ ms) h
placed_has name m n ms further Equal h rest = inr h
placed_has name m n ms further Greater h rest =
    ⊎_elim (λ is. inr (subst (λ x. Contains (x ∷ ms) n) (sym is) (stands_first n ms)))
    (λ more. ⊎_elim (λ is. inl is) (λ there. inr (stands_behind m n ms there)) (rest more))
    (first_or_behind m n further h)

-- a name of the longer list is the one that was put in, or was there
pub inserted_has : (name n : List ℕ) (names : List (List ℕ)) → Contains (inserted name names) n → (name ≡ n)
    ⊎ Contains names n
inserted_has name n [] h = first_or_behind name n [] h
inserted_has name n (m ∷ ms) h = placed_has name m n ms (inserted name ms) (compared name m) h
    (λ more. inserted_has name n ms more)

placed_there : (name m : List ℕ) (ms further : List (List ℕ)) (o : Ordering) → compared name m ≡ o
    → Contains further name
    → Contains (placed o name m ms further) name
placed_there name m ms further Less e rest = stands_first name (m ∷ ms)
placed_there name m ms further Equal e rest = subst (λ x. Contains (x ∷ ms) name) (exact_bytes name m e)
    (stands_first name ms)
placed_there name m ms further Greater e rest = stands_behind m name further rest

pub inserted_there : (name : List ℕ) (names : List (List ℕ)) → Contains (inserted name names) name
inserted_there name [] = stands_first name []
inserted_there name (m ∷ ms) = placed_there name m ms (inserted name ms) (compared name m) refl (inserted_there name ms)

placed_keeps : (name m n : List ℕ) (ms further : List (List ℕ)) (o : Ordering) → Contains (m ∷ ms) n
    → (Contains ms n → Contains further n) → Contains (placed o name m ms further) n
placed_keeps name m n ms further Less h rest = stands_behind name n (m ∷ ms) h
placed_keeps name m n ms further Equal h rest = h
placed_keeps name m n ms further Greater h rest =
    ⊎_elim (λ is. subst (λ x. Contains (x ∷ further) n) (sym is) (stands_first n further))
    (λ more. stands_behind m n further (rest more)) (first_or_behind m n ms h)

pub inserted_keeps : (name n : List ℕ) (names : List (List ℕ)) → Contains names n → Contains (inserted name names) n
inserted_keeps name n [] h = nowhere n _ h
inserted_keeps name n (m ∷ ms) h = placed_keeps name m n ms (inserted name ms) (compared name m) h
    (λ more. inserted_keeps name n ms more)
