-- Sets of states.
use Rattle.std.proofs.Common.{◌≡◌, refl, sym, ◌∙◌, ap, subst, Bool, true, false, cond, nat_eq, ℕ, suc, Option, None, Some}
use Rattle.std.proofs.Common.{List, [], ◌∷◌, ◌++◌, arith, reverse, ⊎_elim, ◌⊎◌, inl, inr}
use Rattle.std.specs.Prelude.{Contains, is_some, map, option_map}
use Rattle.std.specs.List.{AllByRecursion}
use Rattle.std.specs.Cmp.Lexicographic.{pointwise}
use Rattle.std.proofs.lemmas.List.{reverse-append}
use Rattle.std.proofs.lemmas.List.Elements.{Contains-append_left, Contains-append_right, Contains-append_cases}
use Rattle.std.proofs.lemmas.List.Elements.{Contains-push, Contains-push_cases}
use Rattle.om_foot.specs.Below.{same_list}
use Rattle.om_code.specs.declared.raw.Raw.{Raw}
use Rattle.om_state.specs.State.{State}
use Rattle.om_undo.specs.Machines.{state_in}
use Rattle.lab_explore_rows.specs.Laws.{RowsTellApart}
use Rattle.lab_explore_rows.specs.RowFacts.{row_stays}
use Rattle.lab_explore_rows.specs.Rows.{IsRow}
use Rattle.lab_explore_rows.specs.Tables.{Extends, TablesView, no_tables}
use Rattle.lab_explore_rows.specs.WordTables.{number_of}
use Rattle.lab_explore_states.specs.declared.standing.Standing.{Standing}
use Rattle.lab_explore_states.specs.Standings.{AreKept, IsSame, IsStanding, PutsIn, cut_of}
use Rattle.lab_explore_states.specs.Standings.{machine_of, state_of}
use Rattle.lab_explore_states.specs.Sets.{Inserts, StatesView, WalkView, gone_to, seen}
use Rattle.lab_explore_states.specs.Touched.{AreBy}

same_words : (xs ys : List ℕ) → pointwise nat_eq xs ys ≡ true → xs ≡ ys
same_words xs ys h = (same_list xs ys).0 h

own_words : (xs ys : List ℕ) → xs ≡ ys → pointwise nat_eq xs ys ≡ true
own_words xs ys h = (same_list xs ys).1 h

-- a list with an item in front

cases : (x : State) (xs : List State) (y : State) → Contains (x ∷ xs) y → (x ≡ y) ⊎ Contains xs y
cases x xs y h = ⊎_elim
    (λ one. ⊎_elim (λ none. absurd (omega (arith, none.1))) (λ is. inl is) (Contains-push_cases [] x y one))
    (λ rest. inr rest) (Contains-append_cases (x ∷ []) xs y h)

first : (x : State) (xs : List State) → Contains (x ∷ xs) x
first x xs = Contains-append_left (x ∷ []) xs x (Contains-push [] x)

-- what is true of each item

pub all_pushed : {A : Type 0} → (P : A → Type 0) (xs : List A) (x : A) → AllByRecursion P xs → P x
    → AllByRecursion P (xs ++ x ∷ [])
all_pushed P [] x all one = (one, tt)
all_pushed P (y ∷ ys) x all one = (all.0, all_pushed P ys x all.1 one)

pub all_before : {A : Type 0} → (P : A → Type 0) (xs : List A) (x : A) → AllByRecursion P (xs ++ x ∷ [])
    → AllByRecursion P xs × P x
all_before P [] x all = (tt, all.0)
all_before P (y ∷ ys) x all = let rest = all_before P ys x all.1 in ((all.0, rest.0), rest.1)

all_more : {A : Type 0} → (P Q : A → Type 0) (xs : List A) → ((x : A) → P x → Q x) → AllByRecursion P xs
    → AllByRecursion Q xs
all_more P Q [] more all = tt
all_more P Q (x ∷ xs) more all = (more x all.0, all_more P Q xs more all.1)

-- further numbers

pub kept_more : (start : State) (t u : TablesView) (here : Standing) (past : List Standing) (rows : List (List ℕ))
    (states : List Standing) → Extends t u → AreBy start u → AreKept start t here past rows states
    → AreKept start u here past rows states
kept_more start t u here past rows states extends by_start kept = record {
  by_start = by_start;
  stands = row_stays start t u [] here.row (state_of here) extends kept.stands;
  stood = all_more (IsStanding start t) (IsStanding start u) past
      (λ x h. row_stays start t u [] x.row (state_of x) extends h) kept.stood;
  stored = all_more (IsStanding start t) (IsStanding start u) states
      (λ x h. row_stays start t u [] x.row (state_of x) extends h) kept.stored;
  cuts = kept.cuts;
}

-- rows that are there, and states

module _ (apart : RowsTellApart) (start : State) (t : TablesView) (here : Standing) (by_start : AreBy start t)
    (stands : IsStanding start t here) where
  pub is_there : (states : List Standing) (n : ℕ) → AllByRecursion (IsStanding start t) states
      → number_of (map cut_of states) (cut_of here) ≡ Some n → Contains (map state_of states) (state_of here)
  is_there [] n all h = cc
  is_there (x ∷ xs) n all h =
      go (pointwise nat_eq (cut_of here) (cut_of x)) refl (number_of (map cut_of xs) (cut_of here))
      (λ k e. is_there xs k all.1 e) h
    where
      go : (b : Bool) → pointwise nat_eq (cut_of here) (cut_of x) ≡ b → (o : Option ℕ)
          → ((k : ℕ) → o ≡ Some k → Contains (map state_of xs) (state_of here))
          → cond b (Some 0) (option_map suc o) ≡ Some n
          → Contains (state_of x ∷ map state_of xs) (state_of here)
      go true e o rest g =
          let is : state_of x ≡ state_of here =
          (apart t start (state_of x) (state_of here) x.row here.row by_start.tables all.0 stands).0
          (sym (same_words (cut_of here) (cut_of x) e)) in
          subst (λ s. Contains (state_of x ∷ map state_of xs) s) is (first (state_of x) (map state_of xs))
      go false e None rest g = cc
      go false e (Some k) rest g =
          Contains-append_right (state_of x ∷ []) (map state_of xs) (state_of here) (rest k refl)

  pub is_new : (states : List Standing) → AllByRecursion (IsStanding start t) states
      → number_of (map cut_of states) (cut_of here) ≡ None → ¬ Contains (map state_of states) (state_of here)
  is_new [] all h there = absurd (omega (arith, there.1))
  is_new (x ∷ xs) all h there =
      go (pointwise nat_eq (cut_of here) (cut_of x)) refl (number_of (map cut_of xs) (cut_of here))
      (λ e. is_new xs all.1 e) h
    where
      same : state_of x ≡ state_of here → cut_of here ≡ cut_of x
      same is = sym ((apart t start (state_of x) (state_of here) x.row here.row by_start.tables all.0 stands).1 is)

      go : (b : Bool) → pointwise nat_eq (cut_of here) (cut_of x) ≡ b → (o : Option ℕ)
          → (o ≡ None → ¬ Contains (map state_of xs) (state_of here))
          → cond b (Some 0) (option_map suc o) ≡ None → ⊥
      go true e o rest g = cc
      go false e None rest g = ⊎_elim
          (λ is. let yes : pointwise nat_eq (cut_of here) (cut_of x) ≡ true =
          own_words (cut_of here) (cut_of x) (same is) in cc)
          (λ behind. rest refl behind) (cases (state_of x) (map state_of xs) (state_of here) there)
      go false e (Some k) rest g = cc

-- where a set stands

pub map_pushed : {A B : Type 0} → (f : A → B) (xs : List A) (x : A) → map f (xs ++ x ∷ []) ≡ map f xs ++ f x ∷ []
map_pushed f [] x = refl
map_pushed f (y ∷ ys) x = ap (λ zs. f y ∷ zs) (map_pushed f ys x)

pub kept_at_start : (start : State) (here : Standing) → here.row ≡ [] → state_of here ≡ start
    → AreKept start no_tables here [] [] []
kept_at_start start here row at = record {
  by_start = record {
    tables = record { lengths = refl; places = λ n less. absurd (omega (arith, less)) };
    starts = λ q n e. cc;
  };
  stands = subst (λ xs. IsRow no_tables start xs (state_of here)) (sym row)
      (record { short = omega arith; entries = λ q not. ap (λ (s : State). s q) at });
  stood = tt;
  stored = tt;
  cuts = refl;
}

module _ (start : State) (t : TablesView) (here there : Standing) (past : List Standing) (rows : List (List ℕ))
    (states : List Standing) where
  pub kept_taken : AreKept start t here past rows states → IsStanding start t there
      → AreKept start t there (past ++ here ∷ []) rows states
  kept_taken kept stands = record {
    by_start = kept.by_start;
    stands = stands;
    stood = all_pushed (IsStanding start t) past here kept.stood kept.stands;
    stored = kept.stored;
    cuts = kept.cuts;
  }

  pub kept_back : AreKept start t here (past ++ there ∷ []) rows states → AreKept start t there past rows states
  kept_back kept = let all = all_before (IsStanding start t) past there kept.stood in record {
    by_start = kept.by_start;
    stands = all.1;
    stood = all.0;
    stored = kept.stored;
    cuts = kept.cuts;
  }

  pub kept_inserted : AreKept start t here past rows states
      → AreKept start t here past (rows ++ cut_of here ∷ []) (states ++ here ∷ [])
  kept_inserted kept = record {
    by_start = kept.by_start;
    stands = kept.stands;
    stood = kept.stood;
    stored = all_pushed (IsStanding start t) states here kept.stored kept.stands;
    cuts = ap (λ xs. xs ++ cut_of here ∷ []) kept.cuts ∙ sym (map_pushed cut_of states here);
  }

-- the states of machines

pub states_are : (xs : List Standing) → map state_in (map machine_of xs) ≡ map state_of xs
states_are [] = refl
states_are (x ∷ xs) = ap (λ ss. state_of x ∷ ss) (states_are xs)

-- where a set stood before

module _ (apart : RowsTellApart) (start : State) (t : TablesView) (here : Standing) (by_start : AreBy start t)
    (stands : IsStanding start t here) where
  stood : (xs : List Standing) (x : Standing) → AllByRecursion (IsStanding start t) xs → Contains xs x
      → cut_of x ≡ cut_of here → Contains (map state_of (reverse xs)) (state_of here)
  stood [] x all at is = absurd (omega (arith, at.1))
  stood (y ∷ ys) x all at is =
      let turned : map state_of (reverse (y ∷ ys)) ≡ map state_of (reverse ys) ++ state_of y ∷ [] =
      ap (map state_of) (reverse-append (y ∷ []) ys) ∙ map_pushed state_of (reverse ys) y in
      subst (λ ss. Contains ss (state_of here)) (sym turned)
      (⊎_elim
      (λ same. subst (λ s. Contains (map state_of (reverse ys) ++ state_of y ∷ []) s)
      ((apart t start (state_of y) (state_of here) y.row here.row by_start.tables all.0 stands).0
      (ap cut_of same ∙ is)) (Contains-push (map state_of (reverse ys)) (state_of y)))
      (λ rest. Contains-append_left (map state_of (reverse ys)) (state_of y ∷ []) (state_of here)
      (stood ys x all.1 rest is))
      (⊎_elim
      (λ one. ⊎_elim (λ none. absurd (omega (arith, none.1))) (λ is. inl is) (Contains-push_cases [] y x one))
      (λ rest. inr rest) (Contains-append_cases (y ∷ []) ys x at)))

-- it stood at a state where a row is that of its row now
pub stood_there : (apart : RowsTellApart) (start : State) (t : TablesView) (here : Standing) (past : List Standing)
    (rows : List (List ℕ)) (states : List Standing) → AreKept start t here past rows states
    → (x : Standing) → Contains past x → cut_of x ≡ cut_of here
    → Contains (map state_in (map machine_of (reverse past))) (state_of here)
stood_there apart start t here past rows states kept x at is =
    subst (λ ss. Contains ss (state_of here)) (sym (states_are (reverse past)))
    (stood apart start t here kept.by_start kept.stands past x kept.stood at is)

-- what is put in

module _ (apart : RowsTellApart) (start : State) (t : TablesView) (here : Standing) (past : List Standing)
    (rows : List (List ℕ)) (states : List Standing) (kept : AreKept start t here past rows states) where
  pub put_new : number_of rows (cut_of here) ≡ None → ¬ Contains (map state_of states) (state_of here)
  put_new none = is_new apart start t here kept.by_start kept.stands states kept.stored
      (ap (λ xs. number_of xs (cut_of here)) (sym kept.cuts) ∙ none)

  pub put_there : (n : ℕ) → number_of rows (cut_of here) ≡ Some n → Contains (map state_of states) (state_of here)
  put_there n is = is_there apart start t here kept.by_start kept.stands states n kept.stored
      (ap (λ xs. number_of xs (cut_of here)) (sym kept.cuts) ∙ is)

-- whether a row is there
pub some_of : (o : Option ℕ) → is_some o ≡ true → (n : ℕ) × (o ≡ Some n)
some_of (Some n) h = (n, refl)
some_of None h = cc

-- a set that is new
pub kept_new : (start : State) (t : TablesView) (here : Standing) (past : List Standing) (rows : List (List ℕ))
    (states : List Standing) → t ≡ no_tables → here.row ≡ [] → state_of here ≡ start → past ≡ [] → rows ≡ []
    → states ≡ [] → AreKept start t here past rows states
kept_new start t here past rows states tables row at before none empty =
    subst (λ x. AreKept start x here past rows states) (sym tables)
    (subst (λ xs. AreKept start no_tables here xs rows states) (sym before)
    (subst (λ xs. AreKept start no_tables here [] xs states) (sym none)
    (subst (λ xs. AreKept start no_tables here [] [] xs) (sym empty) (kept_at_start start here row at))))

-- a set behind what is put in

module _ (start : State) (t : TablesView) (here : Standing) (past : List Standing) (rows new_rows : List (List ℕ))
    (states new_states : List Standing) where
  pub kept_same : AreKept start t here past rows states → IsSame rows states new_rows new_states
      → AreKept start t here past new_rows new_states
  kept_same kept same =
      subst (λ xs. AreKept start t here past xs new_states) (sym same.0)
      (subst (λ xs. AreKept start t here past rows xs) (sym same.1) kept)

  pub kept_put : (added : Bool) → AreKept start t here past rows states
      → PutsIn here added rows states new_rows new_states → AreKept start t here past new_rows new_states
  kept_put true kept puts =
      subst (λ xs. AreKept start t here past xs new_states) (sym puts.1)
      (subst (λ xs. AreKept start t here past (rows ++ cut_of here ∷ []) xs) (sym puts.2)
      (kept_inserted start t here here past rows states kept))
  kept_put false kept puts = kept_same kept (puts.1, puts.2)

abbrev seen_with : Raw → ℕ → State → List State → List State → StatesView
seen_with program workers at past states = record {
  program = program;
  workers = workers;
  at = at;
  past = past;
  states = states;
}

abbrev pub walk : Standing → List Standing → Raw → ℕ → List Standing → WalkView
walk here past program workers states = record {
  program = program;
  workers = workers;
  at = machine_of here;
  past = map machine_of past;
  states = map machine_of states;
}

-- a set behind a step
pub follows_taken : (program : Raw) (workers : ℕ) (here there next : Standing) (past pushed states : List Standing)
    (s : State) → next ≡ there → state_of there ≡ s → pushed ≡ past ++ here ∷ []
    → seen (walk next (reverse pushed) program workers states)
    ≡ gone_to s (seen (walk here (reverse past) program workers states))
follows_taken program workers here there next past pushed states s is at more =
    let now : state_of next ≡ s = ap state_of is ∙ at in
    let before : map state_in (map machine_of (reverse pushed))
    ≡ state_of here ∷ map state_in (map machine_of (reverse past)) =
    ap (λ xs. map state_in (map machine_of (reverse xs))) more
    ∙ ap (λ xs. map state_in (map machine_of xs)) (reverse-append past (here ∷ [])) in
    λ i. seen_with program workers (now i) (before i) (map state_in (map machine_of states))

module _ (apart : RowsTellApart) (start : State) (t : TablesView) (here : Standing) (before past : List Standing)
    (rows new_rows : List (List ℕ)) (states new_states : List Standing) (program : Raw) (workers : ℕ) where
  pub inserts_put : (added : Bool) → AreKept start t here before rows states
      → PutsIn here added rows states new_rows new_states → Inserts added
      (seen (walk here past program workers states)) (seen (walk here past program workers new_states))
  inserts_put true kept puts = (
    subst (λ xs. ¬ Contains xs (state_of here)) (sym (states_are states))
        (put_new apart start t here before rows states kept puts.0),
    ap (λ xs. seen_with program workers (state_of here) (map state_in (map machine_of past)) xs)
        (ap (λ xs. map state_in (map machine_of xs)) puts.2 ∙ ap (map state_in) (map_pushed machine_of states here)
        ∙ map_pushed state_in (map machine_of states) (machine_of here)),
  )
  inserts_put false kept puts = (
    subst (λ xs. Contains xs (state_of here)) (sym (states_are states))
        (put_there apart start t here before rows states kept puts.0.0 puts.0.1),
    ap (λ xs. seen (walk here past program workers xs)) puts.2,
  )
