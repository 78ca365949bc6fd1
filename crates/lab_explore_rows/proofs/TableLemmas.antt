-- Numbers of objects and of values.
use Rattle.std.proofs.Common.{◌≡◌, refl, sym, ◌∙◌, ap, subst, Bool, true, false, cond, nat_eq, ℕ, suc, ◌+◌, ◌<◌}
use Rattle.std.proofs.Common.{Option, None, Some, List, [], ◌∷◌, ◌++◌, length, get_or, ◌⊎◌, ⊎_elim, inl, inr, arith}
use Rattle.std.specs.Prelude.{option_map}
use Rattle.std.specs.Cmp.Lexicographic.{pointwise}
use Rattle.std.proofs.lemmas.Bool.{cases_lt}
use Rattle.std.proofs.lemmas.List.{length-append, get_or_append_left, get_or-append-add}
use Rattle.om_foot.specs.Below.{same_list}
use Rattle.om_foot.specs.declared.object.Obj.{Obj}
use Rattle.om_state.specs.State.{State}
use Rattle.om_state.specs.declared.value.Val.{Val}
use Rattle.lab_explore_words.specs.Laws.{DistinctObjects, DistinctValues}
use Rattle.lab_explore_words.specs.Objects.{object_words}
use Rattle.lab_explore_words.specs.Values.{value_words}
use Rattle.lab_explore_rows.specs.NumberFacts.{number_before, number_behind, number_below, number_pushed, one_list}
use Rattle.lab_explore_rows.specs.RowFacts.{one_object}
use Rattle.lab_explore_rows.specs.Rows.{IsEntry}
use Rattle.lab_explore_rows.specs.Tables.{AreTables, HaveStarts, TablesView, place_in, place_of}
use Rattle.lab_explore_rows.specs.WordTables.{number_of, Keeps}
use Rattle.lab_explore_rows.proofs.RowLemmas.{one_value}

at_end : (xs : List ℕ) (x : ℕ) → get_or (xs ++ x ∷ []) (length xs + 0) 0 ≡ x
at_end xs x = get_or-append-add xs (x ∷ []) 0 0

either : (m k j : ℕ) → m < j → j ≡ k + 1 → (m < k) ⊎ (k ≡ m)
either m k j a b = ⊎_elim (λ less. inl less) (λ ge. inr (omega (arith, a, b, ge))) (cases_lt m k)

-- an object that gets a number

module _ (objects : List (List ℕ)) (starts : List ℕ) (o : Obj) (first : ℕ) (h : AreTables objects starts)
    (unknown : place_in objects o ≡ None) where
  place_at : (n : ℕ) → n < length (objects ++ object_words o ∷ [])
      → (q : Obj) × (place_in (objects ++ object_words o ∷ []) q ≡ Some n)
  place_at n less = ⊎_elim
      (λ old. let one = h.places n old in
      (one.0, number_before objects (object_words o ∷ []) (object_words one.0) n one.1))
      (λ is. (o, number_pushed objects (object_words o) unknown ∙ ap Some is))
      (either n (length objects) (length (objects ++ object_words o ∷ [])) less
      (length-append objects (object_words o ∷ [])))

  tables_pushed : AreTables (objects ++ object_words o ∷ []) (starts ++ first ∷ [])
  tables_pushed = record {
    lengths = length-append starts (first ∷ []) ∙ ap (λ k. k + 1) h.lengths
        ∙ sym (length-append objects (object_words o ∷ []));
    places = place_at;
  }

pub tables_known : (objects os : List (List ℕ)) (starts ns : List ℕ) (o : Obj) (first : ℕ) → AreTables objects starts
    → place_in objects o ≡ None → os ≡ objects ++ object_words o ∷ [] → ns ≡ starts ++ first ∷ [] → AreTables os ns
tables_known objects os starts ns o first h unknown is are =
    subst (λ xs. AreTables xs ns) (sym is)
    (subst (λ xs. AreTables (objects ++ object_words o ∷ []) xs) (sym are)
    (tables_pushed objects starts o first h unknown))

module _ (apart : DistinctObjects) (start : State) (t : TablesView) (values : List (List ℕ)) (o : Obj) (first : ℕ)
    (h : AreTables t.objects t.starts) (unknown : place_of t o ≡ None) (keeps : Keeps t.values values)
    (value : number_of values (value_words (start o)) ≡ Some first) (have : HaveStarts start t) where
  old_number : (q : Obj) (n m : ℕ) → place_in (t.objects ++ object_words o ∷ []) q ≡ Some n → place_of t q ≡ Some m
      → number_of values (value_words (start q)) ≡ Some (get_or (t.starts ++ first ∷ []) n 0)
  old_number q n m e was =
      let same : Some m ≡ Some n =
      sym (number_before t.objects (object_words o ∷ []) (object_words q) m was) ∙ e in
      let is : m ≡ n = cc in
      let below : m < length t.objects = number_below t.objects (object_words q) m was in
      let lengths = h.lengths in
      let less : m < length t.starts = omega (arith, below, lengths) in
      keeps (value_words (start q)) (get_or (t.starts ++ first ∷ []) n 0)
      (have q m was ∙ ap Some (sym (get_or_append_left t.starts (first ∷ []) 0 m less)
      ∙ ap (λ k. get_or (t.starts ++ first ∷ []) k 0) is))

  new_number : (q : Obj) (n : ℕ) → place_in (t.objects ++ object_words o ∷ []) q ≡ Some n → place_of t q ≡ None
      → number_of values (value_words (start q)) ≡ Some (get_or (t.starts ++ first ∷ []) n 0)
  new_number q n e was = go (pointwise nat_eq (object_words q) (object_words o)) refl
      (sym (number_behind t.objects (object_words o ∷ []) (object_words q) was) ∙ e)
    where
      go : (b : Bool) → pointwise nat_eq (object_words q) (object_words o) ≡ b
          → option_map (λ k. length t.objects + k) (cond b (Some 0) None) ≡ Some n
          → number_of values (value_words (start q)) ≡ Some (get_or (t.starts ++ first ∷ []) n 0)
      go true f g =
          let same : q ≡ o = one_object apart q o ((same_list (object_words q) (object_words o)).0 f) in
          let is : length t.objects + 0 ≡ n = cc in
          let lengths = h.lengths in
          let last : n ≡ length t.starts + 0 = omega (arith, is, lengths) in
          ap (λ x. number_of values (value_words (start x))) same ∙ value
          ∙ ap Some (sym (ap (λ k. get_or (t.starts ++ first ∷ []) k 0) last ∙ at_end t.starts first))
      go false f g = cc

  pub starts_pushed : HaveStarts start (record {
    objects = t.objects ++ object_words o ∷ [];
    starts = t.starts ++ first ∷ [];
    values = values;
  })
  starts_pushed q n e = go (place_of t q) refl
    where
      go : (x : Option ℕ) → place_of t q ≡ x
          → number_of values (value_words (start q)) ≡ Some (get_or (t.starts ++ first ∷ []) n 0)
      go None was = new_number q n e was
      go (Some m) was = old_number q n m e was

-- the entry of a value, which has a number

pub start_below : (objects : List (List ℕ)) (starts : List ℕ) (q : Obj) (n : ℕ) → AreTables objects starts
    → place_in objects q ≡ Some n → n < length starts
start_below objects starts q n h at =
    let below : n < length objects = number_below objects (object_words q) n at in
    let lengths = h.lengths in
    omega (arith, below, lengths)

module _ (apart : DistinctValues) (start : State) (t : TablesView) (values : List (List ℕ)) (v : Val) (number place : ℕ)
    (keeps : Keeps t.values values) (has : number_of values (value_words v) ≡ Some number) (have : HaveStarts start t)
    (q : Obj) (at : place_of t q ≡ Some place) where
  first_number : number_of values (value_words (start q)) ≡ Some (get_or t.starts place 0)
  first_number = keeps (value_words (start q)) (get_or t.starts place 0) (have q place at)

  pub entry_of_start : number ≡ get_or t.starts place 0 → IsEntry values 0 v (start q)
  entry_of_start is =
      one_value apart v (start q) (one_list values (value_words v) (value_words (start q)) number has
      (first_number ∙ ap Some (sym is)))

  pub entry_of_other : (number ≡ get_or t.starts place 0 → ⊥) → IsEntry values (number + 1) v (start q)
  entry_of_other not =
      let is : suc number ≡ number + 1 = omega arith in
      subst (λ e. IsEntry values e v (start q)) is (has, λ same. not (one_number same))
    where
      one_number : v ≡ start q → number ≡ get_or t.starts place 0
      one_number same =
          let numbers : Some number ≡ Some (get_or t.starts place 0) =
          sym has ∙ ap (λ x. number_of values (value_words x)) same ∙ first_number in
          cc
