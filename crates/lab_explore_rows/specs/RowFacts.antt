-- Rows whose entries are put, and tables with further numbers: matter of proofs, for whoever changes rows.
use Rattle.std.proofs.Common.{◌≡◌, refl, sym, ◌∙◌, ap, subst, Bool, true, false, cond, ℕ, zero, suc, ◌+◌, ◌≤◌}
use Rattle.std.proofs.Common.{Option, None, Some, List, [], ◌∷◌, ◌++◌, length, get_or, arith}
use Rattle.std.specs.Prelude.{option_map}
use Rattle.std.proofs.lemmas.List.{append-nil, append_assoc, get_or_past, length-append}
use Rattle.om_foot.specs.declared.object.Obj.{Obj}
use Rattle.om_foot.specs.Footprint.{obj_eq}
use Rattle.om_foot.specs.Objects.{obj_eq-true, obj_eq-same}
use Rattle.om_state.specs.State.{State}
use Rattle.om_state.specs.declared.value.Val.{Val}
use Rattle.lab_explore_words.specs.Laws.{DistinctObjects}
use Rattle.lab_explore_words.specs.Objects.{object_words}
use Rattle.lab_explore_words.specs.Values.{value_words}
use Rattle.lab_explore_rows.specs.NumberFacts.{number_before, number_behind, number_below, one_list}
use Rattle.lab_explore_rows.specs.Puts.{PutsAt}
use Rattle.lab_explore_rows.specs.Rows.{IsEntry, IsEntryAt, IsRowBut, is_in}
use Rattle.lab_explore_rows.specs.Tables.{Extends, HaveStarts, TablesView, place_of}
use Rattle.lab_explore_rows.specs.WordTables.{number_of, Keeps}

-- no number changes

pub extends_same : (t : TablesView) → Extends t t
extends_same t = record { objects = ([], sym (append-nil t.objects)); values = λ words n h. h }

pub extends_then : (t u v : TablesView) → Extends t u → Extends u v → Extends t v
extends_then t u v g h = record {
  objects = (
    g.objects.0 ++ h.objects.0,
    h.objects.1 ∙ ap (λ xs. xs ++ h.objects.0) g.objects.1 ∙ append_assoc t.objects g.objects.0 h.objects.0,
  );
  values = λ words n e. h.values words n (g.values words n e);
}

pub place_stays : (t u : TablesView) (q : Obj) (n : ℕ) → Extends t u → place_of t q ≡ Some n → place_of u q ≡ Some n
place_stays t u q n extends h =
    ap (λ xs. number_of xs (object_words q)) extends.objects.1
    ∙ number_before t.objects extends.objects.0 (object_words q) n h

pub starts_stay : (start : State) (t u : TablesView) → Keeps t.values u.values → u.objects ≡ t.objects
    → u.starts ≡ t.starts → HaveStarts start t → HaveStarts start u
starts_stay start t u keeps objects starts h q n e =
    keeps (value_words (start q)) (get_or u.starts n 0)
    (h q n (ap (λ xs. number_of xs (object_words q)) (sym objects) ∙ e)
    ∙ ap (λ xs. Some (get_or xs n 0)) (sym starts))

-- a row by tables with further numbers

entry_keeps : (old new : List (List ℕ)) (e : ℕ) (v start : Val) → Keeps old new → IsEntry old e v start
    → IsEntry new e v start
entry_keeps old new zero v start keeps h = h
entry_keeps old new (suc n) v start keeps h = (keeps (value_words v) n h.0, h.1)

more_at : (objects more values after : List (List ℕ)) (row words : List ℕ) (v start : Val) → Keeps values after
    → length row ≤ length objects → (o : Option ℕ) → number_of objects words ≡ o → IsEntryAt values row o v start
    → IsEntryAt after row (number_of (objects ++ more) words) v start
more_at objects more values after row words v start keeps short (Some n) is h =
    subst (λ o. IsEntryAt after row o v start) (sym (number_before objects more words n is))
    (entry_keeps values after (get_or row n 0) v start keeps h)
more_at objects more values after row words v start keeps short None is h =
    subst (λ o. IsEntryAt after row o v start) (sym (number_behind objects more words is))
    (go (number_of more words))
  where
    go : (o : Option ℕ) → IsEntryAt after row (option_map (λ n. length objects + n) o) v start
    go None = h
    go (Some n) = subst (λ e. IsEntry after e v start)
        (sym (get_or_past row (length objects + n) 0 (omega (arith, short)))) h

pub row_stays : (start : State) (t u : TablesView) (others : List Obj) (row : List ℕ) (s : State) → Extends t u
    → IsRowBut t start others row s → IsRowBut u start others row s
row_stays start t u others row s extends h = record {
  short = let short = h.short in let long = ap length extends.objects.1 in
      omega (arith, short, long, length-append t.objects extends.objects.0);
  entries = λ q not. subst (λ xs. IsEntryAt u.values row (number_of xs (object_words q)) (s q) (start q))
      (sym extends.objects.1)
      (more_at t.objects extends.objects.0 t.values u.values row (object_words q) (s q) (start q) extends.values
      h.short (place_of t q) refl (h.entries q not));
}

-- words that are equal are those of one object
pub one_object : DistinctObjects → (a b : Obj) → object_words a ≡ object_words b → a ≡ b
one_object apart a b h = (apart a b [] [] (ap (λ ws. ws ++ []) h)).0

-- an entry that is put
module _ (apart : DistinctObjects) (t u : TablesView) (start s : State) (place entry : ℕ) (row new : List ℕ)
    (same : u.objects ≡ t.objects) (keeps : Keeps t.values u.values) (puts : PutsAt place entry row new) where
  put_elsewhere : (q : Obj) (o : Option ℕ) → (o ≡ Some place → ⊥) → IsEntryAt t.values row o (s q) (start q)
      → IsEntryAt u.values new o (s q) (start q)
  put_elsewhere q None not h = h
  put_elsewhere q (Some n) not h =
      subst (λ e. IsEntry u.values e (s q) (start q)) (sym (puts.elsewhere n (λ is. not (ap Some is))))
      (entry_keeps t.values u.values (get_or row n 0) (s q) (start q) keeps h)

  put_here : (o q : Obj) → o ≡ q → place_of t o ≡ Some place → IsEntry u.values entry (s o) (start o)
      → IsEntryAt u.values new (place_of t q) (s q) (start q)
  put_here o q is at h =
      subst (λ x. IsEntryAt u.values new (place_of t x) (s x) (start x)) is
      (subst (λ n. IsEntryAt u.values new n (s o) (start o)) (sym at)
      (subst (λ e. IsEntry u.values e (s o) (start o)) (sym puts.here) h))

  pub row_put : (o : Obj) (others : List Obj) → place_of t o ≡ Some place → IsEntry u.values entry (s o) (start o)
      → IsRowBut t start (o ∷ others) row s → IsRowBut u start others new s
  row_put o others at here h = record {
    short = subst (λ xs. length new ≤ length xs) (sym same)
        (puts.short (length t.objects) h.short (number_below t.objects (object_words o) place at));
    entries = λ q not. subst (λ xs. IsEntryAt u.values new (number_of xs (object_words q)) (s q) (start q)) (sym same)
        (go q not (obj_eq o q) refl);
  }
    where
      go : (q : Obj) → is_in others q ≡ false → (b : Bool) → obj_eq o q ≡ b
          → IsEntryAt u.values new (place_of t q) (s q) (start q)
      go q not true e = put_here o q (obj_eq-true o q e) at here
      go q not false e =
          put_elsewhere q (place_of t q)
          (λ is. let one : o ≡ q = one_object apart o q
          (one_list t.objects (object_words o) (object_words q) place at is) in
          let yes : obj_eq o q ≡ true = subst (λ x. obj_eq o x ≡ true) one (obj_eq-same o) in cc)
          (h.entries q (ap (λ b. cond b true (is_in others q)) e ∙ not))
