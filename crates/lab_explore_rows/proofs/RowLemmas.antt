-- Rows tell states apart.
use Rattle.std.proofs.Common.{◌≡◌, refl, sym, ◌∙◌, ap, subst, ℕ, zero, suc, ◌≤◌, Option, None, Some, List, []}
use Rattle.std.proofs.Common.{◌++◌, length, get_or, ⊎_elim, arith}
use Rattle.std.proofs.Math.Path.{fun_ext}
use Rattle.std.proofs.lemmas.Bool.{cases_lt}
use Rattle.std.proofs.lemmas.List.{get_or_past}
use Rattle.om_foot.specs.declared.object.Obj.{Obj}
use Rattle.om_state.specs.State.{State}
use Rattle.om_state.specs.declared.value.Val.{Val}
use Rattle.lab_explore_words.specs.Laws.{DistinctValues}
use Rattle.lab_explore_words.specs.Values.{value_words}
use Rattle.lab_explore_rows.specs.Laws.{RowsTellApart}
use Rattle.lab_explore_rows.specs.NumberFacts.{one_list}
use Rattle.lab_explore_rows.specs.Rows.{IsEntry, IsEntryAt, IsRow}
use Rattle.lab_explore_rows.specs.Tables.{AreTables, TablesView, place_of}
use Rattle.lab_explore_rows.proofs.CutLemmas.{agree, one_cut}

pub one_value : DistinctValues → (a b : Val) → value_words a ≡ value_words b → a ≡ b
one_value apart a b h = (apart a b [] [] (ap (λ ws. ws ++ []) h)).0

one_entry : (values : List (List ℕ)) (d e : ℕ) (v start : Val) → IsEntry values d v start → IsEntry values e v start
    → d ≡ e
one_entry values zero zero v start g h = refl
one_entry values zero (suc n) v start g h = absurd (h.1 g)
one_entry values (suc m) zero v start g h = absurd (g.1 h)
one_entry values (suc m) (suc n) v start g h = let first = g.0 in let second = h.0 in let is : m ≡ n = cc in ap suc is

entry_value : DistinctValues → (values : List (List ℕ)) (e : ℕ) (v w start : Val) → IsEntry values e v start
    → IsEntry values e w start → v ≡ w
entry_value apart values zero v w start g h = g ∙ sym h
entry_value apart values (suc n) v w start g h =
    one_value apart v w (one_list values (value_words v) (value_words w) n g.0 h.0)

-- two rows of one state agree

module _ (t : TablesView) (start s : State) (a b : List ℕ) (tables : AreTables t.objects t.starts)
    (g : IsRow t start a s) (h : IsRow t start b s) where
  outside : (i : ℕ) → length t.objects ≤ i → get_or a i 0 ≡ get_or b i 0
  outside i past =
      let first = g.short in
      let second = h.short in
      get_or_past a i 0 (omega (arith, past, first)) ∙ sym (get_or_past b i 0 (omega (arith, past, second)))

  inside : (i : ℕ) (q : Obj) → place_of t q ≡ Some i → get_or a i 0 ≡ get_or b i 0
  inside i q is =
      one_entry t.values (get_or a i 0) (get_or b i 0) (s q) (start q)
      (subst (λ o. IsEntryAt t.values a o (s q) (start q)) is (g.entries q refl))
      (subst (λ o. IsEntryAt t.values b o (s q) (start q)) is (h.entries q refl))

  same_entries : (i : ℕ) → get_or a i 0 ≡ get_or b i 0
  same_entries i = ⊎_elim (λ less. let one = tables.places i less in inside i one.0 one.1) (λ past. outside i past)
      (cases_lt i (length t.objects))

-- two states whose rows agree are one

at_object : DistinctValues → (values : List (List ℕ)) (a b : List ℕ) (o : Option ℕ) (v w start : Val)
    → ((i : ℕ) → get_or a i 0 ≡ get_or b i 0) → IsEntryAt values a o v start → IsEntryAt values b o w start → v ≡ w
at_object apart values a b None v w start same g h = g ∙ sym h
at_object apart values a b (Some n) v w start same g h =
    entry_value apart values (get_or a n 0) v w start g (subst (λ e. IsEntry values e w start) (sym (same n)) h)

one_state : DistinctValues → (t : TablesView) (start s u : State) (a b : List ℕ)
    → ((i : ℕ) → get_or a i 0 ≡ get_or b i 0) → IsRow t start a s → IsRow t start b u → s ≡ u
one_state apart t start s u a b same g h = fun_ext λ q.
    at_object apart t.values a b (place_of t q) (s q) (u q) (start q) same (g.entries q refl) (h.entries q refl)

pub tell_apart : DistinctValues → RowsTellApart
tell_apart apart t start s u a b tables g h = (
  (λ cuts. one_state apart t start s u a b (agree a b cuts) g h),
  (λ is. one_cut a b (same_entries t start s a b tables g (subst (λ x. IsRow t start b x) (sym is) h))),
)
