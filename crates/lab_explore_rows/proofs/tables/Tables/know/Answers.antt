use Rattle.std.proofs.Common.{◌≡◌, refl, sym, ap, subst, ◌∙◌, None, Some, ◌∷◌, [], ◌++◌}
use Rattle.lab_explore_words.specs.Objects.{object_words}
use Rattle.lab_explore_words.specs.Values.{value_words}
use Rattle.lab_explore_rows.specs.NumberFacts.{number_pushed}
use Rattle.lab_explore_rows.specs.RowFacts.{starts_stay}
use Rattle.lab_explore_rows.specs.Tables.{HaveStarts, TablesView, place_in, place_of}
use Rattle.lab_explore_rows.specs.WordTables.{number_of}
use Rattle.lab_explore_rows.proofs.TableLemmas.{starts_pushed, tables_known}
use Rattle.lab_explore_rows.proofs.tables.Tables.know.Goals as goal

pub returns-in_err-number-clause-starts : goal.returns-in_err-number-clause-starts
returns-in_err-number-clause-starts c = λ s is have.
    let t : TablesView = record {
      objects = c.self.inside.objects;
      starts = c.self.inside.starts.items;
      values = c.self.inside.values;
    } in
    starts_stay s t (record t { values = c.number_of_value.new.values }) c.number_of_value.ensures.keeps refl refl
    (subst (λ x. HaveStarts s x) (sym c.self.view_is) have)

pub returns-in_err-reserve-clause-starts : goal.returns-in_err-reserve-clause-starts
returns-in_err-reserve-clause-starts c = λ s is have.
    let t : TablesView = record {
      objects = c.self.inside.objects;
      starts = c.self.inside.starts.items;
      values = c.self.inside.values;
    } in
    let u : TablesView = record {
      objects = c.self.inside.objects;
      starts = c.reserve.new.self.items;
      values = c.number_of_value.new.values;
    } in
    starts_stay s t u c.number_of_value.ensures.keeps refl c.in_err-reserve.ensures.items
    (subst (λ x. HaveStarts s x) (sym c.self.view_is) have)

pub returns-in_err-place-clause-starts : goal.returns-in_err-place-clause-starts
returns-in_err-place-clause-starts c = λ s is have.
    let t : TablesView = record {
      objects = c.self.inside.objects;
      starts = c.self.inside.starts.items;
      values = c.self.inside.values;
    } in
    let u : TablesView = record {
      objects = c.add.new.self;
      starts = c.reserve.new.self.items;
      values = c.number_of_value.new.values;
    } in
    starts_stay s t u c.number_of_value.ensures.keeps c.in_err-place.ensures.unchanged_on_error
    c.in_ok-reserve.ensures.items (subst (λ x. HaveStarts s x) (sym c.self.view_is) have)

pub invariant_of-self-2 : goal.invariant_of-self-2
invariant_of-self-2 c =
    tables_known c.self.inside.objects c.add.new.self c.self.inside.starts.items c.push_reserved.new.self.items
    c.args.object.now c.in_ok-number.number c.self.invariant
    (ap (λ t. place_of t c.args.object.now) c.self.view_is ∙ c.requires)
    (c.in_ok-place.ensures.added
    ∙ ap (λ ws. c.self.inside.objects ++ ws ∷ []) (c.as_slice.ensures.value ∙ c.in_ok-words.ensures))
    (c.push_reserved.ensures.items ∙ ap (λ ns. ns ++ c.in_ok-number.number ∷ []) c.in_ok-reserve.ensures.items)

pub returns-clause-place : goal.returns-clause-place
returns-clause-place c =
    let o = c.args.object.now in
    let unknown : place_in c.self.inside.objects o ≡ None = ap (λ t. place_of t o) c.self.view_is ∙ c.requires in
    let objects : c.add.new.self ≡ c.self.inside.objects ++ object_words o ∷ [] =
    c.in_ok-place.ensures.added
    ∙ ap (λ ws. c.self.inside.objects ++ ws ∷ []) (c.as_slice.ensures.value ∙ c.in_ok-words.ensures) in
    ap (λ os. number_of os (object_words o)) objects
    ∙ number_pushed c.self.inside.objects (object_words o) unknown ∙ ap Some (sym c.in_ok-place.ensures.number)

pub returns-clause-numbered : goal.returns-clause-numbered
returns-clause-numbered c = λ was.
    tables_known c.self.inside.objects c.add.new.self c.self.inside.starts.items c.push_reserved.new.self.items
    c.args.object.now c.in_ok-number.number c.self.invariant
    (ap (λ t. place_of t c.args.object.now) c.self.view_is ∙ c.requires)
    (c.in_ok-place.ensures.added
    ∙ ap (λ ws. c.self.inside.objects ++ ws ∷ []) (c.as_slice.ensures.value ∙ c.in_ok-words.ensures))
    (c.push_reserved.ensures.items ∙ ap (λ ns. ns ++ c.in_ok-number.number ∷ []) c.in_ok-reserve.ensures.items)

pub returns-clause-starts : goal.returns-clause-starts
returns-clause-starts c = λ s is have.
    let o = c.args.object.now in
    let t : TablesView = record {
      objects = c.self.inside.objects;
      starts = c.self.inside.starts.items;
      values = c.self.inside.values;
    } in
    let u : TablesView = record {
      objects = c.add.new.self;
      starts = c.push_reserved.new.self.items;
      values = c.number_of_value.new.values;
    } in
    let pushed : TablesView = record {
      objects = t.objects ++ object_words o ∷ [];
      starts = t.starts ++ c.in_ok-number.number ∷ [];
      values = c.number_of_value.new.values;
    } in
    starts_stay s pushed u (λ words n h. h)
    (c.in_ok-place.ensures.added
    ∙ ap (λ ws. t.objects ++ ws ∷ []) (c.as_slice.ensures.value ∙ c.in_ok-words.ensures))
    (c.push_reserved.ensures.items ∙ ap (λ ns. ns ++ c.in_ok-number.number ∷ []) c.in_ok-reserve.ensures.items)
    (starts_pushed c.distinct_objects.ensures s t c.number_of_value.new.values o c.in_ok-number.number
    c.self.invariant (ap (λ x. place_of x o) c.self.view_is ∙ c.requires) c.number_of_value.ensures.keeps
    (ap (λ v. number_of c.number_of_value.new.values (value_words v)) is ∙ c.in_ok-number.ensures.number)
    (subst (λ x. HaveStarts s x) (sym c.self.view_is) have))
