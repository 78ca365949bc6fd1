use Rattle.std.proofs.Common.{◌≡◌, Some, ap, subst, sym, ◌∙◌, arith}
use Rattle.std.proofs.lemmas.Grind.{get_or_default_zero}
use Rattle.lab_explore_rows.specs.Tables.{HaveStarts, TablesView, place_of}
use Rattle.lab_explore_rows.proofs.TableLemmas.{entry_of_other, entry_of_start, start_below}
use Rattle.lab_explore_rows.proofs.tables.Tables.entry.Goals as goal

pub index-requires : goal.index-requires
index-requires c =
    let below = start_below c.self.inside.objects c.self.inside.starts.items c.requires.0 c.args.place c.self.invariant
    (ap (λ t. place_of t c.requires.0) c.self.view_is ∙ c.requires.1) in
    let long = c.self.inside.starts.ok.0 in
    omega (arith, below, long)

pub returns-then-number-index-clause-entry : goal.returns-then-number-index-clause-entry
returns-then-number-index-clause-entry c = λ s q have at.
    let t : TablesView = record {
      objects = c.self.inside.objects;
      starts = c.self.inside.starts.items;
      values = c.self.inside.values;
    } in
    let here : place_of t q ≡ Some c.args.place =
    subst (λ x. place_of x q ≡ Some c.args.place) (sym c.self.view_is) at in
    entry_of_start c.distinct_values.ensures s t c.number_of_value.new.values c.args.value.now c.in_ok-number.number
    c.args.place c.number_of_value.ensures.keeps c.in_ok-number.ensures.number
    (subst (λ x. HaveStarts s x) (sym c.self.view_is) have) q here
    (c.if-number-index.true ∙ c.index.ensures
    ∙ get_or_default_zero t.starts c.args.place c.index.result.now
    (start_below t.objects t.starts q c.args.place c.self.invariant here))

pub returns-clause-entry : goal.returns-clause-entry
returns-clause-entry c = λ s q have at.
    let t : TablesView = record {
      objects = c.self.inside.objects;
      starts = c.self.inside.starts.items;
      values = c.self.inside.values;
    } in
    let here : place_of t q ≡ Some c.args.place =
    subst (λ x. place_of x q ≡ Some c.args.place) (sym c.self.view_is) at in
    entry_of_other c.distinct_values.ensures s t c.number_of_value.new.values c.args.value.now c.in_ok-number.number
    c.args.place c.number_of_value.ensures.keeps c.in_ok-number.ensures.number
    (subst (λ x. HaveStarts s x) (sym c.self.view_is) have) q here
    (λ is. c.if-number-index.false (is ∙ sym (c.index.ensures
    ∙ get_or_default_zero t.starts c.args.place c.index.result.now
    (start_below t.objects t.starts q c.args.place c.self.invariant here))))
