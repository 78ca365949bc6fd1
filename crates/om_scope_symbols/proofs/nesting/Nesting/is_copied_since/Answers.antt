use Rattle.std.specs.Prelude.{nat_lt}
use Rattle.std.proofs.Common.{◌≡◌, reverse, subst, sym, ap, ◌∙◌}
use Rattle.om_scope_symbols.specs.Landmarks.{Descend, first_deeper, last_within, marks_behind}
use Rattle.om_scope_symbols.specs.Nesting.{copied_since, end_of, marks_without, parallels}
use Rattle.om_scope_symbols.proofs.Parallels.{copied-alone, copied-behind, listings-descend, parallels-descend}
use Rattle.om_scope_symbols.proofs.nesting.Nesting.is_copied_since.Goals as goal
use Rattle.om_scope_symbols.proofs.nesting.Nesting.is_copied_since.Goals.{in-Some, in-None}

pub first_deeper-requires : goal.first_deeper-requires
first_deeper-requires c =
    let constructs = reverse c.self.inside.constructs.items in record {
      descend =
          subst Descend (sym (c.as_slice.ensures.value ∙ c.self.invariant.3))
          (parallels-descend constructs (end_of constructs) c.self.invariant.1).0;
    }

pub last_within-listing-requires : goal.last_within-listing-requires
last_within-listing-requires c =
    let constructs = reverse c.self.inside.constructs.items in
    let name = c.args.name.now in record {
      descend =
          subst Descend (sym (c.items.ensures ∙ c.self.invariant.2 name))
          (listings-descend constructs (end_of constructs) name c.self.invariant.1).0;
    }

pub returns : goal.returns
returns c =
    let constructs = reverse c.self.inside.constructs.items in
    let depth = c.args.depth in
    let name = c.args.name.now in
    let first : first_deeper (parallels constructs) depth ≡ c.first_deeper.result = sym (c.first_deeper.ensures
    ∙ ap (λ teams. first_deeper teams depth) (c.as_slice.ensures.value ∙ c.self.invariant.3)) in
    elim c.match-first_deeper.branch [
      | in-Some w ↦
          let parallel = w.in-Some.parallel in
          ap (λ marks. nat_lt depth marks.copying) (w.marks-is ∙ w.marks_behind-marks.ensures
          ∙ ap (λ listing. marks_behind listing parallel.marks) (w.last_within-listing.ensures
          ∙ ap (λ seen. last_within seen parallel.depth) (w.items.ensures ∙ c.self.invariant.2 name)))
          ∙ copied-behind constructs (end_of constructs) depth name parallel c.self.invariant.1 (first ∙ w.in-Some.is)
          ∙ ap (λ cs. copied_since cs depth name) c.self.view_is
      | in-None w ↦
          ap (λ marks. nat_lt depth marks.copying) (w.marks-is ∙ w.marks_without-marks.ensures
          ∙ ap (λ cs. marks_without cs name) (sym c.self.view_is))
          ∙ copied-alone constructs (end_of constructs) depth name c.self.invariant.1 (first ∙ w.in-None.is)
          ∙ ap (λ cs. copied_since cs depth name) c.self.view_is
    ]
