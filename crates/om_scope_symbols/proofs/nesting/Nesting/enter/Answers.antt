use Rattle.std.proofs.Common.{[], ◌∷◌, ◌++◌, ◌≡◌, suc, reverse, refl, sym, subst, ap, ◌∙◌, arith}
use Rattle.std.proofs.lemmas.List.{reverse-append}
use Rattle.om_scope_symbols.specs.Nesting.{AreHeld, AreNested, ChangedFor, entered, landmark_of, marks_in, marks_of}
use Rattle.om_scope_symbols.specs.Nesting.{parallels, with_listing, with_parallel}
use Rattle.om_scope_symbols.proofs.Marks.{lists-entered}
use Rattle.om_scope_symbols.proofs.nesting.Nesting.enter.Goals as goal

pub invariant_of-self-2 : goal.invariant_of-self-2
invariant_of-self-2 c =
    let items = c.self.inside.constructs.items in
    let outer = reverse items in
    let depth = c.args.depth in
    let region = c.args.region in
    let all : c.marks_of-outer.result ≡ marks_of outer = c.marks_of-outer.ensures ∙ ap (λ cs. marks_of (reverse cs))
    (c.as_slice.ensures.value ∙ c.in_ok-reserve.ensures.items) in
    let marks : c.marks_in-marks.result ≡ marks_in region (suc depth) (marks_of outer) = c.marks_in-marks.ensures
    ∙ ap (λ n. marks_in region n c.marks_of-outer.result) c.requires.next ∙ ap (marks_in region (suc depth)) all in
    let pushed : reverse c.push.new.self.items ≡ entered depth region outer =
    ap reverse (c.in-Ok.ensures.items
    ∙ ap (λ cs. cs ++ record { depth = depth; region = region; marks = c.marks_in-marks.result } ∷ [])
    c.in_ok-reserve.ensures.items)
    ∙ reverse-append items (record { depth = depth; region = region; marks = c.marks_in-marks.result } ∷ [])
    ∙ ap (λ marks. record { depth = depth; region = region; marks = marks } ∷ outer) marks in
    let nested : AreNested outer depth = subst (λ cs. AreNested cs depth) (sym c.self.view_is) c.requires.nested in
    let team : c.note_parallel.new.parallels.items ≡ parallels (entered depth region outer) =
    c.note_parallel.ensures
    ∙ ap (λ marks. with_parallel region.kind (record { depth = c.args.inside; marks = marks })
    c.reserve-2.new.self.items) marks
    ∙ ap (λ n. with_parallel region.kind (record { depth = n; marks = marks_in region (suc depth) (marks_of outer) })
    c.reserve-2.new.self.items) c.requires.next
    ∙ ap (with_parallel region.kind (landmark_of (entered depth region outer))) (c.in_ok-reserve-2.ensures.items
    ∙ c.self.invariant.3) in
    subst (λ cs. AreHeld cs c.list.new.listings c.note_parallel.new.parallels.items) (sym pushed) (
      (refl, c.self.invariant.0),
      (omega arith, nested),
      lists-entered c.self.inside.listings c.list.new.listings outer depth region nested c.self.invariant.2
          (subst (λ n. ChangedFor (with_listing n (marks_of outer)) c.self.inside.listings c.list.new.listings
          region.shared) c.requires.next
          (subst (λ marks. ChangedFor (with_listing c.args.inside marks) c.self.inside.listings c.list.new.listings
          region.shared) all c.in_default.ensures)),
      team,
    )
