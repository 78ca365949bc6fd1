use Rattle.std.proofs.Common.{◌++◌, ◌+◌, ◌<◌, length, [], sym, subst, ap, ◌∙◌, arith, rules}
use Rattle.lab_macros.specs.declared.expanded.Meant.TheVariants as meant
use Rattle.lab_macros.specs.Expansions.{Expands, StandsFor, no_line, told_at}
use Rattle.lab_macros.proofs.ExpansionLaws.{expands_more}
use Rattle.lab_macros.proofs.expanded.expand.Goals as goal

pub lines-init : goal.lines-init
lines-init g c = record {
  so_far = subst (λ told. Expands c.args.place.now [] c.new-plain.result.items told) (sym c.new-told.ensures.items)
      (subst (λ plain. Expands c.args.place.now [] plain []) (sym c.new-plain.ensures.items) no_line);
  within = omega arith;
}

pub lines-preserved : goal.lines-preserved
lines-preserved g c =
    let place = c.args.place.now in
    let line = c.index-line.result.now in
    let stands = subst (λ before. StandsFor place before line.now (meant.Said c.in-Said.said)) c.deref.ensures.value
    (subst (λ m. StandsFor place c.deref.result.now line.now m) c.in-Said.is c.in_ok-said.ensures) in
    let less : c.lines.index < length c.in_ok-lines.lines.items = omega (arith, c.lines-test.true, c.len.ensures) in
    record {
      so_far = expands_more place c.in_ok-lines.lines.items c.lines.index line c.lines.plain.items c.lines.told.items
          c.extend_from_slice.new.self.items c.push_told.new.text.items c.in-Said.said less (search rules)
          c.lines.invariant.so_far stands
          (c.in_ok-extend_from_slice-in-Said.ensures.items ∙ ap (λ t. c.lines.plain.items ++ t) c.as_slice.ensures)
          (c.in_ok-push_told-in-Said.ensures
          ∙ ap (λ words. c.lines.told.items ++ told_at (place.first + c.lines.index) words) c.as_slice-in-Said.ensures);
      within = omega (arith, c.lines-test.true, c.len.ensures);
    }
