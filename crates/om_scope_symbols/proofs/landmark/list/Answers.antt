use Rattle.std.proofs.Common.{[], ◌∷◌, ◌++◌, ap, ◌∙◌, if◌then◌else◌}
use Rattle.std.specs.Str.{bytes_eq}
use Rattle.om_scope_symbols.specs.Landmarks.{marks_behind}
use Rattle.om_scope_symbols.specs.Nesting.{with_listing}
use Rattle.om_scope_symbols.specs.Stacks.{innermost_of, seen_in}
use Rattle.om_scope_symbols.proofs.Marks.{changed-next, noted-listing}
use Rattle.om_scope_symbols.proofs.landmark.list.Goals as goal

pub loop-name-preserved : goal.loop-name-preserved
loop-name-preserved c =
    let now = c.loop-name.listings in
    let text = c.as_slice-text.ensures.value in
    let marks = c.marks_behind-marks.result in (
      c.loop-name.invariant.0,
      c.loop-name.invariant.1,
      changed-next (with_listing c.args.inside c.args.all) c.args.listings.now now c.note.new.self
          c.as_slice-name-items.result.now c.loop-name.name-index c.name-item.result
          c.loop-name-test.true c.name-item.is c.loop-name.invariant.1 c.loop-name.invariant.2
          (noted-listing c.args.inside c.args.all marks now c.note.new.self c.name-item.result.items
          (c.marks_behind-marks.ensures ∙ ap (λ found. marks_behind found c.args.all) (c.innermost.ensures
          ∙ ap (λ n. innermost_of (seen_in now n)) text))
          (λ other. c.in_ok-note.ensures.noted other ∙ ap (λ n. if bytes_eq other n then seen_in now other
          ++ record { depth = c.args.inside; marks = marks } ∷ [] else seen_in now other) text)),
    )
