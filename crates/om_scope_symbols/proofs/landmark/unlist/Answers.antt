use Rattle.std.proofs.Common.{ap, ◌∙◌, if◌then◌else◌}
use Rattle.std.specs.Str.{bytes_eq}
use Rattle.om_scope_symbols.specs.Stacks.{seen_in, without_innermost}
use Rattle.om_scope_symbols.proofs.Marks.{changed-next}
use Rattle.om_scope_symbols.proofs.landmark.unlist.Goals as goal

pub loop-name-preserved : goal.loop-name-preserved
loop-name-preserved c =
    let before = c.loop-name.listings in (
      c.loop-name.invariant.0,
      c.loop-name.invariant.1,
      changed-next without_innermost c.args.listings.now before c.forget.new.self c.as_slice-name-items.result.now
          c.loop-name.name-index c.name-item.result
          c.loop-name-test.true c.name-item.is c.loop-name.invariant.1 c.loop-name.invariant.2
          (λ other. c.forget.ensures other ∙ ap (λ n. if bytes_eq other n then without_innermost
          (seen_in before other) else seen_in before other) c.as_slice.ensures.value),
    )
