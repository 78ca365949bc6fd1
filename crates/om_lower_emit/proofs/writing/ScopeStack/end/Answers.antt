use Rattle.std.proofs.Common.{◌<◌, ◌∷◌, [], ap, arith, length, length-append, refl}
use Rattle.om_lower_emit.proofs.ScopeStacks.{ends_more, ends_none}
use Rattle.om_lower_emit.proofs.writing.ScopeStack.end.Goals as goal

pub loop-turn-init : goal.loop-turn-init
loop-turn-init c = λ h. (refl, λ d e. e)

pub loop-turn-preserved : goal.loop-turn-preserved
loop-turn-preserved c = λ h.
    let left = (c.loop-turn.invariant h).0 in
    let more : c.args.height < length c.loop-turn.self.opened.items = omega (
      arith,
      left,
      c.loop-turn-test.true,
      c.len-turn-end.ensures,
      c.args.self.now.opened.ok.0,
    ) in
    let one = c.in_ok-end_last.ensures (omega (arith, more)) in (
      omega (arith, left, ap length one.opened, length-append c.end_last.new.self.opened.items (one.last ∷ [])),
      λ d e. (c.loop-turn.invariant h).1 d (ends_more _ _ d c.args.height c.args.to more one e),
    )

pub returns : goal.returns
returns c = λ h.
    let left = (c.loop-turn.invariant h).0 in
    (c.loop-turn.invariant h).1 c.loop-turn.self (ends_none c.loop-turn.self c.args.height c.args.to
    (omega (
      arith,
      left,
      h,
      c.loop-turn-test.false,
      c.len-turn-end.ensures,
      c.args.self.now.opened.ok.0,
      c.loop-turn.auto._turn-end,
    )))
