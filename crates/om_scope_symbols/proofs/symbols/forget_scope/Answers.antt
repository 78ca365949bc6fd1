use Rattle.std.proofs.Common.{[], ◌∷◌, if◌then◌else◌, arith, length, length-append, subst, ap, ◌∙◌}
use Rattle.std.specs.Str.{bytes_eq}
use Rattle.om_scope_symbols.specs.Sightings.{Shows}
use Rattle.om_scope_symbols.specs.Stacks.{seen_in, without_innermost}
use Rattle.om_scope_symbols.proofs.Seen.{shows-pop}
use Rattle.om_scope_symbols.proofs.symbols.forget_scope.Goals as goal

pub loop-name-preserved : goal.loop-name-preserved
loop-name-preserved c outer shown =
    let name = c.in-Some.name in
    let left = c.pop.new.self in
    let table = c.loop-name.sightings in
    let last = c.in-Some.ensures.last in
    shows-pop table c.forget.new.self left outer name.items last.0 last.2
    (λ other. c.forget.ensures other ∙ ap (λ n. if bytes_eq other n then without_innermost (seen_in table other)
    else seen_in table other) c.as_slice.ensures.value)
    (subst (λ scope. Shows table (scope ∷ outer)) last.1 (c.loop-name.invariant outer shown))

pub loop-name-smaller : goal.loop-name-smaller
loop-name-smaller c =
    let last = c.in-Some.ensures.last in
    omega (arith, ap length last.1, length-append c.pop.new.self ((c.in-Some.name.items, last.0) ∷ []))

pub returns : goal.returns
returns c outer shown = subst (λ scope. Shows c.loop-name.sightings (scope ∷ outer)) c.in_default.ensures.last
    (c.loop-name.invariant outer shown)
