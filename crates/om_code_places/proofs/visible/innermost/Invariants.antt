use Rattle.std.proofs.Common.{◌≡◌, drop}
use Rattle.om_code_places.specs.Visible.{innermost}
use Rattle.om_code_places.proofs.visible.innermost.Given as goal

abbrev pub invariant-loop-scope : goal.invariant-loop-scope
invariant-loop-scope l = innermost l.at l.name (drop l.scope-index l.scopes) ≡ innermost l.at l.name l.scopes
