use Rattle.std.proofs.Common.{◌∙◌, sym}
use Rattle.om_cells.proofs.PlaceLemmas.{known_of, known_there}
use Rattle.om_cells.proofs.named.know.Goals as goal

pub returns-then-contains_key-clause-known : goal.returns-then-contains_key-clause-known
returns-then-contains_key-clause-known c = sym c.contains_key.ensures ∙ c.if-contains_key.true

pub returns-clause-same : goal.returns-clause-same
returns-clause-same c = known_of c.args.places.now.entries c.insert.new.self.entries
    c.args.name.now c.new.result (sym c.contains_key.ensures ∙ c.if-contains_key.false)
    c.in_ok-insert.ensures.updates.0 c.new.ensures

pub returns-clause-known : goal.returns-clause-known
returns-clause-known c = known_there c.args.places.now.entries c.insert.new.self.entries c.args.name.now
    c.new.result c.in_ok-insert.ensures.updates.0
