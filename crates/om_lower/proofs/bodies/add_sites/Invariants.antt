use Rattle.std.proofs.Common.{◌≡◌, [], map, take}
use Rattle.om_lower.specs.Inputs.{tree_of}
use Rattle.om_lower.specs.Made.{AreListsOf, AreMade}
use Rattle.om_lower_tables.specs.Sites.{bodies_in, round_behind}
use Rattle.om_lower.proofs.bodies.add_sites.Given as goal

abbrev pub invariant-loop-site : goal.invariant-loop-site
invariant-loop-site l =
    AreMade (tree_of l.known.input.now) l.made.lists (take l.site-index (bodies_in [] l.sites)) l.made.bodies
    × AreListsOf (take l.site-index (bodies_in [] l.sites)) l.made.lists
    × (map (λ one. one.now) l.round.items ≡ round_behind [] (take l.site-index l.sites))
