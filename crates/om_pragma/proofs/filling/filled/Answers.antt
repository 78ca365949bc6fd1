use Rattle.std.proofs.Common.{◌≡◌, ◌∷◌, ◌++◌, [], ◌∙◌, sym}
use Rattle.std.proofs.lemmas.List.{nil_from_length}
use Rattle.std.specs.Vec.Iter.{into_iter_items, into_iter_len}
use Rattle.om_pragma.proofs.Fillings.{filling_begins, filling_ends, few_first, one_less, filling_goes_on}
use Rattle.om_pragma.proofs.filling.filled.Goals as goal

pub items-init : goal.items-init
items-init g c = rw (c.new-made.ensures, c.into_iter-source.ensures.rest)
    (filling_begins c.args.value c.args.items.items c.requires)

pub returns-in_default : goal.returns-in_default
returns-in_default g c = filling_ends c.args.value c.items.left c.items.made (into_iter_items c.items.source)
    c.args.items.items c.items.invariant (nil_from_length (into_iter_items c.items.source)
    (sym c.items.source.rest.ok.0 ∙ c.in_default.ensures.cases.0))

pub filled_item-next-requires : goal.filled_item-next-requires
filled_item-next-requires g c = few_first c.args.value c.items.left c.items.made (into_iter_items c.items.source)
    c.args.items.items c.items.invariant c.in-Some.item (into_iter_items c.next.new.self) c.in-Some.ensures.items

pub items-smaller : goal.items-smaller
items-smaller g c = one_less (into_iter_len c.next.new.self) (into_iter_len c.items.source) c.in-Some.ensures.cases.1

pub items-preserved : goal.items-preserved
items-preserved g c =
    let pushed : c.push.new.self ≡ c.items.made ++ c.filled_item-next.result.0 ∷ [] = c.in_ok-push.ensures.added in
    rw pushed (filling_goes_on c.args.value c.items.left c.items.made (into_iter_items c.items.source)
    c.args.items.items c.items.invariant c.in-Some.item (into_iter_items c.next.new.self)
    c.filled_item-next.result.0 c.filled_item-next.result.1 c.in-Some.ensures.items
    c.filled_item-next.ensures.made c.filled_item-next.ensures.still c.filled_item-next.ensures.left)
