-- The items of a proper source, one by one.
use Rattle.std.proofs.Common.{◌≡◌, ◌<◌, ℕ, zero, suc, List, [], ◌∷◌, All, length, map, get_or, subst, sym, arith}
use Rattle.std.proofs.lemmas.List.Elements.{All-head, All-tail}
use Rattle.om_parser_tree.specs.declared.tree.Item.{Item}
use Rattle.om_parser_tree.specs.Formed.{IsUnit}
use Rattle.om_parser_tree.specs.Sizes.{AtomicsHaveForms}
use Rattle.om_parser_tree.specs.Tree.{UnitTree}
use Rattle.om_parser_tree.specs.View.{view_item}
use Rattle.om_scope_rules.specs.Proper.{IsProperItem}

pub unit_proper : (unit : UnitTree) → IsUnit unit → AtomicsHaveForms unit → All IsProperItem unit.items
unfolding IsUnit AtomicsHaveForms
unit_proper unit formed forms = λ i item below. (formed i item below, forms i item below)

pub item_proper : (items : List Item) (i : ℕ) (item : Item) → i < length items → item ≡ get_or items i item
    → All IsProperItem (map view_item items) → IsProperItem (view_item item)
item_proper [] i item below is proper = absurd (omega (arith, below))
item_proper (x ∷ items) zero item below is proper =
    subst (λ z. IsProperItem (view_item z)) (sym is) (All-head IsProperItem (view_item x) (map view_item items) proper)
item_proper (x ∷ items) (suc i) item below is proper = item_proper items i item (omega (arith, below)) is
    (All-tail IsProperItem (view_item x) (map view_item items) proper)
