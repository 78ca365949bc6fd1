-- Items of proper statements, one after the other.
use Rattle.std.proofs.Common.{◌≡◌, ◌≤◌, ◌<◌, ℕ, ◌+◌, ◌*◌, List, length, map, drop, get_or, subst, sym}
use denote.Param.Weighed.{at_most, most}
use Rattle.om_parser_tree.specs.declared.tree.Part.{Part}
use Rattle.om_parser_tree.specs.declared.tree.Statement.{Statement}
use Rattle.om_parser_tree.specs.Formed.{AreStatements}
use Rattle.om_parser_tree.specs.Sizes.{HaveForms}
use Rattle.om_parser_tree.specs.Tree.{PartsTree, StatementsTree, parts, statements}
use Rattle.om_parser_tree.specs.View.{view_part, view_statement}
use Rattle.om_scope_rules.specs.Proper.{AreProper, AreProperParts, IsProper}
use Rattle.om_scope.specs.Items.{drop-item}

-- an item is no larger than the largest one; `size` is the one by which the call of the loop's function is measured
pub with_depth : {X : Type 0} (size : X → ℕ) (m a : ℕ) (items : List X) (i : ℕ) (item : X) {n : ℕ} {G : Type 0}
    → i < length items → item ≡ get_or items i item → m * most size items + a ≡ n
    → (size item ≤ most size items → G) → G
with_depth size m a items i item below is measure goes_on =
    goes_on (subst (λ x. size x ≤ most size items) (sym is) (at_most size items i item below))

-- those from a place on
abbrev pub from : List Statement → ℕ → StatementsTree
from items i = statements (map view_statement (drop i items))

-- where those that are left are proper, so is the first of them, and so are those behind it
pub left_proper : (items : List Statement) (i : ℕ) (item : Statement) → i < length items → item ≡ get_or items i item
    → AreProper (from items i) → IsProper (view_statement item) × AreProper (from items (i + 1))
unfolding AreStatements HaveForms
left_proper items i item below is proper =
    let p = rw (drop-item items i item below is) at proper in ((p.0.0, p.1.0), (p.0.1, p.1.1))

-- the same of the parts of `sections`
abbrev pub parts_from : List Part → ℕ → PartsTree
parts_from sections i = parts (map view_part (drop i sections))

pub left_parts_proper : (sections : List Part) (i : ℕ) (part : Part) → i < length sections
    → part ≡ get_or sections i part → AreProperParts (parts_from sections i)
    → AreProper (view_part part).items × AreProperParts (parts_from sections (i + 1))
left_parts_proper sections i part below is proper = rw (drop-item sections i part below is) at proper
