-- What stands in a proper statement is smaller than it, and proper. This is what the call for it needs.
use Rattle.std.proofs.Common.{◌≡◌, ◌<◌, true, List, map, ap, arith}
use denote.Param.Weighed.{most}
use Rattle.om_parser_tree.specs.declared.tree.Part.{Part}
use Rattle.om_parser_tree.specs.declared.tree.Statement.{Statement}
use Rattle.om_parser_tree.specs.declared.tree.Statement.TheVariants as v
use Rattle.om_parser_tree.specs.declared.tree.Statement.TheViews.{size-Part, size-Statement, sized-Block, sized-Do}
use Rattle.om_parser_tree.specs.declared.tree.Statement.TheViews.{sized-For, sized-If, sized-IfElse, sized-Sections}
use Rattle.om_parser_tree.specs.declared.tree.Statement.TheViews.{sized-While}
use Rattle.om_parser_tree.specs.Formed.{AreParts, IsStatement}
use Rattle.om_parser_tree.specs.Sizes.{HasForms, PartsHaveForms}
use Rattle.om_parser_tree.specs.Tree.{parts, statements}
use Rattle.om_parser_tree.specs.View.{view_part, view_statement}
use Rattle.om_scope_rules.specs.Proper.{AreProper, IsProper}
use Rattle.om_scope.proofs.Constructs.{view_block, view_do, view_for, view_if, view_if_else, view_sections, view_while}

abbrev pub Inside : (tree s : Statement) → Type 0
Inside tree s = (size-Statement s < size-Statement tree) × IsProper (view_statement s)

pub if_inside : (tree s : Statement) (at : _) (c : _) (body : _) → tree ≡ v.If at c body → s ≡ body.value
    → IsProper (view_statement tree) → Inside tree s
unfolding IsStatement HasForms
if_inside tree s at c body is same proper =
    let p = rw (is, view_if at c body) at proper in
    (omega (arith, ap size-Statement is, sized-If at c body, ap size-Statement same), rw same (p.0.1, p.1))

pub then_inside : (tree s : Statement) (at : _) (c : _) (body : _) (word : _) (other : _)
    → tree ≡ v.IfElse at c body word other → s ≡ body.value → IsProper (view_statement tree) → Inside tree s
unfolding IsStatement HasForms
then_inside tree s at c body word other is same proper =
    let p = rw (is, view_if_else at c body word other) at proper in (
      omega (arith, ap size-Statement is, sized-IfElse at c body word other, ap size-Statement same),
      rw same (p.0.1, p.1.0),
    )

pub else_inside : (tree s : Statement) (at : _) (c : _) (body : _) (word : _) (other : _)
    → tree ≡ v.IfElse at c body word other → s ≡ other.value → IsProper (view_statement tree) → Inside tree s
unfolding IsStatement HasForms
else_inside tree s at c body word other is same proper =
    let p = rw (is, view_if_else at c body word other) at proper in (
      omega (arith, ap size-Statement is, sized-IfElse at c body word other, ap size-Statement same),
      rw same (p.0.4, p.1.1),
    )

pub while_inside : (tree s : Statement) (at : _) (c : _) (body : _) → tree ≡ v.While at c body → s ≡ body.value
    → IsProper (view_statement tree) → Inside tree s
unfolding IsStatement HasForms
while_inside tree s at c body is same proper =
    let p = rw (is, view_while at c body) at proper in
    (omega (arith, ap size-Statement is, sized-While at c body, ap size-Statement same), rw same (p.0.1, p.1))

pub do_inside : (tree s : Statement) (at : _) (body : _) (word : _) (c : _) (semicolon : _)
    → tree ≡ v.Do at body word c semicolon → s ≡ body.value → IsProper (view_statement tree) → Inside tree s
unfolding IsStatement HasForms
do_inside tree s at body word c semicolon is same proper =
    let p = rw (is, view_do at body word c semicolon) at proper in (
      omega (arith, ap size-Statement is, sized-Do at body word c semicolon, ap size-Statement same),
      rw same (p.0.1, p.1),
    )

pub for_inside : (tree s : Statement) (head : _) (body : _) → tree ≡ v.For head body → s ≡ body.value
    → IsProper (view_statement tree) → Inside tree s
unfolding IsStatement HasForms
for_inside tree s head body is same proper =
    let p = rw (is, view_for head body) at proper in
    (omega (arith, ap size-Statement is, sized-For head body, ap size-Statement same), rw same (p.0.1, p.1))

-- ---- lists

pub block_inside : (tree : Statement) (xs : List Statement) (left : _) (items : _) (right : _)
    → tree ≡ v.Block left items right → xs ≡ items.items → IsProper (view_statement tree)
    → (most size-Statement xs < size-Statement tree) × AreProper (statements (map view_statement xs))
unfolding IsStatement HasForms
block_inside tree xs left items right is same proper =
    let p = rw (is, view_block left items right) at proper in (
      omega (arith, ap size-Statement is, sized-Block left items right, ap (most size-Statement) same),
      rw same (p.0, p.1),
    )

pub sections_inside : (tree : Statement) (xs : List Part) (d : _) (left : _) (sections : _) (right : _)
    → tree ≡ v.Sections d left sections right → xs ≡ sections.items → IsProper (view_statement tree)
    → (most size-Part xs < size-Statement tree) × AreParts (parts (map view_part xs))
    × PartsHaveForms true (parts (map view_part xs))
unfolding IsStatement HasForms
sections_inside tree xs d left sections right is same proper =
    let p = rw (is, view_sections d left sections right) at proper in (
      omega (arith, ap size-Statement is, sized-Sections d left sections right, ap (most size-Part) same),
      rw same (p.0.2),
      rw same p.1,
    )
