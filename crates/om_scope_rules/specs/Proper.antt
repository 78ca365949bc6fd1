-- What is asked of trees before they are resolved: they are well-formed, and each outermost `atomic` has one of its
-- forms.
use Rattle.std.specs.Prelude.{true}
use Rattle.om_parser_tree.specs.Formed.{AreStatements, IsItem, IsStatement}
use Rattle.om_parser_tree.specs.Sizes.{HasForms, HasItemForms, HaveForms}
use Rattle.om_parser_tree.specs.Tree.{ItemTree, NoParts, Part, PartsTree, StatementTree, StatementsTree}

abbrev pub IsProper : StatementTree → Type 0
IsProper s = IsStatement s × HasForms true s

-- items of a block or of a part of `sections`
abbrev pub AreProper : StatementsTree → Type 0
AreProper items = AreStatements items × HaveForms true items

-- the items of each part of `sections`
abbrev pub AreProperParts : PartsTree → Type 0
AreProperParts NoParts = Unit {0}
AreProperParts (Part section items rest) = AreProper items × AreProperParts rest

-- what stands at file scope
abbrev pub IsProperItem : ItemTree → Type 0
IsProperItem item = IsItem item × HasItemForms true item
