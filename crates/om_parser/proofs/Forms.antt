-- What is asked of an item that is well-formed.
use Rattle.om_parser_tree.specs.Limits.{Limits}
use Rattle.om_parser_tree.specs.Sizes.{IsItemWithin, HasItemForms}
use Rattle.om_parser_tree.specs.Tree.{ItemTree}

-- an item keeps the limits, and its `atomic`s have their forms
abbrev pub IsKeptItem : Limits → ItemTree → Type 0
IsKeptItem l i = IsItemWithin l i × HasItemForms l.checked i
