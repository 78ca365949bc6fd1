-- Parts of a program, by its tree.
use Rattle.std.specs.Prelude.{◌≡◌, ℕ, Any, IfSome, List, Option, option_map, position, slice_get, true}
use Rattle.std.specs.List.{flat_map}
use Rattle.om_code.specs.declared.raw.Body.{Body}
use Rattle.om_code.specs.declared.raw.Piece.{Piece}
use Rattle.om_scope_tree.specs.ResolvedTree.{ResolvedTree}
use Rattle.om_scope_tree.specs.Uses.{is_main_function}
use Rattle.om_lower_rules.specs.Bodies.{called_body}
use Rattle.om_lower_rules.specs.Mentions.{IsTextOf}

-- the bodies of functions, one behind the other
abbrev pub flattened : List (List Body) → List Body
flattened functions = flat_map (λ bodies. bodies) functions

-- this is what PRINT writes for the format of this number
abbrev pub IsTextAt : (formats : List (List ℕ)) → (number : ℕ) → List Piece → Type 0
IsTextAt formats number text = IfSome (slice_get formats number) (λ format. IsTextOf format text)

-- a function is named `main`
abbrev pub HasMain : ResolvedTree → Type 0
HasMain tree = Any (λ function. is_main_function function ≡ true) tree.functions

-- the number of the own body of the first function named `main`
abbrev pub main_body : ResolvedTree → Option ℕ
main_body tree = option_map (called_body tree.functions) (position is_main_function tree.functions)
