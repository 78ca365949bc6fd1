-- Resolved parts of `sections`, as a loop makes them.
use Rattle.std.proofs.Common.{◌≡◌, ℕ, List, [], ◌∷◌, ◌++◌, Option, Some, refl, sym, ap, ◌∙◌}
use Rattle.om_parser_tree.specs.Tree.{PartsTree, PartTree}
use Rattle.om_parser_tree.specs.Tree as trees
use Rattle.om_scope_tree.specs.ResolvedTree.{ResolvedStatementsTree, ResolvedPartsTree, NoParts, Part, parts}
use Rattle.om_scope_rules.specs.Perhaps.{◌>>=◌}
use Rattle.om_scope_rules.specs.Scopes.{Scopes, inside}
use Rattle.om_scope_rules.specs.StatementResolution.{resolved_parts, resolved_statements}

-- these parts before those
abbrev pub before : List ResolvedStatementsTree → ResolvedPartsTree → ResolvedPartsTree
before [] rest = rest
before (items ∷ made) rest = Part items (before made rest)

before_none : (made : List ResolvedStatementsTree) → before made NoParts ≡ parts made
before_none [] = refl
before_none (items ∷ made) = ap (Part items) (before_none made)

before_push : (made : List ResolvedStatementsTree) (items : ResolvedStatementsTree) (rest : ResolvedPartsTree)
    → before (made ++ items ∷ []) rest ≡ before made (Part items rest)
before_push [] items rest = refl
before_push (first ∷ made) items rest = ap (Part first) (before_push made items rest)

-- this is made so far, and the resolution of what is left makes the whole
abbrev pub MadeParts : Option ResolvedPartsTree → Option ResolvedPartsTree → List ResolvedStatementsTree → Type 0
MadeParts whole left made = (rest : ResolvedPartsTree) → left ≡ Some rest → whole ≡ Some (before made rest)

step : (whole left : Option ResolvedPartsTree) (made : List ResolvedStatementsTree) (items : ResolvedStatementsTree)
    (one : Option ResolvedStatementsTree)
    → MadeParts whole (one >>= λ ss. left >>= λ ps. Some (Part ss ps)) made → one ≡ Some items
    → MadeParts whole left (made ++ items ∷ [])
step whole left made items one l found rest e =
    l (Part items rest)
    (ap (λ one. one >>= λ ss. left >>= λ ps. Some (Part ss ps)) found
    ∙ ap (λ all. all >>= λ ps. Some (Part items ps)) e)
    ∙ ap Some (sym (before_push made items rest))

pub parts_made : (scopes : Scopes) (parallel : Option ℕ) (part : PartTree) (rest : PartsTree)
    (whole : Option ResolvedPartsTree) (made : List ResolvedStatementsTree) (items : ResolvedStatementsTree)
    → MadeParts whole (resolved_parts scopes parallel (trees.Part part.section part.items rest)) made
    → resolved_statements (inside scopes) parallel part.items ≡ Some items
    → MadeParts whole (resolved_parts scopes parallel rest) (made ++ items ∷ [])
unfolding resolved_parts
parts_made scopes parallel part rest whole made items left found =
    step whole _ made items (resolved_statements (inside scopes) parallel part.items) left found

pub parts_whole : (scopes : Scopes) (parallel : Option ℕ) (whole : Option ResolvedPartsTree)
    (made : List ResolvedStatementsTree) → MadeParts whole (resolved_parts scopes parallel trees.NoParts) made
    → whole ≡ Some (parts made)
unfolding resolved_parts
parts_whole scopes parallel whole made left = left NoParts refl ∙ ap Some (before_none made)
