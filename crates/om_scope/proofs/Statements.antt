-- Resolved statements, as a loop makes them.
use Rattle.std.proofs.Common.{◌≡◌, List, [], ◌∷◌, ◌++◌, Option, None, Some, refl, sym, ap, ◌∙◌}
use Rattle.om_scope_rules.specs.Perhaps.{◌>>=◌}
use Rattle.om_scope_tree.specs.ResolvedTree as resolved
use Rattle.om_scope_tree.specs.ResolvedTree.{ResolvedStatementTree, ResolvedStatementsTree, NoStatements, Statement}

-- these statements before those
abbrev pub before : List ResolvedStatementTree → ResolvedStatementsTree → ResolvedStatementsTree
before [] rest = rest
before (s ∷ made) rest = Statement s (before made rest)

before_none : (made : List ResolvedStatementTree) → before made NoStatements ≡ resolved.statements made
before_none [] = refl
before_none (s ∷ made) = ap (Statement s) (before_none made)

before_push : (made : List ResolvedStatementTree) (s : ResolvedStatementTree) (rest : ResolvedStatementsTree)
    → before (made ++ s ∷ []) rest ≡ before made (Statement s rest)
before_push [] s rest = refl
before_push (t ∷ made) s rest = ap (Statement t) (before_push made s rest)

-- this is made so far, and the resolution of what is left makes the whole
abbrev pub Made : Option ResolvedStatementsTree → Option ResolvedStatementsTree → List ResolvedStatementTree → Type 0
Made whole left made = (rest : ResolvedStatementsTree) → left ≡ Some rest → whole ≡ Some (before made rest)

pub made_step : (whole left : Option ResolvedStatementsTree) (made : List ResolvedStatementTree)
    (s : ResolvedStatementTree) (f : ResolvedStatementTree → ResolvedStatementTree) (one : Option ResolvedStatementTree)
    → Made whole (one >>= λ t. left >>= λ ts. Some (Statement (f t) ts)) made → (one >>= λ t. Some (f t)) ≡ Some s
    → Made whole left (made ++ s ∷ [])
made_step whole left made s f None l found rest e = cc
made_step whole left made s f (Some t) l found rest e =
    let same : f t ≡ s = cc in
    l (Statement s rest) (ap (λ ts. ts >>= λ ts. Some (Statement (f t) ts)) e ∙ ap (λ s. Some (Statement s rest))
    same) ∙ ap Some (sym (before_push made s rest))

pub made_whole : (whole : Option ResolvedStatementsTree) (made : List ResolvedStatementTree)
    → Made whole (Some NoStatements) made → whole ≡ Some (resolved.statements made)
made_whole whole made l = l NoStatements refl ∙ ap Some (before_none made)
