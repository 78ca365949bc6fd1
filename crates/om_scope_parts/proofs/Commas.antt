-- The items of a list that commas part, as a loop goes through them.
use Rattle.std.proofs.Common.{◌≡◌, List, [], ◌∷◌, fold, map, refl, sym, ap}
use Rattle.om_lexer.specs.declared.fault.SourceFault.{SourceFault}
use Rattle.om_lexer.specs.declared.token.Span.{Span}
use Rattle.om_parser_tree.specs.declared.tree.Declarator.{Declarator}
use Rattle.om_parser_tree.specs.View.{view_declarator, view_further}
use Rattle.om_scope_rules.specs.Faults.{breaches_along}
use Rattle.om_scope_rules.specs.InRow.{Unbroken}
use Rattle.om_scope_rules.specs.Scopes.{behind_commas}

-- where all are left, none was broken
pub all_left : {S X : Type 0} {breaches : S → X → List SourceFault} {after : S → X → S} {start : S} {all left : List X}
    → left ≡ all → Unbroken breaches after start all start left
all_left {S} {X} {breaches} {after} {start} {all} {left} same = record {
  unbroken = ap (breaches_along breaches after start) (sym same);
  behind = ap (fold after start) (sym same);
}

-- a declaration has its declarators as trees
module _ {I T : Type 0} (view : I → T) where
  behind_first : (rest : List (Span × Declarator I))
      → map (view_declarator view) (map (λ further. further.1) rest) ≡ behind_commas (map (view_further view) rest)
  behind_first [] = refl
  behind_first (d ∷ rest) = ap (λ ds. view_declarator view d.1 ∷ ds) (behind_first rest)

  pub declarators_seen : (first : Declarator I) (rest : List (Span × Declarator I))
      → map (view_declarator view) (first ∷ map (λ further. further.1) rest)
      ≡ view_declarator view first ∷ behind_commas (map (view_further view) rest)
  declarators_seen first rest = ap (λ ds. view_declarator view first ∷ ds) (behind_first rest)
