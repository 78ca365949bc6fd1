-- A directive with other expressions in place of its own.
use Rattle.std.proofs.Common.{◌≡◌, List, [], ◌∷◌, ◌++◌, map, Option, Some, None, refl, ap, subst}
use Rattle.std.specs.List.{flat_map}
use Rattle.om_lexer.specs.declared.token.Span.{Span}
use Rattle.om_lexer.specs.declared.token.Token.{Token}
use Rattle.om_pragma.specs.declared.clause.Clause.{Clause}
use Rattle.om_pragma.specs.declared.clause.Clause.TheVariants as clauses
use Rattle.om_pragma.specs.declared.clause.ClauseItem.{ClauseItem}
use Rattle.om_pragma.specs.declared.tree.Directive.{Directive}
use Rattle.om_pragma.specs.declared.tree.DirectiveName.{DirectiveName}
use Rattle.om_pragma.specs.Expressions.{clause_expressions, expressions, map_clause, map_item, map_directive}
use Rattle.om_pragma.specs.Spelling.{argument_spelling, clause_spelling, item_spelling, directive_spelling, kind_of}
use Rattle.om_pragma.specs.Table.{kinds_of, IsBetween, IsClause, IsItem, EachBehind, IsDirective}
use Rattle.std.proofs.lemmas.List.{map_push}

module _ {E F : Type 0} (f : E → F) where
  -- ---- expressions

  items_expressions : (items : List (ClauseItem E)) → flat_map (λ (i : ClauseItem F). clause_expressions i.clause)
      (map (map_item f) items) ≡ map f (flat_map (λ (i : ClauseItem E). clause_expressions i.clause) items)
  items_expressions [] = refl
  items_expressions (i ∷ items) = go i.clause (items_expressions items)
    where
      go : (c : Clause E) → flat_map (λ (j : ClauseItem F). clause_expressions j.clause) (map (map_item f) items)
          ≡ map f (flat_map (λ (j : ClauseItem E). clause_expressions j.clause) items) → clause_expressions
          (map_clause f c) ++ flat_map (λ (j : ClauseItem F). clause_expressions j.clause) (map (map_item f) items)
          ≡ map f (clause_expressions c ++ flat_map (λ (j : ClauseItem E). clause_expressions j.clause) items)
      go (clauses.Value k s v) later = ap (λ (es : List F). f v.expression ∷ es) later
      go (clauses.Default s a) later = later
      go (clauses.Data k s l) later = later
      go (clauses.Reduction s r) later = later
      go (clauses.Schedule s a) later = later
      go (clauses.Plain k s) later = later

  pub mapped_expressions : (d : Directive E) → expressions (map_directive f d) ≡ map f (expressions d)
  unfolding expressions
  mapped_expressions d = items_expressions d.clauses

  -- ---- spelling

  clause_mapped : (g : F → List Token) (c : Clause E) → clause_spelling g (map_clause f c) ≡ clause_spelling
      (λ e. g (f e)) c
  unfolding clause_spelling argument_spelling
  clause_mapped g (clauses.Value k s v) = refl
  clause_mapped g (clauses.Default s a) = refl
  clause_mapped g (clauses.Data k s l) = refl
  clause_mapped g (clauses.Reduction s r) = refl
  clause_mapped g (clauses.Schedule s a) = refl
  clause_mapped g (clauses.Plain k s) = refl

  items_mapped : (g : F → List Token) (items : List (ClauseItem E)) → flat_map (item_spelling g)
      (map (map_item f) items) ≡ flat_map (item_spelling (λ e. g (f e))) items
  unfolding item_spelling
  items_mapped g [] = refl
  items_mapped g (i ∷ items) = rw (clause_mapped g i.clause, items_mapped g items) refl

  pub mapped_spelling : (g : F → List Token) (d : Directive E) → directive_spelling g (map_directive f d)
      ≡ directive_spelling (λ e. g (f e)) d
  unfolding directive_spelling
  mapped_spelling g d = rw (items_mapped g d.clauses) refl

  -- ---- the table

  mapped_kind : (c : Clause E) → kind_of (map_clause f c) ≡ kind_of c
  mapped_kind (clauses.Value k s v) = refl
  mapped_kind (clauses.Default s a) = refl
  mapped_kind (clauses.Data k s l) = refl
  mapped_kind (clauses.Reduction s r) = refl
  mapped_kind (clauses.Schedule s a) = refl
  mapped_kind (clauses.Plain k s) = refl

  mapped_kinds : (items : List (ClauseItem E)) → kinds_of (map (map_item f) items) ≡ kinds_of items
  mapped_kinds [] = refl
  mapped_kinds (i ∷ items) = rw (mapped_kind i.clause, mapped_kinds items) refl

  mapped_between : (before : List (ClauseItem E)) (c : Option Span) → IsBetween before c
      → IsBetween (map (map_item f) before) c
  mapped_between [] (Some c) between = between
  mapped_between [] None between = tt
  mapped_between (i ∷ before) c between = tt

  module _ (P : E → Type 0) (Q : F → Type 0) (gives : (e : E) → P e → Q (f e)) where
    mapped_clause : (c : Clause E) → IsClause P c → IsClause Q (map_clause f c)
    mapped_clause (clauses.Value k s v) formed = gives v.expression formed
    mapped_clause (clauses.Default s a) formed = formed
    mapped_clause (clauses.Data k s l) formed = formed
    mapped_clause (clauses.Reduction s r) formed = formed
    mapped_clause (clauses.Schedule s a) formed = formed
    mapped_clause (clauses.Plain k s) formed = formed

    mapped_each : (n : DirectiveName) (before items : List (ClauseItem E)) → EachBehind (IsItem P n) before items
        → EachBehind (IsItem Q n) (map (map_item f) before) (map (map_item f) items)
    unfolding EachBehind
    mapped_each n before [] each = tt
    mapped_each n before (i ∷ items) each =
        let first : IsItem Q n (map (map_item f) before) (map_item f i) = record {
          between = mapped_between before i.comma each.0.between;
          can_stand = rw (mapped_kinds before, mapped_kind i.clause) each.0.can_stand;
          formed = mapped_clause i.clause each.0.formed;
        } in (
          first,
          subst (λ (b : List (ClauseItem F)). EachBehind (IsItem Q n) b (map (map_item f) items))
              (map_push (map_item f) before i) (mapped_each n (before ++ i ∷ []) items each.1),
        )

    pub mapped_directive : (d : Directive E) → IsDirective P d → IsDirective Q (map_directive f d)
    unfolding IsDirective
    mapped_directive d formed = mapped_each d.name [] d.clauses formed
