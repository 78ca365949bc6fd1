-- The names that the clauses of a directive list are among its tokens.
use Rattle.std.proofs.Common.{ℕ, List, [], ◌∷◌, All, map}
use Rattle.std.specs.List.{flat_map}
use Rattle.std.proofs.lemmas.List.Elements.{All-nil, All-cons}
use Rattle.om_lexer.specs.declared.token.Span.{Span}
use Rattle.om_lexer.specs.declared.token.Token.{Token}
use Rattle.om_scope_rules.proofs.Rising.{Rises, StartBehind, behind_back, behind_front}
use Rattle.om_scope_rules.specs.Behind.{HasNamesBehind, IsNameBehind, listed_names}
use Rattle.om_pragma.specs.declared.clause.Clause.{Clause}
use Rattle.om_pragma.specs.declared.clause.Clause.TheVariants as clauses
use Rattle.om_pragma.specs.declared.clause.ClauseItem.{ClauseItem}
use Rattle.om_pragma.specs.declared.clause.Name as names
use Rattle.om_pragma.specs.declared.tree.Directive.{Directive}
use Rattle.om_pragma.specs.Spelling.{argument_spelling, clause_spelling, comma_spelling, directive_spelling}
use Rattle.om_pragma.specs.Spelling.{further_spelling, item_spelling, list_spelling, name_spelling, names_spelling}
use Rattle.om_pragma.specs.Spelling.{opening_spelling}
use Rattle.om_scope_rules.specs.DirectiveRules.{names_in}

module _ (start : ℕ) where
  abbrev AreNamesBehind : List names.Name → Type 0
  AreNamesBehind = All (IsNameBehind start)

  further_behind : (rest : List (Span × names.Name)) → StartBehind start (flat_map further_spelling rest)
      → AreNamesBehind (map (λ further. further.1) rest)
  unfolding further_spelling
  further_behind [] h = All-nil (IsNameBehind start)
  further_behind (n ∷ rest) h =
      All-cons (IsNameBehind start) n.1 (map (λ further. further.1) rest) h.1.0 (further_behind rest h.1.1)

  names_behind : (first : names.Name) (rest : List (Span × names.Name)) (close : Span)
      → StartBehind start (names_spelling first rest close) → AreNamesBehind (names_in first rest)
  unfolding names_spelling
  names_behind first rest close h =
      All-cons (IsNameBehind start) first (map (λ further. further.1) rest) h.0
      (further_behind rest (behind_front start (flat_map further_spelling rest) _ h.1))

  module _ {E : Type 0} (expression : E → List Token) where
    clause_behind : (c : Clause E) → StartBehind start (argument_spelling expression c)
        → AreNamesBehind (listed_names c)
    unfolding argument_spelling list_spelling
    clause_behind (clauses.Value k s v) h = All-nil (IsNameBehind start)
    clause_behind (clauses.Default s a) h = All-nil (IsNameBehind start)
    clause_behind (clauses.Data k s l) h = names_behind l.first l.rest l.close_paren h.1
    clause_behind (clauses.Reduction s r) h = names_behind r.first r.rest r.close_paren h.1.1.1
    clause_behind (clauses.Schedule s a) h = All-nil (IsNameBehind start)
    clause_behind (clauses.Plain k s) h = All-nil (IsNameBehind start)

    items_behind : (items : List (ClauseItem E)) → StartBehind start (flat_map (item_spelling expression) items)
        → All (λ item. AreNamesBehind (listed_names item.clause)) items
    unfolding item_spelling clause_spelling
    items_behind [] h = All-nil (λ item. AreNamesBehind (listed_names item.clause))
    items_behind (item ∷ items) h =
        let own = behind_front start (item_spelling expression item) _ h in
        let clause = behind_back start (comma_spelling item.comma) (clause_spelling expression item.clause) own in
        All-cons (λ item. AreNamesBehind (listed_names item.clause)) item items
        (clause_behind item.clause clause.1)
        (items_behind items (behind_back start (item_spelling expression item) _ h))

-- where the tokens of a directive rise, the names that it lists stand behind its beginning
pub directive_behind : {E : Type 0} (expression : E → List Token) (d : Directive E)
    → Rises (directive_spelling expression d) → HasNamesBehind d
unfolding directive_spelling opening_spelling
directive_behind expression d h =
    let start = d.hash.start in
    let items = behind_back start (name_spelling d.name) _ h.0.1.1 in
    items_behind start expression d.clauses (behind_front start (flat_map (item_spelling expression) d.clauses) _ items)
