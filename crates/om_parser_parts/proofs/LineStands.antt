-- Where the expression of a clause stands among the tokens of a line.
use Rattle.std.proofs.Common.{◌≡◌, ℕ, List, [], ◌∷◌, ◌++◌, Option, ap, subst, ◌∙◌, append_assoc, ◌⊎◌, inl, inr}
use Rattle.std.specs.List.{flat_map}
use Rattle.std.proofs.lemmas.List.Concat.{flat_map-append}
use Rattle.om_lexer.specs.declared.token.Punctuator.TheVariants as punctuators
use Rattle.om_lexer.specs.declared.token.Span.{Span}
use Rattle.om_lexer.specs.declared.token.Token.{Token}
use Rattle.om_lexer.specs.declared.token.TokenKind.TheVariants as kinds
use Rattle.om_pragma.specs.declared.clause.Clause.{Clause}
use Rattle.om_pragma.specs.declared.clause.Clause.TheVariants as clauses
use Rattle.om_pragma.specs.declared.clause.ClauseItem.{ClauseItem}
use Rattle.om_pragma.specs.declared.clause.ValueClause.{ValueClause}
use Rattle.om_pragma.specs.declared.tree.Directive.{Directive}
use Rattle.om_pragma.specs.Expressions.{clause_expression, first_expression, or_else, IsClosed}
use Rattle.om_pragma.specs.Reading.{expression_before}
use Rattle.om_pragma.specs.Refusals.{StandsClause, ClausesStand}
use Rattle.om_pragma.specs.Spelling.{token, comma_spelling, argument_spelling, clause_spelling, item_spelling}
use Rattle.om_pragma.specs.Spelling.{opening_spelling, name_spelling, directive_spelling}
use Rattle.om_pragma.specs.Table.{IsDirective}
use Rattle.om_parser_tree.specs.Spelling.{mark}
use Rattle.om_parser_parts.specs.WrongLines.{clause_token, ExpectsClause, IsNoDirective}
use Rattle.om_parser_parts.proofs.LineAnswers.{FindsFirst}
use Rattle.om_parser_parts.proofs.LineParts.{item}
use Rattle.om_parser_parts.specs.Outcomes.{some, some_is}

abbrev Items : Type 0
Items = List (ClauseItem (List Token))

abbrev spelling : Items → List Token
spelling = flat_map (item_spelling (λ e. e))

-- the word of a clause, its parenthesis and these tokens, with others behind them
abbrev pub clause_tokens : ValueClause → (at left : Span) → (es after : List Token) → List Token
clause_tokens word at left es after = clause_token word at ∷ mark punctuators.OpenParen left ∷ (es ++ after)

-- behind the word of a clause and its parenthesis these tokens stand
pub record StandsIn (line es : List Token) : Type 0 where
  pub before : List Token
  pub word : ValueClause
  pub at : Span
  pub left : Span
  pub after : List Token
  pub stands : line ≡ before ++ clause_tokens word at left es after

-- and the line expects a clause there, or is no directive
pub record StandsInClause (line es : List Token) : Type 0 where
  pub place : StandsIn line es
  pub in_clause : ExpectsClause line (clause_tokens place.word place.at place.left es place.after) ⊎ IsNoDirective line

-- ---- in a directive

-- the first clause with an expression, and those round it
record FirstClause (items : Items) (es : List Token) : Type 0 where
  front : Items
  comma : Option Span
  word : ValueClause
  at : Span
  left : Span
  right : Span
  rest : Items
  split : items ≡ front
      ++ item comma (clauses.Value word at (record { open_paren = left; expression = es; close_paren = right })) ∷ rest

first_clause : (items : Items) (es : List Token) → first_expression items ≡ some es → FirstClause items es
unfolding first_expression
first_clause [] es is = absurd cc
first_clause (i ∷ items) es is = go i.clause (λ h. first_clause items es h) is
  where
    further : (c : Clause (List Token)) → FirstClause items es → FirstClause (item i.comma c ∷ items) es
    further c s = record {
      front = item i.comma c ∷ s.front;
      comma = s.comma;
      word = s.word;
      at = s.at;
      left = s.left;
      right = s.right;
      rest = s.rest;
      split = ap (λ (w : Items). item i.comma c ∷ w) s.split;
    }

    go : (c : Clause (List Token)) → (first_expression items ≡ some es → FirstClause items es)
        → or_else (clause_expression c) (first_expression items) ≡ some es → FirstClause (item i.comma c ∷ items) es
    go (clauses.Value k s v) later is = record {
      front = [];
      comma = i.comma;
      word = k;
      at = s;
      left = v.open_paren;
      right = v.close_paren;
      rest = items;
      split =
          ap (λ (e : List Token). item i.comma
          (clauses.Value k s (record { open_paren = v.open_paren; expression = e; close_paren = v.close_paren }))
          ∷ items) (some_is v.expression es is);
    }
    go (clauses.Default s a) later is = further (clauses.Default s a) (later is)
    go (clauses.Data k s l) later is = further (clauses.Data k s l) (later is)
    go (clauses.Reduction s r) later is = further (clauses.Reduction s r) (later is)
    go (clauses.Schedule s a) later is = further (clauses.Schedule s a) (later is)
    go (clauses.Plain k s) later is = further (clauses.Plain k s) (later is)

pub stands_in_directive : ClausesStand → (d : Directive (List Token)) (es : List Token) → IsDirective IsClosed d
    → first_expression d.clauses ≡ some es → StandsInClause (directive_spelling (λ e. e) d) es
unfolding directive_spelling item_spelling clause_spelling argument_spelling
stands_in_directive stand d es formed is =
    let c = first_clause d.clauses es is in
    let i : ClauseItem (List Token) = item c.comma
    (clauses.Value c.word c.at (record { open_paren = c.left; expression = es; close_paren = c.right })) in
    let end : List Token = token kinds.DirectiveEnd d.end ∷ [] in
    let after : List Token = mark punctuators.CloseParen c.right ∷ (spelling c.rest ++ end) in
    let behind : spelling d.clauses ++ end ≡ spelling c.front
    ++ (comma_spelling c.comma ++ clause_tokens c.word c.at c.left es after) =
    ap (λ (w : Items). spelling w ++ end) c.split ∙ ap (λ (w : List Token). w ++ end)
    (flat_map-append (item_spelling (λ e. e)) c.front (i ∷ c.rest)) ∙ simp append_assoc in
    let same : clause_spelling (λ e. e) i.clause ++ (spelling c.rest ++ end) ≡ clause_tokens c.word c.at c.left es
    after = simp append_assoc in
    record {
      place = record {
        before = opening_spelling d.hash d.pragma d.omp
            ++ (name_spelling d.name ++ (spelling c.front ++ comma_spelling c.comma));
        word = c.word;
        at = c.at;
        left = c.left;
        after = after;
        stands = ap (λ (w : List Token). opening_spelling d.hash d.pragma d.omp ++ (name_spelling d.name ++ w))
            behind ∙ simp append_assoc;
      };
      in_clause = inl (record {
        name = d.name;
        before = c.front;
        stands = subst (StandsClause (directive_spelling (λ e. e) d) d.name c.front) same
            (stand d c.front c.rest i formed c.split);
      });
    }

-- ---- before a fault

-- in a line that is no directive
pub stands_before_fault : FindsFirst → (place : ℕ) (line es : List Token) → IsNoDirective line → expression_before
    place line ≡ some es → StandsInClause line es
stands_before_fault first place line es none e =
    let v = (first line es place e).stands in
    record {
      place = record {
        before = v.before;
        word = v.word;
        at = v.at;
        left = v.left;
        after = mark punctuators.CloseParen v.right ∷ v.behind;
        stands = v.parts;
      };
      in_clause = inr none;
    }
