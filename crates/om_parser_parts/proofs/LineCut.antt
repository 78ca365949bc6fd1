-- Where a directive line is refused with another code than that of syntax, a limit is passed in its
-- expression, or S5 or S6 stands there.
use Rattle.std.proofs.Common.{◌≡◌, ◌-◌, ◌≤◌, List, [], ◌∷◌, ◌++◌, Bool, true, false, cond, Ok, Err, refl, sym, ap}
use Rattle.std.proofs.Common.{subst, ◌∙◌, append_assoc, ◌⊎◌, inl, inr}
use Rattle.std.specs.Prelude.{◌&&◌, nat_eq}
use Rattle.om_lexer.specs.declared.fault.FaultCode.TheVariants as codes
use Rattle.om_lexer.specs.declared.fault.SourceFault.{SourceFault}
use Rattle.om_lexer.specs.declared.token.Punctuator.TheVariants as punctuators
use Rattle.om_lexer.specs.declared.token.Span.{Span}
use Rattle.om_lexer.specs.declared.token.Token.{Token}
use Rattle.om_lexer.specs.declared.token.TokenKind.TheVariants as kinds
use Rattle.om_pragma.specs.declared.tree.Directive.{Directive}
use Rattle.om_pragma.specs.Expressions.{first_expression}
use Rattle.om_pragma.specs.Reading.{directive_at, expression_before}
use Rattle.om_pragma.specs.Refusals.{EndsOnce}
use Rattle.om_parser_parts.specs.ExpressionReading.{whole_at}
use Rattle.om_parser_tree.specs.Limits.{Limits}
use Rattle.om_parser_parts.specs.WrongLines.{clause_token, ExpectsClause, IsNoDirective, IsPassedInClause, IsWrongLine}
use Rattle.om_parser_parts.specs.LineReading.{run_of, is_syntax, in_run, place_behind, last_start, all_of, clause_value}
use Rattle.om_parser_parts.specs.LineReading.{with_value, sooner, line_of, line_at}
use Rattle.om_parser_tree.specs.Places.{in_parentheses}
use Rattle.om_parser_parts.specs.Reading.{Outcome, syntax}
use Rattle.om_parser_tree.specs.Spelling.{token, mark}
use Rattle.om_parser_tree.specs.Tree.{ExpressionTree}
use Rattle.om_parser_parts.specs.Outcomes.{ok, bind_err, choose_cases, err_is}
use Rattle.om_parser_parts.proofs.ExpressionCut.{too_much_at, whole_cut}
use Rattle.om_parser_parts.proofs.ExpressionRefusals.{whole_refuses}
use Rattle.om_parser_parts.proofs.LineAnswers.{LineLaws, run_directive, run_reads, run_refused}
use Rattle.om_parser_parts.proofs.LineRuns.{run_is, run_is_ended, run_is_line}
use Rattle.om_parser_parts.proofs.LineStands.{StandsInClause, stands_in_directive, stands_before_fault}
use Rattle.om_parser_parts.specs.Laws.{IsFirstLineFault}

abbrev NoSyntax : SourceFault → Type 0
NoSyntax f = f.code ≡ codes.Syntax → ⊥

-- a fault that is not one of syntax is kept
kept : (run es : List Token) (d f : SourceFault) → in_run run es d ≡ f → NoSyntax f → d ≡ f
kept run es d f e not = go (is_syntax d.code && nat_eq d.at 4294967295) e
  where
    go : (b : Bool) → cond {A = SourceFault} b (record {
      code = codes.Syntax;
      at = place_behind (last_start es) run;
    }) d ≡ f → d ≡ f
    go true e = absurd (not (ap (λ (g : SourceFault). g.code) (sym e)))
    go false e = e

not_alone : (e : ExpressionTree) (ts : List Token) (f : SourceFault) (run es : List Token)
    → all_of run es (ok (e, ts)) ≡ Err f → NoSyntax f → ⊥
not_alone e [] f run es h not = absurd cc
not_alone e (t ∷ ts) f run es h not = not (ap (λ (g : SourceFault). g.code) (sym (err_is (syntax (t ∷ ts)) f h)))

-- what is refused of the tokens of a clause
value_err : (l : Limits) (run es : List Token) (f : SourceFault) → clause_value l run es ≡ Err f → NoSyntax f
    → whole_at l (l.nested - 1) es ≡ Err f
unfolding clause_value
value_err l run es f h not = go (whole_at l (l.nested - 1) es) refl h
  where
    go : (r : Outcome (ExpressionTree × List Token)) → whole_at l (l.nested - 1) es ≡ r → all_of run es r ≡ Err f
        → whole_at l (l.nested - 1) es ≡ Err f
    go (Ok x) is h = absurd (not_alone x.0 x.1 f run es h not)
    go (Err d) is h = is ∙ ap (λ (c : SourceFault). Err c) (kept run es d f (err_is (in_run run es d) f h) not)

-- where a limit is passed in the tokens of a clause
passed : (l : Limits) (line es : List Token) (f : SourceFault) → StandsInClause line es → whole_at l (l.nested - 1)
    es ≡ Err f → f.code ≡ codes.TooDeep → IsPassedInClause l line f.at
passed l line es f s h deep =
    let c = whole_cut l (l.nested - 1) es f h deep in
    let after : List Token = c.after ++ s.place.after in
    let inside : es ++ s.place.after ≡ c.begun ++ c.token ∷ after = ap (λ (w : List Token). w ++ s.place.after)
    c.stands ∙ simp append_assoc in
    record {
      before = s.place.before;
      word = s.place.word;
      at = s.place.at;
      left = s.place.left;
      expression = c.tree;
      formed = c.formed;
      begun = c.begun;
      token = c.token;
      after = after;
      rest_of_expression = c.more;
      stands = s.place.stands ∙ ap (λ (w : List Token). s.place.before ++ in_place s w) inside;
      in_clause = subst (λ (w : List Token). ExpectsClause line (in_place s w) ⊎ IsNoDirective line) inside s.in_clause;
      in_expression = c.spelled;
      at_place = c.at_place;
      too_much = too_much_at (in_parentheses l) es c.begun c.token c.after c.stands c.too_much;
    }
  where
    in_place : StandsInClause line es → List Token → List Token
    in_place s w = clause_token s.place.word s.place.at ∷ mark punctuators.OpenParen s.place.left ∷ w

value_fault : (l : Limits) (run es : List Token) (f : SourceFault) → StandsInClause run es → clause_value l run es
    ≡ Err f → NoSyntax f → IsWrongLine l run f
value_fault l run es f s h not =
    let whole = value_err l run es f h not in
    elim (whole_refuses l (l.nested - 1) es f whole) [
      | inl syntax ↦ absurd (not syntax)
      | inr deep ↦ inl (deep, passed l run es f s whole deep)
    ]

line_fault : LineLaws → (l : Limits) (run : List Token) → EndsOnce run → (o : Outcome (Directive (List Token)))
    (f : SourceFault) → directive_at run ≡ o → line_of l run o ≡ Err f → NoSyntax f → IsWrongLine l run f
unfolding with_value sooner
line_fault laws l run once (Ok d) f is h not = elim (choose_cases (first_expression d.clauses) _ _ (Err f) h) [
  | inl (es, first, e) ↦ elim (bind_err (clause_value l run es) _ f e) [
    | inl fails ↦
        let read = run_directive laws.is_read run once d is in
        let s = subst (λ (ts : List Token). StandsInClause ts es) read.spelled (stands_in_directive laws.stand d es
        read.formed first) in
        value_fault l run es f s fails not
    | inr done ↦ absurd cc
  ]
  | inr (none, e) ↦ absurd cc
]
line_fault laws l run once (Err d) f is h not = elim (choose_cases (expression_before d.at run) _ _ (Err f) h) [
  | inl (es, first, e) ↦ elim (bind_err (clause_value l run es) _ f e) [
    | inl fails ↦ value_fault l run es f (stands_before_fault laws.first d.at run es no_directive first) fails not
    | inr done ↦ refused (err_is d f done.2)
  ]
  | inr (none, e) ↦ refused (err_is d f e)
]
  where
    no_directive : IsNoDirective run
    no_directive x formed = let both : Err d ≡ ok x = sym is ∙ run_reads laws.only laws.is_read run once x formed in
        absurd cc

    refused : d ≡ f → IsWrongLine l run f
    refused same =
        let at_run : directive_at run ≡ Err f = is ∙ ap (λ (c : SourceFault). Err c) same in
        elim (run_refused laws.is_read run once f at_run) [
          | inl syntax ↦ absurd (not syntax)
          | inr word ↦ inr word
        ]

pub line_cut : LineLaws → (l : Limits) → 1 ≤ l.nested → (hash : Span) (us : List Token) (f : SourceFault)
    → line_at l (token kinds.DirectiveBegin hash ∷ us) ≡ Err f → NoSyntax f → IsFirstLineFault l
    (token kinds.DirectiveBegin hash ∷ us) f
unfolding line_at
line_cut laws l one hash us f h not =
    let ts : List Token = token kinds.DirectiveBegin hash ∷ us in
    elim (choose_cases (run_of ts) _ _ (Err f) h) [
      | inl (r, is, e) ↦ elim (bind_err (line_of l r.0 (directive_at r.0)) _ f e) [
        | inl fails ↦ record {
          line = r.0;
          after = r.1;
          parts = run_is ts r is;
          one_line = run_is_line hash us r is;
          wrong = line_fault laws l r.0 (run_is_ended ts r is) (directive_at r.0) f refl fails not;
        }
        | inr done ↦ absurd cc
      ]
      | inr (none, e) ↦ absurd (not (ap (λ (g : SourceFault). g.code) (sym (err_is (syntax []) f e))))
    ]
