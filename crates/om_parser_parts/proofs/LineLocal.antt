-- A directive line that is read is read wherever it stands, and S3 in it stands where a definition says.
use Rattle.std.proofs.Common.{◌≡◌, ℕ, ◌-◌, ◌≤◌, List, [], ◌∷◌, ◌++◌, length, Bool, true, false, cond, Ok, Err, refl, sym, ap}
use Rattle.std.proofs.Common.{subst, ◌∙◌, append_assoc, append-nil, arith, take, length-append, ◌⊎◌, inl, inr, Some, None}
use Rattle.std.specs.Prelude.{◌&&◌, nat_eq, ◌≢◌, All}
use Rattle.std.proofs.lemmas.List.Elements.{All-nil, All-cons}
use Rattle.om_lexer.specs.declared.fault.FaultCode.{FaultCode}
use Rattle.om_lexer.specs.declared.fault.FaultCode.TheVariants as codes
use Rattle.om_lexer.specs.declared.fault.SourceFault.{SourceFault}
use Rattle.om_lexer.specs.declared.token.Punctuator.TheVariants as punctuators
use Rattle.om_lexer.specs.declared.token.Span.{Span}
use Rattle.om_lexer.specs.declared.token.Token.{Token}
use Rattle.om_lexer.specs.declared.token.TokenKind.TheVariants as kinds
use Rattle.om_pragma.specs.declared.tree.Directive.{Directive}
use Rattle.om_pragma.specs.Expressions.{first_expression}
use Rattle.om_pragma.specs.Spelling.{directive_spelling}
use Rattle.om_pragma.specs.Reading.{is_end, directive_at, expression_before}
use Rattle.om_pragma.specs.Refusals.{EndsOnce, StopsAt, IsAnswer as IsAnswered}
use Rattle.om_parser_tree.specs.Formed.{IsExpression}
use Rattle.om_parser_parts.specs.ExpressionReading.{whole_at}
use Rattle.om_parser_parts.specs.Halting.{IsElsewhere}
use Rattle.om_parser_parts.specs.Local.{Measure, free_room}
use Rattle.om_parser_tree.specs.Limits.{Limits}
use Rattle.om_parser_parts.specs.WrongLines.{clause_token, ExpectsClause, IsNoDirective, IsHaltedInClause}
use Rattle.om_parser_parts.specs.WrongLines.{IsSyntaxLine}
use Rattle.om_parser_parts.specs.LineReading.{run_of, is_syntax, in_run, place_behind, last_start, all_of, clause_value}
use Rattle.om_parser_parts.specs.LineReading.{with_value, sooner, line_of, line_at}
use Rattle.om_parser_parts.specs.Reading.{Outcome, syntax}
use Rattle.om_parser_tree.specs.Spelling.{token, mark, expression_spelling}
use Rattle.om_parser_tree.specs.Tree.{ExpressionTree}
use Rattle.om_parser_parts.specs.Outcomes.{ok, some, some_is, bind_ok, bind_err, choose_cases, err_is, ok_is}
use Rattle.om_parser_parts.proofs.ExpressionComplete.{whole_again}
use Rattle.om_parser_parts.proofs.ExpressionLocal.{whole_local}
use Rattle.om_parser_parts.proofs.LineAnswers.{LineLaws, HasOneExpression, IsReading, run_directive, run_reads}
use Rattle.om_parser_parts.proofs.LineRuns.{Run, with_front, take_front, run_is, run_is_ended, run_is_line}
use Rattle.om_parser_parts.proofs.LineSound.{line_sound}
use Rattle.om_parser_parts.proofs.LineStands.{StandsInClause, stands_in_directive, stands_before_fault}

-- ---- a run is the same whatever stands behind it

pub run_again_of : (ts : List Token) (r : List Token × List Token) → run_of ts ≡ some r → (us : List Token)
    → run_of (r.0 ++ us) ≡ some (r.0, us)
unfolding run_of
run_again_of [] r e us = absurd cc
run_again_of (t ∷ ts) r e us = go (λ s is. run_again_of ts s is us) (is_end t.kind) refl (run_of ts) refl e
  where
    go : ((s : List Token × List Token) → run_of ts ≡ some s → run_of (s.0 ++ us) ≡ some (s.0, us)) → (b : Bool)
        → is_end t.kind ≡ b → (o : Run) → run_of ts ≡ o → cond b (some (t ∷ [], ts)) (with_front (t ∷ []) o) ≡ some r
        → run_of (r.0 ++ us) ≡ some (r.0, us)
    go later true end o is e = subst (λ (p : List Token × List Token). run_of (p.0 ++ us) ≡ some (p.0, us))
        (some_is (t ∷ [], ts) r e) (rw end refl)
    go later false end (Some s) is e = subst (λ (p : List Token × List Token). run_of (p.0 ++ us) ≡ some (p.0, us))
        (some_is (t ∷ s.0, s.1) r e) (rw (end, later s is) refl)
    go later false end None is e = absurd cc

-- where none is found, no line ends
no_run : (ts : List Token) → run_of ts ≡ None → All (λ t. t.kind ≢ kinds.DirectiveEnd) ts
unfolding run_of
no_run [] e = All-nil (λ t. t.kind ≢ kinds.DirectiveEnd)
no_run (t ∷ ts) e = go (λ is. no_run ts is) (is_end t.kind) refl (run_of ts) refl e
  where
    go : (run_of ts ≡ None → All (λ t. t.kind ≢ kinds.DirectiveEnd) ts) → (b : Bool) → is_end t.kind ≡ b → (o : Run)
        → run_of ts ≡ o → cond b (some (t ∷ [], ts)) (with_front (t ∷ []) o) ≡ None
        → All (λ t. t.kind ≢ kinds.DirectiveEnd) (t ∷ ts)
    go later true end o is e = absurd cc
    go later false end (Some s) is e = absurd cc
    go later false end None is e = All-cons (λ t. t.kind ≢ kinds.DirectiveEnd) t ts
        (λ (same : t.kind ≡ kinds.DirectiveEnd). let both : is_end t.kind ≡ true = ap is_end same in absurd cc)
        (later is)

endless_tail : (hash : Span) (us : List Token) → run_of (token kinds.DirectiveBegin hash ∷ us) ≡ None
    → run_of us ≡ None
unfolding run_of
endless_tail hash us e = go (run_of us) refl e
  where
    go : (o : Run) → run_of us ≡ o → with_front (token kinds.DirectiveBegin hash ∷ []) o ≡ None → run_of us ≡ None
    go (Some s) is e = absurd cc
    go None is e = is

-- two lists are one where they stand before the same
cancel : (xs ys us : List Token) → xs ++ us ≡ ys ++ us → xs ≡ ys
cancel xs ys us e = sym (front xs) ∙ ap (take (length xs)) e ∙ ap (λ (n : ℕ). take n (ys ++ us)) same ∙ front ys
  where
    front : (zs : List Token) → take (length zs) (zs ++ us) ≡ zs
    front zs = take_front zs us

    same : length xs ≡ length ys
    same = omega (arith, ap length e, length-append xs us, length-append ys us)

-- a line that is read is read again before other tokens
pub line_before : LineLaws → HasOneExpression → (l : Limits) → 1 ≤ l.nested → (ts : List Token) (x : Directive ExpressionTree × List Token)
    → line_at l ts ≡ Ok x → (us : List Token)
    → line_at l (directive_spelling expression_spelling x.0 ++ us) ≡ Ok (x.0, us)
unfolding line_at
line_before laws few l one ts x e us = elim (choose_cases (run_of ts) _ _ (ok x) e) [
  | inl (r, is, f) ↦
      let d = bind_ok (line_of l r.0 (directive_at r.0)) _ x f in
      let same : (d.0, r.1) ≡ x = cc in
      let whole : ts ≡ r.0 ++ x.1 = run_is ts r is ∙ ap (λ (y : Directive ExpressionTree × List Token). r.0 ++ y.1) same in
      let spelled : r.0 ≡ directive_spelling expression_spelling x.0 = cancel r.0
      (directive_spelling expression_spelling x.0) x.1 (sym whole ∙ (line_sound laws.is_read few l one ts x e).parts) in
      subst (λ (run : List Token). line_at l (run ++ us) ≡ ok (x.0, us)) spelled
      (rw (run_again_of ts r is us, d.1) (ap (λ (y : Directive ExpressionTree × List Token). ok (y.0, us)) same))
  | inr (none, f) ↦ absurd cc
]

-- ---- the tokens of a clause

abbrev IsSyntaxFault : SourceFault → Type 0
IsSyntaxFault f = f.code ≡ codes.Syntax

-- no expression has tokens of which no expression is read
no_expression : (l : Limits) (es : List Token) (o : Outcome (ExpressionTree × List Token)) → whole_at l (l.nested - 1) es ≡ o
    → (e : ExpressionTree) → IsExpression e → expression_spelling e ≡ es
    → (o ≡ ok (e, [])) ⊎ ((f : SourceFault) × (o ≡ Err f) × (IsSyntaxFault f → ⊥))
no_expression l es o is e formed spelled =
    let again = whole_again l (l.nested - 1) e [] formed (omega arith) in
    let at : expression_spelling e ++ [] ≡ es = append-nil (expression_spelling e) ∙ spelled in
    elim again [
      | inl h ↦ inl (sym is ∙ ap (whole_at l (l.nested - 1)) (sym at) ∙ h)
      | inr (stop, h, never) ↦ inr (stop.fault, sym is ∙ ap (whole_at l (l.nested - 1)) (sym at) ∙ h, stop.other)
    ]

module _ (l : Limits) (line es : List Token) (s : StandsInClause line es) where
  abbrev in_place : List Token → List Token
  in_place w = clause_token s.place.word s.place.at ∷ mark punctuators.OpenParen s.place.left ∷ w

  -- no expression goes on with this token
  halted : (f : SourceFault) (front : List Token) (t : Token) (after : List Token) → es ≡ front ++ t ∷ after
      → t.span.start ≡ f.at
      → ((e : ExpressionTree) (more : List Token) → IsExpression e → expression_spelling e ≢ front ++ t ∷ more)
      → IsHaltedInClause line f.at
  halted f front t after parts at stops =
      let inside : es ++ s.place.after ≡ front ++ t ∷ (after ++ s.place.after) = ap (λ (w : List Token). w
      ++ s.place.after) parts ∙ simp append_assoc in
      record {
        before = s.place.before;
        word = s.place.word;
        at = s.place.at;
        left = s.place.left;
        begun = front;
        token = t;
        after = after ++ s.place.after;
        stands = s.place.stands ∙ ap (λ (w : List Token). s.place.before ++ in_place w) inside;
        in_clause = subst (λ (w : List Token). ExpectsClause line (in_place w) ⊎ IsNoDirective line) inside s.in_clause;
        at_place = at;
        stops = stops;
      }

  -- one that is read leaves tokens
  left_over : (e : ExpressionTree) (t : Token) (after : List Token) (f : SourceFault)
      → whole_at l (l.nested - 1) es ≡ ok (e, t ∷ after) → syntax (t ∷ after) ≡ f → IsHaltedInClause line f.at
  left_over e t after f is same =
      let i : Measure = record { beyond = 0; turns = length es; lines = false } in
      let k = (whole_local l (l.nested - 1) 0 i es (omega arith)).takes (e, t ∷ after) is in
      halted f k.front t after k.parts (ap (λ (g : SourceFault). g.at) same)
      (λ x more formed spelled.
      let j : Measure = record { beyond = 0; turns = length (k.front ++ t ∷ more); lines = false } in
      let again : whole_at l (l.nested - 1) (k.front ++ t ∷ more) ≡ ok (e, t ∷ more) = k.again j t after more refl
      (free_room (t ∷ after) (t ∷ more) i j refl refl) (omega arith) in
      elim (no_expression l (k.front ++ t ∷ more) (ok (e, t ∷ more)) again x formed spelled) [
        | inl both ↦
            let tails : t ∷ more ≡ [] = ap (λ (y : ExpressionTree × List Token). y.1) (ok_is (e, t ∷ more) (x, []) both) in
            absurd cc
        | inr (g, both, other) ↦ absurd cc
      ])

  -- none is read
  none_read : (g f : SourceFault) → whole_at l (l.nested - 1) es ≡ Err g → in_run line es g ≡ f → IsSyntaxFault f
      → IsSyntaxLine line f.at
  none_read g f is same wrong = go (is_syntax g.code && nat_eq g.at 4294967295) refl same
    where
      syntax_is : (c : FaultCode) (b : Bool) → is_syntax c && b ≡ true → c ≡ codes.Syntax
      syntax_is codes.Syntax b e = refl
      syntax_is _ b e = absurd cc

      short : IsSyntaxFault g → place_behind (last_start es) line ≡ f.at → IsSyntaxLine line f.at
      short bad at = inr (inr (record {
        before = s.place.before;
        word = s.place.word;
        at = s.place.at;
        left = s.place.left;
        inside = es;
        after = s.place.after;
        stands = s.place.stands;
        in_clause = s.in_clause;
        at_place = at;
        stops = λ x formed spelled. elim (no_expression l es (Err g) is x formed spelled) [
          | inl both ↦ absurd cc
          | inr (h, both, other) ↦ other (ap (λ (c : SourceFault). c.code) (sym (err_is g h both)) ∙ bad)
        ];
      }))

      go : (b : Bool) → is_syntax g.code && nat_eq g.at 4294967295 ≡ b → cond {A = SourceFault} b (record {
        code = codes.Syntax;
        at = place_behind (last_start es) line;
      }) g ≡ f → IsSyntaxLine line f.at
      go true past e = short (syntax_is g.code (nat_eq g.at 4294967295) past) (ap (λ (c : SourceFault). c.at) e)
      go false inside e =
          let i : Measure = record { beyond = 0; turns = length es; lines = false } in
          let bad : IsSyntaxFault g = ap (λ (c : SourceFault). c.code) e ∙ wrong in
          elim ((whole_local l (l.nested - 1) 0 i es (omega arith)).halts g is bad) [
            | inl k ↦ inr (inl (halted f k.front k.token k.after k.parts
                (k.at_place ∙ ap (λ (c : SourceFault). c.at) e)
                (λ x more formed spelled.
                let j : Measure = record { beyond = 0; turns = length (k.front ++ k.token ∷ more); lines = false } in
                let again : whole_at l (l.nested - 1) (k.front ++ k.token ∷ more) ≡ Err g = k.again j more
                (free_room (k.token ∷ k.after) (k.token ∷ more) i j refl refl) (omega arith) in
                elim (no_expression l (k.front ++ k.token ∷ more) (Err g) again x formed spelled) [
                  | inl both ↦ absurd cc
                  | inr (h, both, other) ↦ other (ap (λ (c : SourceFault). c.code) (sym (err_is g h both)) ∙ bad)
                ])))
            | inr out ↦ absurd (ended g.code bad g.at out.past inside)
          ]
        where
          ended : (c : FaultCode) → c ≡ codes.Syntax → (at : ℕ) → at ≡ 4294967295
              → is_syntax c && nat_eq at 4294967295 ≡ false → ⊥
          ended c bad at past e = let both : is_syntax c && nat_eq at 4294967295 ≡ true = rw (bad, past) refl in absurd cc

  value_syntax : (f : SourceFault) → clause_value l line es ≡ Err f → IsSyntaxFault f → IsSyntaxLine line f.at
  unfolding clause_value
  value_syntax f h wrong = go (whole_at l (l.nested - 1) es) refl h
    where
      go : (r : Outcome (ExpressionTree × List Token)) → whole_at l (l.nested - 1) es ≡ r → all_of line es r ≡ Err f
          → IsSyntaxLine line f.at
      go (Ok (e, [])) is h = absurd cc
      go (Ok (e, t ∷ after)) is h = inr (inl (left_over e t after f is (err_is (syntax (t ∷ after)) f h)))
      go (Err g) is h = none_read g f is (err_is (in_run line es g) f h) wrong

-- ---- the line

run_stops : IsReading → (run : List Token) → EndsOnce run → (f : SourceFault) → directive_at run ≡ Err f
    → IsSyntaxFault f → StopsAt run f.at
run_stops is_read run once f is wrong = go (rw is at (is_read run once))
  where
    go : IsAnswered run (Err f) → StopsAt run f.at
    go (refusal, stops) = stops wrong

line_syntax : LineLaws → (l : Limits) (run : List Token) → EndsOnce run → (o : Outcome (Directive (List Token)))
    (f : SourceFault) → directive_at run ≡ o → line_of l run o ≡ Err f → IsSyntaxFault f → IsSyntaxLine run f.at
unfolding with_value sooner
line_syntax laws l run once (Ok d) f is h wrong = elim (choose_cases (first_expression d.clauses) _ _ (Err f) h) [
  | inl (es, first, e) ↦ elim (bind_err (clause_value l run es) _ f e) [
    | inl fails ↦
        let read = run_directive laws.is_read run once d is in
        let s = subst (λ (ts : List Token). StandsInClause ts es) read.spelled (stands_in_directive laws.stand d es
        read.formed first) in
        value_syntax l run es s f fails wrong
    | inr done ↦ absurd cc
  ]
  | inr (none, e) ↦ absurd cc
]
line_syntax laws l run once (Err d) f is h wrong = elim (choose_cases (expression_before d.at run) _ _ (Err f) h) [
  | inl (es, first, e) ↦ elim (bind_err (clause_value l run es) _ f e) [
    | inl fails ↦ value_syntax l run es (stands_before_fault laws.first d.at run es no_directive first) f fails wrong
    | inr done ↦ refused (err_is d f done.2)
  ]
  | inr (none, e) ↦ refused (err_is d f e)
]
  where
    no_directive : IsNoDirective run
    no_directive x formed = let both : Err d ≡ ok x = sym is ∙ run_reads laws.only laws.is_read run once x formed in
        absurd cc

    refused : d ≡ f → IsSyntaxLine run f.at
    refused same = inl (run_stops laws.is_read run once f (is ∙ ap (λ (c : SourceFault). Err c) same) wrong)

-- S3 of a line that begins there
pub line_halts : LineLaws → (l : Limits) (hash : Span) (us : List Token) (f : SourceFault)
    → line_at l (token kinds.DirectiveBegin hash ∷ us) ≡ Err f → IsSyntaxFault f
    → IsElsewhere true (token kinds.DirectiveBegin hash ∷ us) f
unfolding line_at
line_halts laws l hash us f h wrong =
    let ts : List Token = token kinds.DirectiveBegin hash ∷ us in
    elim (choose_cases (run_of ts) _ _ (Err f) h) [
      | inl (r, is, e) ↦ elim (bind_err (line_of l r.0 (directive_at r.0)) _ f e) [
        | inl fails ↦ inl (record {
          before = [];
          line = r.0;
          after = r.1;
          stands = run_is ts r is;
          one_line = run_is_line hash us r is;
          stops = line_syntax laws l r.0 (run_is_ended ts r is) (directive_at r.0) f refl fails wrong;
        })
        | inr done ↦ absurd cc
      ]
      | inr (none, e) ↦ inr (inl (record {
        before = [];
        hash = hash;
        after = us;
        stands = refl;
        endless = no_run us (endless_tail hash us none);
      }))
    ]
