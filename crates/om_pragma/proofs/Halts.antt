-- The place of an S3 is the first token that no directive has there.
use Rattle.std.proofs.Common.{◌≡◌, ℕ, zero, suc, ◌<◌, List, [], ◌∷◌, ◌++◌, length, Option, Some, None, Bool, true, false, cond, Result, Ok, Err, refl, sym, ap, subst, ◌∙◌, arith, append_assoc, ◌⊎◌, inl, inr, All}
use Rattle.std.specs.Prelude.{◌≢◌}
use Rattle.std.proofs.lemmas.List.{append-nil}
use Rattle.std.proofs.lemmas.List.Elements.{All-head, All-tail}
use Rattle.om_lexer.specs.declared.fault.FaultCode.TheVariants as codes
use Rattle.om_lexer.specs.declared.fault.SourceFault.{SourceFault}
use Rattle.om_lexer.specs.declared.token.Punctuator.TheVariants as punctuators
use Rattle.om_lexer.specs.declared.token.Span.{Span}
use Rattle.om_lexer.specs.declared.token.Token.{Token}
use Rattle.om_lexer.specs.declared.token.TokenKind.{TokenKind}
use Rattle.om_lexer.specs.declared.token.TokenKind.TheVariants as kinds
use Rattle.om_pragma.specs.declared.clause.Clause.{Clause}
use Rattle.om_pragma.specs.declared.clause.Clause.TheVariants as clauses
use Rattle.om_pragma.specs.declared.clause.ClauseItem.{ClauseItem}
use Rattle.om_pragma.specs.declared.clause.ClauseKind.{ClauseKind}
use Rattle.om_pragma.specs.declared.clause.PlainClause.TheVariants as plain_kinds
use Rattle.om_pragma.specs.declared.clause.Name as names
use Rattle.om_pragma.specs.declared.tree.Directive.{Directive}
use Rattle.om_pragma.specs.declared.tree.DirectiveName.{DirectiveName}
use Rattle.om_pragma.specs.declared.tree.DirectiveName.TheVariants as directives
use Rattle.om_pragma.specs.declared.tree.DirectiveKind.{DirectiveKind}
use Rattle.om_pragma.specs.declared.tree.DirectiveKind.TheVariants as words
use Rattle.om_pragma.specs.Expressions.{IsClosed}
use Rattle.om_pragma.specs.Reading.{choose, place, fault, stopped, in_clause, no_word, all_clauses, take_kind, take_word, take_end, is_end, opening_at, critical_after, critical_at, list_after, names_at, flush_at, name_after, directive_name_at, clause_after, clause_at, comma_at, item_at, syntax_at, until, clauses_at, directive_at}
use Rattle.om_pragma.specs.Refusals.{IsWhole, IsWrittenItem, BeginsDirective, StopsAt, EndsOnce}
use Rattle.om_pragma.specs.Spelling.{token, mark, list_spelling, critical_spelling, flush_spelling, opening_spelling, name_spelling, comma_spelling, argument_spelling, clause_spelling, item_spelling, directive_spelling, kind_of, span_of}
use Rattle.om_pragma.specs.Table.{may_stand, kinds_of, EachBehind, IsBetween, IsClause, IsItem}
use Rattle.om_pragma.specs.Words.{directive_word, clause_word, among, directive_words}
use Rattle.om_pragma.proofs.Arguments.{clause_again}
use Rattle.om_pragma.proofs.Directives.{Items, spelling, clauses_end, clauses_pass, directive_parts, each_written, whole_written, ends_at, end_is}
use Rattle.om_pragma.proofs.Items.{clause_known, clause_is_word, comma_is, comma_again, take_no_end, some_item}
use Rattle.om_pragma.proofs.Lasts.{ends, ends_last, ends_both, ends_items, ends_comma, ends_words}
use Rattle.om_pragma.proofs.Names.{stopped_ok, directive_name_is, name_after_again, opening_is, opening_again}
use Rattle.om_pragma.proofs.Outcomes.{ok, err, err_is, ok_err, some, bind_err, choose_cases}
use Rattle.om_pragma.proofs.Passing.{so_many}
use Rattle.om_pragma.proofs.Stops.{no_span, names_stuck, critical_stuck, opening_stuck, kind_looks, flat_more}
use Rattle.om_pragma.proofs.Taken.{take_kind_is, take_word_is, take_mark_again, word_again}

-- ---- a directive by the grammar alone is refused with no S3

-- what refuses a written directive is its table
no_syntax : (at : ℕ) (f : SourceFault) → fault codes.BadClause at ≡ f → f.code ≡ codes.Syntax → ⊥
no_syntax at f e s = let both : codes.BadClause ≡ codes.Syntax = ap (λ (g : SourceFault). g.code) e ∙ s in absurd cc

written_clause : (n : DirectiveName) (before : List ClauseKind) (c : Clause (List Token)) (us : List Token) → IsClause IsClosed c → (clause_at n before (clause_spelling (λ e. e) c ++ us) ≡ ok (c, us)) ⊎ (clause_at n before (clause_spelling (λ e. e) c ++ us) ≡ err (fault codes.BadClause (span_of c).start))
unfolding clause_at clause_spelling
written_clause n before c us formed = go (may_stand n before (kind_of c)) refl
  where
    go : (b : Bool) → may_stand n before (kind_of c) ≡ b → (clause_at n before (token (clause_word (kind_of c)) (span_of c) ∷ (argument_spelling (λ e. e) c ++ us)) ≡ ok (c, us)) ⊎ (clause_at n before (token (clause_word (kind_of c)) (span_of c) ∷ (argument_spelling (λ e. e) c ++ us)) ≡ err (fault codes.BadClause (span_of c).start))
    go true can = inl (rw (word_again clause_word all_clauses (kind_of c) (clause_known (kind_of c)) (span_of c) (argument_spelling (λ e. e) c ++ us), can, clause_again c us formed) refl)
    go false can = inr (rw (word_again clause_word all_clauses (kind_of c) (clause_known (kind_of c)) (span_of c) (argument_spelling (λ e. e) c ++ us), can) refl)

comma_before : (before : Items) (i : ClauseItem (List Token)) (us : List Token) → IsBetween before i.comma → comma_at before (item_spelling (λ e. e) i ++ us) ≡ (i.comma, clause_spelling (λ e. e) i.clause ++ us)
unfolding item_spelling clause_spelling
comma_before before i us between = rw append_assoc (comma_again before i.comma (clause_word (kind_of i.clause)) (span_of i.clause) (argument_spelling (λ e. e) i.clause ++ us) between (clause_is_word (kind_of i.clause)))

written_item : (n : DirectiveName) (before : Items) (i : ClauseItem (List Token)) (us : List Token) → IsWrittenItem before i → (item_at n before (item_spelling (λ e. e) i ++ us) ≡ ok (i, us)) ⊎ ((at : ℕ) × (item_at n before (item_spelling (λ e. e) i ++ us) ≡ err (fault codes.BadClause at)))
unfolding item_at
written_item n before i us h = elim (written_clause n (kinds_of before) i.clause us h.formed) [
  | inl e ↦ inl (rw (comma_before before i us h.between, e) refl)
  | inr e ↦ inr ((span_of i.clause).start, rw (comma_before before i us h.between, e) refl)
]

item_no_end : (i : ClauseItem (List Token)) (us : List Token) → take_end (item_spelling (λ e. e) i ++ us) ≡ None
unfolding item_spelling clause_spelling take_end
item_no_end i us = go i.comma
  where
    go : (c : Option Span) → take_end ((comma_spelling c ++ token (clause_word (kind_of i.clause)) (span_of i.clause) ∷ argument_spelling (λ e. e) i.clause) ++ us) ≡ None
    go (Some c) = refl
    go None = take_no_end (clause_word (kind_of i.clause)) (span_of i.clause) (argument_spelling (λ e. e) i.clause ++ us) (clause_is_word (kind_of i.clause))

written_rest : (n : DirectiveName) (k : ℕ) (before items : Items) (end : Span) (f : SourceFault) → length items < k → EachBehind IsWrittenItem before items → until syntax_at take_end (item_at n) k before (spelling items ++ token kinds.DirectiveEnd end ∷ []) ≡ err f → f.code ≡ codes.Syntax → ⊥
unfolding until EachBehind
written_rest n zero before items end f lt each e s = absurd (omega arith)
written_rest n (suc k) before [] end f lt each e s = ok_err (before, end, []) f (sym (ends_at n before end k) ∙ e)
written_rest n (suc k) before (i ∷ items) end f lt each e s =
    let us : List Token = spelling items ++ token kinds.DirectiveEnd end ∷ [] in
    let absent : take_end (item_spelling (λ e. e) i ++ us) ≡ None = item_no_end i us in
    elim (written_item n before i us each.0) [
      | inl read ↦ written_rest n k (before ++ i ∷ []) items end f (omega arith) each.1 (rw (append_assoc, absent, read) at e) s
      | inr wrong ↦ no_syntax wrong.0 f (err_is (fault codes.BadClause wrong.0) f (rw (append_assoc, absent, wrong.1) at e)) s
    ]

pub written_no_syntax : (d : Directive (List Token)) → EachBehind IsWrittenItem [] d.clauses → (f : SourceFault) → directive_at (directive_spelling (λ e. e) d) ≡ err f → f.code ≡ codes.Syntax → ⊥
unfolding directive_spelling clauses_at
written_no_syntax d written f e s =
    let behind : List Token = spelling d.clauses ++ token kinds.DirectiveEnd d.end ∷ [] in
    let parts = directive_parts d.hash d.pragma d.omp d.name behind (clauses_at d.name behind) (whole_written d.name d.clauses d.end written) refl in
    elim (bind_err (clauses_at d.name behind) _ f (sym parts ∙ e)) [
      | inl h ↦ written_rest d.name (suc (length behind)) [] d.clauses d.end f (many d.clauses) written h s
      | inr h ↦ ok_err (record { hash = d.hash; pragma = d.pragma; omp = d.omp; name = d.name; clauses = h.0.0; end = h.0.1 }) f h.2
    ]
  where
    many : (items : Items) → length items < suc (length (spelling items ++ token kinds.DirectiveEnd d.end ∷ []))
    many items = omega (arith, so_many (item_spelling (λ e. e)) some_item items (token kinds.DirectiveEnd d.end ∷ []))

-- ---- where reading stops

abbrev NoEnd : Token → Type 0
NoEnd t = t.kind ≢ kinds.DirectiveEnd

-- reading stops at the first of the tokens that are left, behind some that do not end a line
record Halts (ts : List Token) (f : SourceFault) : Type 0 where
  front : List Token
  rest : List Token
  parts : ts ≡ front ++ rest
  begins : BeginsDirective front
  place : place rest ≡ f.at
  goes_on : ends front ≡ false
  again : (t : Token) (after other : List Token) → rest ≡ t ∷ after → directive_at (front ++ t ∷ other) ≡ err f

-- a line's end stands only last
abbrev EndsLast : List Token → Type 0
EndsLast ts = (front : List Token) (t : Token) (after : List Token) → ts ≡ front ++ t ∷ after → t.kind ≡ kinds.DirectiveEnd → after ≡ []

-- or all of the tokens begin a directive, and do not end the line
stops_or_runs_out : (ts : List Token) (f : SourceFault) → f.code ≡ codes.Syntax → Halts ts f → StopsAt ts f.at ⊎ ((ends ts ≡ false) × BeginsDirective ts)
stops_or_runs_out ts f s h = go h.rest refl
  where
    go : (rest : List Token) → h.rest ≡ rest → StopsAt ts f.at ⊎ ((ends ts ≡ false) × BeginsDirective ts)
    go [] is =
        let all : ts ≡ h.front = h.parts ∙ ap (λ (w : List Token). h.front ++ w) is ∙ append-nil h.front in
        inr (ap ends all ∙ h.goes_on, subst BeginsDirective (sym all) h.begins)
    go (t ∷ after) is = inl (record {
      front = h.front;
      first = t;
      after = after;
      parts = h.parts ∙ ap (λ (w : List Token). h.front ++ w) is;
      begins = h.begins;
      place = ap place (sym is) ∙ h.place;
      stops = λ b.
          let whole : directive_spelling (λ e. e) b.directive ≡ h.front ++ t ∷ b.more = b.parts ∙ simp append_assoc in
          written_no_syntax b.directive b.written f (ap directive_at whole ∙ h.again t after b.more is) s;
    })

-- the end stands at no other place
only_last : (ts : List Token) → EndsOnce ts → EndsLast ts
only_last ts once front t after parts is = go once.front front once.endless (sym once.parts ∙ parts)
  where
    last : Token
    last = token kinds.DirectiveEnd once.end

    go : (xs ys : List Token) → All NoEnd xs → xs ++ last ∷ [] ≡ ys ++ t ∷ after → after ≡ []
    go [] [] none e = let tail : [] ≡ after = cc in sym tail
    go [] (y ∷ []) none e = absurd cc
    go [] (y ∷ (z ∷ ys)) none e = absurd cc
    go (x ∷ xs) [] none e = let same : x ≡ t = cc in absurd (All-head NoEnd x xs none (ap (λ (u : Token). u.kind) same ∙ is))
    go (x ∷ xs) (y ∷ ys) none e = let tail : xs ++ last ∷ [] ≡ ys ++ t ∷ after = cc in go xs ys (All-tail NoEnd x xs none) tail

-- a directive of these words alone begins with what its words begin with
begins_name : (hash pragma omp : Span) (n : DirectiveName) (front more : List Token) → name_spelling n ≡ front ++ more → BeginsDirective (opening_spelling hash pragma omp ++ front)
unfolding directive_spelling EachBehind
begins_name hash pragma omp n front more e = record {
  directive = record { hash = hash; pragma = pragma; omp = omp; name = n; clauses = []; end = no_span };
  more = more ++ token kinds.DirectiveEnd no_span ∷ [];
  written = tt;
  parts = ap (λ (w : List Token). opening_spelling hash pragma omp ++ (w ++ token kinds.DirectiveEnd no_span ∷ [])) e ∙ simp append_assoc;
}

barrier_only : (s : Span) → name_spelling (directives.Barrier s) ≡ token (directive_word words.Barrier) s ∷ []
unfolding name_spelling
barrier_only s = refl

opening_halts : (ts : List Token) (at : ℕ) → opening_at ts ≡ err at → Halts ts (fault codes.Syntax at)
unfolding directive_spelling EachBehind directive_at
opening_halts ts at e =
    let k = opening_stuck ts at e in
    record {
      front = k.front;
      rest = k.rest;
      parts = k.parts;
      place = k.place;
      goes_on = k.goes_on;
      begins = record {
        directive = record { hash = k.part.0; pragma = k.part.1; omp = k.part.2; name = directives.Barrier no_span; clauses = []; end = no_span };
        more = k.more ++ (token (directive_word words.Barrier) no_span ∷ token kinds.DirectiveEnd no_span ∷ []);
        written = tt;
        parts = rw (barrier_only no_span) (ap (λ (w : List Token). w ++ (token (directive_word words.Barrier) no_span ∷ token kinds.DirectiveEnd no_span ∷ [])) k.begins ∙ simp append_assoc);
      };
      again = λ t after other is. rw (k.again t after other is) refl;
    }

-- ---- the words of the directive

word_looks : {K : Type 0} (word : K → TokenKind) (ks : List K) (t : Token) (us other : List Token) → take_word word ks (t ∷ us) ≡ None → take_word word ks (t ∷ other) ≡ None
unfolding take_word
word_looks {K} word ks t us other e = go (among word ks t.kind) e
  where
    go : (o : Option K) → choose {B = Option ((K × Span) × List Token)} o (λ k. some ((k, t.span), us)) None ≡ None → choose {B = Option ((K × Span) × List Token)} o (λ k. some ((k, t.span), other)) None ≡ None
    go (Some k) e = absurd cc
    go None e = refl

no_word_place : (ts : List Token) → place ts ≡ (no_word ts).at
no_word_place [] = refl
no_word_place (t ∷ ts) = refl

-- the same of the words of a directive, behind the opening
record NameHalts (hash pragma omp : Span) (ts : List Token) (f : SourceFault) : Type 0 where
  front : List Token
  rest : List Token
  parts : ts ≡ front ++ rest
  begins : BeginsDirective (opening_spelling hash pragma omp ++ front)
  place : place rest ≡ f.at
  goes_on : ends front ≡ false
  again : (t : Token) (after other : List Token) → rest ≡ t ∷ after → directive_name_at (front ++ t ∷ other) ≡ err f

stopped_err : {A : Type 0} (r : Result A ℕ) (f : SourceFault) → stopped r ≡ err f → (at : ℕ) × (r ≡ err at) × (f ≡ fault codes.Syntax at)
stopped_err (Ok x) f e = absurd cc
stopped_err (Err at) f e = (at, refl, sym (err_is (fault codes.Syntax at) f e))

critical_halts : (hash pragma omp s left : Span) (ts : List Token) (at : ℕ) → critical_after left ts ≡ err at → NameHalts hash pragma omp (token (directive_word words.Critical) s ∷ mark punctuators.OpenParen left ∷ ts) (fault codes.Syntax at)
unfolding name_spelling critical_spelling name_after critical_at
critical_halts hash pragma omp s left ts at e =
    let k = critical_stuck left ts at e in
    let n : Span × names.Name × Span = (left, k.part.1, k.part.2) in
    record {
      front = token (directive_word words.Critical) s ∷ mark punctuators.OpenParen left ∷ k.front;
      rest = k.rest;
      parts = ap (λ (w : List Token). token (directive_word words.Critical) s ∷ mark punctuators.OpenParen left ∷ w) k.parts;
      begins = begins_name hash pragma omp (directives.Critical s (some n)) (token (directive_word words.Critical) s ∷ mark punctuators.OpenParen left ∷ k.front) k.more (ap (λ (w : List Token). token (directive_word words.Critical) s ∷ mark punctuators.OpenParen left ∷ w) k.begins);
      place = k.place;
      goes_on = ends_both (token (directive_word words.Critical) s ∷ mark punctuators.OpenParen left ∷ []) k.front refl k.goes_on;
      again = λ t after other is. name_after_again words.Critical s (mark punctuators.OpenParen left ∷ (k.front ++ t ∷ other)) (err (fault codes.Syntax at)) (rw (take_mark_again punctuators.OpenParen left (k.front ++ t ∷ other), k.again t after other is) refl);
    }

flush_halts : (hash pragma omp s left : Span) (ts : List Token) (at : ℕ) → list_after left ts ≡ err at → NameHalts hash pragma omp (token (directive_word words.Flush) s ∷ mark punctuators.OpenParen left ∷ ts) (fault codes.Syntax at)
unfolding name_spelling flush_spelling list_spelling name_after flush_at list_after
flush_halts hash pragma omp s left ts at e =
    elim (bind_err (names_at ts) _ at e) [
      | inl wrong ↦
          let k = names_stuck ts at wrong in
          record {
            front = token (directive_word words.Flush) s ∷ mark punctuators.OpenParen left ∷ k.front;
            rest = k.rest;
            parts = ap (λ (w : List Token). token (directive_word words.Flush) s ∷ mark punctuators.OpenParen left ∷ w) k.parts;
            begins = begins_name hash pragma omp (directives.Flush s (some (record { open_paren = left; first = k.part.0; rest = k.part.1; close_paren = k.part.2 }))) (token (directive_word words.Flush) s ∷ mark punctuators.OpenParen left ∷ k.front) k.more (ap (λ (w : List Token). token (directive_word words.Flush) s ∷ mark punctuators.OpenParen left ∷ w) k.begins);
            place = k.place;
            goes_on = ends_both (token (directive_word words.Flush) s ∷ mark punctuators.OpenParen left ∷ []) k.front refl k.goes_on;
            again = λ t after other is. name_after_again words.Flush s (mark punctuators.OpenParen left ∷ (k.front ++ t ∷ other)) (err (fault codes.Syntax at)) (rw (take_mark_again punctuators.OpenParen left (k.front ++ t ∷ other), k.again t after other is) refl);
          }
      | inr wrong ↦ absurd cc
    ]

critical_at_halts : (hash pragma omp s : Span) (ts : List Token) (f : SourceFault) → critical_at s ts ≡ err f → NameHalts hash pragma omp (token (directive_word words.Critical) s ∷ ts) f
unfolding critical_at
critical_at_halts hash pragma omp s ts f e = elim (choose_cases (take_kind (kinds.Punctuator punctuators.OpenParen) ts) _ _ (err f) e) [
  | inl o ↦ elim (bind_err (stopped (critical_after o.0.0 o.0.1)) _ f o.2) [
    | inl h ↦
        let r = stopped_err (critical_after o.0.0 o.0.1) f h in
        let there : NameHalts hash pragma omp (token (directive_word words.Critical) s ∷ mark punctuators.OpenParen o.0.0 ∷ o.0.1) f = subst (NameHalts hash pragma omp (token (directive_word words.Critical) s ∷ mark punctuators.OpenParen o.0.0 ∷ o.0.1)) (sym r.2) (critical_halts hash pragma omp s o.0.0 o.0.1 r.0 r.1) in
        subst (λ (w : List Token). NameHalts hash pragma omp (token (directive_word words.Critical) s ∷ w) f) (sym (take_kind_is (kinds.Punctuator punctuators.OpenParen) ts o.0.0 o.0.1 o.1)) there
    | inr h ↦ absurd cc
  ]
  | inr o ↦ absurd cc
]

flush_at_halts : (hash pragma omp s : Span) (ts : List Token) (f : SourceFault) → flush_at s ts ≡ err f → NameHalts hash pragma omp (token (directive_word words.Flush) s ∷ ts) f
unfolding flush_at
flush_at_halts hash pragma omp s ts f e = elim (choose_cases (take_kind (kinds.Punctuator punctuators.OpenParen) ts) _ _ (err f) e) [
  | inl o ↦ elim (bind_err (stopped (list_after o.0.0 o.0.1)) _ f o.2) [
    | inl h ↦
        let r = stopped_err (list_after o.0.0 o.0.1) f h in
        let there : NameHalts hash pragma omp (token (directive_word words.Flush) s ∷ mark punctuators.OpenParen o.0.0 ∷ o.0.1) f = subst (NameHalts hash pragma omp (token (directive_word words.Flush) s ∷ mark punctuators.OpenParen o.0.0 ∷ o.0.1)) (sym r.2) (flush_halts hash pragma omp s o.0.0 o.0.1 r.0 r.1) in
        subst (λ (w : List Token). NameHalts hash pragma omp (token (directive_word words.Flush) s ∷ w) f) (sym (take_kind_is (kinds.Punctuator punctuators.OpenParen) ts o.0.0 o.0.1 o.1)) there
    | inr h ↦ absurd cc
  ]
  | inr o ↦ absurd cc
]

name_after_halts : (hash pragma omp : Span) (w : DirectiveKind) (s : Span) (ts : List Token) (f : SourceFault) → name_after w s ts ≡ err f → NameHalts hash pragma omp (token (directive_word w) s ∷ ts) f
unfolding name_after
name_after_halts hash pragma omp words.Critical s ts f e = critical_at_halts hash pragma omp s ts f e
name_after_halts hash pragma omp words.Flush s ts f e = flush_at_halts hash pragma omp s ts f e
name_after_halts hash pragma omp _ s ts f e = absurd cc

name_halts : (hash pragma omp : Span) (ts : List Token) (f : SourceFault) → directive_name_at ts ≡ err f → NameHalts hash pragma omp ts f
unfolding directive_name_at
name_halts hash pragma omp ts f e = elim (choose_cases (take_word directive_word directive_words ts) _ _ (err f) e) [
  | inl w ↦ subst (λ (v : List Token). NameHalts hash pragma omp v f) (sym (take_word_is directive_word directive_words ts w.0 w.1)) (name_after_halts hash pragma omp w.0.0.0 w.0.0.1 w.0.1 f w.2)
  | inr w ↦
      let same : no_word ts ≡ f = err_is (no_word ts) f w.1 in
      record {
        front = [];
        rest = ts;
        parts = refl;
        begins = begins_name hash pragma omp (directives.Barrier no_span) [] (name_spelling (directives.Barrier no_span)) refl;
        place = no_word_place ts ∙ ap (λ (g : SourceFault). g.at) same;
        goes_on = refl;
        again = λ t after other is.
            let none : take_word directive_word directive_words (t ∷ other) ≡ None = word_looks directive_word directive_words t after other (subst (λ (v : List Token). take_word directive_word directive_words v ≡ None) is w.0) in
            let here : no_word (t ∷ other) ≡ f = ap no_word (sym is) ∙ same in
            rw (none, here) refl;
      }
]

-- ---- clauses

one_more : {A : Type 0} (P : List A → A → Type 0) (before xs : List A) (x : A) → EachBehind P before xs → P (before ++ xs) x → EachBehind P before (xs ++ x ∷ [])
unfolding EachBehind
one_more P before [] x each last = (subst (λ (b : List _). P b x) (append-nil before) last, tt)
one_more P before (y ∷ xs) x each last = (each.0, one_more P (before ++ y ∷ []) xs x each.1 (subst (λ (b : List _). P b x) (sym (append_assoc before (y ∷ []) xs)) last))

abbrev nowait : Span → ClauseItem (List Token)
nowait comma = record { comma = some comma; clause = clauses.Plain plain_kinds.Nowait no_span }

nowait_spelled : (comma : Span) → item_spelling (λ e. e) (nowait comma) ≡ mark punctuators.Comma comma ∷ clause_spelling (λ e. e) (nowait comma).clause
unfolding item_spelling
nowait_spelled comma = refl

begins_clauses : (hash pragma omp : Span) (n : DirectiveName) (items : Items) (comma : Option Span) → EachBehind (IsItem IsClosed n) [] items → IsBetween items comma → BeginsDirective (opening_spelling hash pragma omp ++ (name_spelling n ++ (spelling items ++ comma_spelling comma)))
unfolding directive_spelling
begins_clauses hash pragma omp n items None each between = record {
  directive = record { hash = hash; pragma = pragma; omp = omp; name = n; clauses = items; end = no_span };
  more = token kinds.DirectiveEnd no_span ∷ [];
  written = each_written n [] items each;
  parts = simp (append_assoc, append-nil);
}
begins_clauses hash pragma omp n items (Some comma) each between = record {
  directive = record { hash = hash; pragma = pragma; omp = omp; name = n; clauses = items ++ nowait comma ∷ []; end = no_span };
  more = clause_spelling (λ e. e) (nowait comma).clause ++ token kinds.DirectiveEnd no_span ∷ [];
  written = one_more IsWrittenItem [] items (nowait comma) (each_written n [] items each) (record { between = between; formed = tt });
  parts = rw (flat_more (item_spelling (λ e. e)) items (nowait comma), nowait_spelled comma) (simp append_assoc);
}

comma_head : (before : Items) (us : List Token) (t : Token) (after other : List Token) → (comma_at before us).1 ≡ t ∷ after → comma_at before (comma_spelling (comma_at before us).0 ++ t ∷ other) ≡ ((comma_at before us).0, t ∷ other)
unfolding comma_at
comma_head [] us t after other is = refl
comma_head (b ∷ bs) us t after other is = go (take_kind (kinds.Punctuator punctuators.Comma) us) refl is
  where
    Read : Type 0
    Read = Option Span × List Token

    go : (o : Option (Span × List Token)) → take_kind (kinds.Punctuator punctuators.Comma) us ≡ o → (choose {B = Read} o (λ c. (some c.0, c.1)) (None, us)).1 ≡ t ∷ after → comma_at (b ∷ bs) (comma_spelling (choose {B = Read} o (λ c. (some c.0, c.1)) (None, us)).0 ++ t ∷ other) ≡ ((choose {B = Read} o (λ c. (some c.0, c.1)) (None, us)).0, t ∷ other)
    go (Some c) taken is = rw (take_mark_again punctuators.Comma c.0 (t ∷ other)) refl
    go None taken is = rw (kind_looks (kinds.Punctuator punctuators.Comma) t after other (subst (λ (v : List Token). take_kind (kinds.Punctuator punctuators.Comma) v ≡ None) is taken)) refl

no_end_first : (t : Token) (after : List Token) → take_end (t ∷ after) ≡ None → (t.kind ≡ kinds.DirectiveEnd → after ≡ []) → is_end t.kind ≡ false
unfolding take_end
no_end_first t after absent last = go (is_end t.kind) refl
  where
    go : (b : Bool) → is_end t.kind ≡ b → b ≡ false
    go false is = refl
    go true is =
        let alone : after ≡ [] = last (end_is t.kind is) in
        let found : take_end (t ∷ after) ≡ some (t.span, []) = rw (alone, is) refl in
        absurd cc

no_end_behind : (c : Option Span) (t : Token) (other : List Token) → (c ≡ None → is_end t.kind ≡ false) → take_end (comma_spelling c ++ t ∷ other) ≡ None
unfolding take_end
no_end_behind (Some c) t other ends = refl
no_end_behind None t [] ends = rw (ends refl) refl
no_end_behind None t (u ∷ us) ends = refl

whole_head : (n : DirectiveName) (front : List Token) (t : Token) (after other : List Token) → IsWhole n (front ++ t ∷ after) → IsWhole n (front ++ t ∷ other)
whole_head n [] t after other whole u more is g = let first : t ≡ u = cc in whole u after (ap (λ (v : Token). v ∷ after) first) g
whole_head n (v ∷ front) t after other whole u more is g = let first : v ≡ u = cc in whole u (front ++ t ∷ after) (ap (λ (w : Token). w ∷ (front ++ t ∷ after)) first) g

clause_syntax : (n : DirectiveName) (before : List ClauseKind) (ts : List Token) (f : SourceFault) → clause_at n before ts ≡ err f → f.code ≡ codes.Syntax → (take_word clause_word all_clauses ts ≡ None) × (no_word ts ≡ f)
unfolding clause_at
clause_syntax n before ts f e s = elim (choose_cases (take_word clause_word all_clauses ts) _ _ (err f) e) [
  | inl w ↦ absurd (go (may_stand n before w.0.0.0) w.0 w.2)
  | inr w ↦ (w.0, err_is (no_word ts) f w.1)
]
  where
    inside : (word : Span) (r : Result (Clause (List Token) × List Token) ℕ) → in_clause word r ≡ err f → ⊥
    inside word (Ok x) e = ok_err x f e
    inside word (Err at) e = let same : codes.BadClause ≡ codes.Syntax = ap (λ (g : SourceFault). g.code) (err_is (fault codes.BadClause word.start) f e) ∙ s in absurd cc

    go : (b : Bool) (w : (ClauseKind × Span) × List Token) → cond b (in_clause w.0.1 (clause_after w.0.0 w.0.1 w.1)) (Err (fault codes.BadClause w.0.1.start)) ≡ err f → ⊥
    go true w e = inside w.0.1 (clause_after w.0.0 w.0.1 w.1) e
    go false w e = let same : codes.BadClause ≡ codes.Syntax = ap (λ (g : SourceFault). g.code) (err_is (fault codes.BadClause w.0.1.start) f e) ∙ s in absurd cc

-- the same of the clauses, behind the words of a directive
record ClausesHalt (hash pragma omp : Span) (n : DirectiveName) (ts : List Token) (f : SourceFault) : Type 0 where
  front : List Token
  rest : List Token
  parts : ts ≡ front ++ rest
  begins : BeginsDirective (opening_spelling hash pragma omp ++ (name_spelling n ++ front))
  place : place rest ≡ f.at
  goes_on : ends front ≡ false
  again : (t : Token) (after other : List Token) → rest ≡ t ∷ after → clauses_at n (front ++ t ∷ other) ≡ err f

item_halts : (n : DirectiveName) (all : Items) (us : List Token) (f : SourceFault) → take_end us ≡ None → ((t : Token) (after : List Token) → us ≡ t ∷ after → t.kind ≡ kinds.DirectiveEnd → after ≡ []) → clause_at n (kinds_of all) (comma_at all us).1 ≡ err f → f.code ≡ codes.Syntax → (t : Token) (after other : List Token) → (comma_at all us).1 ≡ t ∷ after → (k : ℕ) → until syntax_at take_end (item_at n) (suc k) all (comma_spelling (comma_at all us).0 ++ t ∷ other) ≡ err f
unfolding until item_at clause_at
item_halts n all us f absent once e s t after other is k =
    let c = clause_syntax n (kinds_of all) (comma_at all us).1 f e s in
    let none : take_word clause_word all_clauses (t ∷ other) ≡ None = word_looks clause_word all_clauses t after other (subst (λ (v : List Token). take_word clause_word all_clauses v ≡ None) is c.0) in
    let here : no_word (t ∷ other) ≡ f = ap no_word (sym is) ∙ c.1 in
    let last : take_end (comma_spelling (comma_at all us).0 ++ t ∷ other) ≡ None = no_end_behind (comma_at all us).0 t other (λ no_comma.
    let whole : us ≡ t ∷ after = (comma_is all us).0 ∙ rw (no_comma, is) refl in
    no_end_first t after (subst (λ (v : List Token). take_end v ≡ None) whole absent) (once t after whole)) in
    rw (last, comma_head all us t after other is, none, here) refl

clauses_halt : (hash pragma omp : Span) (n : DirectiveName) (ts : List Token) (f : SourceFault) → ((front : List Token) (t : Token) (after : List Token) → ts ≡ front ++ t ∷ after → t.kind ≡ kinds.DirectiveEnd → after ≡ []) → clauses_at n ts ≡ err f → f.code ≡ codes.Syntax → ClausesHalt hash pragma omp n ts f
unfolding item_at
clauses_halt hash pragma omp n ts f once h s =
    let e = clauses_end n ts (err f) h in
    elim e.last [
      | inl l ↦ absurd (ok_err (e.all, l.0.0, l.0.1) f (sym l.2))
      | inr l ↦
          let same : f ≡ l.0 = err_is f l.0 l.3 in
          let each : EachBehind (IsItem IsClosed n) [] e.all = subst (λ (y : Items). EachBehind (IsItem IsClosed n) [] y) (sym e.is_all) e.each in
          let whole : ts ≡ spelling e.all ++ e.us = subst (λ (y : Items). ts ≡ spelling y ++ e.us) (sym e.is_all) e.parts in
          elim (bind_err (clause_at n (kinds_of e.all) (comma_at e.all e.us).1) _ l.0 l.2) [
            | inl c ↦
                let wrong : clause_at n (kinds_of e.all) (comma_at e.all e.us).1 ≡ err f = c ∙ ap err (sym same) in
                let comma = comma_is e.all e.us in
                let w = clause_syntax n (kinds_of e.all) (comma_at e.all e.us).1 f wrong s in
                let ends : (t : Token) (after : List Token) → e.us ≡ t ∷ after → t.kind ≡ kinds.DirectiveEnd → after ≡ [] = λ t after is. once (spelling e.all) t after (whole ∙ ap (λ (v : List Token). spelling e.all ++ v) is) in
                record {
                  front = spelling e.all ++ comma_spelling (comma_at e.all e.us).0;
                  rest = (comma_at e.all e.us).1;
                  parts = whole ∙ ap (λ (v : List Token). spelling e.all ++ v) comma.0 ∙ sym (append_assoc (spelling e.all) (comma_spelling (comma_at e.all e.us).0) (comma_at e.all e.us).1);
                  begins = begins_clauses hash pragma omp n e.all (comma_at e.all e.us).0 each comma.1;
                  place = no_word_place (comma_at e.all e.us).1 ∙ ap (λ (g : SourceFault). g.at) w.1;
                  goes_on = ends_both (spelling e.all) (comma_spelling (comma_at e.all e.us).0) (ends_items e.all) (ends_comma (comma_at e.all e.us).0);
                  again = λ t after other is. rw append_assoc (clauses_pass n e.all (comma_spelling (comma_at e.all e.us).0 ++ t ∷ other) (err f) each (λ k. item_halts n e.all e.us f l.1 ends wrong s t after other is k));
                }
            | inr c ↦ absurd cc
          ]
    ]

-- ---- the whole

halts : (ts : List Token) (f : SourceFault) → EndsLast ts → directive_at ts ≡ err f → f.code ≡ codes.Syntax → Halts ts f
unfolding directive_at opening_spelling
halts ts f once h s = elim (bind_err (stopped (opening_at ts)) _ f h) [
  | inl e ↦ let r = stopped_err (opening_at ts) f e in subst (Halts ts) (sym r.2) (opening_halts ts r.0 r.1)
  | inr o ↦
      let opening : List Token = opening_spelling o.0.0.0 o.0.0.1 o.0.0.2 in
      let begin : ts ≡ opening ++ o.0.1 = opening_is ts o.0 (stopped_ok (opening_at ts) o.0 o.1) in
      elim (bind_err (directive_name_at o.0.1) _ f o.2) [
        | inl e ↦
            let k = name_halts o.0.0.0 o.0.0.1 o.0.0.2 o.0.1 f e in
            record {
              front = opening ++ k.front;
              rest = k.rest;
              begins = k.begins;
              place = k.place;
              goes_on = ends_both opening k.front refl k.goes_on;
              parts = begin ∙ ap (λ (v : List Token). opening ++ v) k.parts ∙ sym (append_assoc opening k.front k.rest);
              again = λ t after other is. rw (append_assoc, opening_again o.0.0.0 o.0.0.1 o.0.0.2 (k.front ++ t ∷ other), k.again t after other is) refl;
            }
        | inr n ↦ elim (bind_err (clauses_at n.0.0 n.0.1) _ f n.2) [
          | inl e ↦
              let words = directive_name_is o.0.1 n.0 n.1 in
              let spelled : List Token = name_spelling n.0.0 in
              let whole : ts ≡ opening ++ (spelled ++ n.0.1) = begin ∙ ap (λ (v : List Token). opening ++ v) words.parts in
              let k = clauses_halt o.0.0.0 o.0.0.1 o.0.0.2 n.0.0 n.0.1 f (λ front t after is. once (opening ++ (spelled ++ front)) t after (whole ∙ ap (λ (v : List Token). opening ++ (spelled ++ v)) is ∙ simp append_assoc)) e s in
              record {
                front = opening ++ (spelled ++ k.front);
                rest = k.rest;
                begins = k.begins;
                place = k.place;
                goes_on = ends_both opening (spelled ++ k.front) refl (ends_both spelled k.front (ends_words n.0.0) k.goes_on);
                parts = whole ∙ ap (λ (v : List Token). opening ++ (spelled ++ v)) k.parts ∙ simp append_assoc;
                again = λ t after other is.
                    let behind : List Token = k.front ++ t ∷ other in
                    let goes_on : IsWhole n.0.0 behind = whole_head n.0.0 k.front t after other (subst (IsWhole n.0.0) (k.parts ∙ ap (λ (v : List Token). k.front ++ v) is) words.whole) in
                    let read : directive_at (opening ++ (spelled ++ behind)) ≡ err f = directive_parts o.0.0.0 o.0.0.1 o.0.0.2 n.0.0 behind (err f) goes_on (k.again t after other is) in
                    simp append_assoc read;
              }
          | inr e ↦ absurd cc
        ]
      ]
]

pub syntax_stops : (ts : List Token) (f : SourceFault) → EndsOnce ts → directive_at ts ≡ err f → f.code ≡ codes.Syntax → StopsAt ts f.at
syntax_stops ts f once h s = elim (stops_or_runs_out ts f s (halts ts f (only_last ts once) h s)) [
  | inl stops ↦ stops
  | inr out ↦
      let last : ends ts ≡ true = ap ends once.parts ∙ ends_last once.front (token kinds.DirectiveEnd once.end) in
      let none : ends ts ≡ false = out.0 in
      absurd cc
]

pub endless_stops : (ts : List Token) (f : SourceFault) → All NoEnd ts → directive_at ts ≡ err f → f.code ≡ codes.Syntax → StopsAt ts f.at ⊎ BeginsDirective ts
endless_stops ts f endless h s = elim (stops_or_runs_out ts f s (halts ts f never h s)) [
  | inl stops ↦ inl stops
  | inr out ↦ inr out.1
]
  where
    there : (front : List Token) (t : Token) (after : List Token) → All NoEnd (front ++ t ∷ after) → NoEnd t
    there [] t after each = All-head NoEnd t after each
    there (u ∷ front) t after each = there front t after (All-tail NoEnd u (front ++ t ∷ after) each)

    never : EndsLast ts
    never front t after parts is = absurd (there front t after (subst (All NoEnd) parts endless) is)
