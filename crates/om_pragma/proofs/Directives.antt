-- A directive that is read is spelled so, and one that is spelled is read again.
use Rattle.std.proofs.Common.{◌≡◌, ℕ, suc, List, [], ◌∷◌, ◌++◌, length, Option, Some, None, Bool, true, false, Ok, refl}
use Rattle.std.proofs.Common.{sym, ap, subst, ◌∙◌, ◌<◌, arith, length-append, inl, inr}
use Rattle.std.specs.List.{flat_map}
use Rattle.std.specs.Prelude.{not, ◌&&◌}
use Rattle.om_lexer.specs.declared.token.Punctuator.TheVariants as punctuators
use Rattle.om_lexer.specs.declared.token.Span.{Span}
use Rattle.om_lexer.specs.declared.token.Token.{Token}
use Rattle.om_lexer.specs.declared.token.TokenKind.{TokenKind}
use Rattle.om_lexer.specs.declared.token.TokenKind.TheVariants as kinds
use Rattle.om_pragma.specs.declared.clause.ClauseItem.{ClauseItem}
use Rattle.om_pragma.specs.declared.clause.ClauseKind.{ClauseKind}
use Rattle.om_pragma.specs.declared.clause.ClauseKind.TheVariants as clause_kinds
use Rattle.om_pragma.specs.declared.tree.Directive.{Directive}
use Rattle.om_pragma.specs.declared.tree.DirectiveName.{DirectiveName}
use Rattle.om_pragma.specs.declared.tree.DirectiveName.TheVariants as directives
use Rattle.om_pragma.specs.declared.tree.DirectiveKind.TheVariants as words
use Rattle.om_pragma.specs.Expressions.{IsClosed}
use Rattle.om_pragma.specs.Reading.{◌>>=◌, Outcome, stopped, syntax_at, opening_at, directive_name_at, take_end, is_end}
use Rattle.om_pragma.specs.Reading.{until, item_at, clauses_at, directive_at}
use Rattle.om_pragma.specs.Refusals.{GoesOnWith, IsWhole, IsWrittenItem}
use Rattle.om_pragma.specs.Spelling.{token, opening_spelling, name_spelling, comma_spelling, clause_spelling}
use Rattle.om_pragma.specs.Spelling.{argument_spelling, item_spelling, directive_spelling, kind_of, span_of}
use Rattle.om_pragma.specs.Table.{EachBehind, IsBetween, IsItem, IsDirective, IsDirectiveOf}
use Rattle.om_pragma.specs.Words.{same_kind, same_mark, same_keyword, directive_word, clause_word}
use Rattle.om_pragma.proofs.Items.{item_is, item_again, item_no_end, some_item}
use Rattle.om_pragma.proofs.Names.{stopped_ok, directive_name_is, directive_name_again, opening_is, opening_again}
use Rattle.om_pragma.proofs.Outcomes.{ok, ok_is, ok_err, some, none_some, bind_ok, cond_some}
use Rattle.om_pragma.proofs.Passing.{Ends, until_ends, until_passes, so_many}

-- ---- clauses up to the end

pub end_is : (k : TokenKind) → is_end k ≡ true → k ≡ kinds.DirectiveEnd
end_is kinds.DirectiveEnd e = refl
end_is _ e = absurd cc

pub take_end_is : (ts : List Token) (x : Span × List Token) → take_end ts ≡ some x
    → (ts ≡ token kinds.DirectiveEnd x.0 ∷ []) × (x.1 ≡ [])
unfolding take_end
take_end_is [] x e = absurd (none_some x e)
take_end_is (t ∷ []) x e =
    let c = cond_some (is_end t.kind) (t.span, []) x e in
    subst (λ (y : Span × List Token). (t ∷ [] ≡ token kinds.DirectiveEnd y.0 ∷ []) × (y.1 ≡ [])) c.1
    (ap (λ k. token k t.span ∷ []) (end_is t.kind c.0), refl)
take_end_is (t ∷ (u ∷ us)) x e = absurd (none_some x e)

abbrev pub Items : Type 0
Items = List (ClauseItem (List Token))

abbrev pub spelling : Items → List Token
spelling = flat_map (item_spelling (λ e. e))

-- the clauses that are read, and how their reading ends
abbrev pub ClausesEnd : DirectiveName → List Token → Outcome (Items × Span × List Token) → Type 0
ClausesEnd name = Ends syntax_at take_end (item_at name) (item_spelling (λ e. e)) (IsItem IsClosed name) []

pub clauses_end : (name : DirectiveName) (ts : List Token) (r : Outcome (Items × Span × List Token))
    → clauses_at name ts ≡ r → ClausesEnd name ts r
unfolding clauses_at
clauses_end name ts r h = until_ends syntax_at take_end (item_at name) (item_spelling (λ e. e))
    (IsItem IsClosed name) (item_is name) some_item (suc (length ts)) [] ts r (omega arith) h

pub item_shorter : (name : DirectiveName) (before : Items) (ts : List Token) (i : ClauseItem (List Token))
    (us : List Token) → item_at name before ts ≡ ok (i, us) → length us < length ts
item_shorter name before ts i us e = omega (
  arith,
  ap length (item_is name before ts (i, us) e).0,
  length-append
      (item_spelling (λ e. e) i) us,
  some_item i,
)

-- what stands behind some clauses is reached
pub clauses_pass : (name : DirectiveName) (items : Items) (us : List Token)
    (r : Outcome (Items × Span × List Token)) → EachBehind (IsItem IsClosed name) [] items
    → ((n : ℕ) → until syntax_at take_end (item_at name) (suc n) items us ≡ r) → clauses_at name
    (spelling items ++ us) ≡ r
unfolding clauses_at
clauses_pass name items us r each last = until_passes syntax_at take_end (item_at name) (item_spelling (λ e. e))
    (IsItem IsClosed name) (item_again name) (item_no_end name) items us r last items []
    (suc (length (spelling items ++ us))) refl each (omega (arith, so_many (item_spelling (λ e. e)) some_item items us))

-- ---- the whole

-- the clauses that are read, and the end behind them
pub clauses_are : (n : DirectiveName) (ts : List Token) (c : Items × Span × List Token) → clauses_at n ts ≡ ok c
    → (ts ≡ spelling c.0 ++ token kinds.DirectiveEnd c.1 ∷ []) × EachBehind (IsItem IsClosed n) [] c.0
clauses_are n ts c h =
    let e = clauses_end n ts (ok c) h in
    elim e.last [
      | inl l ↦
          let parts : ts ≡ spelling e.xs ++ token kinds.DirectiveEnd l.0.0 ∷ [] = e.parts
          ∙ ap (λ (w : List Token). spelling e.xs ++ w) (take_end_is e.us l.0 l.1).0 in
          let whole : (ts ≡ spelling e.all ++ token kinds.DirectiveEnd l.0.0 ∷ []) × EachBehind (IsItem IsClosed n)
          [] e.all = subst (λ (y : Items). (ts ≡ spelling y ++ token kinds.DirectiveEnd l.0.0 ∷ [])
          × EachBehind (IsItem IsClosed n) [] y) (sym e.is_all) (parts, e.each) in
          subst (λ (y : Items × Span × List Token). (ts ≡ spelling y.0 ++ token kinds.DirectiveEnd y.1 ∷ [])
          × EachBehind (IsItem IsClosed n) [] y.0) (sym (ok_is c (e.all, l.0.0, l.0.1) l.2)) whole
      | inr l ↦ absurd (ok_err c l.0 l.3)
    ]

pub directive_is : (ts : List Token) (d : Directive (List Token)) → directive_at ts ≡ ok d → IsDirectiveOf ts d
unfolding directive_at directive_spelling IsDirective
directive_is ts d h =
    let o = bind_ok (stopped (opening_at ts)) _ d h in
    let n = bind_ok (directive_name_at o.0.1) _ d o.2 in
    let c = bind_ok (clauses_at n.0.0 n.0.1) _ d n.2 in
    let e = clauses_are n.0.0 n.0.1 c.0 c.1 in
    let whole = opening_is ts o.0 (stopped_ok (opening_at ts) o.0 o.1)
    ∙ ap (λ (w : List Token). opening_spelling o.0.0.0 o.0.0.1 o.0.0.2 ++ w)
    ((directive_name_is o.0.1 n.0 n.1).parts ∙ ap (λ (w : List Token). name_spelling n.0.0 ++ w) e.0) in
    let read : Directive (List Token) = record {
      hash = o.0.0.0;
      pragma = o.0.0.1;
      omp = o.0.0.2;
      name = n.0.0;
      clauses = c.0.0;
      end = c.0.1;
    } in
    subst (IsDirectiveOf ts) (ok_is read d c.2) (record { formed = e.1; spelled = sym whole })

-- ---- again

-- a token with which no directive's words go on
may_follow : TokenKind → Bool
may_follow k = not (same_kind k (directive_word words.For)) && (not (same_kind k (directive_word words.Sections))
    && not (same_kind k (kinds.Punctuator punctuators.OpenParen)))

clause_follows : (k : ClauseKind) → may_follow (clause_word k) ≡ true
unfolding may_follow same_keyword
clause_follows clause_kinds.NumThreads = refl
clause_follows clause_kinds.Filter = refl
clause_follows clause_kinds.Default = refl
clause_follows clause_kinds.Shared = refl
clause_follows clause_kinds.Private = refl
clause_follows clause_kinds.Firstprivate = refl
clause_follows clause_kinds.Reduction = refl
clause_follows clause_kinds.Schedule = refl
clause_follows clause_kinds.Nowait = refl
clause_follows clause_kinds.Update = refl
clause_follows clause_kinds.Read = refl
clause_follows clause_kinds.Write = refl
clause_follows clause_kinds.SeqCst = refl
clause_follows clause_kinds.Relaxed = refl

end_follows : may_follow kinds.DirectiveEnd ≡ true
unfolding may_follow
end_follows = refl

no_word_follows : (k w : TokenKind) → may_follow k ≡ true → may_follow w ≡ false → k ≡ w → ⊥
no_word_follows k w f not e = let both : may_follow w ≡ true = subst (λ v. may_follow v ≡ true) e f in absurd cc

for_not : may_follow (directive_word words.For) ≡ false
unfolding may_follow same_keyword
for_not = refl

sections_not : may_follow (directive_word words.Sections) ≡ false
unfolding may_follow
sections_not = refl

open_not : may_follow (kinds.Punctuator punctuators.OpenParen) ≡ false
unfolding may_follow same_mark
open_not = refl

no_going_on : (n : DirectiveName) (k : TokenKind) → may_follow k ≡ true → GoesOnWith n k → ⊥
no_going_on (directives.Parallel s) k f (inl e) = no_word_follows k (directive_word words.For) f for_not e
no_going_on (directives.Parallel s) k f (inr e) = no_word_follows k (directive_word words.Sections) f sections_not e
no_going_on (directives.Critical s None) k f e = no_word_follows k (kinds.Punctuator punctuators.OpenParen) f open_not e
no_going_on (directives.Flush s None) k f e = no_word_follows k (kinds.Punctuator punctuators.OpenParen) f open_not e
no_going_on _ k f e = absurd e

whole_before : (n : DirectiveName) (k : TokenKind) (s : Span) (us : List Token) → may_follow k ≡ true
    → IsWhole n (token k s ∷ us)
whole_before n k s us f t more e g =
    let first : token k s ≡ t = cc in
    no_going_on n k f (subst (λ (u : Token). GoesOnWith n u.kind) (sym first) g)

pub each_written : (n : DirectiveName) (before items : Items) → EachBehind (IsItem IsClosed n) before items
    → EachBehind IsWrittenItem before items
unfolding EachBehind
each_written n before [] each = tt
each_written n before (i ∷ items) each = (
  record { between = each.0.between; formed = each.0.formed },
  each_written
      n (before ++ i ∷ []) items each.1,
)

-- the end, or clauses before it, go on with no directive's words
pub whole_written : (n : DirectiveName) (items : Items) (end : Span) → EachBehind IsWrittenItem [] items
    → IsWhole n (spelling items ++ token kinds.DirectiveEnd end ∷ [])
unfolding EachBehind clause_spelling item_spelling
whole_written n [] end each = whole_before n kinds.DirectiveEnd end [] end_follows
whole_written n (i ∷ items) end each = first i.comma each.0.between
  where
    first : (c : Option Span) → IsBetween {A = ClauseItem (List Token)} [] c
        → IsWhole n ((comma_spelling c ++ clause_spelling (λ e. e) i.clause ++ spelling items)
        ++ token kinds.DirectiveEnd end ∷ [])
    first (Some c) between = absurd between
    first None between = whole_before n (clause_word (kind_of i.clause)) (span_of i.clause)
        ((argument_spelling (λ e. e) i.clause ++ spelling items) ++ token kinds.DirectiveEnd end ∷ [])
        (clause_follows (kind_of i.clause))

whole_name : (n : DirectiveName) (items : Items) (end : Span) → EachBehind (IsItem IsClosed n) [] items
    → IsWhole n (spelling items ++ token kinds.DirectiveEnd end ∷ [])
whole_name n items end each = whole_written n items end (each_written n [] items each)

-- what stands behind the words of a directive is reached
pub directive_parts : (hash pragma omp : Span) (n : DirectiveName) (behind : List Token)
    (r : Outcome (Items × Span × List Token)) → IsWhole n behind → clauses_at n behind ≡ r
    → directive_at (opening_spelling hash pragma omp ++ (name_spelling n ++ behind))
    ≡ (r >>= λ c. Ok (record { hash = hash; pragma = pragma; omp = omp; name = n; clauses = c.0; end = c.1 }))
unfolding directive_at
directive_parts hash pragma omp n behind r whole e = rw (
  opening_again hash pragma omp (name_spelling n ++ behind),
  directive_name_again n behind whole,
  e,
) refl

pub ends_at : (n : DirectiveName) (items : Items) (s : Span) (k : ℕ) → until syntax_at take_end (item_at n) (suc k)
    items (token kinds.DirectiveEnd s ∷ []) ≡ ok (items, s, [])
unfolding until take_end
ends_at n items s k = refl

pub directive_again : (d : Directive (List Token)) → IsDirective IsClosed d
    → directive_at (directive_spelling (λ e. e) d) ≡ ok d
unfolding directive_spelling IsDirective
directive_again d formed =
    let behind : List Token = spelling d.clauses ++ token kinds.DirectiveEnd d.end ∷ [] in
    let read = clauses_pass d.name d.clauses (token kinds.DirectiveEnd d.end ∷ []) (ok (d.clauses, d.end, []))
    formed (ends_at d.name d.clauses d.end) in
    directive_parts d.hash d.pragma d.omp d.name behind (ok (d.clauses, d.end, []))
    (whole_name d.name d.clauses d.end formed) read

pub read_again : (ts : List Token) (d : Directive (List Token)) → IsDirectiveOf ts d → directive_at ts ≡ ok d
read_again ts d h = subst (λ us. directive_at us ≡ ok d) h.spelled (directive_again d h.formed)

pub same_directive : (c d : Directive (List Token)) → IsDirective IsClosed c → IsDirective IsClosed d
    → directive_spelling (λ e. e) c ≡ directive_spelling (λ e. e) d → c ≡ d
same_directive c d f g e = ok_is c d (sym (directive_again c f) ∙ ap directive_at e ∙ directive_again d g)
