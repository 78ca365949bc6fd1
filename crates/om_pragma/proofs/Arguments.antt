-- What stands behind a clause's word: what is read is spelled so, and what is spelled is read again.
use Rattle.std.proofs.Common.{◌≡◌, ℕ, suc, ◌<◌, ◌≤◌, List, [], ◌∷◌, ◌++◌, length, Option, Some, None, Bool, true, false}
use Rattle.std.proofs.Common.{cond, Result, Ok, refl, sym, ap, subst, ◌∙◌, arith, append_assoc, inl, inr}
use Rattle.std.specs.Prelude.{◌-◌, ◌+◌, ◌==◌, nat_le, IsSomeAnd, if◌then◌else◌}
use Rattle.std.specs.List.{flat_map}
use Rattle.std.proofs.lemmas.Bool.{eqb-true, leb-true, le-leb}
use Rattle.om_lexer.specs.declared.token.Punctuator.TheVariants as punctuators
use Rattle.om_lexer.specs.declared.token.Span.{Span}
use Rattle.om_lexer.specs.declared.token.Token.{Token}
use Rattle.om_lexer.specs.declared.token.TokenKind.{TokenKind}
use Rattle.om_lexer.specs.declared.token.TokenKind.TheVariants as kinds
use Rattle.om_pragma.specs.declared.clause.Clause.{Clause}
use Rattle.om_pragma.specs.declared.clause.Clause.TheVariants as clauses
use Rattle.om_pragma.specs.declared.clause.ClauseKind.{ClauseKind}
use Rattle.om_pragma.specs.declared.clause.ClauseKind.TheVariants as clause_kinds
use Rattle.om_pragma.specs.declared.clause.DataSharing.{DataSharing}
use Rattle.om_pragma.specs.declared.clause.DataSharing.TheVariants as data_kinds
use Rattle.om_pragma.specs.declared.clause.PlainClause.{PlainClause}
use Rattle.om_pragma.specs.declared.clause.PlainClause.TheVariants as plain_kinds
use Rattle.om_pragma.specs.declared.clause.ReductionOperator.{ReductionOperator}
use Rattle.om_pragma.specs.declared.clause.ReductionOperator.TheVariants as operators
use Rattle.om_pragma.specs.declared.clause.ScheduleKind.{ScheduleKind}
use Rattle.om_pragma.specs.declared.clause.ScheduleKind.TheVariants as schedules
use Rattle.om_pragma.specs.declared.clause.Sharing.{Sharing}
use Rattle.om_pragma.specs.declared.clause.Sharing.TheVariants as sharings
use Rattle.om_pragma.specs.declared.clause.ValueClause.{ValueClause}
use Rattle.om_pragma.specs.declared.clause.ValueClause.TheVariants as value_kinds
use Rattle.om_pragma.specs.declared.clause.Name as names
use Rattle.om_pragma.specs.declared.clause.NameList as lists
use Rattle.om_pragma.specs.declared.clause.Number.{Number}
use Rattle.om_pragma.specs.Expressions.{open_behind, Closes, IsClosed}
use Rattle.om_pragma.specs.Reading.{◌>>=◌, choose, place, known, take_kind, take_word, take_chunk, number_of, mark_at}
use Rattle.om_pragma.specs.Reading.{name_at, until, further_at, names_at, list_after, list_at, closing, value_in}
use Rattle.om_pragma.specs.Reading.{value_after, default_words, default_after, data_after, reduction_operators}
use Rattle.om_pragma.specs.Reading.{reduction_after, chunk_at, schedule_kinds, schedule_after, clause_after}
use Rattle.om_pragma.specs.Spelling.{token, mark, name, number, further_spelling, names_spelling, list_spelling}
use Rattle.om_pragma.specs.Spelling.{chunk_spelling, argument_spelling, value_kind, data_kind, plain_kind, kind_of}
use Rattle.om_pragma.specs.Spelling.{span_of}
use Rattle.om_pragma.specs.Table.{EachBehind, IsChunk, IsClause}
use Rattle.om_pragma.specs.Words.{same_kind, same_mark, same_keyword, sharing_word, operator_word, schedule_word, among}
use Rattle.om_pragma.proofs.Outcomes.{ok, ok_is, ok_err, some, some_is, none_some, bind_ok, choose_cases, known_ok}
use Rattle.om_pragma.proofs.Outcomes.{cond_some, after_front}
use Rattle.om_pragma.proofs.Passing.{until_ends, until_passes, so_many}
use Rattle.om_pragma.proofs.Taken.{same_kind_is, take_kind_is, take_word_is, mark_at_is, name_at_is, take_mark_again}
use Rattle.om_pragma.proofs.Taken.{mark_again, name_again, word_again}

abbrev pub IsAny : {A : Type 0} → List A → A → Type 0
IsAny before x = Unit {0}

-- ---- names

pub further_is : (before : List (Span × names.Name)) (ts : List Token) (x : (Span × names.Name) × List Token)
    → further_at before ts ≡ ok x → (ts ≡ further_spelling x.0 ++ x.1) × IsAny before x.0
unfolding further_at further_spelling
further_is before ts x h =
    let c = bind_ok (mark_at punctuators.Comma ts) _ x h in
    let n = bind_ok (name_at c.0.1) _ x c.2 in (
      mark_at_is punctuators.Comma ts c.0 c.1 ∙ ap (λ (w : List Token). mark punctuators.Comma c.0.0 ∷ w)
          (name_at_is c.0.1 n.0 n.1) ∙ ap (λ (p : (Span × names.Name) × List Token). mark punctuators.Comma p.0.0
          ∷ name p.0.1 ∷ p.1) (ok_is ((c.0.0, n.0.0), n.0.1) x n.2),
      tt,
    )

pub further_shorter : (before : List (Span × names.Name)) (ts : List Token) (x : Span × names.Name)
    (us : List Token) → further_at before ts ≡ ok (x, us) → length us < length ts
unfolding further_spelling
further_shorter before ts x us e = omega (arith, ap length (further_is before ts (x, us) e).0)

pub further_again : (before : List (Span × names.Name)) (n : Span × names.Name) (us : List Token) → IsAny before n
    → further_at before (further_spelling n ++ us) ≡ ok (n, us)
unfolding further_at further_spelling
further_again before n us any = rw (mark_again punctuators.Comma n.0 (name n.1 ∷ us), name_again n.1 us) refl

pub some_further : (n : Span × names.Name) → 0 < length (further_spelling n)
unfolding further_spelling
some_further n = omega arith

pub not_closed : (before : List (Span × names.Name)) (n : Span × names.Name) (us : List Token) → IsAny before n
    → take_kind (kinds.Punctuator punctuators.CloseParen) (further_spelling n ++ us) ≡ None
unfolding further_spelling take_kind same_mark
not_closed before n us any = refl

pub each_any : {A : Type 0} (before xs : List A) → EachBehind IsAny before xs
unfolding EachBehind
each_any before [] = tt
each_any before (x ∷ xs) = (tt, each_any (before ++ x ∷ []) xs)

pub names_at_is : (ts : List Token) (x : (names.Name × List (Span × names.Name) × Span) × List Token) → names_at ts
    ≡ ok x → ts ≡ names_spelling x.0.0 x.0.1 x.0.2 ++ x.1
unfolding names_at names_spelling
names_at_is ts x h =
    let n = bind_ok (name_at ts) _ x h in
    let m = bind_ok (until place (take_kind (kinds.Punctuator punctuators.CloseParen)) further_at
    (suc (length n.0.1)) [] n.0.1) _ x n.2 in
    let e = until_ends place (take_kind (kinds.Punctuator punctuators.CloseParen)) further_at further_spelling IsAny
    further_is some_further (suc (length n.0.1)) [] n.0.1 (ok m.0) (omega arith) m.1 in
    elim e.last [
      | inl l ↦
          let same = ok_is m.0 (e.all, l.0.0, l.0.1) l.2 in
          let close = take_kind_is (kinds.Punctuator punctuators.CloseParen) e.us l.0.0 l.0.1 l.1 in
          let rest : n.0.1 ≡ (flat_map further_spelling e.all ++ mark punctuators.CloseParen l.0.0 ∷ [])
          ++ l.0.1 = e.parts ∙ rw (close, e.is_all) (simp append_assoc) in
          let whole : n.0.1 ≡ (flat_map further_spelling m.0.0 ++ mark punctuators.CloseParen m.0.1 ∷ [])
          ++ m.0.2 = rw same rest in
          name_at_is ts n.0 n.1 ∙ ap (λ (w : List Token). name n.0.0 ∷ w) whole
          ∙ ap (λ (p : (names.Name × List (Span × names.Name) × Span) × List Token). names_spelling p.0.0 p.0.1
          p.0.2 ++ p.1) (ok_is ((n.0.0, m.0.0, m.0.1), m.0.2) x m.2)
      | inr l ↦ absurd (ok_err m.0 l.0 l.3)
    ]

pub names_again : (first : names.Name) (rest : List (Span × names.Name)) (close : Span) (us : List Token)
    → names_at (names_spelling first rest close ++ us) ≡ ok ((first, rest, close), us)
unfolding names_at names_spelling until
names_again first rest close us =
    let behind : List Token = mark punctuators.CloseParen close ∷ us in
    let ends : (n : ℕ) → until place (take_kind (kinds.Punctuator punctuators.CloseParen)) further_at (suc n) rest
    behind ≡ ok (rest, close, us) = λ n. closes n in
    let passes = until_passes place (take_kind (kinds.Punctuator punctuators.CloseParen)) further_at
    further_spelling IsAny further_again not_closed rest behind (ok (rest, close, us)) ends rest []
    (suc (length (flat_map further_spelling rest ++ behind))) refl (each_any [] rest)
    (omega (arith, so_many further_spelling some_further rest behind)) in
    rw (append_assoc, name_again first (flat_map further_spelling rest ++ behind), passes) refl
  where
    closes : (n : ℕ) → until place (take_kind (kinds.Punctuator punctuators.CloseParen)) further_at (suc n) rest
        (mark punctuators.CloseParen close ∷ us) ≡ ok (rest, close, us)
    closes n = rw (take_mark_again punctuators.CloseParen close us) refl

pub list_after_is : (left : Span) (ts : List Token) (x : lists.NameList × List Token) → list_after left ts ≡ ok x
    → mark punctuators.OpenParen left ∷ ts ≡ list_spelling x.0 ++ x.1
unfolding list_after list_spelling
list_after_is left ts x h =
    let n = bind_ok (names_at ts) _ x h in
    ap (λ (w : List Token). mark punctuators.OpenParen left ∷ w) (names_at_is ts n.0 n.1)
    ∙ ap (λ (p : lists.NameList × List Token). mark punctuators.OpenParen p.0.open_paren
    ∷ (names_spelling p.0.first p.0.rest p.0.close_paren ++ p.1))
    (ok_is (record { open_paren = left; first = n.0.0.0; rest = n.0.0.1; close_paren = n.0.0.2 }, n.0.1) x n.2)

pub list_after_again : (l : lists.NameList) (us : List Token) → list_after l.open_paren
    (names_spelling l.first l.rest l.close_paren ++ us) ≡ ok (l, us)
unfolding list_after
list_after_again l us = rw (names_again l.first l.rest l.close_paren us) refl

pub list_at_is : (ts : List Token) (x : lists.NameList × List Token) → list_at ts ≡ ok x → ts ≡ list_spelling x.0 ++ x.1
unfolding list_at
list_at_is ts x h =
    let o = bind_ok (mark_at punctuators.OpenParen ts) _ x h in
    mark_at_is punctuators.OpenParen ts o.0 o.1 ∙ list_after_is o.0.0 o.0.1 x o.2

pub list_at_again : (l : lists.NameList) (us : List Token) → list_at (list_spelling l ++ us) ≡ ok (l, us)
unfolding list_at list_spelling
list_at_again l us = rw (mark_again punctuators.OpenParen l.open_paren (names_spelling l.first l.rest l.close_paren
    ++ us)) (list_after_again l us)

-- ---- tokens in parentheses

closed_at : (k : TokenKind) (n : ℕ) → open_behind k n ≡ None → (k ≡ kinds.Punctuator punctuators.CloseParen) × (n ≡ 0)
closed_at k n e = go (same_kind k (kinds.Punctuator punctuators.OpenParen))
    (same_kind k (kinds.Punctuator punctuators.CloseParen)) refl e
  where
    at_zero : (b : Bool) → (n == 0) ≡ b → cond b None (some (n - 1)) ≡ None → n ≡ 0
    at_zero true is e = eqb-true n 0 is
    at_zero false is e = absurd cc

    go : (p q : Bool) → same_kind k (kinds.Punctuator punctuators.CloseParen) ≡ q → cond p (some (n + 1))
        (cond q (cond (n == 0) None (some (n - 1))) (some n)) ≡ None → (k ≡ kinds.Punctuator punctuators.CloseParen)
        × (n ≡ 0)
    go true q is e = absurd cc
    go false true is e = (same_kind_is k (kinds.Punctuator punctuators.CloseParen) is, at_zero (n == 0) refl e)
    go false false is e = absurd cc

pub closing_is : (n : ℕ) (ts : List Token) (x : List Token × Span × List Token) → closing n ts ≡ ok x
    → (ts ≡ x.0 ++ mark punctuators.CloseParen x.1 ∷ x.2) × Closes n x.0
unfolding closing Closes
closing_is n [] x h = absurd cc
closing_is n (t ∷ ts) x h = elim (choose_cases (open_behind t.kind n) _ _ (ok x) h) [
  | inl g ↦
      let c = bind_ok (closing g.0 ts) _ x g.2 in
      let more = closing_is g.0 ts c.0 c.1 in
      let same = ok_is (t ∷ c.0.0, c.0.1, c.0.2) x c.2 in
      subst (λ (y : List Token × Span × List Token). (t ∷ ts ≡ y.0 ++ mark punctuators.CloseParen y.1 ∷ y.2)
      × Closes n y.0) same (ap (λ (w : List Token). t ∷ w) more.0, rw g.1 more.1)
  | inr g ↦
      let at = closed_at t.kind n g.0 in
      let same = ok_is ([], t.span, ts) x g.1 in
      subst (λ (y : List Token × Span × List Token). (t ∷ ts ≡ y.0 ++ mark punctuators.CloseParen y.1 ∷ y.2)
      × Closes n y.0) same (ap (λ k. token k t.span ∷ ts) at.0, at.1)
]

pub closing_again : (n : ℕ) (e : List Token) (s : Span) (us : List Token) → Closes n e
    → closing n (e ++ mark punctuators.CloseParen s ∷ us) ≡ ok (e, s, us)
unfolding closing Closes same_mark
closing_again n [] s us c = rw c refl
closing_again n (t ∷ e) s us c = go (λ m h. closing_again m e s us h) (open_behind t.kind n) c
  where
    go : ((m : ℕ) → Closes m e → closing m (e ++ mark punctuators.CloseParen s ∷ us) ≡ ok (e, s, us))
        → (o : Option ℕ) → IsSomeAnd o (λ m. Closes m e) → choose {B = Result (List Token × Span × List Token) ℕ} o
        (λ m. closing m (e ++ mark punctuators.CloseParen s ∷ us) >>= λ x. Ok (t ∷ x.0, x.1, x.2))
        (Ok ([], t.span, e ++ mark punctuators.CloseParen s ∷ us)) ≡ ok (t ∷ e, s, us)
    go later None c = absurd c
    go later (Some m) c = rw (later m c) refl

-- ---- clauses

-- a clause of this kind whose word stands there is read
pub record IsRead (k : ClauseKind) (s : Span) (ts : List Token) (x : Clause (List Token) × List Token) : Type 0 where
  pub parts : ts ≡ argument_spelling (λ e. e) x.0 ++ x.1
  pub kind : kind_of x.0 ≡ k
  pub at : span_of x.0 ≡ s
  pub formed : IsClause IsClosed x.0

value_in_is : (k : ValueClause) (s left : Span) (e : List Token) (right : Span) (us : List Token)
    (x : Clause (List Token) × List Token) → Closes 0 e → value_in k s left e right us ≡ ok x
    → IsRead (value_kind k) s (mark punctuators.OpenParen left ∷ (e ++ mark punctuators.CloseParen right ∷ us)) x
unfolding argument_spelling
value_in_is k s left [] right us x c h = absurd cc
value_in_is k s left (t ∷ e) right us x c h =
    let read : Clause (List Token) × List Token =
    (clauses.Value k s (record { open_paren = left; expression = t ∷ e; close_paren = right }), us) in
    subst (IsRead (value_kind k) s (mark punctuators.OpenParen left ∷ (t ∷ e ++ mark punctuators.CloseParen right
    ∷ us))) (ok_is read x h) (record {
      parts = simp append_assoc;
      kind = refl;
      at = refl;
      formed = ((λ none. absurd cc), c);
    })

value_is : (k : ValueClause) (s : Span) (ts : List Token) (x : Clause (List Token) × List Token) → value_after k s
    ts ≡ ok x → IsRead (value_kind k) s ts x
unfolding value_after
value_is k s ts x h =
    let o = bind_ok (mark_at punctuators.OpenParen ts) _ x h in
    let c = bind_ok (closing 0 o.0.1) _ x o.2 in
    let is = closing_is 0 o.0.1 c.0 c.1 in
    let whole : ts ≡ mark punctuators.OpenParen o.0.0 ∷ (c.0.0 ++ mark punctuators.CloseParen c.0.1 ∷ c.0.2) =
    mark_at_is punctuators.OpenParen ts o.0 o.1 ∙ ap (λ (w : List Token). mark punctuators.OpenParen o.0.0 ∷ w)
    is.0 in
    subst (λ (w : List Token). IsRead (value_kind k) s w x) (sym whole) (value_in_is k s o.0.0 c.0.0 c.0.1 c.0.2 x
    is.1 c.2)

default_is : (s : Span) (ts : List Token) (x : Clause (List Token) × List Token) → default_after s ts ≡ ok x
    → IsRead clause_kinds.Default s ts x
unfolding default_after argument_spelling
default_is s ts x h =
    let o = bind_ok (mark_at punctuators.OpenParen ts) _ x h in
    let w = bind_ok (known o.0.1 (take_word sharing_word default_words o.0.1)) _ x o.2 in
    let c = bind_ok (mark_at punctuators.CloseParen w.0.1) _ x w.2 in
    let word = take_word_is sharing_word default_words o.0.1 w.0
    (known_ok o.0.1 (take_word sharing_word default_words o.0.1) w.0 w.1) in
    let read : Clause (List Token) × List Token = (
      clauses.Default s (record { open_paren = o.0.0; sharing = w.0.0.0; word = w.0.0.1; close_paren = c.0.0 }),
      c.0.1,
    ) in
    subst (IsRead clause_kinds.Default s ts) (ok_is read x c.2) (record {
      parts = mark_at_is punctuators.OpenParen ts o.0 o.1 ∙ ap (λ (v : List Token). mark punctuators.OpenParen o.0.0
          ∷ v) (word ∙ ap (λ (v : List Token). token (sharing_word w.0.0.0) w.0.0.1 ∷ v)
          (mark_at_is punctuators.CloseParen w.0.1 c.0 c.1));
      kind = refl;
      at = refl;
      formed = tt;
    })

data_is : (k : DataSharing) (s : Span) (ts : List Token) (x : Clause (List Token) × List Token) → data_after k s ts
    ≡ ok x → IsRead (data_kind k) s ts x
unfolding data_after argument_spelling
data_is k s ts x h =
    let l = bind_ok (list_at ts) _ x h in
    subst (IsRead (data_kind k) s ts) (ok_is (clauses.Data k s l.0.0, l.0.1) x l.2)
    (record { parts = list_at_is ts l.0 l.1; kind = refl; at = refl; formed = tt })

reduction_is : (s : Span) (ts : List Token) (x : Clause (List Token) × List Token) → reduction_after s ts ≡ ok x
    → IsRead clause_kinds.Reduction s ts x
unfolding reduction_after argument_spelling
reduction_is s ts x h =
    let o = bind_ok (mark_at punctuators.OpenParen ts) _ x h in
    let w = bind_ok (known o.0.1 (take_word operator_word reduction_operators o.0.1)) _ x o.2 in
    let c = bind_ok (mark_at punctuators.Colon w.0.1) _ x w.2 in
    let n = bind_ok (names_at c.0.1) _ x c.2 in
    let word = take_word_is operator_word reduction_operators o.0.1 w.0
    (known_ok o.0.1 (take_word operator_word reduction_operators o.0.1) w.0 w.1) in
    let read : Clause (List Token) × List Token = (
      clauses.Reduction s (record {
        open_paren = o.0.0;
        operator = w.0.0.0;
        sign = w.0.0.1;
        colon = c.0.0;
        first = n.0.0.0;
        rest = n.0.0.1;
        close_paren = n.0.0.2;
      }),
      n.0.1,
    ) in
    subst (IsRead clause_kinds.Reduction s ts) (ok_is read x n.2) (record {
      parts = mark_at_is punctuators.OpenParen ts o.0 o.1 ∙ ap (λ (v : List Token). mark punctuators.OpenParen o.0.0
          ∷ v) (word ∙ ap (λ (v : List Token). token (operator_word w.0.0.0) w.0.0.1 ∷ v)
          (mark_at_is punctuators.Colon w.0.1 c.0 c.1 ∙ ap (λ (v : List Token). mark punctuators.Colon c.0.0 ∷ v)
          (names_at_is c.0.1 n.0 n.1)));
      kind = refl;
      at = refl;
      formed = tt;
    })

number_of_is : (k : TokenKind) (s : Span) (n : Number) → number_of k s ≡ some n → token k s ≡ number n
number_of_is (kinds.Constant value) s n e = ap number (some_is _ n e)
number_of_is _ s n e = absurd cc

take_chunk_is : (ts : List Token) (x : Number × List Token) → take_chunk ts ≡ some x → (ts ≡ number x.0 ∷ x.1)
    × (1 ≤ x.0.value)
unfolding take_chunk
take_chunk_is [] x e = absurd (none_some x e)
take_chunk_is (t ∷ ts) x e = elim (choose_cases (number_of t.kind t.span) (λ n. if nat_le 1 n.value then some
    (n, ts) else None) None (some x) e) [
      | inl g ↦
          let c = cond_some (nat_le 1 g.0.value) (g.0, ts) x g.2 in
          subst (λ (y : Number × List Token). (t ∷ ts ≡ number y.0 ∷ y.1) × (1 ≤ y.0.value)) c.1
          (ap (λ u. u ∷ ts) (number_of_is t.kind t.span g.0 g.1), leb-true 1 g.0.value c.0)
      | inr g ↦ absurd (none_some x g.1)
    ]

chunk_is : (ts : List Token) (x : Option (Span × Number) × List Token) → chunk_at ts ≡ ok x
    → (ts ≡ chunk_spelling x.0 ++ x.1) × IsChunk x.0
unfolding chunk_at chunk_spelling
chunk_is ts x h = elim (choose_cases (take_kind (kinds.Punctuator punctuators.Comma) ts) _ _ (ok x) h) [
  | inl c ↦
      let n = bind_ok (known c.0.1 (take_chunk c.0.1)) _ x c.2 in
      let k = take_chunk_is c.0.1 n.0 (known_ok c.0.1 (take_chunk c.0.1) n.0 n.1) in
      subst (λ (y : Option (Span × Number) × List Token). (ts ≡ chunk_spelling y.0 ++ y.1) × IsChunk y.0)
      (ok_is (some (c.0.0, n.0.0), n.0.1) x n.2) (
        take_kind_is (kinds.Punctuator punctuators.Comma) ts c.0.0
            c.0.1 c.1 ∙ ap (λ (v : List Token). mark punctuators.Comma c.0.0 ∷ v) k.0,
        k.1,
      )
  | inr c ↦ subst (λ (y : Option (Span × Number) × List Token). (ts ≡ chunk_spelling y.0 ++ y.1) × IsChunk y.0)
      (ok_is (None, ts) x c.1) (refl, tt)
]

schedule_is : (s : Span) (ts : List Token) (x : Clause (List Token) × List Token) → schedule_after s ts ≡ ok x
    → IsRead clause_kinds.Schedule s ts x
unfolding schedule_after argument_spelling
schedule_is s ts x h =
    let o = bind_ok (mark_at punctuators.OpenParen ts) _ x h in
    let w = bind_ok (known o.0.1 (take_word schedule_word schedule_kinds o.0.1)) _ x o.2 in
    let k = bind_ok (chunk_at w.0.1) _ x w.2 in
    let c = bind_ok (mark_at punctuators.CloseParen k.0.1) _ x k.2 in
    let word = take_word_is schedule_word schedule_kinds o.0.1 w.0
    (known_ok o.0.1 (take_word schedule_word schedule_kinds o.0.1) w.0 w.1) in
    let chunk = chunk_is w.0.1 k.0 k.1 in
    let read : Clause (List Token) × List Token = (
      clauses.Schedule s (record {
        open_paren = o.0.0;
        kind = w.0.0.0;
        word = w.0.0.1;
        chunk = k.0.0;
        close_paren = c.0.0;
      }),
      c.0.1,
    ) in
    let behind : w.0.1 ≡ (chunk_spelling k.0.0 ++ mark punctuators.CloseParen c.0.0 ∷ []) ++ c.0.1 = after_front
    w.0.1 (chunk_spelling k.0.0) k.0.1 (mark punctuators.CloseParen c.0.0 ∷ []) c.0.1 chunk.0
    (mark_at_is punctuators.CloseParen k.0.1 c.0 c.1) in
    subst (IsRead clause_kinds.Schedule s ts) (ok_is read x c.2) (record {
      parts = mark_at_is punctuators.OpenParen ts o.0 o.1 ∙ ap (λ (v : List Token). mark punctuators.OpenParen o.0.0
          ∷ v) (word ∙ ap (λ (v : List Token). token (schedule_word w.0.0.0) w.0.0.1 ∷ v) behind);
      kind = refl;
      at = refl;
      formed = chunk.1;
    })

plain_is : (k : PlainClause) (s : Span) (ts : List Token) (x : Clause (List Token) × List Token)
    → ok {X = ℕ} (clauses.Plain k s, ts) ≡ ok x → IsRead (plain_kind k) s ts x
unfolding argument_spelling
plain_is k s ts x h = subst (IsRead (plain_kind k) s ts) (ok_is (clauses.Plain k s, ts) x h)
    (record { parts = refl; kind = refl; at = refl; formed = tt })

pub clause_after_is : (k : ClauseKind) (s : Span) (ts : List Token) (x : Clause (List Token) × List Token)
    → clause_after k s ts ≡ ok x → IsRead k s ts x
unfolding clause_after
clause_after_is clause_kinds.NumThreads s ts x h = value_is value_kinds.NumThreads s ts x h
clause_after_is clause_kinds.Filter s ts x h = value_is value_kinds.Filter s ts x h
clause_after_is clause_kinds.Default s ts x h = default_is s ts x h
clause_after_is clause_kinds.Shared s ts x h = data_is data_kinds.Shared s ts x h
clause_after_is clause_kinds.Private s ts x h = data_is data_kinds.Private s ts x h
clause_after_is clause_kinds.Firstprivate s ts x h = data_is data_kinds.Firstprivate s ts x h
clause_after_is clause_kinds.Reduction s ts x h = reduction_is s ts x h
clause_after_is clause_kinds.Schedule s ts x h = schedule_is s ts x h
clause_after_is clause_kinds.Nowait s ts x h = plain_is plain_kinds.Nowait s ts x h
clause_after_is clause_kinds.Update s ts x h = plain_is plain_kinds.Update s ts x h
clause_after_is clause_kinds.Read s ts x h = plain_is plain_kinds.Read s ts x h
clause_after_is clause_kinds.Write s ts x h = plain_is plain_kinds.Write s ts x h
clause_after_is clause_kinds.SeqCst s ts x h = plain_is plain_kinds.SeqCst s ts x h
clause_after_is clause_kinds.Relaxed s ts x h = plain_is plain_kinds.Relaxed s ts x h

-- ---- again

abbrev pub IsAgain : Clause (List Token) → List Token → Type 0
IsAgain c us = clause_after (kind_of c) (span_of c) (argument_spelling (λ e. e) c ++ us) ≡ ok (c, us)

value_again : (k : ValueClause) (s left : Span) (e : List Token) (right : Span) (us : List Token) → IsClosed e
    → value_after k s (mark punctuators.OpenParen left ∷ ((e ++ mark punctuators.CloseParen right ∷ []) ++ us))
    ≡ ok (clauses.Value k s (record { open_paren = left; expression = e; close_paren = right }), us)
unfolding value_after
value_again k s left [] right us c = absurd (c.0 refl)
value_again k s left (t ∷ e) right us c = rw (
  append_assoc,
  mark_again punctuators.OpenParen left
      (t ∷ (e ++ mark punctuators.CloseParen right ∷ us)),
  closing_again 0 (t ∷ e) right us c.1,
) refl

sharing_known : (k : Sharing) → among sharing_word default_words (sharing_word k) ≡ some k
sharing_known sharings.Shared = refl
sharing_known sharings.None = refl

operator_known : (k : ReductionOperator) → among operator_word reduction_operators (operator_word k) ≡ some k
unfolding same_mark
operator_known operators.Add = refl
operator_known operators.Multiply = refl
operator_known operators.Max = refl
operator_known operators.Min = refl

schedule_known : (k : ScheduleKind) → among schedule_word schedule_kinds (schedule_word k) ≡ some k
unfolding same_keyword
schedule_known schedules.Static = refl
schedule_known schedules.Dynamic = refl

chunk_again : (k : Option (Span × Number)) (close : Span) (us : List Token) → IsChunk k
    → chunk_at ((chunk_spelling k ++ mark punctuators.CloseParen close ∷ []) ++ us)
    ≡ ok (k, mark punctuators.CloseParen close ∷ us)
unfolding chunk_at chunk_spelling take_kind same_mark take_chunk
chunk_again None close us c = refl
chunk_again (Some n) close us c = rw (le-leb 1 n.1.value c) refl

pub clause_again : (c : Clause (List Token)) (us : List Token) → IsClause IsClosed c → IsAgain c us
unfolding clause_after argument_spelling default_after data_after reduction_after schedule_after
clause_again (clauses.Value value_kinds.NumThreads s v) us f = value_again value_kinds.NumThreads s v.open_paren
    v.expression v.close_paren us f
clause_again (clauses.Value value_kinds.Filter s v) us f = value_again value_kinds.Filter s v.open_paren
    v.expression v.close_paren us f
clause_again (clauses.Default s a) us f =
    let behind : List Token = mark punctuators.CloseParen a.close_paren ∷ us in
    rw (
      mark_again punctuators.OpenParen a.open_paren (token (sharing_word a.sharing) a.word ∷ behind),
      word_again sharing_word default_words a.sharing (sharing_known a.sharing) a.word behind,
      mark_again punctuators.CloseParen a.close_paren us,
    ) refl
clause_again (clauses.Data data_kinds.Shared s l) us f = rw (list_at_again l us) refl
clause_again (clauses.Data data_kinds.Private s l) us f = rw (list_at_again l us) refl
clause_again (clauses.Data data_kinds.Firstprivate s l) us f = rw (list_at_again l us) refl
clause_again (clauses.Reduction s r) us f =
    let names : List Token = names_spelling r.first r.rest r.close_paren ++ us in
    let behind : List Token = mark punctuators.Colon r.colon ∷ names in
    rw (
      mark_again punctuators.OpenParen r.open_paren (token (operator_word r.operator) r.sign ∷ behind),
      word_again operator_word reduction_operators r.operator (operator_known r.operator) r.sign behind,
      mark_again punctuators.Colon r.colon names,
      names_again r.first r.rest r.close_paren us,
    ) refl
clause_again (clauses.Schedule s a) us f =
    let behind : List Token = (chunk_spelling a.chunk ++ mark punctuators.CloseParen a.close_paren ∷ []) ++ us in
    rw (
      mark_again punctuators.OpenParen a.open_paren (token (schedule_word a.kind) a.word ∷ behind),
      word_again schedule_word schedule_kinds a.kind (schedule_known a.kind) a.word behind,
      chunk_again a.chunk
          a.close_paren us f,
      mark_again punctuators.CloseParen a.close_paren us,
    ) refl
clause_again (clauses.Plain plain_kinds.Nowait s) us f = refl
clause_again (clauses.Plain plain_kinds.Update s) us f = refl
clause_again (clauses.Plain plain_kinds.Read s) us f = refl
clause_again (clauses.Plain plain_kinds.Write s) us f = refl
clause_again (clauses.Plain plain_kinds.SeqCst s) us f = refl
clause_again (clauses.Plain plain_kinds.Relaxed s) us f = refl
