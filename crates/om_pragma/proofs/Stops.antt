-- Where reading stops with S3: some directive begins with the tokens before, and none goes on with the token there.
use Rattle.std.proofs.Common.{◌≡◌, ℕ, suc, List, [], ◌∷◌, ◌++◌, length, Option, Some, None, Bool, true, false, cond}
use Rattle.std.proofs.Common.{refl, sym, ap, subst, ◌∙◌, arith, append_assoc, inl, inr}
use Rattle.std.proofs.lemmas.List.{append-nil}
use Rattle.std.specs.Prelude.{codes}
use Rattle.std.specs.List.{flat_map}
use Rattle.om_lexer.specs.declared.token.Punctuator.{Punctuator}
use Rattle.om_lexer.specs.declared.token.Punctuator.TheVariants as punctuators
use Rattle.om_lexer.specs.declared.token.Span.{Span}
use Rattle.om_lexer.specs.declared.token.Token.{Token}
use Rattle.om_lexer.specs.declared.token.TokenKind.{TokenKind}
use Rattle.om_lexer.specs.declared.token.TokenKind.TheVariants as kinds
use Rattle.om_pragma.specs.declared.clause.Name as names
use Rattle.om_pragma.specs.Reading.{choose, Part, place, known, take_kind, take_name, name_of, mark_at, name_at, until}
use Rattle.om_pragma.specs.Reading.{further_at, names_at, critical_after, opening_at}
use Rattle.om_pragma.specs.Spelling.{token, mark, name, further_spelling, names_spelling, opening_spelling}
use Rattle.om_pragma.specs.Table.{EachBehind}
use Rattle.om_pragma.specs.Words.{same_kind, same_mark}
use Rattle.om_pragma.proofs.Arguments.{IsAny, further_is, further_again, some_further, not_closed}
use Rattle.om_pragma.proofs.Lasts.{ends, ends_last, ends_names}
use Rattle.om_pragma.proofs.Outcomes.{err, err_is, ok_err, some, known_ok, bind_err}
use Rattle.om_pragma.proofs.Passing.{until_ends, until_passes, so_many}
use Rattle.om_pragma.proofs.Taken.{take_kind_is, mark_at_is, name_at_is, mark_again, name_again}

-- Reading a part stops at the first of the tokens that are left: the tokens before it begin such a part, and
-- do not end a line;
-- whatever stands behind it, reading stops there.
pub record IsStuck {A : Type 0} (r : List Token → Part A) (spell : A → List Token) (ts : List Token) (at : ℕ) : Type
    0 where
  pub front : List Token
  pub rest : List Token
  pub parts : ts ≡ front ++ rest
  pub place : place rest ≡ at
  pub goes_on : ends front ≡ false
  pub part : A
  pub more : List Token
  pub begins : spell part ≡ front ++ more
  pub again : (t : Token) (after other : List Token) → rest ≡ t ∷ after → r (front ++ t ∷ other) ≡ err at

-- a reader of one token, which looks at no other
abbrev pub LooksAtFirst : {A : Type 0} → (List Token → Option (A × List Token)) → Type 0
LooksAtFirst take = (t : Token) (us other : List Token) → take (t ∷ us) ≡ None → take (t ∷ other) ≡ None

pub kind_looks : (k : TokenKind) → LooksAtFirst (take_kind k)
unfolding take_kind
kind_looks k t us other e = go (same_kind t.kind k) e
  where
    go : (b : Bool) → cond {A = Option (Span × List Token)} b (some (t.span, us)) None ≡ None
        → cond {A = Option (Span × List Token)} b (some (t.span, other)) None ≡ None
    go true e = absurd cc
    go false e = refl

name_looks : LooksAtFirst take_name
unfolding take_name
name_looks t us other e = go (name_of t.kind t.span) e
  where
    go : (o : Option names.Name) → choose {B = Option (names.Name × List Token)} o (λ n. some (n, us)) None ≡ None
        → choose {B = Option (names.Name × List Token)} o (λ n. some (n, other)) None ≡ None
    go (Some n) e = absurd cc
    go None e = refl

known_err : {A : Type 0} (ts : List Token) (o : Option A) (at : ℕ) → known ts o ≡ err at → (o ≡ None) × (place ts ≡ at)
known_err ts (Some x) at e = absurd cc
known_err ts None at e = (refl, err_is (place ts) at e)

-- where one token is wrong, it is wrong whatever stands behind it
one_again : {A : Type 0} (take : List Token → Option (A × List Token)) → LooksAtFirst take → (ts : List Token)
    (at : ℕ) → known ts (take ts) ≡ err at → (place ts ≡ at) × ((t : Token) (after other : List Token) → ts ≡ t
    ∷ after → known (t ∷ other) (take (t ∷ other)) ≡ err at)
one_again {A} take looks ts at e =
    let k = known_err ts (take ts) at e in (
      k.1,
      λ t after other is.
          let absent : take (t ∷ after) ≡ None = subst (λ (us : List Token). take us ≡ None) is k.0 in
          let here : t.span.start ≡ at = ap place (sym is) ∙ k.1 in
          rw (looks t after other absent, here) refl,
    )

name_wrong : (ts : List Token) (at : ℕ) → name_at ts ≡ err at → (place ts ≡ at)
    × ((t : Token) (after other : List Token) → ts ≡ t ∷ after → name_at (t ∷ other) ≡ err at)
unfolding name_at
name_wrong ts at e = one_again take_name name_looks ts at e

mark_wrong : (p : Punctuator) (ts : List Token) (at : ℕ) → mark_at p ts ≡ err at → (place ts ≡ at)
    × ((t : Token) (after other : List Token) → ts ≡ t ∷ after → mark_at p (t ∷ other) ≡ err at)
unfolding mark_at
mark_wrong p ts at e = one_again (take_kind (kinds.Punctuator p)) (kind_looks (kinds.Punctuator p)) ts at e

abbrev pub no_span : Span
no_span = record { start = 0; end = 0; line = 0 }

abbrev pub no_name : names.Name
no_name = record { text = []; span = no_span }

pub flat_more : {A : Type 0} (f : A → List Token) (xs : List A) (x : A) → flat_map f (xs ++ x ∷ []) ≡ flat_map f xs
    ++ f x
flat_more f [] x = append-nil (f x)
flat_more f (y ∷ xs) x = ap (λ (w : List Token). f y ++ w) (flat_more f xs x)
    ∙ sym (append_assoc (f y) (flat_map f xs) (f x))

-- ---- names

abbrev pub list_tokens : names.Name × List (Span × names.Name) × Span → List Token
list_tokens x = names_spelling x.0 x.1 x.2

abbrev Further : Type 0
Further = List (Span × names.Name)

rest_again : (n : names.Name) (all xs : Further) (us : List Token) (at : ℕ) → all ≡ [] ++ xs → EachBehind IsAny []
    xs → ((k : ℕ) → until place (take_kind (kinds.Punctuator punctuators.CloseParen)) further_at (suc k) all us
    ≡ err at) → names_at (name n ∷ (flat_map further_spelling xs ++ us)) ≡ err at
unfolding names_at
rest_again n all xs us at is each last =
    let passes = until_passes place (take_kind (kinds.Punctuator punctuators.CloseParen)) further_at
    further_spelling IsAny further_again not_closed all us (err at) last xs []
    (suc (length (flat_map further_spelling xs ++ us))) is each
    (omega (arith, so_many further_spelling some_further xs us)) in
    rw (name_again n (flat_map further_spelling xs ++ us), passes) refl

no_comma_stuck : (n : names.Name) (all xs : Further) (us : List Token) (at : ℕ) → all ≡ [] ++ xs → EachBehind IsAny
    [] xs → take_kind (kinds.Punctuator punctuators.CloseParen) us ≡ None → mark_at punctuators.Comma us ≡ err at
    → IsStuck names_at list_tokens (name n ∷ (flat_map further_spelling xs ++ us)) at
unfolding until further_at names_spelling
no_comma_stuck n all xs us at is each absent e =
    let w = mark_wrong punctuators.Comma us at e in
    record {
      front = name n ∷ flat_map further_spelling xs;
      rest = us;
      parts = refl;
      place = w.0;
      goes_on = ends_names n xs;
      part = (n, xs, no_span);
      more = mark punctuators.CloseParen no_span ∷ [];
      begins = refl;
      again = λ t after other here.
          let none : take_kind (kinds.Punctuator punctuators.CloseParen) (t ∷ other) ≡ None = kind_looks
          (kinds.Punctuator punctuators.CloseParen) t after other
          (subst (λ (vs : List Token). take_kind (kinds.Punctuator punctuators.CloseParen) vs ≡ None) here
          absent) in
          rest_again n all xs (t ∷ other) at is each (λ k. rw (none, w.1 t after other here) refl);
    }

comma_spelled : (n : names.Name) (xs : Further) (comma : Span) → name n
    ∷ (flat_map further_spelling (xs ++ (comma, no_name) ∷ []) ++ mark punctuators.CloseParen no_span ∷ [])
    ≡ (name n ∷ (flat_map further_spelling xs ++ mark punctuators.Comma comma ∷ [])) ++ name no_name
    ∷ mark punctuators.CloseParen no_span ∷ []
unfolding further_spelling
comma_spelled n xs comma = ap (λ (w : List Token). name n ∷ w)
    (ap (λ (w : List Token). w ++ mark punctuators.CloseParen no_span ∷ [])
    (flat_more further_spelling xs (comma, no_name)) ∙ simp append_assoc)

comma_no_close : (comma : Span) (us : List Token) → take_kind (kinds.Punctuator punctuators.CloseParen)
    (mark punctuators.Comma comma ∷ us) ≡ None
unfolding take_kind same_mark
comma_no_close comma us = refl

no_name_stuck : (n : names.Name) (all xs : Further) (comma : Span) (us : List Token) (at : ℕ) → all ≡ [] ++ xs
    → EachBehind IsAny [] xs → name_at us ≡ err at → IsStuck names_at list_tokens
    (name n ∷ (flat_map further_spelling xs ++ mark punctuators.Comma comma ∷ us)) at
unfolding until further_at names_spelling
no_name_stuck n all xs comma us at is each e =
    let w = name_wrong us at e in
    record {
      front = name n ∷ (flat_map further_spelling xs ++ mark punctuators.Comma comma ∷ []);
      rest = us;
      parts = simp append_assoc;
      place = w.0;
      goes_on = ends_last (name n ∷ flat_map further_spelling xs) (mark punctuators.Comma comma);
      part = (n, xs ++ (comma, no_name) ∷ [], no_span);
      more = name no_name ∷ mark punctuators.CloseParen no_span ∷ [];
      begins = comma_begins;
      again = λ t after other here. rw append_assoc (rest_again n all xs (mark punctuators.Comma comma ∷ t ∷ other)
          at is each (λ k. comma_fails k t other (w.1 t after other here)));
    }
  where
    comma_begins : name n ∷ (flat_map further_spelling (xs ++ (comma, no_name) ∷ []) ++ mark punctuators.CloseParen
        no_span ∷ []) ≡ (name n ∷ (flat_map further_spelling xs ++ mark punctuators.Comma comma ∷ []))
        ++ name no_name ∷ mark punctuators.CloseParen no_span ∷ []
    comma_begins = comma_spelled n xs comma

    comma_fails : (k : ℕ) (t : Token) (other : List Token) → name_at (t ∷ other) ≡ err at
        → until place (take_kind (kinds.Punctuator punctuators.CloseParen)) further_at (suc k) all
        (mark punctuators.Comma comma ∷ t ∷ other) ≡ err at
    comma_fails k t other fails = rw (
      comma_no_close comma (t ∷ other),
      mark_again punctuators.Comma comma
          (t ∷ other),
      fails,
    ) refl

pub names_stuck : (ts : List Token) (at : ℕ) → names_at ts ≡ err at → IsStuck names_at list_tokens ts at
unfolding names_at further_at names_spelling
names_stuck ts at e = elim (bind_err (name_at ts) _ at e) [
  | inl n ↦
      let w = name_wrong ts at n in
      record {
        front = [];
        rest = ts;
        parts = refl;
        place = w.0;
        goes_on = refl;
        part = (no_name, [], no_span);
        more = names_spelling no_name [] no_span;
        begins = refl;
        again = λ t after other here. rw
            (w.1 t after other here) refl;
      }
  | inr n ↦ elim (bind_err (until place (take_kind (kinds.Punctuator punctuators.CloseParen)) further_at
      (suc (length n.0.1)) [] n.0.1) _ at n.2) [
        | inl u ↦
            let x = until_ends place (take_kind (kinds.Punctuator punctuators.CloseParen)) further_at further_spelling
            IsAny further_is some_further (suc (length n.0.1)) [] n.0.1 (err at) (omega arith) u in
            let begins : ts ≡ name n.0.0 ∷ (flat_map further_spelling x.xs ++ x.us) = name_at_is ts n.0 n.1
            ∙ ap (λ (w : List Token). name n.0.0 ∷ w) x.parts in
            elim x.last [
              | inl l ↦ absurd (ok_err (x.all, l.0.0, l.0.1) at (sym l.2))
              | inr l ↦
                  let same : at ≡ l.0 = err_is at l.0 l.3 in
                  elim (bind_err (mark_at punctuators.Comma x.us) _ l.0 l.2) [
                    | inl c ↦ subst (λ (w : List Token). IsStuck names_at list_tokens w at) (sym begins)
                        (no_comma_stuck n.0.0 x.all x.xs x.us at x.is_all x.each l.1 (c ∙ ap err (sym same)))
                    | inr c ↦ elim (bind_err (name_at c.0.1) _ l.0 c.2) [
                      | inl m ↦
                          let whole : ts ≡ name n.0.0 ∷ (flat_map further_spelling x.xs ++ mark punctuators.Comma c.0.0
                          ∷ c.0.1) = begins ∙ ap (λ (w : List Token). name n.0.0
                          ∷ (flat_map further_spelling x.xs ++ w)) (mark_at_is punctuators.Comma x.us c.0 c.1) in
                          subst (λ (w : List Token). IsStuck names_at list_tokens w at) (sym whole)
                          (no_name_stuck n.0.0 x.all x.xs c.0.0 c.0.1 at x.is_all x.each (m ∙ ap err (sym same)))
                      | inr m ↦ absurd cc
                    ]
                  ]
            ]
        | inr u ↦ absurd cc
      ]
]

-- ---- the name of `critical`

pub critical_stuck : (left : Span) (ts : List Token) (at : ℕ) → critical_after left ts ≡ err at
    → IsStuck (critical_after left) (λ n. name n.1 ∷ mark punctuators.CloseParen n.2 ∷ []) ts at
unfolding critical_after
critical_stuck left ts at e = elim (bind_err (name_at ts) _ at e) [
  | inl n ↦
      let w = name_wrong ts at n in
      record {
        front = [];
        rest = ts;
        parts = refl;
        place = w.0;
        goes_on = refl;
        part = (left, no_name, no_span);
        more = name no_name ∷ mark punctuators.CloseParen no_span ∷ [];
        begins = refl;
        again = λ t after other
            here. rw (w.1 t after other here) refl;
      }
  | inr n ↦ elim (bind_err (mark_at punctuators.CloseParen n.0.1) _ at n.2) [
    | inl c ↦
        let w = mark_wrong punctuators.CloseParen n.0.1 at c in
        record {
          front = name n.0.0 ∷ [];
          rest = n.0.1;
          parts = name_at_is ts n.0 n.1;
          place = w.0;
          goes_on = refl;
          part = (left, n.0.0, no_span);
          more = mark punctuators.CloseParen no_span ∷ [];
          begins = refl;
          again = λ t after other here. rw (name_again n.0.0 (t ∷ other), w.1 t after other here) refl;
        }
    | inr c ↦ absurd cc
  ]
]

-- ---- `#`, `pragma` and `omp`

kind_wrong : (k : TokenKind) (ts : List Token) (at : ℕ) → known ts (take_kind k ts) ≡ err at → (place ts ≡ at)
    × ((t : Token) (after other : List Token) → ts ≡ t ∷ after → known (t ∷ other) (take_kind k (t ∷ other)) ≡ err at)
kind_wrong k ts at e = one_again (take_kind k) (kind_looks k) ts at e

kind_read : (k : TokenKind) → same_kind k k ≡ true → (s : Span) (us : List Token) → take_kind k (token k s ∷ us)
    ≡ some (s, us)
unfolding take_kind
kind_read k same s us = rw same refl

pub opening_stuck : (ts : List Token) (at : ℕ) → opening_at ts ≡ err at → IsStuck opening_at
    (λ x. opening_spelling x.0 x.1 x.2) ts at
unfolding opening_at opening_spelling
opening_stuck ts at e = elim (bind_err (known ts (take_kind kinds.DirectiveBegin ts)) _ at e) [
  | inl b ↦
      let w = kind_wrong kinds.DirectiveBegin ts at b in
      record {
        front = [];
        rest = ts;
        parts = refl;
        place = w.0;
        goes_on = refl;
        part = (no_span, no_span, no_span);
        more = opening_spelling no_span no_span no_span;
        begins = refl;
        again = λ t after other here. rw
            (w.1 t after other here) refl;
      }
  | inr b ↦
      let begin = take_kind_is kinds.DirectiveBegin ts b.0.0 b.0.1 (known_ok ts (take_kind kinds.DirectiveBegin ts)
      b.0 b.1) in
      elim (bind_err (known b.0.1 (take_kind (kinds.Name (codes "pragma")) b.0.1)) _ at b.2) [
        | inl p ↦
            let w = kind_wrong (kinds.Name (codes "pragma")) b.0.1 at p in
            record {
              front = token kinds.DirectiveBegin b.0.0 ∷ [];
              rest = b.0.1;
              parts = begin;
              place = w.0;
              goes_on = refl;
              part = (b.0.0, no_span, no_span);
              more = token (kinds.Name (codes "pragma"))
                  no_span ∷ token (kinds.Name (codes "omp")) no_span ∷ [];
              begins = refl;
              again = λ t after other
                  here. rw (kind_read kinds.DirectiveBegin refl b.0.0 (t ∷ other), w.1 t after other here) refl;
            }
        | inr p ↦
            let pragma = take_kind_is (kinds.Name (codes "pragma")) b.0.1 p.0.0 p.0.1
            (known_ok b.0.1 (take_kind (kinds.Name (codes "pragma")) b.0.1) p.0 p.1) in
            elim (bind_err (known p.0.1 (take_kind (kinds.Name (codes "omp")) p.0.1)) _ at p.2) [
              | inl o ↦
                  let w = kind_wrong (kinds.Name (codes "omp")) p.0.1 at o in
                  record {
                    front = token kinds.DirectiveBegin b.0.0 ∷ token (kinds.Name (codes "pragma")) p.0.0
                        ∷ [];
                    rest = p.0.1;
                    parts = begin ∙ ap (λ (w : List Token). token kinds.DirectiveBegin b.0.0
                        ∷ w) pragma;
                    place = w.0;
                    goes_on = refl;
                    part = (b.0.0, p.0.0, no_span);
                    more = token
                        (kinds.Name (codes "omp")) no_span ∷ [];
                    begins = refl;
                    again = λ t after other here. rw (
                      kind_read kinds.DirectiveBegin refl b.0.0 (token (kinds.Name (codes "pragma")) p.0.0 ∷ t
                          ∷ other),
                      kind_read (kinds.Name (codes "pragma")) refl p.0.0 (t ∷ other),
                      w.1 t after other
                          here,
                    ) refl;
                  }
              | inr o ↦ absurd cc
            ]
      ]
]
