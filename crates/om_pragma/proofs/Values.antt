-- What is found as the first expression before a place is the first that stands there.
use Rattle.std.proofs.Common.{◌≡◌, ◌≢◌, ℕ, suc, ◌<◌, List, [], ◌∷◌, ◌++◌, length, Option, Some, None, Bool, true, false}
use Rattle.std.proofs.Common.{cond, Result, Ok, Err, refl, sym, ap, subst, ◌∙◌, arith, codes}
use Rattle.std.specs.Prelude.{nat_le, ◌||◌}
use Rattle.std.proofs.lemmas.Bool.{leb-false, lt-leb}
use Rattle.om_lexer.specs.declared.token.Punctuator.TheVariants as punctuators
use Rattle.om_lexer.specs.declared.token.Span.{Span}
use Rattle.om_lexer.specs.declared.token.Token.{Token}
use Rattle.om_lexer.specs.declared.token.TokenKind.TheVariants as kinds
use Rattle.om_pragma.specs.declared.clause.ValueClause.{ValueClause}
use Rattle.om_pragma.specs.declared.clause.ValueClause.TheVariants as value_kinds
use Rattle.om_pragma.specs.Expressions.{or_else, Closes, IsClosed}
use Rattle.om_pragma.specs.Reading.{mark_at, closing, some_tokens, ends_before, in_parentheses, expression_at}
use Rattle.om_pragma.specs.Reading.{expression_before}
use Rattle.om_pragma.specs.Spelling.{token, mark, value_kind}
use Rattle.om_pragma.specs.Values.{StandsAsValue, IsFirstValue}
use Rattle.om_pragma.specs.Words.{same_kind, clause_word}
use Rattle.om_pragma.proofs.Arguments.{closing_is, closing_again}
use Rattle.om_pragma.proofs.Outcomes.{ok_is, some, some_is, bind_ok}
use Rattle.om_pragma.proofs.Taken.{same_kind_is, mark_at_is, mark_again}

-- ---- at one token

-- what stands behind the word of a clause: these tokens in parentheses, and others
abbrev inside : List Token → (left right : Span) → List Token → List Token
inside es left right behind = mark punctuators.OpenParen left ∷ (es ++ mark punctuators.CloseParen right ∷ behind)

-- this token is the word of a clause, and its expression stands behind it
record IsValueAt (place : ℕ) (t : Token) (ts inside : List Token) : Type 0 where
  word : ValueClause
  left : Span
  right : Span
  behind : List Token
  word_is : t.kind ≡ clause_word (value_kind word)
  parts : ts ≡ mark punctuators.OpenParen left ∷ (inside ++ mark punctuators.CloseParen right ∷ behind)
  closed : IsClosed inside
  starts : t.span.start < place
  ends : right.start < place

some_inside : (xs es : List Token) → some_tokens xs ≡ some es → (xs ≡ es) × (es ≢ [])
some_inside [] es e = absurd cc
some_inside (x ∷ xs) es e = (
  some_is (x ∷ xs) es e,
  λ none. let is : some (x ∷ xs) ≡ some [] = e ∙ ap some none in
      absurd cc,
)

in_parentheses_is : (place : ℕ) (k : ValueClause) (t : Token) (ts es : List Token) → t.kind
    ≡ clause_word (value_kind k) → t.span.start < place → ends_before place (in_parentheses ts) ≡ some es
    → IsValueAt place t ts es
unfolding in_parentheses
in_parentheses_is place k t ts es word starts h = go (in_parentheses ts) refl h
  where
    inside : (c : List Token × Span × List Token) → in_parentheses ts ≡ Ok c → c.1.start < place → (c.0 ≡ es)
        × (es ≢ []) → IsValueAt place t ts es
    inside c is before same =
        let o = bind_ok (mark_at punctuators.OpenParen ts) _ c is in
        let rest = closing_is 0 o.0.1 c o.2 in
        record {
          word = k;
          left = o.0.0;
          right = c.1;
          behind = c.2;
          word_is = word;
          parts = mark_at_is punctuators.OpenParen ts o.0 o.1 ∙ ap (λ (w : List Token). mark punctuators.OpenParen
              o.0.0 ∷ w) (rest.0 ∙ ap (λ (w : List Token). w ++ mark punctuators.CloseParen c.1 ∷ c.2) same.0);
          closed = (same.1, subst (Closes 0) same.0 rest.1);
          starts = starts;
          ends = before;
        }

    ends : (c : List Token × Span × List Token) → in_parentheses ts ≡ Ok c → (b : Bool) → nat_le place c.1.start ≡ b
        → cond b None (some_tokens c.0) ≡ some es → IsValueAt place t ts es
    ends c is true past e = absurd cc
    ends c is false past e = inside c is (leb-false place c.1.start past) (some_inside c.0 es e)

    go : (r : Result (List Token × Span × List Token) ℕ) → in_parentheses ts ≡ r → ends_before place r ≡ some es
        → IsValueAt place t ts es
    go (Ok c) is e = ends c is (nat_le place c.1.start) refl e
    go (Err at) is e = absurd cc

value_at_is : (place : ℕ) (t : Token) (ts es : List Token) → expression_at place t ts ≡ some es → IsValueAt place t
    ts es
unfolding expression_at
value_at_is place t ts es h = go (nat_le place t.span.start) (same_kind t.kind (kinds.Name (codes "num_threads")))
    (same_kind t.kind (kinds.Name (codes "filter"))) refl refl refl h
  where
    go : (a b c : Bool) → nat_le place t.span.start ≡ a → same_kind t.kind (kinds.Name (codes "num_threads")) ≡ b
        → same_kind t.kind (kinds.Name (codes "filter")) ≡ c
        → cond a None (cond (b || c) (ends_before place (in_parentheses ts)) None) ≡ some es → IsValueAt place t ts es
    go true b c past is other e = absurd cc
    go false true c past is other e = in_parentheses_is place value_kinds.NumThreads t ts es
        (same_kind_is t.kind (kinds.Name (codes "num_threads")) is) (leb-false place t.span.start past) e
    go false false true past is other e = in_parentheses_is place value_kinds.Filter t ts es
        (same_kind_is t.kind (kinds.Name (codes "filter")) other) (leb-false place t.span.start past) e
    go false false false past is other e = absurd cc

some_again : (es : List Token) → es ≢ [] → some_tokens es ≡ some es
some_again [] none = absurd (none refl)
some_again (e ∷ es) none = refl

value_at_again : (place : ℕ) (t : Token) (ts es : List Token) → IsValueAt place t ts es → expression_at place t ts
    ≡ some es
unfolding expression_at in_parentheses
value_at_again place t ts es v = rw (v.word_is, lt-leb place t.span.start v.starts) (go v.word)
  where
    inside : ends_before place (in_parentheses ts) ≡ some es
    inside = rw (
      v.parts,
      mark_again punctuators.OpenParen v.left (es ++ mark punctuators.CloseParen v.right
          ∷ v.behind),
      closing_again 0 es v.right v.behind v.closed.1,
      lt-leb place v.right.start v.ends,
    )
        (some_again es v.closed.0)

    go : (k : ValueClause) → cond (same_kind (clause_word (value_kind k)) (kinds.Name (codes "num_threads"))
        || same_kind (clause_word (value_kind k)) (kinds.Name (codes "filter")))
        (ends_before place (in_parentheses ts)) None ≡ some es
    go value_kinds.NumThreads = inside
    go value_kinds.Filter = inside

-- ---- among the tokens

abbrev stands_first : (place : ℕ) (t : Token) (ts es : List Token) → IsValueAt place t ts es
    → StandsAsValue (t ∷ ts) place es
stands_first place t ts es v = record {
  before = [];
  word = v.word;
  at = t.span;
  left = v.left;
  right = v.right;
  behind = v.behind;
  parts = ap (λ (w : List Token). t ∷ w) v.parts ∙ ap (λ k. token k t.span ∷ inside es v.left v.right v.behind)
      v.word_is;
  closed = v.closed;
  starts = v.starts;
  ends = v.ends;
}

abbrev stands_later : (place : ℕ) (t : Token) (ts es : List Token) → StandsAsValue ts place es
    → StandsAsValue (t ∷ ts) place es
stands_later place t ts es s = record {
  before = t ∷ s.before;
  word = s.word;
  at = s.at;
  left = s.left;
  right = s.right;
  behind = s.behind;
  parts = ap (λ (w : List Token). t ∷ w) s.parts;
  closed = s.closed;
  starts = s.starts;
  ends = s.ends;
}

-- one that stands among tokens of which the first begins none
further : (place : ℕ) (t : Token) (ts es : List Token) → expression_at place t ts ≡ None
    → (o : StandsAsValue (t ∷ ts) place es) → (s : StandsAsValue ts place es)
    × (length o.before ≡ suc (length s.before))
further place t ts es absent o = go o.before refl o.parts
  where
    word : Token
    word = token (clause_word (value_kind o.word)) o.at

    go : (before : List Token) → o.before ≡ before → t ∷ ts ≡ before ++ word ∷ inside es o.left o.right o.behind
        → (s : StandsAsValue ts place es) × (length o.before ≡ suc (length s.before))
    go [] is parts =
        let first : t ≡ word = cc in
        let rest : ts ≡ inside es o.left o.right o.behind = cc in
        let found = value_at_again place t ts es (record {
          word = o.word;
          left = o.left;
          right = o.right;
          behind = o.behind;
          word_is = ap (λ (u : Token). u.kind) first;
          parts = rest;
          closed = o.closed;
          starts = subst (λ (u : Token). u.span.start < place) (sym first) o.starts;
          ends = o.ends;
        }) in
        absurd cc
    go (u ∷ before) is parts =
        let rest : ts ≡ before ++ word ∷ inside es o.left o.right o.behind = cc in
        let later : StandsAsValue ts place es = record {
          before = before;
          word = o.word;
          at = o.at;
          left = o.left;
          right = o.right;
          behind = o.behind;
          parts = rest;
          closed = o.closed;
          starts = o.starts;
          ends = o.ends;
        } in
        (later, ap length is)

nothing_stands : (place : ℕ) (es : List Token) → StandsAsValue [] place es → ⊥
nothing_stands place es s = go s.before s.parts
  where
    go : (before : List Token) → [] ≡ before ++ token (clause_word (value_kind s.word)) s.at
        ∷ mark punctuators.OpenParen s.left ∷ (es ++ mark punctuators.CloseParen s.right ∷ s.behind) → ⊥
    go [] e = absurd cc
    go (u ∷ before) e = absurd cc

pub is_first : (place : ℕ) (ts es : List Token) → expression_before place ts ≡ some es → IsFirstValue ts place es
unfolding expression_before
is_first place [] es e = absurd cc
is_first place (t ∷ ts) es e = go (λ h. is_first place ts es h) (expression_at place t ts) refl e
  where
    go : (expression_before place ts ≡ some es → IsFirstValue ts place es) → (o : Option (List Token))
        → expression_at place t ts ≡ o → or_else o (expression_before place ts) ≡ some es → IsFirstValue (t ∷ ts)
        place es
    go later (Some x) is e = record {
      stands = stands_first place t ts es (value_at_is place t ts es (is ∙ e));
      first = λ other o. omega arith;
    }
    go later None is e =
        let h = later e in
        record {
          stands = stands_later place t ts es h.stands;
          first = λ other o. let f = further place t ts other
              is o in omega (arith, h.first other f.0, f.1);
        }

pub is_absent : (place : ℕ) (ts : List Token) → expression_before place ts ≡ None → (es : List Token)
    → StandsAsValue ts place es → ⊥
unfolding expression_before
is_absent place [] e es s = nothing_stands place es s
is_absent place (t ∷ ts) e es s = go (λ h. is_absent place ts h es) (expression_at place t ts) refl e
  where
    go : (expression_before place ts ≡ None → StandsAsValue ts place es → ⊥) → (o : Option (List Token))
        → expression_at place t ts ≡ o → or_else o (expression_before place ts) ≡ None → ⊥
    go later (Some x) is e = absurd cc
    go later None is e = later e (further place t ts es is s).0

-- ---- one is the first

same_rest : (front rest other left : List Token) → front ++ rest ≡ other ++ left → length front ≡ length other
    → rest ≡ left
same_rest [] rest [] left e long = e
same_rest [] rest (t ∷ other) left e long = absurd cc
same_rest (t ∷ front) rest [] left e long = absurd cc
same_rest (t ∷ front) rest (u ∷ other) left e long = same_rest front rest other left (let tail : front ++ rest
    ≡ other ++ left = cc in tail) (omega (arith, long))

first_one : (place : ℕ) (ts xs es : List Token) → IsFirstValue ts place xs → IsFirstValue ts place es → xs ≡ es
first_one place ts xs es x y =
    let long : length x.stands.before ≡ length y.stands.before = omega (
      arith,
      x.first es y.stands,
      y.first xs x.stands,
    ) in
    let rest = same_rest x.stands.before _ y.stands.before _ (sym x.stands.parts ∙ y.stands.parts) long in
    let inside : xs ++ mark punctuators.CloseParen x.stands.right ∷ x.stands.behind ≡ es
    ++ mark punctuators.CloseParen y.stands.right ∷ y.stands.behind = cc in
    let same = sym (closing_again 0 xs x.stands.right x.stands.behind x.stands.closed.1) ∙ ap (closing 0) inside
    ∙ closing_again 0 es y.stands.right y.stands.behind y.stands.closed.1 in
    ap (λ (c : List Token × Span × List Token). c.0) (ok_is (xs, x.stands.right, x.stands.behind)
    (es, y.stands.right, y.stands.behind) same)

pub is_found : (place : ℕ) (ts es : List Token) → IsFirstValue ts place es → expression_before place ts ≡ some es
is_found place ts es h = go (expression_before place ts) refl
  where
    go : (o : Option (List Token)) → expression_before place ts ≡ o → o ≡ some es
    go None e = absurd (is_absent place ts e es h.stands)
    go (Some x) e = ap some (first_one place ts x es (is_first place ts x e) h)
