-- Looking for the parenthesis that closes, as a loop does.
use Rattle.std.proofs.Common.{◌≡◌, ℕ, ◌+◌, ◌<◌, ◌≤◌, List, [], ◌∷◌, ◌++◌, length, take, None, Result, Ok, Err, Bool}
use Rattle.std.proofs.Common.{true, false, cond, refl, sym, ap, ◌∙◌, arith, append_assoc, length-append}
use Rattle.std.specs.Prelude.{◌-◌, ◌==◌}
use Rattle.std.proofs.lemmas.List.{append-nil}
use Rattle.om_lexer.specs.declared.token.Punctuator.TheVariants as punctuators
use Rattle.om_lexer.specs.declared.token.Span.{Span}
use Rattle.om_lexer.specs.declared.token.Token.{Token}
use Rattle.om_lexer.specs.declared.token.TokenKind.TheVariants as kinds
use Rattle.om_pragma.specs.Expressions.{open_behind}
use Rattle.om_pragma.specs.Reading.{◌>>=◌, take_first, closing, expression_at, expression_before}
use Rattle.om_pragma.specs.Words.{same_kind}
use Rattle.om_pragma.proofs.Outcomes.{ok, err, some, some_is}

abbrev pub Closing : Type 0
Closing = Result (List Token × Span × List Token) ℕ

abbrev pub with_front : List Token → Closing → Closing
with_front front read = read >>= λ c. Ok (front ++ c.0, c.1, c.2)

regroup : (front : List Token) (t : Token) (read : Closing) → with_front front
    (read >>= λ c. Ok (t ∷ c.0, c.1, c.2)) ≡ with_front (front ++ t ∷ []) read
regroup front t (Ok c) = ap (λ (xs : List Token). ok (xs, c.1, c.2)) (simp append_assoc)
regroup front t (Err e) = refl

nothing_before : (read : Closing) → with_front [] read ≡ read
nothing_before (Ok c) = refl
nothing_before (Err e) = refl

take_front : (xs ys : List Token) → take (length xs) (xs ++ ys) ≡ xs
take_front [] ys = refl
take_front (x ∷ xs) ys = ap (λ (zs : List Token). x ∷ zs) (take_front xs ys)

one_more : (n m : ℕ) (p q : Bool) → cond p (some (n + 1)) (cond q (cond (n == 0) None (some (n - 1))) (some n))
    ≡ some m → m ≤ n + 1
one_more n m true q e = let g = some_is (n + 1) m e in omega (arith, g)
one_more n m false true e = go (n == 0) e
  where
    go : (b : Bool) → cond b None (some (n - 1)) ≡ some m → m ≤ n + 1
    go true e = absurd cc
    go false e = let g = some_is (n - 1) m e in omega (arith, g)
one_more n m false false e = let g = some_is n m e in omega (arith, g)

-- so many tokens are passed, and of those in front of them so many parentheses are open
pub record IsInside (tokens rest : List Token) (inside depth : ℕ) : Type 0 where
  pub front : List Token
  pub parts : tokens ≡ front ++ rest
  pub counted : inside ≡ length front
  pub few : depth ≤ inside
  pub whole : with_front front (closing depth rest) ≡ closing 0 tokens

pub inside_begins : (tokens : List Token) → IsInside tokens tokens 0 0
inside_begins tokens = record {
  front = [];
  parts = refl;
  counted = refl;
  few = omega arith;
  whole = nothing_before
      (closing 0 tokens);
}

first_is : (ts : List Token) (t : Token) (us : List Token) → take_first ts ≡ some (t, us) → ts ≡ t ∷ us
first_is [] t us e = absurd cc
first_is (u ∷ vs) t us e = ap (λ (p : Token × List Token). p.0 ∷ p.1) (some_is (u, vs) (t, us) e)

module _ (tokens rest : List Token) (inside depth : ℕ) (h : IsInside tokens rest inside depth) where
  pub inside_ends : (t : Token) (us : List Token) → take_first rest ≡ some (t, us) → open_behind t.kind depth ≡ None
      → closing 0 tokens ≡ ok (take inside tokens, t.span, us)
  unfolding closing
  inside_ends t us is none =
      let r = first_is rest t us is in
      let w : with_front h.front (closing depth rest) ≡ ok (h.front, t.span, us) = rw (r, none)
      (ap (λ (xs : List Token). ok (xs, t.span, us)) (append-nil h.front)) in
      let front : take inside tokens ≡ h.front = rw (h.counted, h.parts) (take_front h.front rest) in
      sym h.whole ∙ w ∙ ap (λ (xs : List Token). ok (xs, t.span, us)) (sym front)

  pub inside_goes_on : (t : Token) (us : List Token) → take_first rest ≡ some (t, us) → (m : ℕ) → open_behind t.kind
      depth ≡ some m → IsInside tokens us (inside + 1) m
  unfolding closing
  inside_goes_on t us first m is =
      let r = first_is rest t us first in
      record {
        front = h.front ++ t ∷ [];
        parts = h.parts ∙ rw r (simp append_assoc);
        counted = omega (arith, h.counted, length-append h.front (t ∷ []));
        few = let le = one_more depth m (same_kind t.kind (kinds.Punctuator punctuators.OpenParen))
            (same_kind t.kind (kinds.Punctuator punctuators.CloseParen)) is in omega (arith, le, h.few);
        whole = sym (regroup h.front t (closing m us)) ∙ (rw (r, is) at h.whole);
      }

  pub inside_fails : take_first rest ≡ None → closing 0 tokens ≡ err 4294967295
  unfolding closing
  inside_fails none = go rest refl none
    where
      go : (ts : List Token) → rest ≡ ts → take_first ts ≡ None → closing 0 tokens ≡ err 4294967295
      go [] is none = sym h.whole ∙ rw is refl
      go (t ∷ ts) is none = absurd cc

  pub inside_less : (t : Token) (us : List Token) → take_first rest ≡ some (t, us) → inside < length tokens
  inside_less t us is = omega (
    arith,
    h.counted,
    ap length h.parts,
    length-append h.front rest,
    ap length (first_is rest t us is),
  )

  pub depth_less : (t : Token) (us : List Token) → take_first rest ≡ some (t, us) → depth < length tokens
  depth_less t us is = let lt = inside_less t us is in omega (arith, lt, h.few)

pub first_shorter : (ts : List Token) (t : Token) (us : List Token) → take_first ts ≡ some (t, us)
    → length us < length ts
first_shorter ts t us is = omega (arith, ap length (first_is ts t us is))

-- ---- the expression of a clause before a place

pub before_ends : (place : ℕ) (ts : List Token) → take_first ts ≡ None → expression_before place ts ≡ None
unfolding expression_before
before_ends place [] e = refl
before_ends place (t ∷ ts) e = absurd cc

pub before_found : (place : ℕ) (ts : List Token) (t : Token) (us e : List Token) → take_first ts ≡ some (t, us)
    → expression_at place t us ≡ some e → expression_before place ts ≡ some e
unfolding expression_before
before_found place ts t us e is found = rw (first_is ts t us is, found) refl

pub before_goes_on : (place : ℕ) (ts : List Token) (t : Token) (us : List Token) → take_first ts ≡ some (t, us)
    → expression_at place t us ≡ None → expression_before place us ≡ expression_before place ts
unfolding expression_before
before_goes_on place ts t us is absent = rw (first_is ts t us is, absent) refl
