-- The run of a directive line: its tokens up to the first end, found token by token.
use Rattle.std.proofs.Common.{◌≡◌, ℕ, ◌+◌, ◌<◌, ◌≤◌, List, [], ◌∷◌, ◌++◌, length, take, Option, Some, None, Bool, true}
use Rattle.std.proofs.Common.{false, cond, refl, sym, ap, subst, ◌∙◌, arith, append_assoc, length-append}
use Rattle.std.specs.Prelude.{◌≢◌, option_map}
use Rattle.std.proofs.lemmas.Bool.{lt-ltb, le-ltb}
use Rattle.std.proofs.lemmas.List.Elements.{All-nil, All-cons}
use Rattle.om_lexer.specs.declared.token.Span.{Span}
use Rattle.om_lexer.specs.declared.token.Token.{Token}
use Rattle.om_lexer.specs.declared.token.TokenKind.{TokenKind}
use Rattle.om_lexer.specs.declared.token.TokenKind.TheVariants as kinds
use Rattle.om_pragma.specs.Reading.{is_end, take_first}
use Rattle.om_pragma.specs.Refusals.{EndsOnce}
use Rattle.om_parser_parts.specs.WrongLines.{IsOneLine}
use Rattle.om_parser_parts.specs.LineReading.{run_of, place_behind}
use Rattle.om_parser_tree.specs.Spelling.{token}
use Rattle.om_parser_parts.specs.Outcomes.{some, some_is}

-- the tokens of a run, and those behind it
abbrev pub Run : Type 0
Run = Option (List Token × List Token)

-- a run with these tokens before it
abbrev pub with_front : List Token → Run → Run
with_front front = option_map (λ r. (front ++ r.0, r.1))

regroup : (front : List Token) (t : Token) (r : Run) → with_front front (with_front (t ∷ []) r)
    ≡ with_front (front ++ t ∷ []) r
regroup front t (Some r) = ap (λ (xs : List Token). some (xs, r.1)) (simp append_assoc)
regroup front t None = refl

nothing_before : (r : Run) → with_front [] r ≡ r
nothing_before (Some r) = refl
nothing_before None = refl

first_is : (ts : List Token) (t : Token) (us : List Token) → take_first ts ≡ some (t, us) → ts ≡ t ∷ us
first_is [] t us e = absurd cc
first_is (u ∷ vs) t us e = ap (λ (p : Token × List Token). p.0 ∷ p.1) (some_is (u, vs) (t, us) e)

pub take_front : (xs ys : List Token) → take (length xs) (xs ++ ys) ≡ xs
take_front [] ys = refl
take_front (x ∷ xs) ys = ap (λ (zs : List Token). x ∷ zs) (take_front xs ys)

-- ---- as a loop

-- so many tokens are passed, of which none is an end
pub record IsPast (tokens rest : List Token) (taken : ℕ) : Type 0 where
  pub front : List Token
  pub parts : tokens ≡ front ++ rest
  pub counted : taken ≡ length front
  pub whole : with_front front (run_of rest) ≡ run_of tokens

module _ (tokens rest : List Token) (taken : ℕ) (h : IsPast tokens rest taken) where
  pub past_fails : take_first rest ≡ None → run_of tokens ≡ None
  unfolding run_of
  past_fails none = go rest refl none
    where
      go : (ts : List Token) → rest ≡ ts → take_first ts ≡ None → run_of tokens ≡ None
      go [] is none = sym h.whole ∙ rw is refl
      go (t ∷ ts) is none = absurd cc

  module _ (t : Token) (us : List Token) (first : take_first rest ≡ some (t, us)) where
    pub past_ends : is_end t.kind ≡ true → run_of tokens ≡ some (take (taken + 1) tokens, us)
    unfolding run_of
    past_ends ends =
        let r = first_is rest t us first in
        let w : with_front h.front (run_of rest) ≡ some (h.front ++ t ∷ [], us) = rw (r, ends) refl in
        let all : tokens ≡ (h.front ++ t ∷ []) ++ us = h.parts ∙ rw r (simp append_assoc) in
        let count : taken + 1 ≡ length (h.front ++ t ∷ []) = omega (arith, h.counted, length-append h.front (t ∷ [])) in
        let front : take (taken + 1) tokens ≡ h.front ++ t ∷ [] = rw (count, all) (take_front (h.front ++ t ∷ []) us) in
        sym h.whole ∙ w ∙ ap (λ (xs : List Token). some (xs, us)) (sym front)

    pub past_goes_on : is_end t.kind ≡ false → IsPast tokens us (taken + 1)
    unfolding run_of
    past_goes_on goes =
        let r = first_is rest t us first in
        record {
          front = h.front ++ t ∷ [];
          parts = h.parts ∙ rw r (simp append_assoc);
          counted = omega (arith, h.counted, length-append h.front (t ∷ []));
          whole = sym (regroup h.front t (run_of us)) ∙ (rw (r, goes) at h.whole);
        }

    pub past_within : taken < length tokens
    past_within = omega (
      arith,
      h.counted,
      ap length h.parts,
      length-append h.front rest,
      ap length (first_is rest t us first),
    )

-- ---- the first token behind a place

pub behind_fails : (at : ℕ) (ts : List Token) → take_first ts ≡ None → place_behind at ts ≡ 4294967295
unfolding place_behind
behind_fails at [] e = refl
behind_fails at (t ∷ ts) e = absurd cc

pub behind_ends : (at : ℕ) (ts : List Token) (t : Token) (us : List Token) → take_first ts ≡ some (t, us)
    → at < t.span.start → place_behind at ts ≡ t.span.start
unfolding place_behind
behind_ends at ts t us first lt = rw (first_is ts t us first, lt-ltb at t.span.start lt) refl

pub behind_goes_on : (at : ℕ) (ts : List Token) (t : Token) (us : List Token) → take_first ts ≡ some (t, us)
    → t.span.start ≤ at → place_behind at us ≡ place_behind at ts
unfolding place_behind
behind_goes_on at ts t us first le = rw (first_is ts t us first, le-ltb at t.span.start le) refl

-- ---- by the tokens

-- what is found is all of the tokens, the run first
pub run_is : (ts : List Token) (r : List Token × List Token) → run_of ts ≡ some r → ts ≡ r.0 ++ r.1
unfolding run_of
run_is [] r e = absurd cc
run_is (t ∷ ts) r e = go (λ s is. run_is ts s is) (is_end t.kind) (run_of ts) refl e
  where
    go : ((s : List Token × List Token) → run_of ts ≡ some s → ts ≡ s.0 ++ s.1) → (b : Bool) (o : Run) → run_of ts
        ≡ o → cond b (some (t ∷ [], ts)) (with_front (t ∷ []) o) ≡ some r → t ∷ ts ≡ r.0 ++ r.1
    go later true o is e = ap (λ (p : List Token × List Token). p.0 ++ p.1) (some_is (t ∷ [], ts) r e)
    go later false (Some s) is e = ap (λ (us : List Token). t ∷ us) (later s is)
        ∙ ap (λ (p : List Token × List Token). p.0 ++ p.1) (some_is (t ∷ s.0, s.1) r e)
    go later false None is e = absurd cc

abbrev NoEnd : Token → Type 0
NoEnd t = t.kind ≢ kinds.DirectiveEnd

-- what is found ends with an end, and has no other
ended_first : (t : Token) → is_end t.kind ≡ true → EndsOnce (t ∷ [])
ended_first t is = record {
  front = [];
  end = t.span;
  parts = ap (λ k. token k t.span ∷ []) (end_kind t.kind is);
  endless = All-nil NoEnd;
}
  where
    end_kind : (k : TokenKind) → is_end k ≡ true → k ≡ kinds.DirectiveEnd
    end_kind kinds.DirectiveEnd e = refl
    end_kind _ e = absurd cc

ended_more : (t : Token) (run : List Token) → is_end t.kind ≡ false → EndsOnce run → EndsOnce (t ∷ run)
ended_more t run is r = record {
  front = t ∷ r.front;
  end = r.end;
  parts = ap (λ (w : List Token). t ∷ w) r.parts;
  endless = All-cons NoEnd t r.front (λ (e : t.kind ≡ kinds.DirectiveEnd). let both : is_end t.kind
      ≡ true = ap is_end e in absurd cc) r.endless;
}

pub run_is_ended : (ts : List Token) (r : List Token × List Token) → run_of ts ≡ some r → EndsOnce r.0
unfolding run_of
run_is_ended [] r e = absurd cc
run_is_ended (t ∷ ts) r e = go (λ s is. run_is_ended ts s is) (is_end t.kind) refl (run_of ts) refl e
  where
    go : ((s : List Token × List Token) → run_of ts ≡ some s → EndsOnce s.0) → (b : Bool) → is_end t.kind ≡ b
        → (o : Run) → run_of ts ≡ o → cond b (some (t ∷ [], ts)) (with_front (t ∷ []) o) ≡ some r → EndsOnce r.0
    go later true end o is e = subst (λ (p : List Token × List Token). EndsOnce p.0) (some_is (t ∷ [], ts) r e)
        (ended_first t end)
    go later false end (Some s) is e = subst (λ (p : List Token × List Token). EndsOnce p.0)
        (some_is (t ∷ s.0, s.1) r e) (ended_more t s.0 end (later s is))
    go later false end None is e = absurd cc

-- behind the beginning of a line, it is one whole line
pub run_is_line : (hash : Span) (ts : List Token) (r : List Token × List Token)
    → run_of (token kinds.DirectiveBegin hash ∷ ts) ≡ some r → IsOneLine r.0
unfolding run_of
run_is_line hash ts r e = go (run_of ts) refl e
  where
    go : (o : Run) → run_of ts ≡ o → with_front (token kinds.DirectiveBegin hash ∷ []) o ≡ some r → IsOneLine r.0
    go (Some s) is e =
        let c = run_is_ended ts s is in
        subst (λ (p : List Token × List Token). IsOneLine p.0) (some_is (token kinds.DirectiveBegin hash ∷ s.0, s.1)
        r e) (record {
          hash = hash;
          inner = c.front;
          end = c.end;
          parts = ap (λ (w : List Token). token kinds.DirectiveBegin hash ∷ w) c.parts;
          endless = c.endless;
        })
    go None is e = absurd cc

-- none of these tokens ends a line
unfoldable pub Endless : List Token → Type 0
Endless [] = Unit {0}
Endless (t ∷ ts) = (is_end t.kind ≡ false) × Endless ts

pub endless_both : (xs ys : List Token) → Endless xs → Endless ys → Endless (xs ++ ys)
unfolding Endless
endless_both [] ys e f = f
endless_both (x ∷ xs) ys e f = (e.0, endless_both xs ys e.1 f)

-- a line is the run of its tokens
pub run_again : (xs : List Token) (t : Token) (us : List Token) → Endless xs → is_end t.kind ≡ true
    → run_of ((xs ++ t ∷ []) ++ us) ≡ some (xs ++ t ∷ [], us)
unfolding run_of Endless
run_again [] t us e ends = rw ends refl
run_again (x ∷ xs) t us e ends = rw (e.0, run_again xs t us e.1 ends) refl
