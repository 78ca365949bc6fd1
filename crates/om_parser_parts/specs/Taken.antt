-- Matter of proofs, for om_parser too: a token that is taken from the front is the one that stood there.
use Rattle.std.proofs.Common.{◌≡◌, ◌<◌, List, [], ◌∷◌, length, Option, None, ap, arith, ◌∙◌, inl, inr}
use denote.Enum.Bare.{same_true}
use Rattle.om_lexer.specs.contracts.token.Keyword.{the_type as the_keywords}
use Rattle.om_lexer.specs.contracts.token.Punctuator.{the_type as the_punctuators}
use Rattle.om_lexer.specs.declared.token.Keyword.{Keyword}
use Rattle.om_lexer.specs.declared.token.Punctuator.{Punctuator}
use Rattle.om_lexer.specs.declared.token.Span.{Span}
use Rattle.om_lexer.specs.declared.token.Token.{Token}
use Rattle.om_lexer.specs.declared.token.TokenKind.{TokenKind}
use Rattle.om_lexer.specs.declared.token.TokenKind.TheVariants as kinds
use Rattle.om_pragma.specs.declared.clause.Name as names
use Rattle.om_pragma.specs.declared.clause.Number.{Number}
use Rattle.om_parser_parts.specs.Reading.{take, same_mark, same_word, mark_of, word_of, name_of, number_of, take_mark}
use Rattle.om_parser_parts.specs.Reading.{take_word, take_name, take_number, mark_at, word_at, name_at, number_at}
use Rattle.om_parser_tree.specs.Spelling.{token, mark, word, name, number}
use Rattle.om_parser_parts.specs.Outcomes.{ok, some, some_is, choose_cases, known_ok, cond_some}

pub take_is : {A : Type 0} (f : Token → Option A) (ts : List Token) (x : A) (us : List Token) → take f ts
    ≡ some (x, us) → (t : Token) × (ts ≡ t ∷ us) × (f t ≡ some x)
unfolding take
take_is f [] x us e = absurd cc
take_is f (t ∷ ts) x us e = elim (choose_cases (f t) (λ y. some (y, ts)) None (some (x, us)) e) [
  | inl g ↦
      let same : (g.0, ts) ≡ (x, us) = some_is (g.0, ts) (x, us) g.2 in
      (t, ap (λ p. t ∷ p.1) same, g.1 ∙ ap (λ p. some p.0) same)
  | inr g ↦ absurd cc
]

mark_is : (p : Punctuator) (k : TokenKind) (s x : Span) → mark_of p k s ≡ some x → token k s ≡ mark p x
unfolding same_mark
mark_is p (kinds.Punctuator q) s x e =
    let g = cond_some (same_mark q p) s x e in
    ap (λ r. mark r s) (same_true the_punctuators tt q p g.0) ∙ ap (mark p) g.1
mark_is p _ s x e = absurd cc

word_is : (w : Keyword) (k : TokenKind) (s x : Span) → word_of w k s ≡ some x → token k s ≡ word w x
unfolding same_word
word_is w (kinds.Keyword q) s x e =
    let g = cond_some (same_word q w) s x e in
    ap (λ r. word r s) (same_true the_keywords tt q w g.0) ∙ ap (word w) g.1
word_is w _ s x e = absurd cc

name_is : (k : TokenKind) (s : Span) (n : names.Name) → name_of k s ≡ some n → token k s ≡ name n
name_is (kinds.Name text) s n e = ap name (some_is _ n e)
name_is _ s n e = absurd cc

number_is : (k : TokenKind) (s : Span) (n : Number) → number_of k s ≡ some n → token k s ≡ number n
number_is (kinds.Constant value) s n e = ap number (some_is _ n e)
number_is _ s n e = absurd cc

pub take_mark_is : (p : Punctuator) (ts : List Token) (s : Span) (us : List Token) → take_mark p ts ≡ some (s, us)
    → ts ≡ mark p s ∷ us
unfolding take_mark
take_mark_is p ts s us e =
    let t = take_is (λ t. mark_of p t.kind t.span) ts s us e in
    t.1 ∙ ap (λ u. u ∷ us) (mark_is p t.0.kind t.0.span s t.2)

pub mark_shorter : (p : Punctuator) (ts : List Token) (s : Span) (us : List Token) → take_mark p ts ≡ some (s, us)
    → length us < length ts
mark_shorter p ts s us e = omega (arith, ap length (take_mark_is p ts s us e))

pub take_word_is : (w : Keyword) (ts : List Token) (s : Span) (us : List Token) → take_word w ts ≡ some (s, us) → ts
    ≡ word w s ∷ us
unfolding take_word
take_word_is w ts s us e =
    let t = take_is (λ t. word_of w t.kind t.span) ts s us e in
    t.1 ∙ ap (λ u. u ∷ us) (word_is w t.0.kind t.0.span s t.2)

pub take_name_is : (ts : List Token) (n : names.Name) (us : List Token) → take_name ts ≡ some (n, us) → ts ≡ name n ∷ us
unfolding take_name
take_name_is ts n us e =
    let t = take_is (λ t. name_of t.kind t.span) ts n us e in
    t.1 ∙ ap (λ u. u ∷ us) (name_is t.0.kind t.0.span n t.2)

pub take_number_is : (ts : List Token) (n : Number) (us : List Token) → take_number ts ≡ some (n, us) → ts
    ≡ number n ∷ us
unfolding take_number
take_number_is ts n us e =
    let t = take_is (λ t. number_of t.kind t.span) ts n us e in
    t.1 ∙ ap (λ u. u ∷ us) (number_is t.0.kind t.0.span n t.2)

pub mark_at_is : (p : Punctuator) (ts : List Token) (x : Span × List Token) → mark_at p ts ≡ ok x → ts ≡ mark p x.0
    ∷ x.1
unfolding mark_at
mark_at_is p ts x e = take_mark_is p ts x.0 x.1 (known_ok ts (take_mark p ts) x e)

pub word_at_is : (w : Keyword) (ts : List Token) (x : Span × List Token) → word_at w ts ≡ ok x → ts ≡ word w x.0 ∷ x.1
unfolding word_at
word_at_is w ts x e = take_word_is w ts x.0 x.1 (known_ok ts (take_word w ts) x e)

pub name_at_is : (ts : List Token) (x : names.Name × List Token) → name_at ts ≡ ok x → ts ≡ name x.0 ∷ x.1
unfolding name_at
name_at_is ts x e = take_name_is ts x.0 x.1 (known_ok ts (take_name ts) x e)

pub number_at_is : (ts : List Token) (x : Number × List Token) → number_at ts ≡ ok x → ts ≡ number x.0 ∷ x.1
unfolding number_at
number_at_is ts x e = take_number_is ts x.0 x.1 (known_ok ts (take_number ts) x e)
