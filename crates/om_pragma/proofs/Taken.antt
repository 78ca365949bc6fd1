-- A token that is taken from the front is the one that stood there, and one that stands there is taken.
use Rattle.std.proofs.Common.{◌≡◌, List, [], ◌∷◌, None, Bool, true, false, cond, refl, ap, ◌∙◌, inl, inr}
use Rattle.std.proofs.lemmas.Slice.Eq.{bytes_eq-Decides}
use denote.Enum.Bare.{same_true, true_same}
use Rattle.om_lexer.specs.contracts.token.Keyword.{the_type as the_keywords}
use Rattle.om_lexer.specs.contracts.token.Punctuator.{the_type as the_punctuators}
use Rattle.om_lexer.specs.declared.token.Punctuator.{Punctuator}
use Rattle.om_lexer.specs.declared.token.Span.{Span}
use Rattle.om_lexer.specs.declared.token.Token.{Token}
use Rattle.om_lexer.specs.declared.token.TokenKind.{TokenKind}
use Rattle.om_lexer.specs.declared.token.TokenKind.TheVariants as kinds
use Rattle.om_pragma.specs.declared.clause.Name as names
use Rattle.om_pragma.specs.Reading.{take_kind, take_word, take_name, name_of, mark_at, name_at}
use Rattle.om_pragma.specs.Spelling.{token, mark, name}
use Rattle.om_pragma.specs.Words.{same_kind, same_mark, same_keyword, among}
use Rattle.om_pragma.proofs.Outcomes.{ok, some, some_is, none_some, choose_cases, known_ok, cond_some}

pub same_kind_is : (k w : TokenKind) → same_kind k w ≡ true → k ≡ w
unfolding same_mark same_keyword
same_kind_is (kinds.Name a) (kinds.Name b) h = ap kinds.Name ((bytes_eq-Decides a b).0 h)
same_kind_is (kinds.Keyword a) (kinds.Keyword b) h = ap kinds.Keyword (same_true the_keywords tt a b h)
same_kind_is (kinds.Punctuator a) (kinds.Punctuator b) h = ap kinds.Punctuator (same_true the_punctuators tt a b h)
same_kind_is kinds.DirectiveBegin kinds.DirectiveBegin h = refl
same_kind_is _ _ h = absurd cc

pub among_is : {K : Type 0} (word : K → TokenKind) (ks : List K) (kind : TokenKind) (k : K) → among word ks kind
    ≡ some k → kind ≡ word k
among_is word [] kind k e = absurd (none_some k e)
among_is {K} word (j ∷ ks) kind k e = go (λ h. among_is word ks kind k h) (same_kind kind (word j)) refl e
  where
    go : (among word ks kind ≡ some k → kind ≡ word k) → (b : Bool) → same_kind kind (word j) ≡ b → cond b (some j)
        (among word ks kind) ≡ some k → kind ≡ word k
    go later true is e = same_kind_is kind (word j) is ∙ ap word (some_is j k e)
    go later false is e = later e

pub take_kind_is : (w : TokenKind) (ts : List Token) (s : Span) (us : List Token) → take_kind w ts ≡ some (s, us)
    → ts ≡ token w s ∷ us
unfolding take_kind
take_kind_is w [] s us e = absurd (none_some (s, us) e)
take_kind_is w (t ∷ ts) s us e =
    let g = cond_some (same_kind t.kind w) (t.span, ts) (s, us) e in
    ap (λ k. token k t.span ∷ ts) (same_kind_is t.kind w g.0) ∙ ap (λ p. token w p.0 ∷ p.1) g.1

pub take_word_is : {K : Type 0} (word : K → TokenKind) (ks : List K) (ts : List Token) (x : (K × Span) × List Token)
    → take_word word ks ts ≡ some x → ts ≡ token (word x.0.0) x.0.1 ∷ x.1
unfolding take_word
take_word_is word ks [] x e = absurd (none_some x e)
take_word_is {K} word ks (t ∷ ts) x e = elim (choose_cases (among word ks t.kind) (λ k. some ((k, t.span), ts)) None
    (some x) e) [
      | inl g ↦ ap (λ k. token k t.span ∷ ts) (among_is word ks t.kind g.0 g.1)
          ∙ ap (λ (p : (K × Span) × List Token). token (word p.0.0) p.0.1 ∷ p.1) (some_is ((g.0, t.span), ts) x g.2)
      | inr g ↦ absurd (none_some x g.1)
    ]

name_of_is : (k : TokenKind) (s : Span) (n : names.Name) → name_of k s ≡ some n → token k s ≡ name n
name_of_is (kinds.Name text) s n e = ap name (some_is _ n e)
name_of_is _ s n e = absurd cc

pub take_name_is : (ts : List Token) (x : names.Name × List Token) → take_name ts ≡ some x → ts ≡ name x.0 ∷ x.1
unfolding take_name
take_name_is [] x e = absurd (none_some x e)
take_name_is (t ∷ ts) x e = elim (choose_cases (name_of t.kind t.span) (λ n. some (n, ts)) None (some x) e) [
  | inl g ↦ ap (λ u. u ∷ ts) (name_of_is t.kind t.span g.0 g.1) ∙ ap (λ (p : names.Name × List Token). name p.0
      ∷ p.1) (some_is (g.0, ts) x g.2)
  | inr g ↦ absurd (none_some x g.1)
]

pub mark_at_is : (p : Punctuator) (ts : List Token) (x : Span × List Token) → mark_at p ts ≡ ok x → ts ≡ mark p x.0
    ∷ x.1
unfolding mark_at
mark_at_is p ts x e = take_kind_is (kinds.Punctuator p) ts x.0 x.1 (known_ok ts (take_kind (kinds.Punctuator p) ts) x e)

pub name_at_is : (ts : List Token) (x : names.Name × List Token) → name_at ts ≡ ok x → ts ≡ name x.0 ∷ x.1
unfolding name_at
name_at_is ts x e = take_name_is ts x (known_ok ts (take_name ts) x e)

-- ---- again

pub take_mark_again : (p : Punctuator) (s : Span) (ts : List Token) → take_kind (kinds.Punctuator p) (mark p s ∷ ts)
    ≡ some (s, ts)
unfolding take_kind same_mark
take_mark_again p s ts = rw (true_same the_punctuators p p refl) refl

pub mark_again : (p : Punctuator) (s : Span) (ts : List Token) → mark_at p (mark p s ∷ ts) ≡ ok (s, ts)
unfolding mark_at
mark_again p s ts = rw (take_mark_again p s ts) refl

pub name_again : (n : names.Name) (ts : List Token) → name_at (name n ∷ ts) ≡ ok (n, ts)
unfolding name_at take_name
name_again n ts = refl

pub word_known : {K : Type 0} (word : K → TokenKind) (ks : List K) (kind : TokenKind) (k : K) → among word ks kind
    ≡ some k → (s : Span) (ts : List Token) → take_word word ks (token kind s ∷ ts) ≡ some ((k, s), ts)
unfolding take_word
word_known word ks kind k e s ts = rw e refl

pub word_again : {K : Type 0} (word : K → TokenKind) (ks : List K) (k : K) → among word ks (word k) ≡ some k
    → (s : Span) (ts : List Token) → take_word word ks (token (word k) s ∷ ts) ≡ some ((k, s), ts)
word_again word ks k e s ts = word_known word ks (word k) k e s ts
