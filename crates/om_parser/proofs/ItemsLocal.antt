-- Items that are read as far as the next token: what is made of one, and by what its end is known.
use Rattle.std.proofs.Common.{◌≡◌, ℕ, ◌+◌, ◌<◌, List, [], ◌∷◌, ◌++◌, length, Option, Some, None, Ok, Err}
use Rattle.std.proofs.Common.{Bool, true, false, refl, sym, ap, subst, ◌∙◌, arith}
use Rattle.std.proofs.Common.{◌⊎◌, inl, inr}
use Rattle.std.specs.Prelude.{◌≢◌, ◌||◌, ◌&&◌, not, is_some}
use Rattle.om_lexer.specs.declared.fault.FaultCode.TheVariants as codes
use Rattle.om_lexer.specs.declared.fault.SourceFault.{SourceFault}
use Rattle.om_lexer.specs.declared.token.Punctuator.{Punctuator}
use Rattle.om_lexer.specs.declared.token.Punctuator.TheVariants as punctuators
use Rattle.om_lexer.specs.declared.token.Span.{Span}
use Rattle.om_lexer.specs.declared.token.Token.{Token}
use Rattle.om_lexer.specs.declared.token.TokenKind.{TokenKind}
use Rattle.om_lexer.specs.declared.token.TokenKind.TheVariants as kinds
use Rattle.om_parser.specs.declared.construct.LineStart.{LineStart}
use Rattle.om_parser.specs.declared.construct.LineStart.TheVariants as lines
use Rattle.om_parser.specs.ConstructReading.{line_start, is_section_line}
use Rattle.om_parser.specs.ConstructReading.{at_section, ends_part, ends_parts}
use Rattle.om_parser_parts.specs.Again.{take_mark_again}
use Rattle.om_parser_parts.specs.Halting.{IsElsewhere}
use Rattle.om_parser_parts.specs.Local.{Suffices, IsHalt}
use Rattle.om_parser_parts.specs.Local.{no_more}
use Rattle.om_parser_parts.specs.Outcomes.{ok, some, ok_is, err_is, bind_ok, bind_err}
use Rattle.om_parser_parts.specs.Reading.{◌>>=◌, choose, Outcome, Reader, syntax, take, take_mark}
use Rattle.om_parser_parts.specs.Reading.{mark_of, mark_at, known}
use Rattle.om_parser_tree.specs.Spelling.{token, mark}
use Rattle.om_parser.proofs.ItemLocal.{lined, Decided, Test, yes, IsGiven, IsGivenAt, IsItemAt}
use Rattle.om_parser.proofs.ItemLocal.{behind}
use Rattle.om_parser.proofs.SeveralLocal.{HangsOnStart, both}

-- ---- items in general

pub empty_item : {A : Type 0} (m n : ℕ) (next : Test) (r : Reader A) → r [] ≡ Err (syntax []) → IsItemAt m next r n []
empty_item m n next r is = record {
  takes = λ x e. let both : ok x ≡ Err (syntax []) = sym e ∙ is in absurd cc;
  halts = λ f e wrong. inr (no_more true f (ap (λ (c : SourceFault). c.at) (err_is f (syntax []) (sym e ∙ is))));
}

-- what is made of an item
abbrev pub made : {A B : Type 0} → (A → B) → Reader A → Reader B
made f r ts = r ts >>= λ x. Ok (f x.0, x.1)

module _ {A B : Type 0} (m n : ℕ) (next : Test) (f : A → B) (r : Reader A) (ts : List Token) where
  abbrev given_at : (x : A × List Token) → IsGiven m next r n ts x → IsGiven m next (made f r) n ts (f x.0, x.1)
  given_at x g = record {
    front = g.front;
    parts = g.parts;
    unended = g.unended;
    ended = g.ended;
    again = λ j t after other is test room far. ap (λ (o : Outcome (A × List Token)). o >>= λ z. Ok (f z.0, z.1))
        (g.again j t after other is test room far);
  }

  given_made : (y : B × List Token) (x : A × List Token) → (f x.0, x.1) ≡ y → IsGiven m next r n ts x
      → IsGiven m next (made f r) n ts y
  given_made y x same g = subst (IsGiven m next (made f r) n ts) same (given_at x g)

  abbrev halt_made : (d : SourceFault) → IsHalt m (λ j. r) (lined n) ts d → IsHalt m (λ j. made f r) (lined n) ts d
  halt_made d h = record {
    front = h.front;
    token = h.token;
    after = h.after;
    parts = h.parts;
    at_place = h.at_place;
    again = λ j other room far. ap (λ (o : Outcome (A × List Token)). o >>= λ z. Ok (f z.0, z.1))
        (h.again j other room far);
  }

  made_fails : (d : SourceFault) → made f r ts ≡ Err d → r ts ≡ Err d
  made_fails d e = elim (bind_err (r ts) _ d e) [
    | inl fails ↦ fails
    | inr x ↦ absurd cc
  ]

  pub made_given : IsGivenAt m next r n ts → IsGivenAt m next (made f r) n ts
  made_given h = record {
    takes = λ y e. let x = bind_ok (r ts) _ y e in given_made y x.0 (ok_is (f x.0.0, x.0.1) y x.2) (h.takes x.0 x.1);
    halts = λ d e wrong. elim (h.halts d (made_fails d e) wrong) [
      | inl k ↦ inl (halt_made d k)
      | inr other ↦ inr other
    ];
  }

  pub made_item : IsItemAt m next r n ts → IsItemAt m next (made f r) n ts
  made_item h = record { takes = takes; halts = halts }
    where
      takes : (y : B × List Token) → made f r ts ≡ Ok y → (g : IsGiven m next (made f r) n ts y) × (0 < length g.front)
          × Decided g.front
      takes y e =
          let x = bind_ok (r ts) _ y e in
          let k = h.takes x.0 x.1 in
          subst (λ (z : B × List Token). (g : IsGiven m next (made f r) n ts z) × (0 < length g.front) × Decided g.front)
          (ok_is (f x.0.0, x.0.1) y x.2) (given_at x.0 k.0, k.1, k.2)

      halts : (d : SourceFault) → made f r ts ≡ Err d → d.code ≡ codes.Syntax
          → ((g : IsHalt m (λ j. made f r) (lined n) ts d) × Decided (g.front ++ g.token ∷ [])) ⊎ IsElsewhere true ts d
      halts d e wrong = elim (h.halts d (made_fails d e) wrong) [
        | inl k ↦ inl (halt_made d k.0, k.1)
        | inr other ↦ inr other
      ]

-- ---- whether a line stands first

kind_nothing : (k : TokenKind) (s : Span) → k ≢ kinds.DirectiveBegin → (us : List Token)
    → line_start (token k s ∷ us) ≡ lines.Nothing
kind_nothing kinds.DirectiveBegin s plain us = absurd (plain refl)
kind_nothing _ s plain us = refl

is_hash : (k : TokenKind) → (k ≡ kinds.DirectiveBegin) ⊎ (k ≢ kinds.DirectiveBegin)
is_hash kinds.DirectiveBegin = inl refl
is_hash _ = inr (λ e. absurd cc)

abbrev pub hashed : Span → List Token → List Token
hashed hash us = token kinds.DirectiveBegin hash ∷ us

-- an item by whether a line stands first
pub by_first : {A : Type 0} (m n : ℕ) (next : Test) (r : Reader A) (t : Token) (us : List Token)
    → Suffices m (lined n) (t ∷ us)
    → ((hash : Span) → Suffices m (lined n) (token kinds.DirectiveBegin hash ∷ us)
    → IsItemAt m next r n (token kinds.DirectiveBegin hash ∷ us))
    → (t.kind ≢ kinds.DirectiveBegin → ((vs : List Token) → line_start (t ∷ vs) ≡ lines.Nothing)
    → IsItemAt m next r n (t ∷ us))
    → IsItemAt m next r n (t ∷ us)
by_first m n next r t us far first second = elim (is_hash t.kind) [
  | inl hash ↦
      let same : token kinds.DirectiveBegin t.span ≡ t = ap (λ (k : TokenKind). token k t.span) (sym hash) in
      subst (λ (u : Token). IsItemAt m next r n (u ∷ us)) same (first t.span (omega (arith, far)))
  | inr plain ↦ second plain (λ vs. kind_nothing t.kind t.span plain vs)
]

mark_hangs : (q : Punctuator) (t : Token) (us vs : List Token) → is_some (take_mark q (t ∷ us))
    ≡ is_some (take_mark q (t ∷ vs))
unfolding take_mark take
mark_hangs q t us vs = go (mark_of q t.kind t.span)
  where
    go : (o : Option Span) → is_some (choose {B = Option (Span × List Token)} o (λ x. some (x, us)) None)
        ≡ is_some (choose {B = Option (Span × List Token)} o (λ x. some (x, vs)) None)
    go (Some s) = refl
    go None = refl

pub part_hangs : HangsOnStart ends_part
part_hangs [] us vs more decided = absurd (omega (arith, more))
part_hangs (t ∷ front) us vs more decided = rw (mark_hangs punctuators.CloseBrace t (front ++ us) (front ++ vs)) (ap
    (λ (b : LineStart). is_some (take_mark punctuators.CloseBrace (t ∷ (front ++ vs))) || is_section_line b)
    (decided us vs))

pub parts_hang : HangsOnStart ends_parts
parts_hang front us vs more decided = ap (λ (b : LineStart). not (is_section_line b)) (decided us vs)

pub yes_hangs : HangsOnStart yes
yes_hangs front us vs more decided = refl

abbrev pub PartEnd : Test
PartEnd = both ends_part yes

abbrev pub RowEnd : Test
RowEnd = both ends_parts PartEnd

-- behind the last part a brace stands
pub brace_stands : (us : List Token) (f : SourceFault) → RowEnd us ≡ true → mark_at punctuators.CloseBrace us ≡ Err f → ⊥
unfolding mark_at
brace_stands us f ended e = go (take_mark punctuators.CloseBrace us) (at_section us) ended e
  where
    go : (o : Option (Span × List Token)) (b : Bool) → not b && ((is_some o || b) && true) ≡ true → known us o ≡ Err f → ⊥
    go (Some x) b ended e = absurd cc
    go None true ended e = absurd cc
    go None false ended e = absurd cc

pub brace_ends : (s : Span) (us : List Token) → RowEnd (mark punctuators.CloseBrace s ∷ us) ≡ true
brace_ends s us = rw (take_mark_again punctuators.CloseBrace s us) refl
