-- Matter of proofs, for om_parser too: which tokens, items and parts are read as far as the next token.
pub use Rattle.om_parser_parts.specs.Steps.{Measure, Family, Form, pair, triple, SameRoom, Suffices, IsTaken, IsHalt}
pub use Rattle.om_parser_parts.specs.Steps.{IsLocalAt, IsLocal, unended_both, unended_one, room_before, room_now}
pub use Rattle.om_parser_parts.specs.Steps.{elsewhere_behind, no_more, le_same, free_room, taken_again, done, finished}
pub use Rattle.om_parser_parts.specs.Steps.{bind_to, bind, weaken, IsTaker, misses_again, either, expected, stuck, deep}
use Rattle.std.proofs.Common.{◌≡◌, ℕ, zero, suc, ◌+◌, ◌<◌, ◌≤◌, List, [], ◌∷◌, ◌++◌, length, Option, None, Ok, Err}
use Rattle.std.proofs.Common.{refl, sym, ap, ◌∙◌, arith, length-append, ◌⊎◌, inl, inr}
use Rattle.std.proofs.Common.{Bool, true, cond}
use Rattle.std.specs.Prelude.{nat_le}
use Rattle.om_lexer.specs.declared.fault.FaultCode.TheVariants as codes
use Rattle.om_lexer.specs.declared.fault.SourceFault.{SourceFault}
use Rattle.om_lexer.specs.declared.token.Span.{Span}
use Rattle.om_lexer.specs.declared.token.Token.{Token}
use Rattle.om_lexer.specs.declared.token.Keyword.{Keyword}
use Rattle.om_lexer.specs.declared.token.Punctuator.{Punctuator}
use Rattle.om_lexer.specs.declared.token.TokenKind.{TokenKind}
use Rattle.om_lexer.specs.declared.token.TokenKind.TheVariants as kinds
use Rattle.om_parser_parts.specs.ExpressionReading.{within}
use Rattle.om_parser_parts.specs.Halting.{IsElsewhere}
use Rattle.om_parser_parts.specs.Outcomes.{some, err_is, choose_cases, either_way, some_is}
use Rattle.om_parser_parts.specs.Loops.{Ender}
use Rattle.om_parser_parts.specs.Reading.{◌>>=◌, Outcome, Reader, choose, syntax, too_deep, take, mark_of}
use Rattle.om_parser_parts.specs.Reading.{word_of, name_of, number_of, take_mark, take_word, take_name, take_number, mark_at}
use Rattle.om_parser_parts.specs.Reading.{word_at, name_at, number_at}
use Rattle.om_parser_parts.specs.PartReading.{Parts, parts, global_at}
use Rattle.om_parser_parts.specs.Repetition.{until}
use Rattle.om_pragma.specs.declared.clause.Name as names
use Rattle.om_pragma.specs.declared.tree.Directive.{Directive}
use Rattle.om_pragma.specs.Spelling.{directive_spelling}
use Rattle.om_parser_tree.specs.Limits.{Limits}
use Rattle.om_parser_tree.specs.Spelling.{token, expression_spelling}
use Rattle.om_parser_tree.specs.Tree.{ExpressionTree}

-- within the limit of an expression
pub limited : {Y : Type 0} (m : ℕ) (s : Form Y) (at : Span) (r : Family Y) (i : Measure) → IsLocal m s r i
    → IsLocal m s (λ j ts. within j.beyond at ts (r j ts)) i
unfolding within
limited {Y} m s at r i h ts far = record { takes = takes; halts = halts }
  where
    Whole : Family Y
    Whole = λ j ts. cond (nat_le j.beyond (length ts)) (r j ts) (Err (too_deep at))

    inside : (front us vs : List Token) (j : Measure) → ts ≡ front ++ us → SameRoom i j us vs
        → nat_le i.beyond (length ts) ≡ true → Whole j (front ++ vs) ≡ r j (front ++ vs)
    inside front us vs j parts room is =
        let same = room_now (front ++ us) (front ++ vs) i j (room_before front us vs i j room) in
        let there : nat_le j.beyond (length (front ++ vs)) ≡ true = sym same ∙ ap (λ (w : List Token). nat_le i.beyond
        (length w)) (sym parts) ∙ is in
        ap (λ (b : Bool). cond b (r j (front ++ vs)) (Err (too_deep at))) there

    takes : (y : Y) → Whole i ts ≡ Ok y → IsTaken m s Whole i ts y
    takes y e = elim (either_way (nat_le i.beyond (length ts)) (r i ts) (Err (too_deep at)) (Ok y) e) [
      | inl g ↦
          let t = (h ts far).takes y g.1 in
          record {
            front = t.front;
            parts = t.parts;
            unended = t.unended;
            again = λ j v after other is room enough. inside t.front (v ∷ after) (v ∷ other) j
                (t.parts ∙ ap (λ (w : List Token). t.front ++ w) is) room g.0 ∙ t.again j v after other is room enough;
          }
      | inr g ↦ absurd cc
    ]

    halts : (f : SourceFault) → Whole i ts ≡ Err f → f.code ≡ codes.Syntax → IsHalt m Whole i ts f ⊎ IsElsewhere i.lines ts f
    halts f e syntax = elim (either_way (nat_le i.beyond (length ts)) (r i ts) (Err (too_deep at)) (Err f) e) [
      | inl g ↦ elim ((h ts far).halts f g.1 syntax) [
        | inl t ↦ inl (record {
          front = t.front;
          token = t.token;
          after = t.after;
          parts = t.parts;
          at_place = t.at_place;
          again = λ j other room enough. inside t.front (t.token ∷ t.after) (t.token ∷ other) j t.parts room g.0
              ∙ t.again j other room enough;
        })
        | inr other ↦ inr other
      ]
      | inr g ↦ let code = ap (λ (g : SourceFault). g.code) (err_is (too_deep at) f g.1) in absurd cc
    ]

-- the same reader, written otherwise
pub alike : {Y : Type 0} (m : ℕ) (s : Form Y) (r q : Family Y) (i : Measure)
    → ((ts : List Token) → r i ts ≡ q i ts)
    → ((j : Measure) (ts : List Token) → Suffices m j ts → 0 < length ts → r j ts ≡ q j ts)
    → IsLocal m s q i → IsLocal m s r i
alike {Y} m s r q i here is h ts far = record {
  takes = λ y e. let t = (h ts far).takes y (sym (here ts) ∙ e) in record {
    front = t.front;
    parts = t.parts;
    unended = t.unended;
    again = λ j v after other first room enough. is j (t.front ++ v ∷ other) enough (some t.front v other)
        ∙ t.again j v after other first room enough;
  };
  halts = λ f e wrong. elim ((h ts far).halts f (sym (here ts) ∙ e) wrong) [
    | inl t ↦ inl (record {
      front = t.front;
      token = t.token;
      after = t.after;
      parts = t.parts;
      at_place = t.at_place;
      again = λ j other room enough. is j (t.front ++ t.token ∷ other) enough (some t.front t.token other)
          ∙ t.again j other room enough;
    })
    | inr other ↦ inr other
  ];
}
  where
    some : (front : List Token) (t : Token) (us : List Token) → 0 < length (front ++ t ∷ us)
    some front t us = omega (arith, length-append front (t ∷ us))

-- ---- tokens

pub take_taker : {A : Type 0} (f : TokenKind → Span → Option A) → ((s : Span) → f kinds.End s ≡ None)
    → IsTaker (take (λ t. f t.kind t.span))
unfolding take
take_taker {A} f no_end = record {
  nothing = refl;
  takes = λ t ts x e. elim (choose_cases (f t.kind t.span) (λ y. some (y, ts)) None (some x) e) [
    | inl g ↦
        let same : (g.0, ts) ≡ x = some_is (g.0, ts) x g.2 in (
          ap (λ (y : A × List Token). y.1) (sym same),
          λ is. let none : f t.kind t.span ≡ None = ap (λ (k : TokenKind). f k t.span) is ∙ no_end t.span in absurd cc,
          λ us. ap (λ (o : Option A). choose o (λ y. some (y, us)) None) g.1
              ∙ ap (λ (y : A × List Token). some (y.0, us)) same,
        )
    | inr g ↦ absurd cc
  ];
  misses = λ t ts us e. elim (choose_cases (f t.kind t.span) (λ y. some (y, ts)) None None e) [
    | inl g ↦ absurd cc
    | inr g ↦ ap (λ (o : Option A). choose o (λ y. some (y, us)) None) g.0
  ];
}

pub mark_taker : (p : Punctuator) → IsTaker (take_mark p)
unfolding take_mark
mark_taker p = take_taker (mark_of p) (λ s. refl)

pub word_taker : (w : Keyword) → IsTaker (take_word w)
unfolding take_word
word_taker w = take_taker (word_of w) (λ s. refl)

pub name_taker : IsTaker take_name
unfolding take_name
name_taker = take_taker name_of (λ s. refl)

pub number_taker : IsTaker take_number
unfolding take_number
number_taker = take_taker number_of (λ s. refl)

pub mark_local : (m : ℕ) (p : Punctuator) (i : Measure) → IsLocal m pair (λ j ts. mark_at p ts) i
unfolding mark_at
mark_local m p i = expected m (take_mark p) i (mark_taker p)

pub word_local : (m : ℕ) (w : Keyword) (i : Measure) → IsLocal m pair (λ j ts. word_at w ts) i
unfolding word_at
word_local m w i = expected m (take_word w) i (word_taker w)

pub name_local : (m : ℕ) (i : Measure) → IsLocal m pair (λ j ts. name_at ts) i
unfolding name_at
name_local m i = expected m take_name i name_taker

pub number_local : (m : ℕ) (i : Measure) → IsLocal m pair (λ j ts. number_at ts) i
unfolding number_at
number_local m i = expected m take_number i number_taker

-- ---- items up to one that ends them

-- two ways to go on are one where they give the same of what was read
pub bind_same : {A B : Type 0} (r : Outcome A) (f g : A → Outcome B) → ((x : A) → r ≡ Ok x → f x ≡ g x)
    → (r >>= f) ≡ (r >>= g)
bind_same (Ok x) f g same = same x refl
bind_same (Err e) f g same = refl

abbrev pub Consumes : {A : Type 0} → Reader A → Type 0
Consumes {A} r = (ts : List Token) (x : A × List Token) → r ts ≡ Ok x → length x.1 < length ts

-- once more where the first item is read
abbrev until_once : {A : Type 0} → Ender → Reader A → List Token → Outcome (List A × Span × List Token)
until_once ender item ts = choose (ender ts)
    (λ e. Ok ([], e.0, e.1))
    (item ts >>= λ a. until ender item (length a.1) a.1 >>= λ b. Ok (a.0 ∷ b.0, b.1, b.2))

until_enough : {A : Type 0} (ender : Ender) (item : Reader A) → ender [] ≡ None → Consumes item → (k n : ℕ)
    (ts : List Token) → length ts ≤ k → length ts ≤ n → until ender item k ts ≡ until ender item n ts
unfolding until
until_enough ender item none less zero zero ts a b = refl
until_enough ender item none less zero (suc n) [] a b = rw none (bind_same (item []) _ _
    (λ x read. absurd (omega (arith, less [] x read))))
until_enough ender item none less zero (suc n) (t ∷ ts) a b = absurd (omega (arith, a))
until_enough ender item none less (suc k) zero [] a b = rw none (bind_same (item []) _ _
    (λ x read. absurd (omega (arith, less [] x read))))
until_enough ender item none less (suc k) zero (t ∷ ts) a b = absurd (omega (arith, b))
until_enough ender item none less (suc k) (suc n) ts a b = ap (choose (ender ts) _) (bind_same (item ts) _ _
    (λ x read. ap (λ o. o >>= λ b. Ok (x.0 ∷ b.0, b.1, b.2)) (until_enough ender item none less k n x.1
    (omega (arith, a, less ts x read)) (omega (arith, b, less ts x read)))))

until_step : {A : Type 0} (ender : Ender) (item : Reader A) → ender [] ≡ None → Consumes item → (ts : List Token)
    → until ender item (length ts) ts ≡ until_once ender item ts
unfolding until
until_step ender item none less ts = until_enough ender item none less (length ts) (suc (length ts)) ts (omega arith)
    (omega arith) ∙ ap (choose (ender ts) _) (bind_same (item ts) _ _
    (λ x read. ap (λ o. o >>= λ b. Ok (x.0 ∷ b.0, b.1, b.2)) (until_enough ender item none less (length ts)
    (length x.1) x.1 (omega (arith, less ts x read)) (omega arith))))

pub until_local : {A : Type 0} (ender : Ender) (item : Measure → Reader A) (i : Measure) → IsTaker ender
    → ((j : Measure) → Consumes (item j)) → (m : ℕ) → ((n : ℕ) → m ≤ n → IsLocal n pair item i)
    → IsLocal m triple (λ j ts. until ender (item j) (length ts) ts) i
until_local {A} ender item i taker less m items = go (suc i.turns) m items (omega arith)
  where
    go : (d m : ℕ) → ((n : ℕ) → m ≤ n → IsLocal n pair item i) → i.turns < d + m
        → IsLocal m triple (λ j ts. until ender (item j) (length ts) ts) i
    go zero m items lt ts far = absurd (omega (arith, lt, far))
    go (suc d) m items lt ts far = alike m triple (λ j ts. until ender (item j) (length ts) ts) (λ j ts. until_once ender (item j) ts) i
        (λ ts. until_step ender (item i) taker.nothing (less i) ts)
        (λ j ts far some. until_step ender (item j) taker.nothing (less j) ts)
        (either m triple ender (λ j e. Ok ([], e.0, e.1))
        (λ j ts. item j ts >>= λ a. until ender (item j) (length a.1) a.1 >>= λ b. Ok (a.0 ∷ b.0, b.1, b.2)) i taker
        (λ s. finished (suc m) [] s i)
        (bind_to m (suc m) pair triple item
        (λ j a. until ender (item j) (length a.1) a.1 >>= λ b. Ok (a.0 ∷ b.0, b.1, b.2)) i (items m (omega arith))
        (λ a. bind (suc m) triple triple (λ j ts. until ender (item j) (length ts) ts)
        (λ j b. Ok (a.0 ∷ b.0, b.1, b.2)) i (go d (suc m) (λ n le. items n (omega (arith, le))) (omega (arith, lt)))
        (λ b. finished (suc m) (a.0 ∷ b.0) b.1 i))
        (λ ts y h e. omega (arith, less i ts y e)))) ts far

-- ---- the readers of the parts of statements

-- in one line or another, or in none
pub record ArePartsLocal (p : Parts) : Type 0 where
  pub expression : (m : ℕ) (i : Measure) → IsLocal m pair (λ j. p.expression) i
  pub enclosed : (m : ℕ) (i : Measure) → IsLocal m pair (λ j. p.enclosed) i
  pub declaration : (int : Span) (m : ℕ) (i : Measure) → IsLocal m pair (λ j. p.declaration int) i
  pub enclosed_declaration : (int : Span) (m : ℕ) (i : Measure) → IsLocal m pair (λ j. p.enclosed_declaration int) i
  -- a line is read whatever stands behind it
  pub line_before : (ts : List Token) (x : Directive ExpressionTree × List Token) → p.line ts ≡ Ok x
      → (us : List Token) → p.line (directive_spelling expression_spelling x.0 ++ us) ≡ Ok (x.0, us)
  pub line_halts : (hash : Span) (us : List Token) (f : SourceFault)
      → p.line (token kinds.DirectiveBegin hash ∷ us) ≡ Err f → f.code ≡ codes.Syntax
      → IsElsewhere true (token kinds.DirectiveBegin hash ∷ us) f

abbrev pub PartsAreLocal : Type 0
PartsAreLocal = (l : Limits) → 1 ≤ l.nested → ArePartsLocal (parts l)

abbrev pub GlobalsAreLocal : Type 0
GlobalsAreLocal = (int : Span) (n : names.Name) (m : ℕ) (i : Measure) → IsLocal m pair (λ j. global_at int n) i
