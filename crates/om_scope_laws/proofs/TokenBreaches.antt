-- Breaches that stand at tokens, in the order of these, and by their numbers at one token.
use Rattle.std.proofs.Common.{◌≡◌, ◌≤◌, ◌<◌, ℕ, Bool, true, false, List, [], ◌∷◌, ◌++◌, refl, sym, ap, ◌∙◌, subst}
use Rattle.std.proofs.Common.{arith}
use Rattle.std.proofs.Common.{append-nil, append_assoc}
use Rattle.std.specs.Prelude.{nat_lt, nat_le, nat_eq, ◌&&◌, ◌||◌, if◌then◌else◌}
use Rattle.std.proofs.lemmas.Bool.{leb-true, leb-false, lt-ltb, le-ltb, le-leb, eqb-true, eq-eqb}
use Rattle.om_lexer.specs.declared.fault.FaultCode.{FaultCode}
use Rattle.om_lexer.specs.declared.fault.SourceFault.{SourceFault}
use Rattle.om_lexer.specs.declared.token.Token.{Token}
use Rattle.om_lexer.specs.declared.token.TokenKind.{TokenKind}
use Rattle.om_lexer.specs.declared.token.TokenKind.TheVariants as kinds
use Rattle.om_lexer.specs.Faults.{number_of}
use Rattle.om_lexer.specs.Order.{AreInOrder, HasWidth}
use Rattle.om_scope_rules.specs.Faults.{breach_if, goes_first, with_breach}

-- ---- tokens, one behind the other

pub wide : (k : TokenKind) (from to : ℕ) → HasWidth k from to → from ≤ to
wide kinds.DirectiveEnd from to h = omega arith
wide kinds.End from to h = omega arith
wide kinds.DirectiveBegin from to h = omega arith
wide (kinds.Name text) from to h = omega arith
wide (kinds.Constant value) from to h = omega arith
wide (kinds.Keyword k) from to h = omega arith
wide (kinds.Punctuator p) from to h = omega arith
wide (kinds.Text characters) from to h = omega arith

abbrev pub Ordered : ℕ → List Token → Type 0
Ordered from [] = Unit {0}
Ordered from (t ∷ ts) = (from ≤ t.span.start) × HasWidth t.kind t.span.start t.span.end × Ordered t.span.end ts

pub ordered_source : (source : List ℕ) (from : ℕ) (ts : List Token) → AreInOrder source from ts → Ordered from ts
unfolding AreInOrder
ordered_source source from [] h = tt
ordered_source source from (t ∷ ts) h = (h.0, h.1.width, ordered_source source t.span.end ts h.2)

ordered_front : (from : ℕ) (front back : List Token) → Ordered from (front ++ back) → Ordered from front
ordered_front from [] back h = tt
ordered_front from (t ∷ front) back h = (h.0, h.1, ordered_front t.span.end front back h.2)

pub ordered_back : (from : ℕ) (front back : List Token) → Ordered from (front ++ back)
    → (to : ℕ) × (from ≤ to) × Ordered to back
ordered_back from [] back h = (from, omega arith, h)
ordered_back from (t ∷ front) back h =
    let rest = ordered_back t.span.end front back h.2 in
    let width = wide t.kind t.span.start t.span.end h.1 in
    let first = h.0 in
    let more = rest.1 in
    (rest.0, omega (arith, first, width, more), rest.2)

-- ---- breaches at one token

-- each at this byte, with no lower number than the one before it, and the first with no lower one than this
abbrev pub RiseAt : (start least : ℕ) → List SourceFault → Type 0
RiseAt start least [] = Unit {0}
RiseAt start least (b ∷ bs) = (b.at ≡ start) × (least ≤ number_of b.code) × RiseAt start (number_of b.code) bs

-- a token with a width
abbrev pub IsWide : TokenKind → Type 0
IsWide kinds.DirectiveEnd = ⊥
IsWide kinds.End = ⊥
IsWide _ = Unit {0}

abbrev pub StandAt : Token → List SourceFault → Type 0
StandAt t [] = Unit {0}
StandAt t (b ∷ bs) = IsWide t.kind × RiseAt t.span.start 0 (b ∷ bs)

pub stands : (t : Token) (here : List SourceFault) → IsWide t.kind → RiseAt t.span.start 0 here → StandAt t here
stands t [] w r = tt
stands t (b ∷ bs) w r = (w, r)

pub lower : (start least most : ℕ) (bs : List SourceFault) → least ≤ most → RiseAt start most bs → RiseAt start least bs
lower start least most [] le h = tt
lower start least most (b ∷ bs) le h = let first = h.1 in (h.0, omega (arith, le, first), h.2)

-- the same, with no higher number than this
abbrev pub Rises : (start least most : ℕ) → List SourceFault → Type 0
Rises start least most [] = least ≤ most
Rises start least most (b ∷ bs) = (b.at ≡ start) × (least ≤ number_of b.code) × Rises start (number_of b.code) most bs

pub rise_at : (start least most : ℕ) (bs : List SourceFault) → Rises start least most bs → RiseAt start least bs
rise_at start least most [] h = tt
rise_at start least most (b ∷ bs) h = (h.0, h.1, rise_at start (number_of b.code) most bs h.2)

-- one rule
pub one : (broken : Bool) (code : FaultCode) (start least most : ℕ) → least ≤ number_of code → number_of code ≤ most
    → Rises start least most (breach_if broken code start)
one true code start least most le more = (refl, le, more)
one false code start least most le more = omega (arith, le, more)

from_lower : (start least other most : ℕ) (bs : List SourceFault) → least ≤ other → Rises start other most bs
    → Rises start least most bs
from_lower start least other most [] le h = omega (arith, le, h)
from_lower start least other most (b ∷ bs) le h = let first = h.1 in (h.0, omega (arith, le, first), h.2)

-- further rules behind it
pub rise_next : (start least middle most : ℕ) (xs ys : List SourceFault) → Rises start least middle xs
    → Rises start middle most ys → Rises start least most (xs ++ ys)
rise_next start least middle most [] ys h g = from_lower start least middle most ys h g
rise_next start least middle most (x ∷ xs) ys h g =
    (h.0, h.1, rise_next start (number_of x.code) middle most xs ys h.2 g)

-- ---- breaches among tokens

abbrev pub Along : List SourceFault → List Token → Type 0
Along bs [] = bs ≡ []
Along bs (t ∷ ts) = (here : List SourceFault) × (rest : List SourceFault) × (bs ≡ here ++ rest) × StandAt t here
    × Along rest ts

along_none : (ts : List Token) → Along [] ts
along_none [] = refl
along_none (t ∷ ts) = ([], [], refl, tt, along_none ts)

along_before : (bs : List SourceFault) (front back : List Token) → Along bs front → Along bs (front ++ back)
along_before bs [] back h = subst (λ z. Along z back) (sym h) (along_none back)
along_before bs (t ∷ front) back h = (h.0, h.1, h.2, h.3, along_before h.1 front back h.4)

along_together : (bs cs : List SourceFault) (front back : List Token) → Along bs front → Along cs back
    → Along (bs ++ cs) (front ++ back)
along_together bs cs [] back h more = subst (λ z. Along (z ++ cs) back) (sym h) more
along_together bs cs (t ∷ front) back h more = (
  h.0,
  h.1 ++ cs,
  ap (λ z. z ++ cs) h.2 ∙ append_assoc h.0 h.1 cs,
  h.3,
  along_together h.1 cs front back h.4 more,
)

-- where these tokens stand one behind the other, the breaches stand at them
pub record Among (bs : List SourceFault) (ts : List Token) : Type 0 where
  pub along : (from : ℕ) → Ordered from ts → Along bs ts

pub none : (ts : List Token) → Among [] ts
none ts = record { along = λ from o. along_none ts }

pub further : (bs : List SourceFault) (t : Token) (ts : List Token) → Among bs ts → Among bs (t ∷ ts)
further bs t ts h = record { along = λ from o. ([], bs, refl, tt, h.along t.span.end o.2) }

pub behind : (bs : List SourceFault) (front back : List Token) → Among bs back → Among bs (front ++ back)
behind bs [] back h = h
behind bs (t ∷ front) back h = further bs t (front ++ back) (behind bs front back h)

pub before : (bs : List SourceFault) (front back : List Token) → Among bs front → Among bs (front ++ back)
before bs front back h = record {
  along = λ from o. along_before bs front back (h.along from (ordered_front from front back o));
}

pub together : (bs cs : List SourceFault) (front back : List Token) → Among bs front → Among cs back
    → Among (bs ++ cs) (front ++ back)
together bs cs front back h more = record {
  along = λ from o.
      let rest = ordered_back from front back o in
      along_together bs cs front back (h.along from (ordered_front from front back o)) (more.along rest.0 rest.2);
}

-- at the first token, and then at those behind it
pub first : (here bs : List SourceFault) (t : Token) (ts : List Token) → StandAt t here → Among bs ts
    → Among (here ++ bs) (t ∷ ts)
first here bs t ts stand h = record { along = λ from o. (here, bs, refl, stand, h.along t.span.end o.2) }

-- at the first token alone
pub first_alone : (here : List SourceFault) (t : Token) (ts : List Token) → StandAt t here → Among here (t ∷ ts)
first_alone here t ts stand = record {
  along = λ from o. (here, [], sym (append-nil here), stand, along_none ts);
}

pub chosen : (b : Bool) (xs ys : List SourceFault) (ts : List Token) → Among xs ts → Among ys ts
    → Among (if b then xs else ys) ts
chosen true xs ys ts h g = h
chosen false xs ys ts h g = g

-- ---- a further breach at the first token

-- each at this byte or further on
abbrev From : ℕ → List SourceFault → Type 0
From start [] = Unit {0}
From start (b ∷ bs) = (start ≤ b.at) × From start bs

from_more : (start other : ℕ) (bs : List SourceFault) → start ≤ other → From other bs → From start bs
from_more start other [] le h = tt
from_more start other (b ∷ bs) le h = let at = h.0 in (omega (arith, le, at), from_more start other bs le h.1)

from_join : (start : ℕ) (xs ys : List SourceFault) → From start xs → From start ys → From start (xs ++ ys)
from_join start [] ys h g = g
from_join start (x ∷ xs) ys h g = (h.0, from_join start xs ys h.1 g)

rise_from : (start least : ℕ) (bs : List SourceFault) → RiseAt start least bs → From start bs
rise_from start least [] h = tt
rise_from start least (b ∷ bs) h = let at = h.0 in (omega (arith, at), rise_from start (number_of b.code) bs h.2)

stand_from : (t : Token) (here : List SourceFault) → StandAt t here → From t.span.start here
stand_from t [] h = tt
stand_from t (b ∷ bs) h = rise_from t.span.start 0 (b ∷ bs) h.1

along_from : (from : ℕ) (bs : List SourceFault) (ts : List Token) → Ordered from ts → Along bs ts → From from bs
along_from from bs [] o h = subst (λ z. From from z) (sym h) tt
along_from from bs (t ∷ ts) o h =
    let width = wide t.kind t.span.start t.span.end o.1 in
    let start = o.0 in
    subst (λ z. From from z) (sym h.2)
    (from_join from h.0 h.1 (from_more from t.span.start h.0 start (stand_from t h.0 h.3))
    (from_more from t.span.end h.1 (omega (arith, start, width)) (along_from t.span.end h.1 ts o.2 h.4)))

-- behind a token with a width
pub is_wide : (k : TokenKind) (from to : ℕ) → IsWide k → HasWidth k from to → from < to
is_wide kinds.DirectiveEnd from to w h = absurd w
is_wide kinds.End from to w h = absurd w
is_wide kinds.DirectiveBegin from to w h = h
is_wide (kinds.Name text) from to w h = h
is_wide (kinds.Constant value) from to w h = h
is_wide (kinds.Keyword k) from to w h = h
is_wide (kinds.Punctuator p) from to w h = h
is_wide (kinds.Text characters) from to w h = h

-- what stands further on does not go before it
later_behind : (b c : SourceFault) → b.at < c.at → goes_first c b ≡ false
later_behind b c lt =
    let no_less : nat_lt c.at b.at ≡ false = le-ltb c.at b.at (omega (arith, lt)) in
    let differs : nat_eq c.at b.at ≡ false = unequal (nat_eq c.at b.at) refl in
    ap (λ z. z || (nat_eq c.at b.at && nat_le (number_of c.code) (number_of b.code))) no_less
    ∙ ap (λ z. false || (z && nat_le (number_of c.code) (number_of b.code))) differs
  where
    unequal : (z : Bool) → nat_eq c.at b.at ≡ z → z ≡ false
    unequal true e = let same : c.at ≡ b.at = eqb-true c.at b.at e in absurd (omega (arith, lt, same))
    unequal false e = refl

before_later : (b : SourceFault) (rest : List SourceFault) (end : ℕ) → b.at < end → From end rest
    → with_breach b rest ≡ b ∷ rest
before_later b [] end lt h = refl
before_later b (c ∷ cs) end lt h =
    let at = h.0 in
    ap (λ z. if z then c ∷ with_breach b cs else b ∷ c ∷ cs) (later_behind b c (omega (arith, lt, at)))

-- of two at one byte the numbers decide
same_place : (c b : SourceFault) → c.at ≡ b.at → goes_first c b ≡ nat_le (number_of c.code) (number_of b.code)
same_place c b same =
    let no_less : nat_lt c.at b.at ≡ false = le-ltb c.at b.at (omega (arith, same)) in
    let equal : nat_eq c.at b.at ≡ true = eq-eqb c.at b.at same in
    ap (λ z. z || (nat_eq c.at b.at && nat_le (number_of c.code) (number_of b.code))) no_less
    ∙ ap (λ z. false || (z && nat_le (number_of c.code) (number_of b.code))) equal

abbrev Inserted : SourceFault → ℕ → ℕ → (here rest : List SourceFault) → Type 0
Inserted b start least here rest = (new : List SourceFault) × (with_breach b (here ++ rest) ≡ new ++ rest)
    × RiseAt start least new

insert_here : (b : SourceFault) (start least end : ℕ) (here rest : List SourceFault) → b.at ≡ start → start < end
    → least ≤ number_of b.code → RiseAt start least here → From end rest → Inserted b start least here rest
insert_here b start least end [] rest at lt le h g =
    (b ∷ [], before_later b rest end (omega (arith, at, lt)) g, (at, le, tt))
insert_here b start least end (c ∷ here) rest at lt le h g =
    tested (λ below. insert_here b start (number_of c.code) end here rest at lt below h.2 g) (goes_first c b)
    (nat_le (number_of c.code) (number_of b.code)) refl (same_place c b (h.0 ∙ sym at)) refl
  where
    tested : (number_of c.code ≤ number_of b.code → Inserted b start (number_of c.code) here rest)
        → (first no_more : Bool) → goes_first c b ≡ first
        → goes_first c b ≡ nat_le (number_of c.code) (number_of b.code)
        → nat_le (number_of c.code) (number_of b.code) ≡ no_more
        → Inserted b start least (c ∷ here) rest
    tested behind_it true true e same n =
        let more = behind_it (leb-true (number_of c.code) (number_of b.code) n) in (
          c ∷ more.0,
          ap (λ z. if z then c ∷ with_breach b (here ++ rest) else b ∷ c ∷ (here ++ rest)) e
              ∙ ap (λ z. c ∷ z) more.1,
          (h.0, h.1, more.2),
        )
    tested behind_it false false e same n =
        let above = leb-false (number_of c.code) (number_of b.code) n in (
          b ∷ c ∷ here,
          ap (λ z. if z then c ∷ with_breach b (here ++ rest) else b ∷ c ∷ (here ++ rest)) e,
          (at, le, (h.0, omega (arith, above), h.2)),
        )
    tested behind_it true false e same n = absurd (let no : true ≡ false = sym e ∙ same ∙ n in cc)
    tested behind_it false true e same n = absurd (let no : false ≡ true = sym e ∙ same ∙ n in cc)

rise_of : (t : Token) (here : List SourceFault) → StandAt t here → RiseAt t.span.start 0 here
rise_of t [] h = tt
rise_of t (b ∷ bs) h = h.1

pub inserted : (b : SourceFault) (bs : List SourceFault) (t : Token) (ts : List Token) → b.at ≡ t.span.start
    → IsWide t.kind → Among bs (t ∷ ts) → Among (with_breach b bs) (t ∷ ts)
inserted b bs t ts at w h = record {
  along = λ from o.
      let a = h.along from o in
      let lt = is_wide t.kind t.span.start t.span.end w o.1 in
      let new = insert_here b t.span.start 0 t.span.end a.0 a.1 at lt (omega arith) (rise_of t a.0 a.3)
      (along_from t.span.end a.1 ts o.2 a.4) in
      (new.0, a.1, ap (λ z. with_breach b z) a.2 ∙ new.1, stands t new.0 w new.2, a.4);
}

-- ---- the first is the least

-- it goes before each of these
abbrev pub GoesBefore : SourceFault → List SourceFault → Type 0
GoesBefore b [] = Unit {0}
GoesBefore b (c ∷ cs) = (goes_first b c ≡ true) × GoesBefore b cs

earlier_first : (b c : SourceFault) → b.at < c.at → goes_first b c ≡ true
earlier_first b c lt =
    ap (λ z. z || (nat_eq b.at c.at && nat_le (number_of b.code) (number_of c.code))) (lt-ltb b.at c.at lt)

lower_first : (b c : SourceFault) → b.at ≡ c.at → number_of b.code ≤ number_of c.code → goes_first b c ≡ true
lower_first b c same le = same_place b c same ∙ le-leb (number_of b.code) (number_of c.code) le

before_from : (b : SourceFault) (end : ℕ) (bs : List SourceFault) → b.at < end → From end bs → GoesBefore b bs
before_from b end [] lt h = tt
before_from b end (c ∷ cs) lt h =
    let at = h.0 in (earlier_first b c (omega (arith, lt, at)), before_from b end cs lt h.1)

before_rising : (b : SourceFault) (start least : ℕ) (bs rest : List SourceFault) → b.at ≡ start
    → number_of b.code ≤ least → RiseAt start least bs → GoesBefore b rest → GoesBefore b (bs ++ rest)
before_rising b start least [] rest at le h g = g
before_rising b start least (c ∷ cs) rest at le h g =
    let first = h.1 in
    let more : number_of b.code ≤ number_of c.code = omega (arith, le, first) in
    (lower_first b c (at ∙ sym h.0) more, before_rising b start (number_of c.code) cs rest at more h.2 g)

-- the first of them goes before all
abbrev pub IsLed : List SourceFault → Type 0
IsLed [] = Unit {0}
IsLed (b ∷ bs) = GoesBefore b (b ∷ bs)

itself : (b : SourceFault) → goes_first b b ≡ true
itself b = lower_first b b refl (omega arith)

led_along : (from : ℕ) (bs : List SourceFault) (ts : List Token) → Ordered from ts → Along bs ts → IsLed bs
led_along from bs [] o h = subst IsLed (sym h) tt
led_along from bs (t ∷ ts) o h =
    subst IsLed (sym h.2) (led (λ rest a. led_along t.span.end rest ts o.2 a) h.0 h.1 h.3 h.4)
  where
    led : ((rest : List SourceFault) → Along rest ts → IsLed rest) → (here rest : List SourceFault) → StandAt t here
        → Along rest ts → IsLed (here ++ rest)
    led behind_it [] rest s a = behind_it rest a
    led behind_it (b ∷ here) rest s a =
        let lt = is_wide t.kind t.span.start t.span.end s.0 o.1 in
        let at = s.1.0 in (
          itself b,
          before_rising b t.span.start (number_of b.code) here rest s.1.0 (omega arith) s.1.2
              (before_from b t.span.end rest (omega (arith, at, lt)) (along_from t.span.end rest ts o.2 a)),
        )

-- ---- a last one, at a token behind them

-- each before this byte
abbrev Below : ℕ → List SourceFault → Type 0
Below end [] = Unit {0}
Below end (b ∷ bs) = (b.at < end) × Below end bs

below_join : (end : ℕ) (xs ys : List SourceFault) → Below end xs → Below end ys → Below end (xs ++ ys)
below_join end [] ys h g = g
below_join end (x ∷ xs) ys h g = (h.0, below_join end xs ys h.1 g)

rise_below : (start least end : ℕ) (bs : List SourceFault) → start < end → RiseAt start least bs → Below end bs
rise_below start least end [] lt h = tt
rise_below start least end (b ∷ bs) lt h =
    let at = h.0 in (omega (arith, at, lt), rise_below start (number_of b.code) end bs lt h.2)

stand_below : (t : Token) (end : ℕ) (here : List SourceFault) → HasWidth t.kind t.span.start t.span.end
    → t.span.end ≤ end → StandAt t here → Below end here
stand_below t end [] width le h = tt
stand_below t end (b ∷ bs) width le h =
    let lt = is_wide t.kind t.span.start t.span.end h.0 width in
    rise_below t.span.start 0 end (b ∷ bs) (omega (arith, lt, le)) h.1

below_along : (from : ℕ) (bs : List SourceFault) (ts : List Token) (last : Token) → Ordered from (ts ++ last ∷ [])
    → Along bs ts → Below last.span.start bs
below_along from bs [] last o h = subst (λ z. Below last.span.start z) (sym h) tt
below_along from bs (t ∷ ts) last o h =
    let behind = ordered_back t.span.end ts (last ∷ []) o.2 in
    let le = behind.1 in
    let start = behind.2.0 in
    subst (λ z. Below last.span.start z) (sym h.2)
    (below_join last.span.start h.0 h.1 (stand_below t last.span.start h.0 o.1 (omega (arith, le, start)) h.3)
    (below_along t.span.end h.1 ts last o.2 h.4))

joined : (b : SourceFault) (xs cs : List SourceFault) → GoesBefore b xs → GoesBefore b cs → GoesBefore b (xs ++ cs)
joined b [] cs h g = g
joined b (x ∷ xs) cs h g = (h.0, joined b xs cs h.1 g)

led_join : (bs cs : List SourceFault) (end : ℕ) → IsLed bs → Below end bs → From end cs → IsLed cs → IsLed (bs ++ cs)
led_join [] cs end led below from more = more
led_join (b ∷ bs) cs end led below from more = joined b (b ∷ bs) cs led (before_from b end cs below.0 from)

-- the breaches at tokens, and one at the last token, behind them
pub led_last : (bs : List SourceFault) (ts : List Token) (last : Token) (broken : Bool) (code : FaultCode)
    → Ordered 0 (ts ++ last ∷ []) → Among bs ts → IsLed (bs ++ breach_if broken code last.span.start)
led_last bs ts last broken code o h =
    let a = h.along 0 (ordered_front 0 ts (last ∷ []) o) in
    led_join bs (breach_if broken code last.span.start) last.span.start
    (led_along 0 bs ts (ordered_front 0 ts (last ∷ []) o) a) (below_along 0 bs ts last o a) (from_last broken)
    (last_led broken)
  where
    from_last : (broken : Bool) → From last.span.start (breach_if broken code last.span.start)
    from_last true = (omega arith, tt)
    from_last false = tt

    last_led : (broken : Bool) → IsLed (breach_if broken code last.span.start)
    last_led true = (itself (record { code = code; at = last.span.start }), tt)
    last_led false = tt
