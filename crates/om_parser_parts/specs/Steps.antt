-- Matter of proofs, for om_parser too: a reader looks no further than at the token at which it stops, or which stands
-- behind what it reads.
use Rattle.std.proofs.Common.{◌≡◌, ℕ, suc, ◌+◌, ◌≤◌, List, [], ◌∷◌, ◌++◌, length, Option, Some, None, Ok, Err}
use Rattle.std.proofs.Common.{refl, sym, ap, subst, ◌∙◌, arith, append_assoc, length-append, ◌⊎◌, inl, inr}
use Rattle.std.proofs.Common.{Bool, true, false, leb-true, leb-false}
use Rattle.std.specs.Prelude.{nat_le, ◌≢◌}
use Rattle.om_lexer.specs.declared.fault.FaultCode.TheVariants as codes
use Rattle.om_lexer.specs.declared.fault.SourceFault.{SourceFault}
use Rattle.om_lexer.specs.declared.token.Span.{Span}
use Rattle.om_lexer.specs.declared.token.Token.{Token}
use Rattle.om_lexer.specs.declared.token.TokenKind.TheVariants as kinds
use Rattle.om_parser_parts.specs.Halting.{Unended, RunOut, IsElsewhere}
use Rattle.om_parser_parts.specs.Outcomes.{ok, err_is, ok_is, bind_ok, bind_err, choose_cases, known_ok}
use Rattle.om_parser_parts.specs.Reading.{◌>>=◌, Outcome, choose, known, place, syntax, too_deep}
use Rattle.om_parser_parts.specs.PartReading.{parts}
use Rattle.om_parser_tree.specs.Spelling.{token}

-- how many tokens must be left behind an expression, how often reading may turn, and whether lines are read
pub record Measure : Type 0 where
  pub beyond : ℕ
  pub turns : ℕ
  pub lines : Bool

-- a reader for each measure
abbrev pub Family : Type 0 → Type 0
Family Y = Measure → List Token → Outcome Y

-- the tokens that are left in what a reader gives, and others in their place
pub record Form (Y : Type 0) : Type 0 where
  pub rest : Y → List Token
  pub put : Y → List Token → Y
  pub same : (y : Y) → put y (rest y) ≡ y

abbrev pub pair : {A : Type 0} → Form (A × List Token)
pair = record { rest = λ y. y.1; put = λ y us. (y.0, us); same = λ y. refl }

abbrev pub triple : {A B : Type 0} → Form (A × B × List Token)
triple = record { rest = λ y. y.2; put = λ y us. (y.0, y.1, us); same = λ y. refl }

-- two measures leave as much room before these tokens and before those
abbrev pub SameRoom : (i j : Measure) (us vs : List Token) → Type 0
SameRoom i j us vs = (n : ℕ) → nat_le i.beyond (n + length us) ≡ nat_le j.beyond (n + length vs)

-- there are turns enough for these tokens and so many more
abbrev pub Suffices : ℕ → Measure → List Token → Type 0
Suffices m i ts = m + length ts ≤ i.turns

-- what is read does not hang on what stands behind the next token
pub record IsTaken {Y : Type 0} (m : ℕ) (s : Form Y) (r : Family Y) (i : Measure) (ts : List Token) (y : Y) : Type 0 where
  pub front : List Token
  pub parts : ts ≡ front ++ s.rest y
  pub unended : Unended front
  pub again : (j : Measure) (t : Token) (after other : List Token) → s.rest y ≡ t ∷ after
      → SameRoom i j (t ∷ after) (t ∷ other) → Suffices m j (front ++ t ∷ other)
      → r j (front ++ t ∷ other) ≡ Ok (s.put y (t ∷ other))

-- nor does a fault of syntax hang on what stands behind its token
pub record IsHalt {Y : Type 0} (m : ℕ) (r : Family Y) (i : Measure) (ts : List Token) (f : SourceFault) : Type 0 where
  pub front : List Token
  pub token : Token
  pub after : List Token
  pub parts : ts ≡ front ++ token ∷ after
  pub at_place : token.span.start ≡ f.at
  pub again : (j : Measure) (other : List Token) → SameRoom i j (token ∷ after) (token ∷ other)
      → Suffices m j (front ++ token ∷ other) → r j (front ++ token ∷ other) ≡ Err f

pub record IsLocalAt {Y : Type 0} (m : ℕ) (s : Form Y) (r : Family Y) (i : Measure) (ts : List Token) : Type 0 where
  pub takes : (y : Y) → r i ts ≡ Ok y → IsTaken m s r i ts y
  pub halts : (f : SourceFault) → r i ts ≡ Err f → f.code ≡ codes.Syntax → IsHalt m r i ts f ⊎ IsElsewhere i.lines ts f

abbrev pub IsLocal : {Y : Type 0} (m : ℕ) (s : Form Y) (r : Family Y) (i : Measure) → Type 0
IsLocal m s r i = (ts : List Token) → Suffices m i ts → IsLocalAt m s r i ts

-- ---- lists

pub unended_both : (xs ys : List Token) → Unended xs → Unended ys → Unended (xs ++ ys)
unfolding Unended
unended_both [] ys e f = f
unended_both (x ∷ []) [] e f = e
unended_both (x ∷ []) (y ∷ ys) e f = f
unended_both (x ∷ (u ∷ us)) ys e f = unended_both (u ∷ us) ys e f

pub unended_one : (t : Token) → t.kind ≢ kinds.End → Unended (t ∷ [])
unfolding Unended
unended_one t e = e

pub room_before : (p us vs : List Token) (i j : Measure) → SameRoom i j us vs → SameRoom i j (p ++ us) (p ++ vs)
room_before p us vs i j room n =
    ap (λ (k : ℕ). nat_le i.beyond k) (omega (arith, length-append p us)) ∙ room (n + length p)
    ∙ ap (λ (k : ℕ). nat_le j.beyond k) (omega (arith, length-append p vs))

pub room_now : (us vs : List Token) (i j : Measure) → SameRoom i j us vs → nat_le i.beyond (length us)
    ≡ nat_le j.beyond (length vs)
room_now us vs i j room = ap (λ (k : ℕ). nat_le i.beyond k) (omega arith) ∙ room 0
    ∙ ap (λ (k : ℕ). nat_le j.beyond k) (omega arith)

out_behind : (front us ts : List Token) (f : SourceFault) → ts ≡ front ++ us → Unended front → RunOut us f → RunOut ts f
out_behind front us ts f parts unended h = record {
  past = h.past;
  unended = subst Unended (sym parts) (unended_both front us unended h.unended);
}

pub elsewhere_behind : (lines : Bool) (front us ts : List Token) (f : SourceFault) → ts ≡ front ++ us → Unended front
    → IsElsewhere lines us f → IsElsewhere lines ts f
elsewhere_behind false front us ts f parts unended h = out_behind front us ts f parts unended h
elsewhere_behind true front us ts f parts unended other = elim other [
  | inl h ↦ inl (record {
    before = front ++ h.before;
    line = h.line;
    after = h.after;
    stands = parts ∙ ap (λ (w : List Token). front ++ w) h.stands ∙ simp append_assoc;
    one_line = h.one_line;
    stops = h.stops;
  })
  | inr (inl h) ↦ inr (inl (record {
    before = front ++ h.before;
    hash = h.hash;
    after = h.after;
    stands = parts ∙ ap (λ (w : List Token). front ++ w) h.stands ∙ simp append_assoc;
    endless = h.endless;
  }))
  | inr (inr h) ↦ inr (inr (out_behind front us ts f parts unended h))
]

-- no token is left
pub no_more : (lines : Bool) (f : SourceFault) → f.at ≡ place [] → IsElsewhere lines [] f
unfolding Unended
no_more false f past = record { past = past; unended = tt }
no_more true f past = inr (inr (record { past = past; unended = tt }))

-- two limits of tokens are one where as many are left
pub le_same : (a b c d : ℕ) → (a ≤ b → c ≤ d) → (c ≤ d → a ≤ b) → nat_le a b ≡ nat_le c d
le_same a b c d to back = go (nat_le a b) (nat_le c d) refl refl
  where
    go : (x y : Bool) → nat_le a b ≡ x → nat_le c d ≡ y → x ≡ y
    go true true e f = refl
    go false false e f = refl
    go true false e f = absurd (omega (arith, to (leb-true a b e), leb-false c d f))
    go false true e f = absurd (omega (arith, back (leb-true c d f), leb-false a b e))

-- nothing must be left behind an expression
pub free_room : (us vs : List Token) (i j : Measure) → i.beyond ≡ 0 → j.beyond ≡ 0 → SameRoom i j us vs
free_room us vs i j e f n = rw (e, f) (le_same 0 (n + length us) 0 (n + length vs) (λ le. omega arith) (λ le. omega arith))

-- ---- steps

-- where more stands before the next token
pub taken_again : {Y : Type 0} (m : ℕ) (s : Form Y) (r : Family Y) (i : Measure) (ts : List Token) (y : Y)
    (h : IsTaken m s r i ts y) (j : Measure) (p : List Token) (t : Token) (after other : List Token)
    → s.rest y ≡ p ++ t ∷ after → SameRoom i j (t ∷ after) (t ∷ other) → Suffices m j (h.front ++ (p ++ t ∷ other))
    → r j (h.front ++ (p ++ t ∷ other)) ≡ Ok (s.put y (p ++ t ∷ other))
taken_again m s r i ts y h j [] t after other is room far = h.again j t after other is room far
taken_again m s r i ts y h j (u ∷ p) t after other is room far = h.again j u (p ++ t ∷ after) (p ++ t ∷ other) is
    (room_before (u ∷ p) (t ∷ after) (t ∷ other) i j room) far

-- nothing is read
pub done : {A : Type 0} (m : ℕ) (x : A) (i : Measure) → IsLocal m pair (λ j us. Ok (x, us)) i
unfolding Unended
done m x i ts far = record {
  takes = λ z e. let same : (x, ts) ≡ z = ok_is (x, ts) z e in record {
    front = [];
    parts = ap (λ (y : _ × List Token). y.1) same;
    unended = tt;
    again = λ j t after other first room far. ap (λ (y : _ × List Token). ok (y.0, t ∷ other)) same;
  };
  halts = λ f e wrong. absurd cc;
}

pub finished : {A B : Type 0} (m : ℕ) (x : A) (b : B) (i : Measure) → IsLocal m triple (λ j us. Ok (x, b, us)) i
unfolding Unended
finished m x b i ts far = record {
  takes = λ z e. let same : (x, b, ts) ≡ z = ok_is (x, b, ts) z e in record {
    front = [];
    parts = ap (λ (y : _ × _ × List Token). y.2) same;
    unended = tt;
    again = λ j t after other first room far. ap (λ (y : _ × _ × List Token). ok (y.0, y.1, t ∷ other)) same;
  };
  halts = λ f e wrong. absurd cc;
}

-- a step and the one after it, which has n tokens less to read where that one has m
pub bind_to : {Y Z : Type 0} (m n : ℕ) (s : Form Y) (u : Form Z) (r : Family Y) (g : Measure → Y → Outcome Z) (i : Measure)
    → IsLocal m s r i → ((y : Y) → IsLocal n u (λ j us. g j (s.put y us)) i)
    → ((ts : List Token) (y : Y) → IsTaken m s r i ts y → r i ts ≡ Ok y → n + length (s.rest y) ≤ m + length ts)
    → IsLocal m u (λ j ts. r j ts >>= g j) i
bind_to {Y} {Z} m n s u r g i first second less ts far = record { takes = takes; halts = halts }
  where
    behind : (y : Y) → IsTaken m s r i ts y → r i ts ≡ Ok y → Suffices n i (s.rest y)
    behind y h e = omega (arith, far, less ts y h e)

    after_front : (y : Y) (h : IsTaken m s r i ts y) → r i ts ≡ Ok y → (v : List Token) (j : Measure)
        → Suffices m j (h.front ++ v) → Suffices n j v
    after_front y h e v j enough = omega (
      arith,
      enough,
      less ts y h e,
      length-append h.front v,
      ap length h.parts,
      length-append h.front (s.rest y),
    )

    takes : (z : Z) → (r i ts >>= g i) ≡ Ok z → IsTaken m u (λ j ts. r j ts >>= g j) i ts z
    takes z e =
        let b = bind_ok (r i ts) (g i) z e in
        let y : Y = b.0 in
        let h = (first ts far).takes y b.1 in
        let k = (second y (s.rest y) (behind y h b.1)).takes z (ap (g i) (s.same y) ∙ b.2) in
        record {
          front = h.front ++ k.front;
          parts = h.parts ∙ ap (λ (w : List Token). h.front ++ w) k.parts ∙ sym (append_assoc h.front k.front (u.rest z));
          unended = unended_both h.front k.front h.unended k.unended;
          again = λ j t after other is room enough.
              let regroup : (h.front ++ k.front) ++ t ∷ other ≡ h.front ++ (k.front ++ t ∷ other) = append_assoc
              h.front k.front (t ∷ other) in
              let whole : Suffices m j (h.front ++ (k.front ++ t ∷ other)) = subst (Suffices m j) regroup enough in
              let one : r j (h.front ++ (k.front ++ t ∷ other)) ≡ Ok (s.put y (k.front ++ t ∷ other)) = taken_again m s
              r i ts y h j k.front t after other (k.parts ∙ ap (λ (w : List Token). k.front ++ w) is) room whole in
              ap (λ (w : List Token). r j w >>= g j) regroup ∙ ap (λ (o : Outcome Y). o >>= g j) one
              ∙ k.again j t after other is room (after_front y h b.1 (k.front ++ t ∷ other) j whole);
        }

    halts : (f : SourceFault) → (r i ts >>= g i) ≡ Err f → f.code ≡ codes.Syntax
        → IsHalt m (λ j ts. r j ts >>= g j) i ts f ⊎ IsElsewhere i.lines ts f
    halts f e syntax = elim (bind_err (r i ts) (g i) f e) [
      | inl fails ↦ elim ((first ts far).halts f fails syntax) [
        | inl h ↦ inl (record {
          front = h.front;
          token = h.token;
          after = h.after;
          parts = h.parts;
          at_place = h.at_place;
          again = λ j other room enough. ap (λ (o : Outcome Y). o >>= g j) (h.again j other room enough);
        })
        | inr other ↦ inr other
      ]
      | inr b ↦
          let y : Y = b.0 in
          let h = (first ts far).takes y b.1 in
          elim ((second y (s.rest y) (behind y h b.1)).halts f (ap (g i) (s.same y) ∙ b.2) syntax) [
            | inl k ↦ inl (record {
              front = h.front ++ k.front;
              token = k.token;
              after = k.after;
              parts = h.parts ∙ ap (λ (w : List Token). h.front ++ w) k.parts
                  ∙ sym (append_assoc h.front k.front (k.token ∷ k.after));
              at_place = k.at_place;
              again = λ j other room enough.
                  let regroup : (h.front ++ k.front) ++ k.token ∷ other ≡ h.front ++ (k.front ++ k.token ∷ other) =
                  append_assoc h.front k.front (k.token ∷ other) in
                  let whole : Suffices m j (h.front ++ (k.front ++ k.token ∷ other)) = subst (Suffices m j) regroup
                  enough in
                  let one : r j (h.front ++ (k.front ++ k.token ∷ other)) ≡ Ok (s.put y (k.front ++ k.token ∷ other)) =
                  taken_again m s r i ts y h j k.front k.token k.after other k.parts room whole in
                  ap (λ (w : List Token). r j w >>= g j) regroup ∙ ap (λ (o : Outcome Y). o >>= g j) one
                  ∙ k.again j other room (after_front y h b.1 (k.front ++ k.token ∷ other) j whole);
            })
            | inr other ↦ inr (elsewhere_behind i.lines h.front (s.rest y) ts f h.parts h.unended other)
          ]
    ]

-- the same where the first step may read nothing
pub bind : {Y Z : Type 0} (m : ℕ) (s : Form Y) (u : Form Z) (r : Family Y) (g : Measure → Y → Outcome Z) (i : Measure)
    → IsLocal m s r i → ((y : Y) → IsLocal m u (λ j us. g j (s.put y us)) i)
    → IsLocal m u (λ j ts. r j ts >>= g j) i
bind m s u r g i first second = bind_to m m s u r g i first second
    (λ ts y h e. omega (arith, ap length h.parts, length-append h.front (s.rest y)))

-- a reader whose room is asked for more tokens
pub weaken : {Y : Type 0} (m n : ℕ) (s : Form Y) (r : Family Y) (i : Measure) → m ≤ n → IsLocal m s r i
    → IsLocal n s r i
weaken m n s r i le h ts far =
    let at = h ts (omega (arith, far, le)) in
    record {
      takes = λ y e. let t = at.takes y e in record {
        front = t.front;
        parts = t.parts;
        unended = t.unended;
        again = λ j v after other is room enough. t.again j v after other is room (omega (arith, enough, le));
      };
      halts = λ f e wrong. elim (at.halts f e wrong) [
        | inl t ↦ inl (record {
          front = t.front;
          token = t.token;
          after = t.after;
          parts = t.parts;
          at_place = t.at_place;
          again = λ j other room enough. t.again j other room (omega (arith, enough, le));
        })
        | inr other ↦ inr other
      ];
    }

-- what takes the next token, or does not, by that token alone; the end of a source is not taken
pub record IsTaker {A : Type 0} (k : List Token → Option (A × List Token)) : Type 0 where
  pub nothing : k [] ≡ None
  pub takes : (t : Token) (ts : List Token) (x : A × List Token) → k (t ∷ ts) ≡ Some x
      → (x.1 ≡ ts) × (t.kind ≢ kinds.End) × ((us : List Token) → k (t ∷ us) ≡ Some (x.0, us))
  pub misses : (t : Token) (ts us : List Token) → k (t ∷ ts) ≡ None → k (t ∷ us) ≡ None

-- what takes nothing takes nothing where more, or other tokens, stand behind the next one
pub misses_again : {A : Type 0} (k : List Token → Option (A × List Token)) → IsTaker k
    → (front : List Token) (t : Token) (after other : List Token) → k (front ++ t ∷ after) ≡ None
    → k (front ++ t ∷ other) ≡ None
misses_again k taker [] t after other e = taker.misses t after other e
misses_again k taker (u ∷ front) t after other e = taker.misses u (front ++ t ∷ after) (front ++ t ∷ other) e

-- a token that may stand there, or what is read without it
pub either : {A Z : Type 0} (m : ℕ) (u : Form Z) (k : List Token → Option (A × List Token))
    (g : Measure → A × List Token → Outcome Z) (z : Family Z) (i : Measure) → IsTaker k
    → ((x : A) → IsLocal (suc m) u (λ j us. g j (x, us)) i) → IsLocal m u z i
    → IsLocal m u (λ j ts. choose (k ts) (g j) (z j ts)) i
either {A} {Z} m u k g z i taker first second ts far = record { takes = takes ts far; halts = halts ts far }
  where
    Both : Family Z
    Both = λ j ts. choose (k ts) (g j) (z j ts)

    -- at these tokens
    taken : (t : Token) (us : List Token) (x : A × List Token) → k (t ∷ us) ≡ Some x → (vs : List Token) (j : Measure)
        → Both j (t ∷ vs) ≡ g j (x.0, vs)
    taken t us x e vs j = ap (λ (o : Option (A × List Token)). choose o (g j) (z j (t ∷ vs))) ((taker.takes t us x e).2 vs)

    rest_is : (t : Token) (us : List Token) (x : A × List Token) → k (t ∷ us) ≡ Some x → x ≡ (x.0, us)
    rest_is t us x e = ap (λ (w : List Token). (x.0, w)) (taker.takes t us x e).0

    less : (t : Token) (us : List Token) → Suffices m i (t ∷ us) → Suffices (suc m) i us
    less t us far = omega (arith, far)

    lesser : (t : Token) (us : List Token) (j : Measure) → Suffices m j (t ∷ us) → Suffices (suc m) j us
    lesser t us j far = omega (arith, far)

    missed : (vs : List Token) (j : Measure) → k vs ≡ None → Both j vs ≡ z j vs
    missed vs j e = ap (λ (o : Option (A × List Token)). choose o (g j) (z j vs)) e

    takes : (ts : List Token) → Suffices m i ts → (y : Z) → Both i ts ≡ Ok y → IsTaken m u Both i ts y
    takes ts far y e = elim (choose_cases (k ts) (g i) (z i ts) (Ok y) e) [
      | inl h ↦ at_token ts far h.0 h.1 h.2
      | inr h ↦
          let t = (second ts far).takes y h.1 in
          record {
            front = t.front;
            parts = t.parts;
            unended = t.unended;
            again = λ j v after other is room enough. missed (t.front ++ v ∷ other) j
                (misses_again k taker t.front v after other (subst (λ (w : List Token). k w ≡ None)
                (t.parts ∙ ap (λ (w : List Token). t.front ++ w) is) h.0)) ∙ t.again j v after other is room enough;
          }
    ]
      where
        at_token : (ts : List Token) → Suffices m i ts → (x : A × List Token) → k ts ≡ Some x → g i x ≡ Ok y
            → IsTaken m u Both i ts y
        at_token [] far x e g_is = let none = taker.nothing in absurd cc
        at_token (t ∷ us) far x e g_is =
            let h = (first x.0 us (less t us far)).takes y (ap (g i) (sym (rest_is t us x e)) ∙ g_is) in
            record {
              front = t ∷ h.front;
              parts = ap (λ (w : List Token). t ∷ w) h.parts;
              unended = unended_both (t ∷ []) h.front (unended_one t (taker.takes t us x e).1) h.unended;
              again = λ j v after other is room enough. taken t us x e (h.front ++ v ∷ other) j
                  ∙ h.again j v after other is room (lesser t (h.front ++ v ∷ other) j enough);
            }

    halts : (ts : List Token) → Suffices m i ts → (f : SourceFault) → Both i ts ≡ Err f → f.code ≡ codes.Syntax
        → IsHalt m Both i ts f ⊎ IsElsewhere i.lines ts f
    halts ts far f e syntax = elim (choose_cases (k ts) (g i) (z i ts) (Err f) e) [
      | inl h ↦ at_token ts far h.0 h.1 h.2
      | inr h ↦ elim ((second ts far).halts f h.1 syntax) [
        | inl t ↦ inl (record {
          front = t.front;
          token = t.token;
          after = t.after;
          parts = t.parts;
          at_place = t.at_place;
          again = λ j other room enough. missed (t.front ++ t.token ∷ other) j
              (misses_again k taker t.front t.token t.after other (subst (λ (w : List Token). k w ≡ None)
              t.parts h.0)) ∙ t.again j other room enough;
        })
        | inr other ↦ inr other
      ]
    ]
      where
        at_token : (ts : List Token) → Suffices m i ts → (x : A × List Token) → k ts ≡ Some x → g i x ≡ Err f
            → IsHalt m Both i ts f ⊎ IsElsewhere i.lines ts f
        at_token [] far x e g_is = let none = taker.nothing in absurd cc
        at_token (t ∷ us) far x e g_is =
            elim ((first x.0 us (less t us far)).halts f (ap (g i) (sym (rest_is t us x e)) ∙ g_is) syntax) [
              | inl h ↦ inl (record {
                front = t ∷ h.front;
                token = h.token;
                after = h.after;
                parts = ap (λ (w : List Token). t ∷ w) h.parts;
                at_place = h.at_place;
                again = λ j other room enough. taken t us x e (h.front ++ h.token ∷ other) j
                    ∙ h.again j other room (lesser t (h.front ++ h.token ∷ other) j enough);
              })
              | inr other ↦ inr (elsewhere_behind i.lines (t ∷ []) us (t ∷ us) f refl
                  (unended_one t (taker.takes t us x e).1) other)
            ]

-- what must stand first
pub expected : {A : Type 0} (m : ℕ) (k : List Token → Option (A × List Token)) (i : Measure) → IsTaker k
    → IsLocal m pair (λ j ts. known ts (k ts)) i
unfolding Unended
expected {A} m k i taker ts far = record { takes = takes ts; halts = halts ts }
  where
    takes : (ts : List Token) (y : A × List Token) → known ts (k ts) ≡ Ok y → IsTaken m pair (λ j ts. known ts (k ts)) i ts y
    takes ts y e = go ts y (known_ok ts (k ts) y e)
      where
        go : (ts : List Token) (y : A × List Token) → k ts ≡ Some y → IsTaken m pair (λ j ts. known ts (k ts)) i ts y
        go [] y e = let none = taker.nothing in absurd cc
        go (t ∷ us) y e =
            let h = taker.takes t us y e in
            record {
              front = t ∷ [];
              parts = ap (λ (w : List Token). t ∷ w) (sym h.0);
              unended = unended_one t h.1;
              again = λ j v after other is room enough. ap (known (t ∷ (v ∷ other))) (h.2 (v ∷ other));
            }

    refused : (ts : List Token) (f : SourceFault) (o : Option (A × List Token)) → k ts ≡ o → known ts o ≡ Err f
        → (k ts ≡ None) × (syntax ts ≡ f)
    refused ts f (Some x) is e = absurd cc
    refused ts f None is e = (is, err_is (syntax ts) f e)

    halts : (ts : List Token) (f : SourceFault) → known ts (k ts) ≡ Err f → f.code ≡ codes.Syntax
        → IsHalt m (λ j ts. known ts (k ts)) i ts f ⊎ IsElsewhere i.lines ts f
    halts [] f e is = let r = refused [] f (k []) refl e in inr (no_more i.lines f (ap (λ (g : SourceFault). g.at) (sym r.1)))
    halts (t ∷ us) f e is =
        let r = refused (t ∷ us) f (k (t ∷ us)) refl e in
        inl (record {
          front = [];
          token = t;
          after = us;
          parts = refl;
          at_place = ap (λ (g : SourceFault). g.at) r.1;
          again = λ j other room enough. ap (known (t ∷ other)) (taker.misses t us other r.0) ∙ ap (λ (g : SourceFault).
              Err g) r.1;
        })

-- no token may stand there
pub stuck : {Y : Type 0} (m : ℕ) (s : Form Y) (i : Measure) → IsLocal m s (λ j ts. Err (syntax ts)) i
unfolding Unended
stuck {Y} m s i ts far = record { takes = λ y e. absurd cc; halts = λ f e is. halts ts f (err_is (syntax ts) f e) }
  where
    halts : (ts : List Token) (f : SourceFault) → syntax ts ≡ f → IsHalt {Y = Y} m (λ j ts. Err (syntax ts)) i ts f
        ⊎ IsElsewhere i.lines ts f
    halts [] f e = inr (no_more i.lines f (ap (λ (g : SourceFault). g.at) (sym e)))
    halts (t ∷ us) f e = inl (record {
      front = [];
      token = t;
      after = us;
      parts = refl;
      at_place = ap (λ (g : SourceFault). g.at) e;
      again = λ j other room enough. ap (λ (g : SourceFault). Err g) e;
    })

-- a limit is passed
pub deep : {Y : Type 0} (m : ℕ) (s : Form Y) (span : Measure → List Token → Span) (i : Measure)
    → IsLocal m s (λ j ts. Err (too_deep (span j ts))) i
deep m s span i ts far = record {
  takes = λ y e. absurd cc;
  halts = λ f e is. let code = ap (λ (g : SourceFault). g.code) (err_is (too_deep (span i ts)) f e) in absurd cc;
}
