-- An item that begins at a token or at a directive line is read as far as the next token.
use Rattle.std.proofs.Common.{◌≡◌, ℕ, suc, ◌+◌, ◌<◌, List, [], ◌∷◌, ◌++◌, length, Ok, Err, Bool, true, refl}
use Rattle.std.proofs.Common.{sym, ap, subst, ◌∙◌, append_assoc, length-append, arith, ◌⊎◌, inl, inr}
use Rattle.std.specs.Prelude.{◌≢◌}
use Rattle.om_lexer.specs.declared.fault.FaultCode.TheVariants as codes
use Rattle.om_lexer.specs.declared.fault.SourceFault.{SourceFault}
use Rattle.om_lexer.specs.declared.token.Span.{Span}
use Rattle.om_lexer.specs.declared.token.Token.{Token}
use Rattle.om_lexer.specs.declared.token.TokenKind.{TokenKind}
use Rattle.om_lexer.specs.declared.token.TokenKind.TheVariants as kinds
use Rattle.om_parser.specs.ConstructReading.{line_start}
use Rattle.om_parser_parts.specs.Halting.{Unended, IsElsewhere}
use Rattle.om_parser_parts.specs.Local.{Measure, pair, SameRoom, Suffices, IsHalt, IsLocalAt}
use Rattle.om_parser_parts.specs.Local.{unended_both, elsewhere_behind}
use Rattle.om_parser_parts.specs.Reading.{Reader}
use Rattle.om_parser_tree.specs.Spelling.{token}

-- a measure for readers that read lines
abbrev pub lined : ℕ → Measure
lined n = record { beyond = 0; turns = n; lines = true }

-- which line the tokens begin is known by these
abbrev pub Decided : List Token → Type 0
Decided front = (us vs : List Token) → line_start (front ++ us) ≡ line_start (front ++ vs)

-- a test of what stands next
abbrev pub Test : Type 0
Test = List Token → Bool

pub record IsGiven {A : Type 0} (m : ℕ) (next : Test) (r : Reader A) (n : ℕ) (ts : List Token)
    (x : A × List Token) : Type 0 where
  pub front : List Token
  pub parts : ts ≡ front ++ x.1
  pub unended : Unended front
  pub ended : next x.1 ≡ true
  pub again : (j : Measure) (t : Token) (after other : List Token) → x.1 ≡ t ∷ after → next (t ∷ other) ≡ true
      → SameRoom (lined n) j (t ∷ after) (t ∷ other) → Suffices m j (front ++ t ∷ other)
      → r (front ++ t ∷ other) ≡ Ok (x.0, t ∷ other)

-- as far as the next token, and the test of what stands there
pub record IsGivenAt {A : Type 0} (m : ℕ) (next : Test) (r : Reader A) (n : ℕ) (ts : List Token) : Type 0 where
  pub takes : (x : A × List Token) → r ts ≡ Ok x → IsGiven m next r n ts x
  pub halts : (f : SourceFault) → r ts ≡ Err f → f.code ≡ codes.Syntax → IsHalt m (λ j. r) (lined n) ts f
      ⊎ IsElsewhere true ts f

-- the same of an item: it has a token, and its beginning is known by its own tokens
pub record IsItemAt {A : Type 0} (m : ℕ) (next : Test) (r : Reader A) (n : ℕ) (ts : List Token) : Type 0 where
  pub takes : (x : A × List Token) → r ts ≡ Ok x → (g : IsGiven m next r n ts x) × (0 < length g.front) × Decided g.front
  pub halts : (f : SourceFault) → r ts ≡ Err f → f.code ≡ codes.Syntax
      → ((h : IsHalt m (λ j. r) (lined n) ts f) × Decided (h.front ++ h.token ∷ [])) ⊎ IsElsewhere true ts f

abbrev pub yes : Test
yes ts = true

pub given_of : {A : Type 0} (m : ℕ) (r : Reader A) (n : ℕ) (ts : List Token) → IsLocalAt m pair (λ j. r) (lined n) ts
    → IsGivenAt m yes r n ts
given_of m r n ts h = record {
  takes = λ x e. let t = h.takes x e in record {
    front = t.front;
    parts = t.parts;
    unended = t.unended;
    ended = refl;
    again = λ j v after other is test room far. t.again j v after other is room far;
  };
  halts = h.halts;
}

pub given_item : {A : Type 0} (m : ℕ) (next : Test) (r : Reader A) (n : ℕ) (ts : List Token)
    → IsItemAt m next r n ts → IsGivenAt m next r n ts
given_item m next r n ts h = record {
  takes = λ x e. (h.takes x e).0;
  halts = λ f e wrong. elim (h.halts f e wrong) [
    | inl k ↦ inl k.0
    | inr other ↦ inr other
  ];
}

pub local_of : {A : Type 0} (m : ℕ) (r : Reader A) (n : ℕ) (ts : List Token) → IsItemAt m yes r n ts
    → IsLocalAt m pair (λ j. r) (lined n) ts
local_of m r n ts h = record {
  takes = λ x e. let t = (h.takes x e).0 in record {
    front = t.front;
    parts = t.parts;
    unended = t.unended;
    again = λ j v after other is room far. t.again j v after other is refl room far;
  };
  halts = (given_item m yes r n ts h).halts;
}

pub decided_more : (front p : List Token) → Decided front → Decided (front ++ p)
decided_more front p h us vs = ap line_start (append_assoc front p us) ∙ h (p ++ us) (p ++ vs)
    ∙ ap line_start (sym (append_assoc front p vs))

-- a token that begins no line
kind_decided : (k : TokenKind) (s : Span) → k ≢ kinds.DirectiveBegin → (us vs : List Token)
    → line_start (token k s ∷ us) ≡ line_start (token k s ∷ vs)
kind_decided kinds.DirectiveBegin s plain us vs = absurd (plain refl)
kind_decided _ s plain us vs = refl

pub token_decided : (t : Token) → t.kind ≢ kinds.DirectiveBegin → Decided (t ∷ [])
token_decided t plain us vs = kind_decided t.kind t.span plain us vs

-- ---- an item whose beginning is taken

module _ {A : Type 0} (m : ℕ) (next : Test) (r g : Reader A) (n : ℕ) (front us : List Token) (unended : Unended front)
    (some : 0 < length front) (decided : Decided front) (same : (vs : List Token) → r (front ++ vs) ≡ g vs) where
  later : (j : Measure) (vs : List Token) → Suffices m j (front ++ vs) → Suffices (suc m) j vs
  later j vs far = omega (arith, far, some, length-append front vs)

  pub behind : ((k : ℕ) → IsGivenAt (suc m) next g n us) → IsItemAt m next r n (front ++ us)
  behind h = record { takes = takes; halts = halts }
    where
      takes : (x : A × List Token) → r (front ++ us) ≡ Ok x → (k : IsGiven m next r n (front ++ us) x)
          × (0 < length k.front) × Decided k.front
      takes x e =
          let t = (h 0).takes x (sym (same us) ∙ e) in (
            record {
              front = front ++ t.front;
              parts = ap (λ (w : List Token). front ++ w) t.parts ∙ sym (append_assoc front t.front x.1);
              unended = unended_both front t.front unended t.unended;
              ended = t.ended;
              again = λ j v after other is test room far.
                  let regroup : (front ++ t.front) ++ v ∷ other ≡ front ++ (t.front ++ v ∷ other) = append_assoc front
                  t.front (v ∷ other) in
                  ap r regroup ∙ same (t.front ++ v ∷ other) ∙ t.again j v after other is test room
                  (later j (t.front ++ v ∷ other) (subst (Suffices m j) regroup far));
            },
            omega (arith, some, length-append front t.front),
            decided_more front t.front decided,
          )

      halts : (f : SourceFault) → r (front ++ us) ≡ Err f → f.code ≡ codes.Syntax
          → ((k : IsHalt m (λ j. r) (lined n) (front ++ us) f) × Decided (k.front ++ k.token ∷ []))
          ⊎ IsElsewhere true (front ++ us) f
      halts f e wrong = elim ((h 0).halts f (sym (same us) ∙ e) wrong) [
        | inl t ↦ inl (
          record {
            front = front ++ t.front;
            token = t.token;
            after = t.after;
            parts = ap (λ (w : List Token). front ++ w) t.parts ∙ sym (append_assoc front t.front (t.token ∷ t.after));
            at_place = t.at_place;
            again = λ j other room far.
                let regroup : (front ++ t.front) ++ t.token ∷ other ≡ front ++ (t.front ++ t.token ∷ other) =
                append_assoc front t.front (t.token ∷ other) in
                ap r regroup ∙ same (t.front ++ t.token ∷ other) ∙ t.again j other room
                (later j (t.front ++ t.token ∷ other) (subst (Suffices m j) regroup far));
          },
          subst Decided (sym (append_assoc front t.front (t.token ∷ []))) (decided_more front (t.front ++ t.token ∷ [])
              decided),
        )
        | inr other ↦ inr (elsewhere_behind true front us (front ++ us) f refl unended other)
      ]

-- the same item, written otherwise for tokens that begin so
pub alike_item : {A : Type 0} (m : ℕ) (next : Test) (r g : Reader A) (n : ℕ) (t : Token) (us : List Token)
    → ((vs : List Token) → line_start (t ∷ vs) ≡ line_start (t ∷ us) → r (t ∷ vs) ≡ g (t ∷ vs))
    → IsItemAt m next g n (t ∷ us) → IsItemAt m next r n (t ∷ us)
alike_item {A} m next r g n t us same h = record { takes = takes; halts = halts }
  where
    takes : (x : A × List Token) → r (t ∷ us) ≡ Ok x → (k : IsGiven m next r n (t ∷ us) x) × (0 < length k.front)
        × Decided k.front
    takes x e =
        let k = h.takes x (sym (same us refl) ∙ e) in (
          record {
            front = k.0.front;
            parts = k.0.parts;
            unended = k.0.unended;
            ended = k.0.ended;
            again = λ j v after other is test room far. at k.0.front v other k.0.parts k.1 k.2
                ∙ k.0.again j v after other is test room far;
          },
          k.1,
          k.2,
        )
      where
        at : (front : List Token) (v : Token) (other : List Token) → t ∷ us ≡ front ++ x.1 → 0 < length front
            → Decided front → r (front ++ v ∷ other) ≡ g (front ++ v ∷ other)
        at [] v other parts some decided = absurd (omega (arith, some))
        at (w ∷ front) v other parts some decided =
            let first : t ≡ w = cc in
            subst (λ (u : Token). r (u ∷ (front ++ v ∷ other)) ≡ g (u ∷ (front ++ v ∷ other))) first
            (same (front ++ v ∷ other) (ap (λ (u : Token). line_start (u ∷ (front ++ v ∷ other))) first
            ∙ decided (v ∷ other) x.1 ∙ ap line_start (sym parts)))

    halts : (f : SourceFault) → r (t ∷ us) ≡ Err f → f.code ≡ codes.Syntax
        → ((k : IsHalt m (λ j. r) (lined n) (t ∷ us) f) × Decided (k.front ++ k.token ∷ []))
        ⊎ IsElsewhere true (t ∷ us) f
    halts f e wrong = elim (h.halts f (sym (same us refl) ∙ e) wrong) [
      | inl k ↦ inl (
        record {
          front = k.0.front;
          token = k.0.token;
          after = k.0.after;
          parts = k.0.parts;
          at_place = k.0.at_place;
          again = λ j other room far. at k.0.front k.0.token k.0.after other k.0.parts k.1
              ∙ k.0.again j other room far;
        },
        k.1,
      )
      | inr other ↦ inr other
    ]
      where
        at : (front : List Token) (v : Token) (after other : List Token) → t ∷ us ≡ front ++ v ∷ after
            → Decided (front ++ v ∷ []) → r (front ++ v ∷ other) ≡ g (front ++ v ∷ other)
        at [] v after other parts decided =
            let first : t ≡ v = cc in
            let rest : us ≡ after = cc in
            subst (λ (u : Token). r (u ∷ other) ≡ g (u ∷ other)) first
            (same other (ap (λ (u : Token). line_start (u ∷ other)) first ∙ decided other after
            ∙ ap line_start (sym parts)))
        at (w ∷ front) v after other parts decided =
            let first : t ≡ w = cc in
            let known : line_start (w ∷ (front ++ v ∷ other)) ≡ line_start (w ∷ (front ++ v ∷ after)) = ap line_start
            (sym (append_assoc (w ∷ front) (v ∷ []) other)) ∙ decided other after ∙ ap line_start
            (append_assoc (w ∷ front) (v ∷ []) after) in
            subst (λ (u : Token). r (u ∷ (front ++ v ∷ other)) ≡ g (u ∷ (front ++ v ∷ other))) first
            (same (front ++ v ∷ other) (ap (λ (u : Token). line_start (u ∷ (front ++ v ∷ other))) first ∙ known
            ∙ ap line_start (sym parts)))

-- what begins at a token that begins no line, and takes a token at least
pub item_of_local : {A : Type 0} (m : ℕ) (r : Reader A) (n : ℕ) (t : Token) (us : List Token)
    → t.kind ≢ kinds.DirectiveBegin → IsLocalAt m pair (λ j. r) (lined n) (t ∷ us)
    → ((x : A × List Token) → r (t ∷ us) ≡ Ok x → length x.1 < length (t ∷ us)) → IsItemAt m yes r n (t ∷ us)
item_of_local {A} m r n t us plain h less = record { takes = takes; halts = halts }
  where
    first_decided : (front vs : List Token) → t ∷ us ≡ front ++ vs → 0 < length front → Decided front
    first_decided [] vs parts some = absurd (omega (arith, some))
    first_decided (w ∷ front) vs parts some = let first : t ≡ w = cc in
        subst (λ (u : Token). Decided (u ∷ front)) first (decided_more (t ∷ []) front (token_decided t plain))

    takes : (x : A × List Token) → r (t ∷ us) ≡ Ok x → (k : IsGiven m yes r n (t ∷ us) x) × (0 < length k.front)
        × Decided k.front
    takes x e =
        let k = (given_of m r n (t ∷ us) h).takes x e in
        let some : 0 < length k.front = omega (arith, less x e, ap length k.parts, length-append k.front x.1) in
        (k, some, first_decided k.front x.1 k.parts some)

    halts : (f : SourceFault) → r (t ∷ us) ≡ Err f → f.code ≡ codes.Syntax
        → ((k : IsHalt m (λ j. r) (lined n) (t ∷ us) f) × Decided (k.front ++ k.token ∷ []))
        ⊎ IsElsewhere true (t ∷ us) f
    halts f e wrong = elim (h.halts f e wrong) [
      | inl k ↦ inl (
        k,
        first_decided (k.front ++ k.token ∷ []) k.after
            (k.parts ∙ sym (append_assoc k.front (k.token ∷ []) k.after))
            (omega (arith, length-append k.front (k.token ∷ []))),
      )
      | inr other ↦ inr other
    ]
