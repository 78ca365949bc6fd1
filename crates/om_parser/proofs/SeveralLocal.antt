-- One item and more are read as far as the next token, where each of them is.
use Rattle.std.proofs.Common.{◌≡◌, ℕ, zero, suc, ◌+◌, ◌<◌, ◌≤◌, List, [], ◌∷◌, ◌++◌, length, Ok, Err, Bool, true, false, refl}
use Rattle.std.proofs.Common.{sym, ap, subst, ◌∙◌, append_assoc, length-append, arith, ◌⊎◌, inl, inr, cond}
use Rattle.std.specs.Prelude.{◌&&◌}
use Rattle.om_lexer.specs.declared.fault.FaultCode.TheVariants as codes
use Rattle.om_lexer.specs.declared.fault.SourceFault.{SourceFault}
use Rattle.om_lexer.specs.declared.token.Token.{Token}
use Rattle.om_parser_parts.specs.Halting.{IsElsewhere}
use Rattle.om_parser_parts.specs.Local.{Measure, Suffices, SameRoom, IsHalt, Consumes, bind_same, unended_both, elsewhere_behind, room_before}
use Rattle.om_parser_parts.specs.Outcomes.{ok, ok_is, bind_ok, bind_err, either_way}
use Rattle.om_parser_parts.specs.Reading.{◌>>=◌, Outcome, Reader}
use Rattle.om_parser.specs.OneOrMore.{one_or_more}
use Rattle.om_parser.proofs.ItemLocal.{lined, Decided, decided_more, Test, IsGiven, IsItemAt}

-- a test that hangs on what decides which line begins
abbrev pub HangsOnStart : Test → Type 0
HangsOnStart next = (front us vs : List Token) → 0 < length front → Decided front → next (front ++ us)
    ≡ next (front ++ vs)

abbrev pub both : Test → Test → Test
both e f ts = e ts && f ts

pub both_hang : (e f : Test) → HangsOnStart e → HangsOnStart f → HangsOnStart (both e f)
both_hang e f g h front us vs some decided = rw (g front us vs some decided, h front us vs some decided) refl

pub first_true : (a b : Bool) → a && b ≡ true → a ≡ true
first_true true b e = refl
first_true false b e = absurd cc

pub second_true : (a b : Bool) → a && b ≡ true → b ≡ true
second_true true b e = e
second_true false b e = absurd cc

both_true : (a b : Bool) → a ≡ true → b ≡ true → a && b ≡ true
both_true a b e f = rw (e, f) refl

module _ {A : Type 0} (item : Reader A) (less : Consumes item) (ends : Test) where
  abbrev after_one : A × List Token → Outcome (List A × List Token)
  after_one a = one_or_more ends item (length a.1) a.1 >>= λ b. Ok (a.0 ∷ b.0, b.1)

  abbrev once : Reader (List A)
  once ts = item ts >>= λ a. cond (ends a.1) (Ok (a.0 ∷ [], a.1)) (after_one a)

  enough : (k n : ℕ) (ts : List Token) → length ts ≤ k → length ts ≤ n → one_or_more ends item k ts
      ≡ one_or_more ends item n ts
  unfolding one_or_more
  enough zero zero ts a b = refl
  enough zero (suc n) ts a b = bind_same (item ts) _ _ (λ x read. absurd (omega (arith, a, less ts x read)))
  enough (suc k) zero ts a b = bind_same (item ts) _ _ (λ x read. absurd (omega (arith, b, less ts x read)))
  enough (suc k) (suc n) ts a b = bind_same (item ts) _ _ (λ x read.
      ap (λ o. cond (ends x.1) (ok (x.0 ∷ [], x.1)) (o >>= λ b. Ok (x.0 ∷ b.0, b.1)))
      (enough k n x.1 (omega (arith, a, less ts x read)) (omega (arith, b, less ts x read))))

  step : (ts : List Token) → one_or_more ends item (length ts) ts ≡ once ts
  unfolding one_or_more
  step ts = enough (length ts) (suc (length ts)) ts (omega arith) (omega arith) ∙ bind_same (item ts) _ _ (λ x read.
      ap (λ o. cond (ends x.1) (ok (x.0 ∷ [], x.1)) (o >>= λ b. Ok (x.0 ∷ b.0, b.1)))
      (enough (length ts) (length x.1) x.1 (omega (arith, less ts x read)) (omega arith)))

  abbrev All : Reader (List A)
  All ts = one_or_more ends item (length ts) ts

  -- where the first item is read, and others follow or do not
  goes : (ts : List Token) (a : A) (us : List Token) → item ts ≡ Ok (a, us) → ends us ≡ false
      → All ts ≡ (All us >>= λ b. Ok (a ∷ b.0, b.1))
  goes ts a us read more = step ts ∙ rw (read, more) refl

  stops : (ts : List Token) (a : A) (us : List Token) → item ts ≡ Ok (a, us) → ends us ≡ true
      → All ts ≡ Ok (a ∷ [], us)
  stops ts a us read more = step ts ∙ rw (read, more) refl

  module _ (next : Test) (hang : HangsOnStart next) (ends_hang : HangsOnStart ends) (n : ℕ) where
    abbrev IsRow : ℕ → List Token → Type 0
    IsRow m ts = IsItemAt m (both ends next) All n ts

    -- an item, and the row behind it
    module _ (m : ℕ) (ts : List Token) (far : Suffices m (lined n) ts) (first : IsItemAt m next item n ts)
        (later : (us : List Token) → Suffices (suc m) (lined n) us → IsRow (suc m) us) where
      left : (us : List Token) (x : A) → item ts ≡ Ok (x, us) → Suffices (suc m) (lined n) us
      left us x read = omega (arith, far, less ts (x, us) read)

      -- the item before other tokens than these
      again_before : (a : A) (us : List Token) (g : IsGiven m next item n ts (a, us)) (p : List Token) (t : Token)
          (after other : List Token) (j : Measure) → us ≡ p ++ t ∷ after → next (p ++ t ∷ other) ≡ true
          → SameRoom (lined n) j (t ∷ after) (t ∷ other) → Suffices m j (g.front ++ (p ++ t ∷ other))
          → item (g.front ++ (p ++ t ∷ other)) ≡ Ok (a, p ++ t ∷ other)
      again_before a us g [] t after other j is test room enough = g.again j t after other is test room enough
      again_before a us g (u ∷ p) t after other j is test room enough = g.again j u (p ++ t ∷ after) (p ++ t ∷ other)
          is test (room_before (u ∷ p) (t ∷ after) (t ∷ other) (lined n) j room) enough

      takes : (y : List A × List Token) → All ts ≡ Ok y → (g : IsGiven m (both ends next) All n ts y)
          × (0 < length g.front) × Decided g.front
      takes y e =
          let a = bind_ok (item ts) _ y (sym (step ts) ∙ e) in
          let k = first.takes a.0 a.1 in
          elim (either_way (ends a.0.1) _ _ (ok y) a.2) [
            | inl g ↦ alone a.0.0 a.0.1 y k g.0 (ok_is (a.0.0 ∷ [], a.0.1) y g.1)
            | inr g ↦
                let b = bind_ok (All a.0.1) _ y g.1 in
                more a.0.0 a.0.1 y k g.0 a.1 b.0 b.1 (ok_is (a.0.0 ∷ b.0.0, b.0.1) y b.2)
          ]
        where
          Found : A → List Token → Type 0
          Found a us = (g : IsGiven m next item n ts (a, us)) × (0 < length g.front) × Decided g.front

          alone : (a : A) (us : List Token) (y : List A × List Token) → Found a us → ends us ≡ true
              → (a ∷ [], us) ≡ y → (g : IsGiven m (both ends next) All n ts y) × (0 < length g.front) × Decided g.front
          alone a us y k ended same = subst (λ (z : List A × List Token). (g : IsGiven m (both ends next) All n ts z)
              × (0 < length g.front) × Decided g.front) same (
                record {
                  front = k.0.front;
                  parts = k.0.parts;
                  unended = k.0.unended;
                  ended = both_true (ends us) (next us) ended k.0.ended;
                  again = λ j t after other is test room enough. stops (k.0.front ++ t ∷ other) a (t ∷ other)
                      (k.0.again j t after other is (second_true (ends (t ∷ other)) (next (t ∷ other)) test) room enough)
                      (first_true (ends (t ∷ other)) (next (t ∷ other)) test);
                },
                k.1,
                k.2,
              )

          more : (a : A) (us : List Token) (y : List A × List Token) → Found a us → ends us ≡ false
              → item ts ≡ Ok (a, us) → (b : List A × List Token) → All us ≡ Ok b → (a ∷ b.0, b.1) ≡ y
              → (g : IsGiven m (both ends next) All n ts y) × (0 < length g.front) × Decided g.front
          more a us y k goes_on read b rest same = subst (λ (z : List A × List Token).
              (g : IsGiven m (both ends next) All n ts z) × (0 < length g.front) × Decided g.front) same
              (let q = (later us (left us a read)).takes b rest in (
                record {
                  front = k.0.front ++ q.0.front;
                  parts = k.0.parts ∙ ap (λ (w : List Token). k.0.front ++ w) q.0.parts
                      ∙ sym (append_assoc k.0.front q.0.front b.1);
                  unended = unended_both k.0.front q.0.front k.0.unended q.0.unended;
                  ended = q.0.ended;
                  again = λ j t after other is test room enough.
                      let vs : List Token = q.0.front ++ t ∷ other in
                      let regroup : (k.0.front ++ q.0.front) ++ t ∷ other ≡ k.0.front ++ vs = append_assoc k.0.front
                      q.0.front (t ∷ other) in
                      let there : us ≡ q.0.front ++ t ∷ after = q.0.parts ∙ ap (λ (w : List Token). q.0.front ++ w) is in
                      let all : Suffices m j (k.0.front ++ vs) = subst (Suffices m j) regroup enough in
                      let tested : next vs ≡ true = hang q.0.front (t ∷ other) (t ∷ after) q.1 q.2
                      ∙ sym (ap next there) ∙ k.0.ended in
                      let on : ends vs ≡ false = ends_hang q.0.front (t ∷ other) (t ∷ after) q.1 q.2
                      ∙ sym (ap ends there) ∙ goes_on in
                      let one = again_before a us k.0 q.0.front t after other j there tested room all in
                      ap All regroup ∙ goes (k.0.front ++ vs) a vs one on
                      ∙ ap (λ (o : Outcome (List A × List Token)). o >>= λ b. Ok (a ∷ b.0, b.1))
                      (q.0.again j t after other is test room (omega (arith, all, length-append k.0.front vs, k.1)));
                },
                omega (arith, k.1, length-append k.0.front q.0.front),
                decided_more k.0.front q.0.front k.2,
              ))

      halts : (f : SourceFault) → All ts ≡ Err f → f.code ≡ codes.Syntax
          → ((h : IsHalt m (λ j. All) (lined n) ts f) × Decided (h.front ++ h.token ∷ [])) ⊎ IsElsewhere true ts f
      halts f e wrong = elim (bind_err (item ts) _ f (sym (step ts) ∙ e)) [
        | inl fails ↦ elim (first.halts f fails wrong) [
          | inl h ↦ inl (
            record {
              front = h.0.front;
              token = h.0.token;
              after = h.0.after;
              parts = h.0.parts;
              at_place = h.0.at_place;
              again = λ j other room enough. step (h.0.front ++ h.0.token ∷ other)
                  ∙ rw (h.0.again j other room enough) refl;
            },
            h.1,
          )
          | inr other ↦ inr other
        ]
        | inr a ↦ elim (either_way (ends a.0.1) _ _ (Err f) a.2) [
          | inl g ↦ absurd cc
          | inr g ↦ elim (bind_err (All a.0.1) _ f g.1) [
            | inl fails ↦ further a.0.0 a.0.1 a.1 g.0 fails
            | inr b ↦ absurd cc
          ]
        ]
      ]
        where
          further : (a : A) (us : List Token) → item ts ≡ Ok (a, us) → ends us ≡ false → All us ≡ Err f
              → ((h : IsHalt m (λ j. All) (lined n) ts f) × Decided (h.front ++ h.token ∷ [])) ⊎ IsElsewhere true ts f
          further a us read goes_on fails =
              let k = first.takes (a, us) read in
              elim ((later us (left us a read)).halts f fails wrong) [
                | inl q ↦ inl (
                  record {
                    front = k.0.front ++ q.0.front;
                    token = q.0.token;
                    after = q.0.after;
                    parts = k.0.parts ∙ ap (λ (w : List Token). k.0.front ++ w) q.0.parts
                        ∙ sym (append_assoc k.0.front q.0.front (q.0.token ∷ q.0.after));
                    at_place = q.0.at_place;
                    again = λ j other room enough.
                        let vs : List Token = q.0.front ++ q.0.token ∷ other in
                        let regroup : (k.0.front ++ q.0.front) ++ q.0.token ∷ other ≡ k.0.front ++ vs = append_assoc
                        k.0.front q.0.front (q.0.token ∷ other) in
                        let all : Suffices m j (k.0.front ++ vs) = subst (Suffices m j) regroup enough in
                        let start : List Token = q.0.front ++ q.0.token ∷ [] in
                        let some : 0 < length start = omega (arith, length-append q.0.front (q.0.token ∷ [])) in
                        let these : start ++ other ≡ vs = append_assoc q.0.front (q.0.token ∷ []) other in
                        let those : us ≡ start ++ q.0.after = q.0.parts ∙ sym (append_assoc q.0.front
                        (q.0.token ∷ []) q.0.after) in
                        let tested : next vs ≡ true = sym (ap next these) ∙ hang start other q.0.after some q.1
                        ∙ sym (ap next those) ∙ k.0.ended in
                        let on : ends vs ≡ false = sym (ap ends these) ∙ ends_hang start other q.0.after some q.1
                        ∙ sym (ap ends those) ∙ goes_on in
                        let one = again_before a us k.0 q.0.front q.0.token q.0.after other j q.0.parts tested room all in
                        ap All regroup ∙ goes (k.0.front ++ vs) a vs one on
                        ∙ ap (λ (o : Outcome (List A × List Token)). o >>= λ b. Ok (a ∷ b.0, b.1))
                        (q.0.again j other room (omega (arith, all, length-append k.0.front vs, k.1)));
                  },
                  subst Decided (sym (append_assoc k.0.front q.0.front (q.0.token ∷ [])))
                      (decided_more k.0.front (q.0.front ++ q.0.token ∷ []) k.2),
                )
                | inr other ↦ inr (elsewhere_behind true k.0.front us ts f k.0.parts k.0.unended other)
              ]

    pub several_local : (m : ℕ)
        → ((k : ℕ) → m ≤ k → (ts : List Token) → Suffices k (lined n) ts → IsItemAt k next item n ts)
        → (ts : List Token) → Suffices m (lined n) ts → IsItemAt m (both ends next) All n ts
    several_local m items = go (suc n) m items (omega arith)
      where
        go : (d m : ℕ) → ((k : ℕ) → m ≤ k → (ts : List Token) → Suffices k (lined n) ts → IsItemAt k next item n ts)
            → n < d + m → (ts : List Token) → Suffices m (lined n) ts → IsRow m ts
        go zero m items lt ts far = absurd (omega (arith, lt, far))
        go (suc d) m items lt ts far =
            let first = items m (omega arith) ts far in
            let later : (us : List Token) → Suffices (suc m) (lined n) us → IsRow (suc m) us = go d (suc m)
            (λ k le. items k (omega (arith, le))) (omega (arith, lt)) in
            record { takes = takes m ts far first later; halts = halts m ts far first later }
