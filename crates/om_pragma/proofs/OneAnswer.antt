-- Tokens are a directive or none, for one reason at one place.
use Rattle.std.proofs.Common.{◌≡◌, ℕ, List, [], ◌∷◌, ◌++◌, Result, Ok, Err, refl, sym, ap, subst, ◌∙◌, ◌⊎◌, inl, inr}
use Rattle.std.proofs.Common.{append_assoc}
use Rattle.om_lexer.specs.declared.fault.SourceFault.{SourceFault}
use Rattle.om_lexer.specs.declared.token.Token.{Token}
use Rattle.om_pragma.specs.declared.tree.Directive.{Directive}
use Rattle.om_pragma.specs.Reading.{place, fault, directive_at}
use Rattle.om_pragma.specs.Refusals.{IsRefusal, BeginsDirective, StopsAt, EndsOnce, IsAnswer}
use Rattle.om_pragma.specs.Table.{IsDirectiveOf}
use Rattle.om_pragma.proofs.Directives.{same_directive, directive_is}
use Rattle.om_pragma.proofs.Halts.{syntax_stops}
use Rattle.om_pragma.proofs.Refused.{refusal, one_fault, fault_in_no_directive}

-- ---- where S3 stands

-- one beginning goes on where the other stops
record GoesFurther (front rest further : List Token) : Type 0 where
  next : Token
  after : List Token
  more : List Token
  rest_is : rest ≡ next ∷ after
  further_is : further ≡ (front ++ next ∷ []) ++ more

one_more : (t u : Token) (front further rest : List Token) → t ≡ u → GoesFurther front rest further
    → GoesFurther (t ∷ front) rest (u ∷ further)
one_more t u front further rest head g = record {
  next = g.next;
  after = g.after;
  more = g.more;
  rest_is = g.rest_is;
  further_is = ap (λ (w : List Token). u ∷ w) g.further_is ∙ ap (λ x. x ∷ ((front ++ g.next ∷ []) ++ g.more))
      (sym head);
}

-- two cuts of the same tokens
compare : (front rest other left : List Token) → front ++ rest ≡ other ++ left → (rest ≡ left)
    ⊎ (GoesFurther front rest other ⊎ GoesFurther other left front)
compare [] rest [] left e = inl e
compare [] rest (t ∷ other) left e =
    inr (inl (record { next = t; after = other ++ left; more = other; rest_is = e; further_is = refl }))
compare (t ∷ front) rest [] left e =
    inr (inr (record { next = t; after = front ++ rest; more = front; rest_is = sym e; further_is = refl }))
compare (t ∷ front) rest (u ∷ other) left e =
    let head : t ≡ u = cc in
    let tail : front ++ rest ≡ other ++ left = cc in
    elim (compare front rest other left tail) [
      | inl same ↦ inl same
      | inr (inl g) ↦ inr (inl (one_more t u front other rest head g))
      | inr (inr g) ↦ inr (inr (one_more u t other front left (sym head) g))
    ]

begins_less : (front more : List Token) → BeginsDirective (front ++ more) → BeginsDirective front
begins_less front more b = record {
  directive = b.directive;
  more = more ++ b.more;
  written = b.written;
  parts = b.parts ∙ append_assoc front more b.more;
}

not_further : (ts : List Token) (a b : ℕ) (x : StopsAt ts a) (y : StopsAt ts b) → GoesFurther x.front
    (x.first ∷ x.after) y.front → ⊥
not_further ts a b x y g =
    let rest : x.first ∷ x.after ≡ g.next ∷ g.after = g.rest_is in
    let same : g.next ≡ x.first = cc in
    x.stops (subst (λ (t : Token). BeginsDirective (x.front ++ t ∷ [])) same (begins_less (x.front ++ g.next ∷ [])
    g.more (subst BeginsDirective g.further_is y.begins)))

stop_one : (ts : List Token) (a b : ℕ) → StopsAt ts a → StopsAt ts b → a ≡ b
stop_one ts a b x y = elim (compare x.front (x.first ∷ x.after) y.front (y.first ∷ y.after) (sym x.parts ∙ y.parts)) [
  | inl same ↦ sym x.place ∙ ap place same ∙ y.place
  | inr (inl g) ↦ absurd (not_further ts a b x y g)
  | inr (inr g) ↦ absurd (not_further ts b a y x g)
]

-- ---- one answer

same_fault : (f g : SourceFault) → f.code ≡ g.code → f.at ≡ g.at → f ≡ g
same_fault f g code at = λ i. fault (code i) (at i)

no_directive : (ts : List Token) (d : Directive (List Token)) (f : SourceFault) → IsDirectiveOf ts d
    → IsRefusal ts f → ⊥
no_directive ts d f is (inl syntax) = syntax.1.no_directive d is
no_directive ts d f is (inr word) = fault_in_no_directive ts f.code f.at d word is

one_refusal : (ts : List Token) (f g : SourceFault) → IsAnswer ts (Err f) → IsAnswer ts (Err g) → f ≡ g
one_refusal ts f g (inl s, stops) (inl u, halts) = same_fault f g (s.0 ∙ sym u.0) (stop_one ts f.at g.at (stops s.0)
    (halts u.0))
one_refusal ts f g (inl s, stops) (inr v, halts) = absurd (s.1.no_other g.code g.at v)
one_refusal ts f g (inr w, stops) (inl u, halts) = absurd (u.1.no_other f.code f.at w)
one_refusal ts f g (inr w, stops) (inr v, halts) = let same = one_fault ts f.code g.code f.at g.at w v in same_fault
    f g same.0 same.1

pub one_answer : (ts : List Token) (a b : Result (Directive (List Token)) SourceFault) → IsAnswer ts a
    → IsAnswer ts b → a ≡ b
one_answer ts (Ok d) (Ok e) x y = ap Ok (same_directive d e x.formed y.formed (x.spelled ∙ sym y.spelled))
one_answer ts (Ok d) (Err g) x y = absurd (no_directive ts d g x y.0)
one_answer ts (Err f) (Ok e) x y = absurd (no_directive ts e f y x.0)
one_answer ts (Err f) (Err g) x y = ap Err (one_refusal ts f g x y)

pub is_answer : (ts : List Token) → EndsOnce ts → IsAnswer ts (directive_at ts)
is_answer ts once = go (directive_at ts) refl
  where
    go : (r : Result (Directive (List Token)) SourceFault) → directive_at ts ≡ r → IsAnswer ts r
    go (Ok d) is = directive_is ts d is
    go (Err f) is = (refusal ts f is, λ syntax. syntax_stops ts f once is syntax)
