-- One item and more that are read: as a loop reads them, as they are spelled, and as they are read again.
use Rattle.std.proofs.Common.{◌≡◌, ℕ, zero, suc, ◌<◌, ◌≤◌, List, [], ◌∷◌, ◌++◌, length, Ok, Err, Bool, true, false, refl}
use Rattle.std.proofs.Common.{sym, ap, subst, ◌∙◌, append_assoc, length-append, arith, ◌⊎◌, inl, inr, All}
use Rattle.std.specs.List.{flat_map}
use Rattle.std.proofs.lemmas.List.{append-nil}
use Rattle.std.proofs.lemmas.List.Elements.{All-nil, All-cons, All-head, All-tail}
use Rattle.om_lexer.specs.Faults.{no_memory}
use Rattle.om_lexer.specs.declared.fault.SourceFault.{SourceFault}
use Rattle.om_lexer.specs.declared.token.Token.{Token}
use Rattle.om_parser_parts.specs.Laws.{IsAnswer}
use Rattle.om_parser_parts.specs.Reading.{◌>>=◌, Outcome, Reader}
use Rattle.om_parser_parts.specs.Again.{bind_answer}
use Rattle.om_parser_parts.specs.ItemsComplete.{items_length}
use Rattle.om_parser.specs.OneOrMore.{one_or_more}
use Rattle.om_parser_parts.specs.Outcomes.{ok, ok_is, bind_ok, either_way, after_front}

-- ---- as a loop reads them

abbrev pub Several : Type 0 → Type 0
Several A = Outcome (List A × List Token)

abbrev pub with_front : {A : Type 0} → List A → Several A → Several A
with_front front read = read >>= λ x. Ok (front ++ x.0, x.1)

regroup : {A : Type 0} (front : List A) (a : A) (read : Several A) → with_front front
    (read >>= λ x. Ok (a ∷ x.0, x.1)) ≡ with_front (front ++ a ∷ []) read
regroup front a (Ok x) = ap (λ (xs : List _). Ok (xs, x.1)) (simp append_assoc)
regroup front a (Err e) = refl

-- what was read before, and what is still to be read, make the whole
abbrev pub MoreLeft : {A : Type 0} → (List Token → Bool) → Reader A → List A → List Token → Several A → Type 0
MoreLeft ends item front ts total = (n : ℕ) × (length ts ≤ n) × (with_front front (one_or_more ends item n ts) ≡ total)

pub more_begins : {A : Type 0} (ends : List Token → Bool) (item : Reader A) (ts : List Token)
    → MoreLeft ends item [] ts (one_or_more ends item (length ts) ts)
more_begins ends item ts = (length ts, omega arith, same (one_or_more ends item (length ts) ts))
  where
    same : {A : Type 0} (read : Several A) → with_front [] read ≡ read
    same (Ok x) = refl
    same (Err e) = refl

module _ {A : Type 0} (ends : List Token → Bool) (item : Reader A) (front : List A) (ts : List Token)
    (total : Several A) where
  pub more_fails : (f : SourceFault) → (f ≡ no_memory) ⊎ (item ts ≡ Err f) → MoreLeft ends item front ts total
      → (f ≡ no_memory) ⊎ (total ≡ Err f)
  unfolding one_or_more
  more_fails f (inl memory) (n, le, e) = inl memory
  more_fails f (inr fails) (zero, le, e) = inr (sym e ∙ rw fails refl)
  more_fails f (inr fails) (suc n, le, e) = inr (sym e ∙ rw fails refl)

  pub more_ends : (a : A) (us : List Token) → item ts ≡ Ok (a, us) → ends us ≡ true → length us < length ts
      → MoreLeft ends item front ts total → total ≡ Ok (front ++ a ∷ [], us)
  unfolding one_or_more
  more_ends a us reads ended lt (zero, le, e) = absurd (omega arith)
  more_ends a us reads ended lt (suc n, le, e) = sym e ∙ rw (reads, ended) refl

  pub more_goes_on : (a : A) (us : List Token) → item ts ≡ Ok (a, us) → ends us ≡ false → length us < length ts
      → MoreLeft ends item front ts total → MoreLeft ends item (front ++ a ∷ []) us total
  unfolding one_or_more
  more_goes_on a us reads more_stand lt (zero, le, e) = absurd (omega arith)
  more_goes_on a us reads more_stand lt (suc n, le, e) = (
    n,
    omega arith,
    sym (regroup front a (one_or_more ends item n us)) ∙ (rw (reads, more_stand) at e),
  )

-- ---- as they are spelled

-- one at least, and what is said of the first and of the others
abbrev pub FirstAndMore : {A : Type 0} (P Q : A → Type 0) → List A → Type 0
FirstAndMore P Q [] = ⊥
FirstAndMore P Q (x ∷ xs) = P x × All Q xs

pub each_of : {A : Type 0} (Q : A → Type 0) (xs : List A) → FirstAndMore Q Q xs → All Q xs
each_of Q [] h = absurd h
each_of Q (x ∷ xs) h = All-cons Q x xs h.0 h.1

pub record AreSeveralRead {A : Type 0} (spell : A → List Token) (P Q : A → Type 0) (ts : List Token)
    (x : List A × List Token) : Type 0 where
  pub parts : ts ≡ flat_map spell x.0 ++ x.1
  pub formed : FirstAndMore P Q x.0

module _ {A : Type 0} (spell : A → List Token) (Q : A → Type 0) (ends : List Token → Bool) (item : Reader A)
    (spelled : (ts : List Token) (x : A × List Token) → item ts ≡ ok x → ts ≡ spell x.0 ++ x.1)
    (further : (ts : List Token) (x : A × List Token) → ends ts ≡ false → item ts ≡ ok x → Q x.0) where
  -- such items, of which the first is read as P says
  pub several_sound : (P : A → Type 0) (k : ℕ) (ts : List Token) (x : List A × List Token)
      → ((y : A × List Token) → item ts ≡ ok y → P y.0) → one_or_more ends item k ts ≡ ok x
      → AreSeveralRead spell P Q ts x
  unfolding one_or_more
  several_sound P zero ts x first h = let a = bind_ok (item ts) _ x h in absurd cc
  several_sound P (suc k) ts x first h =
      let a = bind_ok (item ts) _ x h in
      let one = spelled ts a.0 a.1 in
      elim (either_way (ends a.0.1) _ _ (ok x) a.2) [
        | inl g ↦ subst (AreSeveralRead spell P Q ts) (ok_is (a.0.0 ∷ [], a.0.1) x g.1)
            (record { parts = one ∙ simp append-nil; formed = (first a.0 a.1, All-nil Q) })
        | inr g ↦
            let b = bind_ok (one_or_more ends item k a.0.1) _ x g.1 in
            let more = several_sound Q k a.0.1 b.0 (λ y reads. further a.0.1 y g.0 reads) b.1 in
            subst (AreSeveralRead spell P Q ts) (ok_is (a.0.0 ∷ b.0.0, b.0.1) x b.2) (record {
              parts = after_front ts (spell a.0.0) a.0.1 (flat_map spell b.0.0) b.0.1 one more.parts;
              formed = (first a.0 a.1, each_of Q b.0.0 more.formed);
            })
      ]

-- ---- as they are read again

-- items of which each is read again where such tokens follow, and others go on behind it
pub record AreSeveralAgain {A : Type 0} (spell : A → List Token) (P Q F : A → Type 0)
    (MayFollow : List Token → Type 0) (ends : List Token → Bool) (item : Reader A) : Type 0 where
  pub one : (x : A) (rest : List Token) → P x → MayFollow rest → IsAnswer (F x) (item (spell x ++ rest)) (x, rest)
  pub further : (x : A) → Q x → P x
  pub goes_on : (x : A) (rest : List Token) → Q x → ends (spell x ++ rest) ≡ false
  pub follows : (x : A) (rest : List Token) → Q x → MayFollow (spell x ++ rest)
  pub some_tokens : (x : A) → Q x → 0 < length (spell x)

module _ {A : Type 0} (spell : A → List Token) (P Q F : A → Type 0) (MayFollow : List Token → Type 0)
    (ends : List Token → Bool) (item : Reader A) (again : AreSeveralAgain spell P Q F MayFollow ends item)
    (us : List Token) (ended : ends us ≡ true) (may_end : MayFollow us) where
  may_follow : (xs : List A) → All Q xs → MayFollow (flat_map spell xs ++ us)
  may_follow [] g = may_end
  may_follow (x ∷ xs) g = subst MayFollow (sym (append_assoc (spell x) (flat_map spell xs) us))
      (again.follows x (flat_map spell xs ++ us) (All-head Q x xs g))

  so_many : (k : ℕ) (x : A) (xs : List A) → length xs < k → P x → All Q xs → IsAnswer (All F (x ∷ xs))
      (one_or_more ends item k (flat_map spell (x ∷ xs) ++ us)) (x ∷ xs, us)
  unfolding one_or_more
  so_many zero x xs lt f g = absurd (omega arith)
  so_many (suc k) x [] lt f g =
      rw (append_assoc (spell x) [] us) (bind_answer (item (spell x ++ us)) _ (x, us) (x ∷ [], us)
      (λ w. All-head F x [] w) (again.one x us f may_end) (inl (rw ended refl)))
  so_many (suc k) x (y ∷ ys) lt f g =
      let rest : List Token = flat_map spell (y ∷ ys) ++ us in
      let more_stand : ends rest ≡ false = rw (append_assoc (spell y) (flat_map spell ys) us)
      (again.goes_on y (flat_map spell ys ++ us) (All-head Q y ys g)) in
      rw (append_assoc (spell x) (flat_map spell (y ∷ ys)) us) (bind_answer (item (spell x ++ rest)) _ (x, rest)
      (x ∷ y ∷ ys, us) (λ w. All-head F x (y ∷ ys) w) (again.one x rest f (may_follow (y ∷ ys) g))
      (rw more_stand (bind_answer (one_or_more ends item k rest) _ (y ∷ ys, us) (x ∷ y ∷ ys, us)
      (λ w. All-tail F x (y ∷ ys) w)
      (so_many k y ys (omega arith) (again.further y (All-head Q y ys g)) (All-tail Q y ys g)) (inl refl))))

  pub several_again : (x : A) (xs : List A) → 0 < length (spell x) → P x → All Q xs → IsAnswer (All F (x ∷ xs))
      (one_or_more ends item (length (flat_map spell (x ∷ xs) ++ us)) (flat_map spell (x ∷ xs) ++ us)) (x ∷ xs, us)
  several_again x xs some f g = so_many (length (flat_map spell (x ∷ xs) ++ us)) x xs (omega (
    arith,
    some,
    items_length spell Q again.some_tokens xs g,
    length-append (spell x) (flat_map spell xs),
    length-append (flat_map spell (x ∷ xs)) us,
  )) f g
