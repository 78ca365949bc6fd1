-- Parts in a row, as a loop goes through them: matter of proofs, for whoever checks and resolves part after part.
use Rattle.std.proofs.Common.{◌≡◌, List, [], ◌∷◌, ◌++◌, append_assoc, Option, None, Some, fold, option_map, refl, sym}
use Rattle.std.proofs.Common.{ap, ◌∙◌}
use Rattle.std.proofs.lemmas.List.{append-nil}
use Rattle.om_lexer.specs.declared.fault.SourceFault.{SourceFault}
use Rattle.om_scope_rules.specs.Faults.{breaches_along, first_of}
use Rattle.om_scope_rules.specs.Outcomes.{Refuses}
use Rattle.om_scope_rules.specs.Perhaps.{◌>>=◌, all_along, all_of, each, each_along}

-- the first breach of the first part that has one
pub first_of_left : (xs ys : List SourceFault) (fault : SourceFault) → first_of xs ≡ Some fault
    → first_of (xs ++ ys) ≡ Some fault
first_of_left [] ys fault e = cc
first_of_left (x ∷ xs) ys fault e = e

-- of two parts in a row neither has a breach, or the first that has one refuses
pub both_whole : (xs ys : List SourceFault) → xs ≡ [] → ys ≡ [] → xs ++ ys ≡ []
both_whole xs ys first second = ap (λ before. before ++ ys) first ∙ second

pub first_refuses : (xs ys : List SourceFault) (fault : SourceFault) → Refuses xs fault → Refuses (xs ++ ys) fault
first_refuses xs ys fault refused other = first_of_left xs ys fault (refused other)

pub second_refuses : (xs ys : List SourceFault) (fault : SourceFault) → xs ≡ [] → Refuses ys fault
    → Refuses (xs ++ ys) fault
second_refuses xs ys fault whole refused other = ap (λ before. first_of (before ++ ys)) whole ∙ refused other

module _ {S X : Type 0} (breaches : S → X → List SourceFault) (after : S → X → S) where
  -- these parts are left, in this state; those before them have no breach
  pub record Unbroken (start : S) (all : List X) (state : S) (left : List X) : Type 0 where
    pub unbroken : breaches_along breaches after start all ≡ breaches_along breaches after state left
    pub behind : fold after start all ≡ fold after state left

  pub unbroken-begin : (start : S) (all : List X) → Unbroken start all start all
  unbroken-begin start all = record { unbroken = refl; behind = refl }

  pub unbroken-step : {start : S} {all : List X} {state : S} {x : X} {left : List X}
      → Unbroken start all state (x ∷ left) → breaches state x ≡ [] → Unbroken start all (after state x) left
  unbroken-step {start} {all} {state} {x} {left} l whole = record {
    unbroken = l.unbroken ∙ ap (λ here. here ++ breaches_along breaches after (after state x) left) whole;
    behind = l.behind;
  }

  pub unbroken-refuse : {start : S} {all : List X} {state : S} {x : X} {left : List X} {fault : SourceFault}
      → Unbroken start all state (x ∷ left) → Refuses (breaches state x) fault
      → Refuses (breaches_along breaches after start all) fault
  unbroken-refuse {start} {all} {state} {x} {left} {fault} l refused other =
      ap first_of l.unbroken ∙ first_of_left (breaches state x) (breaches_along breaches after (after state x) left)
      fault (refused other)

-- what is made so far, and behind it what the parts that are left give
abbrev pub made_and : {Y : Type 0} → List Y → Option (List Y) → Option (List Y)
made_and made left = option_map (λ rest. made ++ rest) left

pub nothing_made : {Y : Type 0} (left : Option (List Y)) → made_and [] left ≡ left
nothing_made None = refl
nothing_made (Some left) = refl

-- one more
one_made : {Y : Type 0} (made : List Y) (y : Y) (rest : Option (List Y))
    → made_and made (rest >>= λ ys. Some (y ∷ ys)) ≡ made_and (made ++ y ∷ []) rest
one_made made y None = refl
one_made made y (Some rest) = ap Some (sym (append_assoc made (y ∷ []) rest))

-- several more
front_made : {Y : Type 0} (made front : List Y) (rest : Option (List Y))
    → made_and made (rest >>= λ rest. Some (front ++ rest)) ≡ made_and (made ++ front) rest
front_made made front None = refl
front_made made front (Some rest) = ap Some (sym (append_assoc made front rest))

more_made : {Y : Type 0} (made grown : List Y) (front rest : Option (List Y)) → made_and made front ≡ Some grown
    → made_and made (front >>= λ front. rest >>= λ rest. Some (front ++ rest)) ≡ made_and grown rest
more_made made grown None rest e = cc
more_made made grown (Some front) rest e =
    let same : made ++ front ≡ grown = cc in
    front_made made front rest ∙ ap (λ done. made_and done rest) same

-- one more, where there is one
next_made : {Y : Type 0} (made grown : List Y) (next : Option Y) (rest : Option (List Y))
    → option_map (λ y. made ++ y ∷ []) next ≡ Some grown
    → made_and made (next >>= λ y. rest >>= λ ys. Some (y ∷ ys)) ≡ made_and grown rest
next_made made grown None rest e = cc
next_made made grown (Some y) rest e =
    let same : made ++ y ∷ [] ≡ grown = cc in
    one_made made y rest ∙ ap (λ done. made_and done rest) same

module _ {S X Y : Type 0} (after : S → X → S) where
  pub each_along-step : (f : S → X → Option Y) (state : S) (x : X) (left : List X) (made grown : List Y)
      → option_map (λ y. made ++ y ∷ []) (f state x) ≡ Some grown
      → made_and made (each_along f after state (x ∷ left)) ≡ made_and grown (each_along f after (after state x) left)
  each_along-step f state x left made grown found = next_made made grown (f state x)
      (each_along f after (after state x) left) found

  pub all_along-step : (f : S → X → Option (List Y)) (state : S) (x : X) (left : List X) (made grown : List Y)
      → made_and made (f state x) ≡ Some grown
      → made_and made (all_along f after state (x ∷ left)) ≡ made_and grown (all_along f after (after state x) left)
  all_along-step f state x left made grown found = more_made made grown (f state x)
      (all_along f after (after state x) left) found

module _ {X Y : Type 0} where
  pub each-step : (f : X → Option Y) (x : X) (left : List X) (made : List Y) (y : Y) → f x ≡ Some y
      → made_and made (each f (x ∷ left)) ≡ made_and (made ++ y ∷ []) (each f left)
  each-step f x left made y found =
      ap (λ one. made_and made (one >>= λ y. each f left >>= λ ys. Some (y ∷ ys))) found ∙ one_made made y (each f left)

  pub all_of-step : (f : X → Option (List Y)) (x : X) (left : List X) (made grown : List Y) → made_and made (f x)
      ≡ Some grown
      → made_and made (all_of f (x ∷ left)) ≡ made_and grown (all_of f left)
  all_of-step f x left made grown found = more_made made grown (f x) (all_of f left) found

-- where no part is left, none has a breach
pub row_whole : {S X : Type 0} {breaches : S → X → List SourceFault} {after : S → X → S} {start : S} {all : List X}
    {state : S} {left : List X}
    → left ≡ [] → Unbroken breaches after start all state left → breaches_along breaches after start all ≡ []
row_whole {S} {X} {breaches} {after} {start} {all} {state} none l = l.unbroken
    ∙ ap (breaches_along breaches after state) none

-- it is the state behind all of them
pub row_behind : {S X : Type 0} {breaches : S → X → List SourceFault} {after : S → X → S} {start : S} {all : List X}
    {state : S} {left : List X}
    → left ≡ [] → Unbroken breaches after start all state left → state ≡ fold after start all
row_behind {S} {X} {breaches} {after} {start} {all} {state} none l = sym (l.behind ∙ ap (fold after state) none)

-- all is made
pub row_made : {X Y : Type 0} (part : List X → Option (List Y)) (made : List Y) (left : List X) → part [] ≡ Some []
    → left ≡ []
    → made_and made (part left) ≡ Some made
row_made part made left nothing none = ap (λ l. made_and made (part l)) none ∙ ap (made_and made) nothing
    ∙ ap Some (append-nil made)
