-- Breaches of rules, and where they stand.
use Rattle.std.specs.Prelude.{ℕ, List, [], ◌∷◌, ◌++◌, ◌&&◌, ◌||◌, nat_lt, nat_le, nat_eq, Option, None, Some, Bool}
use Rattle.std.specs.Prelude.{if◌then◌else◌}
use Rattle.om_lexer.specs.Faults.{number_of}
use Rattle.om_lexer.specs.declared.fault.FaultCode.{FaultCode}
use Rattle.om_lexer.specs.declared.fault.SourceFault.{SourceFault}

-- the first breach, if there is one
abbrev pub first_of : List SourceFault → Option SourceFault
first_of [] = None
first_of (breach ∷ breaches) = Some breach

-- a breach at a place, where there is one
abbrev pub breach_if : Bool → FaultCode → ℕ → List SourceFault
breach_if broken code at = if broken then record { code = code; at = at } ∷ [] else []

-- a breach is answered before another one: its place is lower, or the same and its number is
abbrev pub goes_first : SourceFault → SourceFault → Bool
goes_first a b = nat_lt a.at b.at || (nat_eq a.at b.at && nat_le (number_of a.code) (number_of b.code))

-- a further breach among others, in the order in which they are answered
abbrev pub with_breach : SourceFault → List SourceFault → List SourceFault
with_breach b [] = b ∷ []
with_breach b (breach ∷ breaches) = if goes_first breach b then breach ∷ with_breach b breaches else b ∷ breach
    ∷ breaches

-- what is answered of a part that has this fault, or none, and in which a further rule is broken
abbrev pub answered_among : Option SourceFault → SourceFault → SourceFault
answered_among None b = b
answered_among (Some fault) b = if goes_first fault b then fault else b

-- a further breach at a place, where there is one, among others
abbrev pub perhaps_with : Bool → FaultCode → ℕ → List SourceFault → List SourceFault
perhaps_with broken code at breaches = if broken then with_breach (record { code = code; at = at }) breaches else
    breaches

-- the breaches of parts in a row, each in the state behind those before it (C17 6.2.1p7)
abbrev pub breaches_along : {S X : Type 0} → (S → X → List SourceFault) → (S → X → S) → S → List X → List SourceFault
breaches_along breaches after state [] = []
breaches_along breaches after state (x ∷ xs) = breaches state x ++ breaches_along breaches after (after state x) xs
