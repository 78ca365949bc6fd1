-- What names mean among variables that are in scope, where some of them are of the body, and those outside of it.
use Rattle.std.proofs.Common.{◌≡◌, ℕ, Bool, true, false, List, [], ◌∷◌, ◌++◌, Some, refl, ap}
use Rattle.std.proofs.Common.{bytes_eq, flat_map, map, subst}
use Rattle.std.specs.Prelude.{if◌then◌else◌}
use Rattle.std.specs.Option.{option_or}
use Rattle.std.proofs.lemmas.Slice.Eq.{bytes_eq-Decides}
use Rattle.om_scope_tree.specs.declared.resolved.Capture.{Capture}
use Rattle.om_scope_tree.specs.declared.resolved.GlobalVariable.{GlobalVariable}
use Rattle.om_scope_tree.specs.declared.resolved.Variable.TheVariants as named
use Rattle.om_scope_tree.specs.ResolvedTree.{ResolvedDeclaratorTree, ResolvedClauseTree, ClauseValue, Shared, Copied}
use Rattle.om_scope_tree.specs.ResolvedTree.{ResolvedStartTree, StartNothing, StartExpression, StartDeclaration}
use Rattle.om_scope_rules.specs.TreePlaces.{Place, Declared, Begun, clause_places, declarator_place, start_places}
use Rattle.om_name_laws.specs.Sees.{Known, HaveNoCopies, IsSeenAs, after_declarators, after_start, known_as, known_of}
use Rattle.om_name_laws.specs.Sees.{known_scalar}
use Rattle.om_name_laws.specs.Sees.{with_copies}

pub known_both : (name : List ℕ) (ks ls : List Known)
    → known_as name (ks ++ ls) ≡ option_or (known_as name ks) (known_as name ls)
known_both name [] ls = refl
known_both name (k ∷ ks) ls = first (bytes_eq name k.name) (known_both name ks ls)
  where
    first : (b : Bool) → known_as name (ks ++ ls) ≡ option_or (known_as name ks) (known_as name ls)
        → (if b then Some k else known_as name (ks ++ ls))
        ≡ option_or (if b then Some k else known_as name ks) (known_as name ls)
    first true e = refl
    first false e = e

same_name : (name : List ℕ) → bytes_eq name name ≡ true
same_name name = (bytes_eq-Decides name name).1 refl

pub known_first : (k : Known) (ks : List Known) → known_as k.name (k ∷ ks) ≡ Some k
known_first k ks = ap (λ b. if b then Some k else known_as k.name ks) (same_name k.name)

-- the innermost one is seen by its name
pub seen_first : (globals : List GlobalVariable) (k : Known) (ks : List Known)
    → IsSeenAs globals (k ∷ ks) k.name (named.Local k.at)
seen_first globals k ks = (k, refl, refl, known_first k ks)

-- ---- Q of each of these variables

abbrev pub AreOf : (Q : List ℕ → ℕ → Type 0) → List Known → Type 0
AreOf Q [] = Unit {0}
AreOf Q (k ∷ ks) = Q k.name k.at × AreOf Q ks

pub found_of : (Q : List ℕ → ℕ → Type 0) (name : List ℕ) (ks : List Known) (k : Known) → AreOf Q ks
    → known_as name ks ≡ Some k → Q k.name k.at
found_of Q name [] k h e = absurd cc
found_of Q name (x ∷ ks) k h e = first (bytes_eq name x.name) e (found_of Q name ks k h.1)
  where
    first : (b : Bool) → (if b then Some x else known_as name ks) ≡ Some k
        → (known_as name ks ≡ Some k → Q k.name k.at) → Q k.name k.at
    first true e rest = let same : x ≡ k = cc e in subst (λ (z : Known). Q z.name z.at) same h.0
    first false e rest = rest e

pub of_both : (Q : List ℕ → ℕ → Type 0) (ks ls : List Known) → AreOf Q ks → AreOf Q ls → AreOf Q (ks ++ ls)
of_both Q [] ls h g = g
of_both Q (k ∷ ks) ls h g = (h.0, of_both Q ks ls h.1 g)

-- ---- in front of those outside

pub declarators_front : (ds : List ResolvedDeclaratorTree) (ks ls : List Known)
    → after_declarators (ks ++ ls) ds ≡ after_declarators ks ds ++ ls
declarators_front [] ks ls = refl
declarators_front (d ∷ ds) ks ls = declarators_front ds (known_of d ∷ ks) ls

pub start_front : (start : ResolvedStartTree) (ks ls : List Known)
    → after_start (ks ++ ls) start ≡ after_start ks start ++ ls
start_front StartNothing ks ls = refl
start_front (StartExpression e) ks ls = refl
start_front (StartDeclaration ds) ks ls = declarators_front ds ks ls

pub copies_front : (cs : List ResolvedClauseTree) (ks ls : List Known)
    → with_copies (ks ++ ls) cs ≡ with_copies ks cs ++ ls
copies_front [] ks ls = refl
copies_front (ClauseValue kind e ∷ cs) ks ls = copies_front cs ks ls
copies_front (Shared v ∷ cs) ks ls = copies_front cs ks ls
copies_front (Copied kind original copy ∷ cs) ks ls = copies_front cs (known_scalar copy ∷ ks) ls

-- ---- variables that stand at these places

abbrev pub PlacesOf : (Q : List ℕ → ℕ → Type 0) → List Place → Type 0
PlacesOf Q [] = Unit {0}
PlacesOf Q (Declared v ∷ ps) = Q v.name v.at × PlacesOf Q ps
PlacesOf Q (Begun at ∷ ps) = PlacesOf Q ps

pub places_front : (Q : List ℕ → ℕ → Type 0) (ps qs : List Place) → PlacesOf Q (ps ++ qs) → PlacesOf Q ps
places_front Q [] qs h = tt
places_front Q (Declared v ∷ ps) qs h = (h.0, places_front Q ps qs h.1)
places_front Q (Begun at ∷ ps) qs h = places_front Q ps qs h

pub places_back : (Q : List ℕ → ℕ → Type 0) (ps qs : List Place) → PlacesOf Q (ps ++ qs) → PlacesOf Q qs
places_back Q [] qs h = h
places_back Q (Declared v ∷ ps) qs h = places_back Q ps qs h.1
places_back Q (Begun at ∷ ps) qs h = places_back Q ps qs h

pub declarators_of : (Q : List ℕ → ℕ → Type 0) (ds : List ResolvedDeclaratorTree) (ks ls : List Known)
    → PlacesOf Q (map declarator_place ds) → AreOf Q (ks ++ ls) → AreOf Q (after_declarators ks ds ++ ls)
declarators_of Q [] ks ls h of = of
declarators_of Q (d ∷ ds) ks ls h of = declarators_of Q ds (known_of d ∷ ks) ls h.1 (h.0, of)

pub start_of : (Q : List ℕ → ℕ → Type 0) (start : ResolvedStartTree) (ks ls : List Known)
    → PlacesOf Q (start_places start) → AreOf Q (ks ++ ls) → AreOf Q (after_start ks start ++ ls)
start_of Q StartNothing ks ls h of = of
start_of Q (StartExpression e) ks ls h of = of
start_of Q (StartDeclaration ds) ks ls h of = declarators_of Q ds ks ls h of

pub copies_of : (Q : List ℕ → ℕ → Type 0) (cs : List ResolvedClauseTree) (ks ls : List Known)
    → PlacesOf Q (flat_map clause_places cs) → AreOf Q (ks ++ ls) → AreOf Q (with_copies ks cs ++ ls)
copies_of Q [] ks ls h of = of
copies_of Q (ClauseValue kind e ∷ cs) ks ls h of = copies_of Q cs ks ls h of
copies_of Q (Shared v ∷ cs) ks ls h of = copies_of Q cs ks ls h of
copies_of Q (Copied kind original copy ∷ cs) ks ls h of = copies_of Q cs (known_scalar copy ∷ ks) ls h.1 (h.0, of)

-- where no copy is made
pub no_copies : (cs : List ResolvedClauseTree) (ks : List Known) → HaveNoCopies cs → with_copies ks cs ≡ ks
no_copies [] ks h = refl
no_copies (ClauseValue kind e ∷ cs) ks h = no_copies cs ks h
no_copies (Shared v ∷ cs) ks h = no_copies cs ks h
no_copies (Copied kind original copy ∷ cs) ks h = absurd h

-- nothing is asked of what a region takes
abbrev pub Anything : List Known → List Capture → Type 0
Anything ks ts = Unit {0}
