-- Steps that stand in the order of their serials.
use Rattle.std.proofs.Common.{◌≡◌, sym, ◌∙◌, ap, subst, ℕ, ◌<◌, List, [], ◌∷◌, ◌++◌, ⊎_elim, arith}
use Rattle.std.specs.Prelude.{Contains}
use Rattle.std.proofs.lemmas.List.Elements.{Contains-append_cases}
use Rattle.lab_races.specs.declared.made.Made.{Made}
use Rattle.lab_races.specs.Races.{RiseFrom}
use Rattle.lab_races.proofs.Members.{Contains-none, Contains-cases, Contains-middle}

pub above : (low : ℕ) (ms : List Made) (a : Made) → RiseFrom low ms → Contains ms a → low < a.serial
above low [] a h at = absurd (Contains-none a at)
above low (m ∷ ms) a h at =
    ⊎_elim (λ is. subst (λ (x : Made). low < x.serial) is h.0)
    (λ rest. let more : m.serial < a.serial = above m.serial ms a h.1 rest in omega (arith, h.0, more))
    (Contains-cases m ms a at)

-- what stands before a step has a lesser serial
pub earlier : (low : ℕ) (before : List Made) (b : Made) (later : List Made) (a : Made)
    → RiseFrom low (before ++ b ∷ later) → Contains before a → a.serial < b.serial
earlier low [] b later a h at = absurd (Contains-none a at)
earlier low (m ∷ ms) b later a h at =
    ⊎_elim
    (λ is. subst (λ (x : Made). x.serial < b.serial) is
    (above m.serial (ms ++ b ∷ later) b h.1 (Contains-middle ms b later)))
    (λ rest. earlier m.serial ms b later a h.1 rest) (Contains-cases m ms a at)

behind : (low : ℕ) (before : List Made) (b : Made) (later : List Made) → RiseFrom low (before ++ b ∷ later)
    → RiseFrom b.serial later
behind low [] b later h = h.1
behind low (m ∷ ms) b later h = behind m.serial ms b later h.1

-- and what has a lesser serial stands before it
pub stands_before : (low : ℕ) (before : List Made) (b : Made) (later : List Made) (a : Made)
    → RiseFrom low (before ++ b ∷ later) → Contains (before ++ b ∷ later) a → a.serial < b.serial → Contains before a
stands_before low before b later a h at less =
    ⊎_elim (λ front. front)
    (λ rest. ⊎_elim
    (λ is. let same : b.serial ≡ a.serial = ap (λ (x : Made). x.serial) is in absurd (omega (arith, same, less)))
    (λ more. let over : b.serial < a.serial = above b.serial later a (behind low before b later h) more in absurd
    (omega (arith, over, less))) (Contains-cases b later a rest))
    (Contains-append_cases before (b ∷ later) a at)

-- one step alone has a serial
pub one_serial : (low : ℕ) (ms : List Made) (a c : Made) → RiseFrom low ms → Contains ms a → Contains ms c
    → a.serial ≡ c.serial → a ≡ c
one_serial low [] a c h first second same = absurd (Contains-none a first)
one_serial low (m ∷ ms) a c h first second same =
    ⊎_elim
    (λ a_is. ⊎_elim (λ c_is. sym a_is ∙ c_is)
    (λ c_rest. let over : m.serial < c.serial = above m.serial ms c h.1 c_rest in
    let is : m.serial ≡ a.serial = ap (λ (x : Made). x.serial) a_is in absurd (omega (arith, over, is, same)))
    (Contains-cases m ms c second))
    (λ a_rest. ⊎_elim
    (λ c_is. let over : m.serial < a.serial = above m.serial ms a h.1 a_rest in
    let is : m.serial ≡ c.serial = ap (λ (x : Made). x.serial) c_is in absurd (omega (arith, over, is, same)))
    (λ c_rest. one_serial m.serial ms a c h.1 a_rest c_rest same)
    (Contains-cases m ms c second)) (Contains-cases m ms a first)
