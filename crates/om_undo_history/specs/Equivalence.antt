-- When two runs of steps forwards are the same but for their order: no undo and no roll is among their steps. Two steps
-- that can each be made at a state and don't conflict make a diamond. Neighbours of a run that don't conflict can be
-- exchanged in it. Runs that differ by such exchanges are equivalent (Mazurkiewicz 1977; of Danos and Krivine 2004 the
-- part without undos), and end at the same state.
use Rattle.std.specs.Prelude.{◌≡◌, Some, List, [], ◌∷◌, ◌++◌}
use Rattle.om_state.specs.declared.step.Label.{Label}
use Rattle.om_state.specs.State.{State}
use Rattle.om_state.specs.Rules.{Rules, step_at, next_state, replay}
use Rattle.om_undo_history.specs.Laws.{Apart}

-- two steps that can each be made at s: each can be made after the other, both stay the same steps, and both ways end at
-- the same state
pub record Diamond (r : Rules) (s : State) (a b : Label) (s1 s2 : State) : Type 0 where
  pub last : State
  pub b_then : next_state r s1 b ≡ Some last
  pub a_then : next_state r s2 a ≡ Some last
  pub b_same : step_at r s1 b ≡ step_at r s b
  pub a_same : step_at r s2 a ≡ step_at r s a

abbrev pub Diamonds : Type 0
Diamonds = (r : Rules) (s s1 s2 : State) (a b : Label) → next_state r s a ≡ Some s1 → next_state r s b ≡ Some s2
    → Apart (step_at r s a).footprint (step_at r s b).footprint → Diamond r s a b s1 s2

-- neighbours of a run that don't conflict are exchanged in it, and it ends at the same state
abbrev pub Swaps : Type 0
Swaps = (r : Rules) (earlier later : List Label) (a b : Label) (s s1 now : State) → replay r earlier ≡ Some s
    → next_state r s a ≡ Some s1 → Apart (step_at r s a).footprint (step_at r s1 b).footprint
    → replay r (earlier ++ a ∷ b ∷ later) ≡ Some now → replay r (earlier ++ b ∷ a ∷ later) ≡ Some now

-- a step stays the same after one that was made and with which it doesn't conflict: what it touches, what comes of it and
-- its line. So it is made, blocked or ended as before
abbrev pub Untouched : Type 0
Untouched = (r : Rules) (s s1 : State) (a b : Label) → next_state r s a ≡ Some s1
    → Apart (step_at r s a).footprint (step_at r s b).footprint → step_at r s1 b ≡ step_at r s b

-- runs that differ by exchanges of neighbours that don't conflict
pub data Equivalent (r : Rules) (ms : List Label) : List Label → Type 0 where
  same : (ls : List Label) → ls ≡ ms → Equivalent r ms ls
  exchange : (ls earlier later : List Label) (a b : Label) (s s1 : State) → ls ≡ earlier ++ a ∷ b ∷ later
      → replay r earlier ≡ Some s → next_state r s a ≡ Some s1
      → Apart (step_at r s a).footprint (step_at r s1 b).footprint
      → Equivalent r ms (earlier ++ b ∷ a ∷ later) → Equivalent r ms ls

-- equivalent runs end at the same state
abbrev pub EquivalentRuns : Type 0
EquivalentRuns = (r : Rules) (ms ls : List Label) (now : State) → Equivalent r ms ls → replay r ls ≡ Some now
    → replay r ms ≡ Some now
