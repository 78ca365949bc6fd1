-- What places a label, and what stands behind it.
use Rattle.std.proofs.Common.{◌≡◌, ℕ, ◌<◌, Some, None, arith}
use Rattle.std.specs.Prelude.{slice_get}
use Rattle.om_code.specs.declared.instruction.Instr.{Instr}
use Rattle.om_lower_emit.specs.Drafts.{Written, moved, Puts, Defines}
use Rattle.om_lower_emit.specs.Emits.{Part, site, Goes, Emits}
use Rattle.om_lower_emit.specs.Writing.{define_length, goes_end, goes_here, goes_less, goes_put}
use Rattle.om_lower_rules.specs.Rows.{end, ins, here, ◌▸◌}
use Rattle.om_lower_rules.specs.Numbered.{Numbered}
use Rattle.om_lower_emit.specs.Going.{free_within}

abbrev IsFree : ℕ → Written → Type 0
IsFree label d = slice_get d.places label ≡ Some None

-- a label is placed, and then a part comes
pub ends_here : (label : ℕ) (r : Part) (a b c : Written) → IsFree label a → Defines label a b → Emits r b c
    → Goes label (λ done at. here (at label) (r done at)) a c
ends_here label r a b c f h e =
    let w = free_within label a f in
    let l = define_length label a b h in
    goes_here label label r a b c (omega arith) h (goes_less label _ r b c (omega (arith, l, w)) e)

pub ends_put_here : (names : Numbered) (l : ℕ) (x : Instr) (label : ℕ) (a b c : Written)
    → Puts l x a b → Defines label b c
    → Goes label (λ done at. ins (site names done) l (moved at x) ▸ here (at label) ▸ end) a c
ends_put_here names l x label a b c p h =
    goes_put names label l x (λ done at. here (at label) ▸ end) a b c p (goes_here label label (λ done at. end) b c
    c (omega arith) h (goes_end label c))

pub ends_put : (names : Numbered) (l : ℕ) (x : Instr) (label : ℕ) (a b : Written) → IsFree label a → Puts l x a b
    → Goes label (λ done at. ins (site names done) l (moved at x) ▸ end) a b
ends_put names l x label a b f p = goes_put names label l x (λ done at. end) a b b p (goes_end label b)
