-- Whether a source is accepted.
use Rattle.std.specs.Prelude.{ℕ, Bool, true, false, List}
use Rattle.om_code.specs.declared.raw.Raw.{Raw}
use Rattle.om_lexer.specs.declared.fault.SourceFault.{SourceFault}
use Rattle.om_frontend.specs.Verdict.{IsProgramOf, IsRefused}

-- by a verdict on the source, it is accepted or it is not
pub data IsKnown (source : List ℕ) : Bool → Type 0 where
  accepted : (program : Raw) → IsProgramOf source program → IsKnown source true
  refused : (fault : SourceFault) → IsRefused source fault → IsKnown source false
