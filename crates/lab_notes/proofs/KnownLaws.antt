-- What a refusal of a source says of it.
use Rattle.std.proofs.Common.{◌≢◌, ℕ, List, false, ap}
use Rattle.om_lexer.specs.declared.fault.FaultCode.TheVariants.{Memory}
use Rattle.om_lexer.specs.declared.fault.SourceFault.{SourceFault}
use Rattle.om_lexer.specs.Faults.{no_memory}
use Rattle.om_frontend.specs.Verdict.{IsRefused}
use Rattle.lab_notes.specs.Sources.{IsKnown, refused}

-- a fault that is none of memory says that the source is not accepted
pub not_accepted : (source : List ℕ) (fault : SourceFault) → (fault ≢ no_memory → IsRefused source fault)
    → fault.code ≢ Memory → IsKnown source false
not_accepted source fault is_refused other =
    refused fault (is_refused (λ e. other (ap (λ (f : SourceFault). f.code) e)))
