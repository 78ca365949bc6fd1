-- The law of verdicts.
use Rattle.std.specs.Prelude.{◌≡◌, ℕ, List, Result}
use Rattle.om_lexer.specs.declared.fault.SourceFault.{SourceFault}
use Rattle.om_code.specs.declared.raw.Raw.{Raw}
use Rattle.om_frontend.specs.Verdict.{IsVerdict}

-- a source has at most one verdict: at most one program, at most one refusal, and not both
abbrev pub OneVerdict : Type 0
OneVerdict = (source : List ℕ) (a b : Result Raw SourceFault) → IsVerdict source a → IsVerdict source b → a ≡ b
