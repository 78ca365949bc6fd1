-- What users see of a refusal.
use Rattle.std.specs.Prelude.{◌≡◌, ℕ, ◌⊎◌}
use Rattle.om_lexer.specs.declared.fault.FaultCode.{FaultCode}
use Rattle.om_lexer.specs.declared.fault.FaultCode.TheVariants as codes
use Rattle.om_lexer.specs.declared.fault.SourceFault.{SourceFault}

-- the number behind the S
abbrev pub number_of : FaultCode → ℕ
number_of codes.Memory = 0
number_of codes.SourceTooLong = 1
number_of codes.BadToken = 2
number_of codes.Syntax = 3
number_of codes.BadHashLine = 4
number_of codes.UnknownDirective = 5
number_of codes.BadClause = 6
number_of codes.Undeclared = 7
number_of codes.Redeclared = 8
number_of codes.Misuse = 9
number_of codes.ConstantTooLarge = 10
number_of codes.TooMany = 11
number_of codes.LoopForm = 12
number_of codes.Unlisted = 13
number_of codes.LeavesConstruct = 14
number_of codes.NoMain = 15
number_of codes.TooDeep = 16

-- out of memory, which stands at byte 0
abbrev pub no_memory : SourceFault
no_memory = record { code = codes.Memory; at = 0 }

-- a refusal that is out of memory, or stands at this byte for a reason of this kind
abbrev pub IsRefusalAt : ℕ → (FaultCode → Type 0) → SourceFault → Type 0
IsRefusalAt at is_wrong fault = (fault ≡ no_memory) ⊎ ((fault.at ≡ at) × is_wrong fault.code)
