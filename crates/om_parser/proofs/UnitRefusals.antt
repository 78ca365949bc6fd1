-- A unit is refused by four codes, and what each but that of syntax says.
use Rattle.std.proofs.Common.{◌≡◌, ℕ, ◌≤◌, List, Err, refl, subst, ◌⊎◌, inl, inr}
use Rattle.om_lexer.specs.declared.fault.FaultCode.{FaultCode}
use Rattle.om_lexer.specs.declared.fault.FaultCode.TheVariants as codes
use Rattle.om_lexer.specs.declared.fault.SourceFault.{SourceFault}
use Rattle.om_lexer.specs.declared.token.Token.{Token}
use Rattle.om_pragma.specs.Refusals.{IsWordFault}
use Rattle.om_parser.specs.Faults.{IsBadAtomic}
use Rattle.om_parser_tree.specs.Formed.{IsUnit}
use Rattle.om_parser_tree.specs.Limits.{Limits}
use Rattle.om_parser_parts.specs.WrongLines.{IsWrongLine}
use Rattle.om_parser.specs.BlockLineFaults.{IsLineFault}
use Rattle.om_parser.specs.LineFaults.{IsPassedInLine, IsRefusedLine}
use Rattle.om_parser_tree.specs.Places.{IsOverInUnit, IsPassed}
use Rattle.om_parser_tree.specs.Spelling.{unit_spelling}
use Rattle.om_parser.specs.UnitReading.{unit_at}
use Rattle.om_parser.proofs.Given.{ReadingLaws}
use Rattle.om_parser.proofs.UnitCut.{unit_cut}

-- the codes by which a unit is refused
abbrev pub IsUnitRefusal : SourceFault → Type 0
IsUnitRefusal f = (f.code ≡ codes.Syntax) ⊎ (f.code ≡ codes.TooDeep) ⊎ (f.code ≡ codes.UnknownDirective)
    ⊎ (f.code ≡ codes.BadClause)

word_code : (run : List Token) (code : FaultCode) (at : ℕ) → IsWordFault run code at
    → (code ≡ codes.UnknownDirective) ⊎ (code ≡ codes.BadClause)
word_code run codes.UnknownDirective at w = inl refl
word_code run codes.BadClause at w = inr refl
word_code run _ at w = absurd w

line_code : (l : Limits) (line : List Token) (f : SourceFault) → IsWrongLine l line f → IsUnitRefusal f
line_code l line f (inl (deep, passed)) = inr (inl deep)
line_code l line f (inr word) = inr (inr (word_code line f.code f.at word))

syntax_or_not : (code : FaultCode) → (code ≡ codes.Syntax) ⊎ (code ≡ codes.Syntax → ⊥)
syntax_or_not codes.Syntax = inl refl
syntax_or_not _ = inr (λ e. absurd cc)

module _ (laws : ReadingLaws) (l : Limits) (one : 1 ≤ l.nested) (ts : List Token) (f : SourceFault)
    (fails : unit_at l ts ≡ Err f) where
  pub unit_refuses : IsUnitRefusal f
  unit_refuses = elim (syntax_or_not f.code) [
    | inl wrong ↦ inl wrong
    | inr stops ↦ elim (unit_cut laws l one ts f fails stops) [
      | inl (deep, passed) ↦ inr (inl deep)
      | inr (inl c) ↦ line_code l c.line f c.wrong
      | inr (inr (bad, atomic)) ↦ inr (inr (inr bad))
    ]
  ]

  pub too_deep_unit : f.code ≡ codes.TooDeep → IsPassed unit_spelling IsUnit (IsOverInUnit l) ts f.at
      ⊎ IsPassedInLine l ts f.at
  too_deep_unit is = elim (unit_cut laws l one ts f fails (λ wrong. absurd cc)) [
    | inl (deep, passed) ↦ inl passed
    | inr (inl c) ↦ elim c.wrong [
      | inl (deep, passed) ↦ inr (record { line = c.line; has_line = c.has_line; passed = passed })
      | inr word ↦ absurd (subst (λ e. IsWordFault c.line e f.at) is word)
    ]
    | inr (inr (bad, atomic)) ↦ absurd cc
  ]

  -- a line is refused by a word, where by no limit
  refused_line : (f.code ≡ codes.TooDeep → ⊥) → IsLineFault unit_spelling IsUnit l ts f → IsRefusedLine ts f
  refused_line other c = elim c.wrong [
    | inl (deep, passed) ↦ absurd (other deep)
    | inr word ↦ record { line = c.line; has_line = c.has_line; refused = word }
  ]

  pub unknown_in_unit : f.code ≡ codes.UnknownDirective → IsRefusedLine ts f
  unknown_in_unit is = elim (unit_cut laws l one ts f fails (λ wrong. absurd cc)) [
    | inl (deep, passed) ↦ absurd cc
    | inr (inl c) ↦ refused_line (λ deep. absurd cc) c
    | inr (inr (bad, atomic)) ↦ absurd cc
  ]

  pub bad_in_unit : f.code ≡ codes.BadClause → IsRefusedLine ts f ⊎ IsBadAtomic ts f.at
  bad_in_unit is = elim (unit_cut laws l one ts f fails (λ wrong. absurd cc)) [
    | inl (deep, passed) ↦ absurd cc
    | inr (inl c) ↦ inl (refused_line (λ deep. absurd cc) c)
    | inr (inr (bad, atomic)) ↦ inr atomic
  ]
