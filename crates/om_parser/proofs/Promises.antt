-- What parsing promises, from what is read.
use Rattle.std.proofs.Common.{◌≡◌, List, true, Result, Ok, Err, sym, ap, subst, ◌∙◌, arith, ◌⊎◌, inl, inr, All}
use Rattle.std.specs.Prelude.{IfOk, IfErr, Some, None}
use Rattle.std.proofs.lemmas.List.Elements.{All-weaker}
use Rattle.om_lexer.specs.Faults.{no_memory}
use Rattle.om_lexer.specs.declared.fault.FaultCode.TheVariants as codes
use Rattle.om_lexer.specs.declared.fault.SourceFault.{SourceFault}
use Rattle.om_lexer.specs.declared.token.Token.{Token}
use Rattle.om_parser_tree.specs.declared.tree.Unit as units
use Rattle.om_parser.specs.Faults.{IsBadAtomic}
use Rattle.om_parser_tree.specs.Limits.{accepted}
use Rattle.om_parser.specs.LineFaults.{IsRefusedLine}
use Rattle.om_parser_tree.specs.Sizes.{IsItemWithin, IsWithinLimits, HasItemForms, AtomicsHaveForms}
use Rattle.om_parser.specs.Parsing.{IsTreeOf, IsTreeOrMemory, IsLimitPassed}
use Rattle.om_parser.specs.Refusals.{refusal_of, refused}
use Rattle.om_parser_parts.specs.Reading.{Reads}
use Rattle.om_parser_tree.specs.Tree.{UnitTree}
use Rattle.om_parser.specs.UnitReading.{unit_at}
use Rattle.om_parser_tree.specs.View.{view_unit}
use Rattle.om_parser_parts.specs.Outcomes.{ok, ok_is, err_is}
use Rattle.om_parser_parts.specs.Laws.{IsAnswer, GlobalsAreReadAgain}
use Rattle.om_parser.specs.Laws.{BlocksAreReadAgain}
use Rattle.om_parser.proofs.Forms.{IsKeptItem}
use Rattle.om_parser.proofs.Given.{ReadingLaws}
use Rattle.om_parser.proofs.UnitSound.{unit_sound}
use Rattle.om_parser.proofs.UnitComplete.{unit_again}
use Rattle.om_parser.proofs.UnitRefusals.{unit_refuses, too_deep_unit, unknown_in_unit, bad_in_unit}

memory_only : (f : SourceFault) → f ≡ no_memory → f.code ≡ codes.Memory
memory_only f e = ap (λ (g : SourceFault). g.code) e

-- what was read is not refused
pub is_accepted : (ts : List Token) (r : Result units.Unit SourceFault) → Reads view_unit r (unit_at accepted ts)
    → IfOk r (λ unit. refusal_of ts ≡ None)
is_accepted ts (Ok u) h = ap refused h
is_accepted ts (Err f) h = tt

-- a fault but for memory is the refusal of the tokens
pub is_one_refusal : (ts : List Token) (r : Result units.Unit SourceFault) → Reads view_unit r (unit_at accepted ts)
    → IfErr r (λ fault. (fault ≡ no_memory) ⊎ (refusal_of ts ≡ Some fault))
is_one_refusal ts (Ok u) h = tt
is_one_refusal ts (Err f) (inl memory) = inl memory
is_one_refusal ts (Err f) (inr e) = inr (ap refused e)

keeps : (u : UnitTree) → IsWithinLimits u → AtomicsHaveForms u → All (IsKeptItem accepted) u.items
unfolding IsWithinLimits AtomicsHaveForms
keeps u within forms k d lt = (within k d lt, forms k d lt)

-- a tree with these tokens is read again
again_with : BlocksAreReadAgain → GlobalsAreReadAgain → (ts : List Token) (u : UnitTree) → IsTreeOf ts u
    → IsAnswer (All (IsKeptItem accepted) u.items) (unit_at accepted ts) u
again_with again globals ts u t = subst (λ us. IsAnswer (All (IsKeptItem accepted) u.items) (unit_at accepted us) u)
    t.spelled (unit_again again globals accepted (omega arith) u t.formed)

-- the tokens of a tree that keeps the limits and has its forms are not refused
pub has_no_refusal : BlocksAreReadAgain → GlobalsAreReadAgain → (ts : List Token) (u : UnitTree) → IsTreeOf ts u
    → IsWithinLimits u → AtomicsHaveForms u → refusal_of ts ≡ None
has_no_refusal again globals ts u t w forms = elim (again_with again globals ts u t) [
  | inl e ↦ ap refused e
  | inr (stop, e, never) ↦ absurd (never (keeps u w forms))
]

module _ (laws : ReadingLaws) (ts : List Token) where
  pub is_found : (r : Result units.Unit SourceFault) → Reads view_unit r (unit_at accepted ts)
      → IfOk r (λ unit. IsTreeOf ts (view_unit unit))
  is_found (Ok u) h = let s = unit_sound laws.sound laws.globals_sound accepted (omega arith) ts (view_unit u) h in
      record { formed = s.0; spelled = s.1 }
  is_found (Err f) h = tt

  pub is_within : (r : Result units.Unit SourceFault) → Reads view_unit r (unit_at accepted ts)
      → IfOk r (λ unit. IsWithinLimits (view_unit unit))
  unfolding IsWithinLimits
  is_within (Ok u) h = All-weaker (IsKeptItem accepted) (IsItemWithin accepted) (λ i k. k.0) (view_unit u).items
      (unit_sound laws.sound laws.globals_sound accepted (omega arith) ts (view_unit u) h).2
  is_within (Err f) h = tt

  pub has_forms : (r : Result units.Unit SourceFault) → Reads view_unit r (unit_at accepted ts)
      → IfOk r (λ unit. AtomicsHaveForms (view_unit unit))
  unfolding AtomicsHaveForms
  has_forms (Ok u) h = All-weaker (IsKeptItem accepted) (HasItemForms true) (λ i k. k.1) (view_unit u).items
      (unit_sound laws.sound laws.globals_sound accepted (omega arith) ts (view_unit u) h).2
  has_forms (Err f) h = tt

  again : (u : UnitTree) → IsTreeOf ts u → IsAnswer (All (IsKeptItem accepted) u.items) (unit_at accepted ts) u
  again u t = again_with laws.again laws.globals_again ts u t

  pub is_only : (r : Result units.Unit SourceFault) → Reads view_unit r (unit_at accepted ts) → (u : UnitTree)
      → IsTreeOf ts u → IsWithinLimits u → AtomicsHaveForms u → IsTreeOrMemory u r
  is_only (Ok found) h u t w forms = elim (again u t) [
    | inl e ↦ ok_is (view_unit found) u (sym h ∙ e)
    | inr (s, e, never) ↦ absurd (never (keeps u w forms))
  ]
  is_only (Err f) (inl memory) u t w forms = memory
  is_only (Err f) (inr e) u t w forms = elim (again u t) [
    | inl read ↦ let both : ok u ≡ Err f = sym read ∙ e in absurd cc
    | inr (s, e, never) ↦ absurd (never (keeps u w forms))
  ]

  pub is_syntax : (r : Result units.Unit SourceFault) → Reads view_unit r (unit_at accepted ts)
      → IfErr r (λ f. f.code ≡ codes.Syntax → (u : UnitTree) → IsTreeOf ts u → ⊥)
  is_syntax (Ok u) h = tt
  is_syntax (Err f) (inl memory) = λ wrong u t. let m = memory_only f memory in absurd cc
  is_syntax (Err f) (inr e) = λ wrong u t. elim (again u t) [
    | inl read ↦ let both : ok u ≡ Err f = sym read ∙ e in absurd cc
    | inr (stop, stops, never) ↦ stop.other (ap (λ (g : SourceFault). g.code) (err_is stop.fault f (sym stops ∙ e))
        ∙ wrong)
  ]

  pub is_too_deep : (r : Result units.Unit SourceFault) → Reads view_unit r (unit_at accepted ts)
      → IfErr r (λ f. f.code ≡ codes.TooDeep → IsLimitPassed ts f.at)
  is_too_deep (Ok u) h = tt
  is_too_deep (Err f) (inl memory) = λ deep. let m = memory_only f memory in absurd cc
  is_too_deep (Err f) (inr e) = λ deep. too_deep_unit laws accepted (omega arith) ts f e deep

  pub is_unknown : (r : Result units.Unit SourceFault) → Reads view_unit r (unit_at accepted ts)
      → IfErr r (λ f. f.code ≡ codes.UnknownDirective → IsRefusedLine ts f)
  is_unknown (Ok u) h = tt
  is_unknown (Err f) (inl memory) = λ unknown. let m = memory_only f memory in absurd cc
  is_unknown (Err f) (inr e) = λ unknown. unknown_in_unit laws accepted (omega arith) ts f e unknown

  pub is_bad_clause : (r : Result units.Unit SourceFault) → Reads view_unit r (unit_at accepted ts)
      → IfErr r (λ f. f.code ≡ codes.BadClause → IsRefusedLine ts f ⊎ IsBadAtomic ts f.at)
  is_bad_clause (Ok u) h = tt
  is_bad_clause (Err f) (inl memory) = λ bad. let m = memory_only f memory in absurd cc
  is_bad_clause (Err f) (inr e) = λ bad. bad_in_unit laws accepted (omega arith) ts f e bad

  pub is_no_other : (r : Result units.Unit SourceFault) → Reads view_unit r (unit_at accepted ts)
      → IfErr r (λ f. (f ≡ no_memory) ⊎ (f.code ≡ codes.Syntax) ⊎ (f.code ≡ codes.TooDeep)
      ⊎ (f.code ≡ codes.UnknownDirective) ⊎ (f.code ≡ codes.BadClause))
  is_no_other (Ok u) h = tt
  is_no_other (Err f) (inl memory) = inl memory
  is_no_other (Err f) (inr e) = inr (unit_refuses laws accepted (omega arith) ts f e)
