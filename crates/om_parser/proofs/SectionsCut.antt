-- Where parts of `sections` are refused by another code than that of syntax.
use Rattle.std.proofs.Common.{◌≡◌, ℕ, zero, suc, ◌≤◌, Bool, List, [], ◌++◌, length, Option, Err}
use Rattle.std.proofs.Common.{refl, sym, ap, inl, inr}
use Rattle.std.proofs.lemmas.List.{append-nil}
use Rattle.om_lexer.specs.declared.fault.SourceFault.{SourceFault}
use Rattle.om_lexer.specs.declared.token.Span.{Span}
use Rattle.om_lexer.specs.declared.token.Token.{Token}
use Rattle.om_pragma.specs.declared.tree.Directive.{Directive}
use Rattle.om_parser_parts.specs.Laws.{ArePartsSound, Stops, ArePartsCut}
use Rattle.om_parser_parts.specs.PartReading.{Parts}
use Rattle.om_parser_parts.specs.Reading.{Reader}
use Rattle.om_parser.specs.ConstructReading.{line_start, part_item_at, ends_part, ends_parts, section_of, part_at}
use Rattle.om_parser.specs.declared.construct.LineStart.{LineStart}
use Rattle.om_parser.specs.declared.construct.LineStart.TheVariants as lines
use Rattle.om_parser.specs.BlockFaults.{IsStopped}
use Rattle.om_parser.specs.OneOrMore.{one_or_more}
use Rattle.om_parser_parts.specs.Outcomes.{bind_err, either_way}
use Rattle.om_parser.specs.Stopped.{syntax_plain, within_larger}
use Rattle.om_parser.proofs.ConstructCut.{IsStatementStopped, IsStatementCut, part_item_cut, any_section_formed}
use Rattle.om_parser.proofs.ConstructCut.{any_part, any_part_rest, any_part_spelled, line_stopped_in}
use Rattle.om_parser.proofs.ItemSound.{NamesSection, section_sound, stands, part_item_sound_with, part_sound_with}
use Rattle.om_parser.proofs.StatementParts.{IsStatementSound, body_is_part}
use Rattle.om_parser_tree.specs.Formed.{IsSection, IsStatement, AreSome, ArePartItems, AreFurtherParts}
use Rattle.om_parser_tree.specs.Limits.{Limits}
use Rattle.om_parser_tree.specs.Places.{Place, Behind, IsOverInside, IsOverInItems, IsOverInParts}
use Rattle.om_parser_tree.specs.Spelling.{statement_spelling, statements_spelling, section_spelling, part_spelling}
use Rattle.om_parser_tree.specs.Spelling.{parts_spelling}
use Rattle.om_parser_tree.specs.Tree.{ExpressionTree, StatementTree, StatementsTree, NoStatements, Statement, PartsTree}
use Rattle.om_parser_tree.specs.Tree.{NoParts, Part, PartTree}

abbrev MaySection : Type 1
MaySection = Option (Directive ExpressionTree) → Type 0

-- well-formed items of a part, one at least
abbrev AreSomeItems : StatementsTree → Type 0
AreSomeItems items = AreSome items × ArePartItems items

-- a well-formed part, of whose `section` this is said
abbrev IsPartBy : MaySection → PartTree → Type 0
IsPartBy Named part = Named part.section × AreSome part.items × ArePartItems part.items

-- well-formed parts, of whose first `section` this is said
abbrev pub ArePartsBy : MaySection → PartsTree → Type 0
ArePartsBy Named NoParts = ⊥
ArePartsBy Named (Part section items rest) = Named section × AreSome items × ArePartItems items × AreFurtherParts rest

further_parts : (ps : PartsTree) → ArePartsBy IsSection ps → AreFurtherParts ps
unfolding IsStatement
further_parts NoParts f = absurd f
further_parts (Part section items rest) f = f

abbrev InPart : Limits → (depth nested : ℕ) → PartTree → Place
InPart l depth nested part = Behind (section_spelling part.section) (IsOverInItems l depth nested part.items)

module _ (p : Parts) (l : Limits) (one : 1 ≤ l.nested) (sound : ArePartsSound p l) (cuts : ArePartsCut p l)
    (depth nested : ℕ) (checked : Bool) (room blocks_left : ℕ) (statement : Reader StatementTree)
    (good : IsStatementSound l checked room blocks_left statement)
    (inner : IsStatementCut l depth nested statement) where
  abbrev AreItemsStopped : List Token → SourceFault → Type 0
  AreItemsStopped ts f = IsStopped statements_spelling AreSomeItems (IsOverInItems l depth nested) l ts f

  abbrev IsPartStopped : MaySection → List Token → SourceFault → Type 0
  IsPartStopped Named ts f = IsStopped part_spelling (IsPartBy Named) (InPart l depth nested) l ts f

  abbrev pub ArePartsStopped : MaySection → List Token → SourceFault → Type 0
  ArePartsStopped Named ts f = IsStopped parts_spelling (ArePartsBy Named) (IsOverInParts l depth nested) l ts f

  -- one item, or more behind it
  one_item : (ts : List Token) (f : SourceFault) → IsStatementStopped l depth nested ts f → AreItemsStopped ts f
  unfolding statement_spelling IsStatement IsOverInside
  one_item ts f c = within_larger statements_spelling AreSomeItems (IsOverInItems l depth nested) [] []
      (λ s. Statement s NoStatements) ts ts f (λ s is. (tt, (is.0, body_is_part s is.1, tt))) (λ s. refl)
      (λ s before t over. inl over) refl c

  abbrev item : Reader StatementTree
  item = part_item_at p.line statement

  item_cut : (ts : List Token) (f : SourceFault) → item ts ≡ Err f → Stops f → AreItemsStopped ts f
  item_cut ts f h stops = one_item ts f
      (part_item_cut l p.line sound.line cuts.line depth nested statement inner ts f h stops)

  items_cut : (k : ℕ) (ts : List Token) (f : SourceFault) → one_or_more ends_part item k ts ≡ Err f → Stops f
      → AreItemsStopped ts f
  unfolding one_or_more statement_spelling IsStatement IsOverInside
  items_cut zero ts f h stops = elim (bind_err (item ts) _ f h) [
    | inl fails ↦ item_cut ts f fails stops
    | inr (a, reads, e) ↦ absurd (syntax_plain ts f e stops)
  ]
  items_cut (suc k) ts f h stops = elim (bind_err (item ts) _ f h) [
    | inl fails ↦ item_cut ts f fails stops
    | inr (a, reads, e) ↦ elim (either_way (ends_part a.1) _ _ (Err f) e) [
      | inl (ends, no_err) ↦ absurd cc
      | inr (more, g) ↦ elim (bind_err (one_or_more ends_part item k a.1) _ f g) [
        | inr (b, read, no_err) ↦ absurd cc
        | inl fails ↦
            let first = part_item_sound_with p l one sound checked room blocks_left statement good ts a reads in
            within_larger statements_spelling AreSomeItems (IsOverInItems l depth nested) (statement_spelling a.0) []
            (Statement a.0) ts a.1 f (λ ss is. (tt, (first.formed.formed, first.formed.part, is.1)))
            (λ ss. ap (λ w. statement_spelling a.0 ++ w) (sym (append-nil (statements_spelling ss))))
            (λ ss before t over. inr (before, refl, over)) first.parts (items_cut k a.1 f fails stops)
      ]
    ]
  ]

  -- ---- a part

  section_cut : (Named : MaySection) → ((at : Span) → Named (any_part at).section) → (ts : List Token)
      (f : SourceFault) (start : LineStart) → line_start ts ≡ start → section_of p.line start ts ≡ Err f → Stops f
      → IsPartStopped Named ts f
  unfolding section_of IsStatement
  section_cut Named named ts f lines.Section is h stops = elim (bind_err (p.line ts) _ f h) [
    | inr (d, reads, no_err) ↦ absurd cc
    | inl fails ↦ line_stopped_in part_spelling (IsPartBy Named) (InPart l depth nested) any_part any_part_rest
        (λ at. (named at, tt, (tt, tt, tt))) any_part_spelled l p.line cuts.line ts f (λ none. absurd cc) fails stops
  ]
  section_cut Named named ts f _ is h stops = absurd cc

  part_cut : (Named : MaySection) → ((at : Span) → Named (any_part at).section) → (ts : List Token)
      (f : SourceFault) → (NamesSection p l one sound) Named ts → part_at p.line statement ts ≡ Err f → Stops f
      → IsPartStopped Named ts f
  unfolding part_at
  part_cut Named any ts f named h stops = elim (bind_err (section_of p.line (line_start ts) ts) _ f h) [
    | inl fails ↦ section_cut Named any ts f (line_start ts) refl fails stops
    | inr (d, reads, g) ↦ elim (bind_err (one_or_more ends_part item (length d.1) d.1) _ f g) [
      | inr (x, read, no_err) ↦ absurd cc
      | inl fails ↦
          let section = section_sound p l one sound (line_start ts) ts d refl reads in
          within_larger part_spelling (IsPartBy Named) (InPart l depth nested) (section_spelling d.0) []
          (λ ss. record { section = d.0; items = ss }) ts d.1 f (λ ss is. (named d reads, is.0, is.1))
          (λ ss. ap (λ w. section_spelling d.0 ++ w) (sym (append-nil (statements_spelling ss))))
          (λ ss before t over. (before, refl, over)) section.parts (items_cut (length d.1) d.1 f fails stops)
    ]
  ]

  -- ---- parts

  one_part : (Named : MaySection) (ts : List Token) (f : SourceFault) → IsPartStopped Named ts f
      → ArePartsStopped Named ts f
  unfolding statement_spelling IsStatement IsOverInside
  one_part Named ts f c = within_larger parts_spelling (ArePartsBy Named) (IsOverInParts l depth nested) [] []
      (λ part. Part part.section part.items NoParts) ts ts f (λ part is. (is.0, is.1, is.2, tt)) (λ part. refl)
      (λ part before t over. inl over) refl c

  abbrev part : Reader PartTree
  part = part_at p.line statement

  pub parts_cut : (Named : MaySection) → ((at : Span) → Named (any_part at).section) → (k : ℕ) (ts : List Token)
      (f : SourceFault) → (NamesSection p l one sound) Named ts → one_or_more ends_parts part k ts ≡ Err f → Stops f
      → ArePartsStopped Named ts f
  unfolding one_or_more statement_spelling IsOverInside
  parts_cut Named any zero ts f named h stops = elim (bind_err (part ts) _ f h) [
    | inl fails ↦ one_part Named ts f (part_cut Named any ts f named fails stops)
    | inr (a, reads, e) ↦ absurd (syntax_plain ts f e stops)
  ]
  parts_cut Named any (suc k) ts f named h stops = elim (bind_err (part ts) _ f h) [
    | inl fails ↦ one_part Named ts f (part_cut Named any ts f named fails stops)
    | inr (a, reads, e) ↦ elim (either_way (ends_parts a.1) _ _ (Err f) e) [
      | inl (ends, no_err) ↦ absurd cc
      | inr (more, g) ↦ elim (bind_err (one_or_more ends_parts part k a.1) _ f g) [
        | inr (b, read, no_err) ↦ absurd cc
        | inl fails ↦
            let first = part_sound_with p l one sound checked room blocks_left statement good Named ts a named reads in
            within_larger parts_spelling (ArePartsBy Named) (IsOverInParts l depth nested) (part_spelling a.0) []
            (λ ps. Part a.0.section a.0.items ps) ts a.1 f
            (λ ps is. (first.formed.named, first.formed.one_stands, first.formed.formed, further_parts ps is))
            (λ ps. ap (λ w. part_spelling a.0 ++ w) (sym (append-nil (parts_spelling ps))))
            (λ ps before t over. inr (before, refl, over)) first.parts
            (parts_cut IsSection any_section_formed k a.1 f ((stands p l one sound) a.1 more) fails stops)
      ]
    ]
  ]
