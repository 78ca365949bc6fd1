-- What well-formed items of a block, and parts of `sections`, spell is read again as these, within the limits.
use Rattle.std.proofs.Common.{◌≡◌, ℕ, ◌≤◌, List, ◌∷◌, ◌++◌, length, Option, Some, None, Bool, true, false, is_some}
use Rattle.std.proofs.Common.{◌||◌, refl, sym, ap, subst, ◌∙◌, arith, append_assoc, inl, All}
use Rattle.std.specs.List.{flat_map}
use Rattle.std.proofs.lemmas.List.Elements.{All-nil, All-cons, All-head, All-tail}
use Rattle.om_lexer.specs.declared.token.Keyword.TheVariants as keywords
use Rattle.om_lexer.specs.declared.token.Punctuator.TheVariants as punctuators
use Rattle.om_lexer.specs.declared.token.Token.{Token}
use Rattle.om_pragma.specs.declared.tree.Directive.{Directive}
use Rattle.om_pragma.specs.Questions.{is_stand_alone}
use Rattle.om_pragma.specs.Spelling.{directive_spelling, opening_spelling as line_opening}
use Rattle.om_parser.specs.declared.construct.LineStart.{LineStart}
use Rattle.om_parser.specs.declared.construct.LineStart.TheVariants as lines
use Rattle.om_parser_parts.specs.PartReading.{Parts}
use Rattle.om_parser.specs.ConstructReading.{line_start, item_of, part_item_at, is_section_line, at_section, ends_part}
use Rattle.om_parser.specs.ConstructReading.{ends_parts, section_of, part_at}
use Rattle.om_parser_parts.specs.Reading.{Reader, take, same_word, take_mark, take_word}
use Rattle.om_parser.specs.OneOrMore.{one_or_more}
use Rattle.om_parser_tree.specs.Spelling.{expression_spelling, declaration_spelling, statement_spelling, statements_spelling}
use Rattle.om_parser_tree.specs.Spelling.{part_spelling, section_spelling}
use Rattle.om_parser_tree.specs.Formed.{IsBody, IsPartItem, IsLine, AreSome, IsStatement, IsLocalDeclaration}
use Rattle.om_parser_tree.specs.Formed.{IsSection, IsOptionalSection, ArePartItems}
use Rattle.om_parser_tree.specs.Limits.{Limits}
use Rattle.om_parser_tree.specs.Sizes.{HasForms, HasRoom, HaveRoom, section_longest, section_nesting}
use Rattle.om_parser.specs.StatementReading.{block_item_at}
use Rattle.om_parser_tree.specs.Tree.{ExpressionTree, DeclarationTree, StatementTree, StatementsTree, LocalDeclaration}
use Rattle.om_parser_tree.specs.Tree.{StandAlone, NoStatements, Statement, PartsTree, NoParts, Part, PartTree}
use Rattle.om_parser_parts.specs.Laws.{IsAnswer, declaration_tail, ArePartsAgain}
use Rattle.om_parser_parts.specs.Outcomes.{ok, some}
use Rattle.om_parser_parts.specs.Again.{take_word_again, bind_answer}
use Rattle.om_parser_parts.specs.ItemsComplete.{AreAgain}
use Rattle.om_parser.proofs.OneOrMore.{AreSeveralAgain, several_again}
use Rattle.om_parser.proofs.StatementParts.{PartsHaveRoom}
use Rattle.om_parser.proofs.Shorter.{statement_some, part_some}
use Rattle.om_parser.proofs.StatementTokens.{BeginsBody, BeginsConstruct, BeginsNoLine, list_of, statements_of}
use Rattle.om_parser.proofs.StatementTokens.{list_flat, list_of_parts, stand_alone_starts, section_starts}
use Rattle.om_parser.proofs.ProductionsComplete.{AreAgainAt, stand_alone_again, NoElse, no_brace, no_else, no_int}
use Rattle.om_parser.proofs.ProductionsComplete.{body_begins}

module _ (p : Parts) (l : Limits) (again : ArePartsAgain p l) where
  -- ---- items

  -- an item of a block or of a part of `sections` is read again
  abbrev PartAgain : (checked : Bool) (room : ℕ) → (ℕ → Reader StatementTree) → StatementTree → Type 0
  PartAgain checked room statement s = (blocks_left : ℕ) (rest : List Token) → (NoElse p l again) rest
      → IsAnswer (HasRoom l checked room blocks_left s) (part_item_at p.line (statement blocks_left) (statement_spelling
      s ++ rest)) (s, rest)

  -- a well-formed item of a block that is read again
  pub record IsItemAgain (checked : Bool) (room : ℕ) (statement : ℕ → Reader StatementTree) (s : StatementTree) : Type 0
    where
      pub formed : IsStatement s
      pub read : (blocks_left : ℕ) (rest : List Token) → (NoElse p l again) rest → IsAnswer (HasRoom l checked room
          blocks_left s) (block_item_at p (statement blocks_left) (statement_spelling s ++ rest)) (s, rest)

  -- the same of an item of a part of `sections`
  pub record IsPartItemAgain (checked : Bool) (room : ℕ) (statement : ℕ → Reader StatementTree)
      (s : StatementTree) : Type 0 where
    pub formed : IsStatement s
    pub part : IsPartItem s
    pub read : PartAgain checked room statement s

  part_of_body : (s : StatementTree) → IsStatement s → IsBody s → (checked : Bool) (room : ℕ) (statement : ℕ
      → Reader StatementTree) → (AreAgainAt p l again) checked room statement s → PartAgain checked room statement s
  unfolding part_item_at item_of
  part_of_body s f b checked room statement reads blocks_left rest none = go (line_start us) ((body_begins p l again) s
      rest f b)
    where
      us : List Token
      us = statement_spelling s ++ rest

      go : (start : LineStart) → BeginsBody start → IsAnswer (HasRoom l checked room blocks_left s) (item_of p.line
          (statement blocks_left) start us) (s, rest)
      go _ BeginsConstruct = reads blocks_left rest (λ yes. none)
      go _ BeginsNoLine = reads blocks_left rest (λ yes. none)

  part_of_line : (d : Directive ExpressionTree) → IsLine d → is_stand_alone d.name ≡ true
      → (checked : Bool) (room : ℕ) (statement : ℕ → Reader StatementTree) → PartAgain checked room statement
      (StandAlone d)
  unfolding part_item_at item_of statement_spelling
  part_of_line d f alone checked room statement blocks_left rest none = rw (stand_alone_starts d rest alone)
      ((stand_alone_again p l again) checked room blocks_left d rest f)

  pub part_from : (s : StatementTree) → IsStatement s → IsPartItem s → (checked : Bool) (room : ℕ) (statement : ℕ
      → Reader StatementTree) → (IsBody s → (AreAgainAt p l again) checked room statement s)
      → PartAgain checked room statement s
  unfolding IsStatement
  part_from (LocalDeclaration d) f b checked room statement reads = absurd b
  part_from (StandAlone d) f b checked room statement reads = part_of_line d f.0 f.1 checked room statement
  part_from s f b checked room statement reads = part_of_body s f tt checked room statement (reads tt)

  pub declaration_item : (d : DeclarationTree ExpressionTree) → IsLocalDeclaration d → (checked : Bool) (room : ℕ) (statement : ℕ
      → Reader StatementTree) → IsItemAgain checked room statement (LocalDeclaration d)
  unfolding IsStatement block_item_at statement_spelling declaration_spelling
  declaration_item d f checked room statement = record {
    formed = f;
    read = λ blocks_left rest none. rw (take_word_again keywords.Int d.int (declaration_tail d ++ rest))
        (bind_answer (p.declaration d.int (declaration_tail d ++ rest)) _ (d, rest) (LocalDeclaration d, rest)
        (λ w. record { nested = omega (arith, w.nested); long = w.long }) (again.declaration d rest f) (inl refl));
  }

  pub block_item : (s : StatementTree) → IsStatement s → IsPartItem s → (checked : Bool) (room : ℕ) (statement : ℕ
      → Reader StatementTree) → PartAgain checked room statement s → IsItemAgain checked room statement s
  unfolding block_item_at
  block_item s f b checked room statement reads = record {
    formed = f;
    read = λ blocks_left rest none. rw ((no_int p l again) s rest f b) (reads blocks_left rest none);
  }

  -- where an item of a part stands first, no `section` does
  data BeginsItem : LineStart → Type 0 where
    BeginsStatement : (start : LineStart) → BeginsBody start → BeginsItem start
    BeginsAlone : BeginsItem lines.StandAlone

  item_begins : (s : StatementTree) (rest : List Token) → IsStatement s → IsPartItem s
      → BeginsItem (line_start (statement_spelling s ++ rest))
  unfolding statement_spelling IsStatement
  item_begins (LocalDeclaration d) rest f b = absurd b
  item_begins (StandAlone d) rest f b = subst BeginsItem (sym (stand_alone_starts d rest f.1)) BeginsAlone
  item_begins s rest f b = BeginsStatement _ ((body_begins p l again) s rest f tt)

  no_section : (start : LineStart) → BeginsItem start → is_section_line start ≡ false
  no_section _ (BeginsStatement _ BeginsConstruct) = refl
  no_section _ (BeginsStatement _ BeginsNoLine) = refl
  no_section _ BeginsAlone = refl

  goes_on : (s : StatementTree) (rest : List Token) → IsStatement s → IsPartItem s
      → ends_part (statement_spelling s ++ rest) ≡ false
  goes_on s rest f b =
      rw (
        (no_brace p l again) s rest f,
        no_section (line_start (statement_spelling s ++ rest))
            (item_begins s rest f b),
      ) refl

  pub items_again : (checked : Bool) (room blocks_left : ℕ) (statement : ℕ → Reader StatementTree)
      → AreAgain statement_spelling (IsItemAgain checked room statement) (HasRoom l checked room blocks_left) (NoElse p
      l again) (take_mark punctuators.CloseBrace) (block_item_at p (statement blocks_left))
  items_again checked room blocks_left statement = record {
    one = λ s rest f none. f.read blocks_left rest none;
    unended = λ s rest f. (no_brace p l again) s rest f.formed;
    follows = λ s rest f. (no_else p l again) s rest f.formed;
    some_tokens = λ s f. statement_some s f.formed;
  }

  part_items_again : (checked : Bool) (room blocks_left : ℕ) (statement : ℕ → Reader StatementTree)
      → AreSeveralAgain statement_spelling (IsPartItemAgain checked room statement)
      (IsPartItemAgain checked room statement) (HasRoom l checked room blocks_left) (NoElse p l again) ends_part
      (part_item_at p.line (statement blocks_left))
  part_items_again checked room blocks_left statement = record {
    one = λ s rest f none. f.read blocks_left rest none;
    further = λ s f. f;
    goes_on = λ s rest f. goes_on s rest f.formed f.part;
    follows = λ s rest f. (no_else p l again) s rest f.formed;
    some_tokens = λ s f. statement_some s f.formed;
  }

  pub have_room : (checked : Bool) (room blocks_left : ℕ) (ss : StatementsTree) → HaveRoom l checked room blocks_left ss
      → All (HasRoom l checked room blocks_left) (list_of ss)
  unfolding HasForms
  have_room checked room blocks_left NoStatements w = All-nil (HasRoom l checked room blocks_left)
  have_room checked room blocks_left (Statement s rest) w =
      All-cons (HasRoom l checked room blocks_left) s (list_of rest) (record {
        high = omega (arith, w.high);
        deep = omega (arith, w.deep);
        nested = omega (arith, w.nested);
        long = omega (arith, w.long);
        forms = w.forms.0;
      })
      (have_room checked room blocks_left rest (record {
        high = omega (arith, w.high);
        deep = omega (arith, w.deep);
        nested = omega (arith, w.nested);
        long = omega (arith, w.long);
        forms = w.forms.1;
      }))

  -- ---- parts of `sections`

  -- a `section`, or none where none stands first
  section_again : (section : Option (Directive ExpressionTree)) (us : List Token) → IsOptionalSection section
      → is_section_line (line_start us) ≡ false
      → IsAnswer ((section_nesting section ≤ l.nested) × (section_longest section ≤ l.tokens))
      (section_of p.line (line_start (section_spelling section ++ us)) (section_spelling section ++ us)) (section, us)
  unfolding section_of
  section_again None us f none = by (line_start us) none
    where
      by : (start : LineStart) → is_section_line start ≡ false → IsAnswer ((0 ≤ l.nested) × (0 ≤ l.tokens))
          (section_of p.line start us) (None, us)
      by lines.Section none = absurd cc
      by _ none = inl refl
  section_again (Some d) us f none =
      rw (section_starts d us f.1) (bind_answer (p.line (directive_spelling expression_spelling d ++ us)) _ (d, us)
      (Some d, us) (λ w. record { nested = w.0; long = w.1 }) (again.line d us f.0) (inl refl))

  -- a well-formed part whose items are read again, and of whose `section` this is said
  pub record IsPartAgain (Named : Option (Directive ExpressionTree) → Type 0) (checked : Bool) (room : ℕ)
      (statement : ℕ → Reader StatementTree) (part : PartTree) : Type 0 where
    pub named : Named part.section
    pub one_stands : AreSome part.items
    pub formed : ArePartItems part.items
    pub items : All (IsPartItemAgain checked room statement) (list_of part.items)

  pub record PartHasRoom (checked : Bool) (room blocks_left : ℕ) (part : PartTree) : Type 0 where
    pub nested : section_nesting part.section ≤ l.nested
    pub long : section_longest part.section ≤ l.tokens
    pub room_for : HaveRoom l checked room blocks_left part.items

  -- a part may end there
  abbrev pub MayEnd : List Token → Type 0
  MayEnd ts = (ends_part ts ≡ true) × (NoElse p l again) ts

  part_of_again : (checked : Bool) (room blocks_left : ℕ) (statement : ℕ → Reader StatementTree)
      (section : Option (Directive ExpressionTree)) (items : StatementsTree) → IsOptionalSection section
      → AreSome items → All (IsPartItemAgain checked room statement) (list_of items) → (rest : List Token)
      → MayEnd rest
      → let part : PartTree = record { section = section; items = items } in
      IsAnswer (PartHasRoom checked room blocks_left part)
      (part_at p.line (statement blocks_left) (part_spelling part ++ rest)) (part, rest)
  unfolding part_at
  part_of_again checked room blocks_left statement section NoStatements named some items rest ends = absurd some
  part_of_again checked room blocks_left statement section (Statement s more) named some items rest ends =
      let again_item : StatementTree → Type 0 = IsPartItemAgain checked room statement in
      let item : Reader StatementTree = part_item_at p.line (statement blocks_left) in
      let part : PartTree = record { section = section; items = Statement s more } in
      let first : again_item s = All-head again_item s (list_of more) items in
      let behind : List Token = flat_map statement_spelling (list_of more) ++ rest in
      let us : List Token = flat_map statement_spelling (s ∷ list_of more) ++ rest in
      let assoc : us ≡ statement_spelling s ++ behind = append_assoc (statement_spelling s)
      (flat_map statement_spelling (list_of more)) rest in
      let none : is_section_line (line_start us) ≡ false = ap (λ w. is_section_line (line_start w)) assoc
      ∙ no_section _ (item_begins s behind first.formed first.part) in
      let spelled : section_spelling section ++ us ≡ part_spelling part ++ rest =
      ap (λ w. section_spelling section ++ (w ++ rest)) (sym (list_flat (Statement s more)))
      ∙ sym (append_assoc (section_spelling section) (statements_spelling (Statement s more)) rest) in
      subst (λ ts. IsAnswer (PartHasRoom checked room blocks_left part) (part_at p.line (statement blocks_left) ts)
      (part, rest)) spelled
      (bind_answer (section_of p.line (line_start (section_spelling section ++ us)) (section_spelling section ++ us))
      _ (section, us) (part, rest) (λ w. (w.nested, w.long)) (section_again section us named none)
      (bind_answer (one_or_more ends_part item (length us) us) _ (s ∷ list_of more, rest) (part, rest)
      (λ w. have_room checked room blocks_left (Statement s more) w.room_for)
      (several_again statement_spelling again_item again_item (HasRoom l checked room blocks_left) (NoElse p l again)
      ends_part item (part_items_again checked room blocks_left statement) rest ends.0 ends.1 s (list_of more)
      (statement_some s first.formed) first (All-tail again_item s (list_of more) items))
      (inl (ap (λ ss. ok (record { section = section; items = ss }, rest)) (statements_of (Statement s more))))))

  optional_section : (section : Option (Directive ExpressionTree)) → IsSection section → IsOptionalSection section
  optional_section None f = absurd f
  optional_section (Some d) f = f

  -- where a part with its `section` stands first, one begins
  section_begins : (section : Option (Directive ExpressionTree)) (items : StatementsTree) (rest : List Token)
      → IsSection section → ends_parts ((section_spelling section ++ statements_spelling items) ++ rest) ≡ false
  section_begins None items rest f = absurd f
  section_begins (Some d) items rest f = rw (append_assoc, section_starts d (statements_spelling items ++ rest) f.1)
      refl

  no_else_at_line : (d : Directive ExpressionTree) (items : StatementsTree) (rest : List Token)
      → (NoElse p l again) ((directive_spelling expression_spelling d ++ statements_spelling items) ++ rest)
  unfolding take_word take same_word directive_spelling line_opening
  no_else_at_line d items rest = refl

  -- a part may end there
  section_ends : (section : Option (Directive ExpressionTree)) (items : StatementsTree) (rest : List Token)
      → IsSection section → MayEnd ((section_spelling section ++ statements_spelling items) ++ rest)
  section_ends None items rest f = absurd f
  section_ends (Some d) items rest f =
      let us : List Token = (section_spelling (Some d) ++ statements_spelling items) ++ rest in
      let begins : at_section us ≡ true = rw (append_assoc, section_starts d (statements_spelling items ++ rest) f.1)
      refl in
      let brace : Bool = is_some (take_mark punctuators.CloseBrace us) in
      (ap (λ section. brace || section) begins ∙ either brace, no_else_at_line d items rest)
    where
      either : (b : Bool) → (b || true) ≡ true
      either true = refl
      either false = refl

  pub parts_are_again : (checked : Bool) (room blocks_left : ℕ) (statement : ℕ → Reader StatementTree)
      → AreSeveralAgain part_spelling (IsPartAgain IsOptionalSection checked room statement)
      (IsPartAgain IsSection checked room statement) (PartHasRoom checked room blocks_left) MayEnd ends_parts
      (part_at p.line (statement blocks_left))
  parts_are_again checked room blocks_left statement = record {
    one = λ part rest f ends. part_of_again checked room blocks_left statement part.section part.items f.named
        f.one_stands f.items rest ends;
    further = λ part f. record {
      named = optional_section part.section f.named;
      one_stands = f.one_stands;
      formed = f.formed;
      items = f.items;
    };
    goes_on = λ part rest f. section_begins part.section part.items rest f.named;
    follows = λ part rest f. section_ends part.section part.items rest f.named;
    some_tokens = λ part f. part_some part f.one_stands f.formed;
  }

  pub parts_have_room : (checked : Bool) (room blocks_left : ℕ) (ps : PartsTree) → PartsHaveRoom l checked room
      blocks_left ps
      → All (PartHasRoom checked room blocks_left) (list_of_parts ps)
  unfolding HasForms
  parts_have_room checked room blocks_left NoParts w = All-nil (PartHasRoom checked room blocks_left)
  parts_have_room checked room blocks_left (Part section items rest) w =
      All-cons (PartHasRoom checked room blocks_left) (record { section = section; items = items }) (list_of_parts rest)
      (record {
        nested = omega (arith, w.nested);
        long = omega (arith, w.long);
        room_for = record {
          high = omega (arith, w.high);
          deep = omega (arith, w.deep);
          nested = omega (arith, w.nested);
          long = omega (arith, w.long);
          forms = w.forms.0;
        };
      })
      (parts_have_room checked room blocks_left rest (record {
        high = omega (arith, w.high);
        deep = omega (arith, w.deep);
        nested = omega (arith, w.nested);
        long = omega (arith, w.long);
        forms = w.forms.1;
      }))
