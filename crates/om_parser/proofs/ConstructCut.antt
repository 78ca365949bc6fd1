-- Where a directive or the statement behind it is refused by another code than that of syntax.
use Rattle.std.proofs.Common.{◌≡◌, ℕ, suc, List, [], ◌∷◌, ◌++◌, Some, Bool, true, false, not, ◌||◌, cond, Err, refl, sym, ap}
use Rattle.std.proofs.Common.{◌∙◌, inl, inr}
use Rattle.std.specs.Prelude.{codes}
use Rattle.std.proofs.lemmas.List.{append-nil}
use Rattle.om_lexer.specs.declared.fault.SourceFault.{SourceFault}
use Rattle.om_lexer.specs.declared.token.Punctuator.TheVariants as punctuators
use Rattle.om_lexer.specs.declared.token.Span.{Span}
use Rattle.om_lexer.specs.declared.token.Token.{Token}
use Rattle.om_lexer.specs.declared.token.TokenKind.{TokenKind}
use Rattle.om_lexer.specs.declared.token.TokenKind.TheVariants as kinds
use Rattle.om_pragma.specs.declared.tree.Directive.{Directive}
use Rattle.om_pragma.specs.declared.tree.DirectiveName.{DirectiveName}
use Rattle.om_pragma.specs.declared.tree.DirectiveName.TheVariants as directives
use Rattle.om_pragma.specs.declared.tree.DirectiveKind.TheVariants as words
use Rattle.om_pragma.specs.Questions.{is_stand_alone, is_section, is_sections, is_atomic, atomic_kind}
use Rattle.om_pragma.specs.Spelling.{opening_spelling, name_spelling, directive_spelling}
use Rattle.om_pragma.specs.Table.{EachBehind, IsDirective}
use Rattle.om_pragma.specs.Words.{directive_word}
use Rattle.om_parser.specs.declared.construct.LineStart.{LineStart}
use Rattle.om_parser.specs.declared.construct.LineStart.TheVariants as lines
use Rattle.om_parser_tree.specs.AtomicForms.{has_atomic_form}
use Rattle.om_parser_parts.specs.PartReading.{LineReader}
use Rattle.om_parser.specs.ConstructReading.{PartsReader, line_start, from_word, misplaced, unknown_line}
use Rattle.om_parser.specs.ConstructReading.{stand_alone_at, item_of, part_item_at, bad_atomic, atomic_of}
use Rattle.om_parser.specs.ConstructReading.{atomic_after, constructed_after, sections_after, construct_after}
use Rattle.om_parser.specs.ConstructReading.{construct_at, line_of}
use Rattle.om_parser.specs.BlockFaults.{IsStopped}
use Rattle.om_parser_tree.specs.Formed.{IsLine, IsConstruct, IsStatement, IsBody, IsSection, AreParts}
use Rattle.om_parser_tree.specs.Limits.{Limits}
use Rattle.om_parser_tree.specs.Places.{Place, Behind, Either, AtDepth, AtBrace, IsOverInside, IsOverInParts}
use Rattle.om_parser_tree.specs.Places.{IsOverInStatement}
use Rattle.om_parser_parts.specs.Reading.{Reader}
use Rattle.om_parser_tree.specs.Spelling.{token, mark, expression_spelling, statement_spelling}
use Rattle.om_parser_tree.specs.Spelling.{part_spelling}
use Rattle.om_parser_tree.specs.Tree.{ExpressionTree, StatementTree, Empty, Construct, Sections, NoStatements, Statement}
use Rattle.om_parser_tree.specs.Tree.{PartsTree, PartTree}
use Rattle.om_parser_parts.specs.Outcomes.{ok, bind_err, after_front, err_is}
use Rattle.om_parser.proofs.LineStarts.{start_of_directive, line_start_is}
use Rattle.om_parser_parts.specs.Laws.{IsSound, IsWholeLine, Stops, IsLineCut}
use Rattle.om_parser.proofs.StatementParts.{IsStatementSound, braces_spelling}
use Rattle.om_parser.specs.Stopped.{syntax_plain, within_larger}

-- a statement that may be a part of another
abbrev pub IsPart : StatementTree → Type 0
IsPart s = IsStatement s × IsBody s

-- a statement stops so, where so many statements and blocks stand round it
abbrev pub IsStatementStopped : Limits → (depth nested : ℕ) → List Token → SourceFault → Type 0
IsStatementStopped l depth nested ts f = IsStopped statement_spelling IsPart (IsOverInStatement l depth nested) l ts f

-- the same behind its first token
abbrev pub IsInsideStopped : Limits → (depth nested : ℕ) → List Token → SourceFault → Type 0
IsInsideStopped l depth nested ts f = IsStopped statement_spelling IsPart (IsOverInside l depth nested) l ts f

abbrev pub IsStatementCut : Limits → (depth nested : ℕ) → Reader StatementTree → Type 0
IsStatementCut l depth nested r = (ts : List Token) (f : SourceFault) → r ts ≡ Err f → Stops f → IsStatementStopped
    l depth nested ts f

-- well-formed parts in the braces of `sections`
abbrev pub AreBraces : Span × PartsTree × Span → Type 0
AreBraces x = AreParts x.1

-- in the braces of a `sections` round which so many statements and blocks stand
abbrev pub InBraces : Limits → (depth nested : ℕ) → Span × PartsTree × Span → Place
InBraces l depth nested x = Either (Either (AtDepth l (suc depth)) (AtBrace l nested))
    (Behind (mark punctuators.OpenBrace x.0 ∷ []) (IsOverInParts l (suc (suc depth)) (suc nested) x.1))

abbrev pub AreBracesCut : Limits → (depth nested : ℕ) → PartsReader → Type 0
AreBracesCut l depth nested r = (ts : List Token) (f : SourceFault) → r ts ≡ Err f → Stops f
    → IsStopped braces_spelling AreBraces (InBraces l depth nested) l ts f

-- the name of a directive that begins a construct
construct_name : (name : DirectiveName) → start_of_directive name ≡ lines.Construct → (is_stand_alone name ≡ false)
    × (is_section name ≡ false)
construct_name name is = go (is_stand_alone name) (is_section name) is
  where
    go : (alone section : Bool) → cond alone lines.StandAlone (cond section lines.Section lines.Construct)
        ≡ lines.Construct → (alone ≡ false) × (section ≡ false)
    go true section is = absurd cc
    go false true is = absurd cc
    go false false is = (refl, refl)

-- the statement of an `atomic` is refused only where it is checked and has no form
no_form : (checked has : Bool) (x : StatementTree × List Token) (bad f : SourceFault) → cond (not checked || has)
    (ok x) (Err bad) ≡ Err f → (has ≡ false) × (bad ≡ f)
no_form false has x bad f e = absurd cc
no_form true true x bad f e = absurd cc
no_form true false x bad f e = (refl, err_is bad f e)

-- ---- a line that stands first

-- a line that is surely well-formed
abbrev pub any_line : Span → Directive ExpressionTree
any_line at = record { hash = at; pragma = at; omp = at; name = directives.Parallel at; clauses = []; end = at }

pub any_line_formed : (at : Span) → IsLine (any_line at)
unfolding IsDirective EachBehind
any_line_formed at = tt

abbrev pub any_line_rest : Span → List Token
any_line_rest at = token (kinds.Name (codes "pragma")) at ∷ token (kinds.Name (codes "omp")) at
    ∷ token (directive_word words.Parallel) at ∷ token kinds.DirectiveEnd at ∷ []

pub any_line_spelled : (at : Span) → directive_spelling expression_spelling (any_line at)
    ≡ token kinds.DirectiveBegin at ∷ any_line_rest at
unfolding directive_spelling opening_spelling name_spelling
any_line_spelled at = refl

-- a construct that is surely well-formed
abbrev any_construct : Span → StatementTree
any_construct at = Construct (any_line at) (Empty at)

any_construct_part : (at : Span) → IsPart (any_construct at)
unfolding IsStatement
any_construct_part at = ((any_line_formed at, (refl, refl, refl), tt, tt), tt)

any_construct_spelled : (at : Span) → statement_spelling (any_construct at) ≡ token kinds.DirectiveBegin at
    ∷ (any_line_rest at ++ mark punctuators.Semicolon at ∷ [])
unfolding statement_spelling
any_construct_spelled at = ap (λ (w : List Token). w ++ mark punctuators.Semicolon at ∷ []) (any_line_spelled at)

-- a line with a word behind its `#`, or none, begins with the `#`
line_begins : (ts : List Token) → (line_start ts ≡ lines.Nothing → ⊥) → (hash : Span) × (us : List Token)
    × (ts ≡ token kinds.DirectiveBegin hash ∷ us)
line_begins [] some = absurd (some refl)
line_begins (t ∷ ts) some = go t.kind some
  where
    go : (k : TokenKind) → (line_start (token k t.span ∷ ts) ≡ lines.Nothing → ⊥) → (hash : Span)
        × (us : List Token) × (token k t.span ∷ ts ≡ token kinds.DirectiveBegin hash ∷ us)
    go kinds.DirectiveBegin some = (t.span, ts, refl)
    go _ some = absurd (some refl)

-- the line of a `section`, and a part that is surely well-formed
abbrev any_section : Span → Directive ExpressionTree
any_section at = record {
  hash = at;
  pragma = at;
  omp = at;
  name = directives.Section at;
  clauses = [];
  end = at;
}

pub any_section_formed : (at : Span) → IsSection (Some (any_section at))
unfolding IsDirective EachBehind
any_section_formed at = (tt, refl)

abbrev pub any_part : Span → PartTree
any_part at = record { section = Some (any_section at); items = Statement (Empty at) NoStatements }

abbrev pub any_part_rest : Span → List Token
any_part_rest at = token (kinds.Name (codes "pragma")) at ∷ token (kinds.Name (codes "omp")) at
    ∷ token (directive_word words.Section) at ∷ token kinds.DirectiveEnd at ∷ mark punctuators.Semicolon at ∷ []

pub any_part_spelled : (at : Span) → part_spelling (any_part at) ≡ token kinds.DirectiveBegin at ∷ any_part_rest at
unfolding directive_spelling opening_spelling name_spelling statement_spelling
any_part_spelled at = refl

-- a line that stands first is refused where such a part may stand, which begins with a `#`
pub line_stopped_in : {A : Type 0} (spell : A → List Token) (IsFormed : A → Type 0) (over : A → Place)
    (any : Span → A) (any_rest : Span → List Token) → ((at : Span) → IsFormed (any at))
    → ((at : Span) → spell (any at) ≡ token kinds.DirectiveBegin at ∷ any_rest at)
    → (l : Limits) (r : LineReader) → IsLineCut l r
    → (ts : List Token) (f : SourceFault) → (line_start ts ≡ lines.Nothing → ⊥) → r ts ≡ Err f → Stops f
    → IsStopped spell IsFormed over l ts f
line_stopped_in spell IsFormed over any any_rest formed spelled l r cut ts f some h stops =
    let b = line_begins ts some in
    let c = cut b.0 b.1 f (ap r (sym b.2) ∙ h) stops in
    inr (inl (record {
      line = c.line;
      wrong = c.wrong;
      has_line = record {
        before = [];
        after = c.after;
        stands = b.2 ∙ c.parts;
        one_line = c.one_line;
        part = any b.0;
        formed = formed b.0;
        hash = b.0;
        rest_of_part = any_rest b.0;
        in_part = spelled b.0;
      };
    }))

-- the same where a statement may stand
line_stopped : (over : StatementTree → Place) → (l : Limits) (r : LineReader) → IsLineCut l r
    → (ts : List Token) (f : SourceFault) → (line_start ts ≡ lines.Nothing → ⊥) → r ts ≡ Err f → Stops f
    → IsStopped statement_spelling IsPart over l ts f
line_stopped over = line_stopped_in statement_spelling IsPart over any_construct
    (λ at. any_line_rest at ++ mark punctuators.Semicolon at ∷ []) any_construct_part any_construct_spelled

module _ (l : Limits) (line : LineReader) (sound : IsSound (directive_spelling expression_spelling) (IsWholeLine l)
    line) (cut : IsLineCut l line) where
  started : (ts : List Token) (d : Directive ExpressionTree × List Token) (start : LineStart) → line ts ≡ ok d
      → line_start ts ≡ start → start_of_directive d.0.name ≡ start
  started ts d start reads is = sym (line_start_is d.0 d.1) ∙ sym (ap line_start (sound ts d reads).parts) ∙ is

  -- ---- items

  item_of_cut : (depth nested : ℕ) (statement : Reader StatementTree) → IsStatementCut l depth nested statement
      → (start : LineStart) (ts : List Token) (f : SourceFault) → line_start ts ≡ start → item_of line statement
      start ts ≡ Err f → Stops f → IsStatementStopped l depth nested ts f
  unfolding item_of stand_alone_at unknown_line misplaced
  item_of_cut depth nested statement inner lines.StandAlone ts f is h stops = elim (bind_err (line ts) _ f h) [
    | inl fails ↦ line_stopped (IsOverInStatement l depth nested) l line cut ts f
        (λ none. absurd cc) fails stops
    | inr (d, reads, no_err) ↦ absurd cc
  ]
  item_of_cut depth nested statement inner lines.Section ts f is h stops = absurd
      (syntax_plain (from_word ts) f h stops)
  item_of_cut depth nested statement inner lines.Unknown ts f is h stops = elim (bind_err (line ts) _ f h) [
    | inl fails ↦ line_stopped (IsOverInStatement l depth nested) l line cut ts f
        (λ none. absurd cc) fails stops
    | inr (d, reads, g) ↦ absurd (syntax_plain (from_word ts) f g stops)
  ]
  item_of_cut depth nested statement inner lines.Construct ts f is h stops = inner ts f h stops
  item_of_cut depth nested statement inner lines.Nothing ts f is h stops = inner ts f h stops

  pub part_item_cut : (depth nested : ℕ) (statement : Reader StatementTree) → IsStatementCut l depth nested
      statement → IsStatementCut l depth nested (part_item_at line statement)
  unfolding part_item_at
  part_item_cut depth nested statement inner ts f h stops = item_of_cut depth nested statement inner (line_start ts)
      ts f refl h stops

  -- ---- constructs

  -- a construct round a statement
  around : (depth nested : ℕ) (d : Directive ExpressionTree) → IsLine d → IsConstruct d.name → (us ts : List Token)
      (f : SourceFault) → ts ≡ directive_spelling expression_spelling d ++ us → IsStatementStopped l (suc depth)
      nested us f → IsInsideStopped l depth nested ts f
  unfolding statement_spelling IsStatement IsOverInside
  around depth nested d formed name us ts f is stopped =
      let front : List Token = directive_spelling expression_spelling d in
      within_larger statement_spelling IsPart (IsOverInside l depth nested) front [] (Construct d) ts us f
      (λ s is_part. ((formed, name, is_part.0, is_part.1), tt))
      (λ s. ap (λ (w : List Token). front ++ w) (sym (append-nil (statement_spelling s))))
      (λ s before t over. (before, refl, over))
      is stopped

  atomic_cut : (depth nested : ℕ) (checked : Bool) (room blocks_left : ℕ) (statement : Bool → Reader StatementTree)
      → IsStatementSound l false room blocks_left (statement false) → IsStatementCut l (suc depth) nested
      (statement false)
      → (d : Directive ExpressionTree) → IsLine d → IsConstruct d.name → is_atomic d.name ≡ true
      → (us ts : List Token) (f : SourceFault) → ts ≡ directive_spelling expression_spelling d ++ us
      → atomic_after checked statement d us ≡ Err f → Stops f → IsInsideStopped l depth nested ts f
  unfolding atomic_after atomic_of statement_spelling
  atomic_cut depth nested checked room blocks_left statement good inner d formed name atomic us ts f is h stops =
      elim (bind_err (statement false us) _ f h) [
        | inl fails ↦ around depth nested d formed name us ts f is (inner us f fails stops)
        | inr (s, reads, g) ↦
            let body = good us s reads in
            let refused = no_form checked (has_atomic_form (atomic_kind d) s.0) (Construct d s.0, s.1) (bad_atomic d) f g in
            inr (inr (
              sym (ap (λ (e : SourceFault). e.code) refused.1),
              record {
                before = [];
                directive = d;
                statement = s.0;
                after = s.1;
                stands = after_front ts (directive_spelling expression_spelling d) us (statement_spelling s.0) s.1 is
                    body.parts;
                line = formed;
                atomic = atomic;
                formed = body.good.good.formed;
                body = body.good.body;
                no_form = refused.0;
                at_place = ap (λ (e : SourceFault). e.at) refused.1;
              },
            ))
      ]

  sections_cut : (depth nested : ℕ) (parts : PartsReader) → AreBracesCut l depth nested parts
      → (d : Directive ExpressionTree) → IsLine d → is_sections d.name ≡ true → (us ts : List Token)
      (f : SourceFault) → ts ≡ directive_spelling expression_spelling d ++ us → sections_after parts d us ≡ Err f
      → Stops f → IsInsideStopped l depth nested ts f
  unfolding sections_after statement_spelling IsStatement IsOverInside
  sections_cut depth nested parts inner d formed name us ts f is h stops = elim (bind_err (parts us) _ f h) [
    | inr (x, reads, no_err) ↦ absurd cc
    | inl fails ↦
        let front : List Token = directive_spelling expression_spelling d in
        within_larger statement_spelling IsPart (IsOverInside l depth nested) front [] (λ x. Sections d x.0 x.1 x.2)
        ts us f
        (λ x are. ((formed, name, are), tt))
        (λ x. ap (λ (w : List Token). front ++ w) (sym (append-nil (braces_spelling x))))
        (λ x before t over. (before, refl, over))
        is (inner us f fails stops)
  ]

  after_cut : (depth nested : ℕ) (checked : Bool) (room blocks_left : ℕ) (statement : Bool → Reader StatementTree)
      → ((c : Bool) → IsStatementSound l c room blocks_left (statement c))
      → ((c : Bool) → IsStatementCut l (suc depth) nested (statement c)) → (parts : PartsReader)
      → AreBracesCut l depth nested parts
      → (d : Directive ExpressionTree) → IsLine d → (is_stand_alone d.name ≡ false) × (is_section d.name ≡ false)
      → (us ts : List Token) (f : SourceFault) → ts ≡ directive_spelling expression_spelling d ++ us
      → (sections atomic : Bool) → is_sections d.name ≡ sections → is_atomic d.name ≡ atomic
      → cond sections (sections_after parts d us) (cond atomic (atomic_after checked statement d us)
      (constructed_after (statement checked) d us)) ≡ Err f → Stops f → IsInsideStopped l depth nested ts f
  unfolding constructed_after
  after_cut depth nested checked room blocks_left statement good inner parts braces d formed name us ts f is true
      atomic has_sections has_atomic h stops = sections_cut depth nested parts braces d formed has_sections us ts f
      is h stops
  after_cut depth nested checked room blocks_left statement good inner parts braces d formed name us ts f is false
      true has_sections has_atomic h stops = atomic_cut depth nested checked room blocks_left statement (good false)
      (inner false) d formed (name.0, name.1, has_sections) has_atomic us ts f is h stops
  after_cut depth nested checked room blocks_left statement good inner parts braces d formed name us ts f is false
      false has_sections has_atomic h stops = elim (bind_err (statement checked us) _ f h) [
        | inl fails ↦ around depth nested d formed (name.0, name.1, has_sections) us ts f is
            (inner checked us f fails stops)
        | inr (s, reads, no_err) ↦ absurd cc
      ]

  construct_cut : (depth nested : ℕ) (checked : Bool) (room blocks_left : ℕ) (statement : Bool
      → Reader StatementTree) → ((c : Bool) → IsStatementSound l c room blocks_left (statement c))
      → ((c : Bool) → IsStatementCut l (suc depth) nested (statement c)) → (parts : PartsReader)
      → AreBracesCut l depth nested parts
      → (ts : List Token) (f : SourceFault) → line_start ts ≡ lines.Construct → construct_at line checked statement
      parts ts ≡ Err f → Stops f → IsInsideStopped l depth nested ts f
  unfolding construct_at construct_after
  construct_cut depth nested checked room blocks_left statement good inner parts braces ts f is h stops =
      elim (bind_err (line ts) _ f h) [
        | inl fails ↦ line_stopped (IsOverInside l depth nested) l line cut ts f
            (λ none. absurd cc) fails stops
        | inr (d, reads, g) ↦
            let r = sound ts d reads in
            after_cut depth nested checked room blocks_left statement good inner parts braces d.0 r.formed.formed
            (construct_name d.0.name (started ts d lines.Construct reads is)) d.1 ts f r.parts
            (is_sections d.0.name) (is_atomic d.0.name) refl refl g stops
      ]

  -- a line where a statement must stand
  pub line_of_cut : (depth nested : ℕ) (checked : Bool) (room blocks_left : ℕ) (statement : Bool
      → Reader StatementTree) → ((c : Bool) → IsStatementSound l c room blocks_left (statement c))
      → ((c : Bool) → IsStatementCut l (suc depth) nested (statement c)) → (parts : PartsReader)
      → AreBracesCut l depth nested parts
      → (start : LineStart) (ts : List Token) (f : SourceFault) → line_start ts ≡ start → line_of line checked
      statement parts start ts ≡ Err f → Stops f → IsInsideStopped l depth nested ts f
  unfolding line_of unknown_line misplaced
  line_of_cut depth nested checked room blocks_left statement good inner parts braces lines.Construct ts f is h
      stops = construct_cut depth nested checked room blocks_left statement good inner parts braces ts f is h stops
  line_of_cut depth nested checked room blocks_left statement good inner parts braces lines.Unknown ts f is h
      stops = elim (bind_err (line ts) _ f h) [
        | inl fails ↦ line_stopped (IsOverInside l depth nested) l line cut ts f
            (λ none. absurd cc) fails stops
        | inr (d, reads, g) ↦ absurd (syntax_plain (from_word ts) f g stops)
      ]
  line_of_cut depth nested checked room blocks_left statement good inner parts braces lines.StandAlone ts f is h
      stops = absurd (syntax_plain (from_word ts) f h stops)
  line_of_cut depth nested checked room blocks_left statement good inner parts braces lines.Section ts f is h
      stops = absurd (syntax_plain (from_word ts) f h stops)
  line_of_cut depth nested checked room blocks_left statement good inner parts braces lines.Nothing ts f is h
      stops = absurd (syntax_plain (from_word ts) f h stops)
