-- Where a statement is refused by another code than that of syntax: at a limit its tokens up to there begin a
-- well-formed one.
use Rattle.std.proofs.Common.{◌≡◌, ℕ, zero, suc, ◌+◌, ◌≤◌, Bool, List, [], ◌∷◌, ◌++◌, length, None, Err, refl, sym, ap}
use Rattle.std.proofs.Common.{subst, ◌∙◌, arith, ◌⊎◌, inl, inr}
use Rattle.std.proofs.lemmas.List.{append-nil}
use Rattle.om_lexer.specs.declared.fault.SourceFault.{SourceFault}
use Rattle.om_lexer.specs.declared.token.Keyword.TheVariants as keywords
use Rattle.om_lexer.specs.declared.token.Punctuator.TheVariants as punctuators
use Rattle.om_lexer.specs.declared.token.Span.{Span}
use Rattle.om_lexer.specs.declared.token.Token.{Token}
use Rattle.om_lexer.specs.declared.token.TokenKind.{TokenKind}
use Rattle.om_parser.specs.declared.start.Start.{Start}
use Rattle.om_parser.specs.declared.start.Start.TheVariants as starts
use Rattle.om_parser.specs.ConstructReading.{PartsReader, line_start, ends_parts, part_at}
use Rattle.om_parser.specs.OneOrMore.{one_or_more}
use Rattle.om_parser.specs.BlockFaults.{IsStopped}
use Rattle.om_parser_parts.specs.Reading.{Reader, too_deep, mark_at}
use Rattle.om_parser_tree.specs.Spelling.{token, mark, word, condition_spelling, for_start_spelling, for_head_spelling}
use Rattle.om_parser_tree.specs.Spelling.{statement_spelling, block_spelling}
use Rattle.om_parser_tree.specs.Formed.{IsForHead, IsStatement, AreStatements, IsOptionalSection, AreParts}
use Rattle.om_parser_tree.specs.Limits.{Limits}
use Rattle.om_parser_tree.specs.Places.{Either, AtDepth, AtBrace, IsOverInside, IsOverInItems, IsOverInStatement}
use Rattle.om_parser_tree.specs.Places.{IsOverInBlock}
use Rattle.om_parser_parts.specs.PartReading.{Parts}
use Rattle.om_parser.specs.StatementReading.{start_of, optional_before, return_after, jump_after}
use Rattle.om_parser.specs.StatementReading.{expression_statement_at, block_items_after, block_after}
use Rattle.om_parser.specs.StatementReading.{parts_after, simple_of, statement_of, no_room}
use Rattle.om_parser.specs.StatementReading.{statement_at, parts_at, block_with}
use Rattle.om_parser_tree.specs.Tree.{StatementTree, StatementsTree, Block, Empty, Expression, If, While, Do, For, Return}
use Rattle.om_parser_tree.specs.Tree.{Break, Continue, Construct, NoStatements, Statement, statements, BlockTree, PartsTree, NoParts, Part}
use Rattle.om_parser_parts.specs.Outcomes.{bind_err, err_is}
use Rattle.om_parser_parts.specs.Taken.{mark_at_is}
use Rattle.om_parser_parts.specs.Laws.{ArePartsSound, Stops, ArePartsCut}
use Rattle.om_parser.proofs.StatementSound.{statement_sound}
use Rattle.om_parser.proofs.StatementParts.{IsOf, is_of_start, braces_spelling, IsStatementSound}
use Rattle.om_parser.proofs.StatementTokens.{list_of, statements_of, list_flat}
use Rattle.om_parser.specs.Stopped.{IsPlain, syntax_plain, mark_plain, last_mark_plain, within_larger}
use Rattle.om_parser.proofs.ConstructCut.{IsPart, any_line, any_line_formed, any_line_rest, any_line_spelled}
use Rattle.om_parser.proofs.ConstructCut.{IsStatementStopped, IsInsideStopped, IsStatementCut, AreBraces, InBraces}
use Rattle.om_parser.proofs.ConstructCut.{AreBracesCut, any_section_formed, line_of_cut}
use Rattle.om_parser.proofs.SectionsCut.{ArePartsBy, parts_cut}
use Rattle.om_parser.proofs.ItemSound.{may_lack}
use Rattle.om_parser.proofs.Begins.{begins_with}
use Rattle.om_parser.proofs.ItemsStopped.{any_head, any_condition, any_formed, AreItemsStopped, IsBlockStopped}
use Rattle.om_parser.proofs.ItemsStopped.{optional_cut, headed_cut, do_cut, items_cut}

module _ (p : Parts) (l : Limits) (one : 1 ≤ l.nested) (sound : ArePartsSound p l) (cuts : ArePartsCut p l) where
  -- ---- blocks

  -- the items of a block behind its left brace, where so many statements and blocks stand round them
  abbrev pub IsItemsStopped : (depth nested : ℕ) (left : Span) (ts : List Token) (f : SourceFault) → Type 0
  IsItemsStopped depth nested left ts f = ((f ≡ too_deep left) × (nested ≡ l.blocks))
      ⊎ (AreItemsStopped p l one sound cuts) depth (suc nested) ts f

  block_items_cut : (depth nested : ℕ) (checked : Bool) (room blocks_left : ℕ)
      (statement : ℕ → Reader StatementTree) → nested + blocks_left ≡ l.blocks
      → ((k : ℕ) → IsStatementSound l checked room k (statement k)) → ((k inside : ℕ) → inside + k ≡ l.blocks
      → IsStatementCut l depth inside (statement k)) → (left : Span) (ts : List Token) (f : SourceFault)
      → block_items_after p statement blocks_left left ts ≡ Err f → Stops f → IsItemsStopped depth nested left ts f
  unfolding block_items_after
  block_items_cut depth nested checked room zero statement sum good inner left ts f h stops =
      inl (sym (err_is (too_deep left) f h), omega (arith, sum))
  block_items_cut depth nested checked room (suc blocks_left) statement sum good inner left ts f h stops =
      inr ((items_cut p l one sound cuts) depth (suc nested) checked room blocks_left
      (statement blocks_left) (good blocks_left) (inner blocks_left (suc nested) (omega (arith, sum))) (length ts)
      ts f h stops)

  block_cut_with : (depth nested : ℕ) (checked : Bool) (room blocks_left : ℕ) (statement : ℕ → Reader StatementTree)
      → nested + blocks_left ≡ l.blocks → ((k : ℕ) → IsStatementSound l checked room k (statement k))
      → ((k inside : ℕ) → inside + k ≡ l.blocks → IsStatementCut l (suc depth) inside (statement k))
      → (left : Span) (ts : List Token) (f : SourceFault) → block_after p statement blocks_left left ts ≡ Err f
      → Stops f → IsInsideStopped l depth nested (mark punctuators.OpenBrace left ∷ ts) f
  unfolding block_after statement_spelling IsStatement IsOverInside
  block_cut_with depth nested checked room blocks_left statement sum good inner left ts f h stops =
      elim (bind_err (block_items_after p statement blocks_left left ts) _ f h) [
        | inr (x, reads, no_err) ↦ absurd cc
        | inl fails ↦ elim (block_items_cut (suc depth) nested checked room blocks_left statement sum good inner left ts
            f fails stops) [
              | inl (is, full) ↦ inl (
                ap (λ (g : SourceFault). g.code) is,
                record {
                  part = Block left NoStatements left;
                  formed = (tt, tt);
                  before = [];
                  token = mark punctuators.OpenBrace left;
                  after = ts;
                  rest_of_part = mark punctuators.CloseBrace left ∷ [];
                  stands = refl;
                  in_part = refl;
                  at_place = sym (ap (λ (g : SourceFault). g.at) is);
                  too_much = inl (full, refl);
                },
              )
              | inr c ↦ within_larger statement_spelling IsPart (IsOverInside l depth nested)
                  (mark punctuators.OpenBrace left ∷ []) (mark punctuators.CloseBrace left ∷ []) (λ ss. Block left ss left)
                  (mark punctuators.OpenBrace left ∷ ts) ts f (λ ss is. (is.1, tt)) (λ ss. refl)
                  (λ ss before t over. inr (before, refl, over)) refl c
            ]
      ]

  -- ---- the braces of `sections`

  abbrev AreBracesStopped : (depth nested : ℕ) → List Token → SourceFault → Type 0
  AreBracesStopped depth nested ts f = IsStopped braces_spelling AreBraces (InBraces l depth nested) l ts f

  full_braces : (depth nested : ℕ) (left : Span) (ts us : List Token) (f : SourceFault) → ts
      ≡ mark punctuators.OpenBrace left ∷ us → f ≡ too_deep left → (suc depth ≡ suc l.statements)
      ⊎ (nested ≡ l.blocks) → AreBracesStopped depth nested ts f
  unfolding statement_spelling IsStatement
  full_braces depth nested left ts us f begins is full = inl (
    ap (λ (g : SourceFault). g.code) is,
    record {
      part = (left, Part None (Statement (Empty left) NoStatements) NoParts, left);
      formed = (tt, tt, (tt, tt, tt), tt);
      before = [];
      token = mark punctuators.OpenBrace left;
      after = us;
      rest_of_part = mark punctuators.Semicolon left ∷ mark punctuators.CloseBrace left ∷ [];
      stands = begins;
      in_part = refl;
      at_place = sym (ap (λ (g : SourceFault). g.at) is);
      too_much = inl (at_brace full);
    },
  )
    where
      at_brace : (suc depth ≡ suc l.statements) ⊎ (nested ≡ l.blocks) → Either (AtDepth l (suc depth))
          (AtBrace l nested) [] (mark punctuators.OpenBrace left)
      at_brace (inl high) = inl (high, refl)
      at_brace (inr deep) = inr (deep, refl)

  parts_formed : (ps : PartsTree) → ArePartsBy IsOptionalSection ps → AreParts ps
  unfolding IsStatement
  parts_formed NoParts f = absurd f
  parts_formed (Part section items rest) f = f

  braces_cut_with : (depth nested : ℕ) (checked : Bool) (room blocks_left : ℕ)
      (statement : ℕ → Reader StatementTree) → nested + blocks_left ≡ l.blocks
      → ((k : ℕ) → IsStatementSound l checked room k (statement k)) → ((k inside : ℕ) → inside + k ≡ l.blocks
      → IsStatementCut l (suc (suc depth)) inside (statement k)) → (left : Span) (us ts : List Token)
      (f : SourceFault) → ts ≡ mark punctuators.OpenBrace left ∷ us → parts_after p statement blocks_left left us
      ≡ Err f → Stops f → AreBracesStopped depth nested ts f
  unfolding parts_after
  braces_cut_with depth nested checked room zero statement sum good inner left us ts f begins h stops = full_braces
      depth nested left ts us f begins (sym (err_is (too_deep left) f h)) (inr (omega (arith, sum)))
  braces_cut_with depth nested checked room (suc blocks_left) statement sum good inner left us ts f begins h stops =
      elim (bind_err (one_or_more ends_parts (part_at p.line (statement blocks_left)) (length us) us) _ f h) [
        | inr (x, reads, g) ↦ absurd (last_mark_plain punctuators.CloseBrace x.1 _ f g stops)
        | inl fails ↦ within_larger braces_spelling AreBraces (InBraces l depth nested)
            (mark punctuators.OpenBrace left ∷ []) (mark punctuators.CloseBrace left ∷ []) (λ ps. (left, ps, left))
            ts us f parts_formed (λ ps. refl) (λ ps before t over. inr (before, refl, over)) begins
            (parts_cut p l one sound cuts (suc (suc depth)) (suc nested) checked room blocks_left
            (statement blocks_left) (good blocks_left) (inner blocks_left (suc nested) (omega (arith, sum)))
            IsOptionalSection any_section_formed (length us) us f ((may_lack p l one sound) us) fails stops)
      ]

  -- ---- statements without a statement in them

  return_cut : (depth nested : ℕ) (at : Span) (ts : List Token) (f : SourceFault) → return_after p at ts ≡ Err f
      → Stops f → IsInsideStopped l depth nested (word keywords.Return at ∷ ts) f
  unfolding return_after statement_spelling IsStatement IsOverInside
  return_cut depth nested at ts f h stops = elim (bind_err (optional_before punctuators.Semicolon p.expression ts) _
      f h) [
        | inr (e, reads, no_err) ↦ absurd cc
        | inl fails ↦ within_larger statement_spelling IsPart (IsOverInside l depth nested) (word keywords.Return at
            ∷ []) [] (λ e. Return at e.0 e.1) (word keywords.Return at ∷ ts) ts f (λ e is. (is, tt))
            (λ e. simp append-nil) (λ e before t over. (before, refl, over)) refl ((optional_cut p l one sound cuts) l
            punctuators.Semicolon p.expression at cuts.expression ts f fails stops)
      ]

  expression_cut : (depth nested : ℕ) (filler : Span) (ts : List Token) (f : SourceFault) → expression_statement_at
      p ts ≡ Err f → Stops f → IsInsideStopped l depth nested ts f
  unfolding expression_statement_at statement_spelling IsStatement IsOverInside
  expression_cut depth nested filler ts f h stops = elim (bind_err (p.expression ts) _ f h) [
    | inr (e, reads, g) ↦ absurd (last_mark_plain punctuators.Semicolon e.1 _ f g stops)
    | inl fails ↦ within_larger statement_spelling IsPart (IsOverInside l depth nested) []
        (mark punctuators.Semicolon filler ∷ []) (λ e. Expression e filler) ts ts f (λ e is. (is, tt)) (λ e. refl)
        (λ e before t over. over) refl (inl (cuts.expression ts f fails stops))
  ]

  jump_plain : (jump : Span → StatementTree) (ts : List Token) → IsPlain (jump_after jump ts)
  unfolding jump_after
  jump_plain jump ts = last_mark_plain punctuators.Semicolon ts _

  -- ---- the whole

  -- what a statement of such a start has behind its first token, at least
  abbrev IsSmallest : Start → TokenKind → Span → Type 0
  IsSmallest start k at = (s : StatementTree) × (rest : List Token) × IsPart s × (statement_spelling s ≡ token k at
      ∷ rest)

  smallest : (start : Start) (k : TokenKind) (at : Span) → IsOf start k → start_of k ≡ start
      → (start ≡ starts.Nothing → ⊥) → IsSmallest start k at
  unfolding statement_spelling IsStatement for_head_spelling IsForHead for_start_spelling
  smallest starts.Block k at is of other = (
    Block at NoStatements at,
    _,
    (tt, tt),
    ap (λ j. token j at ∷ mark punctuators.CloseBrace at ∷ []) (sym is),
  )
  smallest starts.Empty k at is of other = (Empty at, [], (tt, tt), ap (λ j. token j at ∷ []) (sym is))
  smallest starts.If k at is of other = (
    If at (any_condition at) (Empty at),
    condition_spelling (any_condition at)
        ++ mark punctuators.Semicolon at ∷ [],
    ((any_formed at, tt, tt), tt),
    ap (λ j. token j at ∷ (condition_spelling (any_condition at) ++ mark punctuators.Semicolon at ∷ [])) (sym is),
  )
  smallest starts.While k at is of other = (
    While at (any_condition at) (Empty at),
    condition_spelling
        (any_condition at) ++ mark punctuators.Semicolon at ∷ [],
    ((any_formed at, tt, tt), tt),
    ap (λ j. token j at ∷ (condition_spelling (any_condition at) ++ mark punctuators.Semicolon at ∷ [])) (sym is),
  )
  smallest starts.Do k at is of other = (
    Do at (Empty at) at (any_condition at) at,
    mark punctuators.Semicolon at
        ∷ word keywords.While at ∷ (condition_spelling (any_condition at) ++ mark punctuators.Semicolon at ∷ []),
    ((any_formed at, tt, tt), tt),
    ap (λ j. token j at ∷ mark punctuators.Semicolon at ∷ word keywords.While at
        ∷ (condition_spelling (any_condition at) ++ mark punctuators.Semicolon at ∷ [])) (sym is),
  )
  smallest starts.For k at is of other = (
    For (any_head at) (Empty at),
    mark punctuators.OpenParen at
        ∷ mark punctuators.Semicolon at ∷ mark punctuators.Semicolon at ∷ mark punctuators.CloseParen at
        ∷ mark punctuators.Semicolon at ∷ [],
    (((tt, tt, tt), tt, tt), tt),
    ap (λ j. token j at ∷ mark punctuators.OpenParen at ∷ mark punctuators.Semicolon at
        ∷ mark punctuators.Semicolon at ∷ mark punctuators.CloseParen at ∷ mark punctuators.Semicolon at ∷ []) (sym is),
  )
  smallest starts.Return k at is of other = (
    Return at None at,
    mark punctuators.Semicolon at ∷ [],
    (tt, tt),
    ap (λ j. token j at ∷ mark punctuators.Semicolon at ∷ []) (sym is),
  )
  smallest starts.Break k at is of other = (
    Break at at,
    mark punctuators.Semicolon at ∷ [],
    (tt, tt),
    ap (λ j. token j at ∷ mark punctuators.Semicolon at ∷ []) (sym is),
  )
  smallest starts.Continue k at is of other = (
    Continue at at,
    mark punctuators.Semicolon at ∷ [],
    (tt, tt),
    ap (λ j. token j at ∷ mark punctuators.Semicolon at ∷ []) (sym is),
  )
  smallest starts.Directive k at is of other = (
    Construct (any_line at) (Empty at),
    any_line_rest at
        ++ mark punctuators.Semicolon at ∷ [],
    ((any_line_formed at, (refl, refl, refl), tt, tt), tt),
    ap (λ w. w ++ mark punctuators.Semicolon at ∷ []) (any_line_spelled at)
        ∙ ap (λ j. token j at ∷ (any_line_rest at ++ mark punctuators.Semicolon at ∷ [])) (sym is),
  )
  smallest starts.Expression k at is of other =
      let e = begins_with k at of in (
        Expression e.tree at,
        e.behind ++ mark punctuators.Semicolon at ∷ [],
        (e.formed, tt),
        ap (λ w. w ++ mark punctuators.Semicolon at ∷ []) e.spelled,
      )
  smallest starts.Nothing k at is of other = absurd (other refl)

  no_room_is : (start : Start) (s : Span) (ts : List Token) (f : SourceFault) → no_room start s ts ≡ Err f → Stops f
      → (start ≡ starts.Nothing → ⊥) × (too_deep s ≡ f)
  unfolding no_room
  no_room_is starts.Nothing s ts f h stops = absurd (syntax_plain ts f h stops)
  no_room_is starts.Block s ts f h stops = ((λ e. absurd cc), err_is (too_deep s) f h)
  no_room_is starts.Empty s ts f h stops = ((λ e. absurd cc), err_is (too_deep s) f h)
  no_room_is starts.If s ts f h stops = ((λ e. absurd cc), err_is (too_deep s) f h)
  no_room_is starts.While s ts f h stops = ((λ e. absurd cc), err_is (too_deep s) f h)
  no_room_is starts.Do s ts f h stops = ((λ e. absurd cc), err_is (too_deep s) f h)
  no_room_is starts.For s ts f h stops = ((λ e. absurd cc), err_is (too_deep s) f h)
  no_room_is starts.Return s ts f h stops = ((λ e. absurd cc), err_is (too_deep s) f h)
  no_room_is starts.Break s ts f h stops = ((λ e. absurd cc), err_is (too_deep s) f h)
  no_room_is starts.Continue s ts f h stops = ((λ e. absurd cc), err_is (too_deep s) f h)
  no_room_is starts.Directive s ts f h stops = ((λ e. absurd cc), err_is (too_deep s) f h)
  no_room_is starts.Expression s ts f h stops = ((λ e. absurd cc), err_is (too_deep s) f h)

  no_room_cut : (nested : ℕ) (t : Token) (ts : List Token) (f : SourceFault) → no_room (start_of t.kind) t.span
      (t ∷ ts) ≡ Err f → Stops f → IsStopped statement_spelling IsPart (IsOverInStatement l (suc l.statements)
      nested) l (t ∷ ts) f
  no_room_cut nested t ts f h stops =
      let is = no_room_is (start_of t.kind) t.span (t ∷ ts) f h stops in
      let s = smallest (start_of t.kind) t.kind t.span (is_of_start t.kind) refl is.0 in
      inl (
        sym (ap (λ (g : SourceFault). g.code) is.1),
        record {
          part = s.0;
          formed = s.2;
          before = [];
          token = t;
          after = ts;
          rest_of_part = s.1;
          stands = refl;
          in_part = s.3;
          at_place = ap (λ (g : SourceFault). g.at) is.1;
          too_much = inl (s.2.1, refl, refl);
        },
      )

  statement_of_cut : (depth nested : ℕ) (checked : Bool) (room blocks_left : ℕ) (statement : Bool → ℕ
      → Reader StatementTree) (braces : ℕ → PartsReader) → nested + blocks_left ≡ l.blocks
      → ((c : Bool) (k : ℕ) → IsStatementSound l c room k (statement c k)) → ((c : Bool) (k inside : ℕ) → inside + k
      ≡ l.blocks → IsStatementCut l (suc depth) inside (statement c k)) → ((k inside : ℕ) → inside + k ≡ l.blocks
      → AreBracesCut l depth inside (braces k))
      → (start : Start) (k : TokenKind) (at : Span) (ts : List Token) (f : SourceFault) → IsOf start k
      → statement_of p checked statement braces blocks_left start at ts (token k at ∷ ts) ≡ Err f → Stops f
      → IsInsideStopped l depth nested (token k at ∷ ts) f
  unfolding statement_of simple_of
  statement_of_cut depth nested checked room blocks_left statement braces sum good inner brace starts.Block k at ts
      f is h stops = subst (λ j. IsInsideStopped l depth nested (token j at ∷ ts) f) (sym is)
      (block_cut_with depth nested checked room blocks_left (statement checked) sum (good checked) (inner checked)
      at ts f h stops)
  statement_of_cut depth nested checked room blocks_left statement braces sum good inner brace starts.Empty k at ts
      f is h stops = absurd cc
  statement_of_cut depth nested checked room blocks_left statement braces sum good inner brace starts.If k at ts f
      is h stops = subst (λ j. IsInsideStopped l depth nested (token j at ∷ ts) f) (sym is)
      ((headed_cut p l one sound cuts) depth nested checked room blocks_left (statement checked blocks_left)
      (good checked blocks_left) (inner checked blocks_left nested sum) starts.If at ts f h stops)
  statement_of_cut depth nested checked room blocks_left statement braces sum good inner brace starts.While k at ts
      f is h stops = subst (λ j. IsInsideStopped l depth nested (token j at ∷ ts) f) (sym is)
      ((headed_cut p l one sound cuts) depth nested checked room blocks_left (statement checked blocks_left)
      (good checked blocks_left) (inner checked blocks_left nested sum) starts.While at ts f h stops)
  statement_of_cut depth nested checked room blocks_left statement braces sum good inner brace starts.Do k at ts f
      is h stops = subst (λ j. IsInsideStopped l depth nested (token j at ∷ ts) f) (sym is)
      ((do_cut p l one sound cuts) depth nested checked room blocks_left (statement checked blocks_left)
      (good checked blocks_left) (inner checked blocks_left nested sum) at ts f h stops)
  statement_of_cut depth nested checked room blocks_left statement braces sum good inner brace starts.For k at ts f
      is h stops = subst (λ j. IsInsideStopped l depth nested (token j at ∷ ts) f) (sym is)
      ((headed_cut p l one sound cuts) depth nested checked room blocks_left (statement checked blocks_left)
      (good checked blocks_left) (inner checked blocks_left nested sum) starts.For at ts f h stops)
  statement_of_cut depth nested checked room blocks_left statement braces sum good inner brace starts.Return k at ts
      f is h stops = subst (λ j. IsInsideStopped l depth nested (token j at ∷ ts) f) (sym is)
      (return_cut depth nested at ts f h stops)
  statement_of_cut depth nested checked room blocks_left statement braces sum good inner brace starts.Break k at ts
      f is h stops = absurd (jump_plain (Break at) ts f h stops)
  statement_of_cut depth nested checked room blocks_left statement braces sum good inner brace starts.Continue k at
      ts f is h stops = absurd (jump_plain (Continue at) ts f h stops)
  statement_of_cut depth nested checked room blocks_left statement braces sum good inner brace starts.Directive k at
      ts f is h stops = line_of_cut l p.line sound.line cuts.line depth nested checked room blocks_left
      (λ c. statement c blocks_left) (λ c. good c blocks_left) (λ c. inner c blocks_left nested sum)
      (braces blocks_left) (brace blocks_left nested sum) (line_start (token k at ∷ ts)) (token k at ∷ ts) f refl h
      stops
  statement_of_cut depth nested checked room blocks_left statement braces sum good inner brace starts.Expression k
      at ts f is h stops = expression_cut depth nested at (token k at ∷ ts) f h stops
  statement_of_cut depth nested checked room blocks_left statement braces sum good inner brace starts.Nothing k at
      ts f is h stops = absurd (syntax_plain (token k at ∷ ts) f h stops)

  mutual
    unfolding statement_at parts_at

    pub statement_cut : (depth nested : ℕ) (checked : Bool) (room blocks_left : ℕ) → depth + room ≡ suc l.statements
        → nested + blocks_left ≡ l.blocks → IsStatementCut l depth nested (statement_at p checked room blocks_left)
    statement_cut depth nested checked zero blocks_left high sum [] f h stops = absurd (syntax_plain [] f h stops)
    statement_cut depth nested checked zero blocks_left high sum (t ∷ ts) f h stops =
        let at_limit : suc l.statements ≡ depth = omega (arith, high) in
        subst (λ d. IsStatementStopped l d nested (t ∷ ts) f) at_limit (no_room_cut nested t ts f h stops)
    statement_cut depth nested checked (suc room) blocks_left high sum [] f h stops = absurd (syntax_plain [] f h stops)
    statement_cut depth nested checked (suc room) blocks_left high sum (t ∷ ts) f h stops =
        let c = statement_of_cut depth nested checked room blocks_left (λ c. statement_at p c room)
        (parts_at p checked room) sum (λ c k. statement_sound p l one sound c room k)
        (λ c k inside sum. statement_cut (suc depth) inside c room k (omega (arith, high)) sum)
        (λ k inside sum. braces_cut depth inside checked room k (omega (arith, high)) sum) (start_of t.kind)
        t.kind t.span ts f (is_of_start t.kind) h stops in
        within_larger statement_spelling IsPart (IsOverInStatement l depth nested) [] [] (λ s. s) (t ∷ ts) (t ∷ ts)
        f (λ s is. is) (λ s. sym (append-nil (statement_spelling s))) (λ s before u over. inr over) refl c

    braces_cut : (depth nested : ℕ) (checked : Bool) (room blocks_left : ℕ) → suc depth + room ≡ suc l.statements
        → nested + blocks_left ≡ l.blocks → AreBracesCut l depth nested (parts_at p checked room blocks_left)
    braces_cut depth nested checked zero blocks_left high sum ts f h stops =
        elim (bind_err (mark_at punctuators.OpenBrace ts) _ f h) [
          | inl wrong ↦ absurd (mark_plain punctuators.OpenBrace ts f wrong stops)
          | inr (o, taken, g) ↦ full_braces depth nested o.0 ts o.1 f (mark_at_is punctuators.OpenBrace ts o taken)
              (sym (err_is (too_deep o.0) f g)) (inl (omega (arith, high)))
        ]
    braces_cut depth nested checked (suc room) blocks_left high sum ts f h stops =
        elim (bind_err (mark_at punctuators.OpenBrace ts) _ f h) [
          | inl wrong ↦ absurd (mark_plain punctuators.OpenBrace ts f wrong stops)
          | inr (o, taken, g) ↦ braces_cut_with depth nested checked room blocks_left (statement_at p checked room) sum
              (λ k. statement_sound p l one sound checked room k) (λ k inside sum. statement_cut (suc (suc depth))
              inside checked room k (omega (arith, high)) sum) o.0 o.1 ts f (mark_at_is punctuators.OpenBrace ts o
              taken) g stops
        ]

  -- ---- the block of a function

  function_brace : (ts : List Token) (left : Span) (us : List Token) (f : SourceFault) → ts
      ≡ mark punctuators.OpenBrace left ∷ us → f ≡ too_deep left → 0 ≡ l.blocks
      → (IsBlockStopped p l one sound cuts) ts f
  unfolding block_spelling IsStatement
  function_brace ts left us f begins is full = inl (
    ap (λ (g : SourceFault). g.code) is,
    record {
      part = record { open_brace = left; items = []; close_brace = left };
      formed = tt;
      before = [];
      token = mark punctuators.OpenBrace left;
      after = us;
      rest_of_part = mark punctuators.CloseBrace left ∷ [];
      stands = begins;
      in_part = refl;
      at_place = sym (ap (λ (g : SourceFault). g.at) is);
      too_much = inl (full, refl);
    },
  )

  block_from : Span → StatementsTree → BlockTree
  block_from left ss = record { open_brace = left; items = list_of ss; close_brace = left }

  function_items : (ts : List Token) (left : Span) (us : List Token) (f : SourceFault) → ts
      ≡ mark punctuators.OpenBrace left ∷ us → (AreItemsStopped p l one sound cuts) 1 1 us f
      → (IsBlockStopped p l one sound cuts) ts f
  unfolding block_spelling block_from
  function_items ts left us f is c = within_larger block_spelling (λ b. AreStatements (statements b.items))
      (IsOverInBlock l) (mark punctuators.OpenBrace left ∷ []) (mark punctuators.CloseBrace left ∷ [])
      (block_from left) ts us f
      (λ ss formed. subst AreStatements (sym (statements_of ss)) formed.1)
      (λ ss. ap (λ w. mark punctuators.OpenBrace left ∷ (w ++ mark punctuators.CloseBrace left ∷ []))
      (sym (list_flat ss)))
      (λ ss before t over. inr (
        before,
        refl,
        subst (λ xs. IsOverInItems l 1 1 xs before t) (sym (statements_of ss))
            over,
      )) is c

  pub function_block_cut : (ts : List Token) (f : SourceFault) → block_with p l.checked l.statements l.blocks ts
      ≡ Err f → Stops f → (IsBlockStopped p l one sound cuts) ts f
  unfolding block_with
  function_block_cut ts f h stops = elim (bind_err (mark_at punctuators.OpenBrace ts) _ f h) [
    | inl wrong ↦ absurd (mark_plain punctuators.OpenBrace ts f wrong stops)
    | inr (o, taken, g) ↦ elim (bind_err (block_items_after p (statement_at p l.checked l.statements) l.blocks o.0
        o.1) _ f g) [
          | inr (x, reads, no_err) ↦ absurd cc
          | inl fails ↦ elim (block_items_cut 1 0 l.checked l.statements l.blocks
              (statement_at p l.checked l.statements) (omega arith) (λ k. statement_sound p l one sound l.checked
              l.statements k) (λ k inside sum. statement_cut 1 inside l.checked l.statements k (omega arith) sum) o.0
              o.1 f fails stops) [
                | inl (is, full) ↦ function_brace ts o.0 o.1 f (mark_at_is punctuators.OpenBrace ts o taken) is full
                | inr c ↦ function_items ts o.0 o.1 f (mark_at_is punctuators.OpenBrace ts o taken) c
              ]
        ]
  ]
