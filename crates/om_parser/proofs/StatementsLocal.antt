-- Statements, their items and the parts of `sections` are read as far as the next token.
use Rattle.std.proofs.Common.{◌≡◌, ℕ, zero, suc, ◌+◌, ◌≤◌, List, [], ◌∷◌, ◌++◌, length, Option, Some, None, Ok, Err}
use Rattle.std.proofs.Common.{Bool, true, refl, sym, ap, subst, ◌∙◌, append_assoc, length-append, arith}
use Rattle.std.proofs.Common.{◌⊎◌, inl, inr}
use Rattle.std.specs.Prelude.{◌≢◌, not}
use Rattle.om_lexer.specs.declared.fault.FaultCode.TheVariants as codes
use Rattle.om_lexer.specs.declared.fault.SourceFault.{SourceFault}
use Rattle.om_lexer.specs.declared.token.Keyword.TheVariants as keywords
use Rattle.om_lexer.specs.declared.token.Punctuator.TheVariants as punctuators
use Rattle.om_lexer.specs.declared.token.Span.{Span}
use Rattle.om_lexer.specs.declared.token.Token.{Token}
use Rattle.om_lexer.specs.declared.token.TokenKind.{TokenKind}
use Rattle.om_lexer.specs.declared.token.TokenKind.TheVariants as kinds
use Rattle.om_pragma.specs.Kinds.{directive_kind}
use Rattle.om_pragma.specs.declared.tree.Directive.{Directive}
use Rattle.om_parser.specs.declared.construct.LineStart.{LineStart}
use Rattle.om_parser.specs.declared.construct.LineStart.TheVariants as lines
use Rattle.om_parser.specs.declared.start.Start.{Start}
use Rattle.om_parser.specs.declared.start.Start.TheVariants as starts
use Rattle.om_parser.specs.ConstructReading.{line_start, misplaced, unknown_line, stand_alone_at, item_of}
use Rattle.om_parser.specs.ConstructReading.{part_item_at, ends_part, ends_parts, section_of, part_at}
use Rattle.om_parser.specs.ConstructReading.{PartsReader, construct_after, construct_at, line_of}
use Rattle.om_parser.specs.OneOrMore.{one_or_more}
use Rattle.om_parser.specs.StatementReading.{start_of, expression_statement_at}
use Rattle.om_parser.specs.StatementReading.{block_item_at, items_at, block_items_after, block_after}
use Rattle.om_parser.specs.StatementReading.{parts_after, simple_of, statement_of, no_room, statement_at, parts_at}
use Rattle.om_parser.specs.StatementReading.{block_with}
use Rattle.om_parser_parts.specs.Again.{mark_again}
use Rattle.om_parser_parts.specs.Halting.{IsElsewhere}
use Rattle.om_parser_parts.specs.Laws.{ArePartsSound}
use Rattle.om_parser_parts.specs.Local.{pair, triple, Suffices, IsHalt, IsTaken, IsLocal, ArePartsLocal, done}
use Rattle.om_parser_parts.specs.Local.{bind, either, deep, stuck, mark_taker, word_taker, mark_local, until_local, unended_one}
use Rattle.om_parser_parts.specs.Local.{unended_both, room_before, Consumes}
use Rattle.om_parser_parts.specs.Outcomes.{ok_is, bind_ok, bind_err}
use Rattle.om_parser_parts.specs.PartReading.{Parts}
use Rattle.om_parser_parts.specs.Reading.{◌>>=◌, Outcome, Reader, syntax, too_deep, take_mark, take_word}
use Rattle.om_parser_parts.specs.Reading.{mark_at, known}
use Rattle.om_parser_parts.specs.Taken.{mark_at_is}
use Rattle.om_parser_tree.specs.Limits.{Limits}
use Rattle.om_parser_tree.specs.Spelling.{token, mark, statement_spelling}
use Rattle.om_parser_tree.specs.Tree.{ExpressionTree, StatementTree, LocalDeclaration, Block, Empty, Return, Break, Continue}
use Rattle.om_parser_tree.specs.Tree.{StandAlone, PartTree, statements}
use Rattle.om_parser_tree.specs.Tree as trees
use Rattle.om_parser.proofs.ItemLocal.{lined, yes, IsItemAt, given_of, given_item}
use Rattle.om_parser.proofs.ItemLocal.{local_of, token_decided, behind, alike_item, item_of_local}
use Rattle.om_parser.proofs.LineItemLocal.{by_line, misplaced_item, refused_item, spelled}
use Rattle.om_parser.proofs.LineStarts.{line_start_is}
use Rattle.om_parser.proofs.SeveralLocal.{both, both_hang, several_local}
use Rattle.om_parser.proofs.Shorter.{block_item_shorter, part_item_shorter, part_shorter, statement_some}
use Rattle.om_parser.proofs.StatementLocal.{IsNear, construct_local, headed_local, do_local, return_local, jump_local}
use Rattle.om_parser.proofs.StatementLocal.{expression_local, start_known}
use Rattle.om_parser.proofs.StatementParts.{is_of_start}
use Rattle.om_parser.proofs.StatementSound.{statement_sound}
use Rattle.om_parser.proofs.ItemsLocal.{empty_item, made, made_given, made_item, hashed, by_first, part_hangs, parts_hang, yes_hangs, PartEnd, RowEnd, brace_stands, brace_ends}

module _ (p : Parts) (l : Limits) (one : 1 ≤ l.nested) (sound : ArePartsSound p l) (h : ArePartsLocal p) (n : ℕ) where
  unknown_item : {A : Type 0} (m : ℕ) (r : Reader A) (hash : Span) (us : List Token)
      → Suffices m (lined n) (token kinds.DirectiveBegin hash ∷ us)
      → line_start (token kinds.DirectiveBegin hash ∷ us) ≡ lines.Unknown
      → ((f : SourceFault) → p.line (token kinds.DirectiveBegin hash ∷ us) ≡ Err f
      → r (token kinds.DirectiveBegin hash ∷ us) ≡ Err f)
      → IsItemAt m yes r n (token kinds.DirectiveBegin hash ∷ us)
  unknown_item {A} m r hash us far is fails = by_line p l sound h m n yes r (λ d ts. Err (syntax ts)) hash us far fails
      (λ d vs read start. absurd (start_known (directive_kind d.name) (sym (line_start_is d vs) ∙ start ∙ is)))
      (λ d vs less. given_of (suc m) (λ ts. Err (syntax ts)) n vs (stuck (suc m) pair (lined n) vs less))

  -- a statement that begins with a line
  module _ (checked : Bool) (statement : Bool → Reader StatementTree) (parts : PartsReader)
      (g : (c : Bool) → IsNear n (statement c)) (k : IsNear n parts) (m : ℕ) where
    abbrev directive : Reader StatementTree
    directive ts = line_of p.line checked statement parts (line_start ts) ts

    directive_item : (hash : Span) (us : List Token) → Suffices m (lined n) (token kinds.DirectiveBegin hash ∷ us)
        → IsItemAt m yes directive n (token kinds.DirectiveBegin hash ∷ us)
    unfolding line_of construct_at unknown_line misplaced
    directive_item hash us far = go (line_start (hashed hash us)) refl
      where
        other : (s : LineStart) → line_start (hashed hash us) ≡ s → s ≢ lines.Unknown
            → ((vs : List Token) → line_of p.line checked statement parts s vs ≡ misplaced vs)
            → IsItemAt m yes directive n (hashed hash us)
        other s is known same = misplaced_item p l sound h m n yes directive (λ d vs. Err (syntax vs)) hash us
            (λ e. known (sym is ∙ e))
            (λ vs start. ap (λ (b : LineStart). line_of p.line checked statement parts b
            (token kinds.DirectiveBegin hash ∷ vs)) (start ∙ is) ∙ same (token kinds.DirectiveBegin hash ∷ vs))

        go : (s : LineStart) → line_start (hashed hash us) ≡ s → IsItemAt m yes directive n (hashed hash us)
        go lines.Construct is = by_line p l sound h m n yes directive (λ d. construct_after checked statement parts d)
            hash us far
            (λ f fails. ap (λ (b : LineStart). line_of p.line checked statement parts b (hashed hash us)) is
            ∙ ap (λ (o : Outcome (Directive ExpressionTree × List Token)). o >>= λ d. construct_after checked statement
            parts d.0 d.1) fails)
            (λ d vs read start. ap (λ (b : LineStart). line_of p.line checked statement parts b (spelled d ++ vs))
            (start ∙ is) ∙ ap (λ (o : Outcome (Directive ExpressionTree × List Token)). o >>= λ x. construct_after
            checked statement parts x.0 x.1) read)
            (λ d vs less. given_of (suc m) (construct_after checked statement parts d) n vs
            (construct_local p h n checked statement parts g k d (suc m) vs less))
        go lines.Unknown is = unknown_item m directive hash us far is
            (λ f fails. ap (λ (b : LineStart). line_of p.line checked statement parts b (hashed hash us)) is
            ∙ ap (λ (o : Outcome (Directive ExpressionTree × List Token)). o >>= λ d. misplaced (hashed hash us)) fails)
        go lines.StandAlone is = other lines.StandAlone is (λ e. absurd cc) (λ vs. refl)
        go lines.Section is = other lines.Section is (λ e. absurd cc) (λ vs. refl)
        go lines.Nothing is = other lines.Nothing is (λ e. absurd cc) (λ vs. refl)

  -- items, over a reader of statements
  module _ (statement : Reader StatementTree) (empty : statement [] ≡ Err (syntax []))
      (g : (m : ℕ) (ts : List Token) → Suffices m (lined n) ts → IsItemAt m yes statement n ts) where
    abbrev part_item : Reader StatementTree
    part_item = part_item_at p.line statement

    hash_item : (m : ℕ) (hash : Span) (us : List Token) → Suffices m (lined n) (token kinds.DirectiveBegin hash ∷ us)
        → IsItemAt m yes part_item n (token kinds.DirectiveBegin hash ∷ us)
    unfolding part_item_at item_of stand_alone_at unknown_line misplaced
    hash_item m hash us far = go (line_start (hashed hash us)) refl
      where
        by_statement : (s : LineStart) → line_start (hashed hash us) ≡ s → ((vs : List Token) → item_of p.line statement s vs
            ≡ statement vs) → IsItemAt m yes part_item n (hashed hash us)
        by_statement s is same = alike_item m yes part_item statement n (token kinds.DirectiveBegin hash) us
            (λ vs start. ap (λ (b : LineStart). item_of p.line statement b (token kinds.DirectiveBegin hash ∷ vs))
            (start ∙ is) ∙ same (token kinds.DirectiveBegin hash ∷ vs)) (g m (hashed hash us) far)

        go : (s : LineStart) → line_start (hashed hash us) ≡ s → IsItemAt m yes part_item n (hashed hash us)
        go lines.Construct is = by_statement lines.Construct is (λ vs. refl)
        go lines.Nothing is = by_statement lines.Nothing is (λ vs. refl)
        go lines.Section is = misplaced_item p l sound h m n yes part_item (λ d vs. Err (syntax vs)) hash us
            (λ e. let both : lines.Section ≡ lines.Unknown = sym is ∙ e in absurd cc)
            (λ vs start. ap (λ (b : LineStart). item_of p.line statement b (token kinds.DirectiveBegin hash ∷ vs))
            (start ∙ is))
        go lines.Unknown is = unknown_item m part_item hash us far is
            (λ f fails. ap (λ (b : LineStart). item_of p.line statement b (hashed hash us)) is
            ∙ ap (λ (o : Outcome (Directive ExpressionTree × List Token)). o >>= λ d. misplaced (hashed hash us)) fails)
        go lines.StandAlone is = by_line p l sound h m n yes part_item (λ d vs. Ok (StandAlone d, vs)) hash us far
            (λ f fails. ap (λ (b : LineStart). item_of p.line statement b (hashed hash us)) is
            ∙ ap (λ (o : Outcome (Directive ExpressionTree × List Token)). o >>= λ d. Ok (StandAlone d.0, d.1)) fails)
            (λ d vs read start. ap (λ (b : LineStart). item_of p.line statement b (spelled d ++ vs)) (start ∙ is)
            ∙ ap (λ (o : Outcome (Directive ExpressionTree × List Token)). o >>= λ d. Ok (StandAlone d.0, d.1)) read)
            (λ d vs less. given_of (suc m) (λ vs. Ok (StandAlone d, vs)) n vs
            (done (suc m) (StandAlone d) (lined n) vs less))

    part_item_local : (m : ℕ) (ts : List Token) → Suffices m (lined n) ts → IsItemAt m yes part_item n ts
    unfolding part_item_at item_of
    part_item_local m [] far = empty_item m n yes part_item empty
    part_item_local m (t ∷ us) far = by_first m n yes part_item t us far (λ hash enough. hash_item m hash us enough)
        (λ plain nothing. alike_item m yes part_item statement n t us
        (λ vs start. ap (λ (b : LineStart). item_of p.line statement b (t ∷ vs)) (nothing vs)) (g m (t ∷ us) far))

    block_item_local : IsNear n (block_item_at p statement)
    unfolding block_item_at
    block_item_local m = either m pair (take_word keywords.Int) _ _ (lined n) (word_taker keywords.Int)
        (λ i. bind (suc m) pair pair (λ j. p.declaration i) _ (lined n) (h.declaration i (suc m) (lined n))
        (λ d. done (suc m) (LocalDeclaration d.0) (lined n)))
        (λ ts far. local_of m part_item n ts (part_item_local m ts far))

    -- the parts of `sections`
    module _ (less : Consumes part_item) where
      abbrev row : Reader (List StatementTree)
      row ts = one_or_more ends_part part_item (length ts) ts

      row_local : (m : ℕ) (ts : List Token) → Suffices m (lined n) ts → IsItemAt m PartEnd row n ts
      row_local m ts far = several_local part_item less ends_part yes yes_hangs part_hangs n m
          (λ k le us enough. part_item_local k us enough) ts far

      abbrev part : Reader PartTree
      part = part_at p.line statement

      abbrev part_of : Option (Directive ExpressionTree) → List StatementTree → PartTree
      part_of section items = record { section = section; items = statements items }

      abbrev with_section : LineStart → Reader PartTree
      with_section s ts = section_of p.line s ts >>= λ d. made (part_of d.0) row d.1

      abbrev with_directive : Directive ExpressionTree × List Token
          → Outcome (Option (Directive ExpressionTree) × List Token)
      with_directive d = Ok (Some d.0, d.1)

      part_hash : (m : ℕ) (hash : Span) (us : List Token) → Suffices m (lined n) (token kinds.DirectiveBegin hash ∷ us)
          → IsItemAt m PartEnd part n (token kinds.DirectiveBegin hash ∷ us)
      unfolding part_at section_of
      part_hash m hash us far = go (line_start (hashed hash us)) refl
        where
          without : (s : LineStart) → line_start (hashed hash us) ≡ s → ((vs : List Token) → section_of p.line s vs ≡ Ok (None, vs))
              → IsItemAt m PartEnd part n (hashed hash us)
          without s is same = alike_item m PartEnd part (made (part_of None) row) n (token kinds.DirectiveBegin hash) us
              (λ vs start. ap (λ (b : LineStart). with_section b (token kinds.DirectiveBegin hash ∷ vs)) (start ∙ is)
              ∙ ap (λ (o : Outcome (Option (Directive ExpressionTree) × List Token)). o >>= λ d. made (part_of d.0) row d.1)
              (same (token kinds.DirectiveBegin hash ∷ vs)))
              (made_item m n PartEnd (part_of None) row (hashed hash us) (row_local m (hashed hash us) far))

          go : (s : LineStart) → line_start (hashed hash us) ≡ s → IsItemAt m PartEnd part n (hashed hash us)
          go lines.Section is = by_line p l sound h m n PartEnd part (λ d. made (part_of (Some d)) row) hash us far
              (λ f fails. ap (λ (b : LineStart). with_section b (hashed hash us)) is
              ∙ ap (λ (o : Outcome (Directive ExpressionTree × List Token)). (o >>= with_directive)
              >>= λ d. made (part_of d.0) row d.1) fails)
              (λ d vs read start. ap (λ (b : LineStart). with_section b (spelled d ++ vs)) (start ∙ is)
              ∙ ap (λ (o : Outcome (Directive ExpressionTree × List Token)). (o >>= with_directive)
              >>= λ d. made (part_of d.0) row d.1) read)
              (λ d vs enough. made_given (suc m) n PartEnd (part_of (Some d)) row vs
              (given_item (suc m) PartEnd row n vs (row_local (suc m) vs enough)))
          go lines.Construct is = without lines.Construct is (λ vs. refl)
          go lines.StandAlone is = without lines.StandAlone is (λ vs. refl)
          go lines.Unknown is = without lines.Unknown is (λ vs. refl)
          go lines.Nothing is = without lines.Nothing is (λ vs. refl)

      part_local : (m : ℕ) (ts : List Token) → Suffices m (lined n) ts → IsItemAt m PartEnd part n ts
      unfolding part_at section_of one_or_more part_item_at item_of
      part_local m [] far = empty_item m n PartEnd part (rw empty refl)
      part_local m (t ∷ us) far = by_first m n PartEnd part t us far (λ hash enough. part_hash m hash us enough)
          (λ plain nothing. alike_item m PartEnd part (made (part_of None) row) n t us
          (λ vs start. ap (λ (b : LineStart). with_section b (t ∷ vs)) (nothing vs))
          (made_item m n PartEnd (part_of None) row (t ∷ us) (row_local m (t ∷ us) far)))

      module _ (part_less : Consumes part) (left : Span) where
        abbrev rows : Reader (List PartTree)
        rows ts = one_or_more ends_parts part (length ts) ts

        abbrev finish : List PartTree × List Token → Outcome ((Span × trees.PartsTree × Span) × List Token)
        finish x = mark_at punctuators.CloseBrace x.1 >>= λ r. Ok ((left, trees.parts x.0, r.0), r.1)

        abbrev closed : Reader (Span × trees.PartsTree × Span)
        closed ts = rows ts >>= finish

        finish_again : (xs : List PartTree) (s : Span) (us : List Token)
            → finish (xs, mark punctuators.CloseBrace s ∷ us) ≡ Ok ((left, trees.parts xs, s), us)
        finish_again xs s us = rw (mark_again punctuators.CloseBrace s us) refl

        rows_local : (m : ℕ) (ts : List Token) → Suffices m (lined n) ts → IsItemAt m RowEnd rows n ts
        rows_local m ts far = several_local part part_less ends_parts PartEnd
            (both_hang ends_part yes part_hangs yes_hangs) parts_hang n m (λ k le us enough. part_local k us enough) ts far

        closed_local : IsNear n closed
        closed_local m ts far = record { takes = takes; halts = halts }
          where
            takes : (y : (Span × trees.PartsTree × Span) × List Token) → closed ts ≡ Ok y → IsTaken m pair (λ j. closed) (lined n) ts y
            takes y e =
                let x = bind_ok (rows ts) _ y e in
                let r = bind_ok (mark_at punctuators.CloseBrace x.0.1) _ y x.2 in
                let k = ((rows_local m ts far).takes x.0 x.1).0 in
                let last : Token = mark punctuators.CloseBrace r.0.0 in
                let there : x.0.1 ≡ last ∷ r.0.1 = mark_at_is punctuators.CloseBrace x.0.1 r.0 r.1 in
                subst (IsTaken m pair (λ j. closed) (lined n) ts)
                (ok_is ((left, trees.parts x.0.0, r.0.0), r.0.1) y r.2) (record {
                  front = k.front ++ last ∷ [];
                  parts = k.parts ∙ ap (λ (w : List Token). k.front ++ w) there
                      ∙ sym (append_assoc k.front (last ∷ []) r.0.1);
                  unended = unended_both k.front (last ∷ []) k.unended (unended_one last (λ e. absurd cc));
                  again = λ j t after other is room enough.
                      let regroup : (k.front ++ last ∷ []) ++ t ∷ other ≡ k.front ++ (last ∷ (t ∷ other)) = append_assoc
                      k.front (last ∷ []) (t ∷ other) in
                      let read : rows (k.front ++ (last ∷ (t ∷ other))) ≡ Ok (x.0.0, last ∷ (t ∷ other)) = k.again j last
                      (t ∷ after) (t ∷ other) (there ∙ ap (λ (w : List Token). last ∷ w) is)
                      (brace_ends r.0.0 (t ∷ other))
                      (room_before (last ∷ []) (t ∷ after) (t ∷ other) (lined n) j room)
                      (subst (Suffices m j) regroup enough) in
                      ap closed regroup ∙ ap (λ (o : Outcome (List PartTree × List Token)). o >>= finish) read
                      ∙ finish_again x.0.0 r.0.0 (t ∷ other);
                })

            halts : (f : SourceFault) → closed ts ≡ Err f → f.code ≡ codes.Syntax → IsHalt m (λ j. closed) (lined n) ts f
                ⊎ IsElsewhere true ts f
            halts f e wrong = elim (bind_err (rows ts) _ f e) [
              | inl fails ↦ elim ((rows_local m ts far).halts f fails wrong) [
                | inl k ↦ inl (record {
                  front = k.0.front;
                  token = k.0.token;
                  after = k.0.after;
                  parts = k.0.parts;
                  at_place = k.0.at_place;
                  again = λ j other room enough. ap (λ (o : Outcome (List PartTree × List Token)). o >>= finish)
                      (k.0.again j other room enough);
                })
                | inr other ↦ inr other
              ]
              | inr x ↦
                  let k = ((rows_local m ts far).takes x.0 x.1).0 in
                  elim (bind_err (mark_at punctuators.CloseBrace x.0.1) _ f x.2) [
                    | inl lacks ↦ absurd (brace_stands x.0.1 f k.ended lacks)
                    | inr r ↦ absurd cc
                  ]
            ]

  -- ---- statements

  near_of : (statement : Reader StatementTree) → ((m : ℕ) (ts : List Token) → Suffices m (lined n) ts
      → IsItemAt m yes statement n ts) → IsNear n statement
  near_of statement g m ts far = local_of m statement n ts (g m ts far)

  -- the items of a block
  items_local : (checked : Bool) (room blocks : ℕ) → statement_at p checked room blocks [] ≡ Err (syntax [])
      → ((m : ℕ) (ts : List Token) → Suffices m (lined n) ts → IsItemAt m yes (statement_at p checked room blocks) n ts)
      → (m : ℕ) → IsLocal m triple (λ j. items_at p (statement_at p checked room blocks)) (lined n)
  items_local checked room blocks empty g m = until_local (take_mark punctuators.CloseBrace)
      (λ j. block_item_at p (statement_at p checked room blocks)) (lined n) (mark_taker punctuators.CloseBrace)
      (λ j ts x e. block_item_shorter p l one sound checked room blocks ts x.0 x.1 e) m
      (λ k le. block_item_local (statement_at p checked room blocks) empty g k)

  record AreNear (room : ℕ) : Type 0 where
    empty : (checked : Bool) (blocks : ℕ) → statement_at p checked room blocks [] ≡ Err (syntax [])
    statement : (checked : Bool) (blocks m : ℕ) (ts : List Token) → Suffices m (lined n) ts
        → IsItemAt m yes (statement_at p checked room blocks) n ts
    braces : (checked : Bool) (blocks : ℕ) → IsNear n (parts_at p checked room blocks)

  module _ (room : ℕ) (below : AreNear room) where
    block_items_local : (checked : Bool) (blocks : ℕ) (left : Span) (m : ℕ) → IsLocal m triple
        (λ j. block_items_after p (statement_at p checked room) blocks left) (lined n)
    unfolding block_items_after
    block_items_local checked zero left m = deep m triple (λ j ts. left) (lined n)
    block_items_local checked (suc blocks) left m = items_local checked room blocks (below.empty checked blocks)
        (below.statement checked blocks) m

    near : (checked : Bool) (blocks : ℕ) → IsNear n (statement_at p checked room blocks)
    near checked blocks = near_of (statement_at p checked room blocks) (below.statement checked blocks)

    block_local : (checked : Bool) (blocks : ℕ) (left : Span)
        → IsNear n (block_after p (statement_at p checked room) blocks left)
    unfolding block_after
    block_local checked blocks left m = bind m triple pair
        (λ j. block_items_after p (statement_at p checked room) blocks left) _ (lined n)
        (block_items_local checked blocks left m) (λ x. done m (Block left (statements x.0) x.1) (lined n))

    parts_local : (checked : Bool) (blocks : ℕ) (left : Span)
        → IsNear n (parts_after p (statement_at p checked room) blocks left)
    unfolding parts_after
    parts_local checked zero left m = deep m pair (λ j ts. left) (lined n)
    parts_local checked (suc blocks) left m = closed_local (statement_at p checked room blocks)
        (below.empty checked blocks) (below.statement checked blocks)
        (λ ts x e. part_item_shorter p l one sound checked room blocks ts x.0 x.1 e)
        (λ ts x e. part_shorter p l one sound checked room blocks ts x.0 x.1 e) left m

    braces_local : (checked : Bool) (blocks : ℕ) → IsNear n (parts_at p checked (suc room) blocks)
    unfolding parts_at
    braces_local checked blocks m = bind m pair pair (λ j ts. mark_at punctuators.OpenBrace ts) _ (lined n)
        (mark_local m punctuators.OpenBrace (lined n)) (λ o. parts_local checked blocks o.0 m)

    module _ (checked : Bool) (blocks m : ℕ) (t : Token) (us : List Token) (far : Suffices m (lined n) (t ∷ us)) where
      abbrev whole : Reader StatementTree
      whole = statement_at p checked (suc room) blocks

      abbrev of_start : Start → List Token → Outcome (StatementTree × List Token)
      of_start s vs = statement_of p checked (λ c. statement_at p c room) (parts_at p checked room) blocks s t.span vs
          (t ∷ vs)

      starts_so : (s : Start) → start_of t.kind ≡ s → (vs : List Token) → whole (t ∷ vs) ≡ of_start s vs
      unfolding statement_at
      starts_so s is vs = ap (λ (x : Start). of_start x vs) is

      no_line : (s : Start) → start_of t.kind ≡ s → starts.Directive ≢ s → t.kind ≢ kinds.DirectiveBegin
      no_line s is other e = other (sym (ap start_of e) ∙ is)

      no_end : (s : Start) → start_of t.kind ≡ s → starts.Nothing ≢ s → t.kind ≢ kinds.End
      no_end s is other e = other (sym (ap start_of e) ∙ is)

      -- where the token is taken
      taken : (s : Start) → start_of t.kind ≡ s → starts.Directive ≢ s → starts.Nothing ≢ s
          → (g : Reader StatementTree) → ((vs : List Token) → of_start s vs ≡ g vs) → IsNear n g
          → IsItemAt m yes whole n (t ∷ us)
      taken s is line end g same k = behind m yes whole g n (t ∷ []) us (unended_one t (no_end s is end)) (omega arith)
          (token_decided t (no_line s is line)) (λ vs. starts_so s is vs ∙ same vs)
          (λ unused. given_of (suc m) g n us (k (suc m) us (omega (arith, far))))

      -- where it is not
      kept : (s : Start) → start_of t.kind ≡ s → starts.Directive ≢ s → (g : Reader StatementTree)
          → ((vs : List Token) → of_start s vs ≡ g (t ∷ vs)) → IsNear n g → IsItemAt m yes whole n (t ∷ us)
      kept s is line g same k = alike_item m yes whole g n t us (λ vs start. starts_so s is vs ∙ same vs)
          (item_of_local m g n t us (no_line s is line) (k m (t ∷ us) far)
          (λ x e. let r = statement_sound p l one sound checked (suc room) blocks (t ∷ us) x
          (starts_so s is us ∙ same us ∙ e) in
          omega (
            arith,
            ap length r.parts,
            length-append (statement_spelling x.0) x.1,
            statement_some x.0
                r.good.good.formed,
          )))

      by_start : (s : Start) → start_of t.kind ≡ s → IsItemAt m yes whole n (t ∷ us)
      unfolding statement_of simple_of
      by_start starts.Block is = taken starts.Block is (λ e. absurd cc) (λ e. absurd cc) _ (λ vs. refl)
          (block_local checked blocks t.span)
      by_start starts.If is = taken starts.If is (λ e. absurd cc) (λ e. absurd cc) _ (λ vs. refl)
          (headed_local p h n (statement_at p checked room blocks) (near checked blocks) starts.If t.span)
      by_start starts.While is = taken starts.While is (λ e. absurd cc) (λ e. absurd cc) _ (λ vs. refl)
          (headed_local p h n (statement_at p checked room blocks) (near checked blocks) starts.While t.span)
      by_start starts.For is = taken starts.For is (λ e. absurd cc) (λ e. absurd cc) _ (λ vs. refl)
          (headed_local p h n (statement_at p checked room blocks) (near checked blocks) starts.For t.span)
      by_start starts.Do is = taken starts.Do is (λ e. absurd cc) (λ e. absurd cc) _ (λ vs. refl)
          (do_local p h n (statement_at p checked room blocks) (near checked blocks) t.span)
      by_start starts.Empty is = taken starts.Empty is (λ e. absurd cc) (λ e. absurd cc) (λ vs. Ok (Empty t.span, vs))
          (λ vs. refl) (λ k. done k (Empty t.span) (lined n))
      by_start starts.Return is = taken starts.Return is (λ e. absurd cc) (λ e. absurd cc) _ (λ vs. refl)
          (return_local p h n t.span)
      by_start starts.Break is = taken starts.Break is (λ e. absurd cc) (λ e. absurd cc) _ (λ vs. refl)
          (jump_local p h n (Break t.span))
      by_start starts.Continue is = taken starts.Continue is (λ e. absurd cc) (λ e. absurd cc) _ (λ vs. refl)
          (jump_local p h n (Continue t.span))
      by_start starts.Expression is = kept starts.Expression is (λ e. absurd cc) (expression_statement_at p) (λ vs. refl)
          (expression_local p h n)
      by_start starts.Nothing is = kept starts.Nothing is (λ e. absurd cc) (λ ts. Err (syntax ts)) (λ vs. refl)
          (λ k. stuck k pair (lined n))
      by_start starts.Directive is =
          let hash : t.kind ≡ kinds.DirectiveBegin = rw is at (is_of_start t.kind) in
          let same : token kinds.DirectiveBegin t.span ≡ t = ap (λ (k : TokenKind). token k t.span) (sym hash) in
          let read : Reader StatementTree = directive checked (λ c. statement_at p c room blocks)
          (parts_at p checked room blocks) (λ c. near c blocks) (below.braces checked blocks) m in
          alike_item m yes whole read n t us (λ vs start. starts_so starts.Directive is vs)
          (subst (λ (u : Token). IsItemAt m yes read n (u ∷ us)) same
          (directive_item checked (λ c. statement_at p c room blocks) (parts_at p checked room blocks)
          (λ c. near c blocks) (below.braces checked blocks) m t.span us (omega (arith, far))))

  -- where no statement has room
  roomless : (checked : Bool) (blocks m : ℕ) (t : Token) (us : List Token) → Suffices m (lined n) (t ∷ us)
      → (s : Start) → start_of t.kind ≡ s → IsItemAt m yes (statement_at p checked zero blocks) n (t ∷ us)
  unfolding statement_at no_room
  roomless checked blocks m t us far starts.Nothing is = alike_item m yes (statement_at p checked zero blocks)
      (λ ts. Err (syntax ts)) n t us (λ vs start. ap (λ (x : Start). no_room x t.span (t ∷ vs)) is)
      (item_of_local m (λ ts. Err (syntax ts)) n t us
      (λ e. let both : starts.Directive ≡ starts.Nothing = sym (ap start_of e) ∙ is in absurd cc)
      (stuck m pair (lined n) (t ∷ us) far) (λ x e. absurd cc))
  roomless checked blocks m t us far _ is = refused_item m n yes (statement_at p checked zero blocks) (t ∷ us)
      (too_deep t.span) (λ e. absurd cc) (ap (λ (x : Start). no_room x t.span (t ∷ us)) is)

  all_near : (room : ℕ) → AreNear room
  unfolding statement_at parts_at
  all_near zero = record {
    empty = λ checked blocks. refl;
    statement = λ checked blocks m ts far. at checked blocks m ts far;
    braces = λ checked blocks m. bind m pair pair (λ j ts. mark_at punctuators.OpenBrace ts) _ (lined n)
        (mark_local m punctuators.OpenBrace (lined n)) (λ o. deep m pair (λ j ts. o.0) (lined n));
  }
    where
      at : (checked : Bool) (blocks m : ℕ) (ts : List Token) → Suffices m (lined n) ts
          → IsItemAt m yes (statement_at p checked zero blocks) n ts
      at checked blocks m [] far = empty_item m n yes (statement_at p checked zero blocks) refl
      at checked blocks m (t ∷ us) far = roomless checked blocks m t us far (start_of t.kind) refl
  all_near (suc room) =
      let below = all_near room in
      record {
        empty = λ checked blocks. refl;
        statement = λ checked blocks m ts far. at below checked blocks m ts far;
        braces = λ checked blocks. braces_local room below checked blocks;
      }
    where
      at : AreNear room → (checked : Bool) (blocks m : ℕ) (ts : List Token) → Suffices m (lined n) ts
          → IsItemAt m yes (statement_at p checked (suc room) blocks) n ts
      at below checked blocks m [] far = empty_item m n yes (statement_at p checked (suc room) blocks) refl
      at below checked blocks m (t ∷ us) far = by_start room below checked blocks m t us far (start_of t.kind) refl

  pub function_block_local : (checked : Bool) (room blocks : ℕ) → IsNear n (block_with p checked room blocks)
  unfolding block_with
  function_block_local checked room blocks m = bind m pair pair (λ j ts. mark_at punctuators.OpenBrace ts) _ (lined n)
      (mark_local m punctuators.OpenBrace (lined n))
      (λ o. bind m triple pair (λ j. block_items_after p (statement_at p checked room) blocks o.0) _ (lined n)
      (block_items_local room (all_near room) checked blocks o.0 m)
      (λ x. done m (record { open_brace = o.0; items = x.0; close_brace = x.1 }) (lined n)))
