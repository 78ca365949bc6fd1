-- What a well-formed statement spells is read again as that statement, within the limits.
use Rattle.std.proofs.Common.{◌≡◌, ℕ, zero, suc, ◌<◌, List, [], ◌∷◌, ◌++◌, length, Bool, true, refl, sym, ap, subst, ◌∙◌, arith, append_assoc, inl, inr, All}
use Rattle.std.specs.List.{flat_map}
use Rattle.std.proofs.lemmas.List.Elements.{All-nil, All-cons}
use Rattle.om_lexer.specs.declared.token.Punctuator.TheVariants as punctuators
use Rattle.om_lexer.specs.declared.token.Span.{Span}
use Rattle.om_lexer.specs.declared.token.Token.{Token}
use Rattle.om_pragma.specs.declared.tree.Directive.{Directive}
use Rattle.om_pragma.specs.Questions.{is_sections}
use Rattle.om_pragma.specs.Spelling.{directive_spelling, opening_spelling as line_opening}
use Rattle.om_parser_parts.specs.PartReading.{Parts}
use Rattle.om_parser.specs.ConstructReading.{line_start, ends_part, ends_parts, part_at, sections_after, construct_after, construct_at, line_of}
use Rattle.om_parser_parts.specs.Reading.{◌>>=◌, Reader, take_mark}
use Rattle.om_parser.specs.OneOrMore.{one_or_more}
use Rattle.om_parser_tree.specs.Spelling.{mark, expression_spelling, for_head_spelling, statement_spelling, statements_spelling, block_spelling, parts_spelling, part_spelling}
use Rattle.om_parser_tree.specs.Formed.{IsBody, IsLine, IsStatement, AreStatements}
use Rattle.om_parser_tree.specs.Formed.{IsSection, IsOptionalSection, ArePartItems, AreFurtherParts}
use Rattle.om_parser_tree.specs.Limits.{Limits}
use Rattle.om_parser_tree.specs.Sizes.{HasForms, HasRoom, HaveRoom}
use Rattle.om_parser.specs.StatementReading.{expression_statement_at, block_item_at, items_at, block_items_after, block_after, parts_after, simple_of, statement_of, no_room, statement_at, parts_at, block_with}
use Rattle.om_parser_tree.specs.Tree.{ExpressionTree, StatementTree, StatementsTree, LocalDeclaration, Block, Empty, Expression, If, IfElse, While, Do, For, Return, Break, Continue, Construct, StandAlone, Sections, NoStatements, Statement, statements, BlockTree, PartsTree, NoParts, Part, PartTree}
use Rattle.om_parser.specs.Laws.{IsKeptBlock}
use Rattle.om_parser_parts.specs.Laws.{IsAnswer, ArePartsAgain}
use Rattle.om_parser_parts.specs.Outcomes.{ok}
use Rattle.om_parser_parts.specs.Again.{take_mark_again, mark_again, deep_at, bind_answer, narrower}
use Rattle.om_parser_parts.specs.ItemsComplete.{until_again}
use Rattle.om_parser.proofs.OneOrMore.{several_again}
use Rattle.om_parser.proofs.StatementParts.{statements_flat, PartsHaveRoom}
use Rattle.om_parser.proofs.Shorter.{part_some}
use Rattle.om_parser.proofs.Begins.{StartsExpression, expression_starts}
use Rattle.om_parser.proofs.StatementTokens.{no_else_at_brace, list_of, statements_of, list_flat, list_of_parts, parts_of, list_of_parts_flat, sections_starts}
use Rattle.om_parser.proofs.ProductionsComplete.{StatementAgain, if_again, while_again, for_again, else_again, do_again, return_again, expression_again, jump_again, construct_again, NoElse}
use Rattle.om_parser.proofs.ItemsAgain.{IsItemAgain, IsPartItemAgain, part_from, declaration_item}
use Rattle.om_parser.proofs.ItemsAgain.{block_item, items_again, have_room, IsPartAgain, PartHasRoom}
use Rattle.om_parser.proofs.ItemsAgain.{MayEnd, parts_are_again, parts_have_room}

module _ (p : Parts) (l : Limits) (again : ArePartsAgain p l) where
  -- the items of a block, behind the left brace
  braced_again : (checked : Bool) (room blocks_left : ℕ) (statement : ℕ → Reader StatementTree) (ss : StatementsTree) → All ((IsItemAgain p l again) checked room statement) (list_of ss) → (right : Span) (rest : List Token) (Fits : Type 0) → (Fits → HaveRoom l checked room blocks_left ss) → IsAnswer Fits (items_at p (statement blocks_left) ((statements_spelling ss ++ mark punctuators.CloseBrace right ∷ []) ++ rest)) (list_of ss, right, rest)
  braced_again checked room blocks_left statement ss f right rest Fits fits =
      let last : Token = mark punctuators.CloseBrace right in
      let flat : List Token = flat_map statement_spelling (list_of ss) ++ last ∷ rest in
      let spelled : flat ≡ (statements_spelling ss ++ last ∷ []) ++ rest = ap (λ w. w ++ last ∷ rest) (sym (list_flat ss)) ∙ sym (append_assoc (statements_spelling ss) (last ∷ []) rest) in
      subst (λ us. IsAnswer Fits (items_at p (statement blocks_left) us) (list_of ss, right, rest)) spelled
      (narrower (items_at p (statement blocks_left) flat) (list_of ss, right, rest) (λ w. (have_room p l again) checked room blocks_left ss (fits w))
      (until_again statement_spelling ((IsItemAgain p l again) checked room statement) (HasRoom l checked room blocks_left) (NoElse p l again) (take_mark punctuators.CloseBrace) (block_item_at p (statement blocks_left)) ((items_again p l again) checked room blocks_left statement) last right rest (take_mark_again punctuators.CloseBrace right rest) (no_else_at_brace right rest) (list_of ss) f))

  -- ---- blocks

  -- the items of a block behind its left brace
  block_items_again : (checked : Bool) (room : ℕ) (statement : ℕ → Reader StatementTree) (ss : StatementsTree) → All ((IsItemAgain p l again) checked room statement) (list_of ss) → (blocks_left : ℕ) (left right : Span) (rest : List Token) → (Fits : Type 0) → (Fits → 0 < blocks_left) → ((fewer : ℕ) → suc fewer ≡ blocks_left → Fits → HaveRoom l checked room fewer ss) → IsAnswer Fits (block_items_after p statement blocks_left left ((statements_spelling ss ++ mark punctuators.CloseBrace right ∷ []) ++ rest)) (list_of ss, right, rest)
  unfolding block_items_after
  block_items_again checked room statement ss f zero left right rest Fits some_left fits = inr (deep_at left, refl, λ w. let lt = some_left w in omega (arith, lt))
  block_items_again checked room statement ss f (suc blocks_left) left right rest Fits some_left fits = braced_again checked room blocks_left statement ss f right rest Fits (λ w. fits blocks_left refl w)

  block_again : (checked : Bool) (room blocks_left : ℕ) (statement : ℕ → Reader StatementTree) (left : Span) (ss : StatementsTree) (right : Span) → All ((IsItemAgain p l again) checked room statement) (list_of ss) → (rest : List Token) → IsAnswer (HasRoom l checked (suc room) blocks_left (Block left ss right)) (block_after p statement blocks_left left ((statements_spelling ss ++ mark punctuators.CloseBrace right ∷ []) ++ rest)) (Block left ss right, rest)
  unfolding block_after HasForms
  block_again checked room blocks_left statement left ss right f rest =
      let us : List Token = (statements_spelling ss ++ mark punctuators.CloseBrace right ∷ []) ++ rest in
      bind_answer (block_items_after p statement blocks_left left us) _ (list_of ss, right, rest) (Block left ss right, rest) (λ w. w)
      (block_items_again checked room statement ss f blocks_left left right rest (HasRoom l checked (suc room) blocks_left (Block left ss right)) (λ w. omega (arith, w.deep)) (λ fewer is w. record { high = omega (arith, w.high); deep = omega (arith, w.deep, is); nested = w.nested; long = w.long; forms = w.forms }))
      (inl (ap (λ items. ok (Block left items right, rest)) (statements_of ss)))

  -- ---- the braces of `sections`

  -- the first part and the others, which are read again
  pub record ArePartsReadAgain (checked : Bool) (room : ℕ) (statement : ℕ → Reader StatementTree) (first : PartTree)
      (more : PartsTree) : Type 0 where
    pub one : (IsPartAgain p l again) IsOptionalSection checked room statement first
    pub others : All ((IsPartAgain p l again) IsSection checked room statement) (list_of_parts more)

  -- all of them
  abbrev with_first : PartTree → PartsTree → PartsTree
  with_first first more = Part first.section first.items more

  parts_after_again : (checked : Bool) (room blocks_left : ℕ) (statement : ℕ → Reader StatementTree) (left : Span)
      (first : PartTree) (more : PartsTree) (right : Span) → ArePartsReadAgain checked room statement first more
      → (rest : List Token) (Fits : Type 0) → (Fits → 0 < blocks_left)
      → ((fewer : ℕ) → suc fewer ≡ blocks_left → Fits → PartsHaveRoom l checked room fewer (with_first first more))
      → IsAnswer Fits (parts_after p statement blocks_left left
      ((parts_spelling (with_first first more) ++ mark punctuators.CloseBrace right ∷ []) ++ rest))
      ((left, with_first first more, right), rest)
  unfolding parts_after
  parts_after_again checked room zero statement left first more right f rest Fits some_left fits =
      inr (deep_at left, refl, λ w. let lt = some_left w in omega (arith, lt))
  parts_after_again checked room (suc blocks_left) statement left first more right f rest Fits some_left fits =
      let ps : PartsTree = with_first first more in
      let last : List Token = mark punctuators.CloseBrace right ∷ rest in
      let part : Reader PartTree = part_at p.line (statement blocks_left) in
      let us : List Token = flat_map part_spelling (first ∷ list_of_parts more) ++ last in
      let spelled : us ≡ (parts_spelling ps ++ mark punctuators.CloseBrace right ∷ []) ++ rest =
      ap (λ w. w ++ last) (sym (list_of_parts_flat ps))
      ∙ sym (append_assoc (parts_spelling ps) (mark punctuators.CloseBrace right ∷ []) rest) in
      let ends : ends_part last ≡ true = rw (take_mark_again punctuators.CloseBrace right rest) refl in
      subst (λ ts. IsAnswer Fits (parts_after p statement (suc blocks_left) left ts) ((left, ps, right), rest)) spelled
      (bind_answer (one_or_more ends_parts part (length us) us) _ (first ∷ list_of_parts more, last)
      ((left, ps, right), rest) (λ w. (parts_have_room p l again) checked room blocks_left ps (fits blocks_left refl w))
      (several_again part_spelling ((IsPartAgain p l again) IsOptionalSection checked room statement)
      ((IsPartAgain p l again) IsSection checked room statement) ((PartHasRoom p l again) checked room blocks_left) (MayEnd p l again) ends_parts part
      ((parts_are_again p l again) checked room blocks_left statement) last refl (ends, no_else_at_brace right rest) first
      (list_of_parts more) (part_some first f.one.one_stands f.one.formed) f.one f.others)
      (inl (rw (mark_again punctuators.CloseBrace right rest) (ap (λ parts. ok ((left, parts, right), rest))
      (parts_of ps)))))

  braces_again : (checked : Bool) (room blocks_left : ℕ) (d : Directive ExpressionTree) (left : Span)
      (first : PartTree) (more : PartsTree) (right : Span)
      → ((fewer : ℕ) → ArePartsReadAgain checked fewer (statement_at p checked fewer) first more) → (rest : List Token)
      → IsAnswer (HasRoom l checked (suc room) blocks_left (Sections d left (with_first first more) right))
      (parts_at p checked room blocks_left (mark punctuators.OpenBrace left
      ∷ ((parts_spelling (with_first first more) ++ mark punctuators.CloseBrace right ∷ []) ++ rest)))
      ((left, with_first first more, right), rest)
  unfolding parts_at HasForms
  braces_again checked zero blocks_left d left first more right f rest =
      rw (mark_again punctuators.OpenBrace left ((parts_spelling (with_first first more)
      ++ mark punctuators.CloseBrace right ∷ []) ++ rest)) (inr (deep_at left, refl, λ w. omega (arith, w.high)))
  braces_again checked (suc room) blocks_left d left first more right f rest =
      rw (mark_again punctuators.OpenBrace left ((parts_spelling (with_first first more)
      ++ mark punctuators.CloseBrace right ∷ []) ++ rest))
      (parts_after_again checked room blocks_left (statement_at p checked room) left first more right (f room) rest
      (HasRoom l checked (suc (suc room)) blocks_left (Sections d left (with_first first more) right))
      (λ w. omega (arith, w.deep)) (λ fewer is w. record {
        high = omega (arith, w.high);
        deep = omega (arith, w.deep, is);
        nested = omega (arith, w.nested);
        long = omega (arith, w.long);
        forms = w.forms;
      }))

  sections_again : (checked : Bool) (room blocks_left : ℕ) (statement : Bool → Reader StatementTree)
      (d : Directive ExpressionTree) (left : Span) (first : PartTree) (more : PartsTree) (right : Span) → IsLine d
      → is_sections d.name ≡ true
      → ((fewer : ℕ) → ArePartsReadAgain checked fewer (statement_at p checked fewer) first more) → (rest : List Token)
      → let us : List Token = directive_spelling expression_spelling d ++ mark punctuators.OpenBrace left
      ∷ ((parts_spelling (with_first first more) ++ mark punctuators.CloseBrace right ∷ []) ++ rest) in
      let whole : StatementTree = Sections d left (with_first first more) right in
      IsAnswer (HasRoom l checked (suc room) blocks_left whole)
      (line_of p.line checked statement (parts_at p checked room blocks_left) (line_start us) us) (whole, rest)
  unfolding line_of construct_at construct_after sections_after
  sections_again checked room blocks_left statement d left first more right f several parts rest =
      let ps : PartsTree = with_first first more in
      let whole : StatementTree = Sections d left ps right in
      let behind : List Token = mark punctuators.OpenBrace left
      ∷ ((parts_spelling ps ++ mark punctuators.CloseBrace right ∷ []) ++ rest) in
      rw (sections_starts d behind several)
      (bind_answer (p.line (directive_spelling expression_spelling d ++ behind)) _ (d, behind) (whole, rest)
      (λ w. record { nested = omega (arith, w.nested); long = omega (arith, w.long) }) (again.line d behind f)
      (rw several (bind_answer (parts_at p checked room blocks_left behind) _ ((left, ps, right), rest) (whole, rest)
      (λ w. w) (braces_again checked room blocks_left d left first more right parts rest) (inl refl))))

  -- ---- the whole

  -- a statement that has no room
  no_room_again : (s : StatementTree) (checked : Bool) (blocks_left : ℕ) (rest : List Token) → IsStatement s → IsBody s → IsAnswer (HasRoom l checked zero blocks_left s) (statement_at p checked zero blocks_left (statement_spelling s ++ rest)) (s, rest)
  unfolding statement_at no_room statement_spelling IsStatement for_head_spelling directive_spelling line_opening
  no_room_again (LocalDeclaration d) checked blocks_left rest f b = absurd b
  no_room_again (Block left items right) checked blocks_left rest f b = inr (deep_at left, refl, λ w. omega (arith, w.high))
  no_room_again (Empty semicolon) checked blocks_left rest f b = inr (deep_at semicolon, refl, λ w. omega (arith, w.high))
  no_room_again (Expression e semicolon) checked blocks_left rest f b =
      let behind : List Token = mark punctuators.Semicolon semicolon ∷ rest in
      let x = expression_starts e behind f in
      inr (deep_at x.first.span, rw (append_assoc, x.is, x.start) refl, λ w. omega (arith, w.high))
  no_room_again (If at c s) checked blocks_left rest f b = inr (deep_at at, refl, λ w. omega (arith, w.high))
  no_room_again (IfElse at c s other t) checked blocks_left rest f b = inr (deep_at at, refl, λ w. omega (arith, w.high))
  no_room_again (While at c s) checked blocks_left rest f b = inr (deep_at at, refl, λ w. omega (arith, w.high))
  no_room_again (Do at s w c semicolon) checked blocks_left rest f b = inr (deep_at at, refl, λ v. omega (arith, v.high))
  no_room_again (For h s) checked blocks_left rest f b = inr (deep_at h.word, refl, λ w. omega (arith, w.high))
  no_room_again (Return at value semicolon) checked blocks_left rest f b = inr (deep_at at, refl, λ w. omega (arith, w.high))
  no_room_again (Break at semicolon) checked blocks_left rest f b = inr (deep_at at, refl, λ w. omega (arith, w.high))
  no_room_again (Continue at semicolon) checked blocks_left rest f b = inr (deep_at at, refl, λ w. omega (arith, w.high))
  no_room_again (Construct d s) checked blocks_left rest f b = inr (deep_at d.hash, refl, λ w. omega (arith, w.high))
  no_room_again (StandAlone d) checked blocks_left rest f b = absurd b
  no_room_again (Sections d left parts right) checked blocks_left rest f b = inr (deep_at d.hash, refl, λ w. omega (arith, w.high))

  at_expression : (checked : Bool) (room blocks_left : ℕ) (ts : List Token) → StartsExpression ts → statement_at p checked (suc room) blocks_left ts ≡ expression_statement_at p ts
  unfolding statement_at statement_of simple_of
  at_expression checked room blocks_left ts x = rw (x.is, x.start) refl

  at_line : (checked : Bool) (room blocks_left : ℕ) (d : Directive ExpressionTree) (rest : List Token) → statement_at p checked (suc room) blocks_left (directive_spelling expression_spelling d ++ rest) ≡ line_of p.line checked (λ c. statement_at p c room blocks_left) (parts_at p checked room blocks_left) (line_start (directive_spelling expression_spelling d ++ rest)) (directive_spelling expression_spelling d ++ rest)
  unfolding statement_at statement_of directive_spelling line_opening
  at_line checked room blocks_left d rest = refl

  mutual
    unfolding statement_at statement_of simple_of statement_spelling IsStatement for_head_spelling

    pub statement_again : (s : StatementTree) → IsStatement s → IsBody s → (checked : Bool) (room blocks_left : ℕ) → (StatementAgain p l again) checked room blocks_left (statement_at p checked room blocks_left) s
    statement_again s f b checked zero blocks_left rest nearest = no_room_again s checked blocks_left rest f b
    statement_again (LocalDeclaration d) f b checked (suc room) blocks_left rest nearest = absurd b
    statement_again (Block left items right) f b checked (suc room) blocks_left rest nearest = block_again checked room blocks_left (statement_at p checked room) left items right (statements_again items f checked room) rest
    statement_again (Empty semicolon) f b checked (suc room) blocks_left rest nearest = inl refl
    statement_again (Expression e semicolon) f b checked (suc room) blocks_left rest nearest =
        let behind : List Token = mark punctuators.Semicolon semicolon ∷ rest in
        rw (append_assoc, at_expression checked room blocks_left (expression_spelling e ++ behind) (expression_starts e behind f)) ((expression_again p l again) checked room blocks_left e semicolon rest f)
    statement_again (If at c s) f b checked (suc room) blocks_left rest nearest = (if_again p l again) checked room blocks_left (statement_at p checked room) at c s f.0 (λ k. statement_again s f.1 f.2 checked room k) rest nearest
    statement_again (IfElse at c s other t) f b checked (suc room) blocks_left rest nearest = (else_again p l again) checked room blocks_left (statement_at p checked room) at c s other t f.0 f.3 (λ k. statement_again s f.1 f.2 checked room k) (λ k. statement_again t f.4 f.5 checked room k) rest nearest
    statement_again (While at c s) f b checked (suc room) blocks_left rest nearest = (while_again p l again) checked room blocks_left (statement_at p checked room) at c s f.0 (λ k. statement_again s f.1 f.2 checked room k) rest nearest
    statement_again (Do at s w c semicolon) f b checked (suc room) blocks_left rest nearest = (do_again p l again) checked room blocks_left (statement_at p checked room) at s w c semicolon f.0 (λ k. statement_again s f.1 f.2 checked room k) rest
    statement_again (For h s) f b checked (suc room) blocks_left rest nearest = (for_again p l again) checked room blocks_left (statement_at p checked room) h s f.0 (λ k. statement_again s f.1 f.2 checked room k) rest nearest
    statement_again (Return at value semicolon) f b checked (suc room) blocks_left rest nearest = (return_again p l again) checked room blocks_left at value semicolon rest f
    statement_again (Break at semicolon) f b checked (suc room) blocks_left rest nearest = (jump_again p l again) (Break at) semicolon rest (HasRoom l checked (suc room) blocks_left (Break at semicolon))
    statement_again (Continue at semicolon) f b checked (suc room) blocks_left rest nearest = (jump_again p l again) (Continue at) semicolon rest (HasRoom l checked (suc room) blocks_left (Continue at semicolon))
    statement_again (Construct d s) f b checked (suc room) blocks_left rest nearest =
        rw (append_assoc, at_line checked room blocks_left d (statement_spelling s ++ rest)) ((construct_again p l again) checked room blocks_left (λ c. statement_at p c room blocks_left) (parts_at p checked room blocks_left) d s f.0 f.1 (λ c. statement_again s f.2 f.3 c room blocks_left) rest nearest)
    statement_again (StandAlone d) f b checked (suc room) blocks_left rest nearest = absurd b
    statement_again (Sections d left NoParts right) f b checked (suc room) blocks_left rest nearest = absurd f.2
    statement_again (Sections d left (Part section items more) right) f b checked (suc room) blocks_left rest nearest =
        let first : PartTree = record { section = section; items = items } in
        let inner : List Token = mark punctuators.OpenBrace left
        ∷ (parts_spelling (Part section items more) ++ mark punctuators.CloseBrace right ∷ []) in
        rw (
          append_assoc (directive_spelling expression_spelling d) inner rest,
          at_line checked room blocks_left d
              (inner ++ rest),
        ) (sections_again checked room blocks_left (λ c. statement_at p c room blocks_left) d left first
        more right f.0 f.1 (λ fewer. record {
          one = record {
            named = f.2.0;
            one_stands = f.2.1;
            formed = f.2.2;
            items = part_items_are_again items f.2.2 checked fewer;
          };
          others = further_parts_again more f.2.3 checked fewer;
        }) rest)

    pub statements_again : (ss : StatementsTree) → AreStatements ss → (checked : Bool) (room : ℕ) → All ((IsItemAgain p l again) checked room (statement_at p checked room)) (list_of ss)
    statements_again NoStatements f checked room = All-nil ((IsItemAgain p l again) checked room (statement_at p checked room))
    statements_again (Statement (LocalDeclaration d) rest) f checked room = All-cons ((IsItemAgain p l again) checked room (statement_at p checked room)) (LocalDeclaration d) (list_of rest) ((declaration_item p l again) d f.0 checked room (statement_at p checked room)) (statements_again rest f.1 checked room)
    statements_again (Statement s rest) f checked room = All-cons ((IsItemAgain p l again) checked room (statement_at p checked room)) s (list_of rest) ((block_item p l again) s f.0 tt checked room (statement_at p checked room) ((part_from p l again) s f.0 tt checked room (statement_at p checked room) (λ body k. statement_again s f.0 body checked room k))) (statements_again rest f.1 checked room)

    pub part_items_are_again : (ss : StatementsTree) → ArePartItems ss → (checked : Bool) (room : ℕ)
        → All ((IsPartItemAgain p l again) checked room (statement_at p checked room)) (list_of ss)
    part_items_are_again NoStatements f checked room =
        All-nil ((IsPartItemAgain p l again) checked room (statement_at p checked room))
    part_items_are_again (Statement s rest) f checked room =
        All-cons ((IsPartItemAgain p l again) checked room (statement_at p checked room)) s (list_of rest) (record {
          formed = f.0;
          part = f.1;
          read = (part_from p l again) s f.0 f.1 checked room (statement_at p checked room)
              (λ body k. statement_again s f.0 body checked room k);
        }) (part_items_are_again rest f.2 checked room)

    pub further_parts_again : (ps : PartsTree) → AreFurtherParts ps → (checked : Bool) (room : ℕ)
        → All ((IsPartAgain p l again) IsSection checked room (statement_at p checked room)) (list_of_parts ps)
    further_parts_again NoParts f checked room =
        All-nil ((IsPartAgain p l again) IsSection checked room (statement_at p checked room))
    further_parts_again (Part section items rest) f checked room =
        All-cons ((IsPartAgain p l again) IsSection checked room (statement_at p checked room))
        (record { section = section; items = items }) (list_of_parts rest) (record {
          named = f.0;
          one_stands = f.1;
          formed = f.2;
          items = part_items_are_again items f.2 checked room;
        }) (further_parts_again rest f.3 checked room)

  -- ---- the block of a function

  statements_back : (items : List StatementTree) → list_of (statements items) ≡ items
  statements_back [] = refl
  statements_back (s ∷ rest) = ap (λ w. s ∷ w) (statements_back rest)

  -- a block of a function that keeps the limits, and whose `atomic`s have their forms
  pub function_block_again : (room blocks_left : ℕ) (b : BlockTree) (rest : List Token) → AreStatements (statements b.items) → IsAnswer (IsKeptBlock l room blocks_left b) (block_with p l.checked room blocks_left (block_spelling b ++ rest)) (b, rest)
  unfolding block_with block_spelling
  function_block_again room blocks_left b rest f =
      let last : List Token = mark punctuators.CloseBrace b.close_brace ∷ [] in
      let us : List Token = (statements_spelling (statements b.items) ++ last) ++ rest in
      let flat : List Token = (flat_map statement_spelling b.items ++ last) ++ rest in
      let whole : BlockTree × List Token = (b, rest) in
      let spelled : us ≡ flat = ap (λ w. (w ++ last) ++ rest) (statements_flat b.items) in
      rw (mark_again punctuators.OpenBrace b.open_brace flat) (subst (λ (ts : List Token). IsAnswer {A = BlockTree × List Token} (IsKeptBlock l room blocks_left b) (block_items_after p (statement_at p l.checked room) blocks_left b.open_brace ts >>= λ x. ok (record { open_brace = b.open_brace; items = x.0; close_brace = x.1 }, x.2)) whole) spelled
      (bind_answer (block_items_after p (statement_at p l.checked room) blocks_left b.open_brace us) _ (list_of (statements b.items), b.close_brace, rest) whole (λ w. w)
      (block_items_again l.checked room (statement_at p l.checked room) (statements b.items) (statements_again (statements b.items) f l.checked room) blocks_left b.open_brace b.close_brace rest (IsKeptBlock l room blocks_left b) (λ w. omega (arith, w.0.deep)) (λ fewer is w. record { high = w.0.high; deep = omega (arith, w.0.deep, is); nested = w.0.nested; long = w.0.long; forms = w.1 }))
      (inl (ap (λ items. ok (record { open_brace = b.open_brace; items = items; close_brace = b.close_brace }, rest)) (statements_back b.items)))))
