-- Where what stands before a body, or an item in braces, is refused by another code than that of syntax.
use Rattle.std.proofs.Common.{◌≡◌, ℕ, zero, suc, ◌≤◌, Bool, true, false, List, [], ◌∷◌, ◌++◌, Option, Some, None, Err, refl, sym, ap, ◌∙◌, append_assoc, inl, inr}
use Rattle.std.proofs.lemmas.List.{append-nil}
use Rattle.om_lexer.specs.declared.fault.SourceFault.{SourceFault}
use Rattle.om_lexer.specs.declared.token.Keyword.TheVariants as keywords
use Rattle.om_lexer.specs.declared.token.Punctuator.{Punctuator}
use Rattle.om_lexer.specs.declared.token.Punctuator.TheVariants as punctuators
use Rattle.om_lexer.specs.declared.token.Span.{Span}
use Rattle.om_lexer.specs.declared.token.Token.{Token}
use Rattle.om_parser.specs.declared.start.Start.{Start}
use Rattle.om_parser.specs.declared.start.Start.TheVariants as starts
use Rattle.om_parser.specs.BlockFaults.{IsStopped}
use Rattle.om_parser_parts.specs.Reading.{Reader, choose, take_mark, take_word, mark_at, word_at}
use Rattle.om_parser_parts.specs.Repetition.{until}
use Rattle.om_parser_tree.specs.Spelling.{mark, word, perhaps, expression_spelling, local_spelling, condition_spelling, for_start_spelling, for_head_spelling, statement_spelling, statements_spelling, block_spelling}
use Rattle.om_parser_tree.specs.Formed.{IsOptional, IsForStart, IsForHead, ends_open, IsStatement, AreStatements, AreSome, IsExpression}
use Rattle.om_parser_tree.specs.Limits.{Limits}
use Rattle.om_parser_tree.specs.Places.{Place, in_parentheses, Behind, InOptional, InCondition, InForStart, InForHead, IsOverInside, IsOverInItems, IsOverInStatement, IsOverInBlock}
use Rattle.om_parser_parts.specs.PartReading.{Parts}
use Rattle.om_parser.specs.StatementReading.{condition_at, optional_before, for_start_at, for_head_after, OpeningTree, OpensIf, OpensWhile, OpensFor, with_body, opening_of, else_after, behind_body, body_after, headed_of, do_end, do_after, block_item_at}
use Rattle.om_parser_tree.specs.Tree.{ExpressionTree, Constant, ConditionTree, ForStartTree, Nothing, StartExpression, StartDeclaration, ForHeadTree, StatementTree, StatementsTree, LocalDeclaration, Empty, IfElse, Do, NoStatements, Statement, statements}
use Rattle.om_parser_parts.specs.Outcomes.{some, bind_err, choose_cases, after_front}
use Rattle.om_parser_parts.specs.Taken.{take_word_is, mark_at_is, word_at_is}
use Rattle.om_parser_parts.specs.Laws.{ArePartsSound, Stops, IsExpressionCut, ArePartsCut}
use Rattle.om_parser.proofs.ItemSound.{with_body_spelled, block_item_sound_with}
use Rattle.om_parser.proofs.StatementParts.{optional_spelling, opening_spelling, IsWholeOpening, Whole, IsStatementSound}
use Rattle.om_parser.proofs.ItemSound as sounds
use Rattle.om_parser.specs.Stopped.{syntax_plain, mark_plain, word_plain, last_mark_plain, within_larger}
use Rattle.om_parser.proofs.StatementTokens.{IsOpening}
use Rattle.om_parser.proofs.ConstructCut.{IsPart, IsInsideStopped, IsStatementCut, part_item_cut}

-- anything well-formed, to end a part with
abbrev condition_of : Span → ExpressionTree → ConditionTree
condition_of at e = record { open_paren = at; value = e; close_paren = at }

abbrev pub InOpening : Limits → OpeningTree → Place
InOpening l (OpensIf at c) = Behind (word keywords.If at ∷ []) (InCondition l c)
InOpening l (OpensWhile at c) = Behind (word keywords.While at ∷ []) (InCondition l c)
InOpening l (OpensFor h) = InForHead l h

abbrev IsNearest : StatementTree → List Token → Type 0
IsNearest s rest = ends_open s ≡ true → take_word keywords.Else rest ≡ None

closed_before_else : (s : StatementTree) (us : List Token) (o : Span × List Token) → IsNearest s us → take_word keywords.Else us ≡ some o → ends_open s ≡ false
closed_before_else s us o nearest taken = go (ends_open s) refl
  where
    go : (b : Bool) → ends_open s ≡ b → ends_open s ≡ false
    go false is = is
    go true is = let none = nearest is in absurd cc

empty_part : (at : Span) → IsPart (Empty at)
unfolding IsStatement
empty_part at = (tt, tt)

empty_spelled : (at : Span) → statement_spelling (Empty at) ≡ mark punctuators.Semicolon at ∷ []
unfolding statement_spelling
empty_spelled at = refl

abbrev pub any_head : Span → ForHeadTree
any_head at = record { word = at; open_paren = at; start = Nothing at; condition = None; semicolon = at; step = None; close_paren = at }

-- an expression that is surely well-formed
abbrev pub any_condition : Span → ConditionTree
any_condition at = condition_of at (Constant (record { value = 0; span = at }))

pub any_formed : (at : Span) → IsExpression (any_condition at).value
unfolding IsExpression
any_formed at = tt

-- well-formed items of a block, one at least
abbrev AreSomeStatements : StatementsTree → Type 0
AreSomeStatements items = AreSome items × AreStatements items

module _ (p : Parts) (l : Limits) (one : 1 ≤ l.nested) (sound : ArePartsSound p l) (cuts : ArePartsCut p l) where
  -- an item, items and the block of a function stop so
  abbrev IsItemStopped : (depth nested : ℕ) → List Token → SourceFault → Type 0
  IsItemStopped depth nested ts f = IsStopped statement_spelling IsStatement (IsOverInStatement l depth nested) l ts f

  abbrev pub AreItemsStopped : (depth nested : ℕ) → List Token → SourceFault → Type 0
  AreItemsStopped depth nested ts f = IsStopped statements_spelling AreSomeStatements (IsOverInItems l depth nested) l
      ts f

  abbrev pub IsBlockStopped : List Token → SourceFault → Type 0
  IsBlockStopped ts f = IsStopped block_spelling (λ b. AreStatements (statements b.items)) (IsOverInBlock l) l ts f

  condition_cut : (ts : List Token) (f : SourceFault) → condition_at p ts ≡ Err f → Stops f → IsStopped condition_spelling (λ c. IsExpression c.value) (InCondition l) l ts f
  unfolding condition_at condition_spelling
  condition_cut ts f h stops = elim (bind_err (mark_at punctuators.OpenParen ts) _ f h) [
    | inl wrong ↦ absurd (mark_plain punctuators.OpenParen ts f wrong stops)
    | inr (o, taken, g) ↦ elim (bind_err (p.enclosed o.1) _ f g) [
      | inr (e, reads, k) ↦ absurd (last_mark_plain punctuators.CloseParen e.1 _ f k stops)
      | inl fails ↦ within_larger condition_spelling (λ c. IsExpression c.value) (InCondition l) (mark punctuators.OpenParen o.0 ∷ []) (mark punctuators.CloseParen o.0 ∷ []) (condition_of o.0) ts o.1 f (λ e is. is) (λ e. refl) (λ e before t over. (before, refl, over)) (mark_at_is punctuators.OpenParen ts o taken) (inl (cuts.enclosed o.1 f fails stops))
    ]
  ]

  pub optional_cut : (m : Limits) (q : Punctuator) (r : Reader ExpressionTree) (filler : Span) → IsExpressionCut m r → (ts : List Token) (f : SourceFault) → optional_before q r ts ≡ Err f → Stops f → IsStopped (optional_spelling q) (λ e. IsOptional e.0) (λ e. InOptional m e.0) l ts f
  unfolding optional_before
  optional_cut m q r filler passed ts f h stops = elim (choose_cases (take_mark q ts) _ _ (Err f) h) [
    | inl (s, taken, no_err) ↦ absurd cc
    | inr (none, g) ↦ elim (bind_err (r ts) _ f g) [
      | inr (e, reads, k) ↦ absurd (last_mark_plain q e.1 _ f k stops)
      | inl fails ↦ within_larger (optional_spelling q) (λ e. IsOptional e.0) (λ e. InOptional m e.0) [] (mark q filler ∷ []) (λ e. (Some e, filler)) ts ts f (λ e is. is) (λ e. refl) (λ e before t over. over) refl (inl (passed ts f fails stops))
    ]
  ]

  for_start_cut : (filler : Span) (ts : List Token) (f : SourceFault) → for_start_at p ts ≡ Err f → Stops f → IsStopped for_start_spelling IsForStart (InForStart l) l ts f
  unfolding for_start_at for_start_spelling
  for_start_cut filler ts f h stops = elim (choose_cases (take_word keywords.Int ts) _ _ (Err f) h) [
    | inl (i, taken, g) ↦ elim (bind_err (p.enclosed_declaration i.0 i.1) _ f g) [
      | inr (d, reads, no_err) ↦ absurd cc
      | inl fails ↦ within_larger for_start_spelling IsForStart (InForStart l) [] [] StartDeclaration ts (word keywords.Int i.0 ∷ i.1) f (λ d is. is) (λ d. simp append-nil) (λ d before t over. over) (take_word_is keywords.Int ts i.0 i.1 taken) (inl (cuts.enclosed_declaration i.0 i.1 f fails stops))
    ]
    | inr (none, g) ↦ elim (bind_err (optional_before punctuators.Semicolon p.enclosed ts) _ f g) [
      | inr (e, reads, no_err) ↦ absurd cc
      | inl fails ↦ within_larger for_start_spelling IsForStart (InForStart l) [] [] (λ e. choose e.0 (λ x. StartExpression x e.1) (Nothing e.1)) ts ts f start_formed start_spelled start_over refl (optional_cut (in_parentheses l) punctuators.Semicolon p.enclosed filler cuts.enclosed ts f fails stops)
    ]
  ]
    where
      start_formed : (e : Option ExpressionTree × Span) → IsOptional e.0 → IsForStart (choose e.0 (λ x. StartExpression x e.1) (Nothing e.1))
      start_formed (None, s) is = tt
      start_formed (Some e, s) is = is

      start_spelled : (e : Option ExpressionTree × Span) → for_start_spelling (choose e.0 (λ x. StartExpression x e.1) (Nothing e.1)) ≡ [] ++ (optional_spelling punctuators.Semicolon e ++ [])
      start_spelled (None, s) = refl
      start_spelled (Some e, s) = simp append-nil

      start_over : (e : Option ExpressionTree × Span) (before : List Token) (t : Token) → InOptional (in_parentheses l) e.0 before t → InForStart l (choose e.0 (λ x. StartExpression x e.1) (Nothing e.1)) before t
      start_over (None, s) before t over = absurd over
      start_over (Some e, s) before t over = over

  -- the head of a `for` with these parts
  abbrev head_of : Span → Span → ForStartTree → Option ExpressionTree × Span → Option ExpressionTree × Span → ForHeadTree
  head_of at left s c e = record { word = at; open_paren = left; start = s; condition = c.0; semicolon = c.1; step = e.0; close_paren = e.1 }

  head_last : (at left : Span) (s : ForStartTree) (c e : Option ExpressionTree × Span) → for_head_spelling (head_of at left s c e) ≡ (word keywords.For at ∷ mark punctuators.OpenParen left ∷ (for_start_spelling s ++ (perhaps expression_spelling c.0 ++ mark punctuators.Semicolon c.1 ∷ []))) ++ ((perhaps expression_spelling e.0 ++ mark punctuators.CloseParen e.1 ∷ []) ++ [])
  unfolding for_head_spelling
  head_last at left s c e = simp (append_assoc, append-nil)

  for_head_cut : (at : Span) (ts : List Token) (f : SourceFault) → for_head_after p at ts ≡ Err f → Stops f → IsStopped for_head_spelling IsForHead (InForHead l) l (word keywords.For at ∷ ts) f
  unfolding for_head_after for_head_spelling IsForHead InForHead
  for_head_cut at ts f h stops = elim (bind_err (mark_at punctuators.OpenParen ts) _ f h) [
    | inl wrong ↦ absurd (mark_plain punctuators.OpenParen ts f wrong stops)
    | inr (o, taken, g) ↦
        let none : Option ExpressionTree × Span = (None, o.0) in
        let front : List Token = word keywords.For at ∷ mark punctuators.OpenParen o.0 ∷ [] in
        let begun : word keywords.For at ∷ ts ≡ front ++ o.1 = ap (λ w. word keywords.For at ∷ w) (mark_at_is punctuators.OpenParen ts o taken) in
        elim (bind_err (for_start_at p o.1) _ f g) [
          | inl fails ↦ within_larger for_head_spelling IsForHead (InForHead l) front (mark punctuators.Semicolon o.0 ∷ mark punctuators.CloseParen o.0 ∷ []) (λ s. head_of at o.0 s none none) (word keywords.For at ∷ ts) o.1 f (λ s is. (is, tt, tt)) (λ s. simp (append_assoc, append-nil)) (λ s before t over. inl (before, refl, over)) begun (for_start_cut o.0 o.1 f fails stops)
          | inr (s, start_reads, k) ↦
              let start = sounds.for_start_sound p l one sound o.1 s start_reads in
              let middle : List Token = front ++ for_start_spelling s.0 in
              let begun_middle : word keywords.For at ∷ ts ≡ middle ++ s.1 = begun ∙ ap (λ w. front ++ w) start.parts ∙ simp append_assoc in
              elim (bind_err (optional_before punctuators.Semicolon p.enclosed s.1) _ f k) [
                | inl fails ↦ within_larger for_head_spelling IsForHead (InForHead l) middle (mark punctuators.CloseParen o.0 ∷ []) (λ c. head_of at o.0 s.0 c none) (word keywords.For at ∷ ts) s.1 f (λ c is. (start.formed.formed, is, tt)) (λ c. simp append_assoc) (λ c before t over. inr (inl (before, refl, over))) begun_middle (optional_cut (in_parentheses l) punctuators.Semicolon p.enclosed o.0 cuts.enclosed s.1 f fails stops)
                | inr (c, condition_reads, m) ↦
                    let condition = sounds.optional_sound p l one sound 1 punctuators.Semicolon p.enclosed one sound.enclosed s.1 c condition_reads in
                    let last : List Token = middle ++ optional_spelling punctuators.Semicolon c.0 in
                    let begun_last : word keywords.For at ∷ ts ≡ last ++ c.1 = begun_middle ∙ ap (λ w. middle ++ w) condition.parts ∙ simp append_assoc in
                    elim (bind_err (optional_before punctuators.CloseParen p.enclosed c.1) _ f m) [
                      | inr (e, reads, no_err) ↦ absurd cc
                      | inl fails ↦ within_larger for_head_spelling IsForHead (InForHead l) last [] (λ e. head_of at o.0 s.0 c.0 e) (word keywords.For at ∷ ts) c.1 f (λ e is. (start.formed.formed, condition.formed.formed, is)) (λ e. head_last at o.0 s.0 c.0 e) (λ e before t over. inr (inr (before, refl, over))) begun_last (optional_cut (in_parentheses l) punctuators.CloseParen p.enclosed o.0 cuts.enclosed c.1 f fails stops)
                    ]
              ]
        ]
  ]

  opening_cut : (start : Start) (at : Span) (ts : List Token) (f : SourceFault) → opening_of p start at ts ≡ Err f → Stops f → IsStopped opening_spelling IsOpening (InOpening l) l (Whole start at ts) f
  unfolding opening_of
  opening_cut starts.If at ts f h stops = elim (bind_err (condition_at p ts) _ f h) [
    | inr (c, reads, no_err) ↦ absurd cc
    | inl fails ↦ within_larger opening_spelling IsOpening (InOpening l) (word keywords.If at ∷ []) [] (OpensIf at) (word keywords.If at ∷ ts) ts f (λ c is. is) (λ c. simp append-nil) (λ c before t over. (before, refl, over)) refl (condition_cut ts f fails stops)
  ]
  opening_cut starts.While at ts f h stops = elim (bind_err (condition_at p ts) _ f h) [
    | inr (c, reads, no_err) ↦ absurd cc
    | inl fails ↦ within_larger opening_spelling IsOpening (InOpening l) (word keywords.While at ∷ []) [] (OpensWhile at) (word keywords.While at ∷ ts) ts f (λ c is. is) (λ c. simp append-nil) (λ c before t over. (before, refl, over)) refl (condition_cut ts f fails stops)
  ]
  opening_cut starts.For at ts f h stops = elim (bind_err (for_head_after p at ts) _ f h) [
    | inr (c, reads, no_err) ↦ absurd cc
    | inl fails ↦ within_larger opening_spelling IsOpening (InOpening l) [] [] OpensFor (word keywords.For at ∷ ts) (word keywords.For at ∷ ts) f (λ h is. is) (λ h. simp append-nil) (λ h before t over. over) refl (for_head_cut at ts f fails stops)
  ]
  opening_cut _ at ts f h stops = absurd (syntax_plain ts f h stops)

  -- ---- statements round a statement

  opening_formed : (o : OpeningTree) → IsWholeOpening l o → IsOpening o
  unfolding IsForHead
  opening_formed (OpensIf at c) w = w.formed
  opening_formed (OpensWhile at c) w = w.formed
  opening_formed (OpensFor h) w = (w.start.formed, w.condition.formed, w.step.formed)

  body_formed : (o : OpeningTree) (s : StatementTree) → IsOpening o → IsPart s → IsPart (with_body o s)
  unfolding IsStatement
  body_formed (OpensIf at c) s w g = ((w, g.0, g.1), tt)
  body_formed (OpensWhile at c) s w g = ((w, g.0, g.1), tt)
  body_formed (OpensFor h) s w g = ((w, g.0, g.1), tt)

  over_opening : (depth nested : ℕ) (o : OpeningTree) (s : StatementTree) (before : List Token) (t : Token) → InOpening l o before t → IsOverInside l depth nested (with_body o s) before t
  unfolding IsOverInside
  over_opening depth nested (OpensIf at c) s before t over = inl over
  over_opening depth nested (OpensWhile at c) s before t over = inl over
  over_opening depth nested (OpensFor h) s before t over = inl over

  over_body : (depth nested : ℕ) (o : OpeningTree) (s : StatementTree) (before : List Token) (t : Token) → IsOverInStatement l (suc depth) nested s before t → IsOverInside l depth nested (with_body o s) (opening_spelling o ++ before) t
  unfolding IsOverInside
  over_body depth nested (OpensIf at c) s before t over = inr (before, refl, over)
  over_body depth nested (OpensWhile at c) s before t over = inr (before, refl, over)
  over_body depth nested (OpensFor h) s before t over = inr (before, refl, over)

  else_cut : (depth nested : ℕ) (checked : Bool) (room blocks_left : ℕ) (statement : Reader StatementTree) → IsStatementCut l (suc depth) nested statement → (at : Span) (c : ConditionTree) (s : StatementTree) → IsExpression c.value → IsPart s → (us ts : List Token) (f : SourceFault) → IsNearest s us → ts ≡ (word keywords.If at ∷ (condition_spelling c ++ statement_spelling s)) ++ us → else_after statement at c s us ≡ Err f → Stops f → IsInsideStopped l depth nested ts f
  unfolding else_after statement_spelling IsStatement IsOverInside
  else_cut depth nested checked room blocks_left statement inner at c s w g us ts f nearest parts h stops = elim (choose_cases (take_word keywords.Else us) _ _ (Err f) h) [
    | inr (none, no_err) ↦ absurd cc
    | inl (o, taken, k) ↦ elim (bind_err (statement o.1) _ f k) [
      | inr (t, reads, no_err) ↦ absurd cc
      | inl fails ↦
          let front : List Token = word keywords.If at ∷ (condition_spelling c ++ statement_spelling s ++ word keywords.Else o.0 ∷ []) in
          within_larger statement_spelling IsPart (IsOverInside l depth nested) front [] (λ t. IfElse at c s o.0 t) ts o.1 f
          (λ t is. ((w, g.0, g.1, closed_before_else s us o nearest taken, is.0, is.1), tt))
          (λ t. simp (append_assoc, append-nil))
          (λ t before u over. inr (inr (before, refl, over)))
          (parts ∙ ap (λ v. (word keywords.If at ∷ (condition_spelling c ++ statement_spelling s)) ++ v) (take_word_is keywords.Else us o.0 o.1 taken) ∙ simp append_assoc)
          (inner o.1 f fails stops)
    ]
  ]

  behind_body_cut : (depth nested : ℕ) (checked : Bool) (room blocks_left : ℕ) (statement : Reader StatementTree) → IsStatementCut l (suc depth) nested statement → (o : OpeningTree) (s : StatementTree) → IsOpening o → IsPart s → (us ts : List Token) (f : SourceFault) → IsNearest s us → ts ≡ (opening_spelling o ++ statement_spelling s) ++ us → behind_body statement o s us ≡ Err f → Stops f → IsInsideStopped l depth nested ts f
  unfolding behind_body
  behind_body_cut depth nested checked room blocks_left statement inner (OpensIf at c) s w g us ts f nearest parts h stops = else_cut depth nested checked room blocks_left statement inner at c s w g us ts f nearest parts h stops
  behind_body_cut depth nested checked room blocks_left statement inner (OpensWhile at c) s w g us ts f nearest parts h stops = absurd cc
  behind_body_cut depth nested checked room blocks_left statement inner (OpensFor head) s w g us ts f nearest parts h stops = absurd cc

  pub headed_cut : (depth nested : ℕ) (checked : Bool) (room blocks_left : ℕ) (statement : Reader StatementTree) → IsStatementSound l checked room blocks_left statement → IsStatementCut l (suc depth) nested statement → (start : Start) (at : Span) (ts : List Token) (f : SourceFault) → headed_of p statement start at ts ≡ Err f → Stops f → IsInsideStopped l depth nested (Whole start at ts) f
  unfolding headed_of body_after
  headed_cut depth nested checked room blocks_left statement good inner start at ts f h stops = elim (bind_err (opening_of p start at ts) _ f h) [
    | inl fails ↦
        let c = opening_cut start at ts f fails stops in
        within_larger statement_spelling IsPart (IsOverInside l depth nested) [] (mark punctuators.Semicolon at ∷ []) (λ o. with_body o (Empty at)) (Whole start at ts) (Whole start at ts) f (λ o is. body_formed o (Empty at) is (empty_part at)) (λ o. with_body_spelled p l one sound o (Empty at) ∙ ap (λ w. opening_spelling o ++ w) (empty_spelled at)) (λ o before t over. over_opening depth nested o (Empty at) before t over) refl c
    | inr (o, opening_reads, g) ↦
        let opening = sounds.opening_sound p l one sound start at ts o opening_reads in
        elim (bind_err (statement o.1) _ f g) [
          | inl fails ↦ within_larger statement_spelling IsPart (IsOverInside l depth nested) (opening_spelling o.0) [] (with_body o.0) (Whole start at ts) o.1 f (λ s is. body_formed o.0 s (opening_formed o.0 opening.formed) is) (λ s. with_body_spelled p l one sound o.0 s ∙ ap (λ w. opening_spelling o.0 ++ w) (sym (append-nil (statement_spelling s)))) (λ s before t over. over_body depth nested o.0 s before t over) opening.parts (inner o.1 f fails stops)
          | inr (s, body_reads, k) ↦
              let body = good o.1 s body_reads in
              behind_body_cut depth nested checked room blocks_left statement inner o.0 s.0 (opening_formed o.0 opening.formed) (body.good.good.formed, body.good.body) s.1 (Whole start at ts) f body.nearest (after_front (Whole start at ts) (opening_spelling o.0) o.1 (statement_spelling s.0) s.1 opening.parts body.parts) k stops
        ]
  ]

  pub do_cut : (depth nested : ℕ) (checked : Bool) (room blocks_left : ℕ) (statement : Reader StatementTree) → IsStatementSound l checked room blocks_left statement → IsStatementCut l (suc depth) nested statement → (at : Span) (ts : List Token) (f : SourceFault) → do_after p statement at ts ≡ Err f → Stops f → IsInsideStopped l depth nested (word keywords.Do at ∷ ts) f
  unfolding do_after do_end statement_spelling IsStatement IsOverInside
  do_cut depth nested checked room blocks_left statement good inner at ts f h stops = elim (bind_err (statement ts) _ f h) [
    | inl fails ↦
        within_larger statement_spelling IsPart (IsOverInside l depth nested) (word keywords.Do at ∷ []) (word keywords.While at ∷ (condition_spelling (any_condition at) ++ mark punctuators.Semicolon at ∷ [])) (λ s. Do at s at (any_condition at) at) (word keywords.Do at ∷ ts) ts f (λ s is. ((any_formed at, is.0, is.1), tt)) (λ s. refl) (λ s before t over. inl (before, refl, over)) refl (inner ts f fails stops)
    | inr (s, body_reads, g) ↦
        let body = good ts s body_reads in
        elim (bind_err (word_at keywords.While s.1) _ f g) [
          | inl wrong ↦ absurd (word_plain keywords.While s.1 f wrong stops)
          | inr (w, again, k) ↦ elim (bind_err (condition_at p w.1) _ f k) [
            | inr (c, reads, m) ↦ absurd (last_mark_plain punctuators.Semicolon c.1 _ f m stops)
            | inl fails ↦
                let front : List Token = word keywords.Do at ∷ (statement_spelling s.0 ++ word keywords.While w.0 ∷ []) in
                within_larger statement_spelling IsPart (IsOverInside l depth nested) front (mark punctuators.Semicolon at ∷ []) (λ c. Do at s.0 w.0 c at) (word keywords.Do at ∷ ts) w.1 f (λ c is. ((is, body.good.good.formed, body.good.body), tt)) (λ c. simp append_assoc) (λ c before t over. inr (before, refl, over))
                (ap (λ v. word keywords.Do at ∷ v) (body.parts ∙ ap (λ v. statement_spelling s.0 ++ v) (word_at_is keywords.While s.1 w again)) ∙ simp append_assoc) (condition_cut w.1 f fails stops)
          ]
        ]
  ]

  -- ---- items

  block_item_cut : (depth nested : ℕ) (statement : Reader StatementTree) → IsStatementCut l depth nested statement → (ts : List Token) (f : SourceFault) → block_item_at p statement ts ≡ Err f → Stops f → IsItemStopped depth nested ts f
  unfolding block_item_at statement_spelling IsStatement IsOverInside
  block_item_cut depth nested statement inner ts f h stops = elim (choose_cases (take_word keywords.Int ts) _ _ (Err f) h) [
    | inl (i, taken, g) ↦ elim (bind_err (p.declaration i.0 i.1) _ f g) [
      | inr (d, reads, no_err) ↦ absurd cc
      | inl fails ↦ within_larger statement_spelling IsStatement (IsOverInStatement l depth nested) [] [] LocalDeclaration ts (word keywords.Int i.0 ∷ i.1) f (λ d is. is) (λ d. sym (append-nil (local_spelling d))) (λ d before t over. inr over) (take_word_is keywords.Int ts i.0 i.1 taken) (inl (cuts.declaration i.0 i.1 f fails stops))
    ]
    | inr (none, g) ↦ within_larger statement_spelling IsStatement (IsOverInStatement l depth nested) [] [] (λ s. s) ts ts f (λ s is. is.0) (λ s. sym (append-nil (statement_spelling s))) (λ s before t over. over) refl (part_item_cut l p.line sound.line cuts.line depth nested statement inner ts f g stops)
  ]

  -- one item, or more behind it
  one_item : (depth nested : ℕ) (ts : List Token) (f : SourceFault) → IsItemStopped depth nested ts f → AreItemsStopped depth nested ts f
  unfolding statement_spelling IsStatement IsOverInside
  one_item depth nested ts f c = within_larger statements_spelling AreSomeStatements (IsOverInItems l depth nested) [] [] (λ s. Statement s NoStatements) ts ts f (λ s is. (tt, (is, tt))) (λ s. refl) (λ s before t over. inl over) refl c

  pub items_cut : (depth nested : ℕ) (checked : Bool) (room blocks_left : ℕ) (statement : Reader StatementTree) → IsStatementSound l checked room blocks_left statement → IsStatementCut l depth nested statement → (k : ℕ) (ts : List Token) (f : SourceFault) → until (take_mark punctuators.CloseBrace) (block_item_at p statement) k ts ≡ Err f → Stops f → AreItemsStopped depth nested ts f
  unfolding until statement_spelling IsStatement IsOverInside
  items_cut depth nested checked room blocks_left statement good inner zero ts f h stops = elim (bind_err (block_item_at p statement ts) _ f h) [
    | inl fails ↦ one_item depth nested ts f (block_item_cut depth nested statement inner ts f fails stops)
    | inr (a, reads, e) ↦ absurd (syntax_plain ts f e stops)
  ]
  items_cut depth nested checked room blocks_left statement good inner (suc k) ts f h stops = elim (choose_cases (take_mark punctuators.CloseBrace ts) _ _ (Err f) h) [
    | inl (e, ends, no_err) ↦ absurd cc
    | inr (none, g) ↦ elim (bind_err (block_item_at p statement ts) _ f g) [
      | inl fails ↦ one_item depth nested ts f (block_item_cut depth nested statement inner ts f fails stops)
      | inr (a, reads, e) ↦ elim (bind_err (until (take_mark punctuators.CloseBrace) (block_item_at p statement) k a.1) _ f e) [
        | inr (b, read, no_err) ↦ absurd cc
        | inl fails ↦
            let first = block_item_sound_with p l one sound checked room blocks_left statement good ts a reads in
            within_larger statements_spelling AreSomeStatements (IsOverInItems l depth nested) (statement_spelling a.0) [] (Statement a.0) ts a.1 f (λ ss is. (tt, (first.formed.formed, is.1))) (λ ss. ap (λ w. statement_spelling a.0 ++ w) (sym (append-nil (statements_spelling ss)))) (λ ss before t over. inr (before, refl, over)) first.parts (items_cut depth nested checked room blocks_left statement good inner k a.1 f fails stops)
      ]
    ]
  ]
