-- What stands before a body, and items in braces: what is read of them is well-formed.
use Rattle.std.proofs.Common.{◌≡◌, ℕ, zero, suc, ◌≤◌, List, [], ◌∷◌, ◌++◌, length, Option, Some, None, Bool, true, false, not, refl, sym, ap, subst, ◌∙◌, arith, append_assoc, inl, inr}
use Rattle.om_lexer.specs.declared.token.Keyword.TheVariants as keywords
use Rattle.om_lexer.specs.declared.token.Punctuator.{Punctuator}
use Rattle.om_lexer.specs.declared.token.Punctuator.TheVariants as punctuators
use Rattle.om_lexer.specs.declared.token.Span.{Span}
use Rattle.om_lexer.specs.declared.token.Token.{Token}
use Rattle.om_pragma.specs.declared.tree.Directive.{Directive}
use Rattle.om_parser.specs.declared.construct.LineStart.{LineStart}
use Rattle.om_parser.specs.declared.construct.LineStart.TheVariants as lines
use Rattle.om_parser.specs.declared.start.Start.{Start}
use Rattle.om_parser.specs.declared.start.Start.TheVariants as starts
use Rattle.om_parser.specs.ConstructReading.{line_start, misplaced, unknown_line, stand_alone_at, item_of, part_item_at, is_section_line, ends_part, ends_parts, section_of, part_at}
use Rattle.om_parser.specs.OneOrMore.{one_or_more}
use Rattle.om_parser_parts.specs.Reading.{Reader, choose, take_mark, take_word, mark_at, word_at}
use Rattle.om_parser_tree.specs.Spelling.{mark, word, perhaps, expression_spelling, condition_spelling, for_start_spelling, for_head_spelling, statement_spelling, statements_spelling, parts_spelling, part_spelling, section_spelling}
use Rattle.om_parser_tree.specs.Formed.{IsForHead, ends_open, IsStatement, IsSection, IsOptionalSection}
use Rattle.om_parser_tree.specs.Limits.{Limits}
use Rattle.om_parser_tree.specs.Sizes.{HasForms, section_longest, section_nesting}
use Rattle.om_parser_parts.specs.PartReading.{Parts}
use Rattle.om_parser.specs.StatementReading.{condition_at, optional_before, for_start_at, for_head_after, OpeningTree, OpensIf, OpensWhile, OpensFor, with_body, opening_of, else_after, behind_body, body_after, headed_of, do_end, do_after, block_item_at, block_items_after, parts_after}
use Rattle.om_parser_tree.specs.Tree.{ExpressionTree, ConditionTree, Nothing, StartExpression, ForHeadTree, StatementTree, PartsTree, PartTree, statements}
use Rattle.om_parser_tree.specs.Tree as trees
use Rattle.om_parser_parts.specs.Laws.{IsRead, IsSound, IsWhole, ArePartsSound}
use Rattle.om_parser_parts.specs.Outcomes.{ok, ok_is, some, bind_ok, choose_cases, after_front, after_token}
use Rattle.om_parser_parts.specs.Taken.{take_mark_is, take_word_is, mark_at_is, word_at_is}
use Rattle.om_parser_parts.specs.ItemsSound.{until_sound}
use Rattle.om_parser.proofs.OneOrMore.{several_sound}
use Rattle.om_parser.proofs.StatementParts.{IsWholeOptional, IsWholeStart, IsWholeHead, optional_spelling, opening_spelling, IsWholeOpening, IsGood, IsGoodBody, IsGoodPartItem, are_good, IsGoodPart, good_part, are_good_parts, body_is_part, statements_flat, parts_flat, IsStatementRead, IsStatementSound, AreItemsRead, braces_spelling, AreGoodBraces, Whole, alone_named, section_named}

never : {A : Type 0} → false ≡ true → A
never e = absurd cc

-- a token at the end of one part stands before the next one
flat_parts : (ts start front : List Token) (t : Token) (back rest : List Token)
    → ts ≡ (start ++ ((front ++ t ∷ []) ++ back)) ++ rest → ts ≡ ((start ++ front) ++ t ∷ back) ++ rest
flat_parts ts start front t back rest e = e ∙ ap (λ w. w ++ rest)
    (ap (λ w. start ++ w) (append_assoc front (t ∷ []) back) ∙ sym (append_assoc start front (t ∷ back)))

module _ (p : Parts) (l : Limits) (one : 1 ≤ l.nested) (sound : ArePartsSound p l) where
  pub condition_sound : IsSound condition_spelling (λ c. IsWhole l 1 c.value) (condition_at p)
  unfolding condition_at condition_spelling
  condition_sound ts x h =
      let o = bind_ok (mark_at punctuators.OpenParen ts) _ x h in
      let e = bind_ok (p.enclosed o.0.1) _ x o.2 in
      let c = bind_ok (mark_at punctuators.CloseParen e.0.1) _ x e.2 in
      let inner = sound.enclosed o.0.1 e.0 e.1 in
      subst (IsRead condition_spelling (λ c. IsWhole l 1 c.value) ts) (ok_is _ x c.2) (record {
        parts = after_token (mark punctuators.OpenParen o.0.0) ts o.0.1 (expression_spelling e.0.0 ++ mark punctuators.CloseParen c.0.0 ∷ []) c.0.1 (mark_at_is punctuators.OpenParen ts o.0 o.1)
            (after_front o.0.1 (expression_spelling e.0.0) e.0.1 (mark punctuators.CloseParen c.0.0 ∷ []) c.0.1 inner.parts (mark_at_is punctuators.CloseParen e.0.1 c.0 c.1));
        formed = inner.formed;
      })

  pub optional_sound : (round : ℕ) (q : Punctuator) (r : Reader ExpressionTree) → round ≤ l.nested → IsSound expression_spelling (IsWhole l round) r → IsSound (optional_spelling q) (λ e. IsWholeOptional l round e.0) (optional_before q r)
  unfolding optional_before
  optional_sound round q r le whole ts x h = elim (choose_cases (take_mark q ts) _ _ (ok x) h) [
    | inl s ↦ subst (IsRead (optional_spelling q) (λ e. IsWholeOptional l round e.0) ts) (ok_is _ x s.2) (record {
      parts = take_mark_is q ts s.0.0 s.0.1 s.1;
      formed = record { formed = tt; nested = omega (arith, le); long = omega arith };
    })
    | inr g ↦
        let e = bind_ok (r ts) _ x g.1 in
        let s = bind_ok (mark_at q e.0.1) _ x e.2 in
        let inner = whole ts e.0 e.1 in
        subst (IsRead (optional_spelling q) (λ e. IsWholeOptional l round e.0) ts) (ok_is _ x s.2) (record {
          parts = after_front ts (expression_spelling e.0.0) e.0.1 (mark q s.0.0 ∷ []) s.0.1 inner.parts (mark_at_is q e.0.1 s.0 s.1);
          formed = record { formed = inner.formed.formed; nested = inner.formed.nested; long = inner.formed.long };
        })
  ]

  pub for_start_sound : IsSound for_start_spelling (IsWholeStart l) (for_start_at p)
  unfolding for_start_at for_start_spelling
  for_start_sound ts x h = elim (choose_cases (take_word keywords.Int ts) _ _ (ok x) h) [
    | inl i ↦
        let d = bind_ok (p.enclosed_declaration i.0.0 i.0.1) _ x i.2 in
        let inner = sound.enclosed_declaration i.0.0 i.0.1 d.0 d.1 in
        subst (IsRead for_start_spelling (IsWholeStart l) ts) (ok_is _ x d.2) (record {
          parts = take_word_is keywords.Int ts i.0.0 i.0.1 i.1 ∙ inner.parts;
          formed = record { formed = inner.formed.formed; nested = inner.formed.nested; long = inner.formed.long };
        })
    | inr g ↦
        let e = bind_ok (optional_before punctuators.Semicolon p.enclosed ts) _ x g.1 in
        let inner = optional_sound 1 punctuators.Semicolon p.enclosed one sound.enclosed ts e.0 e.1 in
        subst (IsRead for_start_spelling (IsWholeStart l) ts) (ok_is _ x e.2) (start e.0.0.0 e.0.0.1 e.0.1 inner.parts inner.formed)
  ]
    where
      start : (e : Option ExpressionTree) (s : Span) (rest : List Token) → ts ≡ optional_spelling punctuators.Semicolon (e, s) ++ rest → IsWholeOptional l 1 e → IsRead for_start_spelling (IsWholeStart l) ts (choose e (λ y. StartExpression y s) (Nothing s), rest)
      start None s rest parts w = record { parts = parts; formed = record { formed = tt; nested = w.nested; long = w.long } }
      start (Some e) s rest parts w = record { parts = parts; formed = record { formed = w.formed; nested = w.nested; long = w.long } }

  pub for_head_sound : (at : Span) (ts : List Token) (x : ForHeadTree × List Token) → for_head_after p at ts ≡ ok x → IsRead for_head_spelling (IsWholeHead l) (word keywords.For at ∷ ts) x
  unfolding for_head_after for_head_spelling
  for_head_sound at ts x h =
      let o = bind_ok (mark_at punctuators.OpenParen ts) _ x h in
      let s = bind_ok (for_start_at p o.0.1) _ x o.2 in
      let c = bind_ok (optional_before punctuators.Semicolon p.enclosed s.0.1) _ x s.2 in
      let e = bind_ok (optional_before punctuators.CloseParen p.enclosed c.0.1) _ x c.2 in
      let start = for_start_sound o.0.1 s.0 s.1 in
      let condition = optional_sound 1 punctuators.Semicolon p.enclosed one sound.enclosed s.0.1 c.0 c.1 in
      let step = optional_sound 1 punctuators.CloseParen p.enclosed one sound.enclosed c.0.1 e.0 e.1 in
      let back = after_front s.0.1 (optional_spelling punctuators.Semicolon c.0.0) c.0.1 (optional_spelling punctuators.CloseParen e.0.0) e.0.1 condition.parts step.parts in
      let inner = after_front o.0.1 (for_start_spelling s.0.0) s.0.1 (optional_spelling punctuators.Semicolon c.0.0 ++ optional_spelling punctuators.CloseParen e.0.0) e.0.1 start.parts back in
      let flat = flat_parts o.0.1 (for_start_spelling s.0.0) (perhaps expression_spelling c.0.0.0)
      (mark punctuators.Semicolon c.0.0.1) (optional_spelling punctuators.CloseParen e.0.0) e.0.1 inner in
      subst (IsRead for_head_spelling (IsWholeHead l) (word keywords.For at ∷ ts)) (ok_is _ x e.2) (record {
        parts = ap (λ w. word keywords.For at ∷ w) (mark_at_is punctuators.OpenParen ts o.0 o.1 ∙ ap (λ w. mark punctuators.OpenParen o.0.0 ∷ w) flat);
        formed = record { start = start.formed; condition = condition.formed; step = step.formed };
      })

  pub opening_sound : (start : Start) (at : Span) (ts : List Token) (x : OpeningTree × List Token) → opening_of p start at ts ≡ ok x → IsRead opening_spelling (IsWholeOpening l) (Whole start at ts) x
  unfolding opening_of
  opening_sound starts.If at ts x h =
      let c = bind_ok (condition_at p ts) _ x h in
      let inner = condition_sound ts c.0 c.1 in
      subst (IsRead opening_spelling (IsWholeOpening l) (word keywords.If at ∷ ts)) (ok_is _ x c.2) (record { parts = ap (λ w. word keywords.If at ∷ w) inner.parts; formed = inner.formed })
  opening_sound starts.While at ts x h =
      let c = bind_ok (condition_at p ts) _ x h in
      let inner = condition_sound ts c.0 c.1 in
      subst (IsRead opening_spelling (IsWholeOpening l) (word keywords.While at ∷ ts)) (ok_is _ x c.2) (record { parts = ap (λ w. word keywords.While at ∷ w) inner.parts; formed = inner.formed })
  opening_sound starts.For at ts x h =
      let c = bind_ok (for_head_after p at ts) _ x h in
      let inner = for_head_sound at ts c.0 c.1 in
      subst (IsRead opening_spelling (IsWholeOpening l) (word keywords.For at ∷ ts)) (ok_is _ x c.2) (record { parts = inner.parts; formed = inner.formed })
  opening_sound _ at ts x h = absurd cc

  -- the readers of statements one deeper give what is well-formed
  abbrev pub AreSound : (checked : Bool) (room : ℕ) → (ℕ → Reader StatementTree) → Type 0
  AreSound checked room statement = (blocks_left : ℕ) → IsStatementSound l checked room blocks_left (statement blocks_left)

  with_body_good : (checked : Bool) (room blocks_left : ℕ) (o : OpeningTree) (s : StatementTree) → IsWholeOpening l o → IsGoodBody l checked room blocks_left s → IsGoodBody l checked (suc room) blocks_left (with_body o s)
  unfolding IsStatement IsForHead HasForms
  with_body_good checked room blocks_left (OpensIf at c) s w g = record {
    good = record {
      formed = (w.formed, g.good.formed, g.body);
      room_for = record { high = omega (arith, g.good.room_for.high); deep = g.good.room_for.deep; nested = omega (arith, w.nested, g.good.room_for.nested); long = omega (arith, w.long, g.good.room_for.long); forms = g.good.room_for.forms };
    };
    body = tt;
  }
  with_body_good checked room blocks_left (OpensWhile at c) s w g = record {
    good = record {
      formed = (w.formed, g.good.formed, g.body);
      room_for = record { high = omega (arith, g.good.room_for.high); deep = g.good.room_for.deep; nested = omega (arith, w.nested, g.good.room_for.nested); long = omega (arith, w.long, g.good.room_for.long); forms = g.good.room_for.forms };
    };
    body = tt;
  }
  with_body_good checked room blocks_left (OpensFor h) s w g = record {
    good = record {
      formed = ((w.start.formed, w.condition.formed, w.step.formed), g.good.formed, g.body);
      room_for = record { high = omega (arith, g.good.room_for.high); deep = g.good.room_for.deep; nested = omega (arith, w.start.nested, w.condition.nested, w.step.nested, g.good.room_for.nested); long = omega (arith, w.start.long, w.condition.long, w.step.long, g.good.room_for.long); forms = g.good.room_for.forms };
    };
    body = tt;
  }

  pub with_body_spelled : (o : OpeningTree) (s : StatementTree) → statement_spelling (with_body o s) ≡ opening_spelling o ++ statement_spelling s
  unfolding statement_spelling
  with_body_spelled (OpensIf at c) s = refl
  with_body_spelled (OpensWhile at c) s = refl
  with_body_spelled (OpensFor h) s = refl

  else_sound : (checked : Bool) (room blocks_left : ℕ) (statement : Reader StatementTree) → IsStatementSound l checked room blocks_left statement → (at : Span) (c : ConditionTree) (s : StatementTree) → IsWhole l 1 c.value → IsGoodBody l checked room blocks_left s → (ts us : List Token) (x : StatementTree × List Token) → (ends_open s ≡ true → take_word keywords.Else us ≡ None) → ts ≡ (word keywords.If at ∷ (condition_spelling c ++ statement_spelling s)) ++ us → else_after statement at c s us ≡ ok x → IsStatementRead l checked (suc room) blocks_left ts x
  unfolding else_after statement_spelling IsStatement HasForms
  else_sound checked room blocks_left statement inner at c s w g ts us x nearest parts h = elim (choose_cases (take_word keywords.Else us) _ _ (ok x) h) [
    | inr k ↦ subst (IsStatementRead l checked (suc room) blocks_left ts) (ok_is _ x k.1) (record { parts = parts; good = with_body_good checked room blocks_left (OpensIf at c) s w g; nearest = λ is. k.0 })
    | inl o ↦
        let t = bind_ok (statement o.0.1) _ x o.2 in
        let second = inner o.0.1 t.0 t.1 in
        let back = after_token (word keywords.Else o.0.0) us o.0.1 (statement_spelling t.0.0) t.0.1 (take_word_is keywords.Else us o.0.0 o.0.1 o.1) second.parts in
        subst (IsStatementRead l checked (suc room) blocks_left ts) (ok_is _ x t.2) (record {
          parts = after_front ts (word keywords.If at ∷ (condition_spelling c ++ statement_spelling s)) us (word keywords.Else o.0.0 ∷ statement_spelling t.0.0) t.0.1 parts back ∙ simp append_assoc;
          good = record {
            good = record {
              formed = (w.formed, g.good.formed, g.body, closed (ends_open s) refl o.0 o.1, second.good.good.formed, second.good.body);
              room_for = record {
                high = omega (arith, g.good.room_for.high, second.good.good.room_for.high);
                deep = omega (arith, g.good.room_for.deep, second.good.good.room_for.deep);
                nested = omega (arith, w.nested, g.good.room_for.nested, second.good.good.room_for.nested);
                long = omega (arith, w.long, g.good.room_for.long, second.good.good.room_for.long);
                forms = (g.good.room_for.forms, second.good.good.room_for.forms);
              };
            };
            body = tt;
          };
          nearest = second.nearest;
        })
  ]
    where
      closed : (b : Bool) → ends_open s ≡ b → (o : Span × List Token) → take_word keywords.Else us ≡ some o → ends_open s ≡ false
      closed false is o taken = is
      closed true is o taken = let none = nearest is in absurd cc

  behind_body_sound : (checked : Bool) (room blocks_left : ℕ) (statement : Reader StatementTree) → IsStatementSound l checked room blocks_left statement → (o : OpeningTree) (s : StatementTree) → IsWholeOpening l o → IsGoodBody l checked room blocks_left s → (ts us : List Token) (x : StatementTree × List Token) → (ends_open s ≡ true → take_word keywords.Else us ≡ None) → ts ≡ (opening_spelling o ++ statement_spelling s) ++ us → behind_body statement o s us ≡ ok x → IsStatementRead l checked (suc room) blocks_left ts x
  unfolding behind_body statement_spelling
  behind_body_sound checked room blocks_left statement inner (OpensIf at c) s w g ts us x nearest parts h = else_sound checked room blocks_left statement inner at c s w g ts us x nearest parts h
  behind_body_sound checked room blocks_left statement inner (OpensWhile at c) s w g ts us x nearest parts h = subst (IsStatementRead l checked (suc room) blocks_left ts) (ok_is _ x h) (record { parts = parts; good = with_body_good checked room blocks_left (OpensWhile at c) s w g; nearest = nearest })
  behind_body_sound checked room blocks_left statement inner (OpensFor head) s w g ts us x nearest parts h = subst (IsStatementRead l checked (suc room) blocks_left ts) (ok_is _ x h) (record { parts = parts; good = with_body_good checked room blocks_left (OpensFor head) s w g; nearest = nearest })

  pub headed_sound : (checked : Bool) (room blocks_left : ℕ) (statement : Reader StatementTree) → IsStatementSound l checked room blocks_left statement → (start : Start) (at : Span) (ts : List Token) (x : StatementTree × List Token) → headed_of p statement start at ts ≡ ok x → IsStatementRead l checked (suc room) blocks_left (Whole start at ts) x
  unfolding headed_of body_after
  headed_sound checked room blocks_left statement inner start at ts x h =
      let o = bind_ok (opening_of p start at ts) _ x h in
      let s = bind_ok (statement o.0.1) _ x o.2 in
      let opening = opening_sound start at ts o.0 o.1 in
      let body = inner o.0.1 s.0 s.1 in
      behind_body_sound checked room blocks_left statement inner o.0.0 s.0.0 opening.formed body.good (Whole start at ts) s.0.1 x body.nearest (after_front (Whole start at ts) (opening_spelling o.0.0) o.0.1 (statement_spelling s.0.0) s.0.1 opening.parts body.parts) s.2

  pub do_sound : (checked : Bool) (room blocks_left : ℕ) (statement : Reader StatementTree) → IsStatementSound l checked room blocks_left statement → (at : Span) (ts : List Token) (x : StatementTree × List Token) → do_after p statement at ts ≡ ok x → IsStatementRead l checked (suc room) blocks_left (word keywords.Do at ∷ ts) x
  unfolding do_after do_end statement_spelling IsStatement HasForms
  do_sound checked room blocks_left statement inner at ts x h =
      let s = bind_ok (statement ts) _ x h in
      let w = bind_ok (word_at keywords.While s.0.1) _ x s.2 in
      let c = bind_ok (condition_at p w.0.1) _ x w.2 in
      let e = bind_ok (mark_at punctuators.Semicolon c.0.1) _ x c.2 in
      let body = inner ts s.0 s.1 in
      let condition = condition_sound w.0.1 c.0 c.1 in
      let last = after_front w.0.1 (condition_spelling c.0.0) c.0.1 (mark punctuators.Semicolon e.0.0 ∷ []) e.0.1 condition.parts (mark_at_is punctuators.Semicolon c.0.1 e.0 e.1) in
      let back = after_token (word keywords.While w.0.0) s.0.1 w.0.1 (condition_spelling c.0.0 ++ mark punctuators.Semicolon e.0.0 ∷ []) e.0.1 (word_at_is keywords.While s.0.1 w.0 w.1) last in
      subst (IsStatementRead l checked (suc room) blocks_left (word keywords.Do at ∷ ts)) (ok_is _ x e.2) (record {
        parts = ap (λ v. word keywords.Do at ∷ v) (after_front ts (statement_spelling s.0.0) s.0.1 (word keywords.While w.0.0 ∷ (condition_spelling c.0.0 ++ mark punctuators.Semicolon e.0.0 ∷ [])) e.0.1 body.parts back);
        good = record {
          good = record {
            formed = (condition.formed.formed, body.good.good.formed, body.good.body);
            room_for = record {
              high = omega (arith, body.good.good.room_for.high);
              deep = body.good.good.room_for.deep;
              nested = omega (arith, condition.formed.nested, body.good.good.room_for.nested);
              long = omega (arith, condition.formed.long, body.good.good.room_for.long);
              forms = body.good.good.room_for.forms;
            };
          };
          body = tt;
        };
        nearest = λ is. never is;
      })

  -- ---- items in braces

  part_of_body : (checked : Bool) (room blocks_left : ℕ) (s : StatementTree) → IsGoodBody l checked room blocks_left s → IsGoodPartItem l checked room blocks_left s
  part_of_body checked room blocks_left s g = record { formed = g.good.formed; room_for = g.good.room_for; part = body_is_part s g.body }

  stand_alone_sound : (checked : Bool) (room blocks_left : ℕ) (ts : List Token) (x : StatementTree × List Token) → line_start ts ≡ lines.StandAlone → stand_alone_at p.line ts ≡ ok x → IsRead statement_spelling (IsGoodPartItem l checked room blocks_left) ts x
  unfolding stand_alone_at statement_spelling IsStatement HasForms
  stand_alone_sound checked room blocks_left ts x is h =
      let d = bind_ok (p.line ts) _ x h in
      let line = sound.line ts d.0 d.1 in
      subst (IsRead statement_spelling (IsGoodPartItem l checked room blocks_left) ts) (ok_is _ x d.2) (record {
        parts = line.parts;
        formed = record {
          formed = (line.formed.formed, alone_named ts d.0.0 d.0.1 is line.parts);
          room_for = record { high = omega arith; deep = omega arith; nested = line.formed.nested; long = line.formed.long; forms = tt };
          part = tt;
        };
      })

  item_of_sound : (checked : Bool) (room blocks_left : ℕ) (statement : Reader StatementTree) → IsStatementSound l checked room blocks_left statement → (start : LineStart) (ts : List Token) (x : StatementTree × List Token) → line_start ts ≡ start → item_of p.line statement start ts ≡ ok x → IsRead statement_spelling (IsGoodPartItem l checked room blocks_left) ts x
  unfolding item_of misplaced unknown_line
  item_of_sound checked room blocks_left statement inner lines.StandAlone ts x is h = stand_alone_sound checked room blocks_left ts x is h
  item_of_sound checked room blocks_left statement inner lines.Section ts x is h = absurd cc
  item_of_sound checked room blocks_left statement inner lines.Unknown ts x is h = let d = bind_ok (p.line ts) _ x h in absurd cc
  item_of_sound checked room blocks_left statement inner lines.Construct ts x is h = let r = inner ts x h in record { parts = r.parts; formed = part_of_body checked room blocks_left x.0 r.good }
  item_of_sound checked room blocks_left statement inner lines.Nothing ts x is h = let r = inner ts x h in record { parts = r.parts; formed = part_of_body checked room blocks_left x.0 r.good }

  -- a statement, or a directive that stands alone
  pub part_item_sound_with : (checked : Bool) (room blocks_left : ℕ) (statement : Reader StatementTree) → IsStatementSound l checked room blocks_left statement → IsSound statement_spelling (IsGoodPartItem l checked room blocks_left) (part_item_at p.line statement)
  unfolding part_item_at
  part_item_sound_with checked room blocks_left statement inner ts x h = item_of_sound checked room blocks_left statement inner (line_start ts) ts x refl h

  good_item : (checked : Bool) (room blocks_left : ℕ) (ts : List Token) (x : StatementTree × List Token)
      → IsRead statement_spelling (IsGoodPartItem l checked room blocks_left) ts x
      → IsRead statement_spelling (IsGood l checked room blocks_left) ts x
  good_item checked room blocks_left ts x r = record {
    parts = r.parts;
    formed = record { formed = r.formed.formed; room_for = r.formed.room_for };
  }

  pub block_item_sound_with : (checked : Bool) (room blocks_left : ℕ) (statement : Reader StatementTree) → IsStatementSound l checked room blocks_left statement → IsSound statement_spelling (IsGood l checked room blocks_left) (block_item_at p statement)
  unfolding block_item_at statement_spelling IsStatement HasForms
  block_item_sound_with checked room blocks_left statement inner ts x h = elim (choose_cases (take_word keywords.Int ts) _ _ (ok x) h) [
    | inl i ↦
        let d = bind_ok (p.declaration i.0.0 i.0.1) _ x i.2 in
        let r = sound.declaration i.0.0 i.0.1 d.0 d.1 in
        subst (IsRead statement_spelling (IsGood l checked room blocks_left) ts) (ok_is _ x d.2) (record {
          parts = take_word_is keywords.Int ts i.0.0 i.0.1 i.1 ∙ r.parts;
          formed = record {
            formed = r.formed.formed;
            room_for = record { high = omega arith; deep = omega arith; nested = omega (arith, r.formed.nested); long = r.formed.long; forms = tt };
          };
        })
    | inr g ↦ good_item checked room blocks_left ts x (part_item_sound_with checked room blocks_left statement inner ts
        x g.1)
  ]

  pub block_items_sound : (checked : Bool) (room : ℕ) (statement : ℕ → Reader StatementTree) → AreSound checked room statement → (blocks_left : ℕ) (at : Span) (ts : List Token) (x : List StatementTree × Span × List Token) → block_items_after p statement blocks_left at ts ≡ ok x → AreItemsRead l checked room blocks_left ts x
  unfolding block_items_after
  block_items_sound checked room statement inner zero at ts x h = absurd cc
  block_items_sound checked room statement inner (suc blocks_left) at ts x h =
      let r = until_sound statement_spelling (IsGood l checked room blocks_left) (mark punctuators.CloseBrace)
      (take_mark punctuators.CloseBrace) (block_item_at p (statement blocks_left)) (take_mark_is punctuators.CloseBrace)
      (block_item_sound_with checked room blocks_left (statement blocks_left) (inner blocks_left)) (length ts) ts x h in
      let good = are_good l checked room blocks_left x.0 r.formed in
      record {
        parts = r.parts ∙ ap (λ w. (w ++ mark punctuators.CloseBrace x.1 ∷ []) ++ x.2) (sym (statements_flat x.0));
        formed = good.formed;
        high = good.room_for.high;
        deep = omega (arith, good.room_for.deep);
        nested = good.room_for.nested;
        long = good.room_for.long;
        forms = good.room_for.forms;
      }

  -- ---- parts of `sections`

  -- a `section` that is read, or none
  pub record IsSectionRead (ts : List Token) (d : Option (Directive ExpressionTree) × List Token) : Type 0 where
    pub parts : ts ≡ section_spelling d.0 ++ d.1
    pub optional : IsOptionalSection d.0
    pub nested : section_nesting d.0 ≤ l.nested
    pub long : section_longest d.0 ≤ l.tokens

  pub section_sound : (start : LineStart) (ts : List Token) (d : Option (Directive ExpressionTree) × List Token)
      → line_start ts ≡ start → section_of p.line start ts ≡ ok d → IsSectionRead ts d
  unfolding section_of
  section_sound lines.Section ts d is h =
      let r = bind_ok (p.line ts) _ d h in
      let line = sound.line ts r.0 r.1 in
      subst (IsSectionRead ts) (ok_is (Some r.0.0, r.0.1) d r.2) (record {
        parts = line.parts;
        optional = (line.formed.formed, section_named ts r.0.0 r.0.1 is line.parts);
        nested = line.formed.nested;
        long = line.formed.long;
      })
  section_sound _ ts d is h = subst (IsSectionRead ts) (ok_is (None, ts) d h)
      (record { parts = refl; optional = tt; nested = omega arith; long = omega arith })

  -- where a `section` stands first, it is read
  section_there : (ts : List Token) (start : LineStart) (d : Option (Directive ExpressionTree) × List Token)
      → start ≡ lines.Section → section_of p.line start ts ≡ ok d → IsOptionalSection d.0 → IsSection d.0
  unfolding section_of
  section_there ts lines.Section (None, us) is h named =
      let r = bind_ok (p.line ts) _ _ h in
      let none : ◌≡◌ {A = Option (Directive ExpressionTree)} (Some r.0.0) None = ap (λ x. x.0) (ok_is _ _ r.2) in
      absurd cc
  section_there ts lines.Section (Some d, us) is h named = named
  section_there ts _ d is h named = absurd cc

  -- what is said of the `section` of a part that begins with these tokens
  abbrev pub NamesSection : (Option (Directive ExpressionTree) → Type 0) → List Token → Type 0
  NamesSection Named ts = (d : Option (Directive ExpressionTree) × List Token)
      → section_of p.line (line_start ts) ts ≡ ok d → Named d.0

  pub may_lack : (ts : List Token) → NamesSection IsOptionalSection ts
  may_lack ts d h = (section_sound (line_start ts) ts d refl h).optional

  pub stands : (ts : List Token) → ends_parts ts ≡ false → NamesSection IsSection ts
  stands ts begins d h = section_there ts (line_start ts) d (by (line_start ts) begins) h (may_lack ts d h)
    where
      by : (start : LineStart) → not (is_section_line start) ≡ false → start ≡ lines.Section
      by lines.Section e = refl
      by lines.StandAlone e = absurd cc
      by lines.Unknown e = absurd cc
      by lines.Construct e = absurd cc
      by lines.Nothing e = absurd cc

  pub part_sound_with : (checked : Bool) (room blocks_left : ℕ) (statement : Reader StatementTree)
      → IsStatementSound l checked room blocks_left statement → (Named : Option (Directive ExpressionTree) → Type 0)
      (ts : List Token) (x : PartTree × List Token) → NamesSection Named ts → part_at p.line statement ts ≡ ok x
      → IsRead part_spelling (IsGoodPart Named l checked room blocks_left) ts x
  unfolding part_at
  part_sound_with checked room blocks_left statement inner Named ts x named h =
      let good : StatementTree → Type 0 = IsGoodPartItem l checked room blocks_left in
      let item : Reader StatementTree = part_item_at p.line statement in
      let sound_item : IsSound statement_spelling good item =
      part_item_sound_with checked room blocks_left statement inner in
      let d = bind_ok (section_of p.line (line_start ts) ts) _ x h in
      let section = section_sound (line_start ts) ts d.0 refl d.1 in
      let r = bind_ok (one_or_more ends_part item (length d.0.1) d.0.1) _ x d.2 in
      let items = several_sound statement_spelling good ends_part item (λ us y reads. (sound_item us y reads).parts)
      (λ us y more reads. (sound_item us y reads).formed) good (length d.0.1) d.0.1 r.0
      (λ y reads. (sound_item d.0.1 y reads).formed) r.1 in
      subst (IsRead part_spelling (IsGoodPart Named l checked room blocks_left) ts) (ok_is _ x r.2) (record {
        parts = after_front ts (section_spelling d.0.0) d.0.1 (statements_spelling (statements r.0.0)) r.0.1
            section.parts (items.parts ∙ ap (λ w. w ++ r.0.1) (sym (statements_flat r.0.0)));
        formed = good_part Named l checked room blocks_left d.0.0 r.0.0 (named d.0 d.1) section.nested section.long
            items.formed;
      })

  -- ---- the braces of `sections`

  pub braces_sound_with : (checked : Bool) (room : ℕ) (statement : ℕ → Reader StatementTree)
      → AreSound checked room statement → (blocks_left : ℕ) (left : Span) (ts : List Token) (x : (Span × PartsTree ×
      Span) × List Token) → parts_after p statement blocks_left left ts ≡ ok x → IsRead braces_spelling (AreGoodBraces l
      checked (suc room) blocks_left) (mark punctuators.OpenBrace left ∷ ts) x
  unfolding parts_after
  braces_sound_with checked room statement inner zero left ts x h = absurd cc
  braces_sound_with checked room statement inner (suc blocks_left) left ts x h =
      let first : PartTree → Type 0 = IsGoodPart IsOptionalSection l checked room blocks_left in
      let more : PartTree → Type 0 = IsGoodPart IsSection l checked room blocks_left in
      let part : Reader PartTree = part_at p.line (statement blocks_left) in
      let sound_part = part_sound_with checked room blocks_left (statement blocks_left) (inner blocks_left) in
      let r = bind_ok (one_or_more ends_parts part (length ts) ts) _ x h in
      let c = bind_ok (mark_at punctuators.CloseBrace r.0.1) _ x r.2 in
      let parts = several_sound part_spelling more ends_parts part
      (λ us y reads. (sound_part IsOptionalSection us y (may_lack us) reads).parts)
      (λ us y begins reads. (sound_part IsSection us y (stands us begins) reads).formed) first (length ts) ts r.0
      (λ y reads. (sound_part IsOptionalSection ts y (may_lack ts) reads).formed) r.1 in
      let good = are_good_parts l checked room blocks_left r.0.0 parts.formed in
      let spelled = after_front ts (parts_spelling (trees.parts r.0.0)) r.0.1 (mark punctuators.CloseBrace c.0.0 ∷ [])
      c.0.1 (parts.parts ∙ ap (λ w. w ++ r.0.1) (sym (parts_flat r.0.0)))
      (mark_at_is punctuators.CloseBrace r.0.1 c.0 c.1) in
      subst (IsRead braces_spelling (AreGoodBraces l checked (suc room) (suc blocks_left)) (mark punctuators.OpenBrace
      left ∷ ts)) (ok_is _ x c.2) (record {
        parts = ap (λ w. mark punctuators.OpenBrace left ∷ w) spelled;
        formed = record {
          formed = good.formed;
          high = omega (arith, good.room_for.high);
          deep = omega (arith, good.room_for.deep);
          nested = good.room_for.nested;
          long = good.room_for.long;
          forms = good.room_for.forms;
        };
      })
