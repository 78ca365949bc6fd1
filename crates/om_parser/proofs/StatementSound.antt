-- A statement that is read is well-formed, within the limits, and spelled as the tokens were.
use Rattle.std.proofs.Common.{◌≡◌, ℕ, zero, suc, ◌≤◌, List, [], ◌∷◌, ◌++◌, Bool, true, false, refl, sym, ap, subst, ◌∙◌}
use Rattle.std.proofs.Common.{arith, inl, inr, not, ◌||◌}
use Rattle.std.specs.List.{flat_map}
use Rattle.om_lexer.specs.declared.token.Keyword.TheVariants as keywords
use Rattle.om_lexer.specs.declared.token.Punctuator.TheVariants as punctuators
use Rattle.om_lexer.specs.declared.token.Span.{Span}
use Rattle.om_lexer.specs.declared.token.Token.{Token}
use Rattle.om_lexer.specs.declared.token.TokenKind.{TokenKind}
use Rattle.om_pragma.specs.declared.tree.Directive.{Directive}
use Rattle.om_pragma.specs.Questions.{is_stand_alone, is_section, is_sections, is_atomic, atomic_kind}
use Rattle.om_pragma.specs.Spelling.{directive_spelling}
use Rattle.om_parser.specs.declared.construct.LineStart.{LineStart}
use Rattle.om_parser.specs.declared.construct.LineStart.TheVariants as lines
use Rattle.om_parser.specs.declared.start.Start.{Start}
use Rattle.om_parser.specs.declared.start.Start.TheVariants as starts
use Rattle.om_parser_tree.specs.AtomicForms.{has_atomic_form}
use Rattle.om_parser.specs.ConstructReading.{line_start, misplaced, unknown_line, bad_atomic, atomic_of, atomic_after}
use Rattle.om_parser.specs.ConstructReading.{constructed_after, PartsReader, sections_after, construct_after}
use Rattle.om_parser.specs.ConstructReading.{construct_at, line_of, part_at, part_item_at}
use Rattle.om_parser_parts.specs.Reading.{Reader, mark_at}
use Rattle.om_parser_tree.specs.Spelling.{token, mark, word, expression_spelling, statement_spelling, block_spelling}
use Rattle.om_parser_tree.specs.Spelling.{part_spelling}
use Rattle.om_parser_tree.specs.Formed.{IsBody, IsConstruct, IsStatement, IsOptionalSection}
use Rattle.om_parser_tree.specs.Limits.{Limits}
use Rattle.om_parser_tree.specs.Sizes.{longest, brackets, blocks, height, Where, HasForms}
use Rattle.om_parser_parts.specs.PartReading.{Parts}
use Rattle.om_parser.specs.StatementReading.{start_of, optional_before, return_after, jump_after}
use Rattle.om_parser.specs.StatementReading.{expression_statement_at, block_item_at, block_items_after}
use Rattle.om_parser.specs.StatementReading.{block_after, simple_of, statement_of, no_room, statement_at, parts_at}
use Rattle.om_parser.specs.StatementReading.{block_with}
use Rattle.om_parser_tree.specs.Tree.{ExpressionTree, StatementTree, Empty, Expression, Return, Break, Continue, Construct}
use Rattle.om_parser_parts.specs.Laws.{IsWholeLine, IsRead, IsSound, ArePartsSound}
use Rattle.om_parser_parts.specs.Outcomes.{ok, ok_is, bind_ok, either_way, after_front, after_token}
use Rattle.om_parser_parts.specs.Taken.{mark_at_is}
use Rattle.om_parser.proofs.StatementParts.{IsOf, is_of_start, IsGood, IsGoodBody, IsGoodPartItem, IsGoodPart, statements_flat}
use Rattle.om_parser.proofs.StatementParts.{IsStatementRead}
use Rattle.om_parser.proofs.StatementParts.{IsStatementSound, braces_spelling, AreGoodBraces, AreBracesSound}
use Rattle.om_parser.specs.Laws.{IsGoodBlock}
use Rattle.om_parser.proofs.StatementParts.{construct_named, only_where}
use Rattle.om_parser.proofs.ItemSound.{optional_sound, AreSound, headed_sound, do_sound, block_item_sound_with}
use Rattle.om_parser.proofs.ItemSound.{part_item_sound_with, part_sound_with, may_lack, block_items_sound}
use Rattle.om_parser.proofs.ItemSound.{braces_sound_with}

module _ (p : Parts) (l : Limits) (one : 1 ≤ l.nested) (sound : ArePartsSound p l) where
  -- ---- constructs

  sections_sound : (checked : Bool) (room blocks_left : ℕ) (braces : PartsReader) → AreBracesSound l checked room
      blocks_left braces → (d : Directive ExpressionTree) → IsWholeLine l d → is_sections d.name ≡ true
      → (ts us : List Token) (x : StatementTree × List Token) → ts ≡ directive_spelling expression_spelling d ++ us
      → sections_after braces d us ≡ ok x → IsStatementRead l checked (suc room) blocks_left ts x
  unfolding sections_after statement_spelling IsStatement HasForms
  sections_sound checked room blocks_left braces inner d line is ts us x parts h =
      let b = bind_ok (braces us) _ x h in
      let r = inner us b.0 b.1 in
      subst (IsStatementRead l checked (suc room) blocks_left ts) (ok_is _ x b.2) (record {
        parts = after_front ts (directive_spelling expression_spelling d) us (braces_spelling b.0.0) b.0.1 parts
            r.parts;
        good = record {
          good = record {
            formed = (line.formed, is, r.formed.formed);
            room_for = record {
              high = omega (arith, r.formed.high);
              deep = r.formed.deep;
              nested = omega (arith, line.nested, r.formed.nested);
              long = omega (arith, line.long, r.formed.long);
              forms = r.formed.forms;
            };
          };
          body = tt;
        };
        nearest = λ is. absurd cc;
      })

  -- a construct whose statement is read, where it has the forms that are asked
  construct_read : (checked asked : Bool) (room blocks_left : ℕ) (d : Directive ExpressionTree) → IsWholeLine l d
      → IsConstruct d.name → (ts us : List Token) → ts ≡ directive_spelling expression_spelling d ++ us
      → (s : StatementTree × List Token) → IsStatementRead l asked room blocks_left us s → Where (is_atomic d.name)
      ((not checked || has_atomic_form (atomic_kind d) s.0) ≡ true) (HasForms checked s.0) → IsStatementRead l
      checked (suc room) blocks_left ts (Construct d s.0, s.1)
  unfolding statement_spelling IsStatement HasForms
  construct_read checked asked room blocks_left d line name ts us parts s r forms = record {
    parts = after_front ts (directive_spelling expression_spelling d) us (statement_spelling s.0) s.1 parts r.parts;
    good = record {
      good = record {
        formed = (line.formed, name, r.good.good.formed, r.good.body);
        room_for = record {
          high = omega (arith, r.good.good.room_for.high);
          deep = r.good.good.room_for.deep;
          nested = omega (arith, line.nested, r.good.good.room_for.nested);
          long = omega (arith, line.long, r.good.good.room_for.long);
          forms = forms;
        };
      };
      body = tt;
    };
    nearest = r.nearest;
  }

  constructed_sound : (checked : Bool) (room blocks_left : ℕ) (statement : Reader StatementTree) → IsStatementSound
      l checked room blocks_left statement → (d : Directive ExpressionTree) → IsWholeLine l d → IsConstruct d.name
      → is_atomic d.name ≡ false → (ts us : List Token) (x : StatementTree × List Token) → ts ≡ directive_spelling
      expression_spelling d ++ us → constructed_after statement d us ≡ ok x → IsStatementRead l checked (suc room)
      blocks_left ts x
  unfolding constructed_after
  constructed_sound checked room blocks_left statement inner d line name other ts us x parts h =
      let s = bind_ok (statement us) _ x h in
      let r = inner us s.0 s.1 in
      subst (IsStatementRead l checked (suc room) blocks_left ts) (ok_is _ x s.2)
      (construct_read checked checked room blocks_left d line name ts us parts s.0 r
      (subst (λ b. Where b ((not checked || has_atomic_form (atomic_kind d) s.0.0) ≡ true)
      (HasForms checked s.0.0)) (sym other) r.good.good.room_for.forms))

  atomic_sound : (checked : Bool) (room blocks_left : ℕ) (statement : Bool → Reader StatementTree)
      → ((c : Bool) → IsStatementSound l c room blocks_left (statement c)) → (d : Directive ExpressionTree)
      → IsWholeLine l d → IsConstruct d.name → is_atomic d.name ≡ true → (ts us : List Token) (x : StatementTree
      × List Token) → ts ≡ directive_spelling expression_spelling d ++ us → atomic_after checked statement d us
      ≡ ok x → IsStatementRead l checked (suc room) blocks_left ts x
  unfolding atomic_after atomic_of
  atomic_sound checked room blocks_left statement inner d line name atomic ts us x parts h =
      let s = bind_ok (statement false us) _ x h in
      let r = inner false us s.0 s.1 in
      let form = only_where (not checked || has_atomic_form (atomic_kind d) s.0.0) (ok (Construct d s.0.0, s.0.1))
      (bad_atomic d) x s.2 in
      subst (IsStatementRead l checked (suc room) blocks_left ts) (ok_is _ x form.1)
      (construct_read checked false room blocks_left d line name ts us parts s.0 r
      (subst (λ b. Where b ((not checked || has_atomic_form (atomic_kind d) s.0.0) ≡ true)
      (HasForms checked s.0.0)) (sym atomic) form.0))

  construct_after_sound : (checked : Bool) (room blocks_left : ℕ) (statement : Bool → Reader StatementTree)
      → ((c : Bool) → IsStatementSound l c room blocks_left (statement c)) → (braces : PartsReader)
      → AreBracesSound l checked room blocks_left braces → (d : Directive ExpressionTree) → IsWholeLine l d
      → is_stand_alone d.name ≡ false → is_section d.name ≡ false → (ts us : List Token) (x : StatementTree
      × List Token) → ts ≡ directive_spelling expression_spelling d ++ us → construct_after checked statement braces
      d us ≡ ok x → IsStatementRead l checked (suc room) blocks_left ts x
  unfolding construct_after
  construct_after_sound checked room blocks_left statement inner braces sections d line alone section ts us x parts
      h = elim (either_way (is_sections d.name) _ _ (ok x) h) [
        | inl g ↦ sections_sound checked room blocks_left braces sections d line g.0 ts us x parts g.1
        | inr g ↦ elim (either_way (is_atomic d.name) _ _ (ok x) g.1) [
          | inl a ↦ atomic_sound checked room blocks_left statement inner d line (alone, section, g.0) a.0 ts us x parts a.1
          | inr a ↦ constructed_sound checked room blocks_left (statement checked) (inner checked) d line
              (alone, section, g.0) a.0 ts us x parts a.1
        ]
      ]

  construct_sound : (checked : Bool) (room blocks_left : ℕ) (statement : Bool → Reader StatementTree)
      → ((c : Bool) → IsStatementSound l c room blocks_left (statement c)) → (braces : PartsReader)
      → AreBracesSound l checked room blocks_left braces → (ts : List Token) (x : StatementTree × List Token)
      → line_start ts ≡ lines.Construct → construct_at p.line checked statement braces ts ≡ ok x → IsStatementRead l
      checked (suc room) blocks_left ts x
  unfolding construct_at
  construct_sound checked room blocks_left statement inner braces sections ts x is h =
      let d = bind_ok (p.line ts) _ x h in
      let line = sound.line ts d.0 d.1 in
      let name = construct_named ts d.0.0 d.0.1 is line.parts in
      construct_after_sound checked room blocks_left statement inner braces sections d.0.0 line.formed name.0 name.1
      ts d.0.1 x line.parts d.2

  line_of_sound : (checked : Bool) (room blocks_left : ℕ) (statement : Bool → Reader StatementTree)
      → ((c : Bool) → IsStatementSound l c room blocks_left (statement c)) → (braces : PartsReader)
      → AreBracesSound l checked room blocks_left braces → (start : LineStart) (ts : List Token) (x : StatementTree
      × List Token) → line_start ts ≡ start → line_of p.line checked statement braces start ts ≡ ok x
      → IsStatementRead l checked (suc room) blocks_left ts x
  unfolding line_of misplaced unknown_line
  line_of_sound checked room blocks_left statement inner braces sections lines.Construct ts x is h = construct_sound
      checked room blocks_left statement inner braces sections ts x is h
  line_of_sound checked room blocks_left statement inner braces sections lines.Unknown ts x is h = let d = bind_ok
      (p.line ts) _ x h in absurd cc
  line_of_sound checked room blocks_left statement inner braces sections _ ts x is h = absurd cc

  -- ---- statements

  block_sound_with : (checked : Bool) (room : ℕ) (statement : ℕ → Reader StatementTree) → (AreSound p l one sound)
      checked room statement → (blocks_left : ℕ) (at : Span) (ts : List Token) (x : StatementTree × List Token)
      → block_after p statement blocks_left at ts ≡ ok x → IsStatementRead l checked (suc room) blocks_left
      (mark punctuators.OpenBrace at ∷ ts) x
  unfolding block_after statement_spelling IsStatement HasForms
  block_sound_with checked room statement inner blocks_left at ts x h =
      let r = bind_ok (block_items_after p statement blocks_left at ts) _ x h in
      let items = (block_items_sound p l one sound) checked room statement inner blocks_left at ts r.0 r.1 in
      subst (IsStatementRead l checked (suc room) blocks_left (mark punctuators.OpenBrace at ∷ ts)) (ok_is _ x r.2)
      (record {
        parts = ap (λ w. mark punctuators.OpenBrace at ∷ w) items.parts;
        good = record {
          good = record {
            formed = items.formed;
            room_for = record {
              high = omega (arith, items.high);
              deep = items.deep;
              nested = items.nested;
              long = items.long;
              forms = items.forms;
            };
          };
          body = tt;
        };
        nearest = λ is. absurd cc;
      })

  simple_good : (checked : Bool) (room blocks_left : ℕ) (s : StatementTree) → IsStatement s → IsBody s → height s
      ≡ 1 → blocks s ≡ 0 → brackets s ≤ l.nested → longest s ≤ l.tokens → HasForms checked s → IsGoodBody l checked
      (suc room) blocks_left s
  simple_good checked room blocks_left s formed body high deep nested long forms = record {
    good = record {
      formed = formed;
      room_for = record {
        high = omega (arith, high);
        deep = omega (arith, deep);
        nested = nested;
        long = long;
        forms = forms;
      };
    };
    body = body;
  }

  return_sound : (checked : Bool) (room blocks_left : ℕ) (at : Span) (ts : List Token) (x : StatementTree
      × List Token) → return_after p at ts ≡ ok x → IsStatementRead l checked (suc room) blocks_left
      (word keywords.Return at ∷ ts) x
  unfolding return_after statement_spelling IsStatement HasForms
  return_sound checked room blocks_left at ts x h =
      let e = bind_ok (optional_before punctuators.Semicolon p.expression ts) _ x h in
      let r = (optional_sound p l one sound) 0 punctuators.Semicolon p.expression (omega arith) sound.expression ts
      e.0 e.1 in
      subst (IsStatementRead l checked (suc room) blocks_left (word keywords.Return at ∷ ts)) (ok_is _ x e.2) (record {
        parts = ap (λ w. word keywords.Return at ∷ w) r.parts;
        good = simple_good checked room blocks_left (Return at e.0.0.0 e.0.0.1) r.formed.formed tt refl refl
            (omega (arith, r.formed.nested)) r.formed.long tt;
        nearest = λ is. absurd cc;
      })

  expression_sound : (checked : Bool) (room blocks_left : ℕ) (ts : List Token) (x : StatementTree × List Token)
      → expression_statement_at p ts ≡ ok x → IsStatementRead l checked (suc room) blocks_left ts x
  unfolding expression_statement_at statement_spelling IsStatement HasForms
  expression_sound checked room blocks_left ts x h =
      let e = bind_ok (p.expression ts) _ x h in
      let s = bind_ok (mark_at punctuators.Semicolon e.0.1) _ x e.2 in
      let r = sound.expression ts e.0 e.1 in
      subst (IsStatementRead l checked (suc room) blocks_left ts) (ok_is _ x s.2) (record {
        parts = after_front ts (expression_spelling e.0.0) e.0.1 (mark punctuators.Semicolon s.0.0 ∷ []) s.0.1
            r.parts (mark_at_is punctuators.Semicolon e.0.1 s.0 s.1);
        good = simple_good checked room blocks_left (Expression e.0.0 s.0.0) r.formed.formed tt refl refl
            (omega (arith, r.formed.nested)) r.formed.long tt;
        nearest = λ is. absurd cc;
      })

  break_sound : (checked : Bool) (room blocks_left : ℕ) (at : Span) (ts : List Token) (x : StatementTree
      × List Token) → jump_after (Break at) ts ≡ ok x → IsStatementRead l checked (suc room) blocks_left
      (word keywords.Break at ∷ ts) x
  unfolding jump_after statement_spelling IsStatement HasForms
  break_sound checked room blocks_left at ts x h =
      let s = bind_ok (mark_at punctuators.Semicolon ts) _ x h in
      subst (IsStatementRead l checked (suc room) blocks_left (word keywords.Break at ∷ ts)) (ok_is _ x s.2) (record {
        parts = ap (λ w. word keywords.Break at ∷ w) (mark_at_is punctuators.Semicolon ts s.0 s.1);
        good = simple_good checked room blocks_left (Break at s.0.0) tt tt refl refl (omega arith) (omega arith) tt;
        nearest = λ is. absurd cc;
      })

  continue_sound : (checked : Bool) (room blocks_left : ℕ) (at : Span) (ts : List Token) (x : StatementTree
      × List Token) → jump_after (Continue at) ts ≡ ok x → IsStatementRead l checked (suc room) blocks_left
      (word keywords.Continue at ∷ ts) x
  unfolding jump_after statement_spelling IsStatement HasForms
  continue_sound checked room blocks_left at ts x h =
      let s = bind_ok (mark_at punctuators.Semicolon ts) _ x h in
      subst (IsStatementRead l checked (suc room) blocks_left (word keywords.Continue at ∷ ts)) (ok_is _ x s.2)
      (record {
        parts = ap (λ w. word keywords.Continue at ∷ w) (mark_at_is punctuators.Semicolon ts s.0 s.1);
        good = simple_good checked room blocks_left (Continue at s.0.0) tt tt refl refl (omega arith) (omega arith) tt;
        nearest = λ is. absurd cc;
      })

  empty_sound : (checked : Bool) (room blocks_left : ℕ) (at : Span) (ts : List Token) (x : StatementTree
      × List Token) → ok (Empty at, ts) ≡ ok x → IsStatementRead l checked (suc room) blocks_left
      (mark punctuators.Semicolon at ∷ ts) x
  unfolding statement_spelling IsStatement HasForms
  empty_sound checked room blocks_left at ts x h = subst (IsStatementRead l checked (suc room) blocks_left
      (mark punctuators.Semicolon at ∷ ts)) (ok_is _ x h) (record {
        parts = refl;
        good = simple_good checked room blocks_left (Empty at) tt tt refl refl (omega arith) (omega arith) tt;
        nearest = λ is. absurd cc;
      })

  -- a statement of a start whose first token is that of the start
  statement_of_sound : (checked : Bool) (room : ℕ) (statement : Bool → ℕ → Reader StatementTree)
      → ((c : Bool) → (AreSound p l one sound) c room (statement c)) → (braces : ℕ → PartsReader)
      → ((k : ℕ) → AreBracesSound l checked room k (braces k)) → (blocks_left : ℕ) (start : Start) (k : TokenKind)
      (at : Span) (ts : List Token) (x : StatementTree × List Token) → IsOf start k → statement_of p checked
      statement braces blocks_left start at ts (token k at ∷ ts) ≡ ok x → IsStatementRead l checked (suc room)
      blocks_left (token k at ∷ ts) x
  unfolding statement_of simple_of
  statement_of_sound checked room statement inner braces sections blocks_left starts.Block k at ts x is h = subst
      (λ j. IsStatementRead l checked (suc room) blocks_left (token j at ∷ ts) x) (sym is)
      (block_sound_with checked room (statement checked) (inner checked) blocks_left at ts x h)
  statement_of_sound checked room statement inner braces sections blocks_left starts.Empty k at ts x is h = subst
      (λ j. IsStatementRead l checked (suc room) blocks_left (token j at ∷ ts) x) (sym is)
      (empty_sound checked room blocks_left at ts x h)
  statement_of_sound checked room statement inner braces sections blocks_left starts.If k at ts x is h = subst
      (λ j. IsStatementRead l checked (suc room) blocks_left (token j at ∷ ts) x) (sym is)
      ((headed_sound p l one sound) checked room blocks_left (statement checked blocks_left)
      (inner checked blocks_left) starts.If at ts x h)
  statement_of_sound checked room statement inner braces sections blocks_left starts.While k at ts x is h = subst
      (λ j. IsStatementRead l checked (suc room) blocks_left (token j at ∷ ts) x) (sym is)
      ((headed_sound p l one sound) checked room blocks_left (statement checked blocks_left)
      (inner checked blocks_left) starts.While at ts x h)
  statement_of_sound checked room statement inner braces sections blocks_left starts.Do k at ts x is h = subst
      (λ j. IsStatementRead l checked (suc room) blocks_left (token j at ∷ ts) x) (sym is)
      ((do_sound p l one sound) checked room blocks_left (statement checked blocks_left) (inner checked blocks_left)
      at ts x h)
  statement_of_sound checked room statement inner braces sections blocks_left starts.For k at ts x is h = subst
      (λ j. IsStatementRead l checked (suc room) blocks_left (token j at ∷ ts) x) (sym is)
      ((headed_sound p l one sound) checked room blocks_left (statement checked blocks_left)
      (inner checked blocks_left) starts.For at ts x h)
  statement_of_sound checked room statement inner braces sections blocks_left starts.Return k at ts x is h = subst
      (λ j. IsStatementRead l checked (suc room) blocks_left (token j at ∷ ts) x) (sym is)
      (return_sound checked room blocks_left at ts x h)
  statement_of_sound checked room statement inner braces sections blocks_left starts.Break k at ts x is h = subst
      (λ j. IsStatementRead l checked (suc room) blocks_left (token j at ∷ ts) x) (sym is)
      (break_sound checked room blocks_left at ts x h)
  statement_of_sound checked room statement inner braces sections blocks_left starts.Continue k at ts x is h = subst
      (λ j. IsStatementRead l checked (suc room) blocks_left (token j at ∷ ts) x) (sym is)
      (continue_sound checked room blocks_left at ts x h)
  statement_of_sound checked room statement inner braces sections blocks_left starts.Directive k at ts x is h =
      line_of_sound checked room blocks_left (λ c. statement c blocks_left) (λ c. inner c blocks_left)
      (braces blocks_left) (sections blocks_left) (line_start (token k at ∷ ts)) (token k at ∷ ts) x refl h
  statement_of_sound checked room statement inner braces sections blocks_left starts.Expression k at ts x is h =
      expression_sound checked room blocks_left (token k at ∷ ts) x h
  statement_of_sound checked room statement inner braces sections blocks_left starts.Nothing k at ts x is h = absurd cc

  no_room_sound : (start : Start) (s : Span) (ts : List Token) (x : StatementTree × List Token) → no_room start s ts
      ≡ ok x → ⊥
  unfolding no_room
  no_room_sound starts.Nothing s ts x h = absurd cc
  no_room_sound _ s ts x h = absurd cc

  mutual
    unfolding statement_at

    pub statement_sound : (checked : Bool) (room blocks_left : ℕ) → IsStatementSound l checked room blocks_left
        (statement_at p checked room blocks_left)
    statement_sound checked zero blocks_left [] x h = absurd cc
    statement_sound checked zero blocks_left (t ∷ ts) x h = absurd (no_room_sound (start_of t.kind) t.span (t ∷ ts) x h)
    statement_sound checked (suc room) blocks_left [] x h = absurd cc
    statement_sound checked (suc room) blocks_left (t ∷ ts) x h = statement_of_sound checked room
        (λ c. statement_at p c room) (λ c b. statement_sound c room b) (parts_at p checked room)
        (λ b. braces_sound checked room b) blocks_left (start_of t.kind) t.kind t.span ts x (is_of_start t.kind) h

    pub braces_sound : (checked : Bool) (room blocks_left : ℕ) → AreBracesSound l checked room blocks_left
        (parts_at p checked room blocks_left)
    braces_sound checked zero blocks_left ts x h = let o = bind_ok (mark_at punctuators.OpenBrace ts) _ x h in absurd cc
    braces_sound checked (suc room) blocks_left ts x h =
        let o = bind_ok (mark_at punctuators.OpenBrace ts) _ x h in
        subst (λ w. IsRead braces_spelling (AreGoodBraces l checked (suc room) blocks_left) w x)
        (sym (mark_at_is punctuators.OpenBrace ts o.0 o.1)) ((braces_sound_with p l one sound) checked room
        (statement_at p checked room) (λ b. statement_sound checked room b) blocks_left o.0.0 o.0.1 x o.2)

  pub block_item_sound : (checked : Bool) (room blocks_left : ℕ) → IsSound statement_spelling
      (IsGood l checked room blocks_left) (block_item_at p (statement_at p checked room blocks_left))
  block_item_sound checked room blocks_left = (block_item_sound_with p l one sound) checked room blocks_left
      (statement_at p checked room blocks_left) (statement_sound checked room blocks_left)

  pub part_item_sound : (checked : Bool) (room blocks_left : ℕ) → IsSound statement_spelling
      (IsGoodPartItem l checked room blocks_left) (part_item_at p.line (statement_at p checked room blocks_left))
  part_item_sound checked room blocks_left = (part_item_sound_with p l one sound) checked room blocks_left
      (statement_at p checked room blocks_left) (statement_sound checked room blocks_left)

  pub part_sound : (checked : Bool) (room blocks_left : ℕ) → IsSound part_spelling
      (IsGoodPart IsOptionalSection l checked room blocks_left)
      (part_at p.line (statement_at p checked room blocks_left))
  part_sound checked room blocks_left ts x h = (part_sound_with p l one sound) checked room blocks_left
      (statement_at p checked room blocks_left) (statement_sound checked room blocks_left) IsOptionalSection ts x
      ((may_lack p l one sound) ts) h

  pub function_block_sound : (room blocks_left : ℕ) → IsSound block_spelling (IsGoodBlock l room blocks_left)
      (block_with p l.checked room blocks_left)
  unfolding block_with block_spelling
  function_block_sound room blocks_left ts x h =
      let o = bind_ok (mark_at punctuators.OpenBrace ts) _ x h in
      let r = bind_ok (block_items_after p (statement_at p l.checked room) blocks_left o.0.0 o.0.1) _ x o.2 in
      let items = (block_items_sound p l one sound) l.checked room (statement_at p l.checked room)
      (statement_sound l.checked room) blocks_left o.0.0 o.0.1 r.0 r.1 in
      subst (IsRead block_spelling (IsGoodBlock l room blocks_left) ts) (ok_is _ x r.2) (record {
        parts = after_token (mark punctuators.OpenBrace o.0.0) ts o.0.1 (flat_map statement_spelling r.0.0
            ++ mark punctuators.CloseBrace r.0.1 ∷ []) r.0.2 (mark_at_is punctuators.OpenBrace ts o.0 o.1)
            (items.parts ∙ ap (λ w. (w ++ mark punctuators.CloseBrace r.0.1 ∷ []) ++ r.0.2) (statements_flat r.0.0));
        formed = record {
          formed = items.formed;
          room_for = record {
            high = items.high;
            deep = items.deep;
            nested = items.nested;
            long = items.long;
          };
          forms = items.forms;
        };
      })
