-- Where a unit is refused by another code than that of syntax: at a limit its tokens up to there begin a
-- well-formed one.
use Rattle.std.proofs.Common.{◌≡◌, ◌≤◌, ℕ, zero, suc, List, [], ◌∷◌, ◌++◌, length, Option, Err, sym, ap, subst, ◌∙◌}
use Rattle.std.proofs.Common.{refl, inl, inr, All}
use Rattle.std.specs.List.{flat_map}
use Rattle.std.proofs.lemmas.List.{append-nil}
use Rattle.std.proofs.lemmas.List.Elements.{All-nil, All-cons}
use Rattle.om_lexer.specs.declared.fault.SourceFault.{SourceFault}
use Rattle.om_lexer.specs.declared.token.Keyword.TheVariants as keywords
use Rattle.om_lexer.specs.declared.token.Punctuator.TheVariants as punctuators
use Rattle.om_lexer.specs.declared.token.Span.{Span}
use Rattle.om_lexer.specs.declared.token.Token.{Token}
use Rattle.om_lexer.specs.declared.token.TokenKind.TheVariants as kinds
use Rattle.om_pragma.specs.declared.clause.Name as names
use Rattle.om_parser_tree.specs.declared.tree.ResultType.{ResultType}
use Rattle.om_parser_tree.specs.declared.tree.ResultType.TheVariants as results
use Rattle.om_parser.specs.BlockFaults.{IsStopped}
use Rattle.om_parser_tree.specs.Formed.{IsFunction, IsItem, IsUnit}
use Rattle.om_parser.specs.FunctionReading.{head_after, named_head}
use Rattle.om_parser_tree.specs.Limits.{Limits}
use Rattle.om_parser_parts.specs.PartReading.{global_at}
use Rattle.om_parser.proofs.Given.{ReadingLaws}
use Rattle.om_parser.specs.StatementReading.{block_at}
use Rattle.om_parser_tree.specs.Places.{IsOverInItem, IsOverInUnitItems, IsOverInUnit}
use Rattle.om_parser_parts.specs.Reading.{take_mark, take_word, mark_at, word_at, name_at}
use Rattle.om_parser_parts.specs.Repetition.{until}
use Rattle.om_parser_tree.specs.Spelling.{token, mark, word, name, result_spelling, block_spelling, definition_spelling}
use Rattle.om_parser_tree.specs.Spelling.{item_spelling, prototype_spelling, unit_spelling}
use Rattle.om_parser_tree.specs.Tree.{HeadTree, Function}
use Rattle.om_parser.specs.UnitReading.{function_after, prototype_after, void_after, int_after, item_at, take_end}
use Rattle.om_parser.specs.UnitReading.{unit_at}
use Rattle.om_parser_parts.specs.Outcomes.{bind_err, choose_cases}
use Rattle.om_parser_parts.specs.Taken.{take_mark_is, take_word_is, mark_at_is, word_at_is, name_at_is}
use Rattle.om_parser.proofs.FunctionSound.{head_sound, named_head_is}
use Rattle.om_parser.proofs.UnitSound.{item_sound}
use Rattle.om_parser_parts.specs.Laws.{Stops}
use Rattle.om_parser.specs.Stopped.{IsPlain, syntax_plain, known_plain, bind_plain, within_larger}
use Rattle.om_parser.proofs.FunctionPlain.{head_plain, named_head_plain}

module _ (laws : ReadingLaws) (l : Limits) (one : 1 ≤ l.nested) where
  abbrev IsItemCut : List Token → SourceFault → Type 0
  IsItemCut ts f = IsStopped item_spelling IsItem (IsOverInItem l) l ts f

  function_cut : (h : HeadTree (Option names.Name)) (ts : List Token) (f : SourceFault)
      → function_after l h ts ≡ Err f → Stops f → IsItemCut (prototype_spelling h ++ ts) f
  unfolding function_after item_spelling IsItem IsFunction
  function_cut h ts f e stops = elim (choose_cases (take_mark punctuators.Semicolon ts) _ _ (Err f) e) [
    | inl (s, taken, no_err) ↦ absurd cc
    | inr (none, g) ↦ elim (bind_err (named_head ts h) _ f g) [
      | inl wrong ↦ absurd (named_head_plain ts h f wrong stops)
      | inr (k, named, u) ↦ elim (bind_err (block_at l ts) _ f u) [
        | inr (b, read, no_err) ↦ absurd cc
        | inl d ↦ within_larger item_spelling IsItem (IsOverInItem l) (definition_spelling k) []
            (λ b. Function (record { head = k; body = b })) (prototype_spelling h ++ ts) ts f
            (λ b is. is) (λ b. ap (λ w. definition_spelling k ++ w) (sym (append-nil (block_spelling b))))
            (λ b before t over. (before, refl, over)) (ap (λ w. w ++ ts) (named_head_is ts h k named))
            (laws.stop l one ts f d stops)
      ]
    ]
  ]

  prototype_cut : (result : ResultType) (n : names.Name) (left : Span) (ts : List Token) (f : SourceFault)
      → prototype_after l result n left ts ≡ Err f → Stops f → IsItemCut (result_spelling result ∷ name n
      ∷ mark punctuators.OpenParen left ∷ ts) f
  unfolding prototype_after
  prototype_cut result n left ts f e stops = elim (bind_err (head_after result n left ts) _ f e) [
    | inl wrong ↦ absurd (head_plain result n left ts f wrong stops)
    | inr (h, read, g) ↦ subst (λ w. IsItemCut w f) (sym (head_sound result n left ts h read))
        (function_cut h.0 h.1 f g stops)
  ]

  void_cut : (void : Span) (ts : List Token) (f : SourceFault) → void_after l void ts ≡ Err f → Stops f
      → IsItemCut (word keywords.Void void ∷ ts) f
  unfolding void_after name_at mark_at
  void_cut void ts f e stops = elim (bind_err (name_at ts) _ f e) [
    | inl wrong ↦ absurd (known_plain ts _ f wrong stops)
    | inr (n, named, g) ↦ elim (bind_err (mark_at punctuators.OpenParen n.1) _ f g) [
      | inl wrong ↦ absurd (known_plain n.1 _ f wrong stops)
      | inr (p, taken, k) ↦
          let front : ts ≡ name n.0 ∷ mark punctuators.OpenParen p.0 ∷ p.1 = name_at_is ts n named
          ∙ ap (λ w. name n.0 ∷ w) (mark_at_is punctuators.OpenParen n.1 p taken) in
          subst (λ w. IsItemCut (word keywords.Void void ∷ w) f) (sym front) (prototype_cut (results.Void void) n.0
          p.0 p.1 f k stops)
    ]
  ]

  global_plain : (int : Span) (n : names.Name) (ts : List Token) → IsPlain (global_at int n ts)
  global_plain int n ts f h stops = stops (laws.globals_stop int n ts f h)

  int_cut : (int : Span) (ts : List Token) (f : SourceFault) → int_after l int ts ≡ Err f → Stops f
      → IsItemCut (word keywords.Int int ∷ ts) f
  unfolding int_after name_at
  int_cut int ts f e stops = elim (bind_err (name_at ts) _ f e) [
    | inl wrong ↦ absurd (known_plain ts _ f wrong stops)
    | inr (n, named, g) ↦ elim (choose_cases (take_mark punctuators.OpenParen n.1) _ _ (Err f) g) [
      | inl (p, taken, k) ↦
          let front : ts ≡ name n.0 ∷ mark punctuators.OpenParen p.0 ∷ p.1 = name_at_is ts n named
          ∙ ap (λ w. name n.0 ∷ w) (take_mark_is punctuators.OpenParen n.1 p.0 p.1 taken) in
          subst (λ w. IsItemCut (word keywords.Int int ∷ w) f) (sym front) (prototype_cut (results.Int int) n.0 p.0
          p.1 f k stops)
      | inr (none, k) ↦ absurd (bind_plain (global_at int n.0 n.1) _ (global_plain int n.0 n.1)
          (λ d f h stops. absurd cc) f k stops)
    ]
  ]

  item_cut : (ts : List Token) (f : SourceFault) → item_at l ts ≡ Err f → Stops f → IsItemCut ts f
  unfolding item_at word_at
  item_cut ts f h stops = elim (choose_cases (take_word keywords.Void ts) _ _ (Err f) h) [
    | inl (v, taken, g) ↦ subst (λ w. IsItemCut w f) (sym (take_word_is keywords.Void ts v.0 v.1 taken))
        (void_cut v.0 v.1 f g stops)
    | inr (none, g) ↦ elim (bind_err (word_at keywords.Int ts) _ f g) [
      | inl wrong ↦ absurd (known_plain ts _ f wrong stops)
      | inr (i, int, k) ↦ subst (λ w. IsItemCut w f) (sym (word_at_is keywords.Int ts i int))
          (int_cut i.0 i.1 f k stops)
    ]
  ]

  abbrev AreItemsCut : List Token → SourceFault → Type 0
  AreItemsCut ts f = IsStopped (flat_map item_spelling) (All IsItem) (IsOverInUnitItems l) l ts f

  one_item : (ts : List Token) (f : SourceFault) → IsItemCut ts f → AreItemsCut ts f
  one_item ts f c = within_larger (flat_map item_spelling) (All IsItem) (IsOverInUnitItems l) [] [] (λ i. i ∷ []) ts
      ts f (λ i is. All-cons IsItem i [] is (All-nil IsItem)) (λ i. refl) (λ i before t over. inl over) refl c

  items_cut : (k : ℕ) (ts : List Token) (f : SourceFault) → until take_end (item_at l) k ts ≡ Err f → Stops f
      → AreItemsCut ts f
  unfolding until
  items_cut zero ts f h stops = elim (bind_err (item_at l ts) _ f h) [
    | inl fails ↦ one_item ts f (item_cut ts f fails stops)
    | inr (a, reads, e) ↦ absurd (syntax_plain ts f e stops)
  ]
  items_cut (suc k) ts f h stops = elim (choose_cases (take_end ts) _ _ (Err f) h) [
    | inl (e, ends, no_err) ↦ absurd cc
    | inr (none, g) ↦ elim (bind_err (item_at l ts) _ f g) [
      | inl fails ↦ one_item ts f (item_cut ts f fails stops)
      | inr (a, reads, e) ↦ elim (bind_err (until take_end (item_at l) k a.1) _ f e) [
        | inr (b, read, no_err) ↦ absurd cc
        | inl fails ↦
            let first = item_sound laws.sound laws.globals_sound l one ts a reads in
            within_larger (flat_map item_spelling) (All IsItem) (IsOverInUnitItems l) (item_spelling a.0) []
            (λ items. a.0 ∷ items) ts a.1 f (λ items is. All-cons IsItem a.0 items first.formed.0 is)
            (λ items. ap (λ w. item_spelling a.0 ++ w) (sym (append-nil (flat_map item_spelling items))))
            (λ items before t over. inr (before, refl, over)) first.parts (items_cut k a.1 f fails stops)
      ]
    ]
  ]

  pub unit_cut : (ts : List Token) (f : SourceFault) → unit_at l ts ≡ Err f → Stops f → IsStopped unit_spelling
      IsUnit (IsOverInUnit l) l ts f
  unfolding unit_at unit_spelling IsUnit
  unit_cut ts f h stops = elim (bind_err (until take_end (item_at l) (length ts) ts) _ f h) [
    | inr (u, read, no_err) ↦ absurd cc
    | inl e ↦
        let filler : Span = record { start = 0; end = 0; line = 0 } in
        within_larger unit_spelling IsUnit (IsOverInUnit l) [] (token kinds.End filler ∷ [])
        (λ items. record { items = items; end = filler }) ts ts f (λ items is. is) (λ items. refl)
        (λ items before t over. over) refl (items_cut (length ts) ts f e stops)
  ]
