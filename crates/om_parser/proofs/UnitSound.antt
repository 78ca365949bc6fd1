-- A unit that is read is well-formed, within the limits, and spelled as the tokens were.
use Rattle.std.proofs.Common.{◌≡◌, ◌<◌, ◌≤◌, ℕ, zero, suc, List, [], ◌∷◌, ◌++◌, length, Option, refl, sym, ap, subst}
use Rattle.std.proofs.Common.{◌∙◌, arith, length-append, inl, inr, All}
use Rattle.std.specs.List.{flat_map}
use Rattle.std.proofs.lemmas.List.{append-nil}
use Rattle.std.proofs.lemmas.List.Elements.{All-weaker}
use Rattle.om_lexer.specs.declared.token.Keyword.TheVariants as keywords
use Rattle.om_lexer.specs.declared.token.Punctuator.TheVariants as punctuators
use Rattle.om_lexer.specs.declared.token.Span.{Span}
use Rattle.om_lexer.specs.declared.token.Token.{Token}
use Rattle.om_lexer.specs.declared.token.TokenKind.{TokenKind}
use Rattle.om_lexer.specs.declared.token.TokenKind.TheVariants as kinds
use Rattle.om_pragma.specs.declared.clause.Name as names
use Rattle.om_parser_tree.specs.declared.tree.ResultType.{ResultType}
use Rattle.om_parser_tree.specs.declared.tree.ResultType.TheVariants as results
use Rattle.om_parser_tree.specs.Formed.{IsFunction, IsItem, IsUnit}
use Rattle.om_parser.specs.FunctionReading.{head_after, named_head}
use Rattle.om_parser_tree.specs.Limits.{Limits}
use Rattle.om_parser_parts.specs.Reading.{Reader, take_mark, take_word, mark_at, word_at, name_at}
use Rattle.om_parser_parts.specs.Repetition.{until}
use Rattle.om_parser_tree.specs.Spelling.{token, mark, word, name, result_spelling, block_spelling, declaration_spelling}
use Rattle.om_parser_tree.specs.Spelling.{definition_spelling, given_name, head_spelling, item_spelling, perhaps}
use Rattle.om_parser_tree.specs.Spelling.{prototype_spelling, unit_spelling}
use Rattle.om_parser_parts.specs.PartReading.{global_at}
use Rattle.om_parser.specs.StatementReading.{block_at}
use Rattle.om_parser_tree.specs.Tree.{HeadTree, ItemTree, Declaration, Prototype, Function, UnitTree}
use Rattle.om_parser.specs.UnitReading.{function_after, prototype_after, void_after, int_after, item_at, end_of}
use Rattle.om_parser.specs.UnitReading.{take_end, unit_at}
use Rattle.om_parser_parts.specs.Outcomes.{ok, ok_is, some, some_is, bind_ok, choose_cases, after_front}
use Rattle.om_parser_parts.specs.Taken.{take_mark_is, take_word_is, mark_at_is, word_at_is, name_at_is}
use Rattle.om_parser_parts.specs.Laws.{IsRead, IsSound, GlobalsAreSound}
use Rattle.om_parser.specs.Laws.{BlocksAreSound}
use Rattle.om_parser_parts.specs.ItemsSound.{until_sound}
use Rattle.om_parser.proofs.Forms.{IsKeptItem}
use Rattle.om_parser.proofs.FunctionSound.{head_sound, named_head_is}

pub take_end_is : (ts : List Token) (s : Span) (us : List Token) → take_end ts ≡ some (s, us)
    → (ts ≡ token kinds.End s ∷ us) × (us ≡ [])
unfolding take_end
take_end_is [] s us e = absurd cc
take_end_is (t ∷ []) s us e = go t.kind e
  where
    go : (k : TokenKind) → end_of (token k t.span) [] ≡ some (s, us) → (token k t.span ∷ [] ≡ token kinds.End s
        ∷ us) × (us ≡ [])
    go kinds.End h = let p = some_is (t.span, []) (s, us) h in (
      ap (λ y. token kinds.End y.0 ∷ y.1) p,
      sym (ap (λ y. y.1) p),
    )
    go _ h = absurd cc
take_end_is (t ∷ u ∷ ts) s us e = absurd cc

-- nothing stands behind the end of the source
until_end : (item : Reader ItemTree) (k : ℕ) (ts : List Token) (x : List ItemTree × Span × List Token)
    → until take_end item k ts ≡ ok x → x.2 ≡ []
unfolding until
until_end item zero ts x h = let a = bind_ok (item ts) _ x h in absurd cc
until_end item (suc k) ts x h = elim (choose_cases (take_end ts) _ _ (ok x) h) [
  | inl g ↦ sym (ap (λ y. y.2) (ok_is ([], g.0.0, g.0.1) x g.2)) ∙ (take_end_is ts g.0.0 g.0.1 g.1).1
  | inr g ↦
      let a = bind_ok (item ts) _ x g.1 in
      let b = bind_ok (until take_end item k a.0.1) _ x a.2 in
      sym (ap (λ y. y.2) (ok_is (a.0.0 ∷ b.0.0, b.0.1, b.0.2) x b.2)) ∙ until_end item k a.0.1 b.0 b.1
]

module _ (sound : BlocksAreSound) (globals : GlobalsAreSound) (l : Limits) (one : 1 ≤ l.nested) where
  abbrev pub IsGoodItem : ItemTree → Type 0
  IsGoodItem i = IsItem i × IsKeptItem l i

  function_sound : (h : HeadTree (Option names.Name)) (ts : List Token) (x : ItemTree × List Token)
      → function_after l h ts ≡ ok x → IsRead item_spelling IsGoodItem (prototype_spelling h ++ ts) x
  unfolding function_after item_spelling IsItem IsFunction
  function_sound h ts x e = elim (choose_cases (take_mark punctuators.Semicolon ts) _ _ (ok x) e) [
    | inl s ↦ subst (IsRead item_spelling IsGoodItem (prototype_spelling h ++ ts))
        (ok_is (Prototype h s.0.0, s.0.1) x s.2) (record {
          parts = after_front (prototype_spelling h ++ ts) (prototype_spelling h) ts
              (mark punctuators.Semicolon s.0.0 ∷ []) s.0.1 refl
              (take_mark_is punctuators.Semicolon ts s.0.0 s.0.1 s.1);
          formed = (tt, (tt, tt));
        })
    | inr g ↦
        let named = bind_ok (named_head ts h) _ x g.1 in
        let b = bind_ok (block_at l ts) _ x named.2 in
        let body = sound l one ts b.0 b.1 in
        subst (IsRead item_spelling IsGoodItem (prototype_spelling h ++ ts))
        (ok_is (Function (record { head = named.0; body = b.0.0 }), b.0.1) x b.2) (record {
          parts = ap (λ w. w ++ ts) (named_head_is ts h named.0 named.1)
              ∙ after_front (definition_spelling named.0 ++ ts) (definition_spelling named.0) ts
              (block_spelling b.0.0) b.0.1 refl body.parts;
          formed = (body.formed.formed, (body.formed.room_for, body.formed.forms));
        })
  ]

  prototype_sound : (result : ResultType) (n : names.Name) (left : Span) (ts : List Token)
      (x : ItemTree × List Token) → prototype_after l result n left ts ≡ ok x → IsRead item_spelling IsGoodItem
      (result_spelling result ∷ name n ∷ mark punctuators.OpenParen left ∷ ts) x
  unfolding prototype_after
  prototype_sound result n left ts x e =
      let h = bind_ok (head_after result n left ts) _ x e in
      subst (λ w. IsRead item_spelling IsGoodItem w x) (sym (head_sound result n left ts h.0 h.1))
      (function_sound h.0.0 h.0.1 x h.2)

  void_sound : (void : Span) (ts : List Token) (x : ItemTree × List Token) → void_after l void ts ≡ ok x
      → IsRead item_spelling IsGoodItem (word keywords.Void void ∷ ts) x
  unfolding void_after
  void_sound void ts x e =
      let n = bind_ok (name_at ts) _ x e in
      let p = bind_ok (mark_at punctuators.OpenParen n.0.1) _ x n.2 in
      let front : ts ≡ name n.0.0 ∷ mark punctuators.OpenParen p.0.0 ∷ p.0.1 = name_at_is ts n.0 n.1
      ∙ ap (λ w. name n.0.0 ∷ w) (mark_at_is punctuators.OpenParen n.0.1 p.0 p.1) in
      subst (λ w. IsRead item_spelling IsGoodItem (word keywords.Void void ∷ w) x) (sym front)
      (prototype_sound (results.Void void) n.0.0 p.0.0 p.0.1 x p.2)

  int_sound : (int : Span) (ts : List Token) (x : ItemTree × List Token) → int_after l int ts ≡ ok x
      → IsRead item_spelling IsGoodItem (word keywords.Int int ∷ ts) x
  unfolding int_after item_spelling IsItem
  int_sound int ts x e =
      let n = bind_ok (name_at ts) _ x e in
      subst (λ w. IsRead item_spelling IsGoodItem (word keywords.Int int ∷ w) x) (sym (name_at_is ts n.0 n.1))
      (elim (choose_cases (take_mark punctuators.OpenParen n.0.1) _ _ (ok x) n.2) [
        | inl p ↦ subst (λ w. IsRead item_spelling IsGoodItem (word keywords.Int int ∷ name n.0.0 ∷ w) x)
            (sym (take_mark_is punctuators.OpenParen n.0.1 p.0.0 p.0.1 p.1)) (prototype_sound (results.Int int)
            n.0.0 p.0.0 p.0.1 x p.2)
        | inr g ↦
            let d = bind_ok (global_at int n.0.0 n.0.1) _ x g.1 in
            let r = globals int n.0.0 n.0.1 d.0 d.1 in
            subst (IsRead item_spelling IsGoodItem (word keywords.Int int ∷ name n.0.0 ∷ n.0.1))
            (ok_is (Declaration d.0.0, d.0.1) x d.2) (record { parts = r.parts; formed = (r.formed, (tt, tt)) })
      ])

  pub item_sound : IsSound item_spelling IsGoodItem (item_at l)
  unfolding item_at
  item_sound ts x h = elim (choose_cases (take_word keywords.Void ts) _ _ (ok x) h) [
    | inl v ↦ subst (λ w. IsRead item_spelling IsGoodItem w x) (sym (take_word_is keywords.Void ts v.0.0 v.0.1 v.1))
        (void_sound v.0.0 v.0.1 x v.2)
    | inr g ↦
        let i = bind_ok (word_at keywords.Int ts) _ x g.1 in
        subst (λ w. IsRead item_spelling IsGoodItem w x) (sym (word_at_is keywords.Int ts i.0 i.1))
        (int_sound i.0.0 i.0.1 x i.2)
  ]

  -- every unit that is read
  pub unit_sound : (ts : List Token) (u : UnitTree) → (unit_at l) ts ≡ ok u → IsUnit u × (unit_spelling u ≡ ts)
      × All (IsKeptItem l) u.items
  unfolding unit_at unit_spelling IsUnit
  unit_sound ts u h =
      let x = bind_ok (until take_end (item_at l) (length ts) ts) _ u h in
      let r = until_sound item_spelling IsGoodItem (token kinds.End) take_end (item_at l)
      (λ ts s us e. (take_end_is ts s us e).0) item_sound (length ts) ts x.0 x.1 in
      let whole : flat_map item_spelling x.0.0 ++ token kinds.End x.0.1 ∷ []
      ≡ ts = sym (r.parts ∙ ap (λ w. (flat_map item_spelling x.0.0 ++ token kinds.End x.0.1 ∷ []) ++ w)
      (until_end (item_at l) (length ts) ts x.0 x.1) ∙ append-nil _) in
      subst (λ v. IsUnit v × (unit_spelling v ≡ ts) × All (IsKeptItem l) v.items) (ok_is _ u x.2) (
        All-weaker IsGoodItem IsItem (λ i g. g.0) x.0.0 r.formed,
        whole,
        All-weaker IsGoodItem (IsKeptItem l)
            (λ i g. g.1) x.0.0 r.formed,
      )

-- ---- what is read takes a token at least

head_some : {N : Type 0} (spell : N → List Token) (h : HeadTree N) (ts : List Token)
    → 0 < length (head_spelling spell h ++ ts)
unfolding head_spelling
head_some spell h ts = omega arith

pub item_some : (i : ItemTree) → 0 < length (item_spelling i)
unfolding item_spelling declaration_spelling
item_some (Declaration d) = omega arith
item_some (Prototype h semicolon) = head_some (perhaps given_name) h (mark punctuators.Semicolon semicolon ∷ [])
item_some (Function f) = head_some given_name f.head (block_spelling f.body)

pub end_shorter : (ts : List Token) (s : Span) (us : List Token) → take_end ts ≡ some (s, us) → length us < length ts
end_shorter ts s us e = omega (arith, ap length (take_end_is ts s us e).0)

pub item_shorter : BlocksAreSound → GlobalsAreSound → (l : Limits) → 1 ≤ l.nested → (ts : List Token) (i : ItemTree)
    (us : List Token) → (item_at l) ts ≡ ok (i, us) → length us < length ts
item_shorter sound globals l one ts i us e = let r = item_sound sound globals l one ts (i, us) e in omega
    (arith, ap length r.parts, length-append (item_spelling i) us, item_some i)
