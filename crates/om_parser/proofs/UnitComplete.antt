-- What a well-formed unit spells is read again as that unit, within the limits.
use Rattle.std.proofs.Common.{◌≡◌, ◌≤◌, List, [], ◌∷◌, ◌++◌, length, Option, None, refl, subst}
use Rattle.std.proofs.Common.{append_assoc, inl, All}
use Rattle.std.specs.List.{flat_map}
use Rattle.om_lexer.specs.declared.token.Keyword.TheVariants as keywords
use Rattle.om_lexer.specs.declared.token.Punctuator.TheVariants as punctuators
use Rattle.om_lexer.specs.declared.token.Span.{Span}
use Rattle.om_lexer.specs.declared.token.Token.{Token}
use Rattle.om_lexer.specs.declared.token.TokenKind.TheVariants as kinds
use Rattle.om_parser_tree.specs.declared.tree.ResultType.{ResultType}
use Rattle.om_parser_tree.specs.declared.tree.ResultType.TheVariants as results
use Rattle.om_parser_tree.specs.declared.tree.SignedNumber.{SignedNumber}
use Rattle.om_pragma.specs.declared.clause.Name as names
use Rattle.om_parser_tree.specs.Formed.{IsGlobalDeclaration, IsFunction, IsItem, IsUnit}
use Rattle.om_parser_tree.specs.Limits.{Limits}
use Rattle.om_parser_parts.specs.Reading.{take, same_mark, take_mark}
use Rattle.om_parser_parts.specs.Repetition.{until}
use Rattle.om_parser_tree.specs.Spelling.{token, mark, name, block_spelling, declarator_spelling, declaration_spelling}
use Rattle.om_parser_tree.specs.Spelling.{given_name, parameters_spelling, perhaps, head_spelling, prototype_spelling}
use Rattle.om_parser_tree.specs.Spelling.{item_spelling, unit_spelling}
use Rattle.om_parser.specs.StatementReading.{block_at}
use Rattle.om_parser_tree.specs.Tree.{DeclarationTree, HeadTree, FunctionTree, ItemTree, Declaration, Prototype, Function}
use Rattle.om_parser_tree.specs.Tree.{UnitTree}
use Rattle.om_parser.specs.UnitReading.{function_after, prototype_after, void_after, int_after, item_at, take_end}
use Rattle.om_parser.specs.UnitReading.{unit_at}
use Rattle.om_parser_parts.specs.Again.{take_mark_again, take_word_again, mark_again, word_again, name_again, bind_answer}
use Rattle.om_parser_parts.specs.Laws.{IsAnswer, GlobalsAreReadAgain}
use Rattle.om_parser.specs.Laws.{BlocksAreReadAgain}
use Rattle.om_parser_parts.specs.Outcomes.{ok}
use Rattle.om_parser_parts.specs.ItemsComplete.{AreAgain, until_again}
use Rattle.om_parser.proofs.Forms.{IsKeptItem}
use Rattle.om_parser.proofs.FunctionSound.{named_head_is}
use Rattle.om_parser.proofs.FunctionComplete.{head_again, int_is_no_void, unasked_head, named_head_again}
use Rattle.om_parser.proofs.UnitSound.{item_some}

no_semicolon : (s : Span) (ts : List Token) → take_mark punctuators.Semicolon (mark punctuators.OpenBrace s ∷ ts) ≡ None
unfolding take_mark take same_mark
no_semicolon s ts = refl

-- a body is no semicolon
not_prototype : (f : FunctionTree) (rest : List Token) → take_mark punctuators.Semicolon (block_spelling f.body
    ++ rest) ≡ None
unfolding block_spelling
not_prototype f rest = no_semicolon f.body.open_brace _

head_unended : {N : Type 0} (spell : N → List Token) (h : HeadTree N) (rest : List Token)
    → take_end (head_spelling spell h ++ rest) ≡ None
unfolding head_spelling take_end
head_unended {N} spell h rest = go h.result
  where
    go : (r : ResultType)
        → take_end (head_spelling spell (record {
          result = r;
          name = h.name;
          open_paren = h.open_paren;
          parameters = h.parameters;
          close_paren = h.close_paren;
        }) ++ rest) ≡ None
    go (results.Int at) = refl
    go (results.Void at) = refl

module _ (again : BlocksAreReadAgain) (globals : GlobalsAreReadAgain) (l : Limits) (one : 1 ≤ l.nested) where
  abbrev IsSmallItem : ItemTree → Type 0
  IsSmallItem i = IsKeptItem l i

  declaration_answer : (d : DeclarationTree SignedNumber) (rest : List Token) → IsGlobalDeclaration d
      → IsAnswer (IsSmallItem (Declaration d)) ((item_at l) (item_spelling (Declaration d) ++ rest))
      (Declaration d, rest)
  unfolding item_at int_after item_spelling
  declaration_answer d rest f =
      let g = globals d rest f in
      inl (subst (λ us. (item_at l) us ≡ ok (Declaration d, rest)) g.parts
      (rw (
        int_is_no_void d.int (name d.first.name ∷ g.behind),
        word_again keywords.Int d.int (name d.first.name
            ∷ g.behind),
        name_again d.first.name g.behind,
        g.no_function,
        g.read,
      ) refl))

  -- an item whose head is read again
  after_head : (h : HeadTree (Option names.Name)) (i : ItemTree) (rest us : List Token) → IsAnswer (IsSmallItem i)
      (function_after l h us) (i, rest) → IsAnswer (IsSmallItem i) (item_at l (prototype_spelling h ++ us)) (i, rest)
  unfolding item_at void_after int_after prototype_after head_spelling
  after_head h i rest us answer = go h.result answer
    where
      tree : ResultType → HeadTree (Option names.Name)
      tree r = record {
        result = r;
        name = h.name;
        open_paren = h.open_paren;
        parameters = h.parameters;
        close_paren = h.close_paren;
      }

      inner : List Token
      inner = parameters_spelling (perhaps given_name) h.parameters ++ mark punctuators.CloseParen h.close_paren ∷ us

      behind : List Token
      behind = name h.name ∷ mark punctuators.OpenParen h.open_paren ∷ inner

      go : (r : ResultType) → IsAnswer (IsSmallItem i) (function_after l (tree r) us) (i, rest)
          → IsAnswer (IsSmallItem i) (item_at l (prototype_spelling (tree r) ++ us)) (i, rest)
      go (results.Int at) answer = rw (
        append_assoc,
        int_is_no_void at behind,
        word_again keywords.Int at behind,
        name_again h.name (mark punctuators.OpenParen h.open_paren ∷ inner),
        take_mark_again punctuators.OpenParen
            h.open_paren inner,
        head_again (tree (results.Int at)) us,
      ) answer
      go (results.Void at) answer = rw (
        append_assoc,
        take_word_again keywords.Void at behind,
        name_again h.name
            (mark punctuators.OpenParen h.open_paren ∷ inner),
        mark_again punctuators.OpenParen h.open_paren inner,
        head_again (tree (results.Void at)) us,
      ) answer

  prototype_answer : (h : HeadTree (Option names.Name)) (s : Span) (rest : List Token)
      → IsAnswer (IsSmallItem (Prototype h s))
      (function_after l h (mark punctuators.Semicolon s ∷ rest)) (Prototype h s, rest)
  unfolding function_after
  prototype_answer h s rest = inl (rw (take_mark_again punctuators.Semicolon s rest) refl)

  function_answer : (f : FunctionTree) (rest : List Token) → IsFunction f → IsAnswer (IsSmallItem (Function f))
      (function_after l (unasked_head f.head) (block_spelling f.body ++ rest)) (Function f, rest)
  unfolding function_after IsFunction
  function_answer f rest formed =
      let body : List Token = block_spelling f.body ++ rest in
      rw (not_prototype f rest, named_head_again body f.head)
      (bind_answer ((block_at l) body) _ (f.body, rest) (Function f, rest) (λ w. w)
      (again l one f.body rest formed) (inl refl))

  item_again : (i : ItemTree) (rest : List Token) → IsItem i → IsAnswer (IsSmallItem i)
      ((item_at l) (item_spelling i ++ rest)) (i, rest)
  unfolding IsItem item_spelling
  item_again (Declaration d) rest f = declaration_answer d rest f
  item_again (Prototype h s) rest f = rw append_assoc (after_head h (Prototype h s) rest
      (mark punctuators.Semicolon s ∷ rest) (prototype_answer h s rest))
  item_again (Function g) rest f =
      let body : List Token = block_spelling g.body ++ rest in
      let answer = after_head (unasked_head g.head) (Function g) rest body (function_answer g rest f) in
      let same = named_head_is body (unasked_head g.head) g.head (named_head_again body g.head) in
      rw append_assoc (subst (λ w. IsAnswer (IsSmallItem (Function g)) (item_at l (w ++ body)) (Function g, rest))
      same answer)

  items_again : AreAgain item_spelling IsItem IsSmallItem (λ ts. Unit {0}) take_end (item_at l)
  unfolding item_spelling declaration_spelling head_spelling take_end declarator_spelling
  items_again = record {
    one = λ i rest f any. item_again i rest f;
    unended = unended;
    follows = λ i rest f. tt;
    some_tokens = λ i f. item_some i;
  }
    where
      unended : (i : ItemTree) (rest : List Token) → IsItem i → take_end (item_spelling i ++ rest) ≡ None
      unended (Declaration d) rest f = refl
      unended (Prototype h semicolon) rest f = head_unended (perhaps given_name) h
          (mark punctuators.Semicolon semicolon ∷ [] ++ rest)
      unended (Function g) rest f = head_unended given_name g.head (block_spelling g.body ++ rest)

  pub unit_again : (u : UnitTree) → IsUnit u → IsAnswer (All (IsKeptItem l) u.items) ((unit_at l) (unit_spelling u)) u
  unfolding unit_at unit_spelling IsUnit take_end
  unit_again u f =
      let last : Token = token kinds.End u.end in
      let ts : List Token = flat_map item_spelling u.items ++ last ∷ [] in
      bind_answer (until take_end (item_at l) (length ts) ts) _ (u.items, u.end, []) u (λ w. w)
      (until_again item_spelling IsItem IsSmallItem (λ ts. Unit {0}) take_end (item_at l) items_again last u.end []
      refl tt u.items f)
      (inl refl)
