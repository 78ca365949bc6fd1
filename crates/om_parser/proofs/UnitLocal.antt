-- S3 of a whole source stands at a token with which no well-formed unit goes on, or in a directive line.
use Rattle.std.proofs.Common.{◌≡◌, ℕ, zero, suc, ◌+◌, ◌≤◌, List, [], ◌∷◌, ◌++◌, length, Option, Some, None, Ok, Err}
use Rattle.std.proofs.Common.{Bool, true, false, refl, sym, ap, subst, ◌∙◌, append_assoc, length-append, arith, ◌⊎◌, inl}
use Rattle.std.proofs.Common.{inr, All}
use Rattle.std.specs.Prelude.{◌≢◌}
use Rattle.std.proofs.lemmas.List.Elements.{All-head, All-tail}
use Rattle.om_lexer.specs.Order.{GoesOn, AreWhole}
use Rattle.om_lexer.specs.declared.fault.FaultCode.TheVariants as codes
use Rattle.om_lexer.specs.declared.fault.SourceFault.{SourceFault}
use Rattle.om_lexer.specs.declared.token.Keyword.TheVariants as keywords
use Rattle.om_lexer.specs.declared.token.Punctuator.TheVariants as punctuators
use Rattle.om_lexer.specs.declared.token.Span.{Span}
use Rattle.om_lexer.specs.declared.token.Token.{Token}
use Rattle.om_lexer.specs.declared.token.TokenKind.{TokenKind}
use Rattle.om_lexer.specs.declared.token.TokenKind.TheVariants as kinds
use Rattle.om_pragma.specs.declared.clause.Name as names
use Rattle.om_parser_tree.specs.declared.tree.ResultType.{ResultType}
use Rattle.om_parser_tree.specs.declared.tree.ResultType.TheVariants as results
use Rattle.om_parser.specs.FunctionReading.{head_after, named_head}
use Rattle.om_parser.specs.Halts.{IsHalted, IsSyntaxHalt}
use Rattle.om_parser.specs.Laws.{BlocksAreLocal, BlocksAreReadAgain, BlocksAreSound}
use Rattle.om_parser.specs.Refusals.{refusal_of, refused}
use Rattle.om_parser.specs.StatementReading.{block_at}
use Rattle.om_parser.specs.UnitReading.{function_after, prototype_after, void_after, int_after, item_at, take_end, unit_at}
use Rattle.om_parser_parts.specs.Halting.{Unended, IsElsewhere}
use Rattle.om_parser_parts.specs.Laws.{GlobalsAreReadAgain, GlobalsAreSound}
use Rattle.om_parser_parts.specs.Local.{pair, GlobalsAreLocal, Consumes, done, bind, either, alike, stuck}
use Rattle.om_parser_parts.specs.Local.{mark_taker, word_taker, mark_local, word_local, name_local, bind_same, taken_again}
use Rattle.om_parser_parts.specs.Local.{free_room, elsewhere_behind}
use Rattle.om_parser_parts.specs.Outcomes.{ok, some, err_is, bind_err, choose_cases}
use Rattle.om_parser_parts.specs.PartReading.{global_at}
use Rattle.om_parser_parts.specs.Reading.{◌>>=◌, choose, Outcome, Reader, syntax, take_mark, take_word, mark_at, word_at, name_at}
use Rattle.om_parser_parts.specs.Repetition.{until}
use Rattle.om_parser_tree.specs.Limits.{Limits, accepted}
use Rattle.om_parser_tree.specs.Spelling.{token}
use Rattle.om_parser_tree.specs.Tree.{HeadTree, ItemTree, Declaration, Prototype, Function, UnitTree}
use Rattle.om_parser.proofs.FunctionLocal.{IsAsked, head_asked, head_local}
use Rattle.om_parser.proofs.ItemLocal.{lined}
use Rattle.om_parser.proofs.StatementLocal.{IsNear}
use Rattle.om_parser.proofs.UnitComplete.{unit_again}
use Rattle.om_parser.proofs.UnitSound.{item_shorter}

-- ---- items

module _ (blocks : BlocksAreLocal) (globals : GlobalsAreLocal) (l : Limits) (one : 1 ≤ l.nested) (n : ℕ) where
  body_local : (head : HeadTree (Option names.Name)) → IsAsked (λ body. named_head body head)
      → IsNear n (λ ts. named_head ts head >>= λ h. block_at l ts >>= λ b. Ok
      (Function (record { head = h; body = b.0 }), b.1))
  body_local head (inl (h, reads)) m = alike m pair _ (λ j ts. block_at l ts >>= λ b. Ok
      (Function (record { head = h; body = b.0 }), b.1)) (lined n)
      (λ ts. rw (reads ts) refl) (λ j ts far some. rw (reads ts) refl)
      (bind m pair pair (λ j. block_at l) _ (lined n) (blocks l one m n)
      (λ b. done m (Function (record { head = h; body = b.0 })) (lined n)))
  body_local head (inr fails) m = alike m pair _ (λ j ts. Err (syntax ts)) (lined n)
      (λ ts. rw (fails ts) refl) (λ j ts far some. rw (fails ts) refl) (stuck m pair (lined n))

  function_local : (head : HeadTree (Option names.Name)) → IsNear n (function_after l head)
  unfolding function_after
  function_local head m = either m pair (take_mark punctuators.Semicolon) _ _ (lined n)
      (mark_taker punctuators.Semicolon) (λ s. done (suc m) (Prototype head s) (lined n))
      (body_local head (head_asked head) m)

  prototype_local : (result : ResultType) (name : names.Name) (left : Span)
      → IsNear n (prototype_after l result name left)
  unfolding prototype_after
  prototype_local result name left m = bind m pair pair (λ j. head_after result name left) _ (lined n)
      (head_local n result name left m) (λ h. function_local h.0 m)

  void_local : (void : Span) → IsNear n (void_after l void)
  unfolding void_after
  void_local void m = bind m pair pair (λ j ts. name_at ts) _ (lined n) (name_local m (lined n))
      (λ x. bind m pair pair (λ j ts. mark_at punctuators.OpenParen ts) _ (lined n)
      (mark_local m punctuators.OpenParen (lined n))
      (λ p. prototype_local (results.Void void) x.0 p.0 m))

  int_local : (int : Span) → IsNear n (int_after l int)
  unfolding int_after
  int_local int m = bind m pair pair (λ j ts. name_at ts) _ (lined n) (name_local m (lined n))
      (λ x. either m pair (take_mark punctuators.OpenParen) _ _ (lined n) (mark_taker punctuators.OpenParen)
      (λ p. prototype_local (results.Int int) x.0 p (suc m))
      (bind m pair pair (λ j. global_at int x.0) _ (lined n) (globals int x.0 m (lined n))
      (λ d. done m (Declaration d.0) (lined n))))

  item_local : IsNear n (item_at l)
  unfolding item_at
  item_local m = either m pair (take_word keywords.Void) _ _ (lined n) (word_taker keywords.Void)
      (λ v. void_local v (suc m))
      (bind m pair pair (λ j ts. word_at keywords.Int ts) _ (lined n) (word_local m keywords.Int (lined n))
      (λ i. int_local i.0 m))

-- ---- the end of a source

-- the end stands last
abbrev EndsLast : List Token → Type 0
EndsLast ts = (front : List Token) (t : Token) (after : List Token) → ts ≡ front ++ t ∷ after → t.kind ≡ kinds.End
    → after ≡ []

no_end_long : (ts : List Token) → 2 ≤ length ts → take_end ts ≡ None
unfolding take_end
no_end_long [] long = absurd (omega (arith, long))
no_end_long (t ∷ []) long = absurd (omega (arith, long))
no_end_long (t ∷ (u ∷ us)) long = refl

no_end_kind : (k : TokenKind) (s : Span) → k ≢ kinds.End → (us : List Token) → take_end (token k s ∷ us) ≡ None
unfolding take_end
no_end_kind kinds.End s other us = absurd (other refl)
no_end_kind _ s other [] = refl
no_end_kind _ s other (u ∷ us) = refl

ends_here : (k : TokenKind) (s : Span) → k ≡ kinds.End → take_end (token k s ∷ []) ≡ None → ⊥
unfolding take_end
ends_here kinds.End s is e = absurd cc
ends_here _ s is e = absurd cc

-- a token that does not end a source ends none
no_end_first : (t : Token) (after other : List Token) → take_end (t ∷ after) ≡ None
    → (t.kind ≡ kinds.End → after ≡ []) → take_end (t ∷ other) ≡ None
no_end_first t after other absent last = no_end_kind t.kind t.span
    (λ is. ends_here t.kind t.span is (subst (λ (w : List Token). take_end (t ∷ w) ≡ None) (last is) absent)) other

no_end_again : (ts front : List Token) (t : Token) (after other : List Token) → ts ≡ front ++ t ∷ after
    → take_end ts ≡ None → EndsLast ts → take_end (front ++ t ∷ other) ≡ None
no_end_again ts [] t after other parts absent last = no_end_first t after other
    (subst (λ (w : List Token). take_end w ≡ None) parts absent) (last [] t after parts)
no_end_again ts (u ∷ front) t after other parts absent last = no_end_long (u ∷ (front ++ t ∷ other))
    (omega (arith, length-append front (t ∷ other)))

-- ---- items up to the end

module _ (item : Reader ItemTree) (less : Consumes item) where
  abbrev items : List Token → Outcome (List ItemTree × Span × List Token)
  items ts = until take_end item (length ts) ts

  abbrev onward : ItemTree × List Token → Outcome (List ItemTree × Span × List Token)
  onward a = items a.1 >>= λ b. Ok (a.0 ∷ b.0, b.1, b.2)

  enough : (k n : ℕ) (ts : List Token) → length ts ≤ k → length ts ≤ n → until take_end item k ts
      ≡ until take_end item n ts
  unfolding until take_end
  enough zero zero ts a b = refl
  enough zero (suc n) [] a b = bind_same (item []) _ _ (λ x read. absurd (omega (arith, less [] x read)))
  enough zero (suc n) (t ∷ ts) a b = absurd (omega (arith, a))
  enough (suc k) zero [] a b = bind_same (item []) _ _ (λ x read. absurd (omega (arith, less [] x read)))
  enough (suc k) zero (t ∷ ts) a b = absurd (omega (arith, b))
  enough (suc k) (suc n) ts a b = ap (choose (take_end ts) _) (bind_same (item ts) _ _
      (λ x read. ap (λ o. o >>= λ b. Ok (x.0 ∷ b.0, b.1, b.2)) (enough k n x.1 (omega (arith, a, less ts x read))
      (omega (arith, b, less ts x read)))))

  step : (ts : List Token) → items ts ≡ choose (take_end ts) (λ e. Ok ([], e.0, e.1)) (item ts >>= onward)
  unfolding until
  step ts = enough (length ts) (suc (length ts)) ts (omega arith) (omega arith)
      ∙ ap (choose (take_end ts) _) (bind_same (item ts) _ _
      (λ x read. ap (λ o. o >>= λ b. Ok (x.0 ∷ b.0, b.1, b.2)) (enough (length ts) (length x.1) x.1
      (omega (arith, less ts x read)) (omega arith))))

  unended_step : (ts : List Token) → take_end ts ≡ None → items ts ≡ (item ts >>= onward)
  unended_step ts none = step ts ∙ ap (λ (o : Option (Span × List Token)). choose o
      (λ e. ok ([], e.0, e.1)) (item ts >>= onward)) none

  -- reading all of them stops at this token, whatever stands behind it
  record StopsAtToken (ts : List Token) (f : SourceFault) : Type 0 where
    front : List Token
    token : Token
    after : List Token
    parts : ts ≡ front ++ token ∷ after
    at_place : token.span.start ≡ f.at
    again : (other : List Token) → items (front ++ token ∷ other) ≡ Err f

  module _ (local : (n : ℕ) → IsNear n item) where
    rest_fails : (f : SourceFault) (a : ItemTree × List Token) → onward a ≡ Err f → items a.1 ≡ Err f
    rest_fails f a rest = elim (bind_err (items a.1) _ f rest) [
      | inl fails ↦ fails
      | inr b ↦ absurd cc
    ]

    first : (ts : List Token) (f : SourceFault) → EndsLast ts → f.code ≡ codes.Syntax → take_end ts ≡ None
        → item ts ≡ Err f → StopsAtToken ts f ⊎ IsElsewhere true ts f
    first ts f last wrong none fails = elim ((local (length ts) 0 ts (omega arith)).halts f fails wrong) [
      | inl h ↦ inl (record {
        front = h.front;
        token = h.token;
        after = h.after;
        parts = h.parts;
        at_place = h.at_place;
        again = λ other.
            let us : List Token = h.front ++ h.token ∷ other in
            unended_step us (no_end_again ts h.front h.token h.after other h.parts none last)
            ∙ ap (λ (o : Outcome (ItemTree × List Token)). o >>= onward) (h.again (lined (length us)) other
            (free_room (h.token ∷ h.after) (h.token ∷ other) (lined (length ts)) (lined (length us)) refl refl)
            (omega arith));
      })
      | inr other ↦ inr other
    ]

    last_behind : (ts : List Token) → EndsLast ts → (a : ItemTree × List Token) → item ts ≡ Ok a → EndsLast a.1
    last_behind ts last a read front t after parts is =
        let k = (local (length ts) 0 ts (omega arith)).takes a read in
        last (k.front ++ front) t after
        (k.parts ∙ ap (λ (w : List Token). k.front ++ w) parts ∙ sym (append_assoc k.front front (t ∷ after))) is

    later : (ts : List Token) (f : SourceFault) (a : ItemTree × List Token) → item ts ≡ Ok a
        → StopsAtToken a.1 f ⊎ IsElsewhere true a.1 f → StopsAtToken ts f ⊎ IsElsewhere true ts f
    later ts f a read inner =
        let k = (local (length ts) 0 ts (omega arith)).takes a read in
        elim inner [
          | inl h ↦ inl (record {
            front = k.front ++ h.front;
            token = h.token;
            after = h.after;
            parts = k.parts ∙ ap (λ (w : List Token). k.front ++ w) h.parts
                ∙ sym (append_assoc k.front h.front (h.token ∷ h.after));
            at_place = h.at_place;
            again = λ other.
                let vs : List Token = h.front ++ h.token ∷ other in
                let us : List Token = k.front ++ vs in
                let regroup : (k.front ++ h.front) ++ h.token ∷ other ≡ us = append_assoc k.front h.front
                (h.token ∷ other) in
                let one : item us ≡ Ok (a.0, vs) = taken_again 0 pair (λ j. item) (lined (length ts)) ts a k
                (lined (length us)) h.front h.token h.after other h.parts
                (free_room (h.token ∷ h.after) (h.token ∷ other) (lined (length ts)) (lined (length us)) refl refl)
                (omega arith) in
                ap items regroup ∙ unended_step us (no_end_long us (omega (
                  arith,
                  length-append k.front vs,
                  length-append h.front (h.token ∷ other),
                  ap length k.parts,
                  length-append k.front a.1,
                  less ts a read,
                ))) ∙ ap (λ (o : Outcome (ItemTree × List Token)). o >>= onward) one
                ∙ ap (λ (o : Outcome (List ItemTree × Span × List Token)). o >>= λ b. Ok (a.0 ∷ b.0, b.1, b.2))
                (h.again other);
          })
          | inr other ↦ inr (elsewhere_behind true k.front a.1 ts f k.parts k.unended other)
        ]

    stops : (d : ℕ) (ts : List Token) → length ts ≤ d → EndsLast ts → (f : SourceFault) → items ts ≡ Err f
        → f.code ≡ codes.Syntax → StopsAtToken ts f ⊎ IsElsewhere true ts f
    stops zero ts le last f e wrong = elim (choose_cases (take_end ts) _ _ (Err f) (sym (step ts) ∙ e)) [
      | inl ended ↦ absurd cc
      | inr (none, more) ↦ elim (bind_err (item ts) onward f more) [
        | inl fails ↦ first ts f last wrong none fails
        | inr (a, read, rest) ↦ absurd (omega (arith, le, less ts a read))
      ]
    ]
    stops (suc d) ts le last f e wrong = elim (choose_cases (take_end ts) _ _ (Err f) (sym (step ts) ∙ e)) [
      | inl ended ↦ absurd cc
      | inr (none, more) ↦ elim (bind_err (item ts) onward f more) [
        | inl fails ↦ first ts f last wrong none fails
        | inr (a, read, rest) ↦ later ts f a read (stops d a.1 (omega (arith, le, less ts a read))
            (last_behind ts last a read) f (rest_fails f a rest) wrong)
      ]
    ]

-- ---- the tokens of a source

kind_goes : (inside : Bool) (k : TokenKind) (last : Type 0) (rest : Bool → Type 0) → GoesOn inside k last rest
    → ((k ≡ kinds.End) × last) ⊎ ((k ≢ kinds.End) × (b : Bool) × rest b)
kind_goes inside kinds.End last rest g = inl (refl, g.1)
kind_goes inside kinds.DirectiveBegin last rest g = inr (λ e. absurd cc, true, g.1)
kind_goes inside kinds.DirectiveEnd last rest g = inr (λ e. absurd cc, false, g.1)
kind_goes inside _ last rest g = inr (λ e. absurd cc, inside, g)

-- they end with the end of the source
whole_ended : (inside : Bool) (ts : List Token) → AreWhole inside ts → Unended ts → ⊥
unfolding AreWhole Unended
whole_ended inside [] w u = w
whole_ended inside (t ∷ []) w u = elim (kind_goes inside t.kind ([] ≡ []) (λ b. AreWhole b []) w) [
  | inl (is, last) ↦ u is
  | inr (other, b, rest) ↦ rest
]
whole_ended inside (t ∷ (v ∷ vs)) w u = elim (kind_goes inside t.kind (v ∷ vs ≡ []) (λ b. AreWhole b (v ∷ vs)) w) [
  | inl (is, last) ↦ absurd cc
  | inr (other, b, rest) ↦ whole_ended b (v ∷ vs) rest u
]

-- which stands nowhere else
whole_last : (inside : Bool) (ts : List Token) → AreWhole inside ts → EndsLast ts
unfolding AreWhole
whole_last inside [] w front t after parts is = absurd w
whole_last inside (u ∷ us) w [] t after parts is =
    let first : u ≡ t = cc in
    let rest : us ≡ after = cc in
    elim (kind_goes inside u.kind (us ≡ []) (λ b. AreWhole b us) w) [
      | inl (kind, last) ↦ sym rest ∙ last
      | inr (other, b, more) ↦ absurd (other (ap (λ (v : Token). v.kind) first ∙ is))
    ]
whole_last inside (u ∷ us) w (v ∷ front) t after parts is =
    let rest : us ≡ front ++ t ∷ after = cc in
    elim (kind_goes inside u.kind (us ≡ []) (λ b. AreWhole b us) w) [
      | inl (kind, last) ↦
          let none : 0 ≡ length (front ++ t ∷ after) = ap length (sym last ∙ rest) in
          absurd (omega (arith, none, length-append front (t ∷ after)))
      | inr (other, b, more) ↦ whole_last b us more front t after rest is
    ]

-- a line has its end
goes_inside : (k : TokenKind) (last : Type 0) (rest : Bool → Type 0) → k ≢ kinds.DirectiveEnd
    → GoesOn true k last rest → rest true
goes_inside kinds.DirectiveBegin last rest other g = g.1
goes_inside kinds.DirectiveEnd last rest other g = absurd (other refl)
goes_inside kinds.End last rest other g = let never : true ≡ false = g.0 in absurd cc
goes_inside _ last rest other g = g

line_ends : (ts : List Token) → AreWhole true ts → All (λ t. t.kind ≢ kinds.DirectiveEnd) ts → ⊥
unfolding AreWhole
line_ends [] w each = w
line_ends (t ∷ ts) w each = line_ends ts (goes_inside t.kind (ts ≡ []) (λ b. AreWhole b ts)
    (All-head (λ t. t.kind ≢ kinds.DirectiveEnd) t ts each) w) (All-tail (λ t. t.kind ≢ kinds.DirectiveEnd) t ts each)

whole_lines : (inside : Bool) (before : List Token) (hash : Span) (after : List Token)
    → AreWhole inside (before ++ token kinds.DirectiveBegin hash ∷ after)
    → All (λ t. t.kind ≢ kinds.DirectiveEnd) after → ⊥
unfolding AreWhole
whole_lines inside [] hash after w each = line_ends after w.1 each
whole_lines inside (t ∷ before) hash after w each =
    elim (kind_goes inside t.kind (before ++ token kinds.DirectiveBegin hash ∷ after ≡ [])
    (λ b. AreWhole b (before ++ token kinds.DirectiveBegin hash ∷ after)) w) [
      | inl (kind, last) ↦
          let none = ap length last in
          absurd (omega (arith, none, length-append before (token kinds.DirectiveBegin hash ∷ after)))
      | inr (other, b, more) ↦ whole_lines b before hash after more each
    ]

-- ---- the whole

module _ (blocks : BlocksAreLocal) (globals : GlobalsAreLocal) (sound : BlocksAreSound) (globals_sound : GlobalsAreSound)
    (again : BlocksAreReadAgain) (globals_again : GlobalsAreReadAgain) where
  one_nested : 1 ≤ accepted.nested
  one_nested = omega arith

  less : Consumes (item_at accepted)
  less ts x e = item_shorter sound globals_sound accepted one_nested ts x.0 x.1 e

  items_fail : (ts : List Token) (f : SourceFault) → unit_at accepted ts ≡ Err f → items (item_at accepted) less ts
      ≡ Err f
  unfolding unit_at
  items_fail ts f e = elim (bind_err (items (item_at accepted) less ts) _ f e) [
    | inl fails ↦ fails
    | inr u ↦ absurd cc
  ]

  unit_fails : (ts : List Token) (f : SourceFault) → items (item_at accepted) less ts ≡ Err f → unit_at accepted ts
      ≡ Err f
  unfolding unit_at
  unit_fails ts f e = ap (λ (o : Outcome (List ItemTree × Span × List Token)). o >>= λ u. Ok
      (record { items = u.0; end = u.1 })) e

  halted : (ts : List Token) (f : SourceFault) → f.code ≡ codes.Syntax
      → StopsAtToken (item_at accepted) less ts f → IsHalted ts f.at
  halted ts f wrong h = record {
    before = h.front;
    token = h.token;
    after = h.after;
    stands = h.parts;
    at_place = h.at_place;
    stops = λ u more formed spelled. elim (unit_again again globals_again accepted one_nested u formed) [
      | inl read ↦
          let both : ok u ≡ Err f = sym read ∙ ap (unit_at accepted) spelled ∙ fails more in
          absurd cc
      | inr (stop, read, never) ↦ stop.other (ap (λ (g : SourceFault). g.code)
          (err_is stop.fault f (sym read ∙ ap (unit_at accepted) spelled ∙ fails more)) ∙ wrong)
    ];
  }
    where
      fails : (more : List Token) → unit_at accepted (h.front ++ h.token ∷ more) ≡ Err f
      fails more = unit_fails (h.front ++ h.token ∷ more) f (h.again more)

  -- where a source is refused by S3
  pub syntax_stands : (ts : List Token) (f : SourceFault) → AreWhole false ts → refusal_of ts ≡ Some f
      → f.code ≡ codes.Syntax → IsSyntaxHalt ts f
  syntax_stands ts f whole refusal wrong =
      elim (stops (item_at accepted) less (λ n. item_local blocks globals accepted one_nested n) (length ts) ts
      (omega arith) (whole_last false ts whole) f (items_fail ts f (failed (unit_at accepted ts) refusal)) wrong) [
        | inl h ↦ inl (halted ts f wrong h)
        | inr (inl line) ↦ inr line
        | inr (inr (inl endless)) ↦ absurd (whole_lines false endless.before endless.hash endless.after
            (subst (AreWhole false) endless.stands whole) endless.endless)
        | inr (inr (inr out)) ↦ absurd (whole_ended false ts whole out.unended)
      ]
    where
      failed : (o : Outcome UnitTree) → refused o ≡ Some f → o ≡ Err f
      failed (Ok u) e = absurd cc
      failed (Err g) e = ap (λ (c : SourceFault). Err c) (same g e)
        where
          same : (g : SourceFault) → some g ≡ some f → g ≡ f
          same g e = cc
