-- A source has one list of tokens or one fault, and not both.
use Rattle.std.proofs.Common.{◌≡◌, ℕ, ◌<◌, ◌≤◌, ◌⊎◌, false, List, [], ◌∷◌, ◌++◌, length, arith, refl, sym, ap, subst}
use Rattle.std.proofs.Common.{◌∙◌, ⊎_elim, inl, inr, append-nil, slice_index}
use Rattle.std.proofs.lemmas.List.{get_or_past}
use Rattle.om_lexer.specs.declared.token.Token.{Token}
use Rattle.om_lexer.specs.declared.fault.FaultCode.{FaultCode}
use Rattle.om_lexer.specs.declared.fault.FaultCode.TheVariants as codes
use Rattle.om_lexer.specs.declared.piece.Piece.{Piece}
use Rattle.om_lexer.specs.declared.piece.PieceKind.{PieceKind}
use Rattle.om_lexer.specs.declared.piece.PieceKind.TheVariants as pieces
use Rattle.om_lexer.specs.Characters.{is_blank}
use Rattle.om_lexer.specs.Tokens.{IsTooLarge}
use Rattle.om_lexer.specs.HashLines.{IsBadHashLine, IsMacroTooMany}
use Rattle.om_lexer.specs.Pieces.{Context, is_ignored, IsPiece, Stands, Decomposes, context_behind, context_behind_all}
use Rattle.om_lexer.specs.Pieces.{at_first}
use Rattle.om_lexer.specs.Sources.{source_limit, IsTokens, IsBadToken, BeginsHashLine, IsWrong, GoesWrong, IsTooLong}
use Rattle.om_lexer.specs.Sources.{IsFault, all_tokens}
use Rattle.om_lexer.proofs.Beginnings.{could_be_some}
use Rattle.om_lexer.proofs.Gaps.{byte_inside, no_white}
use Rattle.om_lexer.proofs.Longest.{length_slice}
use Rattle.om_lexer.proofs.HashLines.{line_hash, bad_line_no_piece, too_many_no_piece, bad_not_too_many}
use Rattle.om_lexer.proofs.Progress.{piece_moves}
use Rattle.om_lexer.proofs.OnePiece.{piece_one, line_no_piece, large_no_piece, large_no_hash}

-- ---- where a piece or a fault stands is inside the source

past_end : (source : List ℕ) (from : ℕ) → length source ≤ from → slice_index source from ≡ 0
past_end source from past = get_or_past source from 0 past

no_stands_past : (source : List ℕ) (context : Context) (from to : ℕ) (kind : PieceKind) → length source ≤ from
    → Stands source context from to kind → ⊥
unfolding is_blank
no_stands_past source context from to pieces.LineFeed past s = omega (arith, past_end source from past, s.0)
no_stands_past source context from to pieces.Space past s = no_white source from 0 (past_end source from past) refl
    (λ e. omega (arith, e)) (λ e. omega (arith, e)) to s
no_stands_past source context from to (pieces.Token kind) past s =
    ⊎_elim
    (λ e.
    let some = could_be_some _ e.longest.could_be in
    let long = length_slice source from to in
    omega (arith, some, long, past))
    (λ t. omega (arith, past_end source from past, t.2.0))
    s.1
no_stands_past source context from to (pieces.HashLine line) past s = omega (
  arith,
  past_end source from past,
  line_hash source context.macros from to line s.1,
)
no_stands_past source context from to pieces.Passed past s = omega (arith, s.1.inside, past)

no_piece_past : (source : List ℕ) (context : Context) (from : ℕ) (p : Piece) → length source ≤ from
    → IsPiece source context from p → ⊥
no_piece_past source context from p past piece = no_stands_past source context from p.end p.kind past piece.stands

-- what can be wrong
data Wrong (source : List ℕ) (context : Context) (at : ℕ) (code : FaultCode) : Type 0 where
  bad_token : code ≡ codes.BadToken → IsBadToken source context at → Wrong source context at code
  bad_line : code ≡ codes.BadHashLine → BeginsHashLine source context at → IsBadHashLine source context.macros at
      → Wrong source context at code
  too_many : code ≡ codes.TooMany → BeginsHashLine source context at → IsMacroTooMany source context.macros at
      → Wrong source context at code
  too_large : code ≡ codes.ConstantTooLarge → is_ignored context.state ≡ false → IsTooLarge source at
      → Wrong source context at code

module _ (source : List ℕ) (context : Context) (at : ℕ) where
  wrong_cases : (code : FaultCode) → IsWrong source context at code → Wrong source context at code
  wrong_cases codes.BadToken wrong = bad_token refl wrong
  wrong_cases codes.BadHashLine wrong = bad_line refl wrong.0 wrong.1
  wrong_cases codes.TooMany wrong = too_many refl wrong.0 wrong.1
  wrong_cases codes.ConstantTooLarge wrong = too_large refl wrong.0 wrong.1
  wrong_cases codes.Memory wrong = absurd wrong
  wrong_cases codes.SourceTooLong wrong = absurd wrong
  wrong_cases codes.Syntax wrong = absurd wrong
  wrong_cases codes.UnknownDirective wrong = absurd wrong
  wrong_cases codes.BadClause wrong = absurd wrong
  wrong_cases codes.Undeclared wrong = absurd wrong
  wrong_cases codes.Redeclared wrong = absurd wrong
  wrong_cases codes.Misuse wrong = absurd wrong
  wrong_cases codes.LoopForm wrong = absurd wrong
  wrong_cases codes.Unlisted wrong = absurd wrong
  wrong_cases codes.LeavesConstruct wrong = absurd wrong
  wrong_cases codes.NoMain wrong = absurd wrong
  wrong_cases codes.TooDeep wrong = absurd wrong

  inside_cases : (code : FaultCode) → Wrong source context at code → at < length source
  inside_cases code (bad_token same bad) = bad.inside
  inside_cases code (bad_line same begins bad) = byte_inside source at (omega (arith, begins.0))
  inside_cases code (too_many same begins many) = byte_inside source at (omega (arith, begins.0))
  inside_cases code (too_large same heard large) =
      let some = could_be_some _ large.longest.could_be in
      let long = length_slice source at large.to in
      omega (arith, some, long)

  no_piece_cases : (code : FaultCode) (p : Piece) → Wrong source context at code → IsPiece source context at p → ⊥
  no_piece_cases code p (bad_token same bad) piece = bad.no_piece p piece
  no_piece_cases code p (bad_line same begins bad) piece = line_no_piece source context at p begins.0 begins.1
      (λ to line. bad_line_no_piece source context.macros at to line bad) piece
  no_piece_cases code p (too_many same begins many) piece = line_no_piece source context at p begins.0 begins.1
      (λ to line. too_many_no_piece source context.macros at to line many) piece
  no_piece_cases code p (too_large same heard large) piece = large_no_piece source context at p heard large piece

  one_cases : (c d : FaultCode) → Wrong source context at c → Wrong source context at d → c ≡ d
  one_cases c d (bad_token e x) (bad_token f y) = e ∙ sym f
  one_cases c d (bad_token e x) (bad_line f begins y) = absurd (x.no_hash_line begins)
  one_cases c d (bad_token e x) (too_many f begins y) = absurd (x.no_hash_line begins)
  one_cases c d (bad_token e x) (too_large f heard y) = absurd (x.not_too_large heard y)
  one_cases c d (bad_line e begins x) (bad_token f y) = absurd (y.no_hash_line begins)
  one_cases c d (bad_line e begins x) (bad_line f also y) = e ∙ sym f
  one_cases c d (bad_line e begins x) (too_many f also y) = absurd (bad_not_too_many source context.macros at x y)
  one_cases c d (bad_line e begins x) (too_large f heard y) = absurd (large_no_hash source at y begins.0)
  one_cases c d (too_many e begins x) (bad_token f y) = absurd (y.no_hash_line begins)
  one_cases c d (too_many e begins x) (bad_line f also y) = absurd (bad_not_too_many source context.macros at y x)
  one_cases c d (too_many e begins x) (too_many f also y) = e ∙ sym f
  one_cases c d (too_many e begins x) (too_large f heard y) = absurd (large_no_hash source at y begins.0)
  one_cases c d (too_large e heard x) (bad_token f y) = absurd (y.not_too_large heard x)
  one_cases c d (too_large e heard x) (bad_line f begins y) = absurd (large_no_hash source at x begins.0)
  one_cases c d (too_large e heard x) (too_many f begins y) = absurd (large_no_hash source at x begins.0)
  one_cases c d (too_large e heard x) (too_large f also y) = e ∙ sym f

wrong_inside : (source : List ℕ) (context : Context) (at : ℕ) (code : FaultCode) → IsWrong source context at code
    → at < length source
wrong_inside source context at code wrong = inside_cases source context at code (wrong_cases source context at code
    wrong)

wrong_no_piece : (source : List ℕ) (context : Context) (at : ℕ) (code : FaultCode) (p : Piece)
    → IsWrong source context at code → IsPiece source context at p → ⊥
wrong_no_piece source context at code p wrong = no_piece_cases source context at code p
    (wrong_cases source context at code wrong)

wrong_one : (source : List ℕ) (context : Context) (at : ℕ) (c d : FaultCode) → IsWrong source context at c
    → IsWrong source context at d → c ≡ d
wrong_one source context at c d x y = one_cases source context at c d (wrong_cases source context at c x)
    (wrong_cases source context at d y)

-- ---- of two readings one goes on where the other ends

GoesOn : List ℕ → Context → List Piece → ℕ → List Piece → ℕ → Type 0
GoesOn source context ps a qs b = (more : List Piece) × (qs ≡ ps ++ more) × Decomposes source
    (context_behind_all source context ps) a more b

goes_on_cons : (source : List ℕ) (context : Context) (p q : Piece) (ps : List Piece) (a : ℕ) (qs : List Piece)
    (b : ℕ) → q ≡ p → GoesOn source (context_behind source context p) ps a qs b → GoesOn source context (p ∷ ps) a
    (q ∷ qs) b
unfolding GoesOn
goes_on_cons source context p q ps a qs b same goes = (goes.0, (λ i. same i ∷ goes.1 i), goes.2)

compare : (source : List ℕ) (context : Context) (from : ℕ) (ps qs : List Piece) (a b : ℕ) → Decomposes source
    context from ps a → Decomposes source context from qs b → GoesOn source context ps a qs b
    ⊎ GoesOn source context qs b ps a
unfolding GoesOn
compare source context from [] qs a b x y = inl (qs, refl, subst (λ n. Decomposes source context n qs b) x y)
compare source context from (p ∷ ps) [] a b x y =
    inr (p ∷ ps, refl, subst (λ n. Decomposes source context n (p ∷ ps) a) y x)
compare source context from (p ∷ ps) (q ∷ qs) a b x y =
    let same = piece_one source context from p q x.0 y.0 in
    let there : Decomposes source (context_behind source context p) p.end qs b = subst
    (λ r. Decomposes source (context_behind source context r) r.end qs b) (sym same) y.1 in
    ⊎_elim
    (λ goes. inl (goes_on_cons source context p q ps a qs b (sym same) goes))
    (λ goes. inr (goes_on_cons source context q p qs b ps a same
    (subst (λ r. GoesOn source (context_behind source context r) qs b ps a) same goes)))
    (compare source (context_behind source context p) p.end ps qs a b x.1 there)

decomposes_rises : (source : List ℕ) (context : Context) (from to : ℕ) (ps : List Piece) → Decomposes source context
    from ps to → from ≤ to
decomposes_rises source context from to [] x = omega (arith, x)
decomposes_rises source context from to (p ∷ ps) x = omega (
  arith,
  piece_moves source context from p x.0,
  decomposes_rises source (context_behind source context p) p.end to ps x.1,
)

-- no piece stands behind a reading
Stops : List ℕ → List Piece → ℕ → Type 0
Stops source ps a = (p : Piece) → IsPiece source (context_behind_all source at_first ps) a p → ⊥

-- a reading that stops where no piece stands is the longer one
none_more : (source : List ℕ) (ps qs : List Piece) (a b : ℕ) → Stops source ps a → GoesOn source at_first ps a qs b
    → (qs ≡ ps) × (a ≡ b)
unfolding GoesOn Stops
none_more source ps qs a b stops ([], same, there) = (same ∙ append-nil ps, there)
none_more source ps qs a b stops (p ∷ more, same, there) = absurd (stops p there.0)

stops_at_one : (source : List ℕ) (ps qs : List Piece) (a b : ℕ) → Decomposes source at_first 0 ps a
    → Decomposes source at_first 0 qs b → Stops source ps a → Stops source qs b → (ps ≡ qs) × (a ≡ b)
stops_at_one source ps qs a b x y stops_a stops_b =
    ⊎_elim
    (λ goes. let same = none_more source ps qs a b stops_a goes in (sym same.0, same.1))
    (λ goes. let same = none_more source qs ps b a stops_b goes in (same.0, sym same.1))
    (compare source at_first 0 ps qs a b x y)

-- a reading that stops is not passed by another
rises : (source : List ℕ) (ps qs : List Piece) (a b : ℕ) → GoesOn source at_first ps a qs b → a ≤ b
unfolding GoesOn
rises source ps qs a b goes = decomposes_rises source (context_behind_all source at_first ps) a b goes.0 goes.2

stops_last : (source : List ℕ) (ps qs : List Piece) (a b : ℕ) → Decomposes source at_first 0 ps a
    → Decomposes source at_first 0 qs b → Stops source ps a → b ≤ a
stops_last source ps qs a b x y stops =
    ⊎_elim
    (λ goes. let same = none_more source ps qs a b stops goes in omega (arith, same.1))
    (rises source qs ps b a)
    (compare source at_first 0 ps qs a b x y)

-- ---- the laws

pub one_token_list : (source : List ℕ) (ts us : List Token) → IsTokens source ts → IsTokens source us → ts ≡ us
unfolding Stops
one_token_list source ts us x y =
    let ends : (ps : List Piece) (p : Piece) → IsPiece source (context_behind_all source at_first ps)
    (length source) p → ⊥ = λ ps p. no_piece_past source (context_behind_all source at_first ps) (length source)
    p (omega arith) in
    let same = stops_at_one source x.pieces y.pieces (length source) (length source) x.whole y.whole (ends x.pieces)
    (ends y.pieces) in
    x.tokens_are ∙ ap (all_tokens source) same.0 ∙ sym y.tokens_are

-- the two kinds of fault
fault_cases : (source : List ℕ) (code : FaultCode) (at : ℕ) → IsFault source code at
    → ((code ≡ codes.SourceTooLong) × (at ≡ source_limit) × IsTooLong source)
    ⊎ ((at < source_limit) × GoesWrong source code at)
fault_cases source codes.SourceTooLong at fault = inl (refl, fault.0, fault.1)
fault_cases source codes.Memory at fault = inr fault
fault_cases source codes.BadToken at fault = inr fault
fault_cases source codes.Syntax at fault = inr fault
fault_cases source codes.BadHashLine at fault = inr fault
fault_cases source codes.UnknownDirective at fault = inr fault
fault_cases source codes.BadClause at fault = inr fault
fault_cases source codes.Undeclared at fault = inr fault
fault_cases source codes.Redeclared at fault = inr fault
fault_cases source codes.Misuse at fault = inr fault
fault_cases source codes.ConstantTooLarge at fault = inr fault
fault_cases source codes.TooMany at fault = inr fault
fault_cases source codes.LoopForm at fault = inr fault
fault_cases source codes.Unlisted at fault = inr fault
fault_cases source codes.LeavesConstruct at fault = inr fault
fault_cases source codes.NoMain at fault = inr fault
fault_cases source codes.TooDeep at fault = inr fault

stops_wrong : (source : List ℕ) (code : FaultCode) (at : ℕ) → (wrong : GoesWrong source code at)
    → Stops source wrong.pieces at
unfolding Stops
stops_wrong source code at wrong = λ p. wrong_no_piece source (context_behind_all source at_first wrong.pieces) at
    code p wrong.wrong

pub tokens_no_fault : (source : List ℕ) (ts : List Token) (code : FaultCode) (at : ℕ) → IsTokens source ts
    → IsFault source code at → ⊥
tokens_no_fault source ts code at tokens fault =
    ⊎_elim
    (λ long. omega (arith, tokens.within, long.2.above))
    (λ wrong.
    let past = stops_last source wrong.1.pieces tokens.pieces at (length source) wrong.1.before tokens.whole
    (stops_wrong source code at wrong.1) in
    omega (arith, past, wrong_inside source (context_behind_all source at_first wrong.1.pieces) at code wrong.1.wrong))
    (fault_cases source code at fault)

wrong_not_long : (source : List ℕ) (code : FaultCode) (at : ℕ) → at < source_limit → GoesWrong source code at
    → IsTooLong source → ⊥
wrong_not_long source code at below wrong long =
    omega (
      arith,
      long.past,
      stops_last source wrong.pieces long.pieces at long.reached wrong.before long.before
          (stops_wrong source code at wrong),
    )

wrong_place_one : (source : List ℕ) (c d : FaultCode) (a b : ℕ) → GoesWrong source c a → GoesWrong source d b
    → (c ≡ d) × (a ≡ b)
wrong_place_one source c d a b x y =
    let same = stops_at_one source x.pieces y.pieces a b x.before y.before (stops_wrong source c a x)
    (stops_wrong source d b y) in
    let there : IsWrong source (context_behind_all source at_first x.pieces) a d =
    subst (λ ps. IsWrong source (context_behind_all source at_first ps) a d) (sym same.0)
    (subst (λ n. IsWrong source (context_behind_all source at_first y.pieces) n d) (sym same.1) y.wrong) in
    (wrong_one source (context_behind_all source at_first x.pieces) a c d x.wrong there, same.1)

pub one_fault : (source : List ℕ) (c d : FaultCode) (a b : ℕ) → IsFault source c a → IsFault source d b → (c ≡ d)
    × (a ≡ b)
one_fault source c d a b x y =
    ⊎_elim
    (λ long. ⊎_elim (λ also. (long.0 ∙ sym also.0, long.1 ∙ sym also.1))
    (λ wrong. absurd (wrong_not_long source d b wrong.0 wrong.1 long.2)) (fault_cases source d b y))
    (λ wrong. ⊎_elim (λ long. absurd (wrong_not_long source c a wrong.0 wrong.1 long.2))
    (λ also. wrong_place_one source c d a b wrong.1 also.1) (fault_cases source d b y))
    (fault_cases source c a x)
