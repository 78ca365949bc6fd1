-- Where no token stands, and where nothing begins.
use Rattle.std.proofs.Common.{◌≡◌, ℕ, ◌+◌, ◌<◌, ◌≤◌, ◌⊎◌, true, false, List, length, arith, ap, subst, ◌∙◌, ⊎_elim, inl}
use Rattle.std.proofs.Common.{inr, slice_index, slice_range, nat_eq, drop}
use Rattle.std.proofs.lemmas.Bool.{both_ways}
use Rattle.std.specs.List.{starts_with}
use Rattle.om_lexer.specs.declared.fault.FaultCode.{FaultCode}
use Rattle.om_lexer.specs.declared.fault.FaultCode.TheVariants as codes
use Rattle.om_lexer.specs.declared.fault.SourceFault.{SourceFault}
use Rattle.om_lexer.specs.declared.token.Punctuator.{Punctuator}
use Rattle.om_lexer.specs.declared.piece.PieceKind.{PieceKind}
use Rattle.om_lexer.specs.declared.piece.PieceKind.TheVariants as pieces
use Rattle.om_lexer.specs.Faults.{no_memory}
use Rattle.om_lexer.specs.Characters.{is_word_byte}
use Rattle.om_lexer.specs.Spellings.{punctuator_text}
use Rattle.om_lexer.specs.WhiteSpace.{IsWhiteSpace, BeginsComment}
use Rattle.om_lexer.specs.Texts.{Characters}
use Rattle.om_lexer.specs.Tokens.{IsLongest, IsWrongText, IsNoToken}
use Rattle.om_lexer.specs.HashLines.{IsWrongHashLine}
use Rattle.om_lexer.specs.Pieces.{Context, is_ignored, Stands}
use Rattle.om_lexer.specs.Sources.{IsBadToken, IsWrong, IsWrongAt, BeginsHashLine}
use Rattle.om_lexer.proofs.Beginnings.{token_apart, word_apart, could_be_some, first_of_slice, punctuator_from_first}
use Rattle.om_lexer.proofs.Beginnings.{punctuator_long}
use Rattle.om_lexer.proofs.Longest.{longest_one, starts_to}
use Rattle.om_lexer.proofs.HashLines.{line_hash}

-- ---- no token

-- a word that spells nothing
bad_word : (source : List ℕ) (at to : ℕ) → is_word_byte (slice_index source at) ≡ true → IsLongest source at to
    → IsWrongText (slice_range source at to) codes.BadToken → IsNoToken source at codes.BadToken
bad_word source at to word longest wrong =
    let there : (other : ℕ) → IsLongest source at other → IsWrongText (slice_range source at other) codes.BadToken =
    λ other also. subst (λ n. IsWrongText (slice_range source at n) codes.BadToken)
    (longest_one source at to other longest also) wrong in (
      (λ other kind token. ⊎_elim (λ e. (there other e.longest).0 kind e.spelled) (λ t. (word_apart _ word).no_quote
          t.2.0) token),
      (λ large. (there large.to large.longest).1 large.value large.spelled),
    )

wrong_code : (source : List ℕ) (at to : ℕ) → is_word_byte (slice_index source at) ≡ true → IsLongest source at to
    → (code : FaultCode) → IsWrongText (slice_range source at to) code → IsNoToken source at code
wrong_code source at to word longest codes.BadToken wrong = bad_word source at to word longest wrong
wrong_code source at to word longest codes.ConstantTooLarge wrong = record {
  to = to;
  value = wrong.0;
  longest = longest;
  spelled = wrong.1;
  large = wrong.2;
}
wrong_code source at to word longest codes.Memory wrong = absurd wrong
wrong_code source at to word longest codes.SourceTooLong wrong = absurd wrong
wrong_code source at to word longest codes.Syntax wrong = absurd wrong
wrong_code source at to word longest codes.BadHashLine wrong = absurd wrong
wrong_code source at to word longest codes.UnknownDirective wrong = absurd wrong
wrong_code source at to word longest codes.BadClause wrong = absurd wrong
wrong_code source at to word longest codes.Undeclared wrong = absurd wrong
wrong_code source at to word longest codes.Redeclared wrong = absurd wrong
wrong_code source at to word longest codes.Misuse wrong = absurd wrong
wrong_code source at to word longest codes.TooMany wrong = absurd wrong
wrong_code source at to word longest codes.LoopForm wrong = absurd wrong
wrong_code source at to word longest codes.Unlisted wrong = absurd wrong
wrong_code source at to word longest codes.LeavesConstruct wrong = absurd wrong
wrong_code source at to word longest codes.NoMain wrong = absurd wrong
wrong_code source at to word longest codes.TooDeep wrong = absurd wrong

-- what is wrong with a word is wrong there
pub wrong_word : (source : List ℕ) (at to : ℕ) → is_word_byte (slice_index source at) ≡ true → IsLongest source at
    to → (fault : SourceFault)
    → (fault ≡ no_memory) ⊎ ((fault.at ≡ at) × IsWrongText (slice_range source at to) fault.code)
    → (fault ≡ no_memory) ⊎ ((fault.at ≡ at) × IsNoToken source at fault.code)
wrong_word source at to word longest fault (inl memory) = inl memory
wrong_word source at to word longest fault (inr wrong) = inr (
  wrong.0,
  wrong_code source at to word longest
      fault.code wrong.1,
)

-- where no word, no text and no punctuator begins
pub stray_byte : (source : List ℕ) (at : ℕ) → is_word_byte (slice_index source at) ≡ false
    → (slice_index source at ≡ 34 → ⊥) → ((q : Punctuator) → starts_with nat_eq (drop at source) (punctuator_text q)
    ≡ false) → IsNoToken source at codes.BadToken
stray_byte source at no_word no_quote no_punctuator =
    let none : (to : ℕ) → IsLongest source at to → ⊥ =
    λ to longest.
    let first = first_of_slice source at to (could_be_some _ longest.could_be) in
    let q = punctuator_from_first _ longest.could_be (ap is_word_byte first ∙ no_word) in
    both_ways _ (no_punctuator q.0) (starts_to source (punctuator_text q.0) at to longest.inside q.1
    (punctuator_long q.0)).0 in (
      (λ to kind token. ⊎_elim (λ e. none to e.longest) (λ t. no_quote t.2.0) token),
      (λ large. none large.to large.longest),
    )

-- a text that is wrong or never ends
pub bad_text : (source : List ℕ) (at : ℕ) → slice_index source at ≡ 34
    → ((all : List ℕ) (to : ℕ) → Characters source (at + 1) all to → ⊥) → IsNoToken source at codes.BadToken
bad_text source at quote no_text =
    let none : (to : ℕ) → IsLongest source at to → ⊥ = λ to longest.
    (token_apart source at to longest.could_be).no_quote quote in (
      (λ to kind token. ⊎_elim (λ e. none to e.longest) (λ t. no_text t.0 to t.2.1) token),
      (λ large. none large.to large.longest),
    )

-- ---- nothing

module _ (source : List ℕ) (context : Context) (at : ℕ) where
  -- where no token stands and no `#` line begins
  no_token_stands : (slice_index source at ≡ 10 → ⊥) → ((to : ℕ) → IsWhiteSpace source at to → ⊥)
      → is_ignored context.state ≡ false → (BeginsHashLine source context at → ⊥) → IsNoToken source at codes.BadToken
      → (to : ℕ) (kind : PieceKind) → Stands source context at to kind → ⊥
  no_token_stands no_line_feed no_white heard no_hash_line none to pieces.LineFeed s = no_line_feed s.0
  no_token_stands no_line_feed no_white heard no_hash_line none to pieces.Space s = no_white to s
  no_token_stands no_line_feed no_white heard no_hash_line none to (pieces.Token kind) s = none.0 to kind s.1
  no_token_stands no_line_feed no_white heard no_hash_line none to (pieces.HashLine line) s = no_hash_line
      (line_hash source context.macros at to line s.1, s.0)
  no_token_stands no_line_feed no_white heard no_hash_line none to pieces.Passed s = both_ways _ heard s.0

  no_token_code : at < length source → (slice_index source at ≡ 10 → ⊥) → ((to : ℕ) → IsWhiteSpace source at to → ⊥)
      → is_ignored context.state ≡ false → (BeginsHashLine source context at → ⊥)
      → (code : FaultCode) → IsNoToken source at code → IsWrong source context at code
  no_token_code inside no_line_feed no_white heard no_hash_line codes.BadToken none = record {
    inside = inside;
    no_piece = λ p is_piece. no_token_stands no_line_feed no_white heard no_hash_line none p.end p.kind is_piece.stands;
    not_too_large = λ also. none.1;
    no_hash_line = no_hash_line;
  }
  no_token_code inside no_line_feed no_white heard no_hash_line codes.ConstantTooLarge none = (heard, none)
  no_token_code inside no_line_feed no_white heard no_hash_line codes.Memory none = absurd none
  no_token_code inside no_line_feed no_white heard no_hash_line codes.SourceTooLong none = absurd none
  no_token_code inside no_line_feed no_white heard no_hash_line codes.Syntax none = absurd none
  no_token_code inside no_line_feed no_white heard no_hash_line codes.BadHashLine none = absurd none
  no_token_code inside no_line_feed no_white heard no_hash_line codes.UnknownDirective none = absurd none
  no_token_code inside no_line_feed no_white heard no_hash_line codes.BadClause none = absurd none
  no_token_code inside no_line_feed no_white heard no_hash_line codes.Undeclared none = absurd none
  no_token_code inside no_line_feed no_white heard no_hash_line codes.Redeclared none = absurd none
  no_token_code inside no_line_feed no_white heard no_hash_line codes.Misuse none = absurd none
  no_token_code inside no_line_feed no_white heard no_hash_line codes.TooMany none = absurd none
  no_token_code inside no_line_feed no_white heard no_hash_line codes.LoopForm none = absurd none
  no_token_code inside no_line_feed no_white heard no_hash_line codes.Unlisted none = absurd none
  no_token_code inside no_line_feed no_white heard no_hash_line codes.LeavesConstruct none = absurd none
  no_token_code inside no_line_feed no_white heard no_hash_line codes.NoMain none = absurd none
  no_token_code inside no_line_feed no_white heard no_hash_line codes.TooDeep none = absurd none

  pub no_token_at : at < length source → (slice_index source at ≡ 10 → ⊥) → ((to : ℕ) → IsWhiteSpace source at to
      → ⊥) → is_ignored context.state ≡ false → (BeginsHashLine source context at → ⊥)
      → (fault : SourceFault) → (fault ≡ no_memory) ⊎ ((fault.at ≡ at) × IsNoToken source at fault.code)
      → IsWrongAt source context at fault
  no_token_at inside no_line_feed no_white heard no_hash_line fault (inl memory) = inl memory
  no_token_at inside no_line_feed no_white heard no_hash_line fault (inr none) =
      inr (none.0, no_token_code inside no_line_feed no_white heard no_hash_line fault.code none.1)

  line_code : BeginsHashLine source context at → (code : FaultCode) → IsWrongHashLine source context.macros at code
      → IsWrong source context at code
  line_code begins codes.BadHashLine wrong = (begins, wrong)
  line_code begins codes.TooMany wrong = (begins, wrong)
  line_code begins codes.BadToken wrong = absurd wrong
  line_code begins codes.ConstantTooLarge wrong = absurd wrong
  line_code begins codes.Memory wrong = absurd wrong
  line_code begins codes.SourceTooLong wrong = absurd wrong
  line_code begins codes.Syntax wrong = absurd wrong
  line_code begins codes.UnknownDirective wrong = absurd wrong
  line_code begins codes.BadClause wrong = absurd wrong
  line_code begins codes.Undeclared wrong = absurd wrong
  line_code begins codes.Redeclared wrong = absurd wrong
  line_code begins codes.Misuse wrong = absurd wrong
  line_code begins codes.LoopForm wrong = absurd wrong
  line_code begins codes.Unlisted wrong = absurd wrong
  line_code begins codes.LeavesConstruct wrong = absurd wrong
  line_code begins codes.NoMain wrong = absurd wrong
  line_code begins codes.TooDeep wrong = absurd wrong

  -- what is wrong with a `#` line is wrong there
  pub wrong_line_at : BeginsHashLine source context at → (fault : SourceFault) → (fault ≡ no_memory)
      ⊎ ((fault.at ≡ at) × IsWrongHashLine source context.macros at fault.code) → IsWrongAt source context at fault
  wrong_line_at begins fault (inl memory) = inl memory
  wrong_line_at begins fault (inr wrong) = inr (wrong.0, line_code begins fault.code wrong.1)

  -- a comment that never ends
  endless_stands : BeginsComment source at → ((to : ℕ) → IsWhiteSpace source at to → ⊥)
      → (to : ℕ) (kind : PieceKind) → Stands source context at to kind → ⊥
  endless_stands begins no_white to pieces.LineFeed s = omega (arith, begins.0, s.0)
  endless_stands begins no_white to pieces.Space s = no_white to s
  endless_stands begins no_white to (pieces.Token kind) s = ⊎_elim (λ e. e.longest.no_comment begins)
      (λ t. omega (arith, begins.0, t.2.0)) s.1
  endless_stands begins no_white to (pieces.HashLine line) s = omega (
    arith,
    begins.0,
    line_hash source
        context.macros at to line s.1,
  )
  endless_stands begins no_white to pieces.Passed s = s.1.no_comment begins

  pub endless_comment : at < length source → BeginsComment source at → ((to : ℕ) → IsWhiteSpace source at to → ⊥)
      → IsBadToken source context at
  endless_comment inside begins no_white = record {
    inside = inside;
    no_piece = λ p is_piece. endless_stands begins no_white p.end p.kind is_piece.stands;
    not_too_large = λ heard large. large.longest.no_comment begins;
    no_hash_line = λ hash. omega (arith, begins.0, hash.0);
  }

  -- no ASCII character, in a pragma that is ignored
  high_stands : is_ignored context.state ≡ true → 128 ≤ slice_index source at
      → ((to : ℕ) → IsWhiteSpace source at to → ⊥) → (to : ℕ) (kind : PieceKind) → Stands source context at to kind → ⊥
  high_stands ignored high no_white to pieces.LineFeed s = omega (arith, high, s.0)
  high_stands ignored high no_white to pieces.Space s = no_white to s
  high_stands ignored high no_white to (pieces.Token kind) s = both_ways _ s.0 ignored
  high_stands ignored high no_white to (pieces.HashLine line) s = omega
      (arith, high, line_hash source context.macros at to line s.1)
  high_stands ignored high no_white to pieces.Passed s = omega (arith, high, s.1.ascii)

  pub high_byte : at < length source → is_ignored context.state ≡ true → 128 ≤ slice_index source at
      → ((to : ℕ) → IsWhiteSpace source at to → ⊥) → IsBadToken source context at
  high_byte inside ignored high no_white = record {
    inside = inside;
    no_piece = λ p is_piece. high_stands ignored high no_white p.end p.kind is_piece.stands;
    not_too_large = λ heard. absurd (both_ways _ heard ignored);
    no_hash_line = λ hash. omega (arith, high, hash.0);
  }
