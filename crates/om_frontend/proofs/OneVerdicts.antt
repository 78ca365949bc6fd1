-- A source has one verdict, by the laws of the passes.
use Rattle.std.proofs.Common.{◌≡◌, ℕ, List, Option, None, Some, Ok, Err, sym, ap, subst, ◌∙◌}
use Rattle.om_code.specs.declared.raw.Raw.{Raw}
use Rattle.om_lexer.specs.declared.fault.FaultCode.{FaultCode}
use Rattle.om_lexer.specs.declared.fault.SourceFault.{SourceFault}
use Rattle.om_lexer.specs.declared.token.Token.{Token}
use Rattle.om_lexer.specs.Sources.{IsTokens, IsFault}
use Rattle.om_lower.specs.Laws.{OneTooMany, WithinIsNotTooMany}
use Rattle.om_lower.specs.Limits.{AreWithin, IsTooMany}
use Rattle.om_parser.specs.Parsing.{IsTreeOf}
use Rattle.om_parser.specs.Refusals.{refusal_of}
use Rattle.om_scope_tree.specs.ResolvedTree.{ResolvedTree}
use Rattle.om_lower_rules.specs.Code.{IsCodeOf}
use Rattle.om_lower_rules.specs.Laws.{OneCode}
use Rattle.om_scope_rules.specs.Breaches.{breaches_of}
use Rattle.om_scope_rules.specs.Faults.{first_of}
use Rattle.om_scope_rules.specs.UnitResolution.{resolution_of}
use Rattle.om_parser_tree.specs.Formed.{IsUnit}
use Rattle.om_parser_tree.specs.Sizes.{IsWithinLimits, AtomicsHaveForms}
use Rattle.om_parser_tree.specs.Spelling.{unit_spelling}
use Rattle.om_parser_tree.specs.Tree.{UnitTree}
use Rattle.om_frontend.specs.Laws.{OneVerdict}
use Rattle.om_frontend.specs.Verdict.{IsTreeOfSource, IsResolutionOfSource, IsProgramOf, IsRefused, by_lexer, by_parser}
use Rattle.om_frontend.specs.Verdict.{by_names, by_code}

-- what the passes promise of each source, of its tokens, and of each tree
pub record PassLaws : Type 0 where
  pub one_token_list : (source : List ℕ) (ts us : List Token) → IsTokens source ts → IsTokens source us → ts ≡ us
  pub tokens_no_fault : (source : List ℕ) (ts : List Token) (code : FaultCode) (at : ℕ) → IsTokens source ts
      → IsFault source code at → ⊥
  pub one_fault : (source : List ℕ) (c d : FaultCode) (a b : ℕ) → IsFault source c a → IsFault source d b
      → (c ≡ d) × (a ≡ b)
  pub one_tree : (t u : UnitTree) → IsUnit t → IsUnit u → unit_spelling t ≡ unit_spelling u → t ≡ u
  pub accepted : (tokens : List Token) (unit : UnitTree) → IsTreeOf tokens unit → IsWithinLimits unit
      → AtomicsHaveForms unit → refusal_of tokens ≡ None
  pub one_code : OneCode
  pub within_is_not_too_many : WithinIsNotTooMany
  pub one_too_many : OneTooMany

-- what is there is one, and is not none
some_is : {A : Type 0} (x y : A) → Some x ≡ Some y → x ≡ y
some_is x y e = cc e

none_or_some : {A : Type 0} (x : A) (found : Option A) → found ≡ None → found ≡ Some x → ⊥
none_or_some x found none some = let both : None ≡ Some x = sym none ∙ some in absurd cc

module _ (laws : PassLaws) (source : List ℕ) where
  one_tree : (t u : UnitTree) → IsTreeOfSource source t → IsTreeOfSource source u → t ≡ u
  one_tree t u a b = laws.one_tree t u a.parsed.formed b.parsed.formed
      (a.parsed.spelled ∙ laws.one_token_list source a.tokens b.tokens a.lexed b.lexed ∙ sym b.parsed.spelled)

  one_resolution : (r s : ResolvedTree) → IsResolutionOfSource source r → IsResolutionOfSource source s → r ≡ s
  one_resolution r s a b =
      let same = one_tree a.tree b.tree a.has_tree b.has_tree in
      some_is r s (sym a.resolves ∙ ap resolution_of same ∙ b.resolves)

  one_program : (p q : Raw) → IsProgramOf source p → IsProgramOf source q → p ≡ q
  one_program p q a b =
      let same = one_resolution a.resolved b.resolved a.has_resolution b.has_resolution in
      laws.one_code a.resolved p q a.code (subst (λ r. IsCodeOf r q) (sym same) b.code)

  -- ---- a pass that refuses gives nothing to the next one

  no_tokens : (f : SourceFault) (ts : List Token) → IsFault source f.code f.at → IsTokens source ts → ⊥
  no_tokens f ts fault lexed = laws.tokens_no_fault source ts f.code f.at lexed fault

  no_tree : (f : SourceFault) (ts : List Token) (t : UnitTree) → IsTokens source ts → refusal_of ts ≡ Some f
      → IsTreeOfSource source t → ⊥
  no_tree f ts t lexed refused a =
      let same = laws.one_token_list source a.tokens ts a.lexed lexed in
      let none = laws.accepted a.tokens t a.parsed a.within_limits a.forms in
      none_or_some f (refusal_of ts) (sym (ap refusal_of same) ∙ none) refused

  no_resolution : (f : SourceFault) (t : UnitTree) (r : ResolvedTree) → IsTreeOfSource source t
      → first_of (breaches_of t) ≡ Some f → IsResolutionOfSource source r → ⊥
  no_resolution f t r a first b =
      let same = one_tree b.tree t b.has_tree a in
      none_or_some f (first_of (breaches_of t))
      (ap first_of (sym (ap breaches_of same) ∙ b.no_breach)) first

  no_program : (f : SourceFault) (r : ResolvedTree) (p : Raw) → IsResolutionOfSource source r → IsTooMany r f
      → IsProgramOf source p → ⊥
  no_program f r p a over b =
      let same = one_resolution b.resolved r b.has_resolution a in
      laws.within_is_not_too_many r f (subst AreWithin same b.within) over

  -- a source with a resolution is not refused before its code
  program_or_refusal : (p : Raw) (f : SourceFault) → IsProgramOf source p → IsRefused source f → ⊥
  program_or_refusal p f b (by_lexer fault) =
      no_tokens f b.has_resolution.has_tree.tokens fault b.has_resolution.has_tree.lexed
  program_or_refusal p f b (by_parser ts lexed wrong refused) =
      no_tree f ts b.has_resolution.tree lexed refused b.has_resolution.has_tree
  program_or_refusal p f b (by_names t a first) = no_resolution f t b.resolved a first b.has_resolution
  program_or_refusal p f b (by_code r a over) = no_program f r p a over b

  -- ---- one refusal

  one_refusal : (f g : SourceFault) → IsRefused source f → IsRefused source g → f ≡ g
  one_refusal f g (by_lexer a) (by_lexer b) =
      let same = laws.one_fault source f.code g.code f.at g.at a b in
      λ i. record { code = same.0 i; at = same.1 i }
  one_refusal f g (by_lexer a) (by_parser ts lexed wrong refused) = absurd (no_tokens f ts a lexed)
  one_refusal f g (by_lexer a) (by_names t b first) = absurd (no_tokens f b.tokens a b.lexed)
  one_refusal f g (by_lexer a) (by_code r b over) = absurd (no_tokens f b.has_tree.tokens a b.has_tree.lexed)
  one_refusal f g (by_parser ts lexed wrong refused) (by_lexer b) = absurd (no_tokens g ts b lexed)
  one_refusal f g (by_parser ts lexed wrong refused) (by_parser us lexed' wrong' refused') =
      let same = laws.one_token_list source ts us lexed lexed' in
      some_is f g (sym refused ∙ ap refusal_of same ∙ refused')
  one_refusal f g (by_parser ts lexed wrong refused) (by_names t b first) = absurd (no_tree f ts t lexed refused b)
  one_refusal f g (by_parser ts lexed wrong refused) (by_code r b over) =
      absurd (no_tree f ts b.tree lexed refused b.has_tree)
  one_refusal f g (by_names t a first) (by_lexer b) = absurd (no_tokens g a.tokens b a.lexed)
  one_refusal f g (by_names t a first) (by_parser us lexed wrong refused) = absurd (no_tree g us t lexed refused a)
  one_refusal f g (by_names t a first) (by_names u b first') =
      some_is f g (sym first ∙ ap (λ (v : UnitTree). first_of (breaches_of v)) (one_tree t u a b) ∙ first')
  one_refusal f g (by_names t a first) (by_code r b over) = absurd (no_resolution f t r a first b)
  one_refusal f g (by_code r a over) (by_lexer b) = absurd (no_tokens g a.has_tree.tokens b a.has_tree.lexed)
  one_refusal f g (by_code r a over) (by_parser us lexed wrong refused) =
      absurd (no_tree g us a.tree lexed refused a.has_tree)
  one_refusal f g (by_code r a over) (by_names u b first) = absurd (no_resolution g u r b first a)
  one_refusal f g (by_code r a over) (by_code s b over') =
      laws.one_too_many s f g (subst (λ t. IsTooMany t f) (one_resolution r s a b) over) over'

pub one_verdict : PassLaws → OneVerdict
one_verdict laws source (Ok p) (Ok q) a b = ap Ok (one_program laws source p q a b)
one_verdict laws source (Ok p) (Err g) a b = absurd (program_or_refusal laws source p g a b)
one_verdict laws source (Err f) (Ok q) a b = absurd (program_or_refusal laws source q f b a)
one_verdict laws source (Err f) (Err g) a b = ap Err (one_refusal laws source f g a b)
