-- Which pass refuses a source.
use Rattle.std.proofs.Common.{◌≡◌, ◌≢◌, ◌⊎◌, inl, inr, ℕ, List, Some, Result, Ok, Err, IfErr}
use Rattle.om_lexer.specs.declared.fault.FaultCode.TheVariants.{Syntax, TooDeep, UnknownDirective, BadClause}
use Rattle.om_lexer.specs.declared.fault.SourceFault.{SourceFault}
use Rattle.om_lexer.specs.declared.token.Token.{Token}
use Rattle.om_lexer.specs.Faults.{no_memory}
use Rattle.om_lexer.specs.Sources.{IsTokens, IsRefusal}
use Rattle.om_parser.specs.Faults.{IsBadAtomic}
use Rattle.om_parser.specs.LineFaults.{IsRefusedLine}
use Rattle.om_parser.specs.Parsing.{IsTreeOf, IsLimitPassed}
use Rattle.om_parser.specs.Refusals.{refusal_of}
use Rattle.om_parser_tree.specs.Tree.{UnitTree}
use Rattle.om_scope_rules.specs.Breaches.{breaches_of}
use Rattle.om_scope_rules.specs.Faults.{first_of}
use Rattle.om_scope_tree.specs.ResolvedTree.{ResolvedTree}
use Rattle.om_lower.specs.Limits.{IsTooMany}
use Rattle.om_frontend.specs.Verdict.{IsTreeOfSource, IsResolutionOfSource, IsRefused, IsSyntaxFault, by_lexer}
use Rattle.om_frontend.specs.Verdict.{by_parser, by_names, by_code}

abbrev pub Refuses : List ℕ → SourceFault → Type 0
Refuses source fault = fault ≢ no_memory → IsRefused source fault

pub lexer_refuses : (source : List ℕ) (fault : SourceFault) → IsRefusal source fault → Refuses source fault
lexer_refuses source fault (inl none) other = absurd (other none)
lexer_refuses source fault (inr p) other = by_lexer p

syntax_fault : (tokens : List Token) (fault : SourceFault)
    → (fault.code ≡ Syntax → (tree : UnitTree) → ¬ IsTreeOf tokens tree)
    → (fault.code ≡ TooDeep → IsLimitPassed tokens fault.at)
    → (fault.code ≡ UnknownDirective → IsRefusedLine tokens fault)
    → (fault.code ≡ BadClause → IsRefusedLine tokens fault ⊎ IsBadAtomic tokens fault.at)
    → (fault ≡ no_memory) ⊎ (fault.code ≡ Syntax) ⊎ (fault.code ≡ TooDeep) ⊎ (fault.code ≡ UnknownDirective)
    ⊎ (fault.code ≡ BadClause)
    → fault ≢ no_memory
    → IsSyntaxFault tokens fault
syntax_fault tokens fault syntax deep unknown bad (inl none) memory = absurd (memory none)
syntax_fault tokens fault syntax deep unknown bad (inr (inl e)) memory = inl (e, syntax e)
syntax_fault tokens fault syntax deep unknown bad (inr (inr (inl e))) memory = inr (inl (e, deep e))
syntax_fault tokens fault syntax deep unknown bad (inr (inr (inr (inl e)))) memory = inr (inr (inl (e, unknown e)))
syntax_fault tokens fault syntax deep unknown bad (inr (inr (inr (inr e)))) memory = inr (inr (inr (e, bad e)))

pub parser_refuses : {X : Type 0} (source : List ℕ) (tokens : List Token) (r : Result X SourceFault)
    → IsTokens source tokens
    → IfErr r (λ fault. fault.code ≡ Syntax → (tree : UnitTree) → ¬ IsTreeOf tokens tree)
    → IfErr r (λ fault. fault.code ≡ TooDeep → IsLimitPassed tokens fault.at)
    → IfErr r (λ fault. fault.code ≡ UnknownDirective → IsRefusedLine tokens fault)
    → IfErr r (λ fault. fault.code ≡ BadClause → IsRefusedLine tokens fault ⊎ IsBadAtomic tokens fault.at)
    → IfErr r (λ fault. (fault ≡ no_memory) ⊎ (fault.code ≡ Syntax) ⊎ (fault.code ≡ TooDeep)
    ⊎ (fault.code ≡ UnknownDirective) ⊎ (fault.code ≡ BadClause))
    → IfErr r (λ fault. (fault ≡ no_memory) ⊎ (refusal_of tokens ≡ Some fault))
    → IfErr r (Refuses source)
parser_refuses source tokens (Ok x) lexed syntax deep unknown bad other one = tt
parser_refuses source tokens (Err fault) lexed syntax deep unknown bad other (inl none) = λ memory. absurd
    (memory none)
parser_refuses source tokens (Err fault) lexed syntax deep unknown bad other (inr one) = λ memory. by_parser tokens
    lexed (syntax_fault tokens fault syntax deep unknown bad other memory) one

pub names_refuse : {X : Type 0} (source : List ℕ) (tree : UnitTree) (r : Result X SourceFault)
    → IsTreeOfSource source tree
    → IfErr r (λ fault. fault ≢ no_memory → first_of (breaches_of tree) ≡ Some fault) → IfErr r (Refuses source)
names_refuse source tree (Ok x) has_tree first = tt
names_refuse source tree (Err fault) has_tree first = λ memory. by_names tree has_tree (first memory)

pub code_refuses : {X : Type 0} (source : List ℕ) (resolved : ResolvedTree) (r : Result X SourceFault)
    → IsResolutionOfSource source resolved
    → IfErr r (λ fault. fault ≢ no_memory → IsTooMany resolved fault) → IfErr r (Refuses source)
code_refuses source resolved (Ok x) has_resolution first = tt
code_refuses source resolved (Err fault) has_resolution first = λ memory. by_code resolved has_resolution (first memory)
