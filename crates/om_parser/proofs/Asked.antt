-- Names of parameters that are asked for one after the other, as a loop does.
use Rattle.std.proofs.Common.{◌≡◌, ℕ, ◌+◌, ◌<◌, List, [], ◌∷◌, ◌++◌, length, drop, get_or, Option, Ok, Err}
use Rattle.std.proofs.Common.{refl, sym, ap, ◌∙◌, suc, add-one, append_assoc}
use Rattle.std.proofs.lemmas.List.{append-nil}
use Rattle.std.proofs.Math.Seq.{drop-cons}
use Rattle.om_lexer.specs.declared.fault.SourceFault.{SourceFault}
use Rattle.om_lexer.specs.declared.token.Span.{Span}
use Rattle.om_lexer.specs.declared.token.Token.{Token}
use Rattle.om_pragma.specs.declared.clause.Name as names
use Rattle.om_parser_tree.specs.declared.tree.Parameter.{Parameter}
use Rattle.om_parser.specs.FunctionReading.{named_parameter, named_further}
use Rattle.om_parser_parts.specs.Reading.{◌>>=◌, Outcome}

abbrev pub Asked : Type 0
Asked = Span × Parameter (Option names.Name)

abbrev pub Given : Type 0
Given = Span × Parameter names.Name

-- those that have been named, and those that are left
abbrev pub joined : List Given → Outcome (List Given) → Outcome (List Given)
joined named left = left >>= λ more. Ok (named ++ more)

pub none_named : (read : Outcome (List Given)) → read ≡ joined [] read
none_named (Ok more) = refl
none_named (Err fault) = refl

-- the next one
pub drop_item : (ps : List Asked) (i : ℕ) (p : Asked) → i < length ps → p ≡ get_or ps i p
    → drop i ps ≡ p ∷ drop (i + 1) ps
drop_item ps i p lt is = drop-cons ps i p lt ∙ ap (λ item. item ∷ drop (suc i) ps) (sym is)
    ∙ ap (λ n. p ∷ drop n ps) (sym (add-one i))

module _ (body : List Token) (total : Outcome (List Given)) (named : List Given) (p : Asked) (left : List Asked)
    (goes_on : total ≡ joined named (named_further body (p ∷ left))) where
  pub one_lacks : (fault : SourceFault) → named_parameter body p.1 ≡ Err fault → total ≡ Err fault
  unfolding named_further
  one_lacks fault lacks = goes_on ∙ rw lacks refl

  pub one_more : (q : Parameter names.Name) → named_parameter body p.1 ≡ Ok q
      → total ≡ joined (named ++ (p.0, q) ∷ []) (named_further body left)
  unfolding named_further
  one_more q has = goes_on ∙ rw has (regroup (named_further body left))
    where
      regroup : (read : Outcome (List Given)) → joined named (read >>= λ qs. Ok ((p.0, q) ∷ qs))
          ≡ joined (named ++ (p.0, q) ∷ []) read
      regroup (Ok qs) = ap (λ (all : List Given). Ok all) (sym (append_assoc named ((p.0, q) ∷ []) qs))
      regroup (Err fault) = refl

pub all_named : (body : List Token) (total : Outcome (List Given)) (named : List Given)
    → total ≡ joined named (named_further body []) → total ≡ Ok named
unfolding named_further
all_named body total named goes_on = goes_on ∙ ap (λ (all : List Given). Ok all) (append-nil named)
