-- The kinds of clauses stay when their expressions change.
use Rattle.std.proofs.Common.{◌≡◌, List, [], ◌∷◌, map, true, false, refl}
use Rattle.std.specs.List.{list_any}
use denote.Ref.{Bor}
use Rattle.om_lexer.specs.declared.token.Token.{Token}
use Rattle.om_pragma.specs.declared.clause.Clause.{Clause}
use Rattle.om_pragma.specs.declared.clause.Clause.TheVariants as clauses
use Rattle.om_pragma.specs.declared.clause.ClauseItem.{ClauseItem}
use Rattle.om_pragma.specs.declared.clause.ClauseKind.{ClauseKind}
use Rattle.om_pragma.specs.Expressions.{map_clause, map_item, tokens_in}
use Rattle.om_pragma.specs.Spelling.{kind_of}
use Rattle.om_pragma.specs.Table.{kinds_of, may_repeat, excludes}

pub same_kind_of : {E F : Type 0} (f : E → F) (c : Clause E) → kind_of (map_clause f c) ≡ kind_of c
same_kind_of f (clauses.Value k s v) = refl
same_kind_of f (clauses.Default s a) = refl
same_kind_of f (clauses.Data k s l) = refl
same_kind_of f (clauses.Reduction s r) = refl
same_kind_of f (clauses.Schedule s a) = refl
same_kind_of f (clauses.Plain k s) = refl

pub excluded : (before : List (ClauseItem (Bor (List Token)))) (k : ClauseKind) → list_any (λ j. excludes j k)
    (kinds_of (map (map_item tokens_in) before)) ≡ list_any (λ i. excludes (kind_of i.clause) k) before
excluded [] k = refl
excluded (i ∷ is) k = rw (same_kind_of tokens_in i.clause, excluded is k) refl

-- none excludes a clause that can repeat
pub none_excluded : (before : List ClauseKind) (k : ClauseKind) → may_repeat k ≡ true → list_any (λ j. excludes j k)
    before ≡ false
none_excluded [] k repeats = refl
none_excluded (j ∷ js) k repeats = rw (repeats, none_excluded js k repeats) refl
