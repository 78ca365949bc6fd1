-- Each clause of a directive stands where one is expected.
use Rattle.std.proofs.Common.{◌≡◌, List, [], ◌∷◌, ◌++◌, refl, sym, ap, subst, ◌∙◌, append_assoc}
use Rattle.std.specs.List.{flat_map}
use Rattle.std.proofs.lemmas.List.{append-nil}
use Rattle.std.proofs.lemmas.List.Concat.{flat_map-append}
use Rattle.om_lexer.specs.declared.token.Token.{Token}
use Rattle.om_lexer.specs.declared.token.TokenKind.TheVariants as kinds
use Rattle.om_pragma.specs.declared.clause.ClauseItem.{ClauseItem}
use Rattle.om_pragma.specs.declared.tree.Directive.{Directive}
use Rattle.om_pragma.specs.declared.tree.DirectiveName.{DirectiveName}
use Rattle.om_pragma.specs.Expressions.{IsClosed}
use Rattle.om_pragma.specs.Refusals.{ClausesStand}
use Rattle.om_pragma.specs.Spelling.{token, item_spelling, directive_spelling}
use Rattle.om_pragma.specs.Table.{EachBehind, IsBetween, IsItem, IsDirective}
use Rattle.om_pragma.proofs.Directives.{Items, spelling, whole_written, each_written}

-- the clauses before one are formed, and a comma stands only between two
each_before : (name : DirectiveName) (before front rest : Items) (i : ClauseItem (List Token))
    → EachBehind (IsItem IsClosed name) before (front ++ i ∷ rest) → EachBehind (IsItem IsClosed name) before front
    × IsBetween (before ++ front) i.comma
unfolding EachBehind
each_before name before [] rest i each = (
  tt,
  subst (λ (b : Items). IsBetween b i.comma) (sym (append-nil before))
      each.0.between,
)
each_before name before (j ∷ front) rest i each =
    let later = each_before name (before ++ j ∷ []) front rest i each.1 in
    ((each.0, later.0), subst (λ (b : Items). IsBetween b i.comma) (append_assoc before (j ∷ []) front) later.1)

pub clauses_stand : ClausesStand
unfolding directive_spelling item_spelling IsDirective
clauses_stand d front rest i formed split =
    let each = each_before d.name [] front rest i (subst (λ (w : Items). EachBehind (IsItem IsClosed d.name) [] w)
    split formed) in
    let end : List Token = token kinds.DirectiveEnd d.end ∷ [] in
    record {
      hash = d.hash;
      pragma = d.pragma;
      omp = d.omp;
      comma = i.comma;
      behind_name = spelling d.clauses ++ end;
      parts = refl;
      behind_parts = ap (λ (w : Items). spelling w ++ end) split ∙ ap (λ (w : List Token). w ++ end)
          (flat_map-append (item_spelling (λ e. e)) front (i ∷ rest)) ∙ simp append_assoc;
      whole_name = whole_written d.name d.clauses d.end (each_written d.name [] d.clauses formed);
      formed = each.0;
      between = each.1;
    }
