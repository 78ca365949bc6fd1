-- A directive with other expressions in place of its own, by the expressions that it has.
use Rattle.std.proofs.Common.{◌≡◌, ◌≤◌, List, [], ◌∷◌, ◌++◌, length, map, Option, Some, None, refl, sym, ap, subst, ◌∙◌}
use Rattle.std.proofs.Common.{arith}
use Rattle.std.specs.Prelude.{option_map, option_to_list}
use Rattle.std.specs.List.{flat_map}
use Rattle.om_lexer.specs.declared.token.Span.{Span}
use Rattle.om_lexer.specs.declared.token.Token.{Token}
use Rattle.om_pragma.specs.declared.clause.Clause.{Clause}
use Rattle.om_pragma.specs.declared.clause.Clause.TheVariants as clauses
use Rattle.om_pragma.specs.declared.clause.ClauseItem.{ClauseItem}
use Rattle.om_pragma.specs.declared.tree.Directive.{Directive}
use Rattle.om_pragma.specs.declared.tree.DirectiveName.{DirectiveName}
use Rattle.om_pragma.specs.Expressions.{clause_expression, clause_expressions, expressions, first_expression, or_else}
use Rattle.om_pragma.specs.Expressions.{map_clause, map_item, map_directive}
use Rattle.om_pragma.specs.Spelling.{argument_spelling, clause_spelling, item_spelling, directive_spelling}
use Rattle.om_pragma.specs.Table.{EachBehind, IsClause, IsItem, IsDirective}
use Rattle.om_parser_parts.specs.Outcomes.{some, some_is}

-- each of these is such
abbrev pub Each : {A : Type 0} → (A → Type 0) → List A → Type 0
Each P [] = Unit {0}
Each P (x ∷ xs) = P x × Each P xs

-- ---- clauses in a row

-- the expressions of clauses
abbrev pub in_items : {E : Type 0} → List (ClauseItem E) → List E
in_items = flat_map (λ i. clause_expressions i.clause)

pub first_is_only : {E : Type 0} (items : List (ClauseItem E)) → length (in_items items) ≤ 1 → in_items items
    ≡ option_to_list (first_expression items)
unfolding first_expression
first_is_only [] few = refl
first_is_only {E} (i ∷ items) few = go (clause_expression i.clause) (in_items items) refl few (first_is_only items)
  where
    go : (o : Option E) (es : List E) → in_items items ≡ es → length (option_to_list o ++ in_items items) ≤ 1
        → (length (in_items items) ≤ 1 → in_items items ≡ option_to_list (first_expression items))
        → option_to_list o ++ in_items items ≡ option_to_list (or_else o (first_expression items))
    go None es is few later = later few
    go (Some e) [] is few later = rw is refl
    go (Some e) (x ∷ es) is few later = let two = ap length is in absurd (omega (arith, two, few))

-- a clause behind its comma
abbrev pub item : {E : Type 0} → Option Span → Clause E → ClauseItem E
item comma c = record { comma = comma; clause = c }

-- they are one where each expression becomes one
same_items : {E F : Type 0} (f g : E → F) (items : List (ClauseItem E)) → Each (λ e. f e ≡ g e) (in_items items)
    → map (map_item f) items ≡ map (map_item g) items
same_items f g [] each = refl
same_items {E} {F} f g (i ∷ items) each = go i.clause each (same_items f g items)
  where
    go : (c : Clause E) → Each (λ e. f e ≡ g e) (clause_expressions c ++ in_items items)
        → (Each (λ e. f e ≡ g e) (in_items items) → map (map_item f) items ≡ map (map_item g) items)
        → item i.comma (map_clause f c) ∷ map (map_item f) items ≡ item i.comma (map_clause g c) ∷ map (map_item g)
        items
    go (clauses.Value k s v) each later = rw (each.0, later each.1) refl
    go (clauses.Default s a) each later = rw (later each) refl
    go (clauses.Data k s l) each later = rw (later each) refl
    go (clauses.Reduction s r) each later = rw (later each) refl
    go (clauses.Schedule s a) each later = rw (later each) refl
    go (clauses.Plain k s) each later = rw (later each) refl

same_spelled : {E : Type 0} (g h : E → List Token) (items : List (ClauseItem E)) → Each (λ e. g e ≡ h e)
    (in_items items) → flat_map (item_spelling g) items ≡ flat_map (item_spelling h) items
unfolding item_spelling clause_spelling argument_spelling
same_spelled g h [] each = refl
same_spelled {E} g h (i ∷ items) each = go i.clause each (same_spelled g h items)
  where
    go : (c : Clause E) → Each (λ e. g e ≡ h e) (clause_expressions c ++ in_items items)
        → (Each (λ e. g e ≡ h e) (in_items items) → flat_map (item_spelling g) items ≡ flat_map (item_spelling h) items)
        → item_spelling g (item i.comma c) ++ flat_map (item_spelling g) items ≡ item_spelling h (item i.comma c)
        ++ flat_map (item_spelling h) items
    go (clauses.Value k s v) each later = rw (each.0, later each.1) refl
    go (clauses.Default s a) each later = rw (later each) refl
    go (clauses.Data k s l) each later = rw (later each) refl
    go (clauses.Reduction s r) each later = rw (later each) refl
    go (clauses.Schedule s a) each later = rw (later each) refl
    go (clauses.Plain k s) each later = rw (later each) refl

clause_twice : {E F G : Type 0} (f : E → F) (g : F → G) (c : Clause E) → map_clause g (map_clause f c)
    ≡ map_clause (λ e. g (f e)) c
clause_twice f g (clauses.Value k s v) = refl
clause_twice f g (clauses.Default s a) = refl
clause_twice f g (clauses.Data k s l) = refl
clause_twice f g (clauses.Reduction s r) = refl
clause_twice f g (clauses.Schedule s a) = refl
clause_twice f g (clauses.Plain k s) = refl

items_twice : {E F G : Type 0} (f : E → F) (g : F → G) (items : List (ClauseItem E)) → map (map_item g)
    (map (map_item f) items) ≡ map (map_item (λ e. g (f e))) items
items_twice f g [] = refl
items_twice f g (i ∷ items) = rw (clause_twice f g i.clause, items_twice f g items) refl

clause_itself : {E : Type 0} (c : Clause E) → map_clause (λ e. e) c ≡ c
clause_itself (clauses.Value k s v) = refl
clause_itself (clauses.Default s a) = refl
clause_itself (clauses.Data k s l) = refl
clause_itself (clauses.Reduction s r) = refl
clause_itself (clauses.Schedule s a) = refl
clause_itself (clauses.Plain k s) = refl

items_itself : {E : Type 0} (items : List (ClauseItem E)) → map (map_item (λ e. e)) items ≡ items
items_itself [] = refl
items_itself (i ∷ items) = rw (clause_itself i.clause, items_itself items) refl

pub first_mapped : {E F : Type 0} (f : E → F) (items : List (ClauseItem E)) → first_expression
    (map (map_item f) items) ≡ option_map f (first_expression items)
unfolding first_expression
first_mapped f [] = refl
first_mapped {E} f (i ∷ items) = go i.clause (first_mapped f items)
  where
    go : (c : Clause E) → first_expression (map (map_item f) items) ≡ option_map f (first_expression items)
        → or_else (clause_expression (map_clause f c)) (first_expression (map (map_item f) items))
        ≡ option_map f (or_else (clause_expression c) (first_expression items))
    go (clauses.Value k s v) later = refl
    go (clauses.Default s a) later = later
    go (clauses.Data k s l) later = later
    go (clauses.Reduction s r) later = later
    go (clauses.Schedule s a) later = later
    go (clauses.Plain k s) later = later

formed_first : {E : Type 0} (P : E → Type 0) (n : DirectiveName) (before items : List (ClauseItem E))
    → EachBehind (IsItem P n) before items → (e : E) → first_expression items ≡ some e → P e
unfolding EachBehind first_expression
formed_first P n before [] each e is = absurd cc
formed_first {E} P n before (i ∷ items) each e is = go i.clause each.0.formed (formed_first P n (before ++ i ∷ [])
    items each.1 e) is
  where
    go : (c : Clause E) → IsClause P c → (first_expression items ≡ some e → P e) → or_else (clause_expression c)
        (first_expression items) ≡ some e → P e
    go (clauses.Value k s v) formed later is = subst P (some_is v.expression e is) formed
    go (clauses.Default s a) formed later is = later is
    go (clauses.Data k s l) formed later is = later is
    go (clauses.Reduction s r) formed later is = later is
    go (clauses.Schedule s a) formed later is = later is
    go (clauses.Plain k s) formed later is = later is

-- ---- a directive

pub mapped_twice : {E F G : Type 0} (f : E → F) (g : F → G) (d : Directive E) → map_directive g (map_directive f d)
    ≡ map_directive (λ e. g (f e)) d
mapped_twice f g d = rw (items_twice f g d.clauses) refl

-- the first expression of a directive is as its table has it
pub formed_value : {E : Type 0} (P : E → Type 0) (d : Directive E) → IsDirective P d → (e : E) → first_expression
    d.clauses ≡ some e → P e
unfolding IsDirective
formed_value P d formed e is = formed_first P d.name [] d.clauses formed e is

-- the expressions of a directive that has one at most are its first one, if it has one
pub only_first : {E : Type 0} (d : Directive E) → length (expressions d) ≤ 1 → (o : Option E) → first_expression
    d.clauses ≡ o → expressions d ≡ option_to_list o
unfolding expressions
only_first d few o is = first_is_only d.clauses few ∙ ap option_to_list is

-- what is known of the first expression is known of each
each_first : {E : Type 0} (d : Directive E) → length (expressions d) ≤ 1 → (o : Option E) → first_expression
    d.clauses ≡ o → (Q : E → Type 0) → Each Q (option_to_list o) → Each Q (in_items d.clauses)
unfolding expressions
each_first {E} d few o is Q each = subst (λ (es : List E). Each Q es) (sym (only_first d few o is)) each

module _ {E : Type 0} (d : Directive E) (few : length (expressions d) ≤ 1) (o : Option E)
    (is : first_expression d.clauses ≡ o) where
  -- nothing is changed where the first expression is not
  pub mapped_itself : (f : E → E) → Each (λ e. f e ≡ e) (option_to_list o) → map_directive f d ≡ d
  mapped_itself f each = rw (
    same_items f (λ e. e) d.clauses (each_first d few o is (λ e. f e ≡ e) each),
    items_itself d.clauses,
  ) refl

  -- the tokens are the same where those of the first expression are
  pub same_tokens : (g h : E → List Token) → Each (λ e. g e ≡ h e) (option_to_list o) → directive_spelling g d
      ≡ directive_spelling h d
  unfolding directive_spelling
  same_tokens g h each = rw (same_spelled g h d.clauses (each_first d few o is (λ e. g e ≡ h e) each)) refl
