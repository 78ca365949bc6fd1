-- The last of some tokens is the end of a line, or not: words and clauses end with none.
use Rattle.std.proofs.Common.{◌≡◌, List, [], ◌∷◌, ◌++◌, Option, Some, None, Bool, false, refl}
use Rattle.std.specs.List.{flat_map}
use Rattle.om_lexer.specs.declared.token.Punctuator.TheVariants as punctuators
use Rattle.om_lexer.specs.declared.token.Span.{Span}
use Rattle.om_lexer.specs.declared.token.Token.{Token}
use Rattle.om_pragma.specs.declared.clause.Clause.{Clause}
use Rattle.om_pragma.specs.declared.clause.Clause.TheVariants as clauses
use Rattle.om_pragma.specs.declared.clause.ClauseItem.{ClauseItem}
use Rattle.om_pragma.specs.declared.clause.Name as names
use Rattle.om_pragma.specs.declared.tree.DirectiveName.{DirectiveName}
use Rattle.om_pragma.specs.declared.tree.DirectiveName.TheVariants as directives
use Rattle.om_pragma.specs.Reading.{is_end}
use Rattle.om_pragma.specs.Spelling.{token, mark, name, further_spelling, names_spelling, list_spelling, chunk_spelling}
use Rattle.om_pragma.specs.Spelling.{argument_spelling, clause_spelling, comma_spelling, item_spelling}
use Rattle.om_pragma.specs.Spelling.{critical_spelling, flush_spelling, name_spelling, kind_of, span_of}
use Rattle.om_pragma.specs.Words.{clause_word, operator_word, schedule_word}
use Rattle.om_pragma.proofs.Items.{clause_is_word, word_no_end}

-- whether the last is the end of a line
abbrev pub ends : List Token → Bool
ends [] = false
ends (t ∷ []) = is_end t.kind
ends (t ∷ (u ∷ us)) = ends (u ∷ us)

pub ends_last : (xs : List Token) (t : Token) → ends (xs ++ t ∷ []) ≡ is_end t.kind
ends_last [] t = refl
ends_last (x ∷ []) t = refl
ends_last (x ∷ (y ∷ xs)) t = ends_last (y ∷ xs) t

pub ends_both : (xs ys : List Token) → ends xs ≡ false → ends ys ≡ false → ends (xs ++ ys) ≡ false
ends_both [] ys e f = f
ends_both (x ∷ []) [] e f = e
ends_both (x ∷ []) (y ∷ ys) e f = f
ends_both (x ∷ (z ∷ xs)) ys e f = ends_both (z ∷ xs) ys e f

pub ends_each : {A : Type 0} (f : A → List Token) → ((x : A) → ends (f x) ≡ false) → (xs : List A)
    → ends (flat_map f xs) ≡ false
ends_each f each [] = refl
ends_each f each (x ∷ xs) = ends_both (f x) (flat_map f xs) (each x) (ends_each f each xs)

-- ---- names

pub ends_further : (n : Span × names.Name) → ends (further_spelling n) ≡ false
unfolding further_spelling
ends_further n = refl

pub ends_names : (n : names.Name) (rest : List (Span × names.Name)) → ends (name n ∷ flat_map further_spelling rest)
    ≡ false
ends_names n rest = ends_both (name n ∷ []) (flat_map further_spelling rest) refl
    (ends_each further_spelling ends_further rest)

ends_closed : (n : names.Name) (rest : List (Span × names.Name)) (close : Span) → ends (names_spelling n rest close)
    ≡ false
unfolding names_spelling
ends_closed n rest close = ends_last (name n ∷ flat_map further_spelling rest) (mark punctuators.CloseParen close)

-- ---- clauses

ends_argument : (c : Clause (List Token)) → ends (argument_spelling (λ e. e) c) ≡ false
unfolding argument_spelling list_spelling
ends_argument (clauses.Value k s v) = ends_last (mark punctuators.OpenParen v.open_paren ∷ v.expression)
    (mark punctuators.CloseParen v.close_paren)
ends_argument (clauses.Default s a) = refl
ends_argument (clauses.Data k s l) = ends_both (mark punctuators.OpenParen l.open_paren ∷ [])
    (names_spelling l.first l.rest l.close_paren) refl (ends_closed l.first l.rest l.close_paren)
ends_argument (clauses.Reduction s r) = ends_both (mark punctuators.OpenParen r.open_paren
    ∷ token (operator_word r.operator) r.sign ∷ mark punctuators.Colon r.colon ∷ [])
    (names_spelling r.first r.rest r.close_paren) refl (ends_closed r.first r.rest r.close_paren)
ends_argument (clauses.Schedule s a) = ends_last (mark punctuators.OpenParen a.open_paren
    ∷ token (schedule_word a.kind) a.word ∷ chunk_spelling a.chunk) (mark punctuators.CloseParen a.close_paren)
ends_argument (clauses.Plain k s) = refl

ends_clause : (c : Clause (List Token)) → ends (clause_spelling (λ e. e) c) ≡ false
unfolding clause_spelling
ends_clause c = ends_both (token (clause_word (kind_of c)) (span_of c) ∷ []) (argument_spelling (λ e. e) c)
    (word_no_end (clause_word (kind_of c)) (clause_is_word (kind_of c))) (ends_argument c)

pub ends_comma : (c : Option Span) → ends (comma_spelling c) ≡ false
ends_comma (Some c) = refl
ends_comma None = refl

ends_item : (i : ClauseItem (List Token)) → ends (item_spelling (λ e. e) i) ≡ false
unfolding item_spelling
ends_item i = ends_both (comma_spelling i.comma) (clause_spelling (λ e. e) i.clause) (ends_comma i.comma)
    (ends_clause i.clause)

pub ends_items : (items : List (ClauseItem (List Token))) → ends (flat_map (item_spelling (λ e. e)) items) ≡ false
ends_items items = ends_each (item_spelling (λ e. e)) ends_item items

-- ---- the words of a directive

pub ends_words : (n : DirectiveName) → ends (name_spelling n) ≡ false
unfolding name_spelling critical_spelling flush_spelling list_spelling
ends_words (directives.Critical s (Some n)) = refl
ends_words (directives.Critical s None) = refl
ends_words (directives.Flush s (Some l)) = ends_both (mark punctuators.OpenParen l.open_paren ∷ [])
    (names_spelling l.first l.rest l.close_paren) refl (ends_closed l.first l.rest l.close_paren)
ends_words (directives.Flush s None) = refl
ends_words _ = refl
