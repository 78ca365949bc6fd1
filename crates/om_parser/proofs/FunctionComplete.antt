-- What the head of a function spells is read again as that head.
use Rattle.std.proofs.Common.{◌≡◌, List, [], ◌∷◌, ◌++◌, length, Option, Some, None, map, refl, append_assoc, inl, inr}
use Rattle.std.specs.List.{flat_map}
use Rattle.om_lexer.specs.declared.token.Keyword.TheVariants as keywords
use Rattle.om_lexer.specs.declared.token.Punctuator.TheVariants as punctuators
use Rattle.om_lexer.specs.declared.token.Span.{Span}
use Rattle.om_lexer.specs.declared.token.Token.{Token}
use Rattle.om_pragma.specs.declared.clause.Name as names
use Rattle.om_parser_tree.specs.declared.tree.Parameter.{Parameter}
use Rattle.om_parser.specs.FunctionReading.{parameter_at, further_parameter_at, listed_at, parameters_at, head_after}
use Rattle.om_parser.specs.FunctionReading.{named_parameter, named_further, named_parameters, named_head}
use Rattle.om_parser_parts.specs.Reading.{Outcome, take, same_mark, same_word, take_mark, take_word, take_name}
use Rattle.om_parser_parts.specs.Repetition.{optional, until}
use Rattle.om_parser_tree.specs.Spelling.{mark, word, perhaps, behind_comma, parameter_spelling, parameters_spelling}
use Rattle.om_parser_tree.specs.Spelling.{given_name}
use Rattle.om_parser_tree.specs.Tree.{ParametersTree, NoParameters, Void, Listed, HeadTree}
use Rattle.om_parser_parts.specs.Outcomes.{ok}
use Rattle.om_parser_parts.specs.Again.{take_mark_again, take_word_again, mark_again, word_again}
use Rattle.om_parser_parts.specs.Laws.{IsAnswer}
use Rattle.om_parser.proofs.FunctionSound.{further_parameter_some}
use Rattle.om_parser_parts.specs.ItemsSound.{IsAny}
use Rattle.om_parser_parts.specs.ItemsComplete.{all_any, AreAgain, until_again}

-- what stands behind a parameter: a comma or the right parenthesis
data EndsParameter : List Token → Type 0 where
  EndsByComma : (s : Span) (us : List Token) → EndsParameter (mark punctuators.Comma s ∷ us)
  EndsByParen : (s : Span) (us : List Token) → EndsParameter (mark punctuators.CloseParen s ∷ us)

no_name : (ts : List Token) → EndsParameter ts → take_name ts ≡ None
unfolding take_name take
no_name _ (EndsByComma s us) = refl
no_name _ (EndsByParen s us) = refl

name_if_any : (n : Option names.Name) (rest : List Token) → EndsParameter rest
    → optional (take_name (perhaps given_name n ++ rest)) (perhaps given_name n ++ rest) ≡ (n, rest)
unfolding take_name take
name_if_any (Some n) rest ends = refl
name_if_any None rest ends = rw (no_name rest ends) refl

parameter_again : (p : Parameter (Option names.Name)) (rest : List Token) → EndsParameter rest
    → parameter_at (parameter_spelling (perhaps given_name) p ++ rest) ≡ ok (p, rest)
unfolding parameter_at
parameter_again p rest ends = rw (
  word_again keywords.Int p.int (perhaps given_name p.name ++ rest),
  name_if_any p.name rest ends,
) refl

further_parameter_again : (p : Span × Parameter (Option names.Name)) (rest : List Token) → EndsParameter rest
    → further_parameter_at (behind_comma (parameter_spelling (perhaps given_name)) p ++ rest) ≡ ok (p, rest)
unfolding further_parameter_at
further_parameter_again p rest ends = rw (
  mark_again punctuators.Comma p.0 (parameter_spelling (perhaps given_name) p.1 ++ rest),
  parameter_again p.1 rest ends,
) refl

all_further_again : AreAgain (behind_comma (parameter_spelling (perhaps given_name))) IsAny IsAny EndsParameter
    (take_mark punctuators.CloseParen) further_parameter_at
unfolding take_mark take same_mark
all_further_again = record {
  one = λ p rest f ends. inl (further_parameter_again p rest ends);
  unended = λ p rest f. refl;
  follows = λ p rest f. EndsByComma p.0 (parameter_spelling (perhaps given_name) p.1 ++ rest);
  some_tokens = λ p f. further_parameter_some p;
}

ends_first : (ps : List (Span × Parameter (Option names.Name))) (s : Span) (rest : List Token)
    → EndsParameter (flat_map (behind_comma (parameter_spelling (perhaps given_name))) ps
    ++ mark punctuators.CloseParen s ∷ rest)
ends_first [] s rest = EndsByParen s rest
ends_first (p ∷ ps) s rest = EndsByComma p.0 ((parameter_spelling (perhaps given_name) p.1
    ++ flat_map (behind_comma (parameter_spelling (perhaps given_name))) ps) ++ mark punctuators.CloseParen s ∷ rest)

-- an answer that no limit hinders
surely : {A : Type 0} {Fits : Type 0} (read : Outcome A) (x : A) → Fits → IsAnswer Fits read x → read ≡ ok x
surely read x fits (inl e) = e
surely read x fits (inr (stop, e, never)) = absurd (never fits)

listed_again : (p : Parameter (Option names.Name)) (ps : List (Span × Parameter (Option names.Name))) (s : Span)
    (rest : List Token) → listed_at (parameter_spelling (perhaps given_name) p
    ++ (flat_map (behind_comma (parameter_spelling (perhaps given_name))) ps
    ++ mark punctuators.CloseParen s ∷ rest)) ≡ ok ((Listed p ps, s), rest)
unfolding listed_at
listed_again p ps s rest =
    let others : List Token = flat_map (behind_comma (parameter_spelling (perhaps given_name))) ps
    ++ mark punctuators.CloseParen s ∷ rest in
    let read = surely (until (take_mark punctuators.CloseParen) further_parameter_at (length others) others)
    (ps, s, rest) (all_any ps) (until_again (behind_comma (parameter_spelling
    (perhaps given_name))) IsAny IsAny EndsParameter
    (take_mark punctuators.CloseParen) further_parameter_at all_further_again (mark punctuators.CloseParen s) s
    rest (take_mark_again punctuators.CloseParen s rest) (EndsByParen s rest) ps (all_any ps)) in
    rw (parameter_again p others (ends_first ps s rest), read) refl

word_is_no_mark : (s : Span) (ts : List Token) → take_mark punctuators.CloseParen (word keywords.Int s ∷ ts) ≡ None
unfolding take_mark take
word_is_no_mark s ts = refl

void_is_no_mark : (s : Span) (ts : List Token) → take_mark punctuators.CloseParen (word keywords.Void s ∷ ts) ≡ None
unfolding take_mark take
void_is_no_mark s ts = refl

pub int_is_no_void : (s : Span) (ts : List Token) → take_word keywords.Void (word keywords.Int s ∷ ts) ≡ None
unfolding take_word take same_word
int_is_no_void s ts = refl

parameters_again : (p : ParametersTree (Option names.Name)) (s : Span) (rest : List Token)
    → parameters_at (parameters_spelling (perhaps given_name) p ++ mark punctuators.CloseParen s ∷ rest) ≡ ok
    ((p, s), rest)
unfolding parameters_at parameters_spelling
parameters_again NoParameters s rest = rw (take_mark_again punctuators.CloseParen s rest) refl
parameters_again (Void at) s rest = rw (
  void_is_no_mark at (mark punctuators.CloseParen s ∷ rest),
  take_word_again
      keywords.Void at (mark punctuators.CloseParen s ∷ rest),
  mark_again punctuators.CloseParen s rest,
) refl
parameters_again (Listed p ps) s rest =
    let others : List Token = flat_map (behind_comma (parameter_spelling (perhaps given_name))) ps
    ++ mark punctuators.CloseParen s ∷ rest in
    let back : List Token = perhaps given_name p.name ++ others in
    rw (append_assoc, word_is_no_mark p.int back, int_is_no_void p.int back) (listed_again p ps s rest)

-- a head is read again behind its left parenthesis
pub head_again : (h : HeadTree (Option names.Name)) (rest : List Token) → head_after h.result h.name h.open_paren
    (parameters_spelling (perhaps given_name) h.parameters ++ mark punctuators.CloseParen h.close_paren ∷ rest) ≡ ok
    (h, rest)
unfolding head_after
head_again h rest = rw (parameters_again h.parameters h.close_paren rest) refl

-- ---- the head of a definition, before names are asked for

abbrev unasked_parameter : Parameter names.Name → Parameter (Option names.Name)
unasked_parameter p = record { int = p.int; name = Some p.name }

abbrev unasked_further : List (Span × Parameter names.Name) → List (Span × Parameter (Option names.Name))
unasked_further ps = map (λ p. (p.0, unasked_parameter p.1)) ps

abbrev unasked_parameters : ParametersTree names.Name → ParametersTree (Option names.Name)
unasked_parameters NoParameters = NoParameters
unasked_parameters (Void at) = Void at
unasked_parameters (Listed p ps) = Listed (unasked_parameter p) (unasked_further ps)

abbrev pub unasked_head : HeadTree names.Name → HeadTree (Option names.Name)
unasked_head h = record {
  result = h.result;
  name = h.name;
  open_paren = h.open_paren;
  parameters = unasked_parameters h.parameters;
  close_paren = h.close_paren;
}

named_further_again : (body : List Token) (ps : List (Span × Parameter names.Name))
    → named_further body (unasked_further ps) ≡ ok ps
unfolding named_further named_parameter
named_further_again body [] = refl
named_further_again body (p ∷ ps) = rw (named_further_again body ps) refl

named_parameters_again : (body : List Token) (p : ParametersTree names.Name)
    → named_parameters body (unasked_parameters p) ≡ ok p
unfolding named_parameters named_parameter
named_parameters_again body NoParameters = refl
named_parameters_again body (Void at) = refl
named_parameters_again body (Listed p ps) = rw (named_further_again body ps) refl

pub named_head_again : (body : List Token) (h : HeadTree names.Name) → named_head body (unasked_head h) ≡ ok h
unfolding named_head
named_head_again body h = rw (named_parameters_again body h.parameters) refl
