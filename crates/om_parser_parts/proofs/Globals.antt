-- Declarations at file scope: their initializers are numbers, so no limit is passed in them.
use Rattle.std.proofs.Common.{◌≡◌, List, ◌++◌, inl, inr}
use Rattle.om_lexer.specs.declared.token.Token.{Token}
use Rattle.om_parser_parts.specs.DeclarationReading.{signed_at, declaration_after}
use Rattle.om_parser_parts.specs.Laws.{IsAnswer, GlobalsAreSound, GlobalsAreReadAgain, GlobalsStopAtSyntax}
use Rattle.om_parser_parts.specs.PartReading.{global_at}
use Rattle.om_parser_parts.specs.Reading.{Outcome}
use Rattle.om_parser_tree.specs.declared.tree.SignedNumber.{SignedNumber}
use Rattle.om_parser_tree.specs.Limits.{expressions_of_declaration}
use Rattle.om_parser_tree.specs.Spelling.{signed_spelling}
use Rattle.om_parser_parts.proofs.DeclarationComplete.{EndsDeclarator, signed_again, declaration_rest, rest_is}
use Rattle.om_parser_parts.proofs.DeclarationComplete.{no_parameters, declaration_again}
use Rattle.om_parser_parts.specs.ItemsComplete.{all_any}
use Rattle.om_parser_parts.proofs.DeclarationCut.{signed_never_deep, declaration_never_deep}
use Rattle.om_parser_parts.proofs.DeclarationRefusals.{signed_refuses, declaration_refuses}
use Rattle.om_parser_parts.proofs.DeclarationSound.{signed_sound, declaration_after_sound}
use Rattle.om_parser_parts.specs.ItemsSound.{IsAny}
use Rattle.om_parser_parts.specs.Outcomes.{ok}

pub globals_sound : GlobalsAreSound
unfolding global_at
globals_sound int n ts x h = declaration_after_sound signed_spelling IsAny signed_at
    signed_sound int n ts x h

signed_answer : (s : SignedNumber) (rest : List Token) → IsAny s → EndsDeclarator rest
    → IsAnswer (IsAny s) (signed_at (signed_spelling s ++ rest)) (s, rest)
signed_answer s rest f ends = inl (signed_again s rest)

-- what always fits is read
always : {A : Type 0} {Fits : Type 0} (read : Outcome A) (x : A) → Fits → IsAnswer Fits read x → read ≡ ok x
always read x fits (inl is) = is
always read x fits (inr (stop, is, never)) = absurd (never fits)

pub globals_again : GlobalsAreReadAgain
unfolding global_at
globals_again d rest f = record {
  behind = declaration_rest signed_spelling d rest;
  parts = rest_is signed_spelling d rest;
  no_function = no_parameters signed_spelling d rest;
  read = always (declaration_after signed_at d.int d.first.name (declaration_rest signed_spelling d rest)) (d, rest)
      (all_any (expressions_of_declaration d)) (declaration_again signed_spelling IsAny IsAny signed_at signed_answer
      d rest f);
}

pub globals_stop : GlobalsStopAtSyntax
unfolding global_at
globals_stop int n ts f h = elim (declaration_refuses signed_at signed_refuses int n ts f h) [
  | inl syntax ↦ syntax
  | inr deep ↦ absurd (declaration_never_deep signed_at signed_never_deep int n ts f h deep)
]
