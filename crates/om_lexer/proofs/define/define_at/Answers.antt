use Rattle.std.proofs.Common.{refl, ◌≡◌, ◌∙◌, slice_range, inr}
use Rattle.om_lexer.specs.Constants.{value_in}
use Rattle.om_lexer.proofs.HashLines.{bad_define, other_number}
use Rattle.om_lexer.proofs.define.define_at.Goals as goal

pub returns-in_default-clause-fault : goal.returns-in_default-clause-fault
returns-in_default-clause-fault c =
    inr (
      c.bad_hash_line.ensures.at,
      rw c.bad_hash_line.ensures.code (bad_define c.args.source.now c.args.macros.now c.args.at _ _
          c.requires.begins.1 (λ to name value d. absurd (c.in_default.ensures.none to name value d))),
    )

pub returns-in-Other-clause-fault : goal.returns-in-Other-clause-fault
returns-in-Other-clause-fault c =
    inr (
      c.bad_hash_line-in-Other.ensures.at,
      rw c.bad_hash_line-in-Other.ensures.code (bad_define c.args.source.now c.args.macros.now c.args.at _ _
          c.requires.begins.1 (other_number c.args.source.now c.args.macros.now c.args.end _ _ _
          c.in-Some.ensures.found c.in-Other.ensures)),
    )

pub returns-in_ok-from_slice-in-Allowed-clause-line : goal.returns-in_ok-from_slice-in-Allowed-clause-line
returns-in_ok-from_slice-in-Allowed-clause-line c =
    let source = c.args.source.now in
    let name : c.of-name.result ≡ slice_range source c.in-Some.found.name c.in-Some.found.name_end =
    c.of-name.ensures ∙ c.in_ok-from_slice-in-Allowed.ensures.items in (
      value_in 10 (slice_range source c.in-Some.found.number c.in-Some.found.number_end),
      record {
        word = c.requires.begins.0;
        word_end = c.args.end;
        begins = c.requires.begins.1;
        definition = rw name
            c.in-Some.ensures.found;
      },
      rw name c.in-Allowed.ensures,
    )

pub returns-in-TooMany-clause-fault : goal.returns-in-TooMany-clause-fault
returns-in-TooMany-clause-fault c =
    inr (
      refl,
      record {
        to = c.in-Some.found.number;
        name = slice_range c.args.source.now c.in-Some.found.name c.in-Some.found.name_end;
        value = value_in 10 (slice_range c.args.source.now c.in-Some.found.number c.in-Some.found.number_end);
        define = record {
          word = c.requires.begins.0;
          word_end = c.args.end;
          begins = c.requires.begins.1;
          definition = c.in-Some.ensures.found;
        };
        unknown = c.in-TooMany.ensures.0;
        full = c.in-TooMany.ensures.1;
      },
    )
