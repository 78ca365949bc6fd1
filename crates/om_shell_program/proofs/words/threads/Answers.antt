use Rattle.std.proofs.Common.{◌∙◌, ◌≡◌, rules}
use Rattle.std.specs.Prelude.{Some, pos}
use Rattle.clap.specs.declared.builder.value_parser.ValueParser.TheVariants as vp
use Rattle.om_shell_program.specs.Arguments.{IsThreads}
use Rattle.om_shell_program.proofs.words.threads.Goals as goal

pub returns : goal.returns
returns c =
    let parser = c.value_parser-2.ensures.given in
    let made : c.range.result ≡ vp.Signed (pos 1) (pos 32) =
    rw (c.value_parser.ensures, c.new-2.ensures.start, c.new-2.ensures.end) at c.range.ensures in record {
      id = search rules;
      plain = rw (
        c.value_parser-2.ensures.others,
        c.action.ensures,
        c.default_value.ensures,
        c.help.ensures,
        c.value_name.ensures,
        c.long.ensures,
      ) c.new.ensures.plain;
      local = rw (
        c.value_parser-2.ensures.others,
        c.action.ensures,
        c.default_value.ensures,
        c.help.ensures,
        c.value_name.ensures,
        c.long.ensures,
      ) c.new.ensures.optional.1;
      wants = search rules;
      set = search rules;
      delim = search rules;
      least = search rules;
      parser = parser.1 ∙ (λ j. Some ((parser.2 ∙ made) j));
    }
