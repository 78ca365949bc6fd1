use Rattle.std.proofs.Common.{◌≡◌, ◌+◌, slice_index, inr, sym, ap, ◌∙◌}
use Rattle.om_lexer.specs.declared.token.TokenKind.TheVariants as kinds
use Rattle.om_lexer.proofs.Quotes.{read_character, all_characters, no_characters}
use Rattle.om_lexer.proofs.Wrong.{bad_text}
use Rattle.om_lexer.proofs.text.text_at.Goals as goal

pub returns-in_default-clause-fault : goal.returns-in_default-clause-fault
returns-in_default-clause-fault c =
    let source = c.args.source.now in
    let no_quote : slice_index source c.loop-character.next ≡ 34 → ⊥ = λ quote. c.loop-character-test.true
    (c.byte_at.ensures.byte ∙ quote) in
    inr (
      c.bad_token.ensures.at,
      rw c.bad_token.ensures.code (bad_text source c.args.at c.requires.quote (no_characters source (c.args.at + 1)
          _ _ no_quote c.in_default.ensures.none c.loop-character.invariant.read)),
    )

pub loop-character-preserved : goal.loop-character-preserved
loop-character-preserved c =
    let source = c.args.source.now in
    let no_quote : slice_index source c.loop-character.next ≡ 34 → ⊥ = λ quote. c.loop-character-test.true
    (c.byte_at.ensures.byte ∙ quote) in
    let told = c.in-Some.ensures in
    record {
      inside = told.inside;
      read = rw c.in_ok-push.ensures.items (read_character source (c.args.at + 1) _ _ _ _ no_quote told.found
          c.loop-character.invariant.read);
    }

pub returns-clause-token : goal.returns-clause-token
returns-clause-token c =
    let source = c.args.source.now in
    let quote = sym c.byte_at.ensures.byte ∙ c.loop-character-test.false in
    inr (
      c.loop-character.characters.items,
      ap kinds.Text c.of.ensures,
      (c.requires.quote, all_characters source (c.args.at + 1) _ _ quote c.loop-character.invariant.read),
    )
