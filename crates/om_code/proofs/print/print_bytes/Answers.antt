use Rattle.std.proofs.Common.{◌≡◌, arith, ap, sym, subst, ◌∙◌, get_or, Some, IfOk, option_map}
use Rattle.om_code.specs.Printing.{ints_on}
use Rattle.om_code.proofs.Printing.{text_known, length-ints_on, bytes_are}
use Rattle.om_code.proofs.print.print_bytes.Goals as goal

pub print_text-requires : goal.print_text-requires
print_text-requires c =
    let is : c.as_slice-pieces.result.now ≡ get_or c.args.raw.now.texts c.args.text c.index-as_slice-text.result =
    c.as_slice-pieces.ensures ∙ c.index-as_slice-text.is
    ∙ ap (λ l. get_or l c.args.text c.index-as_slice-text.result) c.as_slice.ensures in
    let known = text_known c.args.raw.now.texts c.args.text c.args.values c.as_slice-pieces.result.now
    c.requires.known (is ∙ ap (λ d. get_or c.args.raw.now.texts c.args.text d) (sym c.as_slice-pieces.ensures)) in
    let on : ints_on c.args.values c.args.operands.now ≡ Some c.as_slice-2.result.now =
    ap (λ n. ints_on n c.args.operands.now) (sym c.from.ensures) ∙ sym c.in_ok-ints.ensures
    ∙ ap (option_map (λ v. v.items)) c.in-Some.is ∙ ap Some (sym c.as_slice-2.ensures.value) in
    omega (arith, known.1, length-ints_on c.args.values c.args.operands.now c.as_slice-2.result.now on)

pub returns : goal.returns
returns c =
    let is : c.as_slice-pieces.result.now ≡ get_or c.args.raw.now.texts c.args.text c.index-as_slice-text.result =
    c.as_slice-pieces.ensures ∙ c.index-as_slice-text.is
    ∙ ap (λ l. get_or l c.args.text c.index-as_slice-text.result) c.as_slice.ensures in
    let known = text_known c.args.raw.now.texts c.args.text c.args.values c.as_slice-pieces.result.now
    c.requires.known (is ∙ ap (λ d. get_or c.args.raw.now.texts c.args.text d) (sym c.as_slice-pieces.ensures)) in
    let on : ints_on c.args.values c.args.operands.now ≡ Some c.as_slice-2.result.now =
    ap (λ n. ints_on n c.args.operands.now) (sym c.from.ensures) ∙ sym c.in_ok-ints.ensures
    ∙ ap (option_map (λ v. v.items)) c.in-Some.is ∙ ap Some (sym c.as_slice-2.ensures.value) in
    subst (λ o. IfOk c.print_text.result (λ bytes. bytes.items ≡ o)) (bytes_are c.args.raw.now c.args.text
    c.args.values c.args.operands.now _ _ known.0 on) c.print_text.ensures
