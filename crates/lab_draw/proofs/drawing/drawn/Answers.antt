use Rattle.std.proofs.lemmas.Result.{IfOk-weaker}
use Rattle.om_book.specs.Books.{machine_of}
use Rattle.lab_draw.proofs.Drawings.{drawing_of}
use Rattle.lab_draw.proofs.drawing.drawn.Goals as goal

pub returns : goal.returns
returns c = IfOk-weaker c.with_elements.result _ _
    (λ page is. drawing_of (machine_of c.args.book.now) c.machine-machine.result.now c.program-3.result.now
    c.in_ok-steps.steps.items c.deref-2.result.now c.in_ok-picture.picture.boxes.items
    c.in_ok-picture.picture.arrows.items c.in_ok-beside.beside.extent.scale c.in_ok-front.front.items _ page.items
    c.machine-machine.ensures.left c.program-3.ensures c.deref-2.ensures.value c.in_ok-steps.ensures.touched
    c.in_ok-steps.ensures.said
    c.in_ok-picture.ensures.boxes c.in_ok-picture.ensures.exactly c.in_ok-beside.ensures is) c.with_elements.ensures
