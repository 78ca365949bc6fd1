use Rattle.lab_text.proofs.ReadLaws.{reads_front}
use Rattle.lab_text.proofs.line_by_line.LineByLineRead.read.Goals as goal

pub returns-clause-bytes : goal.returns-clause-bytes
returns-clause-bytes c = rw c.begin.ensures.left at
    (reads_front _ _ _ c.read.new.buf c.read.result c.begin.ensures.begun c.read.ensures.bytes)
