-- Where no command is a free run, the list of free runs changes nothing, and so an input has one script.
use Rattle.std.specs.Prelude.{◌≡◌, ℕ, List, [], ◌∷◌, Result, Ok, Err, refl}
use Rattle.std.specs.List.{AllByRecursion}
use Rattle.std.proofs.Common.{◌∙◌, ap, sym}
use Rattle.om_lexer.specs.declared.fault.SourceFault.{SourceFault}
use Rattle.om_code.specs.declared.raw.Raw.{Raw}
use Rattle.om_shell_debugger.specs.declared.debugger.Debugger.{Debugger}
use Rattle.om_shell_debugger.specs.Freed.{FreeRun}
use Rattle.om_shell_debugger.specs.Views.{Answer, answered, opened}
use Rattle.om_shell_debugger.specs.Answering.{answered_same, none_behind}
use Rattle.om_frontend.specs.Laws.{OneVerdict}
use Rattle.om_shell.specs.Laws.{AsksNoFreeRun, OneScript}
use Rattle.om_shell.specs.Script.{source_of, commands_of, transcript_of}
use Rattle.om_shell.specs.Sessions.{after_answer, session}
use Rattle.om_shell.specs.Transcript.{Transcript}

session_same : (d : Debugger) (runs : List FreeRun) (lines : List (List ℕ)) → AllByRecursion AsksNoFreeRun lines
    → session d runs lines ≡ session d [] lines
session_same d runs [] h = refl
session_same d runs (line ∷ more) h =
    let a = answered d [] line in
    let plain = h.0 d.book.start.workers in
    ap (λ (x : Answer). after_answer x (session x.view x.runs more)) (answered_same d line runs plain)
    ∙ ap (λ (t : Transcript Debugger). after_answer a t) (session_same a.view runs more h.1)
    ∙ ap (λ (rs : List FreeRun). after_answer a (session a.view rs more)) (sym (none_behind d line plain))

pub one_transcript : (verdict : Result Raw SourceFault) (workers : ℕ) (runs : List FreeRun) (source : List ℕ)
    (lines : List (List ℕ)) → AllByRecursion AsksNoFreeRun lines
    → transcript_of verdict workers runs source lines ≡ transcript_of verdict workers [] source lines
one_transcript (Ok program) workers runs source lines h = session_same (opened program workers) runs lines h
one_transcript (Err fault) workers runs source lines h = refl

pub one_script : OneVerdict → OneScript
one_script one_verdict workers given input one other h a b =
    let source = source_of given input in let commands = commands_of given input in
    let same = one_verdict source a.verdict b.verdict a.judged b.judged in
    a.is ∙ one_transcript a.verdict workers a.runs source commands h
    ∙ ap (λ (v : Result Raw SourceFault). transcript_of v workers [] source commands) same
    ∙ sym (one_transcript b.verdict workers b.runs source commands h) ∙ sym b.is
