use Rattle.std.proofs.Common.{◌≡◌, subst, Option, Ok, Result}
use Rattle.std.specs.Prelude.{IfSome}
use Rattle.om_code.specs.declared.raw.Raw.{Raw}
use Rattle.om_frontend.specs.Verdict.{IsProgramOf}
use Rattle.om_lexer.specs.declared.fault.SourceFault.{SourceFault}
use Rattle.om_undo.specs.Machines.{MachineView}
use Rattle.lab_explore_closed.specs.Explored.{IsExplored}
use Rattle.lab_explore_ways.specs.Ways.{IsStillExplored}
use Rattle.lab_explore_answer.proofs.explored.answer.Goals as goal

abbrev the_result : Raw → Result Raw SourceFault
the_result p = Ok p

the_same : (p q : Raw) → the_result p ≡ the_result q → p ≡ q
the_same p q h = cc

pub returns : goal.returns
returns g c =
    let source = c.args.source.now in
    let question = c.args.question.now in
    let p : Raw = c.in-Some.program in
    let q : Raw = c.in-Some-Some.again in
    let of_p : IsProgramOf source p =
    subst (λ (o : Option Raw). IfSome o (IsProgramOf source)) c.in-Some.is c.in_ok-program.ensures in
    let of_q : IsProgramOf source q =
    subst (λ (o : Option Raw). IfSome o (IsProgramOf source)) c.in-Some-Some.is-1 c.in_ok-again.ensures in
    let same : p ≡ q = the_same p q (c.one_verdict.ensures source (Ok p) (Ok q) of_p of_q) in
    let found = c.in_ok-explored.explored in
    let short = c.in_ok-short.short.explored in
    let still : IsStillExplored q question.workers found short =
    subst (λ (m : MachineView). IsStillExplored m.program m.workers found short) c.in_ok-retracer.ensures
    c.in_ok-short.ensures.still in
    record {
      program = q;
      explored = short;
      is_of = of_q;
      is_explored = still question.limits
          (subst (λ (r : Raw). IsExplored r question.workers question.limits found) same c.in_ok-explored.ensures);
      finding = c.in_ok-answer.ensures.finding;
      script = c.in_ok-answer.ensures.script;
      ran_out = c.in_ok-answer.ensures.ran_out;
    }
