-- A report, by its verdict.
use Rattle.std.proofs.Common.{◌≡◌, ◌≢◌, ℕ, List, ◌++◌, Result, Ok, Err, IfOk, ap}
use Rattle.om_code.specs.declared.raw.Raw.{Raw}
use Rattle.om_lexer.specs.declared.fault.FaultCode.TheVariants.{Memory}
use Rattle.om_lexer.specs.declared.fault.SourceFault.{SourceFault}
use Rattle.om_lexer.specs.Faults.{no_memory}
use Rattle.om_frontend.specs.Verdict.{IsProgramOf, IsRefused}
use Rattle.lab_text.specs.declared.report.Report.{Report}
use Rattle.lab_text.specs.Heads.{BeginsWith, accepted_head, refused_head}
use Rattle.lab_check.specs.Reports.{Reports}

-- a text that is a head and what stands behind it begins with the head
pub begins_with : {E : Type 0} (front rest : List ℕ) (r : Result Report E)
    → IfOk r (λ report. report.text.items ≡ front ++ rest) → IfOk r (λ report. BeginsWith front report.text.items)
begins_with front rest (Ok report) is = record { rest = rest; is = is }
begins_with front rest (Err e) is = tt

pub reports_accepted : {E : Type 0} (file source : List ℕ) (program : Raw) (r : Result Report E)
    → IsProgramOf source program
    → IfOk r (λ report. BeginsWith (accepted_head file) report.text.items)
    → IfOk r (λ report. report.status ≡ 0)
    → IfOk r (λ report. Reports file source report.text.items report.status)
reports_accepted file source program (Ok report) accepted begins status =
    record { verdict = Ok program; judged = accepted; status_is = status; begins = begins }
reports_accepted file source program (Err e) accepted begins status = tt

pub reports_refused : {E : Type 0} (file source : List ℕ) (fault : SourceFault) (r : Result Report E)
    → (fault ≢ no_memory → IsRefused source fault) → fault.code ≢ Memory
    → IfOk r (λ report. BeginsWith (refused_head file source fault) report.text.items)
    → IfOk r (λ report. report.status ≡ 1)
    → IfOk r (λ report. Reports file source report.text.items report.status)
reports_refused file source fault (Ok report) refused other begins status = record {
  verdict = Err fault;
  judged = refused (λ e. other (ap (λ (f : SourceFault). f.code) e));
  status_is = status;
  begins = begins;
}
reports_refused file source fault (Err e) refused other begins status = tt
