-- A refusal at the end: what was told and written before it, and why it is one.
use Rattle.std.proofs.Common.{◌≡◌, ◌++◌, List, ℕ, Bool, [], Option, sym, ap, subst, ◌∙◌}
use Rattle.std.specs.Prelude.{Result, Ok, Err, IfErr, IfOk}
use Rattle.hsms_frame.specs.Io.{Grows, IfRecorded}
use Rattle.cli_options.specs.declared.capture_options.Capturing.{Capturing}
use Rattle.capture_errors.specs.declared.capture_error.CaptureError.{CaptureError}
use Rattle.capture_errors.specs.declared.capture_error.CaptureError.TheVariants as error
use Rattle.capture_pcap.specs.declared.fault.FileFault.{FileFault}
use Rattle.capture_log.specs.declared.stop.Stop.{Stop}
use Rattle.capture_log.specs.declared.stop.Stop.TheVariants as stop
use Rattle.capture_log.specs.Stop.{IsNoRefusal}
use Rattle.cli_capture.specs.declared.report.OutputMode.TheVariants.{Verdicts}
use Rattle.cli_capture.specs.declared.report.Report.{Report}
use Rattle.capture_errors.specs.declared.incomplete.Shortfall.{Shortfall}
use Rattle.cli_capture.specs.declared.connection_table.Table.{Table}
use Rattle.cli_capture.specs.InnerCommand.{IsMissingBy}
use Rattle.cli_capture.specs.Connections.{EndsAll}
use Rattle.cli_capture.specs.FileDispatch.{CapturesFile}
use Rattle.cli_capture.specs.TableInvariant.{wanted_of}
use Rattle.cli_capture.specs.InnerTableInvariant.{ConcludesAsDealt, EndsAsDealt, FinishesAsDealt, IsReportOf}
use Rattle.cli_capture.specs.InnerOutputMode.{TellsTo}
use Rattle.cli_capture.specs.SkippedPackets.{line_of}
use Rattle.cli_capture.specs.Report.{Answers, Found, found_of, missing_after}
use Rattle.cli_capture.specs.InnerReport.{Concludes, EndsWith, FailsUnrefused, Finishes, StopsUnrefused, Writes}
use Rattle.capture_errors.specs.Errors.{IsRefusal}
use Rattle.cli_capture.specs.StopError.{error_of}
use Rattle.cli_capture.specs.InnerStopError.{IsRefused}
use Rattle.cli_capture.proofs.Tellings.{ends_with}

-- ---- what is no refusal

pub none_refused : (st : Stop) → IsNoRefusal st → IsRefused st → ⊥
none_refused (stop.Refused rejection) none refused = none
none_refused stop.Memory none refused = refused

pub memory_refuses : (st : Stop) (P : Type 0) → st ≡ stop.Memory → IsRefused st → P
memory_refuses st P is refused = let none : ⊥ = subst IsRefused is refused in absurd none

pub write_refuses : (fault : CaptureError) → fault ≡ error.Write → IsRefusal fault → ⊥
write_refuses fault is refusal = subst IsRefusal is refusal

pub write_holds : (fault : CaptureError) (P : Type 0) → fault ≡ error.Write → IsRefusal fault → P
write_holds fault P is refusal = absurd (write_refuses fault is refusal)

pub err_holds : {T : Type 0} (result : Result T Stop) (P : Type 0) → P → IfErr result (λ st. IsRefused st → P)
err_holds (Ok done) P holds = tt
err_holds (Err st) P holds = λ refused. holds

-- a refusal is told as one, and nothing else is
pub told_refused : (st : Stop) (fault : CaptureError) → fault ≡ error_of st → IsRefusal fault → IsRefused st
told_refused (stop.Refused rejection) fault emits refusal = tt
told_refused stop.Memory fault emits refusal = let none : ⊥ = subst IsRefusal emits refusal in absurd none

-- ---- before the end

pub fails_write : (report : Report) (fault : CaptureError) → fault ≡ error.Write → FailsUnrefused report fault
unfolding FailsUnrefused
fails_write report fault is = λ verdicts refusal. write_refuses fault is refusal

pub fails_device : (report : Report) (fault : CaptureError) → (IsRefusal fault → ⊥) → FailsUnrefused report fault
unfolding FailsUnrefused
fails_device report fault never = λ verdicts refusal. never refusal

pub fails_told : (report : Report) (st : Stop) (fault : CaptureError) → StopsUnrefused report st → fault ≡ error_of st → FailsUnrefused report fault
unfolding StopsUnrefused FailsUnrefused
fails_told report st fault stops emits = λ verdicts refusal. none_refused st (stops verdicts) (told_refused st fault emits refusal)

pub fails_behind : (old new : Report) (before after : Option (List ℕ)) (fault : CaptureError) → Writes old before new after → FailsUnrefused new fault
    → old.page.octets ≡ [] → FailsUnrefused old fault
unfolding Writes FailsUnrefused
fails_behind old new before after fault writes fails empty = λ verdicts. fails (writes verdicts empty).1.manner

pub missing_fails : (fault : FileFault) (count : ℕ) (report : Report) (emitted : CaptureError) → IsMissingBy fault count (Err emitted) → FailsUnrefused report emitted
unfolding FailsUnrefused
missing_fails fault count report (error.Refused rejection) missing = λ verdicts refusal. missing
missing_fails fault count report error.Read missing = λ verdicts refusal. refusal
missing_fails fault count report error.Write missing = λ verdicts refusal. refusal
missing_fails fault count report error.Endless missing = λ verdicts refusal. refusal
missing_fails fault count report error.Memory missing = λ verdicts refusal. refusal

-- ---- at the end

-- nothing is refused where what is left is told
pub left_refuses : (missing : Option Shortfall) (table : Table) (old noted new : Report) (st : Stop) → noted ≡ record old { shortfall = missing_after old.shortfall missing }
    → StopsUnrefused noted st → IsRefused st → old.manner ≡ Verdicts → ConcludesAsDealt missing table old new (Err st)
unfolding StopsUnrefused
left_refuses missing table old noted new st is stops refused verdicts = λ w last all report kept.
    let none : ⊥ = none_refused st (stops (ap (λ (r : Report). r.manner) is ∙ verdicts)) refused in absurd none

pub concludes_refused : (missing : Option Shortfall) (table : Table) (old noted mid new : Report) (result : Result Bool Stop)
    → noted ≡ record old { shortfall = missing_after old.shortfall missing } → EndsAsDealt missing table noted mid → Finishes (found_of mid) result
    → IfErr result (λ st. IsRefused st → new.page.octets ≡ mid.page.octets ++ line_of mid.left_out)
    → IfErr result (λ st. IsRefused st → ConcludesAsDealt missing table old new (Err st))
concludes_refused missing table old noted mid new (Ok well) is ends finishes page = tt
concludes_refused missing table old noted mid new (Err st) is ends finishes page = λ refused w last all report kept.
    let of_noted : IsReportOf w noted = record {
      manner_is = subst (TellsTo w.way) (sym (ap (λ (r : Report). r.manner) is)) report.manner_is;
      active = ap (λ (r : Report). r.active) is ∙ report.active;
      passive = ap (λ (r : Report). r.passive) is ∙ report.passive;
    } in (
      mid,
      subst (λ (r : Report). EndsAll w.active w.passive missing all.known r mid) is (ends w.port w.peer w.way w.active w.passive last all of_noted kept),
      page refused,
      finishes,
    )

answers_refused : (found : Found) (st : Stop) (fault : CaptureError) → Finishes found (Err st) → fault ≡ error_of st → IsRefusal fault → Answers found (Err fault)
answers_refused found (stop.Refused rejection) fault finishes emits refusal = subst (λ (f : CaptureError). Answers found (Err f)) (sym emits) finishes
answers_refused found stop.Memory fault finishes emits refusal = let none : ⊥ = subst IsRefusal emits refusal in absurd none

pub finishes_refused : (missing : Option Shortfall) (table : Table) (old mid : Report) (out now : Option (List ℕ)) (st : Stop) (fault : CaptureError)
    → ConcludesAsDealt missing table old mid (Err st) → fault ≡ error_of st → Grows out now mid.page.octets
    → IsRefusal fault → FinishesAsDealt missing table old out now (Err fault)
finishes_refused missing table old mid out now st fault concludes emits grows refusal = λ w last all report kept.
    let on = concludes w last all report kept in record {
      emitted = on.0;
      ends = on.1;
      written = subst (λ (os : List ℕ). Grows out now os) on.2 grows;
      answers = answers_refused (found_of on.0) st fault on.3 emits refusal;
    }

-- nothing is refused where what is left is told
pub left_told : (missing : Option Shortfall) (old noted new : Report) (st : Stop) → noted ≡ record old { shortfall = missing_after old.shortfall missing }
    → StopsUnrefused noted st → IsRefused st → Concludes missing old new (Err st)
unfolding StopsUnrefused
left_told missing old noted new st is stops refused = λ verdicts.
    let none : ⊥ = none_refused st (stops (ap (λ (r : Report). r.manner) is ∙ verdicts)) refused in absurd none

pub ends_told : (missing : Option Shortfall) (old mid : Report) (out now : Option (List ℕ)) (st : Stop) (fault : CaptureError)
    → (IsRefused st → Concludes missing old mid (Err st)) → fault ≡ error_of st → Grows out now mid.page.octets
    → IsRefusal fault → EndsWith missing old out now (Err fault)
ends_told missing old mid out now st fault concludes emits grows refusal =
    ends_with missing old mid out now (Err st) (Err fault) (concludes (told_refused st fault emits refusal))
    (λ found finishes. answers_refused found st fault finishes emits refusal) grows

-- ---- of what is answered

-- what is told of a file, where this is answered
abbrev pub FileAs : Capturing → Option (List ℕ) → Option (List ℕ) → Option (List ℕ) → Result Bool CaptureError → Type 0
FileAs options from out now answer = IfRecorded from (λ input. CapturesFile (wanted_of options) input out now answer)

pub ok_file : (result : Result Bool CaptureError) (options : Capturing) (from out now : Option (List ℕ)) (F : Result Bool CaptureError → Type 0)
    → ((answer : Result Bool CaptureError) → F answer → FileAs options from out now answer)
    → IfOk result (λ well. F (Ok well)) → IfOk result (λ well. FileAs options from out now (Ok well))
ok_file (Ok well) options from out now F then_so so = then_so (Ok well) so
ok_file (Err fault) options from out now F then_so so = tt

pub fails_file : (report : Report) (fault : CaptureError) (IsReported C : Type 0) → (IsReported → report.manner ≡ Verdicts) → FailsUnrefused report fault
    → IsRefusal fault → IsReported → C
unfolding FailsUnrefused
fails_file report fault IsReported C manner fails refusal emitted = let none : ⊥ = fails (manner emitted) refusal in absurd none
