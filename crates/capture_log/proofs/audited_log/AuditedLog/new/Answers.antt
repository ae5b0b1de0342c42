use Rattle.std.proofs.Common.{◌++◌, List, ℕ, ap, refl, ◌∙◌, ◌∷◌, []}
use Rattle.hsms_log.specs.LineFormat.{settings_line}
use Rattle.capture_log.proofs.Logs.{begins}
use Rattle.capture_log.proofs.audited_log.AuditedLog.new.Goals as goal

pub returns-clause-begins : goal.returns-clause-begins
returns-clause-begins c =
    begins _ c.process_input.new.self c.args.settings.now c.octets.result.now c.each_text_has_one_verdict.ensures.one c.empty_log_is_run.ensures
    c.written_log_is_its_text.ensures c.settings_are_in_range.ensures c.new.ensures.reception refl refl
    (c.octets.ensures ∙ c.in_ok-append_settings.ensures.appended_text ∙ ap (λ (l : List ℕ). l ++ (settings_line c.args.settings.now ++ 10 ∷ [])) c.new-text.ensures)
    c.in_ok-process_input.ensures.reception
