use Rattle.std.proofs.Common.{◌≡◌, true, false, refl}
use Rattle.std.proofs.lemmas.Result.{err_from_is_err_and}
use Rattle.hsms_log.specs.LineFormat.{IsBlank}
use Rattle.hsms_log.proofs.EntryLaws.{line_unread, line_marked}
use Rattle.hsms_log.proofs.reading.read_line.Goals as goal

pub returns-clause-unreadable : goal.returns-clause-unreadable
returns-clause-unreadable c =
    let other : IsBlank c.args.line.now → ⊥ = λ blank. (let t : c.is_blank.result ≡ true = c.is_blank.ensures.1 blank in let f : c.is_blank.result ≡ false = c.if-is_blank.false in cc) in
    let none = rw c.in_default.is at c.in_ok-step.ensures.none in
    λ e. line_unread c.args.max c.args.line.now other (λ entry encoded_bytes. none refl entry encoded_bytes (c.in-None.ensures.none entry encoded_bytes))

pub returns-in_err-step-clause-memory : goal.returns-in_err-step-clause-memory
returns-in_err-step-clause-memory c =
    let p = err_from_is_err_and c.from_residual.result c.from_residual.ensures.1 in
    let other : IsBlank c.args.line.now → ⊥ = λ blank. (let t : c.is_blank.result ≡ true = c.is_blank.ensures.1 blank in let f : c.is_blank.result ≡ false = c.if-is_blank.false in cc) in
    rw p.1 (λ is. line_marked c.args.max c.args.line.now other c.in_err-step.ensures.memory)
