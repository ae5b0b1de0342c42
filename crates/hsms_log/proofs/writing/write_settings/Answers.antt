use Rattle.std.proofs.Common.{◌++◌, ◌∷◌, []}
use Rattle.std.specs.Prelude.{Result}
use Rattle.std.specs.List.{flat_map}
use Rattle.std.proofs.lemmas.Result.{err_from_is_err_and}
use Rattle.hsms_frame.specs.Io.{SinkState}
use Rattle.hsms_machine.specs.Settings.{Parameters}
use Rattle.hsms_log.specs.LineFormat.{settings_line}
use Rattle.hsms_log.specs.InnerWriting.{HasFailed, HasWritten, Writes, spaced, opening_of, numbers_of}
use Rattle.hsms_log.proofs.Parts.{failed_first, failed_along, writes_then, writes_along, writes_err, writes_failures, writes_puts, line_parts}
use Rattle.hsms_log.proofs.Written.{settings_written}
use Rattle.hsms_log.proofs.writing.write_settings.Goals as goal

-- The words were not written completely.
opening_failed : (old new : SinkState) (s : Parameters) → HasFailed old new (opening_of s) → HasFailed old new (settings_line s ++ 10 ∷ [])
opening_failed old new s h =
    let rest = flat_map spaced (numbers_of s) ++ 10 ∷ [] in
    failed_along old new (opening_of s ++ rest) (settings_line s ++ 10 ∷ []) (line_parts s) (failed_first old new (opening_of s) rest h)

-- The words were written.
opening_written : {F : Type 0} (r : Result (Unit {0}) F) (old mid new : SinkState) (s : Parameters) → HasWritten old mid (opening_of s)
    → Writes r mid new (flat_map spaced (numbers_of s) ++ 10 ∷ []) → Writes r old new (settings_line s ++ 10 ∷ [])
opening_written r old mid new s h k =
    let rest = flat_map spaced (numbers_of s) ++ 10 ∷ [] in
    writes_along r old new (opening_of s ++ rest) (settings_line s ++ 10 ∷ []) (line_parts s) (writes_then r old mid new (opening_of s) rest h k)

pub returns-in_err-put_opening-clause-written : goal.returns-in_err-put_opening-clause-written
returns-in_err-put_opening-clause-written g c =
    let line = settings_line c.args.settings.now ++ 10 ∷ [] in
    let p = err_from_is_err_and c.from_residual.result c.from_residual.ensures.1 in
    writes_puts c.from_residual.result (g.W.Sink.state c.args.sink.now) (g.W.Sink.state c.put_opening.new.sink) line
    (writes_err c.from_residual.result p.0 (g.W.Sink.state c.args.sink.now) (g.W.Sink.state c.put_opening.new.sink) line p.1
    (opening_failed (g.W.Sink.state c.args.sink.now) (g.W.Sink.state c.put_opening.new.sink) c.args.settings.now c.in_err-put_opening.ensures))

pub returns-in_err-put_opening-clause-failures : goal.returns-in_err-put_opening-clause-failures
returns-in_err-put_opening-clause-failures g c =
    let line = settings_line c.args.settings.now ++ 10 ∷ [] in
    let p = err_from_is_err_and c.from_residual.result c.from_residual.ensures.1 in
    writes_failures c.from_residual.result (g.W.Sink.state c.args.sink.now) (g.W.Sink.state c.put_opening.new.sink) line
    (writes_err c.from_residual.result p.0 (g.W.Sink.state c.args.sink.now) (g.W.Sink.state c.put_opening.new.sink) line p.1
    (opening_failed (g.W.Sink.state c.args.sink.now) (g.W.Sink.state c.put_opening.new.sink) c.args.settings.now c.in_err-put_opening.ensures))

pub returns-clause-written : goal.returns-clause-written
returns-clause-written g c =
    let last = rw c.numbers-numbers.ensures at c.put_numbers.ensures in
    writes_puts c.put_numbers.result (g.W.Sink.state c.args.sink.now) (g.W.Sink.state c.put_numbers.new.sink) (settings_line c.args.settings.now ++ 10 ∷ [])
    (opening_written c.put_numbers.result (g.W.Sink.state c.args.sink.now) (g.W.Sink.state c.put_opening.new.sink) (g.W.Sink.state c.put_numbers.new.sink)
    c.args.settings.now c.in_ok-put_opening.ensures last)

pub returns-clause-failures : goal.returns-clause-failures
returns-clause-failures g c =
    let last = rw c.numbers-numbers.ensures at c.put_numbers.ensures in
    writes_failures c.put_numbers.result (g.W.Sink.state c.args.sink.now) (g.W.Sink.state c.put_numbers.new.sink) (settings_line c.args.settings.now ++ 10 ∷ [])
    (opening_written c.put_numbers.result (g.W.Sink.state c.args.sink.now) (g.W.Sink.state c.put_opening.new.sink) (g.W.Sink.state c.put_numbers.new.sink)
    c.args.settings.now c.in_ok-put_opening.ensures last)

pub returns-in_err-put_opening-clause-encoded_bytes : goal.returns-in_err-put_opening-clause-encoded_bytes
returns-in_err-put_opening-clause-encoded_bytes g c = settings_written c.args.settings.now c.settings_are_in_range.ensures

pub returns-clause-encoded_bytes : goal.returns-clause-encoded_bytes
returns-clause-encoded_bytes g c = settings_written c.args.settings.now c.settings_are_in_range.ensures
