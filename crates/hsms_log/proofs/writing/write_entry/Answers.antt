use Rattle.std.proofs.Common.{◌++◌, ◌∷◌, [], append_assoc, sym}
use Rattle.std.specs.Prelude.{decimal}
use Rattle.std.proofs.lemmas.Result.{err_from_is_err_and}
use Rattle.hsms_frame.specs.Io.{SinkState}
use Rattle.hsms_machine.specs.declared.entry.Entry.{Entry}
use Rattle.hsms_log.specs.LineFormat.{entry_line, event_text}
use Rattle.hsms_log.specs.InnerWriting.{HasFailed, HasWritten, Writes}
use Rattle.std.specs.Prelude.{Result}
use Rattle.hsms_log.proofs.Parts.{failed_first, failed_along, writes_then, writes_along, writes_err, writes_failures, writes_puts}
use Rattle.hsms_log.proofs.Written.{entry_written}
use Rattle.hsms_log.proofs.writing.write_entry.Goals as goal

-- The time was not written completely.
time_failed : (old new : SinkState) (entry : Entry) → HasFailed old new (decimal entry.time) → HasFailed old new (entry_line entry ++ 10 ∷ [])
unfolding entry_line
time_failed old new entry h =
    let time = decimal entry.time in
    let rest = 32 ∷ event_text entry.event in
    failed_along old new (time ++ (rest ++ 10 ∷ [])) ((time ++ rest) ++ 10 ∷ []) (sym (append_assoc time rest (10 ∷ [])))
    (failed_first old new time (rest ++ 10 ∷ []) h)

-- The time was written.
time_written : {F : Type 0} (r : Result (Unit {0}) F) (old mid new : SinkState) (entry : Entry) → HasWritten old mid (decimal entry.time)
    → Writes r mid new (32 ∷ (event_text entry.event ++ 10 ∷ [])) → Writes r old new (entry_line entry ++ 10 ∷ [])
unfolding entry_line
time_written r old mid new entry h k =
    let time = decimal entry.time in
    let rest = 32 ∷ event_text entry.event in
    writes_along r old new (time ++ (rest ++ 10 ∷ [])) ((time ++ rest) ++ 10 ∷ []) (sym (append_assoc time rest (10 ∷ [])))
    (writes_then r old mid new time (rest ++ 10 ∷ []) h k)

pub returns-in_err-put_number-clause-written : goal.returns-in_err-put_number-clause-written
returns-in_err-put_number-clause-written g c =
    let p = err_from_is_err_and c.from_residual.result c.from_residual.ensures.1 in
    let failed = time_failed (g.W.Sink.state c.args.sink.now) (g.W.Sink.state c.put_number.new.sink) c.args.entry.now c.in_err-put_number.ensures in
    let line = entry_line c.args.entry.now ++ 10 ∷ [] in
    writes_puts c.from_residual.result (g.W.Sink.state c.args.sink.now) (g.W.Sink.state c.put_number.new.sink) line
    (writes_err c.from_residual.result p.0 (g.W.Sink.state c.args.sink.now) (g.W.Sink.state c.put_number.new.sink) line p.1 failed)

pub returns-in_err-put_number-clause-failures : goal.returns-in_err-put_number-clause-failures
returns-in_err-put_number-clause-failures g c =
    let p = err_from_is_err_and c.from_residual.result c.from_residual.ensures.1 in
    let time = decimal c.args.entry.now.time in
    writes_failures c.from_residual.result (g.W.Sink.state c.args.sink.now) (g.W.Sink.state c.put_number.new.sink) time
    (writes_err c.from_residual.result p.0 (g.W.Sink.state c.args.sink.now) (g.W.Sink.state c.put_number.new.sink) time p.1 c.in_err-put_number.ensures)

pub returns-clause-written : goal.returns-clause-written
returns-clause-written g c =
    writes_puts c.put_event.result (g.W.Sink.state c.args.sink.now) (g.W.Sink.state c.put_event.new.sink) (entry_line c.args.entry.now ++ 10 ∷ [])
    (time_written c.put_event.result (g.W.Sink.state c.args.sink.now) (g.W.Sink.state c.put_number.new.sink) (g.W.Sink.state c.put_event.new.sink) c.args.entry.now
    c.in_ok-put_number.ensures c.put_event.ensures)

pub returns-clause-failures : goal.returns-clause-failures
returns-clause-failures g c =
    writes_failures c.put_event.result (g.W.Sink.state c.args.sink.now) (g.W.Sink.state c.put_event.new.sink) (entry_line c.args.entry.now ++ 10 ∷ [])
    (time_written c.put_event.result (g.W.Sink.state c.args.sink.now) (g.W.Sink.state c.put_number.new.sink) (g.W.Sink.state c.put_event.new.sink) c.args.entry.now
    c.in_ok-put_number.ensures c.put_event.ensures)

pub returns-in_err-put_number-clause-encoded_bytes : goal.returns-in_err-put_number-clause-encoded_bytes
returns-in_err-put_number-clause-encoded_bytes g c = entry_written c.args.entry.now c.entry_is_in_range.ensures

pub returns-clause-encoded_bytes : goal.returns-clause-encoded_bytes
returns-clause-encoded_bytes g c = entry_written c.args.entry.now c.entry_is_in_range.ensures
