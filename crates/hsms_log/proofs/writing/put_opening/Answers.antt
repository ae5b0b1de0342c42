use Rattle.std.specs.Prelude.{codes}
use Rattle.std.proofs.lemmas.Result.{err_from_is_err_and}
use Rattle.hsms_log.specs.InnerWriting.{spaced, version_text, words_of, opening_of}
use Rattle.hsms_log.proofs.Parts.{written_then, failed_first, failed_second, writes_then, writes_err}
use Rattle.hsms_log.proofs.writing.put_opening.Goals as goal

pub returns-in_err-put : goal.returns-in_err-put
returns-in_err-put g c =
    let s = c.args.settings.now in
    let p = err_from_is_err_and c.from_residual.result c.from_residual.ensures.1 in
    writes_err c.from_residual.result p.0 (g.W.Sink.state c.args.sink.now) (g.W.Sink.state c.put.new.sink) (opening_of s) p.1
    (failed_first (g.W.Sink.state c.args.sink.now) (g.W.Sink.state c.put.new.sink) (version_text s.version) (words_of s)
    (failed_first (g.W.Sink.state c.args.sink.now) (g.W.Sink.state c.put.new.sink) (codes "hsms-log") (spaced s.version) c.in_err-put.ensures))

pub returns-in_err-put_spaced : goal.returns-in_err-put_spaced
returns-in_err-put_spaced g c =
    let s = c.args.settings.now in
    let p = err_from_is_err_and c.from_residual-in_err-put_spaced.result c.from_residual-in_err-put_spaced.ensures.1 in
    let version = rw (c.from.ensures, c.version.ensures.value) at c.in_err-put_spaced.ensures in
    writes_err c.from_residual-in_err-put_spaced.result p.0 (g.W.Sink.state c.args.sink.now) (g.W.Sink.state c.put_spaced.new.sink) (opening_of s) p.1
    (failed_first (g.W.Sink.state c.args.sink.now) (g.W.Sink.state c.put_spaced.new.sink) (version_text s.version) (words_of s)
    (failed_second (g.W.Sink.state c.args.sink.now) (g.W.Sink.state c.put.new.sink) (g.W.Sink.state c.put_spaced.new.sink) (codes "hsms-log") (spaced s.version) c.in_ok-put.ensures version))

pub returns : goal.returns
returns g c =
    let s = c.args.settings.now in
    let version = rw (c.from.ensures, c.version.ensures.value) at c.in_ok-put_spaced.ensures in
    let last = rw c.words.ensures at c.put-2.ensures in
    writes_then c.put-2.result (g.W.Sink.state c.args.sink.now) (g.W.Sink.state c.put_spaced.new.sink) (g.W.Sink.state c.put-2.new.sink) (version_text s.version) (words_of s)
    (written_then (g.W.Sink.state c.args.sink.now) (g.W.Sink.state c.put.new.sink) (g.W.Sink.state c.put_spaced.new.sink) (codes "hsms-log") (spaced s.version) c.in_ok-put.ensures version) last
