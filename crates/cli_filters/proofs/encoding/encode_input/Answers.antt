use Rattle.std.proofs.Common.{◌<◌, ◌^◌, arith}
use Rattle.std.proofs.lemmas.Result.{err_from_is_err_and}
use Rattle.cli_filters.proofs.Encodings.{answers_written, frames_of, stops_encoding, stops_reading}
use Rattle.cli_filters.proofs.encoding.encode_input.Goals as goal

pub returns-in_err-input-clause-frames : goal.returns-in_err-input-clause-frames
returns-in_err-input-clause-frames g c = λ input known_input.
    let p = err_from_is_err_and c.from_residual.result c.from_residual.ensures.1 in
    rw (p.1, p.2) (stops_reading _ _ _ _ _ _ _ _ _ (c.in_err-input.ensures.err input known_input))

pub returns-in_err-octets-clause-frames : goal.returns-in_err-octets-clause-frames
returns-in_err-octets-clause-frames g c = λ input known_input.
    let p = err_from_is_err_and c.from_residual-in_err-octets.result c.from_residual-in_err-octets.ensures.1 in
    let bound : c.args.encoding.max < 2 ^ 32 = omega arith in
    let why = rw c.deref.ensures.value at c.in_err-octets.ensures.err in
    rw (p.1, p.2) (stops_encoding _ _ _ _ _ _ _ _ _ _ _ bound (c.in_ok-input.ensures.ok input known_input) why (λ octets is. is))

pub put_frames-requires : goal.put_frames-requires
put_frames-requires g c =
    let bound : c.args.encoding.max < 2 ^ 32 = omega arith in
    let encoded_bytes = rw c.deref.ensures.value at c.in_ok-octets.ensures.ok in
    let fs = frames_of _ _ _ c.args.encoding.hex encoded_bytes.0 _ bound encoded_bytes.3 in
    rw c.deref-2.ensures.value (fs.0, fs.1)

pub returns-clause-frames : goal.returns-clause-frames
returns-clause-frames g c = λ input known_input.
    let bound : c.args.encoding.max < 2 ^ 32 = omega arith in
    let encoded_bytes = rw c.deref.ensures.value at c.in_ok-octets.ensures.ok in
    let fs = frames_of _ _ _ c.args.encoding.hex encoded_bytes.0 _ bound encoded_bytes.3 in
    let written = rw c.deref-2.ensures.value at c.put_frames.ensures.output in
    answers_written _ _ _ _ _ _ _ encoded_bytes.0 fs.0 c.put_frames.result (g.R.Source.state c.read_whole.new.source).left _ _ (c.in_ok-input.ensures.ok input known_input)
    (encoded_bytes.1, encoded_bytes.2) fs.2 (written fs.0 fs.1)
