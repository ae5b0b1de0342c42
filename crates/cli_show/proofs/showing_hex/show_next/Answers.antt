use Rattle.std.proofs.Common.{◌+◌, ◌++◌, [], List, ℕ, take, drop, refl, ap, ◌∙◌, inr}
use Rattle.std.proofs.lemmas.Result.{err_from_is_err_and}
use Rattle.cli_options.specs.Request.{is_bare}
use Rattle.cli_show.specs.InnerReadAhead.{subsequent}
use Rattle.cli_show.specs.ShowHex.{BeginsWithLine}
use Rattle.cli_show.proofs.HexSteps.{far_stops, appended_of, last_shown, last_unwritten, line_at, line_stops, no_end, only_line, unwritten}
use Rattle.cli_show.proofs.Runs.{holding_then}
use Rattle.cli_show.proofs.showing_hex.show_next.Goals as goal

pub returns-in_err-place-clause-line : goal.returns-in_err-place-clause-line
returns-in_err-place-clause-line g c = λ rest known_input.
    let p = err_from_is_err_and c.from_residual.result c.from_residual.ensures.1 in
    rw (p.1, p.2) (no_end (is_bare c.args.showing.form) c.args.showing.max c.args.showing.depth c.args.number (c.args.ahead.now ++ rest) c.next_end.new.ahead _ _ _ _ _ _ (c.in_err-place.ensures.end rest known_input))

pub returns-in_err-append_shown-in-Feed-clause-line : goal.returns-in_err-append_shown-in-Feed-clause-line
returns-in_err-append_shown-in-Feed-clause-line g c = λ rest known_input.
    let a = rw c.in-Feed.is at (c.in_ok-place.ensures.end rest known_input) in
    let p = err_from_is_err_and c.from_residual-in_err-append_shown-in-Feed.result c.from_residual-in_err-append_shown-in-Feed.ensures.1 in
    let n = c.in-Feed.place in
    let ahead = c.next_end.new.ahead in
    let begins : BeginsWithLine c.args.showing.max (c.args.ahead.now ++ rest) (take n ahead) =
    (a.0.3.1, inr (drop (n + 1) ahead ++ a.0.0, line_at c.args.showing.max n (c.args.ahead.now ++ rest) ahead a.0.0 a.0.2 a.0.3)) in
    rw (p.1, p.2) (line_stops (is_bare c.args.showing.form) c.args.showing.max c.args.showing.depth c.args.number (c.args.ahead.now ++ rest) (take n c.as_slice.result.now) (take n ahead) _ (g.R.Source.state c.next_end.new.source).left (g.W.Sink.state c.args.sink.now).written (g.W.Sink.state c.next_end.new.sink).written c.args.held.now c.next_end.new.held (g.W.Sink.state c.append_shown.new.sink).written c.append_shown.new.held
    begins (ahead, a.0.0, a.0.2, a.0.1) a.1 (ap (λ (xs : List ℕ). take n xs) c.as_slice.ensures) c.in_err-append_shown-in-Feed.ensures.shown)

pub returns-in_ok-append_shown-in-Feed-clause-line : goal.returns-in_ok-append_shown-in-Feed-clause-line
returns-in_ok-append_shown-in-Feed-clause-line g c = λ rest known_input.
    let a = rw c.in-Feed.is at (c.in_ok-place.ensures.end rest known_input) in
    let n = c.in-Feed.place in
    let ahead = c.next_end.new.ahead in
    let after : List ℕ = drop (n + 1) ahead in
    let l = appended_of (is_bare c.args.showing.form) c.args.showing.max c.args.showing.depth (take n c.as_slice.result.now) (take n ahead) (g.W.Sink.state c.next_end.new.sink).written c.next_end.new.held (g.W.Sink.state c.append_shown.new.sink).written c.append_shown.new.held (ap (λ (xs : List ℕ). take n xs) c.as_slice.ensures) c.in_ok-append_shown-in-Feed.ensures.shown in
    let left = ap (λ (xs : List ℕ). subsequent xs (g.R.Source.state c.next_end.new.source).left) c.pass.ensures ∙ ap (subsequent after) a.0.1 in (
      take n ahead,
      after ++ a.0.0,
      l.0,
      line_at c.args.showing.max n (c.args.ahead.now ++ rest) ahead a.0.0 a.0.2 a.0.3,
      a.0.3.1,
      l.1,
      left,
      holding_then (g.W.Sink.state c.args.sink.now).written c.args.held.now (g.W.Sink.state c.next_end.new.sink).written c.next_end.new.held (g.W.Sink.state c.append_shown.new.sink).written c.append_shown.new.held [] l.0 a.1 l.2,
    )

pub returns-in_err-append_shown-in-Open-clause-line : goal.returns-in_err-append_shown-in-Open-clause-line
returns-in_err-append_shown-in-Open-clause-line g c = λ rest known_input.
    let a = rw c.in-Open.is at (c.in_ok-place.ensures.end rest known_input) in
    let p = err_from_is_err_and c.from_residual-in_err-append_shown-in-Open.result c.from_residual-in_err-append_shown-in-Open.ensures.1 in
    let ahead = c.next_end.new.ahead in
    rw (p.1, p.2) (line_stops (is_bare c.args.showing.form) c.args.showing.max c.args.showing.depth c.args.number (c.args.ahead.now ++ rest) c.as_slice-in-Open.result.now ahead _ (g.R.Source.state c.next_end.new.source).left (g.W.Sink.state c.args.sink.now).written (g.W.Sink.state c.next_end.new.sink).written c.args.held.now c.next_end.new.held (g.W.Sink.state c.append_shown-in-Open.new.sink).written c.append_shown-in-Open.new.held
    (only_line c.args.showing.max (c.args.ahead.now ++ rest) ahead a.0.0 a.0.2 (a.0.4 refl) a.0.3) (ahead, a.0.0, a.0.2, a.0.1) a.1 c.as_slice-in-Open.ensures c.in_err-append_shown-in-Open.ensures.shown)

pub returns-in_err-put_out-in-Open-clause-line : goal.returns-in_err-put_out-in-Open-clause-line
returns-in_err-put_out-in-Open-clause-line g c = λ rest known_input.
    let a = rw c.in-Open.is at (c.in_ok-place.ensures.end rest known_input) in
    let p = err_from_is_err_and c.from_residual-in_err-put_out-in-Open.result c.from_residual-in_err-put_out-in-Open.ensures.1 in
    let ahead = c.next_end.new.ahead in
    let l = appended_of (is_bare c.args.showing.form) c.args.showing.max c.args.showing.depth c.as_slice-in-Open.result.now ahead (g.W.Sink.state c.next_end.new.sink).written c.next_end.new.held (g.W.Sink.state c.append_shown-in-Open.new.sink).written c.append_shown-in-Open.new.held c.as_slice-in-Open.ensures c.in_ok-append_shown-in-Open.ensures.shown in
    rw (p.1, p.2) (last_unwritten (is_bare c.args.showing.form) c.args.showing.max c.args.showing.depth c.args.number (c.args.ahead.now ++ rest) ahead l.0 (g.R.Source.state c.next_end.new.source).left (g.W.Sink.state c.args.sink.now).written (g.W.Sink.state c.next_end.new.sink).written (g.W.Sink.state c.append_shown-in-Open.new.sink).written c.args.held.now c.next_end.new.held c.append_shown-in-Open.new.held (g.W.Sink.state c.put_out.new.sink).written c.put_out.new.held
    (only_line c.args.showing.max (c.args.ahead.now ++ rest) ahead a.0.0 a.0.2 (a.0.4 refl) a.0.3) (ahead, a.0.0, a.0.2, a.0.1) a.1 l.1 l.2
    c.in_err-put_out-in-Open.ensures.err)

pub returns-in_ok-put_out-in-Open-clause-line : goal.returns-in_ok-put_out-in-Open-clause-line
returns-in_ok-put_out-in-Open-clause-line g c = λ rest known_input.
    let a = rw c.in-Open.is at (c.in_ok-place.ensures.end rest known_input) in
    let ahead = c.next_end.new.ahead in
    let l = appended_of (is_bare c.args.showing.form) c.args.showing.max c.args.showing.depth c.as_slice-in-Open.result.now ahead (g.W.Sink.state c.next_end.new.sink).written c.next_end.new.held (g.W.Sink.state c.append_shown-in-Open.new.sink).written c.append_shown-in-Open.new.held c.as_slice-in-Open.ensures c.in_ok-append_shown-in-Open.ensures.shown in
    last_shown (is_bare c.args.showing.form) c.args.showing.max c.args.showing.depth c.args.number (c.args.ahead.now ++ rest) ahead a.0.0 l.0 (g.R.Source.state c.next_end.new.source).left (g.W.Sink.state c.args.sink.now).written (g.W.Sink.state c.next_end.new.sink).written (g.W.Sink.state c.append_shown-in-Open.new.sink).written c.args.held.now c.next_end.new.held c.append_shown-in-Open.new.held (g.W.Sink.state c.put_out.new.sink).written c.put_out.new.held
    a.0.2 (a.0.4 refl) a.0.3 a.0.1 a.1 l.1 l.2 c.in_ok-put_out-in-Open.ensures.ok

pub returns-in_err-put_out-in-TooFar-clause-line : goal.returns-in_err-put_out-in-TooFar-clause-line
returns-in_err-put_out-in-TooFar-clause-line g c = λ rest known_input.
    let a = rw c.in-TooFar.is at (c.in_ok-place.ensures.end rest known_input) in
    let p = err_from_is_err_and c.from_residual-in_err-put_out-in-TooFar.result c.from_residual-in_err-put_out-in-TooFar.ensures.1 in
    rw (p.1, p.2) (unwritten (is_bare c.args.showing.form) c.args.showing.max c.args.showing.depth c.args.number (c.args.ahead.now ++ rest) c.next_end.new.ahead a.0.0 (g.R.Source.state c.next_end.new.source).left (g.W.Sink.state c.args.sink.now).written (g.W.Sink.state c.next_end.new.sink).written c.args.held.now c.next_end.new.held (g.W.Sink.state c.put_out-in-TooFar.new.sink).written c.put_out-in-TooFar.new.held
    a.0.2 a.0.1 a.1 c.in_err-put_out-in-TooFar.ensures.err)

pub returns-in_ok-put_out-in-TooFar-clause-line : goal.returns-in_ok-put_out-in-TooFar-clause-line
returns-in_ok-put_out-in-TooFar-clause-line g c = λ rest known_input.
    let a = rw c.in-TooFar.is at (c.in_ok-place.ensures.end rest known_input) in
    far_stops (is_bare c.args.showing.form) c.args.showing.max c.args.showing.depth c.args.number (c.args.ahead.now ++ rest) c.next_end.new.ahead a.0.0 (g.R.Source.state c.next_end.new.source).left (g.W.Sink.state c.args.sink.now).written (g.W.Sink.state c.next_end.new.sink).written c.args.held.now c.next_end.new.held (g.W.Sink.state c.put_out-in-TooFar.new.sink).written c.put_out-in-TooFar.new.held
    a.0.2 a.0.3 a.0.1 a.1 c.in_ok-put_out-in-TooFar.ensures.ok
