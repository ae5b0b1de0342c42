use Rattle.std.proofs.Common.{◌∙◌, [], arith, refl}
use Rattle.std.proofs.lemmas.Result.{err_from_is_err_and}
use Rattle.cli_show.proofs.Runs.{holds_same}
use Rattle.cli_filters.proofs.Lines.{at_front, appends_all, appends_more, appends_not_all, appends_part}
use Rattle.cli_filters.proofs.frame_output.put_lines.Goals as goal

pub loop-front-init : goal.loop-front-init
loop-front-init g c = ((λ fs are. ([], fs, are, refl, holds_same _ _)), refl)

pub text_size-requires : goal.text_size-requires
text_size-requires g c =
    let s = c.loop-front.invariant.0 c.requires.0 c.requires.1 in
    let a = at_front s.1 c.loop-front.rest.now c.in-Some.front.now c.in-Some.subsequent.now s.2 c.in-Some.ensures.cases in a.1

pub split_at-requires : goal.split_at-requires
split_at-requires g c =
    let s = c.loop-front.invariant.0 c.requires.0 c.requires.1 in
    let a = at_front s.1 c.loop-front.rest.now c.in-Some.front.now c.in-Some.subsequent.now s.2 c.in-Some.ensures.cases in
    omega (arith, a.2, c.text_size.ensures)

pub loop-front-preserved : goal.loop-front-preserved
loop-front-preserved g c = (
  appends_more _ _ c.in-Some.front.now c.in-Some.subsequent.now _ _ c.text_size.result _ _ _ _ _ _ c.loop-front.invariant.0 c.in-Some.ensures.cases c.text_size.ensures
      c.split_at.ensures.front c.split_at.ensures.back c.in_ok-append_hex_line.ensures.line,
  c.in_ok-append_hex_line.ensures.writes ∙ c.loop-front.invariant.1,
)

pub returns-in_err-append_hex_line-clause-err : goal.returns-in_err-append_hex_line-clause-err
returns-in_err-append_hex_line-clause-err g c = λ fs are.
    let p = err_from_is_err_and c.from_residual.result c.from_residual.ensures.1 in
    rw p.1 (appends_part _ _ c.in-Some.front.now c.in-Some.subsequent.now _ c.text_size.result _ _ _ _ _ c.loop-front.invariant.0 c.in-Some.ensures.cases c.text_size.ensures
    c.split_at.ensures.front c.in_err-append_hex_line.ensures.line fs are)

pub returns-clause-ok : goal.returns-clause-ok
returns-clause-ok g c = appends_all c.put_out.result _ _ _ _ _ _ _ c.loop-front.invariant.0 c.in_default.ensures.cases c.put_out.ensures.ok

pub returns-clause-err : goal.returns-clause-err
returns-clause-err g c = appends_not_all c.put_out.result _ _ _ _ _ _ _ c.loop-front.invariant.0 c.in_default.ensures.cases c.put_out.ensures.err
