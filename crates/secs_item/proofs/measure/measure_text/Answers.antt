use Rattle.std.proofs.Common.{Err, Some, length, refl, ap, arith, inr}
use Rattle.std.proofs.lemmas.Bool.Decides.{nat_tests}
use Rattle.std.proofs.lemmas.Result.{err_from_is_err_and}
use Rattle.secs_item.specs.declared.fault.ItemFault.{ItemFault}
use Rattle.secs_item.specs.Header.{trailing}
use Rattle.secs_item.proofs.Prefixes.{has_trailing, text_fails, text_trails, text_item, whole_front, front_whole}
use Rattle.secs_item.proofs.measure.measure_text.Goals as goal

pub returns-in_err-end-clause-err_where : goal.returns-in_err-end-clause-err_where
returns-in_err-end-clause-err_where c = λ at reason h.
    let p = err_from_is_err_and c.from_residual.result c.from_residual.ensures.1 in
    let same = text_fails c.args.depth c.args.octets.now c.in_err-end.field-0.0 c.in_err-end.ensures.err_where c.in_err-end.ensures.ok_where at reason h in
    rw (p.1, p.2) (ap (λ (f : ItemFault). Err f) same)

pub returns-then-end-octets-clause-err : goal.returns-then-end-octets-clause-err
returns-then-end-octets-clause-err c =
    let front = c.in_ok-end.ensures.ok in
    (c.in_ok-end.end, trailing, (omega arith, inr (refl, has_trailing c.args.depth c.args.octets.now front.0 c.in_ok-end.end front.1 (omega arith))), refl)

pub returns-then-end-octets-clause-err_where : goal.returns-then-end-octets-clause-err_where
returns-then-end-octets-clause-err_where c = λ at reason h.
    let p = text_trails c.args.depth c.args.octets.now c.in_ok-end.end c.in_ok-end.ensures.err_where c.in_ok-end.ensures.ok_where at reason h in
    rw (p.0, p.1) refl

pub returns-clause-err_where : goal.returns-clause-err_where
returns-clause-err_where c = λ at reason h.
    let p = text_trails c.args.depth c.args.octets.now c.in_ok-end.end c.in_ok-end.ensures.err_where c.in_ok-end.ensures.ok_where at reason h in
    absurd (omega arith)

pub returns-in_err-end-clause-ok_where : goal.returns-in_err-end-clause-ok_where
returns-in_err-end-clause-ok_where c = λ h.
    let p = text_item c.args.depth c.args.octets.now h.0 (grind (arith, nat_tests)) h.1 in
    let e = c.in_err-end.ensures.ok_where p.0 (length c.args.octets.now) (whole_front c.args.depth c.args.octets.now p.0 p.2) in
    absurd cc

pub returns-clause-ok : goal.returns-clause-ok
returns-clause-ok c =
    let front = c.in_ok-end.ensures.ok in
    (Some front.0, front_whole c.args.depth c.args.octets.now front.0 c.in_ok-end.end front.1 (omega arith))
