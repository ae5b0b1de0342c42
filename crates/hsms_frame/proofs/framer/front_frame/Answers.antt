use Rattle.std.proofs.Common.{◌≡◌, ◌∙◌, ◌+◌, ◌-◌, ◌++◌, take, drop, ap, arith}
use Rattle.std.proofs.lemmas.Result.{err_from_is_err_and}
use Rattle.hsms_frame.proofs.Prefixes.{not_empty, whole_at_front, whole_unread}
use Rattle.hsms_frame.proofs.framer.front_frame.Goals as goal

pub returns-in_err-text-clause-answer : goal.returns-in_err-text-clause-answer
returns-in_err-text-clause-answer c =
    let p = err_from_is_err_and c.from_residual-in_err-text.result c.from_residual-in_err-text.ensures.1 in
    rw (p.1, p.2) (whole_unread _ _ _ _ (rw c.in-Some.is at c.in_ok-header.ensures) (not_empty _ c.in_err-text.ensures.succeeds))

pub returns-clause-answer : goal.returns-clause-answer
returns-clause-answer c =
    let size : 14 + c.in-Some.size - 14 ≡ c.in-Some.size = omega arith in
    whole_at_front _ _ c.extend_from_slice.new.self.items _ _ (rw c.in-Some.is at c.in_ok-header.ensures)
    (c.in_ok-extend_from_slice.ensures.items ∙ ap (λ xs. xs ++ take (14 + c.in-Some.size - 14) (drop 14 c.args.octets.now)) c.in_ok-text.ensures.items
    ∙ ap (λ n. take n (drop 14 c.args.octets.now)) size)
