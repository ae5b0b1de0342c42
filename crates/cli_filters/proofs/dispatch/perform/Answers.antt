use Rattle.std.proofs.Common.{Ok, Err, refl}
use Rattle.std.proofs.lemmas.Result.{err_from_is_err_and}
use Rattle.cli_filters.proofs.Prints.{printed, unprinted}
use Rattle.cli_filters.proofs.dispatch.perform.Goals as goal

pub returns-in_err-give_all-in-Help : goal.returns-in_err-give_all-in-Help
returns-in_err-give_all-in-Help g c =
    let p = err_from_is_err_and c.from_residual.result c.from_residual.ensures.1 in
    rw (c.in-Help.is, p.1, p.2) (Err c.in_err-give_all-in-Help.field-0.0, refl, unprinted _ _ c.in_err-give_all-in-Help.field-0.0 _ _ _ c.as_bytes.ensures.value c.in_err-give_all-in-Help.ensures.err c.in_err-give_all-in-Help.ensures.failures)

pub returns-in_ok-give_all-in-Help : goal.returns-in_ok-give_all-in-Help
returns-in_ok-give_all-in-Help g c =
    rw c.in-Help.is (Ok tt, refl, printed _ _ _ _ _ c.as_bytes.ensures.value c.in_ok-give_all-in-Help.ensures.ok c.in_ok-give_all-in-Help.ensures.failures)
