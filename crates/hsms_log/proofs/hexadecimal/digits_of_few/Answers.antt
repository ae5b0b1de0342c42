use Rattle.std.proofs.Common.{◌≡◌, ◌*◌, ◌∙◌, ap, length, take}
use Rattle.std.proofs.lemmas.List.{take_at}
use Rattle.hsms_log.proofs.SixteenDigits.{first_digits}
use Rattle.hsms_log.proofs.hexadecimal.digits_of_few.Goals as goal

pub returns : goal.returns
returns c =
    let octets = c.args.octets.now in
    let same : c.copy_from_slice.new.self ≡ octets = c.copy_from_slice.ensures.after in
    ap (take (2 * length octets)) c.digits_of_sixteen.ensures
    ∙ first_digits octets _ (take_at c.copy_from_slice.new.self _ (length octets) (ap length same) ∙ same)
