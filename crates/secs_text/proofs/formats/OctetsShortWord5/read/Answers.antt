use Rattle.std.proofs.Common.{◌+◌, ◌-◌, ◌%◌, ◌^◌, ◌∙◌, get_or, ap, refl, arith}
use Rattle.secs_text.specs.Words.{octet_of_digits}
use Rattle.secs_text.proofs.ShortWords.{octet_short_if, front_of_word}
use Rattle.secs_text.proofs.formats.OctetsShortWord5.read.Goals as goal

pub returns : goal.returns
returns c =
    let t = c.args.text.now in
    let n = c.from_be_bytes-digit.result in
    let front = front_of_word (get_or t 0 0) (get_or t 1 0) (get_or t 2 0) (get_or t 3 0) n ((n + (2 ^ 32 - 0x20307800)) % 2 ^ 32)
    (c.fits-text 0) (c.fits-text 1) (c.fits-text 2) (c.fits-text 3) (omega (arith, c.from_be_bytes-digit.ensures)) refl c.if-digit-gt255.false in
    octet_short_if t c.octet_of_digits.result c.told-text front.0 front.1 front.2 (c.octet_of_digits.ensures ∙ ap (λ d. octet_of_digits d (get_or t 4 0)) front.3)
