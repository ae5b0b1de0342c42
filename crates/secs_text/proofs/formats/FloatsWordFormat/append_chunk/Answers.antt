use Rattle.std.proofs.Common.{◌≡◌, ◌++◌, ℕ, List, codes, take, ap, arith}
use Rattle.std.specs.List.{flat_map}
use Rattle.std.proofs.lemmas.List.{take_all}
use Rattle.secs_text.specs.Printed.{hexadecimal, two_digits}
use Rattle.secs_text.proofs.Blocks.{appended_same}
use Rattle.secs_text.proofs.formats.FloatsWordFormat.append_chunk.Goals as goal

pub returns-clause-appended_text : goal.returns-clause-appended_text
returns-clause-appended_text g c =
    let octets = c.args.octets.now in
    let whole : take c.loop-octet.octet-index octets ≡ octets = take_all c.loop-octet.octet-index octets (omega (arith, c.loop-octet-test.false, c.told-octets)) in
    appended_same (codes " " ++ hexadecimal octets) (ap (λ (o : List ℕ). codes " 0x" ++ flat_map two_digits o) whole) c.loop-octet.invariant.appended_text
