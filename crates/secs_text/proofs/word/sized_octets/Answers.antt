use Rattle.std.proofs.Common.{◌≡◌, ◌+◌, ◌*◌, ◌<◌, ◌∙◌, length, get_or, sym, arith}
use Rattle.std.specs.Prelude.{Some}
use Rattle.std.proofs.Math.ListN.{length-set, length-replicate}
use Rattle.std.proofs.lemmas.List.{take_more_set}
use Rattle.secs_text.specs.Words.{octet_of_digits, hex_octets}
use Rattle.secs_text.proofs.Hexadecimal.{nothing_yet, octet_continues, other_length}
use Rattle.secs_text.proofs.word.sized_octets.Goals as goal

pub returns-then-digits : goal.returns-then-digits
returns-then-digits g c = sym (other_length g.row.N c.args.digits.now c.if-digits.true)

pub loop-i-init : goal.loop-i-init
loop-i-init g c = record { length = length-replicate g.row.N 0; read = nothing_yet (hex_octets c.args.digits.now) }

pub loop-i-preserved : goal.loop-i-preserved
loop-i-preserved g c =
    let digits = c.args.digits.now in
    let i = c.loop-i.i in
    let room : i < length c.loop-i.octets = omega arith in
    let more : 2 * i + 1 < length digits = omega arith in
    let is : octet_of_digits (get_or digits (2 * i) 0) (get_or digits (2 * i + 1) 0) ≡ Some c.in_ok-octets.field-0 = sym c.octet_of_digits.ensures ∙ c.in_ok-octets.was in
    record {
      length = length-set c.loop-i.octets i c.in_ok-octets.field-0 ∙ c.loop-i.invariant.length;
      read = octet_continues digits _ _ i c.in_ok-octets.field-0 more is (take_more_set c.loop-i.octets i c.in_ok-octets.field-0 room) c.loop-i.invariant.read;
    }
