use Rattle.std.proofs.Common.{◌≡◌, ◌≤◌, ◌<◌, ◌-◌, length, get_or, arith, ◌∙◌, ap}
use Rattle.std.proofs.lemmas.List.{length-drop}
use Rattle.byteorder.specs.Endian.{little_number}
use Rattle.capture_pcap.specs.Checksum.{words_sum}
use Rattle.capture_pcap.proofs.Checksums.{words_one, words_last}
use Rattle.capture_pcap.proofs.checksum.sum_of_few.Goals as goal

pub loop-rest-preserved : goal.loop-rest-preserved
loop-rest-preserved c =
    let rest = c.loop-rest.rest.now in
    let others = c.split_at.result.1.now in
    let some : 2 ≤ length rest = search in
    let left : length others ≡ length rest - 2 = ap (λ xs. length xs) c.split_at.ensures.back ∙ length-drop 2 rest in
    let two : c.from-sum.result ≡ little_number 2 rest = c.from-sum.ensures ∙ c.short_at.ensures in
    let small : c.from-sum.result < 65536 = omega (arith, c.from-sum.ensures, c.short_at.type_inv) in (
      words_one c.loop-rest.sum c.from-sum.result rest others (words_sum c.args.octets.now) some c.split_at.ensures.back two c.loop-rest.invariant.0,
      omega (arith, some, left, small, c.loop-rest.invariant.1),
    )

pub returns-clause-value : goal.returns-clause-value
returns-clause-value c =
    let few : length c.loop-rest.rest.now < 2 = search in
    let last : c.from.result ≡ get_or c.loop-rest.rest.now 0 0 = c.from.ensures ∙ c.first_or_none.ensures in
    words_last c.loop-rest.sum c.from.result c.loop-rest.rest.now (words_sum c.args.octets.now) few last c.loop-rest.invariant.0
