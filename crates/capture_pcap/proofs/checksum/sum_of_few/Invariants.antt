use Rattle.std.proofs.Common.{◌≡◌, ◌+◌, ◌*◌, ◌%◌, ◌≤◌, ◌^◌, length}
use Rattle.capture_pcap.specs.Checksum.{words_sum}
use Rattle.capture_pcap.proofs.checksum.sum_of_few.Given as goal

abbrev pub invariant-loop-rest : goal.invariant-loop-rest
invariant-loop-rest l = ((256 * l.sum + words_sum l.rest) % 65535 ≡ words_sum l.octets % 65535) × (l.sum + 2 ^ 16 * length l.rest ≤ 2 ^ 20)

abbrev pub decreases-loop-rest : goal.decreases-loop-rest
decreases-loop-rest l = length l.rest
