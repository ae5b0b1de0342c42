use Rattle.std.proofs.Common.{◌≡◌, ◌-◌, length}
use Rattle.capture_pcap.specs.NextBlock.{options_at}
use Rattle.capture_pcap.proofs.next_block.with_options.Given as goal

abbrev pub invariant-loop : goal.invariant-loop
invariant-loop l = options_at (length l.options - l.counter) l.order l.rest l.interface ≡ options_at (length l.options) l.order l.options l.fn.bare
