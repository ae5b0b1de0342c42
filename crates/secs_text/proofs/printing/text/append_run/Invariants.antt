use Rattle.std.proofs.Common.{◌≡◌, take}
use Rattle.std.specs.List.{list_all}
use Rattle.secs_text.specs.Octets.{is_quotable}
use Rattle.secs_text.proofs.printing.text.append_run.Given as goal

abbrev pub invariant-loop-octet : goal.invariant-loop-octet
invariant-loop-octet l = l.are_quotable ≡ list_all is_quotable (take l.octet-index l.octets)
