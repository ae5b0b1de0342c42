use Rattle.std.proofs.Common.{◌≡◌, ◌++◌, flat_map, string_bytes}
use Rattle.cli_reports.specs.Xml.{xml_of}
use Rattle.cli_reports.proofs.xml_text.push_text.Given as goal

-- The characters so far are appended.
abbrev pub invariant-loop-character : goal.invariant-loop-character
invariant-loop-character l = string_bytes l.xml ≡ string_bytes l.initial.xml ++ flat_map xml_of l.yielded
