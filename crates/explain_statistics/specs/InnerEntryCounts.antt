-- What only contracts of private functions use, besides the definitions of `EntryCounts`.
use Rattle.hsms_log.specs.declared.verdict.Summary.{Summary}
use Rattle.explain_lines.specs.declared.explained_line.Carried.{Carried}
use Rattle.explain_lines.specs.declared.explained_line.Carried.TheVariants as carried
use Rattle.hsms_log.specs.Step.{entry_by}
use Rattle.explain_statistics.specs.EntryCounts.{with_entry}

-- The counts of the entries, including the content of a line.
abbrev pub with_carried : Summary → Carried → Summary
with_carried old (carried.Entry step text) = with_entry old (entry_by step text.now)
with_carried old carried.Nothing = old
with_carried old (carried.Unreadable reasoned) = old
