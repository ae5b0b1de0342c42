-- The number of entries of a log, by kind.
use Rattle.std.specs.Prelude.{◌+◌, ℕ, Bool, List, length, count_by, if◌then◌else◌}
use Rattle.hsms_machine.specs.declared.entry.Entry.{Entry}
use Rattle.hsms_log.specs.declared.verdict.Summary.{Summary}
use Rattle.hsms_log.specs.Verdict.{is_sent, is_taken, is_discarded, is_expired}
use Rattle.explain_lines.specs.Counted.{counted}

-- The counts of the entries, each limited to its maximum.
abbrev pub counts_of : List Entry → Summary
counts_of log = record {
  entries = counted (length log);
  sent = counted (count_by (λ entry. is_sent entry.event) log);
  taken = counted (count_by (λ entry. is_taken entry.event) log);
  discarded = counted (count_by (λ entry. is_discarded entry.event) log);
  expired = counted (count_by (λ entry. is_expired entry.event) log);
  waiting = 0;
}

-- The count, plus one if the condition holds.
abbrev pub one_more : ℕ → Bool → ℕ
one_more count so = if so then counted (count + 1) else count

-- The counts by kind, with one more entry.
abbrev pub with_kind : Summary → Entry → Summary
with_kind old entry = record {
  entries = old.entries;
  sent = one_more old.sent (is_sent entry.event);
  taken = one_more old.taken (is_taken entry.event);
  discarded = one_more old.discarded (is_discarded entry.event);
  expired = one_more old.expired (is_expired entry.event);
  waiting = old.waiting;
}

-- The counts with one more entry.
abbrev pub with_entry : Summary → Entry → Summary
with_entry old entry = with_kind (record old { entries = counted (old.entries + 1) }) entry
