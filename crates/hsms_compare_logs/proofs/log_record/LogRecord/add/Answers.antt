use Rattle.hsms_compare.specs.Readings.{line_of}
use Rattle.hsms_compare_logs.proofs.KeptEntries.{entries_more, lines_more}
use Rattle.hsms_compare_logs.proofs.log_record.LogRecord.add.Goals as goal

pub returns : goal.returns
returns c lines h =
    let line = line_of c.args.next.now in
    record {
      frames = c.in_ok-add.ensures.added lines c.args.next.now.entry.time h.frames;
      entries = record {
        entries_so = entries_more lines line c.args.self.now.entries.items _ c.bare_entry.result h.entries.entries_so c.in_ok-push.ensures.items c.bare_entry.ensures;
        lines_so = lines_more lines line c.args.self.now.lines.items _ h.entries.lines_so c.in_ok-push-2.ensures.items;
      };
    }
