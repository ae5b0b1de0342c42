use Rattle.std.proofs.Common.{subst}
use Rattle.std.specs.Prelude.{Option}
use Rattle.hsms_compare.specs.declared.reading.NumberedEntry.{NumberedEntry}
use Rattle.hsms_compare_logs.specs.Connection.{ReadsConnection}
use Rattle.hsms_compare_logs.proofs.LogSteps.{log_of_entries, of_entries}
use Rattle.hsms_compare_logs.proofs.log_entries.LogEntries.finish.Goals as goal

pub returns : goal.returns
returns g c text reads entries =
    let now = c.drain.new.self in
    let P : Option NumberedEntry → Type 0 = λ next. ReadsConnection text now.reader.input.block.items (g.R.Source.state now.reader.input.source).left now.reader.max now.reader.lines now.reader.is_ended next now.is_down now.is_followed now.up now.kept in
    let left = subst P c.in_ok-drain.ensures.end (c.in_ok-drain.ensures.entries text entries) in
    record {
      log = record {
        verdict = c.in_ok-verdict.ensures text (c.in_ok-drain.ensures.text text reads);
        entries = λ s found has. of_entries now.reader.input.block.items (g.R.Source.state now.reader.input.source).left now.reader.max now.reader.lines now.reader.is_ended now.is_down now.is_followed now.up now.kept c.in_ok-verdict.verdict c.may_have_more-is_open.result found c.may_have_more-is_open.ensures (left s found has);
      };
      entries = λ s found has. log_of_entries now.reader.input.block.items (g.R.Source.state now.reader.input.source).left now.reader.max now.reader.lines now.reader.is_ended now.is_down now.is_followed now.up now.kept c.may_have_more-is_open.result found c.may_have_more-is_open.ensures (left s found has);
    }
