use Rattle.std.proofs.Common.{◌+◌, List, Some, None, subst, sym}
use Rattle.hsms_compare.specs.Conversation.{Line}
use Rattle.hsms_compare_logs.specs.Entries.{AreOfText}
use Rattle.std.specs.Str.Lines.{strip_carriage_return}
use Rattle.hsms_log.specs.Lines.{ended_lines, open_line}
use Rattle.hsms_compare_logs.specs.declared.read_entry.Content.TheVariants.{Unreadable, Blank, Entry}
use Rattle.hsms_compare_logs.proofs.LineEntries.{content_as, ended_carries, ended_unreadable, of_first}
use Rattle.hsms_compare_logs.proofs.line_read.LineRead.of_ended.Goals as goal

pub returns-in-Unreadable : goal.returns-in-Unreadable
returns-in-Unreadable c left found none entries =
    ended_unreadable c.args.max c.args.number (strip_carriage_return c.args.line.now) (ended_lines left) (open_line left) found
    (content_as c.args.max c.args.line.now c.without_carriage_return.result.now c.in_ok-of.field-0 Unreadable c.in-Unreadable.is c.without_carriage_return.ensures c.in_ok-of.ensures)
    (of_first c.args.max c.args.number c.args.line.now left found none entries)

pub returns-in-Blank : goal.returns-in-Blank
returns-in-Blank c left found none entries =
    let e = ended_carries c.args.max c.args.number (strip_carriage_return c.args.line.now) (ended_lines left) (open_line left) found None
    (content_as c.args.max c.args.line.now c.without_carriage_return.result.now c.in_ok-of.field-0 Blank c.in-Blank.is c.without_carriage_return.ensures c.in_ok-of.ensures)
    (of_first c.args.max c.args.number c.args.line.now left found none entries) in
    let P : List Line → Type 0 = λ x. AreOfText c.args.max (c.args.number + 1) left x in
    subst P (sym e.1) e.2

pub returns-in-Entry : goal.returns-in-Entry
returns-in-Entry c left found none entries =
    ended_carries c.args.max c.args.number (strip_carriage_return c.args.line.now) (ended_lines left) (open_line left) found (Some c.in-Entry.entry)
    (content_as c.args.max c.args.line.now c.without_carriage_return.result.now c.in_ok-of.field-0 (Entry c.in-Entry.entry) c.in-Entry.is c.without_carriage_return.ensures c.in_ok-of.ensures)
    (of_first c.args.max c.args.number c.args.line.now left found none entries)
