use Rattle.std.proofs.Common.{◌≡◌, ◌<◌, ◌∙◌, length, Some, rules}
use Rattle.hsms_compare_logs.specs.declared.read_entry.Content.TheVariants.{Unreadable, Blank, Entry}
use Rattle.hsms_compare_logs.proofs.LineEntries.{content_as, framed, last_blank, last_carries, last_empty, last_unreadable, not_empty, of_last, unframed}
use Rattle.hsms_compare_logs.proofs.line_read.LineRead.of_last.Goals as goal

pub returns-then-is_empty-clause-entry : goal.returns-then-is_empty-clause-entry
returns-then-is_empty-clause-entry c left found none entries =
    let empty : length c.args.line.now ≡ 0 = search rules in
    last_empty c.args.max c.args.number c.args.line.now found empty (of_last c.args.max c.args.number c.args.line.now found none entries)

pub returns-then-has_frame-clause-entry : goal.returns-then-has_frame-clause-entry
returns-then-has_frame-clause-entry c left found none entries =
    let some : 0 < length c.args.line.now = search rules in
    last_carries c.args.max c.args.number c.args.line.now found (Some c.in-Entry.entry) (not_empty c.args.line.now some)
    (content_as c.args.max c.args.line.now c.without_carriage_return.result.now c.in_ok-of.field-0 (Entry c.in-Entry.entry) c.in-Entry.is c.without_carriage_return.ensures c.in_ok-of.ensures)
    (of_last c.args.max c.args.number c.args.line.now found none entries)
    ∙ framed c.args.number c.in-Entry.entry c.has_frame.result c.has_frame.ensures c.if-has_frame.true

pub returns-in-Unreadable-clause-entry : goal.returns-in-Unreadable-clause-entry
returns-in-Unreadable-clause-entry c left found none entries =
    last_unreadable c.args.max c.args.number c.args.line.now found
    (content_as c.args.max c.args.line.now c.without_carriage_return.result.now c.in_ok-of.field-0 Unreadable c.in-Unreadable.is c.without_carriage_return.ensures c.in_ok-of.ensures)
    (of_last c.args.max c.args.number c.args.line.now found none entries)

pub returns-in-Blank-clause-entry : goal.returns-in-Blank-clause-entry
returns-in-Blank-clause-entry c left found none entries =
    last_blank c.args.max c.args.number c.args.line.now found
    (content_as c.args.max c.args.line.now c.without_carriage_return.result.now c.in_ok-of.field-0 Blank c.in-Blank.is c.without_carriage_return.ensures c.in_ok-of.ensures)
    (of_last c.args.max c.args.number c.args.line.now found none entries)

pub returns-else-has_frame-clause-entry : goal.returns-else-has_frame-clause-entry
returns-else-has_frame-clause-entry c left found none entries =
    let some : 0 < length c.args.line.now = search rules in
    last_carries c.args.max c.args.number c.args.line.now found (Some c.in-Entry.entry) (not_empty c.args.line.now some)
    (content_as c.args.max c.args.line.now c.without_carriage_return.result.now c.in_ok-of.field-0 (Entry c.in-Entry.entry) c.in-Entry.is c.without_carriage_return.ensures c.in_ok-of.ensures)
    (of_last c.args.max c.args.number c.args.line.now found none entries)
    ∙ unframed c.args.number c.in-Entry.entry c.has_frame.result c.has_frame.ensures c.if-has_frame.false
