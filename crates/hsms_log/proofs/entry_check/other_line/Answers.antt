use Rattle.std.proofs.Common.{refl, sym, ap, ◌∙◌, subst}
use Rattle.hsms_machine.specs.declared.entry.Entry.{Entry}
use Rattle.hsms_log.specs.LineFormat.{EncodesEntry}
use Rattle.hsms_log.specs.Step.{entry_by}
use Rattle.hsms_log.proofs.EntryLaws.{line_unread}
use Rattle.hsms_log.proofs.RuleCheckLaws.{unreadable_fails}
use Rattle.hsms_log.proofs.entry_check.other_line.Goals as goal

pub returns-in-Some : goal.returns-in-Some
returns-in-Some c =
    let P : Entry → Type 0 = λ e. EncodesEntry c.args.line.now e in
    let entry = c.entry_of.ensures ∙ ap (entry_by c.in-Some.step) c.new.ensures.items in
    c.carried_entry.ensures c.args.line.now (c.requires.fits, subst P (sym entry) c.in-Some.ensures.found)

pub returns-in-None : goal.returns-in-None
returns-in-None c =
    let none = line_unread c.args.session.now.settings.max c.args.line.now c.requires.entry
    (λ entry encoded_bytes. c.requires.other entry encoded_bytes (c.in-None.ensures.none entry encoded_bytes)) in
    (refl, λ before. unreadable_fails c.args.session.now c.args.tally.now before c.args.line.now none)
