use Rattle.std.proofs.Common.{◌≡◌, true, false}
use Rattle.hsms_log.specs.LineFormat.{IsBlank}
use Rattle.hsms_log.proofs.EntryLaws.{line_unread}
use Rattle.explain_lines.proofs.explained_line.carried_besides.Goals as goal

pub unreadable_entry-requires : goal.unreadable_entry-requires
unreadable_entry-requires c =
    let other : IsBlank c.args.line.now → ⊥ = λ blank. (let t : c.is_blank.result ≡ true = c.is_blank.ensures.1 blank in let f : c.is_blank.result ≡ false = c.if-is_blank.false in cc) in
    line_unread c.args.max c.args.line.now other (λ entry encoded_bytes. c.requires.frame entry encoded_bytes (c.in-None.ensures.none entry encoded_bytes))

pub returns-in-None : goal.returns-in-None
returns-in-None c =
    let other : IsBlank c.args.line.now → ⊥ = λ blank. (let t : c.is_blank.result ≡ true = c.is_blank.ensures.1 blank in let f : c.is_blank.result ≡ false = c.if-is_blank.false in cc) in
    line_unread c.args.max c.args.line.now other (λ entry encoded_bytes. c.requires.frame entry encoded_bytes (c.in-None.ensures.none entry encoded_bytes))
