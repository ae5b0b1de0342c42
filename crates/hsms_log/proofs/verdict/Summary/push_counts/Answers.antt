use Rattle.std.proofs.Common.{◌++◌, codes}
use Rattle.std.specs.Prelude.{string_bytes}
use Rattle.std.proofs.lemmas.Result.{on_ok_weaker}
use Rattle.hsms_log.specs.Verdict.{count_text}
use Rattle.hsms_log.proofs.Parts.{added_twice}
use Rattle.hsms_log.proofs.verdict.Summary.push_counts.Goals as goal

pub returns : goal.returns
returns c =
    let counts = c.args.self.now in
    let before = c.args.before.now in
    let subsequent = c.args.subsequent.now in
    let entries = count_text before (codes "entries") subsequent counts.entries in
    let sent = count_text before (codes "sent") subsequent counts.sent in
    let taken = count_text before (codes "taken") subsequent counts.taken in
    let discarded = count_text before (codes "discarded") subsequent counts.discarded in
    let expired = count_text before (codes "expired") subsequent counts.expired in
    let waiting = count_text before (codes "waiting") subsequent counts.waiting in
    let first = string_bytes c.push_count.new.text in
    let second = string_bytes c.push_count-2.new.text in
    let third = string_bytes c.push_count-3.new.text in
    let fourth = string_bytes c.push_count-4.new.text in
    let fifth = string_bytes c.push_count-5.new.text in
    let last = string_bytes c.push_count-6.new.text in
    on_ok_weaker c.push_count-6.result (λ added.
    added_twice (string_bytes c.args.text.now) first last entries (sent ++ (taken ++ (discarded ++ (expired ++ waiting)))) c.in_ok-push_count.ensures
    (added_twice first second last sent (taken ++ (discarded ++ (expired ++ waiting))) c.in_ok-push_count-2.ensures
    (added_twice second third last taken (discarded ++ (expired ++ waiting)) c.in_ok-push_count-3.ensures
    (added_twice third fourth last discarded (expired ++ waiting) c.in_ok-push_count-4.ensures
    (added_twice fourth fifth last expired waiting c.in_ok-push_count-5.ensures added)))))
    c.push_count-6.ensures
