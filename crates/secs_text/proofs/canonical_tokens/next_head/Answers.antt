use Rattle.std.proofs.Common.{◌+◌, rules}
use Rattle.secs_text.proofs.CanonicalTokenLists.{headed, head_taken}
use Rattle.secs_text.proofs.canonical_tokens.next_head.Goals as goal

pub returns-clause-taken : goal.returns-clause-taken
returns-clause-taken c =
    let s = c.in_ok-stream in
    let f = c.in_ok-function in
    let octets = c.past_white-at.result.1.now in
    head_taken c.past_white-at.result.0 (s.first + f.second) s.stream f.function c.args.tokens.now.text.now octets _ c.past_white-at.ensures.left c.past_white-at.ensures.rest
    (headed s.stream f.function s.first f.second octets c.split_at.result.1.now s.ensures.lettered c.split_at.ensures.back f.ensures.lettered (search rules))
