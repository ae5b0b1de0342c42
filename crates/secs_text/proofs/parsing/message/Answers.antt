use Rattle.std.proofs.Common.{◌∙◌, ap, refl, arith}
use Rattle.std.specs.Prelude.{Some}
use Rattle.secs_text.specs.Content.{Content}
use Rattle.secs_text.specs.Fault.{any_messages}
use Rattle.secs_text.specs.InnerRemainingTokens.{left}
use Rattle.secs_text.specs.ParserStates.{Rules, walk, after_wait, stop_expected, before_item}
use Rattle.secs_text.specs.InnerTokenView.{seen, then_tokens}
use Rattle.secs_text.specs.InnerEncodedText.{named_by}
use Rattle.secs_text.proofs.parsing.message.Goals as goal

pub returns-in-Stop-token-clause-reads : goal.returns-in-Stop-token-clause-reads
returns-in-Stop-token-clause-reads c =
    let rules : Rules = any_messages c.args.depth in
    let item = c.in_ok-fits-in-Less.ensures.reads in
    let next = c.optional_wait-wait.result.1 in
    let head : Content = named_by c.args.stream c.args.function in
    let waited : Content = record head { wait = c.optional_wait-wait.result.0 } in
    record {
      item = Some item.value;
      leads = λ ms.
          c.optional_wait-wait.ensures.reads rules ms head refl
          ∙ ap (λ t. walk rules (after_wait ms waited) (then_tokens (record { at = next.at; token = seen t }) (left c.optional_wait-wait.new.tokens))) c.in-Less.is
          ∙ item.leads rules (before_item ms waited) (omega arith)
          ∙ ap (λ ps. walk rules (stop_expected ms (record waited { item = Some item.value })) ps)
          (c.next-next.ensures.tokens ∙ ap (λ t. then_tokens (record { at = c.next-next.result.at; token = seen t }) (left c.next-next.new.self)) c.in-Stop-token.is);
      appends_bytes = item.appends_bytes;
    }
