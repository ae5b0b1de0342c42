use Rattle.std.proofs.Common.{◌∙◌, ap, arith, refl, sym, false, [], ◌++◌, ◌∷◌}
use Rattle.std.specs.Prelude.{Some, None}
use Rattle.secs_item.specs.Item.{view}
use Rattle.secs_text.specs.Content.{Content}
use Rattle.secs_text.specs.InnerRemainingTokens.{left}
use Rattle.secs_text.specs.ParserStates.{walk, start, after_wait, stop_expected, before_item}
use Rattle.secs_text.specs.InnerTokenView.{seen, then_tokens}
use Rattle.secs_text.proofs.TokenSteps.{no_stop, no_text_expected}
use Rattle.secs_text.proofs.reading.message.Goals as goal

pub returns-in-Stop-clause-reads : goal.returns-in-Stop-clause-reads
returns-in-Stop-clause-reads c = λ rules ms deep may last.
    let next = c.optional_wait-wait.result.1 in
    let head : Content = record { stream = c.in_ok-stream.stream; function = c.in_ok-stream.function; wait = false; item = None } in
    let waited : Content = record head { wait = c.optional_wait-wait.result.0 } in
    c.in_ok-stream.ensures.reads rules ms (left c.args.tokens.now) may last
    ∙ c.optional_wait-wait.ensures.reads rules ms head refl
    ∙ ap (λ t. walk rules (after_wait ms waited) (then_tokens (record { at = next.at; token = seen t }) (left c.optional_wait-wait.new.tokens))) c.in-Stop.is
    ∙ ap (λ m. walk rules (start (ms ++ m ∷ [])) (left c.optional_wait-wait.new.tokens)) (sym c.new.ensures)

pub returns-clause-reads : goal.returns-clause-reads
returns-clause-reads c = λ rules ms deep may last.
    let next = c.optional_wait-wait.result.1 in
    let head : Content = record { stream = c.in_ok-stream.stream; function = c.in_ok-stream.function; wait = false; item = None } in
    let waited : Content = record head { wait = c.optional_wait-wait.result.0 } in
    let item = view c.in_ok-item-in-Less.item in
    c.in_ok-stream.ensures.reads rules ms (left c.args.tokens.now) may last
    ∙ c.optional_wait-wait.ensures.reads rules ms head refl
    ∙ ap (λ t. walk rules (after_wait ms waited) (then_tokens (record { at = next.at; token = seen t }) (left c.optional_wait-wait.new.tokens))) c.in-Less.is
    ∙ c.in_ok-item-in-Less.ensures.reads rules (before_item ms waited) (omega arith)
    ∙ ap (λ ps. walk rules (stop_expected ms (record waited { item = Some item })) ps)
    (c.next-next.ensures.tokens ∙ ap (λ t. then_tokens (record { at = c.next-next.result.at; token = seen t }) (left c.next-next.new.self)) c.in-Stop-token.is)
    ∙ ap (λ m. walk rules (start (ms ++ m ∷ [])) (left c.next-next.new.self)) (sym c.new-message.ensures)

pub returns-in_default : goal.returns-in_default
returns-in_default c = record {
  reads = λ rules ms deep may last.
      let next = c.optional_wait-wait.result.1 in
      let head : Content = record { stream = c.in_ok-stream.stream; function = c.in_ok-stream.function; wait = false; item = None } in
      c.in_ok-stream.ensures.reads rules ms (left c.args.tokens.now) may last
      ∙ c.optional_wait-wait.ensures.reads rules ms head refl
      ∙ no_text_expected rules ms (record head { wait = c.optional_wait-wait.result.0 }) next.at next.token (left c.optional_wait-wait.new.tokens) c.in_default.not-Stop c.in_default.not-Less;
  no_longer = c.optional_wait-wait.ensures.no_longer;
  started = tt;
}

pub returns-in_default-token : goal.returns-in_default-token
returns-in_default-token c = record {
  reads = λ rules ms deep may last.
      let next = c.optional_wait-wait.result.1 in
      let head : Content = record { stream = c.in_ok-stream.stream; function = c.in_ok-stream.function; wait = false; item = None } in
      let waited : Content = record head { wait = c.optional_wait-wait.result.0 } in
      let whole : Content = record waited { item = Some (view c.in_ok-item-in-Less.item) } in
      c.in_ok-stream.ensures.reads rules ms (left c.args.tokens.now) may last
      ∙ c.optional_wait-wait.ensures.reads rules ms head refl
      ∙ ap (λ t. walk rules (after_wait ms waited) (then_tokens (record { at = next.at; token = seen t }) (left c.optional_wait-wait.new.tokens))) c.in-Less.is
      ∙ c.in_ok-item-in-Less.ensures.reads rules (before_item ms waited) (omega arith)
      ∙ ap (λ ps. walk rules (stop_expected ms whole) ps) c.next-next.ensures.tokens
      ∙ no_stop rules ms whole c.next-next.result.at c.next-next.result.token (left c.next-next.new.self) c.in_default-token.not-Stop;
  no_longer = omega arith;
  started = tt;
}
