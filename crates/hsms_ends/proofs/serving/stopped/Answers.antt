use Rattle.std.proofs.Common.{List, Some, None, refl, sym, ◌∙◌, subst}
use Rattle.std.specs.Prelude.{All}
use Rattle.hsms_frame.specs.Io.{SinkState}
use Rattle.hsms_machine.specs.declared.entry.Entry.{Entry}
use Rattle.hsms_log.specs.LineFormat.{IsEntry}
use Rattle.std.proofs.lemmas.List.Elements.{All-nil}
use Rattle.hsms_ends.specs.declared.output.Stop.{Stop}
use Rattle.hsms_ends.specs.declared.fault.ServeFault.TheVariants as serve
use Rattle.hsms_ends.specs.InnerServeSteps.{StoppedAs}
use Rattle.hsms_ends.proofs.ReceivedBytes.{grows_none}
use Rattle.hsms_ends.proofs.Ending.{closed_by, lost_finishes, left_itself}
use Rattle.hsms_ends.proofs.serving.stopped.Goals as goal

pub returns-in-Ok : goal.returns-in-Ok
returns-in-Ok g c =
    let log : SinkState = g.W.Sink.state c.args.log.now in
    let log' : SinkState = g.W.Sink.state c.close_rest.new.log in
    let P : Stop → Type 0 = λ stop. StoppedAs g.D.TurnDesk.answers_after stop c.close_rest.result c.args.end.now c.lost-answer.new.self log (g.W.Sink.state c.close_rest.new.log) in
    subst P (sym c.in-Link.is)
    (record {
      loss = Some c.in-Ok.entries.items;
      end' = c.lost-answer.new.self;
      is_lost = (sym c.has_gone.ensures ∙ c.if-has_gone.false, c.in-Ok.ensures);
      closed = closed_by c.close_rest.result c.lost-answer.new.self c.in-Ok.entries.items log log' (rw c.deref-in-Ok.ensures.value at c.close_rest.ensures)
          (lost_finishes g.D.TurnDesk.answers_after c.args.end.now c.lost-answer.new.self c.in-Ok.entries.items c.in-Ok.ensures);
      in_range = let P : List Entry → Type 0 = λ l. All IsEntry l in subst P c.deref.ensures.value c.entries_are_in_range.ensures;
      left = left_itself g.D.TurnDesk.answers_after c.close_rest.result c.lost-answer.new.self;
    })

pub returns-then-has_gone : goal.returns-then-has_gone
returns-then-has_gone g c =
    let log : SinkState = g.W.Sink.state c.args.log.now in
    let P : Stop → Type 0 = λ stop. StoppedAs g.D.TurnDesk.answers_after stop serve.Link c.args.end.now c.args.end.now log (g.W.Sink.state c.args.log.now) in
    subst P (sym c.in-Link.is)
    (record {
      loss = None;
      end' = c.args.end.now;
      is_lost = refl;
      closed = (sym c.has_gone.ensures ∙ c.if-has_gone.true, (grows_none log.written, refl));
      in_range = All-nil IsEntry;
      left = refl;
    })

pub returns-in-Err : goal.returns-in-Err
returns-in-Err g c =
    let log : SinkState = g.W.Sink.state c.args.log.now in
    let P : Stop → Type 0 = λ stop. StoppedAs g.D.TurnDesk.answers_after stop serve.Memory c.args.end.now c.lost-answer.new.self log (g.W.Sink.state c.args.log.now) in
    subst P (sym c.in-Link.is)
    (record {
      loss = None;
      end' = c.args.end.now;
      is_lost = refl;
      closed = (grows_none log.written, refl);
      in_range = All-nil IsEntry;
      left = tt;
    })
