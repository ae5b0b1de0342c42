-- How serving ends.
use Rattle.std.proofs.Common.{◌≡◌, ◌≤◌, arith, ◌++◌, ℕ, List, [], length, Some, None, Ok, Err, true, false, inl, inr, refl, sym, ap, ◌∙◌, subst, append_assoc}
use Rattle.std.specs.Prelude.{Option, Result, All}
use Rattle.std.proofs.lemmas.List.{append-nil}
use Rattle.std.proofs.lemmas.List.Elements.{All-append}
use Rattle.secs_text.specs.Content.{Content}
use Rattle.hsms_frame.specs.Io.{SinkState}
use Rattle.hsms_machine.specs.declared.entry.Entry.{Entry}
use Rattle.hsms_machine.specs.ViewRules.{is_gone}
use Rattle.hsms_log.specs.LineFormat.{IsEntry}
use Rattle.hsms_endpoint.specs.Answer.{Answered}
use Rattle.hsms_endpoint.specs.EndState.{EndOf, EndState}
use Rattle.hsms_endpoint.specs.Turn.{lost}
use Rattle.hsms_endpoint.specs.End.{Accepts}
use Rattle.hsms_ends.specs.declared.step.Step.{Step}
use Rattle.hsms_ends.specs.declared.output.Stop.{Stop}
use Rattle.hsms_ends.specs.declared.output.Stop.TheVariants.{Link, Log, Memory}
use Rattle.hsms_ends.specs.declared.serving.ServedScript.{ServedScript}
use Rattle.hsms_ends.specs.declared.fault.ServeFault.{ServeFault}
use Rattle.hsms_ends.specs.declared.fault.ServeFault.TheVariants as serve
use Rattle.hsms_ends.specs.Link.{LinkState, LinkInput, ProcessesInput}
use Rattle.hsms_ends.specs.Output.{GrowsByPart, LogGrows, IsEnding, sent_octets}
use Rattle.hsms_ends.specs.InnerOutput.{log_lines}
use Rattle.hsms_ends.specs.Turns.{has_gone}
use Rattle.hsms_ends.specs.Serving.{Story, Unopened, Unstarted, Started, IsStory, IsLost, IsStarted, has_lost, lost_entries, last_lost, last_call, entries_of, reception_of, turns_begun, MayHaveFailed}
use Rattle.hsms_ends.specs.InnerServeSteps.{Ran, ClosedAs, IsLeft, ClosedLink, RestClosed, StoppedAs, AnswersEnd, HoldsLines, ServesEnd}
use Rattle.hsms_ends.proofs.OutputSteps.{lines-append, sent-append, part_of_first, log_then, stops_then, grows_along, whole_is}
use Rattle.hsms_ends.proofs.TurnResults.{ending_none}
use Rattle.hsms_ends.proofs.Downs.{gone_after}

pub closed_by : {D : Type 0} (fault : ServeFault) (end : EndOf D) (entries : List Entry) (log log' : SinkState) → RestClosed fault log log' entries → has_gone end ≡ true → ClosedAs fault end (Some entries) log log'
closed_by serve.Link end entries log log' h gone = (gone, h)
closed_by serve.Log end entries log log' h gone = h
closed_by serve.Turns end entries log log' h gone = h
closed_by serve.Memory end entries log log' h gone = absurd h

pub holds_then : (result : Result ServedScript ServeFault) (log mid log' : SinkState) (head lines : List ℕ) (rest : List Entry) → LogGrows log mid head → HoldsLines result mid log' lines rest → HoldsLines result log log' (head ++ lines) rest
holds_then (Ok _) log mid log' head lines rest h k = (k.0, log_then log mid log' head lines h k.1)
holds_then (Err serve.Turns) log mid log' head lines rest h k = (k.0, log_then log mid log' head lines h k.1)
holds_then (Err serve.Link) log mid log' head lines rest h k = (k.0, log_then log mid log' head lines h k.1)
holds_then (Err serve.Log) log mid log' head lines rest h k = stops_then log mid log' head lines rest h k
holds_then (Err serve.Memory) log mid log' head lines rest h k = (k.0, log_then log mid log' head lines h k.1)

-- The entries of `lost` that are in the log. If some are missing, `lost` is the last call.
pub record LossLogged (fault : ServeFault) (log log' : SinkState) (loss : Option (List Entry)) (before : List Entry) : Type 0 where
  pub whole : List Entry
  pub rest : List Entry
  pub parted : lost_entries loss ≡ whole ++ rest
  pub ends : IsEnding rest (last_lost loss before)
  pub holds : HoldsLines (Err fault) log log' (log_lines whole) rest

all_lost : (log log' : SinkState) (loss : Option (List Entry)) (before : List Entry) → LogGrows log log' (log_lines (lost_entries loss)) → LossLogged serve.Link log log' loss before
all_lost log log' loss before h = record {
  whole = lost_entries loss;
  rest = [];
  parted = sym (append-nil (lost_entries loss));
  ends = (last_lost loss before, sym (append-nil (last_lost loss before)));
  holds = (refl, h);
}

ending_lost : (loss : Option (List Entry)) (before whole rest : List Entry) → lost_entries loss ≡ whole ++ rest → IsEnding rest (last_lost loss before)
ending_lost None before whole rest h = ending_none before rest (whole, h)
ending_lost (Some entries) before whole rest h = (whole, h)

loss_logged : {D : Type 0} (fault : ServeFault) (end : EndOf D) (loss : Option (List Entry)) (before : List Entry) (log log' : SinkState) → ClosedAs fault end loss log log' → LossLogged fault log log' loss before
loss_logged serve.Link end loss before log log' h = all_lost log log' loss before h.1
loss_logged serve.Log end loss before log log' h =
    record { whole = h.whole; rest = h.rest; parted = h.parted; ends = ending_lost loss before h.whole h.rest h.parted; holds = h.stops }
loss_logged serve.Turns end loss before log log' h = absurd h
loss_logged serve.Memory end loss before log log' h =
    let all = all_lost log log' loss before h in
    record { whole = all.whole; rest = all.rest; parted = all.parted; ends = all.ends; holds = all.holds }

no_lost : (story : Story) → has_lost story ≡ false → {P : Type 0} → has_lost story ≡ true → P
no_lost story none {P} h = absurd (let e : true ≡ false = sym h ∙ none in cc)

link_answers : {D : Type 0} (fault : ServeFault) (limit : ℕ) (story : Story) (end : EndOf D) (loss : Option (List Entry)) (log log' : SinkState) → IsStarted story → ClosedAs fault end loss log log' → AnswersEnd limit (Err fault) story end
link_answers serve.Link limit story end loss log log' started h = (started, h.0)
link_answers serve.Log limit story end loss log log' started h = tt
link_answers serve.Turns limit story end loss log log' started h = absurd h
link_answers serve.Memory limit story end loss log log' started h = tt

link_failed : {D : Type 0} (fault : ServeFault) (end : EndOf D) (loss : Option (List Entry)) (log log' : SinkState) → ClosedAs fault end loss log log' → MayHaveFailed (Err fault) true
link_failed serve.Link end loss log log' h = refl
link_failed serve.Log end loss log log' h = tt
link_failed serve.Turns end loss log log' h = absurd h
link_failed serve.Memory end loss log log' h = tt

-- A story extended by the entries of `lost`.
pub record Extended {D : Type 0} (answers : D → ℕ → Content → Answered) (pause : Option ℕ) (new : EndOf D) (script : List Step) (story : Story) (loss : Option (List Entry)) (end : EndOf D) : Type 0 where
  pub longer : Story
  pub is_story : IsStory answers pause new script longer end
  pub entries : entries_of story ++ lost_entries loss ≡ entries_of longer
  pub reception : reception_of story ≡ reception_of longer
  pub begun : turns_begun longer ≡ turns_begun story
  pub last : last_call longer ≡ last_lost loss (last_call story)
  pub started : IsStarted longer

module _ {D : Type 0} (answers : D → ℕ → Content → Answered) where
  -- A loss that is accepted ends the connection.
  pub lost_finishes : (end end' : EndOf D) (entries : List Entry) → Accepts answers end lost entries end' → has_gone end' ≡ true
  lost_finishes end end' entries h = ap (λ (k : EndState). is_gone k.view.phase) h.turn.2.1 ∙ gone_after end.known.view.phase

  pub left_itself : (fault : ServeFault) (end : EndOf D) → IsLeft (Err fault) end end
  left_itself serve.Link end = refl
  left_itself serve.Turns end = refl
  left_itself serve.Log end = tt
  left_itself serve.Memory end = tt

module _ {D : Type 0} (answers : D → ℕ → Content → Answered) (pause : Option ℕ) where
  pub end_ok : (served : ServedScript) (limit : ℕ) (new end : EndOf D) (script script' : List Step) (log log' : SinkState) (link link' : LinkState) (n m : ℕ)
      → Ran answers pause (Ok tt) limit new end script script' log log' link link' n m → has_gone end ≡ true → served.counts.entries ≡ n → served.counts.refused ≡ m → served.left ≡ length script'
      → ServesEnd answers pause new end script limit (Ok served) log log' link link'
  end_ok served limit new end script script' log log' link link' n m r gone entries refused steps = record {
    story = r.story;
    last = r.end';
    is_story = r.is_story;
    bound = r.bound;
    answer = (r.whole refl, ap (λ (e : EndOf D). has_gone e) (sym r.leads) ∙ gone, entries ∙ r.counted, refused ∙ r.refusals);
    in_range = r.in_range;
    whole = r.puts.whole;
    rest = r.puts.rest;
    parted = r.puts.parted;
    rest_is_last = r.ends;
    log_holds = r.puts.logged;
    processes_input = r.puts.processes_input;
    failed = false;
    took = r.puts.sent.0;
    failures = r.puts.sent.1;
    failed_is = refl;
    lost_is = no_lost r.story r.not_lost;
    left = r.leads;
    steps_left = omega (arith, steps, r.steps refl);
  }

  pub end_turns : (limit : ℕ) (new end : EndOf D) (script script' : List Step) (log log' : SinkState) (link link' : LinkState) (n m : ℕ)
      → Ran answers pause (Ok tt) limit new end script script' log log' link link' n m → has_gone end ≡ false
      → ServesEnd answers pause new end script limit (Err serve.Turns) log log' link link'
  end_turns limit new end script script' log log' link link' n m r up =
      let here = ap (λ (e : EndOf D). has_gone e) (sym r.leads) ∙ up in
      record {
        story = r.story;
        last = r.end';
        is_story = r.is_story;
        bound = r.bound;
        answer = (r.whole refl, r.enough refl here, here);
        in_range = r.in_range;
        whole = r.puts.whole;
        rest = r.puts.rest;
        parted = r.puts.parted;
        rest_is_last = r.ends;
        log_holds = r.puts.logged;
        processes_input = r.puts.processes_input;
        failed = false;
        took = r.puts.sent.0;
        failures = r.puts.sent.1;
        failed_is = refl;
        lost_is = no_lost r.story r.not_lost;
        left = r.leads;
        steps_left = tt;
      }

  extend : (new mid end : EndOf D) (script : List Step) (story : Story) (loss : Option (List Entry)) → has_lost story ≡ false → IsStarted story → IsStory answers pause new script story mid → IsLost answers mid loss end → Extended answers pause new script story loss end
  extend new mid end script Unopened loss none started is h = absurd started
  extend new mid end script (Unstarted now) loss none started is h = absurd started
  extend new mid end script (Started now entries turns cut (Some more)) loss none started is h = absurd (let e : true ≡ false = none in cc)
  extend new mid end script (Started now entries turns cut None) loss none started is h = record {
    longer = Started now entries turns cut loss;
    is_story = (is.0, is.1, is.2, is.3, is.4, is.5, is.6, let P : EndOf D → Type 0 = λ e. IsLost answers e loss end in subst P is.7 h);
    entries = simp (append_assoc, append-nil);
    reception = refl;
    begun = refl;
    last = refl;
    started = tt;
  }

  ended_link : (fault : ServeFault) (limit : ℕ) (new end end_new : EndOf D) (script script' : List Step) (log mid log' : SinkState) (link link' : LinkState) (n m : ℕ)
      → Ran answers pause (Err Link) limit new end script script' log mid link link' n m → ClosedLink answers fault end end_new mid log'
      → ServesEnd answers pause new end_new script limit (Err fault) log log' link link'
  ended_link fault limit new end end_new script script' log mid log' link link' n m r h =
      let P : EndOf D → Type 0 = λ e. IsLost answers e h.loss h.end' in
      let x = extend new r.end' h.end' script r.story h.loss r.not_lost r.started r.is_story (subst P r.leads h.is_lost) in
      let a = entries_of r.story in
      let b = lost_entries h.loss in
      let whole = whole_is a r.puts.whole r.puts.rest r.puts.parted r.puts.logged.0 in
      let logged : LogGrows log mid (log_lines a) = grows_along log mid (log_lines r.puts.whole) (log_lines a) (ap log_lines whole) r.puts.logged.1 in
      let late = loss_logged fault h.end' h.loss (last_call r.story) mid log' h.closed in
      let T : List Entry → Type 0 = λ l. GrowsByPart link.taken link'.taken (sent_octets l) in
      let part : GrowsByPart link.taken link'.taken (sent_octets a ++ sent_octets late.whole) =
      part_of_first link.taken link'.taken (sent_octets a) (sent_octets late.whole) (subst T whole r.puts.sent.0) in
      let S : List ℕ → Type 0 = λ l. GrowsByPart link.taken link'.taken l in
      let H : LinkInput → Type 0 = λ l. ProcessesInput link link' l in
      let R : List Entry → Type 0 = λ l. All IsEntry l in
      let E : List Entry → Type 0 = λ l. IsEnding late.rest l in
      let G : List ℕ → Type 0 = λ l. HoldsLines (Err fault) log log' l late.rest in
      record {
        story = x.longer;
        last = h.end';
        is_story = x.is_story;
        bound = let B : ℕ → Type 0 = λ k. k ≤ limit in subst B (sym x.begun) r.bound;
        answer = link_answers fault limit x.longer h.end' h.loss mid log' x.started h.closed;
        in_range = subst R x.entries (All-append IsEntry a b r.in_range h.in_range);
        whole = a ++ late.whole;
        rest = late.rest;
        parted = sym x.entries ∙ ap (λ l. a ++ l) late.parted ∙ sym (append_assoc a late.whole late.rest);
        rest_is_last = subst E (sym x.last) late.ends;
        log_holds = subst G (sym (lines-append a late.whole)) (holds_then (Err fault) log mid log' (log_lines a) (log_lines late.whole) late.rest logged late.holds);
        processes_input = subst H x.reception r.puts.processes_input;
        failed = true;
        took = subst S (sym (sent-append a late.whole)) part;
        failures = r.puts.sent.1;
        failed_is = link_failed fault h.end' h.loss mid log' h.closed;
        lost_is = λ _. refl;
        left = h.left;
        steps_left = tt;
      }

  pub ended : (stop : Stop) (fault : ServeFault) (limit : ℕ) (new end end_new : EndOf D) (script script' : List Step) (log mid log' : SinkState) (link link' : LinkState) (n m : ℕ)
      → Ran answers pause (Err stop) limit new end script script' log mid link link' n m → StoppedAs answers stop fault end end_new mid log'
      → ServesEnd answers pause new end_new script limit (Err fault) log log' link link'
  ended Link fault limit new end end_new script script' log mid log' link link' n m r h = ended_link fault limit new end end_new script script' log mid log' link link' n m r h
  ended Memory fault limit new end end_new script script' log mid log' link link' n m r h =
      let F : ServeFault → Type 0 = λ f. ServesEnd answers pause new end_new script limit (Err f) log log' link link' in
      let L : SinkState → Type 0 = λ l. ServesEnd answers pause new end_new script limit (Err serve.Memory) log l link link' in
      subst F (sym h.0) (subst L (sym h.1) (record {
        story = r.story;
        last = r.end';
        is_story = r.is_story;
        bound = r.bound;
        answer = tt;
        in_range = r.in_range;
        whole = r.puts.whole;
        rest = r.puts.rest;
        parted = r.puts.parted;
        rest_is_last = r.ends;
        log_holds = r.puts.logged;
        processes_input = r.puts.processes_input;
        failed = false;
        took = r.puts.sent.0;
        failures = r.puts.sent.1;
        failed_is = tt;
        lost_is = no_lost r.story r.not_lost;
        left = tt;
        steps_left = tt;
      }))
  ended Log fault limit new end end_new script script' log mid log' link link' n m r h =
      let F : ServeFault → Type 0 = λ f. ServesEnd answers pause new end_new script limit (Err f) log log' link link' in
      let L : SinkState → Type 0 = λ l. ServesEnd answers pause new end_new script limit (Err serve.Log) log l link link' in
      subst F (sym h.0) (subst L (sym h.1) (elim r.puts.sent [
        | inl all ↦ record {
          story = r.story;
          last = r.end';
          is_story = r.is_story;
          bound = r.bound;
          answer = tt;
          in_range = r.in_range;
          whole = r.puts.whole;
          rest = r.puts.rest;
          parted = r.puts.parted;
          rest_is_last = r.ends;
          log_holds = r.puts.logged;
          processes_input = r.puts.processes_input;
          failed = false;
          took = all.0;
          failures = all.1;
          failed_is = tt;
          lost_is = no_lost r.story r.not_lost;
          left = tt;
          steps_left = tt;
        }
        | inr part ↦ record {
          story = r.story;
          last = r.end';
          is_story = r.is_story;
          bound = r.bound;
          answer = tt;
          in_range = r.in_range;
          whole = r.puts.whole;
          rest = r.puts.rest;
          parted = r.puts.parted;
          rest_is_last = r.ends;
          log_holds = r.puts.logged;
          processes_input = r.puts.processes_input;
          failed = true;
          took = part.0;
          failures = part.1;
          failed_is = tt;
          lost_is = no_lost r.story r.not_lost;
          left = tt;
          steps_left = tt;
        }
      ]))
