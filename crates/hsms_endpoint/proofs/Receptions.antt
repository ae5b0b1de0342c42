-- Messages received one after the other.
use Rattle.std.proofs.Common.{◌≡◌, ℕ, ◌<◌, true, false, List, [], ◌∷◌, ◌++◌, length, length-append, Option, Some, None, Result, Ok, Err, refl, sym, ap, subst, ◌∙◌, append_assoc, append-nil, arith}
use Rattle.secs_text.specs.Content.{Content}
use Rattle.hsms_frame.specs.declared.header.Header.{Header}
use Rattle.hsms_frame.specs.declared.fault.FrameFault.{FrameFault}
use Rattle.hsms_frame.specs.declared.fault.FrameFault.TheVariants.{TooShort, TooLong}
use Rattle.hsms_frame.specs.Frame.{Frame, frame_octets}
use Rattle.hsms_frame.specs.Framing.{FramesAs, FramerState}
use Rattle.hsms_machine.specs.declared.entry.Entry.{Entry}
use Rattle.hsms_machine.specs.declared.entry.Cause.TheVariants.{Length}
use Rattle.hsms_machine.specs.declared.view.View.{View}
use Rattle.hsms_machine.specs.View.{HasView}
use Rattle.hsms_endpoint.specs.declared.state.State.{State}
use Rattle.hsms_endpoint.specs.Answer.{Answered}
use Rattle.hsms_endpoint.specs.Turn.{is_up, cut_by, warns_too_long, Receives, Rests, is_down, waits, too_short, too_long, TakesOff}
use Rattle.hsms_endpoint.specs.End.{Extends}
use Rattle.hsms_endpoint.specs.Invariant.{IsSound}
use Rattle.hsms_endpoint.specs.InnerInvariant.{Completes}
use Rattle.hsms_endpoint.specs.InnerInternals.{known}
use Rattle.hsms_endpoint.specs.InnerReceiving.{HasHandled, HasReceived, HasReceivedAll}
use Rattle.hsms_endpoint.proofs.Acts.{extends_then}

extends_none : (view : View) → Extends view [] view
extends_none view = λ log has. subst (λ es. HasView view.settings es view) (sym (append-nil log)) has

pub begun : (desk : ℕ → Content → Answered) (end : State) (before : List Entry) → IsSound end → HasReceived desk end before end before
begun desk end before sound =
    record {
      new = [];
      added = sym (append-nil before);
      onward = λ frames later end'' h. (frames, h);
      run = extends_none end.tracker;
      sound = sound;
    }

-- The framer's limit is the one of the settings.
pub within_max : (end : State) (result : Result (Option Frame) FrameFault) (rest : List ℕ) → IsSound end → FramesAs end.framer.max end.framer.pending result rest → FramesAs end.settings.max end.framer.pending result rest
within_max end result rest sound front = subst (λ max. FramesAs max end.framer.pending result rest) sound.limit front

abbrev pub off_of : State → List ℕ → State
off_of end rest = record end { framer = record end.framer { pending = rest } }

pub one_more : (desk : ℕ → Content → Answered) (start end end' : State) (before entries more : List Entry) (frame : Frame) (rest : List ℕ) → HasReceived desk start before end entries → is_up end.tracker.phase ≡ true → FramesAs end.settings.max end.framer.pending (Ok (Some frame)) rest → HasHandled desk (off_of end rest) entries frame end' more → HasReceived desk start before end' more
one_more desk start end end' before entries more frame rest h up front one =
    let off : TakesOff (known end) frame (known (off_of end rest)) = record { up = up; rest = rest; front = front; off = refl } in
    record {
      new = h.new ++ one.new;
      added = one.added ∙ ap (λ es. es ++ one.new) h.added ∙ append_assoc before h.new one.new;
      onward = λ frames later end'' k.
          (let all = h.onward (frame ∷ frames) (one.new ++ later) end'' (known (off_of end rest), known end', one.new, later, off, one.handled, k, refl) in
          (all.0, subst (λ es. Receives desk (known start) all.0 es end'') (sym (append_assoc h.new one.new later)) all.1));
      run = extends_then start.tracker end.tracker end'.tracker h.new one.new h.run one.run;
      sound = one.sound;
    }

pub one_more_at : (desk : ℕ → Content → Answered) (start end off end' : State) (before entries more : List Entry) (frame : Frame) (rest : List ℕ) → HasReceived desk start before end entries → is_up end.tracker.phase ≡ true → FramesAs end.settings.max end.framer.pending (Ok (Some frame)) rest → off ≡ off_of end rest → HasHandled desk off entries frame end' more → HasReceived desk start before end' more
one_more_at desk start end off end' before entries more frame rest h up front is one =
    one_more desk start end end' before entries more frame rest h up front (subst (λ (s : State). HasHandled desk s entries frame end' more) is one)

pub at_rest : (desk : ℕ → Content → Answered) (start end end' : State) (before entries more rest : List Entry) → HasReceived desk start before end entries → Rests (known end) rest (known end') → more ≡ entries ++ rest → Extends end.tracker rest end'.tracker → IsSound end' → HasReceivedAll desk start before end' more
at_rest desk start end end' before entries more rest h rests added run sound =
    let all = h.onward [] rest (known end') rests in
    record {
      new = h.new ++ rest;
      added = added ∙ ap (λ es. es ++ rest) h.added ∙ append_assoc before h.new rest;
      frames = all.0;
      received = all.1;
      run = extends_then start.tracker end.tracker end'.tracker h.new rest h.run run;
      sound = sound;
    }

pub went_down : (desk : ℕ → Content → Answered) (start end : State) (before entries : List Entry) → HasReceived desk start before end entries → is_up end.tracker.phase ≡ false → HasReceivedAll desk start before end entries
went_down desk start end before entries h down = at_rest desk start end end before entries entries [] h (is_down down refl refl) (sym (append-nil entries)) (extends_none end.tracker) h.sound

pub waits_for_more : (desk : ℕ → Content → Answered) (start end end' : State) (before entries : List Entry) → HasReceived desk start before end entries → is_up end.tracker.phase ≡ true → FramesAs end.settings.max end.framer.pending (Ok None) end.framer.pending → end' ≡ end → HasReceivedAll desk start before end' entries
waits_for_more desk start end end' before entries h up front is =
    at_rest desk start end end' before entries entries [] h (waits up front refl (ap (λ (s : State). known s) is)) (sym (append-nil entries)) (subst (λ (s : State). Extends end.tracker [] s.tracker) (sym is) (extends_none end.tracker)) (subst IsSound (sym is) h.sound)

pub is_too_short : (desk : ℕ → Content → Answered) (start end end' : State) (before entries more : List Entry) (n : ℕ) → HasReceived desk start before end entries → is_up end.tracker.phase ≡ true → FramesAs end.settings.max end.framer.pending (Err (TooShort n)) end.framer.pending → Completes end entries (cut_by Length) end' more → HasReceivedAll desk start before end' more
is_too_short desk start end end' before entries more n h up front cut = at_rest desk start end end' before entries more cut.does.new h (too_short n up front cut.does.done) cut.does.added cut.does.run cut.sound

pub is_too_long : (desk : ℕ → Content → Answered) (start end end' : State) (before entries more : List Entry) (n : ℕ) (header : Header) → HasReceived desk start before end entries → is_up end.tracker.phase ≡ true → FramesAs end.settings.max end.framer.pending (Err (TooLong n header)) end.framer.pending → Completes end entries (warns_too_long (known end) header ++ cut_by Length) end' more → HasReceivedAll desk start before end' more
is_too_long desk start end end' before entries more n header h up front cut = at_rest desk start end end' before entries more cut.does.new h (too_long n header up front cut.does.done) cut.does.added cut.does.run cut.sound

-- The framer is unchanged.
pub same_framer : (f g : FramerState) → g.max ≡ f.max → g.pending ≡ f.pending → g ≡ f
same_framer f g m p = ap (λ n. record { max = n; pending = g.pending }) m ∙ ap (λ octets. record { max = f.max; pending = octets }) p

-- A message has at least one byte.
pub shorter : (frame : Frame) (pending rest : List ℕ) → pending ≡ frame_octets frame ++ rest → length rest < length pending
shorter frame pending rest e = let h = simp length-append at (ap length e) in omega arith

-- The pending bytes do not affect soundness.
pub reframed : (end end' : State) (rest : List ℕ) → end' ≡ off_of end rest → IsSound end → IsSound end'
reframed end end' rest is sound =
    subst IsSound (sym is)
    (record {
      settings = sound.settings;
      within = sound.within;
      limit = sound.limit;
      not_over = sound.not_over;
      fresh = sound.fresh;
      steady = λ up.
          (let steady = sound.steady up in
          record {
            calm = record { not_past = steady.calm.not_past; data_in_time = steady.calm.data_in_time; control_in_time = steady.calm.control_in_time; selected_in_time = steady.calm.selected_in_time };
            taken_data = steady.taken_data;
            taken_control = steady.taken_control;
            few = steady.few;
            unselected = steady.unselected;
          });
    })

pub kept : (end end' : State) (rest : List ℕ) → end' ≡ off_of end rest → rest ≡ end.framer.pending → end' ≡ end
kept end end' rest is same = is ∙ ap (λ octets. off_of end octets) same

pub off_up : (end end' : State) (rest : List ℕ) → end' ≡ off_of end rest → is_up end.tracker.phase ≡ true → is_up end'.tracker.phase ≡ true
off_up end end' rest is up = ap (λ (s : State). is_up s.tracker.phase) is ∙ up
