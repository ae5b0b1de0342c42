use Rattle.std.proofs.Common.{ℕ, Bool, cond, refl, sym, ap, ◌∙◌}
use Rattle.capture_midstream.specs.Requests.{is_left_out}
use Rattle.cli_capture.specs.declared.midstream_log.Joined.{Joined}
use Rattle.cli_capture.specs.declared.midstream_log.Part.TheVariants as part
use Rattle.cli_capture.specs.PendingRequests.{spoken_to}
use Rattle.cli_capture.specs.Assumptions.{said_by}
use Rattle.cli_capture.proofs.Sessions.{Timed, part_end, part_known, part_late, timed_kept, timed_past}
use Rattle.cli_capture.proofs.midstream_log.Joined.part_of.Goals.{then-saturating_sub-from+in-Some-1, then-saturating_sub-from+in-None-1, else-saturating_sub-from}
use Rattle.cli_capture.proofs.midstream_log.Joined.part_of.Goals as goal

pub returns-then-leaves_out-clause-part : goal.returns-then-leaves_out-clause-part
returns-then-leaves_out-clause-part c =
    let h = c.args.happening.now in
    let report = c.args.report.now in
    let old = c.args.self.now in
    let says = c.message_of.ensures ∙ ap (λ (n : ℕ). said_by n h.event) c.max.ensures in
    let timed : Timed h report old c.if-saturating_sub-from.self.said = elim c.if-saturating_sub-from.branch [
      | then-saturating_sub-from+in-Some-1 w ↦
          timed_past h report old _ c.from.result c.saturating_sub.result (c.from.ensures ∙ c.t3-t3.ensures) c.saturating_sub.ensures w.if-saturating_sub-from.true
          (ap (λ (j : Joined). j.said) w.self-is)
      | then-saturating_sub-from+in-None-1 w ↦
          timed_past h report old _ c.from.result c.saturating_sub.result (c.from.ensures ∙ c.t3-t3.ensures) c.saturating_sub.ensures w.if-saturating_sub-from.true
          (ap (λ (j : Joined). j.said) w.self-is)
      | else-saturating_sub-from w ↦
          timed_kept h report old _ c.from.result c.saturating_sub.result (c.from.ensures ∙ c.t3-t3.ensures) c.saturating_sub.ensures w.if-saturating_sub-from.false
          (ap (λ (j : Joined). j.said) w.self-is)
    ] in
    part_known h report old _ c.message_of.result c.in-Some-Some.from c.in-Some-Some.message c.in-Some-Some.said c.note.new.self c.if-saturating_sub-from.self.said
    c.leaves_out.result part.LeftOut says c.in-Some-Some.is-0 timed c.in-Some-Some.is-1 c.in_ok-note-in-Some-Some.ensures refl
    (λ spoken knows. c.leaves_out.ensures spoken knows
    ∙ ap (λ (n : ℕ). is_left_out c.in-Some-Some.message (spoken_to c.in-Some-Some.from spoken) old.start.time n h.time) c.t3-t3.ensures)
    (sym (ap (λ (b : Bool). cond b part.LeftOut part.Message) c.if-leaves_out.true))

pub returns-in-None-default-clause-part : goal.returns-in-None-default-clause-part
returns-in-None-default-clause-part c =
    let h = c.args.happening.now in
    let report = c.args.report.now in
    let old = c.args.self.now in
    let says = c.message_of.ensures ∙ ap (λ (n : ℕ). said_by n h.event) c.max.ensures in
    let timed : Timed h report old c.if-saturating_sub-from.self.said = elim c.if-saturating_sub-from.branch [
      | then-saturating_sub-from+in-Some-1 w ↦
          timed_past h report old _ c.from.result c.saturating_sub.result (c.from.ensures ∙ c.t3-t3.ensures) c.saturating_sub.ensures w.if-saturating_sub-from.true
          (ap (λ (j : Joined). j.said) w.self-is)
      | then-saturating_sub-from+in-None-1 w ↦
          timed_past h report old _ c.from.result c.saturating_sub.result (c.from.ensures ∙ c.t3-t3.ensures) c.saturating_sub.ensures w.if-saturating_sub-from.true
          (ap (λ (j : Joined). j.said) w.self-is)
      | else-saturating_sub-from w ↦
          timed_kept h report old _ c.from.result c.saturating_sub.result (c.from.ensures ∙ c.t3-t3.ensures) c.saturating_sub.ensures w.if-saturating_sub-from.false
          (ap (λ (j : Joined). j.said) w.self-is)
    ] in
    part_end h report old _ c.message_of.result says c.in-None-default.is-0 timed

pub returns-in-Some-None-clause-part : goal.returns-in-Some-None-clause-part
returns-in-Some-None-clause-part c =
    let h = c.args.happening.now in
    let report = c.args.report.now in
    let old = c.args.self.now in
    let says = c.message_of.ensures ∙ ap (λ (n : ℕ). said_by n h.event) c.max.ensures in
    let timed : Timed h report old c.if-saturating_sub-from.self.said = elim c.if-saturating_sub-from.branch [
      | then-saturating_sub-from+in-Some-1 w ↦
          timed_past h report old _ c.from.result c.saturating_sub.result (c.from.ensures ∙ c.t3-t3.ensures) c.saturating_sub.ensures w.if-saturating_sub-from.true
          (ap (λ (j : Joined). j.said) w.self-is)
      | then-saturating_sub-from+in-None-1 w ↦
          timed_past h report old _ c.from.result c.saturating_sub.result (c.from.ensures ∙ c.t3-t3.ensures) c.saturating_sub.ensures w.if-saturating_sub-from.true
          (ap (λ (j : Joined). j.said) w.self-is)
      | else-saturating_sub-from w ↦
          timed_kept h report old _ c.from.result c.saturating_sub.result (c.from.ensures ∙ c.t3-t3.ensures) c.saturating_sub.ensures w.if-saturating_sub-from.false
          (ap (λ (j : Joined). j.said) w.self-is)
    ] in
    part_late h report old _ c.message_of.result c.in-Some-None.field-0-0 says c.in-Some-None.is-0 timed c.in-Some-None.is-1

pub returns-else-leaves_out-clause-part : goal.returns-else-leaves_out-clause-part
returns-else-leaves_out-clause-part c =
    let h = c.args.happening.now in
    let report = c.args.report.now in
    let old = c.args.self.now in
    let says = c.message_of.ensures ∙ ap (λ (n : ℕ). said_by n h.event) c.max.ensures in
    let timed : Timed h report old c.if-saturating_sub-from.self.said = elim c.if-saturating_sub-from.branch [
      | then-saturating_sub-from+in-Some-1 w ↦
          timed_past h report old _ c.from.result c.saturating_sub.result (c.from.ensures ∙ c.t3-t3.ensures) c.saturating_sub.ensures w.if-saturating_sub-from.true
          (ap (λ (j : Joined). j.said) w.self-is)
      | then-saturating_sub-from+in-None-1 w ↦
          timed_past h report old _ c.from.result c.saturating_sub.result (c.from.ensures ∙ c.t3-t3.ensures) c.saturating_sub.ensures w.if-saturating_sub-from.true
          (ap (λ (j : Joined). j.said) w.self-is)
      | else-saturating_sub-from w ↦
          timed_kept h report old _ c.from.result c.saturating_sub.result (c.from.ensures ∙ c.t3-t3.ensures) c.saturating_sub.ensures w.if-saturating_sub-from.false
          (ap (λ (j : Joined). j.said) w.self-is)
    ] in
    part_known h report old _ c.message_of.result c.in-Some-Some.from c.in-Some-Some.message c.in-Some-Some.said c.note.new.self c.if-saturating_sub-from.self.said
    c.leaves_out.result part.Message says c.in-Some-Some.is-0 timed c.in-Some-Some.is-1 c.in_ok-note-in-Some-Some.ensures refl
    (λ spoken knows. c.leaves_out.ensures spoken knows
    ∙ ap (λ (n : ℕ). is_left_out c.in-Some-Some.message (spoken_to c.in-Some-Some.from spoken) old.start.time n h.time) c.t3-t3.ensures)
    (sym (ap (λ (b : Bool). cond b part.LeftOut part.Message) c.if-leaves_out.false))
