use Rattle.std.proofs.Common.{◌≡◌, Bool, true, false, inl, inr, refl, sym, subst, ◌∙◌}
use Rattle.std.specs.Prelude.{◌↔◌, IsTrue}
use Rattle.std.proofs.lemmas.Result.{err_from_is_err_and}
use Rattle.capture_tcp.specs.declared.packet.Segment.{Segment as Taken}
use Rattle.cli_capture.specs.declared.report.Report.{Report}
use Rattle.cli_capture.specs.declared.connection_table.Table.{Table}
use Rattle.cli_capture.specs.InnerConnectionTable.{FollowsFlow, Joins, TakesIt, brought_by}
use Rattle.cli_capture.proofs.Beginnings.{Decides, with_syn, without_syn}
use Rattle.cli_capture.proofs.TableRefusals.{takes_begun, takes_first, takes_later}
use Rattle.cli_capture.proofs.connection_table.Table.take_of.Goals as goal
use Rattle.cli_capture.proofs.connection_table.Table.take_of.Goals.{then-is_some, else-is_some, then-begins+in_ok-begin, else-begins, else-not-begins-via-then-not-begins+else-not-is_live, else-not-begins-via-else-not-begins}

true_false : true ≡ false → ⊥
true_false is = cc

pub returns-then-not-is_live-clause-takes : goal.returns-then-not-is_live-clause-takes
returns-then-not-is_live-clause-takes c =
    let decides : Decides c.args.self.now c.args.pair c.args.from c.args.capture.segment c.new_syn-syn.result c.if-is_some.begins =
    elim c.if-is_some.branch [
      | then-is_some w ↦ with_syn c.args.self.now c.args.pair c.args.from c.args.capture.segment c.new_syn-syn.result c.if-is_some.begins
          (sym c.is_some.ensures ∙ w.if-is_some.true) (w.begins-is ∙ w.if-is_some.true) c.new_syn-syn.ensures.there
      | else-is_some w ↦ without_syn c.args.self.now c.args.pair c.args.from c.args.capture.segment c.new_syn-syn.result c.if-is_some.begins
          (sym c.is_some.ensures ∙ w.if-is_some.false)
          (subst (λ (b : Bool). IsTrue b ↔ Joins c.args.self.now c.args.pair c.args.capture.segment) (sym w.begins-is) w.joins-begins.ensures)
          c.new_syn-syn.ensures.none
    ] in
    inr (inr (refl, refl, refl, decides.none c.if-not-begins.true, (λ followed. true_false (sym (c.is_live.ensures.1 followed) ∙ c.if-not-is_live.true))))

pub returns-clause-takes : goal.returns-clause-takes
returns-clause-takes c =
    let decides : Decides c.args.self.now c.args.pair c.args.from c.args.capture.segment c.new_syn-syn.result c.if-is_some.begins =
    elim c.if-is_some.branch [
      | then-is_some w ↦ with_syn c.args.self.now c.args.pair c.args.from c.args.capture.segment c.new_syn-syn.result c.if-is_some.begins
          (sym c.is_some.ensures ∙ w.if-is_some.true) (w.begins-is ∙ w.if-is_some.true) c.new_syn-syn.ensures.there
      | else-is_some w ↦ without_syn c.args.self.now c.args.pair c.args.from c.args.capture.segment c.new_syn-syn.result c.if-is_some.begins
          (sym c.is_some.ensures ∙ w.if-is_some.false)
          (subst (λ (b : Bool). IsTrue b ↔ Joins c.args.self.now c.args.pair c.args.capture.segment) (sym w.begins-is) w.joins-begins.ensures)
          c.new_syn-syn.ensures.none
    ] in
    let g = brought_by c.args.from c.args.capture.segment c.args.capture c.in-Some.time in
    let follows : FollowsFlow c.args.pair g c.if-begins.self c.follow.new.self c.if-begins.report c.follow.new.report =
    subst (λ (taken : Taken). FollowsFlow c.args.pair (record { segment = taken; octets = c.args.capture.octets.now }) c.if-begins.self c.follow.new.self c.if-begins.report c.follow.new.report)
    c.segment_of-taken.ensures c.in_ok-follow.ensures.follows in
    let it : TakesIt c.args.pair c.args.from c.args.capture.segment g c.args.self.now c.follow.new.self c.args.report.now c.follow.new.report =
    elim c.if-begins.branch [
      | then-begins+in_ok-begin w ↦ inl (
        c.new_syn-syn.result,
        w.begin.new.self,
        w.begin.new.report,
        decides.there w.if-begins.true,
        w.in_ok-begin.ensures.begins,
        subst (λ (t : Table). FollowsFlow c.args.pair g t c.follow.new.self w.begin.new.report c.follow.new.report) w.self-is
            (subst (λ (r : Report). FollowsFlow c.args.pair g c.if-begins.self c.follow.new.self r c.follow.new.report) w.report-is follows),
      )
      | else-begins w ↦ inr (
        decides.none w.if-begins.false,
        elim c.else-not-begins.branch [
          | else-not-begins-via-then-not-begins+else-not-is_live v ↦ v.is_live.ensures.0 v.if-not-is_live.false
          | else-not-begins-via-else-not-begins v ↦ absurd (true_false (sym v.if-not-begins.false ∙ w.if-begins.false))
        ],
        subst (λ (t : Table). FollowsFlow c.args.pair g t c.follow.new.self c.args.report.now c.follow.new.report) w.self-is
            (subst (λ (r : Report). FollowsFlow c.args.pair g c.if-begins.self c.follow.new.self r c.follow.new.report) w.report-is follows),
      )
    ] in
    inl (refl, c.in-Some.time, c.in-Some.ensures.there, it)

pub returns-in_err-begin-clause-refuses : goal.returns-in_err-begin-clause-refuses
returns-in_err-begin-clause-refuses c =
    let decides : Decides c.args.self.now c.args.pair c.args.from c.args.capture.segment c.new_syn-syn.result c.if-is_some.begins =
    elim c.if-is_some.branch [
      | then-is_some w ↦ with_syn c.args.self.now c.args.pair c.args.from c.args.capture.segment c.new_syn-syn.result c.if-is_some.begins
          (sym c.is_some.ensures ∙ w.if-is_some.true) (w.begins-is ∙ w.if-is_some.true) c.new_syn-syn.ensures.there
      | else-is_some w ↦ without_syn c.args.self.now c.args.pair c.args.from c.args.capture.segment c.new_syn-syn.result c.if-is_some.begins
          (sym c.is_some.ensures ∙ w.if-is_some.false)
          (subst (λ (b : Bool). IsTrue b ↔ Joins c.args.self.now c.args.pair c.args.capture.segment) (sym w.begins-is) w.joins-begins.ensures)
          c.new_syn-syn.ensures.none
    ] in
    let p = err_from_is_err_and c.from_residual-in_err-begin.result c.from_residual-in_err-begin.ensures.1 in
    rw (p.1, p.2)
    (takes_begun c.args.pair c.args.from c.args.capture.segment c.args.capture c.args.self.now c.in-Some.time c.new_syn-syn.result _ c.args.report.now c.begin.new.report
    c.in-Some.ensures.there (decides.there c.if-begins.true) c.in_err-begin.ensures.refuses)

pub returns-in_err-follow-clause-refuses : goal.returns-in_err-follow-clause-refuses
returns-in_err-follow-clause-refuses c =
    let decides : Decides c.args.self.now c.args.pair c.args.from c.args.capture.segment c.new_syn-syn.result c.if-is_some.begins =
    elim c.if-is_some.branch [
      | then-is_some w ↦ with_syn c.args.self.now c.args.pair c.args.from c.args.capture.segment c.new_syn-syn.result c.if-is_some.begins
          (sym c.is_some.ensures ∙ w.if-is_some.true) (w.begins-is ∙ w.if-is_some.true) c.new_syn-syn.ensures.there
      | else-is_some w ↦ without_syn c.args.self.now c.args.pair c.args.from c.args.capture.segment c.new_syn-syn.result c.if-is_some.begins
          (sym c.is_some.ensures ∙ w.if-is_some.false)
          (subst (λ (b : Bool). IsTrue b ↔ Joins c.args.self.now c.args.pair c.args.capture.segment) (sym w.begins-is) w.joins-begins.ensures)
          c.new_syn-syn.ensures.none
    ] in
    let p = err_from_is_err_and c.from_residual-in_err-follow.result c.from_residual-in_err-follow.ensures.1 in
    rw (p.1, p.2)
    (elim c.if-begins.branch [
      | then-begins+in_ok-begin w ↦
          takes_first c.args.pair c.args.from c.args.capture.segment c.args.capture c.args.self.now w.begin.new.self c.in-Some.time c.new_syn-syn.result
          c.segment_of-taken.result c.if-begins.self _ c.args.report.now w.begin.new.report c.if-begins.report c.follow.new.report c.in-Some.ensures.there
          (decides.there w.if-begins.true) w.in_ok-begin.ensures.begins
          (c.segment_of-taken.ensures, w.self-is, w.report-is, c.in_err-follow.ensures.refuses)
      | else-begins w ↦
          takes_later c.args.pair c.args.from c.args.capture.segment c.args.capture c.args.self.now c.in-Some.time c.segment_of-taken.result c.if-begins.self _
          c.args.report.now c.if-begins.report c.follow.new.report c.in-Some.ensures.there (decides.none w.if-begins.false)
          (elim c.else-not-begins.branch [
            | else-not-begins-via-then-not-begins+else-not-is_live v ↦ v.is_live.ensures.0 v.if-not-is_live.false
            | else-not-begins-via-else-not-begins v ↦ absurd (true_false (sym v.if-not-begins.false ∙ w.if-begins.false))
          ])
          (c.segment_of-taken.ensures, w.self-is, w.report-is, c.in_err-follow.ensures.refuses)
    ])
