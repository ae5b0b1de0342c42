use Rattle.std.proofs.Common.{◌++◌, ◌∷◌, [], codes, decimal, refl, sym, ◌∙◌}
use Rattle.hsms_frame.specs.Frame.{Frame}
use Rattle.hsms_frame.specs.declared.kinds.Kind.TheVariants.{SelectReq, SelectRsp, LinktestReq, LinktestRsp, Reject, Separate, OtherSType, OtherPType}
use Rattle.cli_output.specs.Line.{address_of, control_line, text_of}
use Rattle.cli_output.proofs.LinePremises.{appends_same, line_as, two_numbers}
use Rattle.cli_output.proofs.line.give_line.Goals as goal

pub returns-in-SelectReq : goal.returns-in-SelectReq
returns-in-SelectReq g c =
    let f : Frame = record { header = c.args.header; text = c.args.text.now } in
    (control_line SelectReq f, line_as _ f SelectReq _ (sym c.kind.ensures ∙ c.in-SelectReq.is) refl, c.give_bare.ensures)

pub returns-in-SelectRsp : goal.returns-in-SelectRsp
returns-in-SelectRsp g c =
    let f : Frame = record { header = c.args.header; text = c.args.text.now } in
    (control_line SelectRsp f, line_as _ f SelectRsp _ (sym c.kind.ensures ∙ c.in-SelectRsp.is) refl, c.give_counted.ensures)

pub returns-in-LinktestReq : goal.returns-in-LinktestReq
returns-in-LinktestReq g c =
    let f : Frame = record { header = c.args.header; text = c.args.text.now } in
    (control_line LinktestReq f, line_as _ f LinktestReq _ (sym c.kind.ensures ∙ c.in-LinktestReq.is) refl, c.give_bare-in-LinktestReq.ensures)

pub returns-in-LinktestRsp : goal.returns-in-LinktestRsp
returns-in-LinktestRsp g c =
    let f : Frame = record { header = c.args.header; text = c.args.text.now } in
    (control_line LinktestRsp f, line_as _ f LinktestRsp _ (sym c.kind.ensures ∙ c.in-LinktestRsp.is) refl, c.give_bare-in-LinktestRsp.ensures)

pub returns-in-Reject : goal.returns-in-Reject
returns-in-Reject g c =
    let f : Frame = record { header = c.args.header; text = c.args.text.now } in
    let h = c.args.header in
    let front = codes "reject" ++ address_of h in
    let parts = front ++ (codes " " ++ decimal h.byte2) ++ (codes " " ++ decimal h.byte3) ++ text_of c.args.text.now ++ 10 ∷ [] in (
      control_line Reject f,
      line_as _ f Reject _ (sym c.kind.ensures ∙ c.in-Reject.is) refl,
      appends_same (g.O.Output.Given c.args.out.now) (g.O.Output.Given c.give_reject.new.out) _ _ parts (control_line Reject f)
          (two_numbers front (decimal h.byte2) (decimal h.byte3) (text_of c.args.text.now) (10 ∷ [])) c.give_reject.ensures,
    )

pub returns-in-Separate : goal.returns-in-Separate
returns-in-Separate g c =
    let f : Frame = record { header = c.args.header; text = c.args.text.now } in
    (control_line Separate f, line_as _ f Separate _ (sym c.kind.ensures ∙ c.in-Separate.is) refl, c.give_bare-in-Separate.ensures)

pub returns-in-OtherSType : goal.returns-in-OtherSType
returns-in-OtherSType g c =
    let f : Frame = record { header = c.args.header; text = c.args.text.now } in
    (control_line OtherSType f, line_as _ f OtherSType _ (sym c.kind.ensures ∙ c.in-OtherSType.is) refl, c.give_counted-in-OtherSType.ensures)

pub returns-in-OtherPType : goal.returns-in-OtherPType
returns-in-OtherPType g c =
    let f : Frame = record { header = c.args.header; text = c.args.text.now } in
    (control_line OtherPType f, line_as _ f OtherPType _ (sym c.kind.ensures ∙ c.in-OtherPType.is) refl, c.give_counted-in-OtherPType.ensures)
