use Rattle.std.proofs.Common.{◌≡◌, ℕ, List, ap, ◌∙◌, subst}
use Rattle.hsms_frame.specs.Frame.{Frame, IsOctets}
use Rattle.hsms_frame.specs.Header.{IsHeader}
use Rattle.hsms_log.proofs.ranges.message_is_in_range.Goals as goal

pub returns : goal.returns
returns c =
    let H : Frame → Type 0 = λ frame. IsHeader frame.header in
    let P : List ℕ → Type 0 = λ octets. IsOctets octets in
    let text : c.as_slice.result.now ≡ c.args.frame.now.text = c.as_slice.ensures.value ∙ ap (λ (frame : Frame). frame.text) c.frame.view_is in
    record { header = subst H c.frame.view_is c.parts_are_in_range.ensures.header; text = subst P text c.parts_are_in_range.ensures.text }
