use Rattle.std.proofs.Common.{length, ap₂, refl, ap, ◌∙◌, map}
use Rattle.std.proofs.lemmas.Simd.{map-map}
use Rattle.std.proofs.lemmas.List.{length-map}
use Rattle.hsms_log.proofs.Decoding.{lanes_of_two, lanes_of_one, lanes_loaded}
use Rattle.hsms_log.proofs.SixteenDigits.{picked_by_turns, digits_woven, woven}
use Rattle.hsms_log.specs.InnerDigits.{digit_of}
use Rattle.hsms_log.proofs.hexadecimal.digits_of_sixteen.Goals as goal

pub returns : goal.returns
returns c =
    let v = c.args.octets.now in
    let long = c.told-octets in
    let high = c.digits_of_values-high.ensures ∙ ap (map digit_of) (lanes_of_two _ _ _ v (lanes_loaded v) (lanes_of_one v 16 4 long)) ∙ map-map digit_of _ v in
    let low = c.digits_of_values-low.ensures ∙ ap (map digit_of) (lanes_of_two _ _ _ v (lanes_loaded v) (lanes_of_one v 16 15 long)) ∙ map-map digit_of _ v in
    let highs = ap length high ∙ length-map v _ ∙ long in
    let lows = ap length low ∙ length-map v _ ∙ long in
    picked_by_turns c.digits_of_values-high.result c.digits_of_values-low.result highs lows ∙ ap₂ woven high low ∙ digits_woven _ _ refl refl v c.fits-octets
