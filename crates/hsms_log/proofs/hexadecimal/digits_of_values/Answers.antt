use Rattle.std.proofs.Common.{◌+◌, ◌%◌, ◌^◌, cond, leb, refl}
use lib.Lanes.{top}
use Rattle.hsms_log.proofs.Decoding.{lanes_of_two, lanes_of_one, lanes_loaded, lanes_chosen}
use Rattle.hsms_log.proofs.SixteenDigits.{map_agrees}
use Rattle.hsms_log.specs.InnerDigits.{digit_of}
use Rattle.hsms_log.proofs.hexadecimal.digits_of_values.Goals as goal

pub returns : goal.returns
returns c =
    let v = c.args.values in
    let long = c.fits-values.0 in
    map_agrees (λ x. cond (top 7 (cond (leb 10 x) 255 0)) ((x + 87) % 2 ^ 8) ((x + 48) % 2 ^ 8)) digit_of v _
    (lanes_chosen (λ x. cond (leb 10 x) 255 0) (λ x. (x + 87) % 2 ^ 8) (λ x. (x + 48) % 2 ^ 8) v
    (lanes_of_two (λ a b. cond (leb a b) 255 0) (λ _. 10) (λ x. x) v (lanes_of_one v 16 10 long) (lanes_loaded v))
    (lanes_of_two (λ a b. (a + b) % 2 ^ 8) (λ x. x) (λ _. 87) v (lanes_loaded v) (lanes_of_one v 16 87 long))
    (lanes_of_two (λ a b. (a + b) % 2 ^ 8) (λ x. x) (λ _. 48) v (lanes_loaded v) (lanes_of_one v 16 48 long)))
    refl
    c.fits-values.1
