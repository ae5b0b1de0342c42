use Rattle.std.proofs.Common.{cond, ltb, refl}
use Rattle.std.proofs.lemmas.Simd.{length-chunk}
use lib.Lanes.{chunk}
use Rattle.hsms_log.proofs.Decoding.{lanes_of_two, lanes_of_one, lanes_loaded, lanes_chosen, lanes_as_many, values_decoded}
use Rattle.hsms_log.proofs.digits.values_at.Goals as goal

pub returns-clause-sixteen : goal.returns-clause-sixteen
returns-clause-sixteen c =
    let v = chunk c.args.place 16 c.args.digits.now in
    let long = length-chunk c.args.place 16 c.args.digits.now c.requires in
    let ten = lanes_of_one v 16 10 long in
    let from_colon = lanes_of_two _ _ _ v (lanes_loaded v) (lanes_of_one v 16 0x3a long) in
    let six = lanes_of_one v 16 6 long in
    let decimal = lanes_of_two _ _ _ v (lanes_chosen _ _ _ v (lanes_of_two (λ x y. cond (ltb x y) 255 0) _ _ v from_colon six) six from_colon) ten in
    let from_a = lanes_of_two _ _ _ v (lanes_of_two _ _ _ v (lanes_loaded v) (lanes_of_one v 16 0x20 long)) (lanes_of_one v 16 0x61 long) in
    let most = lanes_of_one v 16 245 long in
    let letter = lanes_of_two _ _ _ v (lanes_chosen _ _ _ v (lanes_of_two (λ x y. cond (ltb x y) 255 0) _ _ v from_a most) from_a most) ten in
    lanes_as_many _ v (lanes_chosen _ _ _ v (lanes_of_two (λ x y. cond (ltb x y) 255 0) _ _ v decimal letter) decimal letter) long

pub returns-clause-values : goal.returns-clause-values
returns-clause-values c =
    let v = chunk c.args.place 16 c.args.digits.now in
    let long = length-chunk c.args.place 16 c.args.digits.now c.requires in
    let ten = lanes_of_one v 16 10 long in
    let from_colon = lanes_of_two _ _ _ v (lanes_loaded v) (lanes_of_one v 16 0x3a long) in
    let six = lanes_of_one v 16 6 long in
    let decimal = lanes_of_two _ _ _ v (lanes_chosen _ _ _ v (lanes_of_two (λ x y. cond (ltb x y) 255 0) _ _ v from_colon six) six from_colon) ten in
    let from_a = lanes_of_two _ _ _ v (lanes_of_two _ _ _ v (lanes_loaded v) (lanes_of_one v 16 0x20 long)) (lanes_of_one v 16 0x61 long) in
    let most = lanes_of_one v 16 245 long in
    let letter = lanes_of_two _ _ _ v (lanes_chosen _ _ _ v (lanes_of_two (λ x y. cond (ltb x y) 255 0) _ _ v from_a most) from_a most) ten in
    values_decoded _ c.args.digits.now _ c.args.place c.requires c.type_inv.digits (lanes_chosen _ _ _ v (lanes_of_two (λ x y. cond (ltb x y) 255 0) _ _ v decimal letter) decimal letter) refl
