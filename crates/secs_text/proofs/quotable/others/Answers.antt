use Rattle.std.proofs.Common.{◌+◌, ◌-◌, ◌%◌, not, cond, leb, refl, arith}
use Rattle.std.proofs.lemmas.Simd.{zip2_splat, zip2_of_maps, splat_is_map}
use lib.Bits.{bit_or}
use Rattle.secs_text.specs.Octets.{is_quotable}
use Rattle.secs_text.proofs.Runs.{equal, masked}
use Rattle.secs_text.proofs.quotable.others.Goals as goal

pub returns : goal.returns
returns c =
    let v = c.args.octets in
    let long = c.fits-octets.0 in
    masked _ (λ x. not (is_quotable x)) v _ (omega arith) c.fits-octets.1
    (zip2_of_maps bit_or _ _ v
    (zip2_of_maps (λ a b. cond (leb a b) 255 0) _ _ v (splat_is_map v 16 95 long) (zip2_splat (λ a b. (a + (256 - b)) % 256) v 16 32 long))
    (zip2_splat equal v 16 34 long)) refl
