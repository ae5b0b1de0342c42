use Rattle.std.proofs.Common.{refl}
use Rattle.hex.specs.Hex.{encode_with}
use Rattle.cli_output.proofs.digits.address.Goals as goal

pub returns : goal.returns
unfolding encode_with
returns c =
    rw (c.digits.ensures, c.digits-2.ensures, c.digits-3.ensures, c.digits-4.ensures, c.digits-5.ensures, c.digits-6.ensures, c.to_be_bytes.ensures, c.to_be_bytes-2.ensures) refl
