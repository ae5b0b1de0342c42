use Rattle.std.proofs.Common.{◌≡◌, false, inl, inr, ap}
use Rattle.cli_options.specs.Request.{is_bare}
use Rattle.cli_show.proofs.HexMessages.{not_counted}
use Rattle.cli_show.proofs.hex_message.message_of.Goals as goal

pub returns-in_err-after_length_field-in-Octets-clause-none : goal.returns-in_err-after_length_field-in-Octets-clause-none
returns-in_err-after_length_field-in-Octets-clause-none c = λ _.
    let whole : is_bare c.args.form ≡ false = elim c.in-Octets.is [
      | inl is ↦ ap is_bare is
      | inr is ↦ ap is_bare is
    ] in
    rw whole (not_counted c.args.max c.args.octets.now (c.after_length_field.ensures.none c.in_err-after_length_field-in-Octets.was))
