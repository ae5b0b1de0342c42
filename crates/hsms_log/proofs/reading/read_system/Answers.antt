use Rattle.hsms_log.proofs.HexLaws.{system_found, system_none}
use Rattle.hsms_log.proofs.reading.read_system.Goals as goal

pub returns-in-Ok-clause-found : goal.returns-in-Ok-clause-found
returns-in-Ok-clause-found c =
    system_found c.args.digits.now _ c.from_be_bytes.result c.decode_to_slice.result c.decode_to_slice.ensures.value c.in-Ok.is c.from_be_bytes.ensures

pub returns-in-Err-clause-none : goal.returns-in-Err-clause-none
returns-in-Err-clause-none c =
    λ n small. system_none c.args.digits.now _ c.decode_to_slice.result c.in-Err.field-0 c.decode_to_slice.ensures.value c.in-Err.is n
