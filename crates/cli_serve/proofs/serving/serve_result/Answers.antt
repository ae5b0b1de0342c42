use Rattle.cli_serve.proofs.serving.serve_result.Goals as goal

pub returns-in-Err : goal.returns-in-Err
returns-in-Err c = rw c.in-Err.is c.tool_fault_of.ensures
