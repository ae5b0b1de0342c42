use Rattle.cli_serve.proofs.serving.serve_to.Goals as goal

pub returns : goal.returns
returns g c = rw (c.from.ensures, c.pause_of.ensures) at c.serve_testing.ensures
