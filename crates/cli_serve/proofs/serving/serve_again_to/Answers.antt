use Rattle.cli_serve.proofs.serving.serve_again_to.Goals as goal

pub returns : goal.returns
returns g c = rw (c.from.ensures, c.from-2.ensures, c.pause_of.ensures, c.later_steps.ensures) at c.serve_again.ensures
