use Rattle.cli_serve.proofs.tcp_link.SocketLinkLink.wait.Goals as goal

pub returns-in-Err-2 : goal.returns-in-Err-2
returns-in-Err-2 g c = c.failed.ensures
