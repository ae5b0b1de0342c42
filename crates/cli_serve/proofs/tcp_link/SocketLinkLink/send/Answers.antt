use Rattle.cli_serve.proofs.tcp_link.SocketLinkLink.send.Goals as goal

pub returns-in_default-clause-sent : goal.returns-in_default-clause-sent
returns-in_default-clause-sent g c = c.failed.ensures
