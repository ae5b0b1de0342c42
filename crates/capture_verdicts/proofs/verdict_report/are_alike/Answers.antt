use Rattle.capture_verdicts.proofs.verdict_report.are_alike.Goals as goal

pub returns : goal.returns
returns c c' = record { symm = c.met.K.Eq.laws.symm; alike = c.met.K.Eq.laws.congr }
