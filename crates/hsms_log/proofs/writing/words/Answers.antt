use Rattle.std.proofs.Common.{sym, ◌∙◌}
use Rattle.hsms_machine.specs.declared.settings.Role.TheVariants.{Host, Equipment}
use Rattle.hsms_machine.specs.declared.settings.Side.TheVariants.{Active, Passive}
use Rattle.hsms_log.proofs.Parts.{words_are}
use Rattle.hsms_log.proofs.writing.words.Goals as goal

pub returns-in-Host-Passive : goal.returns-in-Host-Passive
returns-in-Host-Passive c = words_are c.args.settings.now Host Passive (sym c.role.ensures ∙ c.in-Host-Passive.is-0) (sym c.link.ensures ∙ c.in-Host-Passive.is-1)

pub returns-in-Equipment-Active : goal.returns-in-Equipment-Active
returns-in-Equipment-Active c = words_are c.args.settings.now Equipment Active (sym c.role.ensures ∙ c.in-Equipment-Active.is-0) (sym c.link.ensures ∙ c.in-Equipment-Active.is-1)

pub returns-in-Equipment-Passive : goal.returns-in-Equipment-Passive
returns-in-Equipment-Passive c = words_are c.args.settings.now Equipment Passive (sym c.role.ensures ∙ c.in-Equipment-Passive.is-0) (sym c.link.ensures ∙ c.in-Equipment-Passive.is-1)
