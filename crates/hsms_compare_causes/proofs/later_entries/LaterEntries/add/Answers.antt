use Rattle.hsms_compare_causes.proofs.Groups.{earlier}
use Rattle.hsms_compare_causes.proofs.later_entries.LaterEntries.add.Goals as goal

pub returns : goal.returns
returns c = λ log known lt is b_is.
    earlier log c.args.index c.args.self.now (record { systems = c.note_system.new.systems; end = c.first_end-self.result; latest = c.latest-self.result }) c.args.entry.now c.system_of.result c.ends_connection.result c.args.is_in_session
    c.system_of.ensures c.ends_connection.ensures c.in_ok-note_system.ensures c.first_end-self.ensures c.latest-self.ensures known lt is b_is
