use Rattle.std.proofs.Common.{◌≡◌, ◌<◌, take, rules}
use Rattle.hsms_compare_logs.proofs.Inputs.{block_of, room_after, room_less, text_of}
use Rattle.hsms_compare_logs.proofs.input.Input.pull.Goals as goal

pub returns-clause-block : goal.returns-clause-block
returns-clause-block g c octets known =
    let items : c.extend_from_slice.new.self.items ≡ take c.in-Ok.count c.pull.new.into = search rules in
    block_of (g.R.Source.state c.args.self.now.source).left (g.R.Source.state c.pull.new.self).left c.in-Ok.count c.pull.new.into c.extend_from_slice.new.self.items octets
    c.in-Ok.ensures.octets items known

pub returns-clause-text : goal.returns-clause-text
returns-clause-text g c text reads =
    text_of (g.R.Source.state c.args.self.now.source).left (g.R.Source.state c.pull.new.self).left c.in-Ok.count c.pull.new.into text c.args.self.now.audit c.take.new.self
    c.in-Ok.ensures.octets c.in_ok-take.ensures.text reads

pub returns-clause-room : goal.returns-clause-room
returns-clause-room g c =
    let items : c.extend_from_slice.new.self.items ≡ take c.in-Ok.count c.pull.new.into = search rules in
    room_after c.extend_from_slice.new.self.items (take c.in-Ok.count c.pull.new.into) c.args.self.now.audit c.take.new.self items c.in_ok-take.ensures.taken c.in_ok-take.ensures.within

pub returns-clause-some : goal.returns-clause-some
returns-clause-some g c some =
    let count : 0 < c.in-Ok.count = search rules in
    room_less c.in-Ok.count c.pull.new.into c.args.self.now.audit c.take.new.self count c.in-Ok.ensures.bound c.in_ok-take.ensures.taken c.in_ok-take.ensures.within
