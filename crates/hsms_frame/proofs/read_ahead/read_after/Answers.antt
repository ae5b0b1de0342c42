use Rattle.std.proofs.Common.{◌≡◌, ◌≤◌, ◌+◌, ◌-◌, ◌∙◌, length, take, drop, ap, arith}
use Rattle.std.proofs.lemmas.List.{length-drop, length-take, length-take-le}
use Rattle.hsms_frame.proofs.Suffixes.{ends_following, ends_stay, front_is_kept, none_after, reads_after, within_after}
use Rattle.hsms_frame.proofs.read_ahead.read_after.Goals as goal

-- The bytes are within the vector, and the pull has the room after them.
within : (g : _) (c : goal.After-octets-1 g) → c.args.end ≤ length c.deref_mut.result.now
within g c = omega (arith, c.requires, c.deref_mut.ensures.len)

room : (g : _) (c : goal.After-octets-1 g) → length c.pull.new.into + c.args.end ≡ c.args.most
room g c =
    let whole = c.deref_mut.result.now in
    omega (arith, c.requires, c.deref_mut.ensures.len, c.pull.auto.into, length-take (c.args.most - c.args.end) (drop c.args.end whole), length-drop c.args.end whole)

pub returns-clause-ok : goal.returns-clause-ok
returns-clause-ok g c =
    reads_after _ _ _ _ _ _ _ _ _ _ c.deref_mut.ensures.value (within g c) (omega (arith, room g c, c.requires)) c.pull.ensures.bound c.pull.ensures.octets

pub returns-clause-within : goal.returns-clause-within
returns-clause-within g c = within_after _ _ _ _ (room g c) c.pull.ensures.bound

pub returns-clause-none : goal.returns-clause-none
returns-clause-none g c = none_after _ _ _ (omega (arith, room g c, c.requires)) c.pull.ensures.end

pub returns-clause-front : goal.returns-clause-front
returns-clause-front g c =
    let whole = c.deref_mut.result.now in
    front_is_kept (take c.args.end whole) _ _ _ _ (length-take-le c.args.end whole (within g c)) (omega (arith, c.requires)) ∙ ap (take c.args.end) c.deref_mut.ensures.value

pub returns-clause-ends : goal.returns-clause-ends
returns-clause-ends g c = ends_following _ _ _ _ (omega (arith, room g c, c.requires, c.pull.auto.into)) c.pull.ensures.counts.ends

pub returns-clause-ends_stay : goal.returns-clause-ends_stay
returns-clause-ends_stay g c = ends_stay _ _ _ _ c.pull.ensures.counts.ends
