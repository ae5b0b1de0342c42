use Rattle.std.proofs.Common.{◌≡◌, ◌∙◌, refl, sym, arith}
use Rattle.std.specs.List.{slice_range}
use Rattle.std.proofs.lemmas.Result.{IfOk-from_err}
use Rattle.hsms_frame.proofs.Suffixes.{bound_ahead, bound_kept, count_before, memory_fails, more_ahead, moved_is_there, no_answer, no_end_found, none_ahead, on_err, read_failed, reads_more, stays_on_err, still_there, within_room}
use Rattle.hsms_frame.proofs.read_ahead.Ahead.read_more.Goals as goal

-- The bytes that were buffered, once there is room after them, or none after a failed allocation.
there : (g : _) (c : goal.After-from_residual g) → slice_range c.make_room.new.octets.items 0 c.move_to_front-self-inside.result ≡ c.args.self.now
there g c =
    let e = c.move_to_front-self-inside.ensures in
    moved_is_there _ _ _ _ _ _ _ _ _ _ c.deref_mut.ensures.value c.self.view_is c.deref_mut.ensures.len c.self.invariant.1 e.length e.end e.front c.make_room.ensures.front

pub returns-in_err-make_room-clause-ok : goal.returns-in_err-make_room-clause-ok
returns-in_err-make_room-clause-ok g c = IfOk-from_err _ _ c.from_residual.ensures.0

pub returns-in_err-make_room-clause-more : goal.returns-in_err-make_room-clause-more
returns-in_err-make_room-clause-more g c = no_answer _ _ _ c.from_residual.ensures.0

pub returns-in_err-make_room-clause-none : goal.returns-in_err-make_room-clause-none
returns-in_err-make_room-clause-none g c = no_answer _ _ _ c.from_residual.ensures.0

pub returns-in_err-make_room-clause-bound : goal.returns-in_err-make_room-clause-bound
returns-in_err-make_room-clause-bound g c = bound_kept _ _ (there g c)

pub returns-in_err-make_room-clause-kept : goal.returns-in_err-make_room-clause-kept
returns-in_err-make_room-clause-kept g c = on_err _ _ (there g c)

pub returns-in_err-make_room-clause-err : goal.returns-in_err-make_room-clause-err
returns-in_err-make_room-clause-err g c = stays_on_err _ _

pub returns-in_err-make_room-clause-ends : goal.returns-in_err-make_room-clause-ends
returns-in_err-make_room-clause-ends g c = no_end_found _ _ _ c.from_residual.ensures.0 refl

pub returns-in_err-make_room-clause-failures : goal.returns-in_err-make_room-clause-failures
returns-in_err-make_room-clause-failures g c = memory_fails _ _ c.from_residual.ensures.1

-- The bytes that were buffered, if the read failed.
there_too : (g : _) (c : goal.After-from_residual-in_err-count g) → slice_range c.read_after.new.octets.items 0 c.move_to_front-self-inside.result ≡ c.args.self.now
there_too g c =
    let e = c.move_to_front-self-inside.ensures in
    still_there _ _ _ _ (moved_is_there _ _ _ _ _ _ _ _ _ _ c.deref_mut.ensures.value c.self.view_is c.deref_mut.ensures.len c.self.invariant.1 e.length e.end e.front
    c.make_room.ensures.front) c.read_after.ensures.front

pub returns-in_err-count-clause-ok : goal.returns-in_err-count-clause-ok
returns-in_err-count-clause-ok g c = IfOk-from_err _ _ c.from_residual-in_err-count.ensures.0

pub returns-in_err-count-clause-more : goal.returns-in_err-count-clause-more
returns-in_err-count-clause-more g c = no_answer _ _ _ c.from_residual-in_err-count.ensures.0

pub returns-in_err-count-clause-none : goal.returns-in_err-count-clause-none
returns-in_err-count-clause-none g c = no_answer _ _ _ c.from_residual-in_err-count.ensures.0

pub returns-in_err-count-clause-bound : goal.returns-in_err-count-clause-bound
returns-in_err-count-clause-bound g c = bound_kept _ _ (there_too g c)

pub returns-in_err-count-clause-kept : goal.returns-in_err-count-clause-kept
returns-in_err-count-clause-kept g c = on_err _ _ (there_too g c)

pub returns-in_err-count-clause-err : goal.returns-in_err-count-clause-err
returns-in_err-count-clause-err g c = on_err _ _ c.in_err-count.ensures.err

pub returns-in_err-count-clause-ends : goal.returns-in_err-count-clause-ends
returns-in_err-count-clause-ends g c = no_end_found _ _ _ c.from_residual-in_err-count.ensures.0 c.in_err-count.ensures.ends_stay

pub returns-in_err-count-clause-failures : goal.returns-in_err-count-clause-failures
returns-in_err-count-clause-failures g c = read_failed _ _ _ c.from_residual-in_err-count.ensures.1 c.in_err-count.ensures.failures

pub invariant_of-self-2 : goal.invariant_of-self-2
invariant_of-self-2 g c =
    within_room _ _ _ _ _ _ _ c.max-most.ensures c.in_ok-count.ensures.within c.in_ok-make_room.ensures.room c.self.invariant.2 c.make_room.ensures.longer
    c.in_ok-count.ensures.length (omega arith)

pub returns-clause-ok : goal.returns-clause-ok
returns-clause-ok g c = λ input known_input.
    let e = c.move_to_front-self-inside.ensures in
    reads_more _ _ _ _ _ _ _ _ (moved_is_there _ _ _ _ _ _ _ _ _ _ c.deref_mut.ensures.value c.self.view_is c.deref_mut.ensures.len c.self.invariant.1
    e.length e.end e.front c.make_room.ensures.front) (c.in_ok-count.ensures.ok input known_input) (omega arith)

pub returns-clause-more : goal.returns-clause-more
returns-clause-more g c =
    let e = c.move_to_front-self-inside.ensures in
    let size = count_before _ _ _ _ _ _ c.deref_mut.ensures.value c.self.view_is c.deref_mut.ensures.len c.self.invariant.0 c.self.invariant.1 in
    let room = within_room _ _ _ _ _ _ _ c.max-most.ensures c.in_ok-count.ensures.within c.in_ok-make_room.ensures.room c.self.invariant.2
    c.make_room.ensures.longer c.in_ok-count.ensures.length refl in
    more_ahead _ _ _ _ _ _ (size ∙ sym e.end) c.read_after.new.octets.ok.0 room.1 (omega arith)

pub returns-clause-none : goal.returns-clause-none
returns-clause-none g c =
    let e = c.move_to_front-self-inside.ensures in
    none_ahead _ _ _ _ _ _ (still_there _ _ _ _ (moved_is_there _ _ _ _ _ _ _ _ _ _ c.deref_mut.ensures.value c.self.view_is c.deref_mut.ensures.len
    c.self.invariant.1 e.length e.end e.front c.make_room.ensures.front) c.in_ok-count.ensures.front) c.in_ok-count.ensures.none (omega arith)

pub returns-clause-bound : goal.returns-clause-bound
returns-clause-bound g c =
    let e = c.move_to_front-self-inside.ensures in
    let size = count_before _ _ _ _ _ _ c.deref_mut.ensures.value c.self.view_is c.deref_mut.ensures.len c.self.invariant.0 c.self.invariant.1 in
    bound_ahead _ _ _ _ _ _ (size ∙ sym e.end) c.max-most.ensures c.in_ok-count.ensures.within (omega arith)
