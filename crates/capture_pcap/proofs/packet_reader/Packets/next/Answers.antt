use Rattle.std.proofs.Common.{ℕ, ◌<◌, refl, sym, ap, subst, ◌∙◌}
use Rattle.std.proofs.lemmas.Result.{err_from_is_err_and}
use Rattle.capture_pcap.specs.declared.fault.FileFault.TheVariants as stop
use Rattle.capture_pcap.specs.BlockReader.{CountsOn, Reading}
use Rattle.capture_pcap.specs.contracts.packet_reader.Packets.{the_view}
use Rattle.capture_pcap.proofs.BlockSteps.{counts_on, end_step, err_step, pass_step, size_fits, step_is_within, takes_front, takes_on}
use Rattle.capture_pcap.proofs.packet_reader.Packets.next.Goals as goal

pub returns-in_err-front-clause-step : goal.returns-in_err-front-clause-step
returns-in_err-front-clause-step g c = λ input known_input.
    let p = err_from_is_err_and c.from_residual.result c.from_residual.ensures.1 in
    let s_is = ap (λ (r : Reading). r.state) c.self.view_is in
    let before_is = c.pass.ensures ∙ ap (λ (r : Reading). r.ahead) c.self.view_is in
    rw (p.1, p.2) (err_step c.args.self.now (the_view (record { reader = c.self.inside.reader; ahead = c.next_front.new.ahead; last = 0 })) c.self.inside.reader c.pass.new.self
    c.next_front.new.ahead input c.in_err-front.field-0.0 (g.R.Source.state c.next_front.new.source).left s_is before_is (c.in_err-front.ensures.read input known_input)
    c.in_err-front.ensures.found refl refl)

pub returns-in_default-clause-step : goal.returns-in_default-clause-step
returns-in_default-clause-step g c = λ input known_input.
    let read = rw c.in_default.is at c.in_ok-front.ensures.read in
    let found = rw c.in_default.is at c.in_ok-front.ensures.found in
    let s_is = ap (λ (r : Reading). r.state) c.self.view_is in
    let before_is = c.pass.ensures ∙ ap (λ (r : Reading). r.ahead) c.self.view_is in
    end_step c.args.self.now (the_view (record { reader = c.self.inside.reader; ahead = c.next_front.new.ahead; last = 0 })) c.self.inside.reader c.pass.new.self
    c.next_front.new.ahead input (g.R.Source.state c.next_front.new.source).left s_is before_is (read input known_input) found refl refl

pub returns-in_default-pass-clause-step : goal.returns-in_default-pass-clause-step
returns-in_default-pass-clause-step g c = λ input known_input.
    let read = rw c.in-Some.is at c.in_ok-front.ensures.read in
    let s_is = ap (λ (r : Reading). r.state) c.self.view_is in
    let before_is = c.pass.ensures ∙ ap (λ (r : Reading). r.ahead) c.self.view_is in
    err_step c.args.self.now (the_view (record { reader = c.pass-2.new.self; ahead = c.next_front.new.ahead; last = 0 })) c.self.inside.reader c.pass.new.self
    c.next_front.new.ahead input stop.Memory (g.R.Source.state c.next_front.new.source).left s_is before_is (read input known_input) tt c.in_default-pass.ensures.err refl

pub invariant_of-self-2 : goal.invariant_of-self-2
invariant_of-self-2 g c =
    let found = rw c.in-Some.is at c.in_ok-front.ensures.found in
    (size_fits c.self.inside.reader c.next_front.new.ahead c.in-Some.front c.in-Ok.size found c.in-Ok.ensures.size, c.in_ok-front.ensures.bound)

pub returns-clause-step : goal.returns-clause-step
returns-clause-step g c = λ input known_input.
    let read = rw c.in-Some.is at c.in_ok-front.ensures.read in
    let found = rw c.in-Some.is at c.in_ok-front.ensures.found in
    let s_is = ap (λ (r : Reading). r.state) c.self.view_is in
    let before_is = c.pass.ensures ∙ ap (λ (r : Reading). r.ahead) c.self.view_is in
    pass_step c.args.self.now (the_view (record { reader = c.pass-2.new.self; ahead = c.next_front.new.ahead; last = c.in-Ok.size })) c.self.inside.reader c.pass.new.self
    c.next_front.new.ahead input c.in-Some.front c.packets.result c.in-Ok.size c.reported_step.result (g.R.Source.state c.next_front.new.source).left s_is before_is
    (read input known_input) found c.in-Ok.ensures.size c.in-Ok.ensures.ok refl refl c.packets.ensures c.reported_step.ensures

pub returns-clause-there : goal.returns-clause-there
returns-clause-there g c =
    let found = rw c.in-Some.is at c.in_ok-front.ensures.found in
    step_is_within c.self.inside.reader c.next_front.new.ahead c.in-Some.front c.packets.result c.in-Ok.size c.reported_step.result found c.in-Ok.ensures.size c.reported_step.ensures

pub returns-clause-counts : goal.returns-clause-counts
returns-clause-counts g c =
    subst (λ (n : ℕ). CountsOn c.reported_step.result n c.pass-2.new.self.packets) (ap (λ (r : Reading). r.state.packets) c.self.view_is)
    (counts_on c.self.inside.reader c.pass-2.new.self c.in-Some.front c.packets.result c.reported_step.result c.in-Ok.ensures.ok c.packets.ensures c.reported_step.ensures)

pub returns-clause-takes : goal.returns-clause-takes
returns-clause-takes g c = λ input known_input.
    let read = rw c.in-Some.is at c.in_ok-front.ensures.read in
    let found = rw c.in-Some.is at c.in_ok-front.ensures.found in
    let before_is = c.pass.ensures ∙ ap (λ (r : Reading). r.ahead) c.self.view_is in
    let now = the_view (record { reader = c.pass-2.new.self; ahead = c.next_front.new.ahead; last = c.in-Ok.size }) in
    let left = (g.R.Source.state c.next_front.new.source).left in
    takes_on c.args.self.now now input left c.reported_step.result
    (takes_front c.args.self.now now c.pass.new.self c.next_front.new.ahead input c.in-Ok.size left before_is (read input known_input) refl refl
    (subst (λ (n : ℕ). 0 < n) (sym c.in-Ok.ensures.size) found.1)
    (size_fits c.self.inside.reader c.next_front.new.ahead c.in-Some.front c.in-Ok.size found c.in-Ok.ensures.size))
