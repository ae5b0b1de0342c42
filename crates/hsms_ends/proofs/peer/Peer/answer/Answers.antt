use Rattle.std.proofs.Common.{◌≡◌, ◌≤◌, ◌<◌, ◌-◌, ◌++◌, ℕ, List, min, length, take, drop, Vec, Global, sym, ap, ◌∙◌, arith}
use Rattle.std.proofs.lemmas.List.{append-nil, take_all, length-drop}
use Rattle.hsms_ends.specs.ScriptedLink.{pass_over}
use Rattle.hsms_ends.specs.InnerScriptedLink.{PeerState, given_of}
use Rattle.hsms_ends.proofs.Peers.{given_none, given_more, none_at, octets_at, gives_octets, answers_closed, answers_quiet}
use Rattle.hsms_ends.proofs.peer.Peer.answer.Goals as goal

pub returns-then-place-len-clause-given : goal.returns-then-place-len-clause-given
returns-then-place-len-clause-given c =
    let same = rw c.deref.ensures.value at c.next_wait-place.ensures.given in
    same ∙ ap (λ (s : PeerState). s.given) c.self.view_is ∙ sym (append-nil c.args.self.now.given)

pub returns-then-place-len-clause-answers : goal.returns-then-place-len-clause-answers
returns-then-place-len-clause-answers c =
    let items = λ (v : Vec ℕ Global). v.items in
    let waits = c.self.inside.waits.items in
    let same = rw c.deref.ensures.value at c.next_wait-place.ensures.left in
    let over : length waits ≤ c.next_wait-place.result.0 = omega (arith, c.if-place-len.true, c.len.ensures) in
    answers_closed items waits c.next_wait-place.result.0 c.next_wait-place.result.1 c.args.piece c.args.into.now (pass_over c.args.self.now.left)
    over (same ∙ ap (λ (s : PeerState). pass_over s.left) c.self.view_is)

pub returns-in-None-clause-given : goal.returns-in-None-clause-given
returns-in-None-clause-given c =
    let items = λ (v : Vec ℕ Global). v.items in
    let waits = c.self.inside.waits.items in
    let place = c.next_wait-place.result.0 in
    let within = c.next_wait-place.result.1 in
    let wait = c.index.result.now in
    let same = rw c.deref.ensures.value at c.next_wait-place.ensures.given in
    let inside = rw c.deref.ensures.value at c.next_wait-place.ensures.place in
    let below : place < length waits = omega (arith, inside, c.if-place-len.false, c.len.ensures) in
    let fits = rw c.deref.ensures.value at c.next_wait-place.ensures.within in
    given_none items waits place within wait below c.index.ensures c.in-None.is fits
    ∙ same ∙ ap (λ (s : PeerState). s.given) c.self.view_is ∙ sym (append-nil c.args.self.now.given)

pub returns-in-None-clause-answers : goal.returns-in-None-clause-answers
returns-in-None-clause-answers c =
    let items = λ (v : Vec ℕ Global). v.items in
    let waits = c.self.inside.waits.items in
    let place = c.next_wait-place.result.0 in
    let within = c.next_wait-place.result.1 in
    let same = rw c.deref.ensures.value at c.next_wait-place.ensures.left in
    let inside = rw c.deref.ensures.value at c.next_wait-place.ensures.place in
    let below : place < length waits = omega (arith, inside, c.if-place-len.false, c.len.ensures) in
    answers_quiet items waits place within c.args.piece c.args.into.now (pass_over c.args.self.now.left)
    below (none_at waits place c.index.result.now below c.index.ensures c.in-None.is) (same ∙ ap (λ (s : PeerState). pass_over s.left) c.self.view_is)

pub returns-in-Some-clause-given : goal.returns-in-Some-clause-given
returns-in-Some-clause-given c =
    let items : Vec ℕ Global → List ℕ = λ v. v.items in
    let waits = c.self.inside.waits.items in
    let place = c.next_wait-place.result.0 in
    let within = c.next_wait-place.result.1 in
    let n = c.copy_front-count.result in
    let d = c.deref-in-Some.result.now in
    let inside = rw c.deref.ensures.value at c.next_wait-place.ensures.place in
    let below : place < length waits = omega (arith, inside, c.if-place-len.false, c.len.ensures) in
    let whole : take (length d - within) (drop within d) ≡ drop within c.in-Some.octets.items =
    take_all (length d - within) (drop within d) (omega (arith, length-drop within d)) ∙ ap (λ (l : List ℕ). drop within l) c.deref-in-Some.ensures.value in
    let front : take n c.copy_front-count.new.into ≡ take n (drop within c.in-Some.octets.items) = c.copy_front-count.ensures.front ∙ ap (λ (l : List ℕ). take n l) whole in
    let same = rw c.deref.ensures.value at c.next_wait-place.ensures.given in
    given_more items waits place within n
    ∙ ap (λ l. given_of items waits place within ++ l) (sym (front ∙ ap (λ (l : List ℕ). take n (drop within l)) (octets_at items waits place c.index.result.now c.in-Some.octets below c.index.ensures c.in-Some.is)))
    ∙ ap (λ l. l ++ take n c.copy_front-count.new.into) (same ∙ ap (λ (s : PeerState). s.given) c.self.view_is)

pub returns-in-Some-clause-answers : goal.returns-in-Some-clause-answers
returns-in-Some-clause-answers c =
    let items : Vec ℕ Global → List ℕ = λ v. v.items in
    let waits = c.self.inside.waits.items in
    let place = c.next_wait-place.result.0 in
    let within = c.next_wait-place.result.1 in
    let n = c.copy_front-count.result in
    let d = c.deref-in-Some.result.now in
    let inside = rw c.deref.ensures.value at c.next_wait-place.ensures.place in
    let below : place < length waits = omega (arith, inside, c.if-place-len.false, c.len.ensures) in
    let whole : take (length d - within) (drop within d) ≡ drop within c.in-Some.octets.items =
    take_all (length d - within) (drop within d) (omega (arith, length-drop within d)) ∙ ap (λ (l : List ℕ). drop within l) c.deref-in-Some.ensures.value in
    let front : take n c.copy_front-count.new.into ≡ take n (drop within c.in-Some.octets.items) = c.copy_front-count.ensures.front ∙ ap (λ (l : List ℕ). take n l) whole in
    let same = rw c.deref.ensures.value at c.next_wait-place.ensures.left in
    let more = rw c.deref.ensures.value at c.next_wait-place.ensures.some in
    let room : length c.args.into.now ≡ length c.copy_front-count.new.into = omega (arith, c.copy_front-count.auto.into) in
    gives_octets items waits place within n c.args.piece c.copy_front-count.new.into (pass_over c.args.self.now.left) c.index.result.now c.in-Some.octets
    below c.index.ensures c.in-Some.is (more below)
    (c.copy_front-count.ensures.count ∙ ap (λ (l : List ℕ). min (min (length l) (length c.args.into.now)) c.args.piece) whole ∙ ap (λ k. min (min (length (drop within c.in-Some.octets.items)) k) c.args.piece) room)
    front (same ∙ ap (λ (s : PeerState). pass_over s.left) c.self.view_is)
