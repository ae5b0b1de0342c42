-- The packet with which both directions have begun.
use Rattle.std.proofs.Common.{◌≡◌, ◌++◌, ◌∷◌, ◌&&◌, ◌||◌, ℕ, Bool, true, false, List, [], max, refl, sym, ap, ap₂, ◌∙◌, append_assoc, arith}
use Rattle.std.specs.List.{list_any}
use Rattle.std.proofs.lemmas.List.{append-nil}
use Rattle.std.proofs.lemmas.List.Folds.{list_any-append}
use Rattle.capture_tcp.specs.declared.packet.Side.TheVariants.{Active, Passive}
use Rattle.capture_midstream.specs.declared.buffered_packet.BufferedPacket.{BufferedPacket}
use Rattle.capture_midstream.specs.SyntheticHandshake.{IsStart, has_both, latest, shows}

or-false : (b : Bool) → (b || false) ≡ b
or-false true = refl
or-false false = refl

any_more : (f : BufferedPacket → Bool) (done : List BufferedPacket) (g : BufferedPacket) (b c : Bool) → b ≡ list_any f done → c ≡ (b || f g) → c ≡ list_any f (done ++ g ∷ [])
any_more f done g b c before after =
    after ∙ ap₂ (λ x y. x || y) before (sym (or-false (f g))) ∙ sym (list_any-append f done (g ∷ []))

latest_more : (done : List BufferedPacket) (g : BufferedPacket) → latest (done ++ g ∷ []) ≡ max g.segment.time (latest done)
latest_more [] g = refl
latest_more (x ∷ xs) g = let later = latest_more xs g in rw later (omega arith)

-- these packets were passed, and not both directions have begun
pub record Passed (active passive : ℕ) (gs rest : List BufferedPacket) (has_active has_passive : Bool) (time : ℕ) : Type 0 where
  pub done : List BufferedPacket
  pub parts : gs ≡ done ++ rest
  pub active_is : has_active ≡ list_any (shows Active active) done
  pub passive_is : has_passive ≡ list_any (shows Passive passive) done
  pub time_is : time ≡ latest done
  pub not_yet : has_both active passive done ≡ false

both_is : (active passive : ℕ) (gs : List BufferedPacket) (a p b : Bool) → a ≡ list_any (shows Active active) gs → p ≡ list_any (shows Passive passive) gs → b ≡ (a && p)
    → has_both active passive gs ≡ b
both_is active passive gs a p b first second is = sym (is ∙ ap₂ (λ x y. x && y) first second)

pub starts : (active passive : ℕ) (gs rest others : List BufferedPacket) (g : BufferedPacket) (a p b a2 p2 : Bool) (time later : ℕ) → rest ≡ g ∷ others
    → a2 ≡ (a || shows Active active g) → p2 ≡ (p || shows Passive passive g) → b ≡ (a2 && p2) → b ≡ true → later ≡ max g.segment.time time
    → Passed active passive gs rest a p time → IsStart active passive gs (record { packet = g.segment.packet; time = later })
starts active passive gs rest others g a p b a2 p2 time later parts first second both holds at so_far = record {
  before = so_far.done;
  packet = g;
  subsequent = others;
  parts = so_far.parts ∙ ap (λ xs. so_far.done ++ xs) parts;
  not_yet = so_far.not_yet;
  now = both_is active passive (so_far.done ++ g ∷ []) a2 p2 b (any_more (shows Active active) so_far.done g a a2 so_far.active_is first)
      (any_more (shows Passive passive) so_far.done g p p2 so_far.passive_is second) both ∙ holds;
  number = refl;
  time = at ∙ ap (λ (n : ℕ). max g.segment.time n) so_far.time_is ∙ sym (latest_more so_far.done g);
}

pub can_continue : (active passive : ℕ) (gs rest others : List BufferedPacket) (g : BufferedPacket) (a p b a2 p2 : Bool) (time later : ℕ) → rest ≡ g ∷ others
    → a2 ≡ (a || shows Active active g) → p2 ≡ (p || shows Passive passive g) → b ≡ (a2 && p2) → b ≡ false → later ≡ max g.segment.time time
    → Passed active passive gs rest a p time → Passed active passive gs others a2 p2 later
can_continue active passive gs rest others g a p b a2 p2 time later parts first second both fails at so_far = record {
  done = so_far.done ++ g ∷ [];
  parts = so_far.parts ∙ ap (λ xs. so_far.done ++ xs) parts ∙ sym (append_assoc so_far.done (g ∷ []) others);
  active_is = any_more (shows Active active) so_far.done g a a2 so_far.active_is first;
  passive_is = any_more (shows Passive passive) so_far.done g p p2 so_far.passive_is second;
  time_is = at ∙ ap (λ (n : ℕ). max g.segment.time n) so_far.time_is ∙ sym (latest_more so_far.done g);
  not_yet = both_is active passive (so_far.done ++ g ∷ []) a2 p2 b (any_more (shows Active active) so_far.done g a a2 so_far.active_is first)
      (any_more (shows Passive passive) so_far.done g p p2 so_far.passive_is second) both ∙ fails;
}

pub passed_none : (active passive : ℕ) (gs : List BufferedPacket) → Passed active passive gs gs false false 0
passed_none active passive gs = record { done = []; parts = refl; active_is = refl; passive_is = refl; time_is = refl; not_yet = refl }

pub passed_all : (active passive : ℕ) (gs rest : List BufferedPacket) (a p : Bool) (time : ℕ) → rest ≡ [] → Passed active passive gs rest a p time
    → has_both active passive gs ≡ false
passed_all active passive gs rest a p time none so_far =
    ap (has_both active passive) (so_far.parts ∙ ap (λ xs. so_far.done ++ xs) none ∙ append-nil so_far.done) ∙ so_far.not_yet
