-- Messages printed from bytes, part by part.
use Rattle.std.proofs.Common.{◌≡◌, ℕ, ◌<◌, ◌≤◌, Bool, List, [], ◌++◌, length, take, drop, codes, refl, sym, subst, ap, ◌∙◌, if◌then◌else◌, append-nil, take-take, arith}
use Rattle.std.proofs.lemmas.List.{take-append-le}
use Rattle.std.specs.Prelude.{Option, None, Ok, MatchOption}
use Rattle.std.specs.Fmt.{decimal}
use Rattle.secs_item.specs.Item.{Value}
use Rattle.secs_item.specs.InnerDecoding.{item_at}
use Rattle.secs_item.specs.Encoding.{IsTextOf}
use Rattle.secs_item.proofs.Prefixes.{text_item, text_none, whole_front, front_read}
use Rattle.secs_text.specs.Content.{Content}
use Rattle.secs_text.specs.InRange.{IsHeld, IsHeldMessage}
use Rattle.secs_text.specs.InnerBlockOutput.{Puts}
use Rattle.secs_text.specs.Printed.{printed, printed_item, printed_optional}
use Rattle.secs_text.proofs.Blocks.{puts_then, puts_same}

abbrev pub head_text : ℕ → ℕ → Bool → List ℕ
head_text stream function wait = codes "S" ++ decimal stream ++ codes "F" ++ decimal function ++ (if wait then codes " W" else [])

abbrev pub message_of : ℕ → ℕ → Bool → Option Value → Content
message_of stream function wait item = record { stream = stream; function = function; wait = wait; item = item }

-- A message without an item.
pub no_item : {G H K : List ℕ → Type 0} {block a now : List ℕ} {from i at : ℕ} (stream function : ℕ) (wait : Bool) (depth : ℕ) (text : List ℕ) (item : Option Value) → length text ≡ 0 → IsTextOf depth text item
    → Puts G block from H a i (head_text stream function wait) → Puts H a i K now at (codes " .") → Puts G block from K now at (printed (message_of stream function wait item))
no_item stream function wait depth text item none is head stop =
    let nothing : None ≡ item = text_none depth text item none is in
    puts_same (printed (message_of stream function wait item))
    (ap (λ (o : List ℕ). o ++ codes " .") (sym (append-nil (head_text stream function wait))) ∙ ap (λ (o : Option Value). printed (message_of stream function wait o)) nothing) (puts_then head stop)

-- A message with an item.
pub with_item : {G H K L : List ℕ → Type 0} {block a b now : List ℕ} {from i j at : ℕ} (stream function : ℕ) (wait : Bool) (depth : ℕ) (text : List ℕ) (item : Option Value) → 0 < length text → IsTextOf depth text item
    → Puts G block from H a i (head_text stream function wait) → ((v : Value) (n : ℕ) → item_at depth text ≡ Ok (v, n) → Puts H a i K b j (codes " " ++ printed_item v)) → Puts K b j L now at (codes " .")
    → Puts G block from L now at (printed (message_of stream function wait item))
with_item stream function wait depth text item some is head put_item stop =
    let p = text_item depth text item some is in
    let read = front_read depth text p.0 (length text) (whole_front depth text p.0 p.2) in
    puts_same (printed (message_of stream function wait item)) (ap (λ (o : Option Value). printed (message_of stream function wait o)) (sym p.1)) (puts_then (puts_then head (put_item p.0 (length text) read)) stop)

-- A message with these parts.
pub put_parts : {G H K L : List ℕ → Type 0} {block a b now : List ℕ} {from i j at : ℕ} {text : List ℕ} (m : Content) (stream function : ℕ) (wait : Bool) (item : Option Value) → stream ≡ m.stream → function ≡ m.function → wait ≡ m.wait → item ≡ m.item → text ≡ printed_optional item
    → Puts G block from H a i (head_text stream function wait) → Puts H a i K b j text → Puts K b j L now at (codes " .") → Puts G block from L now at (printed m)
put_parts m stream function wait item stream_is function_is wait_is item_is text_is head put stop =
    puts_same (printed m) (rw (text_is, stream_is, function_is, wait_is, item_is) refl) (puts_then (puts_then head put) stop)

pub parts_held : (m : Content) (stream function : ℕ) (item : Option Value) → stream ≡ m.stream → function ≡ m.function → item ≡ m.item → stream < 128 → function < 256 → MatchOption item (Unit {0}) IsHeld → IsHeldMessage m
parts_held m stream function item stream_is function_is item_is few small held = record {
  stream = omega (arith, stream_is);
  function = omega (arith, function_is);
  item = subst (λ (o : Option Value). MatchOption o (Unit {0}) IsHeld) item_is held;
}

-- The text that was written to the bytes of a block, in terms of the block's value in contracts.
pub in_block : {G H : List ℕ → Type 0} {slice new text : List ℕ} {at : ℕ} (items before : List ℕ) (len used : ℕ) → take used items ≡ before → length items ≡ 65536 → slice ≡ items → length slice ≡ len → Puts G slice used H new at text
    → (given : List ℕ) → G given → (now : List ℕ) × H now × (now ++ take at (take len (new ++ drop (length new) items)) ≡ given ++ before ++ text)
in_block {G} {H} {slice} {new} {text} {at} items before len used front size same long p given h =
    let a = p.octets given h in
    let there : at ≤ len = omega (arith, p.place.within, size, long, ap length same) in
    let kept : take at (take len (new ++ drop (length new) items)) ≡ take at new = take-take at len (new ++ drop (length new) items) there ∙ take-append-le at new (drop (length new) items) (omega (arith, p.place.within, p.place.size)) in
    (a.0, a.1, ap (λ o. a.0 ++ o) kept ∙ a.2 ∙ ap (λ o. given ++ o ++ text) (ap (take used) same ∙ front))
