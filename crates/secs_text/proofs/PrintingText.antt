-- Text printed from bytes, byte by byte and chunk by chunk.
use Rattle.std.proofs.Common.{◌≡◌, ℕ, ◌+◌, ◌<◌, ◌≤◌, Bool, true, false, List, [], ◌∷◌, ◌++◌, length, get_or, drop, codes, if◌then◌else◌, refl, sym, ap, ◌∙◌, append_assoc, append-nil, add-one, drop-cons, arith}
use Rattle.std.proofs.lemmas.List.{drop_all}
use Rattle.std.proofs.lemmas.Bool.{and_parts}
use Rattle.std.specs.List.{list_all}
use Rattle.secs_text.specs.InnerBlockOutput.{AppendsText, Puts}
use Rattle.secs_text.specs.Octets.{is_quotable}
use Rattle.secs_text.specs.Printed.{printed_octet, printed_text}
use Rattle.secs_text.proofs.Blocks.{appended_then, appended_nothing, appended_same, puts_appended, puts_room, puts_same}

-- Holds if the text of a chunk was appended.
abbrev pub ChunkAppended : List ℕ → List ℕ → ℕ → ℕ → Bool → Bool → List ℕ → Type 0
ChunkAppended now new at end in_quotes quoted chunk = (text : List ℕ) × AppendsText now new at text end × ((tail : List ℕ) → text ++ printed_text quoted tail ≡ printed_text in_quotes (chunk ++ tail))

-- The byte at an index, and the bytes after it.
printed_with : (in_quotes : Bool) (octets tail : List ℕ) (i : ℕ) → i < length octets
    → printed_text in_quotes (drop i octets ++ tail) ≡ printed_octet in_quotes (get_or octets i 0) ++ printed_text (is_quotable (get_or octets i 0)) (drop (i + 1) octets ++ tail)
unfolding printed_text
printed_with in_quotes octets tail i lt = ap (λ o. printed_text in_quotes (o ++ tail)) (drop-cons octets i 0 lt) ∙ rw add-one refl

-- The text of the byte at an index, followed by the text of the rest.
pub text_proceeds : (text all tail : List ℕ) (in_quotes : Bool) (octets : List ℕ) (i : ℕ) → i < length octets → text ++ printed_text in_quotes (drop i octets ++ tail) ≡ all
    → text ++ printed_octet in_quotes (get_or octets i 0) ++ printed_text (is_quotable (get_or octets i 0)) (drop (i + 1) octets ++ tail) ≡ all
text_proceeds text all tail in_quotes octets i lt before =
    append_assoc text (printed_octet in_quotes (get_or octets i 0)) (printed_text (is_quotable (get_or octets i 0)) (drop (i + 1) octets ++ tail))
    ∙ ap (λ o. text ++ o) (sym (printed_with in_quotes octets tail i lt)) ∙ before

-- No byte remains.
pub text_done : (text all tail : List ℕ) (in_quotes : Bool) (octets : List ℕ) (i : ℕ) → length octets ≤ i → text ++ printed_text in_quotes (drop i octets ++ tail) ≡ all → text ++ printed_text in_quotes tail ≡ all
text_done text all tail in_quotes octets i done before = ap (λ o. text ++ printed_text in_quotes (o ++ tail)) (sym (drop_all i octets done)) ∙ before

-- Bytes that are allowed between quotes, inside a quote.
printed_run : (octets tail : List ℕ) → list_all is_quotable octets ≡ true → octets ++ printed_text true tail ≡ printed_text true (octets ++ tail)
unfolding printed_text
printed_run [] tail all = refl
printed_run (c ∷ cs) tail all =
    let p = and_parts (is_quotable c) (list_all is_quotable cs) all in
    rw p.0 (ap (λ (o : List ℕ). c ∷ o) (printed_run cs tail p.1))

-- A run is appended after the quote that it opens.
pub run_appended : {old now new : List ℕ} {from at end : ℕ} (quoted : Bool) (octets : List ℕ) → list_all is_quotable octets ≡ true → 0 < length octets → AppendsText old now from (if quoted then [] else codes " \"") at → AppendsText now new at octets end
    → ChunkAppended old new from end quoted true octets
unfolding printed_text
run_appended quoted [] all some opens appended_text = absurd (omega arith)
run_appended true (c ∷ cs) all some opens appended_text = (c ∷ cs, appended_then opens appended_text, λ tail. printed_run (c ∷ cs) tail all)
run_appended false (c ∷ cs) all some opens appended_text = (
  codes " \"" ++ (c ∷ cs),
  appended_then opens appended_text,
  λ tail.
      let p = and_parts (is_quotable c) (list_all is_quotable cs) all in
      rw p.0 (ap (λ (o : List ℕ). codes " \"" ++ c ∷ o) (printed_run cs tail p.1)),
)

-- Loop invariant: the text of the bytes before the remaining ones was appended.
pub record TextAppended (old : List ℕ) (from : ℕ) (quoted : Bool) (all now : List ℕ) (at : ℕ) (in_quotes : Bool) (left : List ℕ) : Type 0 where
  pub done : List ℕ
  pub parts : done ++ left ≡ all
  pub appended_text : ChunkAppended old now from at quoted in_quotes done

pub appended_starts : (block : List ℕ) (from : ℕ) (quoted : Bool) (all : List ℕ) → TextAppended block from quoted all block from quoted all
appended_starts block from quoted all = record { done = []; parts = refl; appended_text = ([], appended_nothing block from, λ tail. refl) }

module _ {old now new : List ℕ} {from at end : ℕ} (all : List ℕ) (quoted in_quotes after_it : Bool) where
  chunks : (xs ys : List ℕ) → ChunkAppended old now from at quoted in_quotes xs → ChunkAppended now new at end in_quotes after_it ys → ChunkAppended old new from end quoted after_it (xs ++ ys)
  chunks xs ys p q = (
    p.0 ++ q.0,
    appended_then p.1 q.1,
    λ tail.
        append_assoc p.0 q.0 (printed_text after_it tail) ∙ ap (λ o. p.0 ++ o) (q.2 tail) ∙ p.2 (ys ++ tail)
        ∙ ap (λ o. printed_text quoted o) (sym (append_assoc xs ys tail)),
  )

  -- One more run is appended.
  pub appended_more : (left run after : List ℕ) → TextAppended old from quoted all now at in_quotes left → run ++ after ≡ left → ChunkAppended now new at end in_quotes after_it run → TextAppended old from quoted all new end after_it after
  appended_more left run after before parts appended_text = record {
    done = before.done ++ run;
    parts = append_assoc before.done run after ∙ ap (λ o. before.done ++ o) parts ∙ before.parts;
    appended_text = chunks before.done run before.appended_text appended_text;
  }

  -- All remaining bytes are appended.
  pub appended_all : (left : List ℕ) → TextAppended old from quoted all now at in_quotes left → ChunkAppended now new at end in_quotes after_it left → ChunkAppended old new from end quoted after_it all
  appended_all left before appended_text =
      let whole = chunks before.done left before.appended_text appended_text in
      (whole.0, whole.1, λ tail. whole.2 tail ∙ ap (λ o. printed_text quoted (o ++ tail)) before.parts)

-- No quote is open at the end.
pub last_ends : {now new : List ℕ} {at end : ℕ} (text : List ℕ) (in_quotes quoted : Bool) (octets : List ℕ) → quoted ≡ false → AppendsText now new at text end → ((tail : List ℕ) → text ++ printed_text quoted tail ≡ printed_text in_quotes (octets ++ tail))
    → AppendsText now new at (printed_text in_quotes octets) end
unfolding printed_text
last_ends text in_quotes quoted octets closed appended_text parts =
    let ended : text ++ printed_text false [] ≡ printed_text in_quotes (octets ++ []) = rw closed at (parts []) in
    appended_same (printed_text in_quotes octets) (sym (append-nil text) ∙ ended ∙ ap (λ o. printed_text in_quotes o) (append-nil octets)) appended_text

-- The open quote is closed.
pub last_closes : {now mid new : List ℕ} {at end close : ℕ} (text : List ℕ) (in_quotes quoted : Bool) (octets : List ℕ) → quoted ≡ true → AppendsText now mid at text end → AppendsText mid new end (codes "\"") close → ((tail : List ℕ) → text ++ printed_text quoted tail ≡ printed_text in_quotes (octets ++ tail))
    → AppendsText now new at (printed_text in_quotes octets) close
unfolding printed_text
last_closes text in_quotes quoted octets opened appended_text closing parts =
    let ended : text ++ printed_text true [] ≡ printed_text in_quotes (octets ++ []) = rw opened at (parts []) in
    appended_same (printed_text in_quotes octets) (ended ∙ ap (λ o. printed_text in_quotes o) (append-nil octets)) (appended_then appended_text closing)

-- ---- printing to an output

-- The printed text, followed by the text of the remaining bytes.
pub record TextOn (G : List ℕ → Type 0) (block : List ℕ) (from : ℕ) (H : List ℕ → Type 0) (now : List ℕ) (at : ℕ) (in_quotes : Bool) (left all : List ℕ) : Type 0 where
  pub done : List ℕ
  pub puts : Puts G block from H now at done
  pub parts : (tail : List ℕ) → done ++ printed_text in_quotes (left ++ tail) ≡ printed_text false (all ++ tail)

module _ (G : List ℕ → Type 0) (block : List ℕ) (from : ℕ) (all : List ℕ) where
  pub text_starts : (H : List ℕ → Type 0) (at : ℕ) → Puts G block from H block at [] → TextOn G block from H block at false all all
  text_starts H at room = record { done = []; puts = room; parts = λ tail. refl }

  -- A chunk was appended.
  pub text_chunk : (H : List ℕ → Type 0) (now new : List ℕ) (at end : ℕ) (in_quotes quoted : Bool) (left chunk after : List ℕ) → chunk ++ after ≡ left → ChunkAppended now new at end in_quotes quoted chunk → end ≤ 65536
      → TextOn G block from H now at in_quotes left all → TextOn G block from H new end quoted after all
  text_chunk H now new at end in_quotes quoted left chunk after parts appended_text within before = record {
    done = before.done ++ appended_text.0;
    puts = puts_appended before.puts appended_text.1 within;
    parts = λ tail.
        let octets : chunk ++ (after ++ tail) ≡ left ++ tail = sym (append_assoc chunk after tail) ∙ ap (λ o. o ++ tail) parts in
        append_assoc before.done appended_text.0 (printed_text quoted (after ++ tail)) ∙ ap (λ o. before.done ++ o) (appended_text.2 (after ++ tail) ∙ ap (λ o. printed_text in_quotes o) octets) ∙ before.parts tail;
  }

  -- Space was made in the block.
  pub text_room : (H K : List ℕ → Type 0) (now : List ℕ) (at end : ℕ) (in_quotes : Bool) (left : List ℕ) → Puts H now at K now end [] → TextOn G block from H now at in_quotes left all → TextOn G block from K now end in_quotes left all
  text_room H K now at end in_quotes left room before = record { done = before.done; puts = puts_room before.puts room; parts = before.parts }

  -- All remaining bytes were appended.
  pub text_all : (H : List ℕ → Type 0) (now new : List ℕ) (at end : ℕ) (in_quotes : Bool) (left : List ℕ) → AppendsText now new at (printed_text in_quotes left) end → end ≤ 65536 → TextOn G block from H now at in_quotes left all
      → Puts G block from H new end (printed_text false all)
  text_all H now new at end in_quotes left appended_text within before =
      puts_same (printed_text false all)
      (ap (λ o. before.done ++ printed_text in_quotes o) (sym (append-nil left)) ∙ before.parts [] ∙ ap (λ o. printed_text false o) (append-nil all))
      (puts_appended before.puts appended_text within)
