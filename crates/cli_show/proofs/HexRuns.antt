-- Runs of `hsms show --hex`, one line after another.
use Rattle.std.proofs.Common.{◌≡◌, ◌≤◌, ◌+◌, ◌++◌, ℕ, Bool, true, false, List, [], ◌∷◌, length, None, Some, Ok, Err, refl, sym, ◌∙◌, ap, subst, inl, arith}
use Rattle.std.specs.Prelude.{Option, Result}
use Rattle.std.proofs.lemmas.List.{append-nil, append_assoc, length-append}
use Rattle.std.proofs.lemmas.Grind.{flat_map-append}
use Rattle.hsms_frame.specs.Io.{IfRecorded, Grows, GrowsByFront}
use Rattle.hsms_frame.specs.declared.fault.ReadFault.{ReadFault}
use Rattle.hsms_frame.specs.declared.fault.ReadFault.TheVariants as read
use Rattle.cli_show.specs.declared.show_error.ShowError.{ShowError}
use Rattle.cli_show.specs.declared.show_error.ShowError.TheVariants.{Read, NoHex, NoMessage, Write, Endless}
use Rattle.cli_show.specs.InnerReadAhead.{subsequent}
use Rattle.cli_output.specs.LineBuffer.{GrowsHolding}
use Rattle.cli_output.specs.IoErrors.{LeavesPart}
use Rattle.cli_show.specs.ShowHex.{IsLine, ShowsHex, ShowsLine, ShowsLines, StopsAt, ended, decoded_octets}
use Rattle.cli_show.specs.InnerShowHex.{IsAllRead, ShowsNextLine}
use Rattle.cli_show.proofs.Runs.{holding_front, holding_out, holding_then}

-- One more line.
ShowsLines-push : (bare : Bool) (max depth : ℕ) (lines : List (List ℕ)) (shown line last : List ℕ) → ShowsLines bare max depth lines shown → IsLine max line
    → ShowsLine bare max depth line last → ShowsLines bare max depth (lines ++ line ∷ []) (shown ++ last)
ShowsLines-push bare max depth [] shown line last none is shows =
    (last, [], is, shows, refl, ap (λ xs. xs ++ last) none ∙ sym (append-nil last))
ShowsLines-push bare max depth (l ∷ ls) shown line last (first, rest, one, shows_one, others, parts) is shows =
    (first, rest ++ last, one, shows_one, ShowsLines-push bare max depth ls rest line last others is shows, ap (λ xs. xs ++ last) parts ∙ append_assoc first rest last)

-- After some lines.
abbrev pub BegunLines : Bool → ℕ → ℕ → List ℕ → ℕ → Option (List ℕ) → Option (List ℕ) → Option (List ℕ) → List ℕ → Type 0
BegunLines bare max depth input count left old new held =
    (lines : List (List ℕ)) × (shown rest : List ℕ) × (length lines ≡ count) × ShowsLines bare max depth lines shown × (input ≡ ended lines ++ rest)
    × (left ≡ Some rest) × GrowsHolding old [] new held shown

-- The next line, of what is left.
abbrev pub NextLine : Bool → ℕ → ℕ → ℕ → Option (List ℕ) → Result Bool ShowError → Option (List ℕ) → Option (List ℕ) → List ℕ → Option (List ℕ) → List ℕ → Type 0
NextLine bare max depth number before result left old held new now =
    IfRecorded before (λ input. ShowsNextLine bare max depth number input result left old held new now)

pub lines_begin : (bare : Bool) (max depth : ℕ) (input ahead : List ℕ) (left written : Option (List ℕ)) (held : List ℕ) → held ≡ [] → ahead ≡ [] → left ≡ Some input
    → BegunLines bare max depth input 0 (subsequent ahead left) written written held
lines_begin bare max depth input ahead left written held nothing none known_input = (
  [],
  [],
  input,
  refl,
  refl,
  refl,
  ap (λ (xs : List ℕ). subsequent xs left) none ∙ ap (subsequent []) known_input,
  ([], nothing, (λ octets is. is ∙ ap Some (sym (append-nil octets)))),
)

pub lines_go_on : (bare : Bool) (max depth : ℕ) (input : List ℕ) (count : ℕ) (before left old mid : Option (List ℕ)) (held : List ℕ) (new : Option (List ℕ)) (now : List ℕ)
    → BegunLines bare max depth input count before old mid held → NextLine bare max depth (count + 1) before (Ok true) left mid held new now
    → BegunLines bare max depth input (count + 1) left old new now
lines_go_on bare max depth input count before left old mid held new now (lines, shown, rest, size, shows, reads, known_input, grows) next =
    let n = next rest known_input in
    let line : List ℕ = n.0 in
    let after : List ℕ = n.1 in
    let last : List ℕ = n.2 in
    let feed : List ℕ → List ℕ = λ xs. xs ++ 10 ∷ [] in
    let more : ended (lines ++ line ∷ []) ≡ ended lines ++ (line ++ 10 ∷ []) =
    flat_map-append feed lines (line ∷ []) ∙ ap (λ x. ended lines ++ x) (append-nil (line ++ 10 ∷ [])) in (
      lines ++ line ∷ [],
      shown ++ last,
      after,
      omega (arith, length-append lines (line ∷ []), size),
      ShowsLines-push bare max depth lines shown line last shows n.4 n.5,
      reads ∙ ap (λ x. ended lines ++ x) (n.3 ∙ sym (append_assoc line (10 ∷ []) after)) ∙ sym (append_assoc (ended lines) (line ++ 10 ∷ []) after)
          ∙ ap (λ x. x ++ after) (sym more),
      n.6,
      holding_then old [] mid held new now shown last grows n.7,
    )

-- The run stops.
stops_whole : (bare : Bool) (max depth number : ℕ) (rest shown held : List ℕ) (r : Result Bool ShowError) (left old mid new : Option (List ℕ)) → GrowsHolding old [] mid held shown
    → StopsAt bare max depth number rest held r left mid new → StopsAt bare max depth number rest shown r left old new
stops_whole bare max depth number rest shown held (Ok well) left old mid new grows (last, is, shows, known_input, out) =
    (last, is, shows, known_input, growing old mid new held shown last grows out)
  where
    growing : (old mid new : Option (List ℕ)) (held shown last : List ℕ) → GrowsHolding old [] mid held shown → Grows mid new (held ++ last) → Grows old new (shown ++ last)
    growing old mid new held shown last (put, one, grows) out = λ octets known_input.
        out (octets ++ put) (grows octets known_input)
        ∙ ap Some (append_assoc octets put (held ++ last) ∙ ap (λ o. octets ++ o) (sym (append_assoc put held last) ∙ ap (λ o. o ++ last) one))
stops_whole bare max depth number rest shown held (Err (Read read.Read)) left old mid new grows (stops, out) = (stops, holding_out old [] mid held new shown grows out)
stops_whole bare max depth number rest shown held (Err (Read read.Memory)) left old mid new grows (leaves, out) = (leaves, holding_out old [] mid held new shown grows out)
stops_whole bare max depth number rest shown held (Err (Read read.CutOff)) left old mid new grows (why, leaves, out) = (why, leaves, holding_out old [] mid held new shown grows out)
stops_whole bare max depth number rest shown held (Err (Read (read.TooShort n))) left old mid new grows (why, leaves, out) = (why, leaves, holding_out old [] mid held new shown grows out)
stops_whole bare max depth number rest shown held (Err (Read (read.TooLong n h))) left old mid new grows (why, leaves, out) = (why, leaves, holding_out old [] mid held new shown grows out)
stops_whole bare max depth number rest shown held (Err Write) left old mid new grows (leaves, more, may, front) =
    (leaves, more, may, holding_front old [] mid held new shown more grows front)
stops_whole bare max depth number rest shown held (Err Endless) left old mid new grows (full, proceeds, leaves, out) =
    (full, proceeds, leaves, holding_out old [] mid held new shown grows out)
stops_whole bare max depth number rest shown held (Err (NoHex n)) left old mid new grows (why, leaves, out) = (why, leaves, holding_out old [] mid held new shown grows out)
stops_whole bare max depth number rest shown held (Err (NoMessage n)) left old mid new grows (why, leaves, out) = (why, leaves, holding_out old [] mid held new shown grows out)

-- The results without and with a value agree.
as_done : (bare : Bool) (max depth number : ℕ) (rest shown : List ℕ) (left old new : Option (List ℕ)) → StopsAt {T = Bool} bare max depth number rest shown (Ok false) left old new
    → StopsAt {T = Unit {0}} bare max depth number rest shown (Ok tt) left old new
as_done bare max depth number rest shown left old new stops = stops

as_fault : (bare : Bool) (max depth number : ℕ) (rest shown : List ℕ) (fault : ShowError) (left old new : Option (List ℕ))
    → StopsAt {T = Bool} bare max depth number rest shown (Err fault) left old new → StopsAt {T = Unit {0}} bare max depth number rest shown (Err fault) left old new
as_fault bare max depth number rest shown (Read read.Read) left old new stops = stops
as_fault bare max depth number rest shown (Read read.Memory) left old new stops = stops
as_fault bare max depth number rest shown (Read read.CutOff) left old new stops = stops
as_fault bare max depth number rest shown (Read (read.TooShort n)) left old new stops = stops
as_fault bare max depth number rest shown (Read (read.TooLong n h)) left old new stops = stops
as_fault bare max depth number rest shown Write left old new stops = stops
as_fault bare max depth number rest shown Endless left old new stops = stops
as_fault bare max depth number rest shown (NoHex n) left old new stops = stops
as_fault bare max depth number rest shown (NoMessage n) left old new stops = stops

numbered : (bare : Bool) (max depth count number : ℕ) (rest shown : List ℕ) (r : Result Bool ShowError) (left old new : Option (List ℕ)) → count ≡ number
    → StopsAt bare max depth (number + 1) rest shown r left old new → StopsAt bare max depth (count + 1) rest shown r left old new
numbered bare max depth count number rest shown r left old new same stops =
    let P : ℕ → Type 0 = λ n. StopsAt bare max depth (n + 1) rest shown r left old new in subst P (sym same) stops

pub lines_end : (bare : Bool) (max depth : ℕ) (input : List ℕ) (count : ℕ) (before left old mid : Option (List ℕ)) (held : List ℕ) (new : Option (List ℕ)) (now : List ℕ) → count ≤ 4294967295
    → BegunLines bare max depth input count before old mid held → NextLine bare max depth (count + 1) before (Ok false) left mid held new now
    → ShowsHex {T = Unit {0}} bare max depth input (Ok tt) left old new
lines_end bare max depth input count before left old mid held new now few (lines, shown, rest, size, shows, reads, known_input, grows) next = (
  lines,
  shown,
  rest,
  reads,
  shows,
  omega (arith, few, size),
  as_done bare max depth (length lines + 1) rest shown left old new
      (numbered bare max depth (length lines) count rest shown (Ok false) left old new size
      (stops_whole bare max depth (count + 1) rest shown held (Ok false) left old mid new grows (next rest known_input))),
)

pub lines_stop : (bare : Bool) (max depth : ℕ) (input : List ℕ) (count : ℕ) (fault : ShowError) (before left old mid : Option (List ℕ)) (held : List ℕ) (new : Option (List ℕ)) (now : List ℕ)
    → count ≤ 4294967295 → BegunLines bare max depth input count before old mid held → NextLine bare max depth (count + 1) before (Err fault) left mid held new now
    → ShowsHex {T = Unit {0}} bare max depth input (Err fault) left old new
lines_stop bare max depth input count fault before left old mid held new now few (lines, shown, rest, size, shows, reads, known_input, grows) next = (
  lines,
  shown,
  rest,
  reads,
  shows,
  omega (arith, few, size),
  as_fault bare max depth (length lines + 1) rest shown fault left old new
      (numbered bare max depth (length lines) count rest shown (Err fault) left old new size
      (stops_whole bare max depth (count + 1) rest shown held (Err fault) left old mid new grows (next rest known_input))),
)

-- An allocation fails before the first line.
pub no_line : (bare : Bool) (max depth : ℕ) (input : List ℕ) (left written : Option (List ℕ)) → left ≡ Some input → ShowsHex {T = Unit {0}} bare max depth input (Err (Read read.Memory)) left written written
no_line bare max depth input left written known_input = (
  [],
  [],
  input,
  refl,
  refl,
  omega arith,
  (([], input, refl, known_input), (λ octets is. is ∙ ap Some (sym (append-nil octets)))),
)

-- The maximum number of lines was passed, and the run ends: nothing is left, or the input continues.
full_ends : (bare : Bool) (max depth : ℕ) (rest shown : List ℕ) (left old new : Option (List ℕ)) → rest ≡ [] → left ≡ Some []
    → Grows old new shown → StopsAt {T = Unit {0}} bare max depth 4294967296 rest shown (Ok tt) left old new
unfolding decoded_octets
full_ends bare max depth rest shown left old new none known_input grows =
    let P : List ℕ → Type 0 = λ xs. IsLine max xs × ShowsLine bare max depth xs [] in
    let empty : IsLine max [] × ShowsLine bare max depth [] [] = (((λ k d less. absurd (omega arith)), omega arith), ([], refl, inl (refl, refl))) in
    let here : IsLine max rest × ShowsLine bare max depth rest [] = subst P (sym none) empty in
    ([], here.0, here.1, known_input, (λ octets is. grows octets is ∙ ap (λ (o : List ℕ). Some (octets ++ o)) (sym (append-nil shown))))

full_stops : (bare : Bool) (max depth : ℕ) (rest shown : List ℕ) (fault : ReadFault) (left old new : Option (List ℕ)) → IsAllRead rest (Err fault) left
    → Grows old new shown → StopsAt {T = Unit {0}} bare max depth 4294967296 rest shown (Err (Read fault)) left old new
full_stops bare max depth rest shown read.Read left old new known_input grows =
    (([], rest, refl, known_input, ((λ k d less. absurd (omega arith)), omega arith)), grows)
full_stops bare max depth rest shown read.Memory left old new leaves grows = (leaves, grows)
full_stops bare max depth rest shown read.CutOff left old new none grows = absurd none
full_stops bare max depth rest shown (read.TooShort n) left old new none grows = absurd none
full_stops bare max depth rest shown (read.TooLong n h) left old new none grows = absurd none

after_full : (bare : Bool) (max depth : ℕ) (input : List ℕ) (count : ℕ) (r : Result (Unit {0}) ShowError) (before left old mid : Option (List ℕ)) (held : List ℕ) (new : Option (List ℕ))
    → count ≡ 4294967295 → BegunLines bare max depth input count before old mid held → Grows mid new held
    → ((rest shown : List ℕ) → before ≡ Some rest → Grows old new shown → StopsAt bare max depth 4294967296 rest shown r left old new)
    → ShowsHex bare max depth input r left old new
after_full bare max depth input count r before left old mid held new full (lines, shown, rest, size, shows, reads, known_input, grows) out end =
    let P : ℕ → Type 0 = λ n. StopsAt bare max depth n rest shown r left old new in
    let next : ◌≡◌ {A = ℕ} 4294967296 (length lines + 1) = omega (arith, full, size) in
    (lines, shown, rest, reads, shows, omega (arith, full, size), subst P next (end rest shown known_input (holding_out old [] mid held new shown grows out)))

pub lines_full_end : (bare : Bool) (max depth : ℕ) (input : List ℕ) (count : ℕ) (before left old mid : Option (List ℕ)) (held : List ℕ) (new : Option (List ℕ))
    → count ≡ 4294967295 → BegunLines bare max depth input count before old mid held → Grows mid new held → IfRecorded before (λ rest. IsAllRead rest (Ok true) left)
    → ShowsHex {T = Unit {0}} bare max depth input (Ok tt) left old new
lines_full_end bare max depth input count before left old mid held new full begun out all =
    after_full bare max depth input count (Ok tt) before left old mid held new full begun out
    (λ rest shown is grows. let a = all rest is in full_ends bare max depth rest shown left old new a.0 a.1 grows)

pub lines_full_stop : (bare : Bool) (max depth : ℕ) (input : List ℕ) (count : ℕ) (fault : ReadFault) (before left old mid : Option (List ℕ)) (held : List ℕ) (new : Option (List ℕ))
    → count ≡ 4294967295 → BegunLines bare max depth input count before old mid held → Grows mid new held → IfRecorded before (λ rest. IsAllRead rest (Err fault) left)
    → ShowsHex {T = Unit {0}} bare max depth input (Err (Read fault)) left old new
lines_full_stop bare max depth input count fault before left old mid held new full begun out all =
    after_full bare max depth input count (Err (Read fault)) before left old mid held new full begun out
    (λ rest shown is grows. full_stops bare max depth rest shown fault left old new (all rest is) grows)

pub lines_full_more : (bare : Bool) (max depth : ℕ) (input : List ℕ) (count : ℕ) (before left old mid : Option (List ℕ)) (held : List ℕ) (new : Option (List ℕ))
    → count ≡ 4294967295 → BegunLines bare max depth input count before old mid held → Grows mid new held → IfRecorded before (λ rest. IsAllRead rest (Ok false) left)
    → ShowsHex {T = Unit {0}} bare max depth input (Err Endless) left old new
lines_full_more bare max depth input count before left old mid held new full begun out all =
    after_full bare max depth input count (Err Endless) before left old mid held new full begun out
    (λ rest shown is grows. let a = all rest is in (refl, a.0, a.1, grows))

-- What was read ahead is consumed.
leaves_ahead : (ahead rest : List ℕ) (left : Option (List ℕ)) → subsequent ahead left ≡ Some rest → LeavesPart rest left
leaves_ahead ahead rest None is = cc
leaves_ahead ahead rest (Some others) is = let same : ahead ++ others ≡ rest = cc in (ahead, others, sym same, refl)

-- A write failed after the maximum number of lines was passed.
pub lines_unwritten : (bare : Bool) (max depth : ℕ) (input : List ℕ) (count : ℕ) (left old mid : Option (List ℕ)) (held : List ℕ) (new : Option (List ℕ)) (ahead : List ℕ)
    → count ≡ 4294967295 → BegunLines bare max depth input count (subsequent ahead left) old mid held → GrowsByFront mid new held
    → ShowsHex {T = Unit {0}} bare max depth input (Err Write) left old new
lines_unwritten bare max depth input count left old mid held new ahead full (lines, shown, rest, size, shows, reads, known_input, grows) front =
    let P : List ℕ → Type 0 = λ o. GrowsByFront mid new o in (
      lines,
      shown,
      rest,
      reads,
      shows,
      omega (arith, full, size),
      (leaves_ahead ahead rest left known_input, [], inl refl, holding_front old [] mid held new shown [] grows (subst P (sym (append-nil held)) front)),
    )
