-- What was given to an output to a sink, and what is buffered.
use Rattle.std.proofs.Common.{◌≡◌, ◌≤◌, ◌+◌, ◌-◌, ◌++◌, ℕ, suc, Bool, true, false, List, [], ◌∷◌, length, take, drop, None, Some, Ok, Err, refl, sym, ◌∙◌, ap, subst, arith, get_or}
use Rattle.std.specs.Prelude.{Option, Result, is_err, OnOk, OnErr, if◌then◌else◌}
use Rattle.std.proofs.lemmas.List.{append_assoc, length-append, drop-append-le, take-append-le, take-append-drop, take_at, drop_at}
use Rattle.hsms_frame.specs.CallCounts.{next_count, count_failure}
use Rattle.hsms_frame.specs.Io.{SinkState, Grows, GrowsByFront}
use Rattle.secs_text.specs.BlockOutput.{AppendsBytes}
use Rattle.cli_output.specs.LineBuffer.{GrowsHolding}
use Rattle.cli_output.specs.InnerLineBuffer.{Sent, SentOctets}

-- A prefix of a text, and more of it.
pub take_after : (xs ys : List ℕ) (n : ℕ) → take (length xs + n) (xs ++ ys) ≡ xs ++ take n ys
take_after [] ys n = ap (λ k. take k ys) (omega arith)
take_after (x ∷ xs) ys n =
    let e : ◌≡◌ {A = ℕ} (suc (length xs) + n) (suc (length xs + n)) = omega arith in
    ap (λ k. take k (x ∷ (xs ++ ys))) e ∙ ap (λ l. x ∷ l) (take_after xs ys n)

-- ---- one more chunk is given

sent_more : (written new : Option (List ℕ)) (before : ℕ) (octets piece : List ℕ) → SentOctets false written before octets → Grows written new piece
    → SentOctets false new before (octets ++ piece)
sent_more written new before octets piece (enough, is) grows = (omega (arith, enough, length-append octets piece), grows octets is)

sent_stops : (written new : Option (List ℕ)) (before : ℕ) (octets piece : List ℕ) → SentOctets false written before octets → GrowsByFront written new piece
    → SentOctets true new before (octets ++ piece)
sent_stops written new before octets piece (enough, is) grows =
    let n = grows octets is in
    (length octets + n.0, omega (arith, enough), omega (arith, n.1, length-append octets piece), n.2 ∙ ap Some (sym (take_after octets piece n.0)))

sent_stays : (written : Option (List ℕ)) (before : ℕ) (octets piece : List ℕ) → SentOctets true written before octets → SentOctets true written before (octets ++ piece)
sent_stays written before octets piece (n, enough, fewer, is) =
    (n, enough, omega (arith, fewer, length-append octets piece), is ∙ ap Some (sym (take-append-le n octets piece (omega (arith, fewer)))))

pub gives_all : (name : ℕ) (old new : SinkState) (piece : List ℕ) → new.failures ≡ old.failures → Grows old.written new.written piece
    → (given : List ℕ) → Sent name false old given → Sent name false new (given ++ piece)
gives_all name old new piece counts grows given s = record {
  failures = s.failures;
  is_reported = s.is_reported;
  before = s.before;
  octets = s.octets ++ piece;
  parts = ap (λ l. l ++ piece) s.parts;
  counts = counts ∙ s.counts;
  written = λ known_input. sent_more old.written new.written s.before s.octets piece (s.written known_input) grows;
}

pub gives_front : (name : ℕ) (old new : SinkState) (piece : List ℕ) → new.failures ≡ next_count old.failures → GrowsByFront old.written new.written piece
    → (given : List ℕ) → Sent name false old given → Sent name true new (given ++ piece)
gives_front name old new piece counts grows given s = record {
  failures = s.failures;
  is_reported = s.is_reported;
  before = s.before;
  octets = s.octets ++ piece;
  parts = ap (λ l. l ++ piece) s.parts;
  counts = counts ∙ ap next_count s.counts;
  written = λ known_input. sent_stops old.written new.written s.before s.octets piece (s.written known_input) grows;
}

pub gives_none : (name : ℕ) (state : SinkState) (piece given : List ℕ) → Sent name true state given → Sent name true state (given ++ piece)
gives_none name state piece given s = record {
  failures = s.failures;
  is_reported = s.is_reported;
  before = s.before;
  octets = s.octets ++ piece;
  parts = ap (λ l. l ++ piece) s.parts;
  counts = s.counts;
  written = λ known_input. sent_stays state.written s.before s.octets piece (s.written known_input);
}

-- A chunk is given, and no write has failed.
pub gives : {T E : Type 0} (r : Result T E) (name : ℕ) (failed failed_now : Bool) (old new : SinkState) (piece : List ℕ) → failed ≡ false → failed_now ≡ is_err r
    → OnOk r (Grows old.written new.written piece) → OnErr r (GrowsByFront old.written new.written piece) → new.failures ≡ count_failure r old.failures
    → (given : List ℕ) → Sent name failed old given → Sent name failed_now new (given ++ piece)
gives (Ok x) name failed failed_now old new piece none is ok err counts given s =
    subst (λ b. Sent name b new (given ++ piece)) (sym is) (gives_all name old new piece counts ok given (subst (λ b. Sent name b old given) none s))
gives (Err x) name failed failed_now old new piece none is ok err counts given s =
    subst (λ b. Sent name b new (given ++ piece)) (sym is) (gives_front name old new piece counts err given (subst (λ b. Sent name b old given) none s))

-- ---- a line is appended

-- What it started with.
pub sent_first : (name : ℕ) (state : SinkState) (is_reported before : ℕ) (octets : List ℕ) → (is_reported ≡ 1 → SentOctets false state.written before octets)
    → Sent name false state (name ∷ state.failures ∷ is_reported ∷ before ∷ octets)
sent_first name state is_reported before octets written = record {
  failures = state.failures;
  is_reported = is_reported;
  before = before;
  octets = octets;
  parts = refl;
  counts = refl;
  written = written;
}

peel : (a b c d a2 b2 c2 d2 : ℕ) (xs ys : List ℕ) → a ∷ b ∷ c ∷ d ∷ xs ≡ a2 ∷ b2 ∷ c2 ∷ d2 ∷ ys → (a ≡ a2) × (b ≡ b2) × (c ≡ c2) × (d ≡ d2) × (xs ≡ ys)
peel a b c d a2 b2 c2 d2 xs ys e =
    (ap (λ l. get_or l 0 0) e, ap (λ l. get_or l 1 0) e, ap (λ l. get_or l 2 0) e, ap (λ l. get_or l 3 0) e, ap (λ l. drop 4 l) e)

-- What was given to an output, after what it started with.
abbrev End : ℕ → ℕ → Bool → SinkState → SinkState → List ℕ → List ℕ → ℕ → ℕ → List ℕ → Type 0
End name name_now has_failed old new now line is_reported before octets =
    (sent : List ℕ) × (name_now ≡ name) × (new.failures ≡ (if has_failed then next_count old.failures else old.failures))
    × (is_reported ≡ 1 → SentOctets has_failed new.written before sent) × (sent ++ now ≡ octets ++ line)

end_of : (name name_now : ℕ) (has_failed : Bool) (old new : SinkState) (held now line : List ℕ) (is_reported before : ℕ) (octets : List ℕ)
    → (is_reported ≡ 1 → SentOctets false old.written before octets) → AppendsBytes (Sent name false old) held (Sent name_now has_failed new) now line
    → End name name_now has_failed old new now line is_reported before (octets ++ held)
end_of name name_now has_failed old new held now line is_reported before octets written appends_bytes =
    let first : List ℕ = name ∷ old.failures ∷ is_reported ∷ before ∷ octets in
    let a = appends_bytes first (sent_first name old is_reported before octets written) in
    let s = a.1 in
    let p = peel name_now s.failures s.is_reported s.before name old.failures is_reported before (s.octets ++ now) (octets ++ held ++ line)
    (ap (λ l. l ++ now) (sym s.parts) ∙ a.2) in (
      s.octets,
      p.0,
      s.counts ∙ ap (λ k. if has_failed then next_count k else k) p.1,
      (λ known_input. subst (λ k. SentOctets has_failed new.written k s.octets) p.3 (s.written (p.2 ∙ known_input))),
      p.4,
    )

initial_state : (old : SinkState) → ◌≡◌ {A = ℕ} 0 1 → SentOctets false old.written 0 []
initial_state old is = absurd (omega (arith, is))

pub appended_name : (name name_now : ℕ) (has_failed : Bool) (old new : SinkState) (held now line : List ℕ) → AppendsBytes (Sent name false old) held (Sent name_now has_failed new) now line
    → name_now ≡ name
appended_name name name_now has_failed old new held now line appends_bytes =
    let e = end_of name name_now has_failed old new held now line 0 0 [] (initial_state old) appends_bytes in e.1

pub appended_counts : (name name_now : ℕ) (has_failed : Bool) (old new : SinkState) (held now line : List ℕ) → AppendsBytes (Sent name false old) held (Sent name_now has_failed new) now line
    → new.failures ≡ (if has_failed then next_count old.failures else old.failures)
appended_counts name name_now has_failed old new held now line appends_bytes =
    let e = end_of name name_now has_failed old new held now line 0 0 [] (initial_state old) appends_bytes in e.2

emitted_end : (name name_now : ℕ) (has_failed : Bool) (old new : SinkState) (held now line m : List ℕ) → old.written ≡ Some m → AppendsBytes (Sent name false old) held (Sent name_now has_failed new) now line
    → (sent : List ℕ) × SentOctets has_failed new.written (length m) sent × (sent ++ now ≡ m ++ (held ++ line))
emitted_end name name_now has_failed old new held now line m known_input appends_bytes =
    let at_first : ◌≡◌ {A = ℕ} 1 1 → SentOctets false old.written (length m) m = λ one. (omega arith, known_input) in
    let e = end_of name name_now has_failed old new held now line 1 (length m) m at_first appends_bytes in
    (e.0, e.3 refl, e.4 ∙ append_assoc m held line)

holds_unknown : (name name_now : ℕ) (old new : SinkState) (held now line : List ℕ) → old.written ≡ None → AppendsBytes (Sent name false old) held (Sent name_now false new) now line
    → GrowsHolding old.written held new.written now line
holds_unknown name name_now old new held now line none appends_bytes =
    let e = end_of name name_now false old new held now line 0 0 [] (initial_state old) appends_bytes in
    (e.0, e.4, (λ octets known_input. let no : ◌≡◌ {A = Option (List ℕ)} None (Some octets) = sym none ∙ known_input in cc))

holds_known : (name name_now : ℕ) (old new : SinkState) (held now line m : List ℕ) → old.written ≡ Some m → AppendsBytes (Sent name false old) held (Sent name_now false new) now line
    → GrowsHolding old.written held new.written now line
holds_known name name_now old new held now line m known_input appends_bytes =
    let e = emitted_end name name_now false old new held now line m known_input appends_bytes in
    let sent = e.0 in
    let enough : length m ≤ length sent = e.1.0 in
    let front : take (length m) sent ≡ m = sym (take-append-le (length m) sent now enough) ∙ ap (take (length m)) e.2 ∙ take_at m (held ++ line) (length m) refl in (
      drop (length m) sent,
      sym (drop-append-le (length m) sent now enough) ∙ ap (drop (length m)) e.2 ∙ drop_at m (held ++ line) (length m) refl,
      (λ octets is.
          let same : m ≡ octets = (let both : ◌≡◌ {A = Option (List ℕ)} (Some m) (Some octets) = sym known_input ∙ is in cc) in
          e.1.1 ∙ ap Some (sym (take-append-drop (length m) sent) ∙ ap (λ l. l ++ drop (length m) sent) (front ∙ same))),
    )

holds : (w : Option (List ℕ)) (name name_now : ℕ) (old new : SinkState) (held now line : List ℕ) → old.written ≡ w → AppendsBytes (Sent name false old) held (Sent name_now false new) now line
    → GrowsHolding old.written held new.written now line
holds None name name_now old new held now line is appends_bytes = holds_unknown name name_now old new held now line is appends_bytes
holds (Some m) name name_now old new held now line is appends_bytes = holds_known name name_now old new held now line m is appends_bytes

pub holds_line : (name name_now : ℕ) (old new : SinkState) (held now line : List ℕ) → AppendsBytes (Sent name false old) held (Sent name_now false new) now line
    → GrowsHolding old.written held new.written now line
holds_line name name_now old new held now line appends_bytes = holds old.written name name_now old new held now line refl appends_bytes

pub fails_within : (name name_now : ℕ) (old new : SinkState) (held now line : List ℕ) → AppendsBytes (Sent name false old) held (Sent name_now true new) now line
    → GrowsByFront old.written new.written (held ++ line)
fails_within name name_now old new held now line appends_bytes = λ m known_input.
    let e = emitted_end name name_now true old new held now line m known_input appends_bytes in
    let sent = e.0 in
    let n = e.1.0 in
    let k = n - length m in
    let size : length sent + length now ≡ length m + length (held ++ line) = sym (length-append sent now) ∙ ap length e.2 ∙ length-append m (held ++ line) in
    let sum : n ≡ length m + k = omega (arith, e.1.1) in (
      k,
      omega (arith, size, e.1.1, e.1.2),
      e.1.3 ∙ ap Some (sym (take-append-le n sent now (omega (arith, e.1.2))) ∙ ap (take n) e.2 ∙ ap (λ j. take j (m ++ (held ++ line))) sum ∙ take_after m (held ++ line) k),
    )

-- By what is known of the two failures.
pub appended_as : (name name_now : ℕ) (was is_now : Bool) (old new : SinkState) (held now line : List ℕ) {after : Bool} → was ≡ false → is_now ≡ after
    → AppendsBytes (Sent name was old) held (Sent name_now is_now new) now line → AppendsBytes (Sent name false old) held (Sent name_now after new) now line
appended_as name name_now was is_now old new held now line {after} none is appends_bytes =
    subst (λ b. AppendsBytes (Sent name false old) held (Sent name_now b new) now line) is
    (subst (λ b. AppendsBytes (Sent name b old) held (Sent name_now is_now new) now line) none appends_bytes)
