-- The results of entries, in consecutive sequences of calls.
use Rattle.std.proofs.Common.{◌≡◌, ◌+◌, ◌++◌, ◌^◌, ◌-◌, min, ℕ, List, [], ◌∷◌, length, Ok, Err, refl, sym, ap, ◌∙◌, subst, arith, length-append}
use Rattle.std.specs.Prelude.{Result}
use Rattle.std.proofs.lemmas.List.{append-nil}
use Rattle.std.proofs.lemmas.List.Elements.{All-append, All-nil}
use Rattle.hsms_frame.specs.Io.{SinkState, Stays}
use Rattle.hsms_machine.specs.declared.entry.Entry.{Entry}
use Rattle.hsms_log.specs.LineFormat.{IsEntry}
use Rattle.hsms_ends.specs.declared.output.Stop.{Stop}
use Rattle.hsms_ends.specs.declared.output.Stop.TheVariants.{Memory}
use Rattle.hsms_ends.specs.Link.{LinkState, LinkInput, ProcessesInput, Asks, both, processed_nothing, processed_time}
use Rattle.hsms_ends.specs.Output.{IsEnding}
use Rattle.hsms_ends.specs.InnerServeSteps.{Counts, Yields}
use Rattle.hsms_ends.proofs.OutputSteps.{puts_then, puts_processed, puts_nothing, puts_memory, asked_then}

-- A suffix of the empty list is empty, so it is a suffix of any list.
pub ending_none : (entries rest : List Entry) → IsEnding rest [] → IsEnding rest entries
ending_none entries [] h = (entries, sym (append-nil entries))
ending_none entries (entry ∷ rest) h = absurd (let e : 0 ≡ length h.0 + length (entry ∷ rest) = ap length h.1 ∙ length-append h.0 (entry ∷ rest) in omega (arith, e))

pub counts_then : (a b c j k : ℕ) → Counts a b j → Counts b c k → Counts a c (j + k)
counts_then a b c j k h g below =
    let first : b ≡ min (a + j) (2 ^ 64 - 1) = h below in
    let second : c ≡ min (b + k) (2 ^ 64 - 1) = g (omega (arith, first)) in
    omega (arith, first, second)

pub counts_none : (a : ℕ) → Counts a a 0
counts_none a below = omega arith

counts_both : (a b c : ℕ) (xs ys : List Entry) → Counts a b (length xs) → Counts b c (length ys) → Counts a c (length (xs ++ ys))
counts_both a b c xs ys h k =
    let P : ℕ → Type 0 = λ n. Counts a c n in
    subst P (sym (length-append xs ys)) (counts_then a b c (length xs) (length ys) h k)

pub yields_then : (r : Result (Unit {0}) Stop) (log mid log' : SinkState) (link between link' : LinkState) (n m n' : ℕ) (a b early last : List Entry) (h k : LinkInput)
    → Yields (Ok tt) log mid link between n m a early h → Yields r mid log' between link' m n' b last k → Yields r log log' link link' n n' (a ++ b) last (both h k)
unfolding puts_then
yields_then r log mid log' link between link' n m n' a b early last h k first second = record {
  puts = puts_then r log mid log' link between link' a b h k first.puts second.puts;
  ends = second.ends;
  counted = counts_both n m n' a b first.counted second.counted;
  in_range = All-append IsEntry a b first.in_range second.in_range;
}

pub yields_along : (r : Result (Unit {0}) Stop) (log log' : SinkState) (link link' : LinkState) (n n' : ℕ) (a b last : List Entry) (h : LinkInput) → a ≡ b
    → Yields r log log' link link' n n' a last h → Yields r log log' link link' n n' b last h
yields_along r log log' link link' n n' a b last h e yields = let P : List Entry → Type 0 = λ l. Yields r log log' link link' n n' l last h in subst P e yields

-- All entries are those of one call.
pub yields_as : (r : Result (Unit {0}) Stop) (log log' : SinkState) (link link' : LinkState) (n n' : ℕ) (a b : List Entry) (h : LinkInput) → a ≡ b → Yields r log log' link link' n n' a a h → Yields r log log' link link' n n' b b h
yields_as r log log' link link' n n' a b h e yields = let P : List Entry → Type 0 = λ l. Yields r log log' link link' n n' l l h in subst P e yields

-- The last call is another one.
pub yields_last : (r : Result (Unit {0}) Stop) (log log' : SinkState) (link link' : LinkState) (n n' : ℕ) (a last other : List Entry) (h : LinkInput)
    → ((rest : List Entry) → IsEnding rest last → IsEnding rest other) → Yields r log log' link link' n n' a last h → Yields r log log' link link' n n' a other h
yields_last r log log' link link' n n' a last other h move yields =
    record { puts = yields.puts; ends = move yields.puts.rest yields.ends; counted = yields.counted; in_range = yields.in_range }

-- No entry remains, so any call may be the last one.
pub yields_whole : (log log' : SinkState) (link link' : LinkState) (n n' : ℕ) (a last other : List Entry) (h : LinkInput) → Yields (Ok tt) log log' link link' n n' a last h → Yields (Ok tt) log log' link link' n n' a other h
yields_whole log log' link link' n n' a last other h yields = record {
  puts = yields.puts;
  ends = (other, sym (ap (λ l. other ++ l) yields.puts.logged.0 ∙ append-nil other));
  counted = yields.counted;
  in_range = yields.in_range;
}

-- The last call returned nothing, so the call before may replace it.
pub yields_before : (r : Result (Unit {0}) Stop) (log log' : SinkState) (link link' : LinkState) (n n' : ℕ) (a before : List Entry) (h : LinkInput) → Yields r log log' link link' n n' a [] h → Yields r log log' link link' n n' a before h
yields_before r log log' link link' n n' a before h yields = yields_last r log log' link link' n n' a [] before h (ending_none before) yields

-- An allocation failed before any entry was returned.
pub yields_left : (log log' : SinkState) (link link' : LinkState) (n n' : ℕ) (a : List Entry) (h : LinkInput) → a ≡ [] → Yields (Err Memory) log log' link link' n n' a a h → Yields (Err Memory) log log' link link' n n' [] [] h
yields_left log log' link link' n n' a h none yields = yields_as (Err Memory) log log' link link' n n' a [] h none yields

-- The link gave input, and nothing was written.
pub yields_processed : (log : SinkState) (link link' : LinkState) (n : ℕ) (h : LinkInput) → ProcessesInput link link' h → Stays link.taken link'.taken → link'.failures ≡ link.failures
    → Yields (Ok tt) log log link link' n n [] [] h
unfolding puts_processed
yields_processed log link link' n h reception stays same = record { puts = puts_processed log link link' h reception stays same; ends = ([], refl); counted = counts_none n; in_range = All-nil IsEntry }

pub yields_nothing : (log : SinkState) (link : LinkState) (n : ℕ) → Yields (Ok tt) log log link link n n [] [] processed_nothing
unfolding puts_nothing
yields_nothing log link n = record { puts = puts_nothing log link; ends = ([], refl); counted = counts_none n; in_range = All-nil IsEntry }

-- An allocation failed.
pub yields_memory : (log log' : SinkState) (link link' : LinkState) (n n' : ℕ) (a last : List Entry) (h : LinkInput) → Yields (Ok tt) log log' link link' n n' a last h → Yields (Err Memory) log log' link link' n n' a last h
unfolding puts_memory
yields_memory log log' link link' n n' a last h yields =
    record { puts = puts_memory log log' link link' a h yields.puts; ends = yields.ends; counted = yields.counted; in_range = yields.in_range }

-- The clock was read, and then entries were written.
pub yields_asked : (r : Result (Unit {0}) Stop) (log log' : SinkState) (link mid link' : LinkState) (n n' now : ℕ) (a last : List Entry) → Asks link mid now
    → Yields r log log' mid link' n n' a last processed_nothing → Yields r log log' link link' n n' a last (processed_time now)
unfolding asked_then puts_then
yields_asked r log log' link mid link' n n' now a last asks yields =
    record { puts = asked_then r log log' link mid link' now a asks yields.puts; ends = yields.ends; counted = yields.counted; in_range = yields.in_range }
