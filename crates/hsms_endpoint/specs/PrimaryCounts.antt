-- The number of messages of each stream and function that were passed to a handler (project-specific). They are
-- listed by name, in the order of the first message of each.
use Rattle.std.specs.Prelude.{ℕ, ◌+◌, ◌*◌, List, unwrap_or, nat_eq}
use Rattle.std.specs.Map.{lookup}
use Rattle.indexmap.specs.IndexMap.{insert_entry}
use Rattle.hsms_frame.specs.declared.header.Header.{Header}
use Rattle.hsms_frame.specs.Header.{stream_of, function_of}
use Rattle.hsms_frame.specs.CallCounts.{next_count}

-- A stream and a function as one number.
abbrev pub name_of : ℕ → ℕ → ℕ
name_of stream function = stream * 256 + function

abbrev pub name_in : Header → ℕ
name_in header = name_of (stream_of header) (function_of header)

-- The number of messages of this name.
abbrev pub times : ℕ → List (ℕ × ℕ) → ℕ
times name asked = unwrap_or (lookup (nat_eq name) asked) 0

-- The counts after one more message of this name.
abbrev pub once_more : ℕ → List (ℕ × ℕ) → List (ℕ × ℕ)
once_more name asked = insert_entry nat_eq asked name (next_count (times name asked))
