-- The values of an item and their bytes, in order.
use Rattle.std.proofs.Common.{◌≡◌, ℕ, zero, suc, ◌+◌, ◌*◌, ◌/◌, ◌%◌, ◌<◌, ◌≤◌, false, List, [], ◌∷◌, ◌++◌, ◌-◌, length, take, drop, get_or, refl, sym, ap, ◌∙◌, arith, add-zero, append_assoc, append-nil}
use Rattle.std.proofs.lemmas.List.{nil_from_length, length-take, length-drop, length-append, take_at, drop_at, take-append-drop, take_more}
use Rattle.std.proofs.lemmas.Nat.{div-mul-add, mod-mul-add, div-add-mod'}
use Rattle.std.specs.List.{flat_map, AllByRecursion}
use Rattle.std.proofs.lemmas.List.Concat.{flat_map-cons, flat_map-append}
use Rattle.secs_item.specs.ShortestEncoding.{octet_alone}
use Rattle.std.specs.Int.{w8, w16, w32, w64}
use Rattle.byteorder.specs.Endian.{big_number}
use Rattle.secs_item.specs.declared.format.Format.{Format}
use Rattle.secs_item.specs.declared.format.Format.TheVariants as format
use Rattle.secs_item.specs.Format.{is_list, value_size}
use Rattle.secs_item.specs.Item.{Values, binary, boolean, ascii, jis8, char2, i8, i1, i2, i4, f8, f4, u8, u1, u2, u4, format_of_values}
use Rattle.secs_item.specs.Encoding.{IsOctets, InOrder, Octet, Truth, Signed, Unsigned, Unread, Body}
use Rattle.secs_item.specs.Decoding.{pieces, each, octet, truth, signed, unread, values_of}
use Rattle.secs_item.proofs.Octets.{IsOctets-nil, IsOctets-append, IsOctets-take, IsOctets-drop}
use Rattle.secs_item.proofs.Codecs.{IsCodec, octets_codec, truth_codec, signed_codec, unsigned_codec, unread_codec}

module _ {X : Type 0} (One : X → List ℕ → Type 0) (size : ℕ) (read : List ℕ → X) (codec : IsCodec One size read) where
  pub in_order_length : (xs : List X) (octets : List ℕ) → InOrder One xs octets → length octets ≡ length xs * size
  in_order_length [] octets h = rw h (omega arith)
  in_order_length (x ∷ xs) octets h =
      omega (arith, ap length h.4, length-append h.0 h.1, codec.length_is x h.0 h.2, in_order_length xs h.1 h.3)

  in_order_octets : (xs : List X) (octets : List ℕ) → InOrder One xs octets → IsOctets octets
  in_order_octets [] octets h = rw h IsOctets-nil
  in_order_octets (x ∷ xs) octets h = rw h.4 (IsOctets-append h.0 h.1 (codec.octets_are x h.0 h.2) (in_order_octets xs h.1 h.3))

  in_order_read : (xs : List X) (octets : List ℕ) → InOrder One xs octets → pieces read size (length xs) octets ≡ xs
  in_order_read [] octets h = refl
  in_order_read (x ∷ xs) octets h =
      let len = codec.length_is x h.0 h.2 in
      rw (h.4, take_at h.0 h.1 size len, drop_at h.0 h.1 size len, codec.read_is x h.0 h.2, in_order_read xs h.1 h.3) refl

  in_order_encoded : (n : ℕ) (octets : List ℕ) → length octets ≡ n * size → IsOctets octets → InOrder One (pieces read size n octets) octets
  in_order_encoded zero octets len h = nil_from_length octets (omega (arith, len))
  in_order_encoded (suc n) octets len h =
      let first : length (take size octets) ≡ size = omega (arith, length-take size octets, len) in
      let rest : length (drop size octets) ≡ n * size = omega (arith, length-drop size octets, len) in
      (take size octets, drop size octets, codec.encoded_bytes (take size octets) first (IsOctets-take size octets h), in_order_encoded n (drop size octets) rest (IsOctets-drop size octets h), sym (take-append-drop size octets))

  -- The values that `each` reads encode to these bytes, and no other values do.
  pub each_encoded : 0 < size → (octets : List ℕ) → length octets % size ≡ 0 → IsOctets octets → InOrder One (each read size octets) octets
  each_encoded some octets whole h =
      in_order_encoded (length octets / size) octets (omega (arith, div-add-mod' (length octets) size, whole)) h

  pub each_read : 0 < size → (xs : List X) (octets : List ℕ) → InOrder One xs octets → each read size octets ≡ xs
  each_read some xs octets h =
      let count : length octets / size ≡ length xs = ap (λ (n : ℕ). n / size) (in_order_length xs octets h ∙ sym (add-zero (length xs * size))) ∙ div-mul-add (length xs) size 0 some in
      rw count (in_order_read xs octets h)

  pub each_whole : 0 < size → (xs : List X) (octets : List ℕ) → InOrder One xs octets → length octets % size ≡ 0
  each_whole some xs octets h = ap (λ (n : ℕ). n % size) (in_order_length xs octets h ∙ sym (add-zero (length xs * size))) ∙ mod-mul-add (length xs) size 0 some

  pub each_octets : (xs : List X) (octets : List ℕ) → InOrder One xs octets → IsOctets octets
  each_octets = in_order_octets

-- ---- values that are plain bytes

one_octet : (octets : List ℕ) → pieces octet 1 (length octets) octets ≡ octets
one_octet [] = refl
one_octet (x ∷ octets) = ap (λ (xs : List ℕ). x ∷ xs) (one_octet octets)

pub each_octet : (octets : List ℕ) → each octet 1 octets ≡ octets
each_octet octets = let n : length octets / 1 ≡ length octets = omega arith in rw n (one_octet octets)

pub flat_octets : (octets : List ℕ) → flat_map octet_alone octets ≡ octets
flat_octets [] = refl
flat_octets (x ∷ octets) = flat_map-cons octet_alone x octets ∙ ap (λ (xs : List ℕ). x ∷ xs) (flat_octets octets)

-- ---- by format

pub record IsBody (v : Values) (octets : List ℕ) : Type 0 where
  pub whole : length octets % value_size (format_of_values v) ≡ 0
  pub octets_are : IsOctets octets
  pub read_is : values_of (format_of_values v) octets ≡ v

body_by : {X : Type 0} (One : X → List ℕ → Type 0) (size : ℕ) (read : List ℕ → X) (make : List X → Values) → IsCodec One size read → 0 < size
    → (xs : List X) (octets : List ℕ) → InOrder One xs octets → (length octets % size ≡ 0) × IsOctets octets × (make (each read size octets) ≡ make xs)
body_by One size read make codec some xs octets h =
    (each_whole One size read codec some xs octets h, each_octets One size read codec xs octets h, ap make (each_read One size read codec some xs octets h))

-- The bytes of values determine the values.
pub body_reads : (v : Values) (octets : List ℕ) → Body v octets → IsBody v octets
body_reads v octets h =
    let p = by_format v octets h in record { whole = p.0; octets_are = p.1; read_is = p.2 }
  where
    by_format : (v : Values) (octets : List ℕ) → Body v octets → (length octets % value_size (format_of_values v) ≡ 0) × IsOctets octets × (values_of (format_of_values v) octets ≡ v)
    by_format (binary xs) octets h = body_by Octet 1 octet binary octets_codec (omega arith) xs octets h
    by_format (boolean xs) octets h = body_by Truth 1 truth boolean truth_codec (omega arith) xs octets h
    by_format (ascii xs) octets h = body_by Octet 1 octet ascii octets_codec (omega arith) xs octets h
    by_format (jis8 xs) octets h = body_by Octet 1 octet jis8 octets_codec (omega arith) xs octets h
    by_format (char2 xs) octets h = body_by Octet 1 octet char2 octets_codec (omega arith) xs octets h
    by_format (i8 xs) octets h = body_by (Signed w64) 8 (signed w64) i8 (signed_codec w64 refl) (omega arith) xs octets h
    by_format (i1 xs) octets h = body_by (Signed w8) 1 (signed w8) i1 (signed_codec w8 refl) (omega arith) xs octets h
    by_format (i2 xs) octets h = body_by (Signed w16) 2 (signed w16) i2 (signed_codec w16 refl) (omega arith) xs octets h
    by_format (i4 xs) octets h = body_by (Signed w32) 4 (signed w32) i4 (signed_codec w32 refl) (omega arith) xs octets h
    by_format (f8 xs) octets h = body_by (Unread 8) 8 unread f8 (unread_codec 8) (omega arith) xs octets h
    by_format (f4 xs) octets h = body_by (Unread 4) 4 unread f4 (unread_codec 4) (omega arith) xs octets h
    by_format (u8 xs) octets h = body_by (Unsigned 8) 8 (big_number 8) u8 (unsigned_codec 8) (omega arith) xs octets h
    by_format (u1 xs) octets h = body_by Octet 1 octet u1 octets_codec (omega arith) xs octets h
    by_format (u2 xs) octets h = body_by (Unsigned 2) 2 (big_number 2) u2 (unsigned_codec 2) (omega arith) xs octets h
    by_format (u4 xs) octets h = body_by (Unsigned 4) 4 (big_number 4) u4 (unsigned_codec 4) (omega arith) xs octets h

-- Bytes of complete values encode the values that are read from them.
pub body_encoded : (f : Format) (octets : List ℕ) → is_list f ≡ false → length octets % value_size f ≡ 0 → IsOctets octets → Body (values_of f octets) octets × (format_of_values (values_of f octets) ≡ f)
body_encoded format.List octets lists whole h = absurd cc
body_encoded format.Binary octets lists whole h = (each_encoded Octet 1 octet octets_codec (omega arith) octets whole h, refl)
body_encoded format.Boolean octets lists whole h = (each_encoded Truth 1 truth truth_codec (omega arith) octets whole h, refl)
body_encoded format.Ascii octets lists whole h = (each_encoded Octet 1 octet octets_codec (omega arith) octets whole h, refl)
body_encoded format.Jis8 octets lists whole h = (each_encoded Octet 1 octet octets_codec (omega arith) octets whole h, refl)
body_encoded format.Char2 octets lists whole h = (each_encoded Octet 1 octet octets_codec (omega arith) octets whole h, refl)
body_encoded format.I8 octets lists whole h = (each_encoded (Signed w64) 8 (signed w64) (signed_codec w64 refl) (omega arith) octets whole h, refl)
body_encoded format.I1 octets lists whole h = (each_encoded (Signed w8) 1 (signed w8) (signed_codec w8 refl) (omega arith) octets whole h, refl)
body_encoded format.I2 octets lists whole h = (each_encoded (Signed w16) 2 (signed w16) (signed_codec w16 refl) (omega arith) octets whole h, refl)
body_encoded format.I4 octets lists whole h = (each_encoded (Signed w32) 4 (signed w32) (signed_codec w32 refl) (omega arith) octets whole h, refl)
body_encoded format.F8 octets lists whole h = (each_encoded (Unread 8) 8 unread (unread_codec 8) (omega arith) octets whole h, refl)
body_encoded format.F4 octets lists whole h = (each_encoded (Unread 4) 4 unread (unread_codec 4) (omega arith) octets whole h, refl)
body_encoded format.U8 octets lists whole h = (each_encoded (Unsigned 8) 8 (big_number 8) (unsigned_codec 8) (omega arith) octets whole h, refl)
body_encoded format.U1 octets lists whole h = (each_encoded Octet 1 octet octets_codec (omega arith) octets whole h, refl)
body_encoded format.U2 octets lists whole h = (each_encoded (Unsigned 2) 2 (big_number 2) (unsigned_codec 2) (omega arith) octets whole h, refl)
body_encoded format.U4 octets lists whole h = (each_encoded (Unsigned 4) 4 (big_number 4) (unsigned_codec 4) (omega arith) octets whole h, refl)

-- One more value of a body is read.
pub pieces_go_on : {X : Type 0} (one : List ℕ → X) (size count i : ℕ) (read : List X) (rest first after : List ℕ) (x : X) (total : List X) → i < count → first ≡ take size rest → after ≡ drop size rest → x ≡ one first
    → read ++ pieces one size (count - i) rest ≡ total → (read ++ x ∷ []) ++ pieces one size (count - (i + 1)) after ≡ total
pieces_go_on one size count i read rest first after x total left first_is after_is x_is so_far =
    let k : count - i ≡ suc (count - (i + 1)) = omega arith in
    let x_at : x ≡ one (take size rest) = x_is ∙ ap one first_is in
    let next : pieces one size (count - i) rest ≡ x ∷ pieces one size (count - (i + 1)) after = rw (k, x_at, after_is) refl in
    append_assoc read (x ∷ []) (pieces one size (count - (i + 1)) after) ∙ ap (λ (ys : List _). read ++ ys) (sym next) ∙ so_far

-- At the start, all chunks remain.
pub pieces_to_read : {X : Type 0} (one : List ℕ → X) (size by : ℕ) (read : List X) (octets : List ℕ) → by ≡ size → read ≡ [] → read ++ pieces one size (length octets / by - 0) octets ≡ each one size octets
pieces_to_read one size by read octets is none =
    let all : length octets / by - 0 ≡ length octets / by = omega arith in
    rw (all, is, none) refl

pub all_left : (size by len : ℕ) → by ≡ size → 0 < size → len % size ≡ 0 → len ≡ (len / by - 0) * size
all_left size by len is some whole =
    let all : len / by - 0 ≡ len / by = omega arith in
    rw (all, is) (omega (arith, whole))

-- At the end, no chunk remains.
pub pieces_done : {X : Type 0} (one : List ℕ → X) (size count i : ℕ) (read : List X) (rest : List ℕ) (total : List X) → count ≤ i → read ++ pieces one size (count - i) rest ≡ total → read ≡ total
pieces_done one size count i read rest total le so_far =
    let none : count - i ≡ 0 = omega arith in
    sym (append-nil read) ∙ rw none at so_far

-- At least one chunk remains.
pub piece_there : (size count i left : ℕ) → i < count → left ≡ (count - i) * size → size ≤ left
piece_there size count i left lt is =
    let k : count - i ≡ suc (count - (i + 1)) = omega arith in
    step (count - (i + 1)) (is ∙ ap (λ (n : ℕ). n * size) k)
  where
    step : (k : ℕ) → left ≡ suc k * size → size ≤ left
    step k g = omega (arith, g)

-- The bytes that remain after one chunk.
pub remains_after : (size count i before after : ℕ) → i < count → before ≡ (count - i) * size → after + size ≡ before → after ≡ (count - (i + 1)) * size
remains_after size count i before after left is e =
    let k : count - i ≡ suc (count - (i + 1)) = omega arith in
    let grown : before ≡ suc (count - (i + 1)) * size = is ∙ ap (λ (n : ℕ). n * size) k in
    step (count - (i + 1)) grown
  where
    step : (k : ℕ) → before ≡ suc k * size → after ≡ k * size
    step k g = omega (arith, g, e)

-- One more value is appended.
pub next_pushed : {X : Type 0} (f : X → List ℕ) (xs : List X) (i : ℕ) (x : X) (before now new : List ℕ) → i < length xs → x ≡ get_or xs i x → now ≡ before ++ flat_map f (take i xs) → new ≡ now ++ f x → new ≡ before ++ flat_map f (take (i + 1) xs)
next_pushed f xs i x before now new lt is so_far pushed =
    let more : flat_map f (take (i + 1) xs) ≡ flat_map f (take i xs) ++ f x =
    ap (flat_map f) (take_more xs i x lt ∙ ap (λ y. take i xs ++ y ∷ []) (sym is)) ∙ flat_map-append f (take i xs) (x ∷ []) ∙ ap (λ ys. flat_map f (take i xs) ++ ys) (append-nil (f x)) in
    pushed ∙ ap (λ ys. ys ++ f x) so_far ∙ append_assoc before (flat_map f (take i xs)) (f x) ∙ ap (λ ys. before ++ ys) (sym more)

all_and : {X : Type 0} (P : X → Type 0) (xs : List X) (x : X) → AllByRecursion P xs → P x → AllByRecursion P (xs ++ x ∷ [])
all_and P [] x all here = (here, tt)
all_and P (y ∷ ys) x all here = (all.0, all_and P ys x all.1 here)

pub next_in_range : {X : Type 0} (P : X → Type 0) (xs : List X) (i : ℕ) (x : X) → i < length xs → x ≡ get_or xs i x → AllByRecursion P (take i xs) → P x → AllByRecursion P (take (i + 1) xs)
next_in_range P xs i x lt is all here = rw (take_more xs i x lt, ← is) (all_and P (take i xs) x all here)
