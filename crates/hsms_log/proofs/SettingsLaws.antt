-- The settings line, read and written.
use Rattle.std.proofs.Common.{◌≡◌, ◌<◌, ◌≤◌, ◌^◌, ◌++◌, ℕ, List, ◌∷◌, length, take, drop, true, false, Some, None, refl, sym, ap, ◌∙◌, subst, arith, length-append, take-append-drop}
use Rattle.std.proofs.Common.{inl, inr}
use Rattle.std.specs.Prelude.{if◌then◌else◌, Option, decimal, codes, IsSome, IfSome, IfNone, ◌↔◌}
use Rattle.std.specs.Str.{bytes_eq}
use Rattle.std.proofs.lemmas.Slice.Eq.{bytes_eq-Decides}
use Rattle.std.proofs.lemmas.Option.{cond_some}
use Rattle.std.proofs.lemmas.Bool.{cases_Bool}
use Rattle.std.proofs.lemmas.Fmt.{length-decimal-le}
use Rattle.hsms_machine.specs.declared.settings.Role.{Role}
use Rattle.hsms_machine.specs.declared.settings.Role.TheVariants.{Host, Equipment}
use Rattle.hsms_machine.specs.declared.settings.Side.{Side}
use Rattle.hsms_machine.specs.declared.settings.Side.TheVariants.{Active, Passive}
use Rattle.hsms_machine.specs.Settings.{Parameters, IsWithinLimits}
use Rattle.hsms_log.specs.LineFormat.{settings_line, role_word, link_word, EncodesSettings}
use Rattle.hsms_log.specs.InnerReading.{settings_at, version_at, end_at, times_at, limits_of, u32_at, number_at, number_of, word_at, role_of, link_of, after, below}
use Rattle.hsms_log.proofs.LineBindings.{bind_step, some_inj, below_fits, below_some}
use Rattle.hsms_log.proofs.Numbers.{number_at-encoded_bytes, number_at-some, number_of-decimal, number_of-some, word_at-some}

-- ---- words

word_at-role : (r : Role) (rest : List ℕ) → word_at (role_word r ++ 32 ∷ rest) ≡ Some (role_word r, rest)
word_at-role Host rest = refl
word_at-role Equipment rest = refl

word_at-link : (l : Side) (rest : List ℕ) → word_at (link_word l ++ 32 ∷ rest) ≡ Some (link_word l, rest)
word_at-link Active rest = refl
word_at-link Passive rest = refl

role_of-word : (r : Role) → role_of (role_word r) ≡ Some r
unfolding role_of
role_of-word Host = refl
role_of-word Equipment = refl

link_of-word : (l : Side) → link_of (link_word l) ≡ Some l
unfolding link_of
link_of-word Active = refl
link_of-word Passive = refl

-- A choice between two words.
two_words : {A : Type 0} (word one two : List ℕ) (x y z : A) (f : A → List ℕ) → f x ≡ one → f y ≡ two
    → (if bytes_eq word one then Some x else (if bytes_eq word two then Some y else None)) ≡ Some z → word ≡ f z
two_words word one two x y z f p q h =
    elim (cases_Bool (bytes_eq word one)) [
      | inl first ↦
          let e : Some x ≡ Some z = rw first at h in
          (bytes_eq-Decides word one).0 first ∙ sym p ∙ ap f (some_inj x z e)
      | inr other ↦
          let rest : (if bytes_eq word two then Some y else None) ≡ Some z = rw other at h in
          let parts = cond_some (bytes_eq word two) y z rest in
          (bytes_eq-Decides word two).0 parts.0 ∙ sym q ∙ ap f parts.1
    ]

role_of-some : (word : List ℕ) (r : Role) → role_of word ≡ Some r → word ≡ role_word r
unfolding role_of
role_of-some word r h = two_words word (codes "host") (codes "equipment") Host Equipment r role_word refl refl h

link_of-some : (word : List ℕ) (l : Side) → link_of word ≡ Some l → word ≡ link_word l
unfolding link_of
link_of-some word l h = two_words word (codes "active") (codes "passive") Active Passive l link_word refl refl h

after-some : (prefix text rest : List ℕ) → after prefix text ≡ Some rest → text ≡ prefix ++ rest
unfolding after
after-some prefix text rest h =
    let parts = cond_some (bytes_eq (take (length prefix) text) prefix) (drop (length prefix) text) rest h in
    let front = (bytes_eq-Decides (take (length prefix) text) prefix).0 parts.0 in
    sym (take-append-drop (length prefix) text) ∙ ap (λ x. x ++ drop (length prefix) text) front ∙ ap (λ x. prefix ++ x) parts.1

-- ---- written, then read

version_at-encoded_bytes : (n : ℕ) (rest : List ℕ) → n < 2 ^ 8 → version_at (codes "hsms-log " ++ (decimal n ++ 32 ∷ rest)) ≡ Some (n, rest)
unfolding version_at after
version_at-encoded_bytes n rest h = rw (number_at-encoded_bytes n rest (omega arith), below_fits (2 ^ 8) n h) refl

u32_at-encoded_bytes : (n : ℕ) (rest : List ℕ) → n < 2 ^ 32 → u32_at (decimal n ++ 32 ∷ rest) ≡ Some (n, rest)
unfolding u32_at
u32_at-encoded_bytes n rest h = rw (number_at-encoded_bytes n rest (omega arith), below_fits (2 ^ 32) n h) refl

times_at-encoded_bytes : (a b c d : ℕ) (rest : List ℕ) → a < 2 ^ 32 → b < 2 ^ 32 → c < 2 ^ 32 → d < 2 ^ 32
    → times_at (decimal a ++ 32 ∷ (decimal b ++ 32 ∷ (decimal c ++ 32 ∷ (decimal d ++ 32 ∷ rest)))) ≡ Some (a, b, c, d, rest)
unfolding times_at
times_at-encoded_bytes a b c d rest ha hb hc hd =
    rw (
      u32_at-encoded_bytes a (decimal b ++ 32 ∷ (decimal c ++ 32 ∷ (decimal d ++ 32 ∷ rest))) ha,
      u32_at-encoded_bytes b (decimal c ++ 32 ∷ (decimal d ++ 32 ∷ rest)) hb,
      u32_at-encoded_bytes c (decimal d ++ 32 ∷ rest) hc,
      u32_at-encoded_bytes d rest hd,
    ) refl

end_at-encoded_bytes : (r : Role) (l : Side) (n : ℕ) (rest : List ℕ) → n < 2 ^ 16
    → end_at (role_word r ++ 32 ∷ (link_word l ++ 32 ∷ (decimal n ++ 32 ∷ rest))) ≡ Some (r, l, n, rest)
unfolding end_at
end_at-encoded_bytes r l n rest h =
    rw (
      word_at-role r _,
      role_of-word r,
      word_at-link l _,
      link_of-word l,
      number_at-encoded_bytes n rest (omega arith),
      below_fits (2 ^ 16) n h,
    ) refl

limits_of-encoded_bytes : (max depth : ℕ) → max < 2 ^ 32 → depth < 2 ^ 8 → limits_of (decimal max ++ 32 ∷ decimal depth) ≡ Some (max, depth)
unfolding limits_of
limits_of-encoded_bytes max depth hm hd =
    rw (u32_at-encoded_bytes max (decimal depth) hm, number_of-decimal depth (omega arith), below_fits (2 ^ 8) depth hd) refl

settings_at-line : (s : Parameters) → IsWithinLimits s → settings_at (settings_line s) ≡ Some s
unfolding settings_at settings_line
settings_at-line s w =
    rw (
      version_at-encoded_bytes s.version _ (omega arith),
      end_at-encoded_bytes s.role s.link s.device _ (omega arith),
      times_at-encoded_bytes s.t3 s.t6 s.t7 s.t8 _ (omega arith) (omega arith) (omega arith) (omega arith),
      limits_of-encoded_bytes s.max s.depth (omega arith) (omega arith),
    ) refl

-- ---- read, so encoded

numbers_front : (bound : ℕ) (text : List ℕ) (m n : ℕ) (rest : List ℕ) → number_at text ≡ Some (m, rest) → below bound m ≡ Some n
    → text ≡ decimal n ++ 32 ∷ rest
numbers_front bound text m n rest a b =
    (number_at-some text m rest a).1 ∙ ap (λ k. decimal k ++ 32 ∷ rest) (below_some bound m n b).1

version_at-some : (line : List ℕ) (x : ℕ × List ℕ) → version_at line ≡ Some x → line ≡ codes "hsms-log " ++ (decimal x.0 ++ 32 ∷ x.1)
unfolding version_at
version_at-some line x h =
    bind_step (after (codes "hsms-log ") line) _ x h (λ rest rest_is h.
    bind_step (number_at rest) _ x h (λ v v_is h.
    bind_step (below (2 ^ 8) v.0) _ x h (λ version version_is h.
    let same = some_inj {A = ℕ × List ℕ} (version, v.1) x h in
    let P : ℕ × List ℕ → Type 0 = λ y. line ≡ codes "hsms-log " ++ (decimal y.0 ++ 32 ∷ y.1) in
    subst P same
    (after-some (codes "hsms-log ") line rest rest_is
    ∙ ap (λ t. codes "hsms-log " ++ t) (numbers_front (2 ^ 8) rest v.0 version v.1 v_is version_is)))))

u32_at-some : (text : List ℕ) (x : ℕ × List ℕ) → u32_at text ≡ Some x → text ≡ decimal x.0 ++ 32 ∷ x.1
unfolding u32_at
u32_at-some text x h =
    bind_step (number_at text) _ x h (λ n n_is h.
    bind_step (below (2 ^ 32) n.0) _ x h (λ number number_is h.
    let P : ℕ × List ℕ → Type 0 = λ y. text ≡ decimal y.0 ++ 32 ∷ y.1 in
    subst P (some_inj {A = ℕ × List ℕ} (number, n.1) x h) (numbers_front (2 ^ 32) text n.0 number n.1 n_is number_is)))

times_at-some : (text : List ℕ) (x : ℕ × ℕ × ℕ × ℕ × List ℕ) → times_at text ≡ Some x
    → text ≡ decimal x.0 ++ 32 ∷ (decimal x.1 ++ 32 ∷ (decimal x.2 ++ 32 ∷ (decimal x.3 ++ 32 ∷ x.4)))
unfolding times_at
times_at-some text x h =
    bind_step (u32_at text) _ x h (λ a a_is h.
    bind_step (u32_at a.1) _ x h (λ b b_is h.
    bind_step (u32_at b.1) _ x h (λ c c_is h.
    bind_step (u32_at c.1) _ x h (λ d d_is h.
    let same = some_inj {A = ℕ × ℕ × ℕ × ℕ × List ℕ} (a.0, b.0, c.0, d.0, d.1) x h in
    let P : ℕ × ℕ × ℕ × ℕ × List ℕ → Type 0 =
    λ y. text ≡ decimal y.0 ++ 32 ∷ (decimal y.1 ++ 32 ∷ (decimal y.2 ++ 32 ∷ (decimal y.3 ++ 32 ∷ y.4))) in
    subst P same
    (u32_at-some text a a_is
    ∙ ap (λ t. decimal a.0 ++ 32 ∷ t) (u32_at-some a.1 b b_is
    ∙ ap (λ t. decimal b.0 ++ 32 ∷ t) (u32_at-some b.1 c c_is
    ∙ ap (λ t. decimal c.0 ++ 32 ∷ t) (u32_at-some c.1 d d_is))))))))

end_at-some : (text : List ℕ) (x : Role × Side × ℕ × List ℕ) → end_at text ≡ Some x
    → text ≡ role_word x.0 ++ 32 ∷ (link_word x.1 ++ 32 ∷ (decimal x.2 ++ 32 ∷ x.3))
unfolding end_at
end_at-some text x h =
    bind_step (word_at text) _ x h (λ a a_is h.
    bind_step (role_of a.0) _ x h (λ role role_is h.
    bind_step (word_at a.1) _ x h (λ b b_is h.
    bind_step (link_of b.0) _ x h (λ link link_is h.
    bind_step (number_at b.1) _ x h (λ c c_is h.
    bind_step (below (2 ^ 16) c.0) _ x h (λ device device_is h.
    let same = some_inj {A = Role × Side × ℕ × List ℕ} (role, link, device, c.1) x h in
    let P : Role × Side × ℕ × List ℕ → Type 0 =
    λ y. text ≡ role_word y.0 ++ 32 ∷ (link_word y.1 ++ 32 ∷ (decimal y.2 ++ 32 ∷ y.3)) in
    subst P same
    (word_at-some text a.0 a.1 a_is ∙ ap (λ w. w ++ 32 ∷ a.1) (role_of-some a.0 role role_is)
    ∙ ap (λ t. role_word role ++ 32 ∷ t) (word_at-some a.1 b.0 b.1 b_is ∙ ap (λ w. w ++ 32 ∷ b.1) (link_of-some b.0 link link_is)
    ∙ ap (λ t. link_word link ++ 32 ∷ t) (numbers_front (2 ^ 16) b.1 c.0 device c.1 c_is device_is)))))))))

last_number : (bound : ℕ) (word : List ℕ) (m n : ℕ) → number_of word ≡ Some m → below bound m ≡ Some n → word ≡ decimal n
last_number bound word m n a b = (number_of-some word m a).1 ∙ ap decimal (below_some bound m n b).1

limits_of-some : (text : List ℕ) (x : ℕ × ℕ) → limits_of text ≡ Some x → text ≡ decimal x.0 ++ 32 ∷ decimal x.1
unfolding limits_of
limits_of-some text x h =
    bind_step (u32_at text) _ x h (λ max max_is h.
    bind_step (number_of max.1) _ x h (λ e e_is h.
    bind_step (below (2 ^ 8) e) _ x h (λ depth depth_is h.
    let P : ℕ × ℕ → Type 0 = λ y. text ≡ decimal y.0 ++ 32 ∷ decimal y.1 in
    subst P (some_inj {A = ℕ × ℕ} (max.0, depth) x h)
    (u32_at-some text max max_is ∙ ap (λ t. decimal max.0 ++ 32 ∷ t) (last_number (2 ^ 8) max.1 e depth e_is depth_is)))))

settings_at-some : (line : List ℕ) (s : Parameters) → settings_at line ≡ Some s → line ≡ settings_line s
unfolding settings_at settings_line
settings_at-some line s h =
    bind_step (version_at line) _ s h (λ v v_is h.
    bind_step (end_at v.1) _ s h (λ a a_is h.
    bind_step (times_at a.3) _ s h (λ t t_is h.
    bind_step (limits_of t.4) _ s h (λ l l_is h.
    let same = some_inj _ s h in
    let P : Parameters → Type 0 = λ p. line ≡ settings_line p in
    subst P same
    (version_at-some line v v_is
    ∙ ap (λ r. codes "hsms-log " ++ (decimal v.0 ++ 32 ∷ r)) (end_at-some v.1 a a_is
    ∙ ap (λ r. role_word a.0 ++ 32 ∷ (link_word a.1 ++ 32 ∷ (decimal a.2 ++ 32 ∷ r))) (times_at-some a.3 t t_is
    ∙ ap (λ r. decimal t.0 ++ 32 ∷ (decimal t.1 ++ 32 ∷ (decimal t.2 ++ 32 ∷ (decimal t.3 ++ 32 ∷ r)))) (limits_of-some t.4 l l_is))))))))

-- ---- the limit

role_word-short : (r : Role) → length (role_word r) ≤ 9
role_word-short Host = omega arith
role_word-short Equipment = omega arith

link_word-short : (l : Side) → length (link_word l) ≤ 7
link_word-short Active = omega arith
link_word-short Passive = omega arith

pub settings_line-short : (s : Parameters) → IsWithinLimits s → length (settings_line s) ≤ 256
unfolding settings_line
settings_line-short s w =
    let version : length (decimal s.version) ≤ 1 = length-decimal-le 1 s.version (omega arith) (omega arith) (omega arith) in
    let role = role_word-short s.role in
    let link = link_word-short s.link in
    let device : length (decimal s.device) ≤ 5 = length-decimal-le 5 s.device (omega arith) (omega arith) (omega arith) in
    let t3 : length (decimal s.t3) ≤ 7 = length-decimal-le 7 s.t3 (omega arith) (omega arith) (omega arith) in
    let t6 : length (decimal s.t6) ≤ 7 = length-decimal-le 7 s.t6 (omega arith) (omega arith) (omega arith) in
    let t7 : length (decimal s.t7) ≤ 7 = length-decimal-le 7 s.t7 (omega arith) (omega arith) (omega arith) in
    let t8 : length (decimal s.t8) ≤ 7 = length-decimal-le 7 s.t8 (omega arith) (omega arith) (omega arith) in
    let max : length (decimal s.max) ≤ 8 = length-decimal-le 8 s.max (omega arith) (omega arith) (omega arith) in
    let depth : length (decimal s.depth) ≤ 3 = length-decimal-le 3 s.depth (omega arith) (omega arith) (omega arith) in
    simp length-append (omega arith)

-- ---- the version

version_within : (p : Parameters) (v : ℕ) → 1 ≤ v → v ≤ 2 → IsWithinLimits p → IsWithinLimits (record p { version = v })
version_within p v least greatest w = record {
  least_version = least;
  greatest_version = greatest;
  device = w.device;
  t3 = w.t3;
  t6 = w.t6;
  t7 = w.t7;
  t8 = w.t8;
  least_max = w.least_max;
  greatest_max = w.greatest_max;
  least_depth = w.least_depth;
  greatest_depth = w.greatest_depth;
}

-- Settings within their limits stay so with another version exactly if there is such a version.
of_version_within : (p : Parameters) (v : ℕ) (r : Option Parameters) → IsWithinLimits p → (IsSome r ↔ (1 ≤ v) × (v ≤ 2)) → IsSome r ↔ IsWithinLimits (record p { version = v })
of_version_within p v r w some = (
  (λ h. let at = some.0 h in version_within p v at.0 at.1 w),
  (λ h. some.1 (h.least_version, h.greatest_version)),
)

of_version_is : (p s : Parameters) (v : ℕ) (r : Option Parameters) → s ≡ p → p.version ≡ 1
    → IfSome r (λ t. s.version ≡ 1 → t ≡ record s { version = v }) → IfSome r (λ t. t ≡ record p { version = v })
of_version_is p s v (Some t) same one h =
    let F : Parameters → Parameters = λ q. record q { version = v } in
    h (ap (λ (q : Parameters). q.version) same ∙ one) ∙ ap F same
of_version_is p s v None same one h = tt

-- If there are no settings of version 1, there are none of another version.
none_within : (p : Parameters) (v : ℕ) → p.version ≡ 1 → (IsWithinLimits p → ⊥) → IsWithinLimits (record p { version = v }) → ⊥
none_within p v one never h =
    let P : ℕ → Type 0 = λ n. IsWithinLimits (record p { version = n }) in
    never (subst P (sym one) (version_within (record p { version = v }) 1 (omega arith) (omega arith) h))

-- ---- the results of reading the line

pub encoded_is_read : (line : List ℕ) (s : Parameters) → EncodesSettings line s → settings_at line ≡ Some s
encoded_is_read line s h = ap settings_at h.encoded_bytes ∙ settings_at-line s h.within

pub read_is_encoded : (line : List ℕ) (s : Parameters) → settings_at line ≡ Some s → IsWithinLimits s → EncodesSettings line s
read_is_encoded line s h w =
    let same = settings_at-some line s h in
    let P : List ℕ → Type 0 = λ x. length x ≤ 256 in
    record { within = w; fits = subst P (sym same) (settings_line-short s w); encoded_bytes = same }

-- A line encodes one value of settings.
pub EncodesSettings-unique : (line : List ℕ) (s t : Parameters) → EncodesSettings line s → EncodesSettings line t → s ≡ t
EncodesSettings-unique line s t a b = some_inj s t (sym (encoded_is_read line s a) ∙ encoded_is_read line t b)

pub settings_found : (line : List ℕ) (p : Parameters) (r : Option Parameters) → settings_at line ≡ Some p → (IsSome r ↔ IsWithinLimits p)
    → IfSome r (λ s. s ≡ p) → IfSome r (EncodesSettings line)
settings_found line p (Some s) h within same =
    let P : Parameters → Type 0 = λ x. EncodesSettings line x in
    subst P (sym same) (read_is_encoded line p h (within.0 refl))
settings_found line p None h within same = tt

pub settings_none : (line : List ℕ) (p : Parameters) (r : Option Parameters) → settings_at line ≡ Some p → (IsSome r ↔ IsWithinLimits p)
    → IfNone r ((s : Parameters) → EncodesSettings line s → ⊥)
settings_none line p (Some x) h within = tt
settings_none line p None h within = λ s encoded_bytes.
    let same = some_inj s p (sym (encoded_is_read line s encoded_bytes) ∙ h) in
    let P : Parameters → Type 0 = λ x. IsWithinLimits x in
    let no : false ≡ true = within.1 (subst P same encoded_bytes.within) in
    cc no

pub settings_unread : (line : List ℕ) → settings_at line ≡ None → (s : Parameters) → EncodesSettings line s → ⊥
settings_unread line h s encoded_bytes = let e = sym (encoded_is_read line s encoded_bytes) ∙ h in cc e

-- ---- by the version and the other words

module _ (p : Parameters) (v : ℕ) (version_is : p.version ≡ v) where
  of_this_version : record p { version = v } ≡ p
  of_this_version = let F : ℕ → Parameters = λ n. record p { version = n } in ap F (sym version_is)

  pub parts_within : (r : Option Parameters) → IsWithinLimits (record p { version = 1 }) → (IsSome r ↔ (1 ≤ v) × (v ≤ 2)) → IsSome r ↔ IsWithinLimits p
  parts_within r within some =
      let P : Parameters → Type 0 = λ q. IsSome r ↔ IsWithinLimits q in
      subst P of_this_version (of_version_within (record p { version = 1 }) v r within some)

  pub parts_value : (r : Option Parameters) (s : Parameters) → s ≡ record p { version = 1 } → IfSome r (λ t. s.version ≡ 1 → t ≡ record s { version = v })
      → IfSome r (λ t. t ≡ p)
  parts_value r s same value =
      let P : Parameters → Type 0 = λ q. IfSome r (λ t. t ≡ q) in
      subst P of_this_version (of_version_is (record p { version = 1 }) s v r same refl value)

pub parts_never : (p : Parameters) → (IsWithinLimits (record p { version = 1 }) → ⊥) → IsWithinLimits p → ⊥
parts_never p never w = none_within (record p { version = 1 }) p.version refl never w
