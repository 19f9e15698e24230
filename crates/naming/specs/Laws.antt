-- Laws that the proofs of naming rest on: triples along a loop from the last to the first, and the number of bytes
-- along such a loop; and that a refusal is a small number; and that the name of what a reader answers is that of the
-- line.
use Rattle.std.specs.Prelude.{ℕ, zero, suc, ◌+◌, ◌-◌, ◌*◌, ◌/◌, ◌^◌, ◌<◌, ◌≤◌, ◌≡◌, Bool, true, false, not, ◌&&◌, List, [], ◌∷◌, drop, get_or, eqb, ltb}
use Rattle.std.proofs.Math.Path.{refl}
use Rattle.std.proofs.Common.{ap, ◌∙◌, pow_mono, length-take, length-drop, drop_of_length-le, drop-cons, lit<}
use Rattle.std.proofs.Math.Bool.{and-false}
use native.Mathlib.Omega.{arith}
use Rattle.std.proofs.Math.Numerals.{add-one}
use Rattle.std.proofs.Math.ListN.{length, take}
use Rattle.std.proofs.Math.Seq.{drop-nil, get_or-drop, get_or-take}
use Rattle.std.specs.Prelude.{if◌then◌else◌}
use Rattle.basic_laws.specs.Bits.{bit_number, bits_of, number_of, bytes_bits}
use Rattle.basic_laws.specs.BitsLaws.{number_lt, bytes-length}
use Rattle.commands.specs.Commands.{search_rom, alarm_search}
use Rattle.refusals.specs.Refusals.{accepted, not_hex, malformed, wrong_crc, all_zero, wrong_kind, out_of_range, bad_triple}
use Rattle.refusals.specs.Refusals.{wrong_counts}
use Rattle.family.specs.Families.{properties_of}
use Rattle.family.specs.declared.Properties.{Properties}
use Rattle.crc.specs.Crc.{crc_bits}
use Rattle.rom.specs.Code.{crc_byte_of, family_of, code_refusal}
use Rattle.temperature.specs.Range.{in_range}
use Rattle.scratchpad.specs.Judgement.{crc_right, all_zeros, kind_right, counts_believed, refused_pad, judged}
use Rattle.scratchpad.specs.Stored.{reading_in, fine_in}
use Rattle.text.specs.Digits.{spells}
use Rattle.text.specs.Lines.{Line}
use Rattle.frame.specs.declared.Frame.{Frame}
use Rattle.frame.specs.ReadLine.{longest_line, well_formed, frame_in, carries, no_frame, read_digits, read_line, found}
use Rattle.frame.specs.ReadLine.{line_answer_of}
use Rattle.naming.specs.declared.Name.{Name}
use Rattle.naming.specs.declared.Name.TheVariants.{Empty, Search, Alarm, Nobody, Pad, Other}
use Rattle.naming.specs.declared.PassRead.{PassRead}
use Rattle.naming.specs.Naming.{named, plain, refused_name, sends, triple_allowed, triples_allowed, thirds}
use Rattle.naming.specs.Naming.{pass_slots, pass_read, coded, named_pass, is_nobody, is_pad, low_first, code_matched}
use Rattle.naming.specs.Naming.{no_reading, pad_in, raw_of, named_pad, read_named, line_named, name_of_read}

pub one_at_most : (b : Bool) → bit_number b ≤ 1
one_at_most true = omega arith
one_at_most false = omega arith

-- ## Triples

three : (i : ℕ) (a b c : Bool) (ss : List Bool) → drop (3 * suc i) (a ∷ b ∷ c ∷ ss) ≡ drop (3 * i) ss
three i a b c ss = let e : 3 * suc i ≡ suc (suc (suc (3 * i))) = omega arith in rw e

-- a triple that is not allowed, anywhere, is one of the whole
pub triples-drop : (i : ℕ) (ss : List Bool) → triples_allowed (drop (3 * i) ss) ≡ false → triples_allowed ss ≡ false
unfolding triples_allowed
triples-drop zero ss h = h
triples-drop (suc i) [] h = rw (drop-nil {A = Bool} (3 * suc i)) at h
triples-drop (suc i) (a ∷ []) h =
    let e : 3 * suc i ≡ suc (3 * i + 2) = omega arith in
    rw (e, drop-nil {A = Bool} (3 * i + 2)) at h
triples-drop (suc i) (a ∷ b ∷ []) h =
    let e : 3 * suc i ≡ suc (suc (3 * i + 1)) = omega arith in
    rw (e, drop-nil {A = Bool} (3 * i + 1)) at h
triples-drop (suc i) (a ∷ b ∷ c ∷ ss) h =
    rw (triples-drop i ss (rw (three i a b c ss) at h)) (and-false (triple_allowed a b c))

pub thirds-length : (ss : List Bool) → length (thirds ss) ≡ length ss / 3
unfolding thirds
thirds-length [] = refl
thirds-length (a ∷ []) = refl
thirds-length (a ∷ b ∷ []) = refl
thirds-length (a ∷ b ∷ c ∷ ss) = let e = thirds-length ss in omega arith

-- ## A pass, by its bytes

module _ (bytes : List ℕ) (size : length bytes ≡ 64) where
  pub pass-length : length (pass_slots bytes) ≡ 192
  pass-length = let b = bytes-length bytes in simp (length-drop, length-take) (omega arith)

  pass-slot : (k : ℕ) → k < 192 → get_or (pass_slots bytes) k false ≡ get_or (bytes_bits bytes) (8 + k) false
  pass-slot k h = let l : 8 + k < 200 = omega arith in
      get_or-drop 8 (take 200 (bytes_bits bytes)) k false ∙ get_or-take 200 (bytes_bits bytes) (8 + k) false l

  pub pass-end : drop (3 * 64) (pass_slots bytes) ≡ []
  pass-end = let l = pass-length in let h : length (pass_slots bytes) ≤ 192 = omega arith in
      drop_of_length-le (pass_slots bytes) h

  -- the triple at i, and those after it
  pass-triple : (i : ℕ) → i < 64
      → drop (3 * i) (pass_slots bytes)
      ≡ get_or (bytes_bits bytes) (8 + 3 * i) false ∷ get_or (bytes_bits bytes) (8 + 3 * i + 1) false
      ∷ get_or (bytes_bits bytes) (8 + 3 * i + 2) false
      ∷ drop (3 * (i + 1)) (pass_slots bytes)
  pass-triple i h =
      let s = pass_slots bytes in
      let l = pass-length in
      let a : 3 * i < length s = omega arith in
      let b : suc (3 * i) < length s = omega arith in
      let c : suc (suc (3 * i)) < length s = omega arith in
      let e : 3 * (i + 1) ≡ suc (suc (suc (3 * i))) = omega arith in
      let p : 8 + suc (3 * i) ≡ 8 + 3 * i + 1 = omega arith in
      let q : 8 + suc (suc (3 * i)) ≡ 8 + 3 * i + 2 = omega arith in
      rw (
        e,
        drop-cons s (3 * i) false a,
        drop-cons s (suc (3 * i)) false b,
        drop-cons s (suc (suc (3 * i))) false c,
        pass-slot (3 * i) (omega arith),
        pass-slot (suc (3 * i)) (omega arith),
        pass-slot (suc (suc (3 * i))) (omega arith),
        p,
        q,
      )

  -- the same where a loop has come down to n
  pub pass-before : (n : ℕ) → 0 < n → n ≤ 64
      → drop (3 * (n - 1)) (pass_slots bytes)
      ≡ get_or (bytes_bits bytes) (8 + 3 * (n - 1)) false ∷ get_or (bytes_bits bytes) (8 + 3 * (n - 1) + 1) false
      ∷ get_or (bytes_bits bytes) (8 + 3 * (n - 1) + 2) false
      ∷ drop (3 * n) (pass_slots bytes)
  pass-before n h k =
      let e : n - 1 + 1 ≡ n = omega arith in let l : n - 1 < 64 = omega arith in
      rw e at (pass-triple (n - 1) l)

  -- the code so far leaves room for one bit more
  pub pass-lt : (i : ℕ) → 0 < i → i ≤ 64 → number_of (thirds (drop (3 * i) (pass_slots bytes))) < 2 ^ 63
  pass-lt i h k =
      let l = pass-length in
      let ss = drop (3 * i) (pass_slots bytes) in
      let d : length ss ≡ 192 - 3 * i = length-drop (3 * i) (pass_slots bytes) ∙ ap (λ (n : ℕ). n - 3 * i) l in
      let t = thirds-length ss in
      let e : length (thirds ss) ≤ 63 = omega arith in
      let p : 2 ^ length (thirds ss) ≤ 2 ^ 63 = pow_mono e in
      let n = number_lt (thirds ss) in
      omega arith

-- one triple more in front
module _ (a b c : Bool) (ss : List Bool) where
  pub thirds-more : number_of (thirds (a ∷ b ∷ c ∷ ss)) ≡ 2 * number_of (thirds ss) + bit_number c
  unfolding thirds number_of
  thirds-more = omega arith

  pub triples-more : triples_allowed (a ∷ b ∷ c ∷ ss) ≡ (triple_allowed a b c && triples_allowed ss)
  unfolding triples_allowed
  triples-more = refl

pub triples_none : triples_allowed [] ≡ true
unfolding triples_allowed
triples_none = refl

pub thirds-none : number_of (thirds []) ≡ 0
unfolding thirds number_of
thirds-none = refl

-- ## The code in bytes 1 to 8

module _ (bytes : List ℕ) (size : length bytes ≡ 64) where
  pub code-end : low_first (drop 8 (take 8 (drop 1 bytes))) ≡ 0
  unfolding low_first
  code-end =
      let h : length (take 8 (drop 1 bytes)) ≤ 8 = simp (length-take, length-drop) (omega arith) in
      rw (drop_of_length-le (take 8 (drop 1 bytes)) h)

  code-more : (i : ℕ) → i < 8 → low_first (drop i (take 8 (drop 1 bytes)))
      ≡ get_or bytes (i + 1) 0 + 256 * low_first (drop (i + 1) (take 8 (drop 1 bytes)))
  unfolding low_first
  code-more i h =
      let s = take 8 (drop 1 bytes) in
      let l : i < length s = simp (length-take, length-drop) (omega arith) in
      let e : 1 + i ≡ i + 1 = omega arith in
      rw (drop-cons s i 0 l, get_or-take 8 (drop 1 bytes) i 0 h, get_or-drop 1 bytes i 0, e, add-one i)

  pub code-before : (n : ℕ) → 0 < n → n ≤ 8
      → 256 * low_first (drop n (take 8 (drop 1 bytes))) + get_or bytes n 0
      ≡ low_first (drop (n - 1) (take 8 (drop 1 bytes)))
  code-before n h k =
      let e : n - 1 + 1 ≡ n = omega arith in let l : n - 1 < 8 = omega arith in
      let m = rw e at (code-more (n - 1) l) in
      omega arith

  -- ## The scratchpad in bytes 10 to 18

  pub pad-bytes : get_or bytes 10 0 ∷ get_or bytes 11 0 ∷ get_or bytes 12 0 ∷ get_or bytes 13 0 ∷ get_or bytes 14 0
      ∷ get_or bytes 15 0 ∷ get_or bytes 16 0 ∷ get_or bytes 17 0 ∷ get_or bytes 18 0 ∷ [] ≡ pad_in bytes
  pad-bytes =
      let at : (i : ℕ) → i < 64 → drop i bytes ≡ get_or bytes i 0 ∷ drop (suc i) bytes =
      λ i h. drop-cons bytes i 0 (omega arith) in
      rw (
        at 10 (omega arith),
        at 11 (omega arith),
        at 12 (omega arith),
        at 13 (omega arith),
        at 14 (omega arith),
        at 15 (omega arith),
        at 16 (omega arith),
        at 17 (omega arith),
        at 18 (omega arith),
      )

-- ## A refusal is a small number

code-small : (c : ℕ) → code_refusal c < 100
unfolding code_refusal
code-small c = by-test (not (eqb (crc_byte_of c) (crc_bits 0 (bits_of 56 c)))) (not (properties_of (family_of c)).known)
  where
    by-test : (t u : Bool) → (if t then wrong_crc else if u then wrong_kind else accepted) < 100
    by-test true u = lit< tt
    by-test false true = lit< tt
    by-test false false = lit< tt

judged-small : (family : ℕ) (pad : List ℕ) → (judged family pad).refusal < 100
unfolding judged
judged-small family pad = by-test (not (crc_right pad)) (all_zeros pad) (not (kind_right row pad))
    (not (in_range (reading_in row pad))) (not (counts_believed row pad))
  where
    row : Properties
    row = properties_of family

    by-test : (t u v w x : Bool)
        → (if t then refused_pad wrong_crc else if u then refused_pad all_zero else if v then refused_pad wrong_kind else if w
        then refused_pad out_of_range else if x then refused_pad wrong_counts
        else record { refusal = accepted; reading = reading_in row pad; fine = fine_in row pad }).refusal < 100
    by-test true u v w x = lit< tt
    by-test false true v w x = lit< tt
    by-test false false true w x = lit< tt
    by-test false false false true x = lit< tt
    by-test false false false false true = lit< tt
    by-test false false false false false = lit< tt

coded-small : (n : Name) (c : ℕ) → (coded n c).refusal < 100
coded-small n c = by-test (eqb (code_refusal c) accepted)
  where
    by-test : (t : Bool)
        → (if t then record { refusal = accepted; name = n; code = c; raw = 0; reading = no_reading }
        else refused_name (code_refusal c)).refusal < 100
    by-test true = lit< tt
    by-test false = code-small c

pass-small : (n : Name) (p : PassRead) → (named_pass n p).refusal < 100
pass-small n p = by-test p.allowed
  where
    by-test : (t : Bool) → (if t then coded n p.code else refused_name bad_triple).refusal < 100
    by-test true = coded-small n p.code
    by-test false = lit< tt

scratchpad-small : (c : ℕ) (pad : List ℕ) → (named_pad c pad).refusal < 100
scratchpad-small c pad = by-test (eqb (code_refusal c) wrong_crc) (eqb (judged (family_of c) pad).refusal accepted)
  where
    by-test : (t u : Bool)
        → (if t then refused_name wrong_crc else if u
        then record {
          refusal = accepted;
          name = Pad;
          code = c;
          raw = raw_of pad;
          reading = (judged (family_of c) pad).reading;
        }
        else refused_name (judged (family_of c) pad).refusal).refusal < 100
    by-test true u = lit< tt
    by-test false true = lit< tt
    by-test false false = judged-small (family_of c) pad

pub named_small : (f : Frame) → (named f).refusal < 100
unfolding named
named_small f = by-test (not f.presence) (sends f 200 search_rom) (sends f 200 alarm_search) (is_nobody f) (is_pad f)
  where
    by-test : (t u v w x : Bool)
        → (if t then plain Empty else if u then named_pass Search (pass_read (pass_slots f.bits)) else if v
        then named_pass Alarm (pass_read (pass_slots f.bits))
        else if w then plain Nobody else if x then named_pad (code_matched f.bits) (pad_in f.bits)
        else plain Other).refusal < 100
    by-test true u v w x = lit< tt
    by-test false true v w x = pass-small Search (pass_read (pass_slots f.bits))
    by-test false false true w x = pass-small Alarm (pass_read (pass_slots f.bits))
    by-test false false false true x = lit< tt
    by-test false false false false true = scratchpad-small (code_matched f.bits) (pad_in f.bits)
    by-test false false false false false = lit< tt

-- ## A reader's answer, named

pub line_read : (next : ℕ) (l : Line) → name_of_read (line_answer_of (found (read_line l) next)) ≡ line_named l
unfolding read_line read_digits
line_read next l = by-test (ltb longest_line (length l.chars)) (spells 16 l.chars
    && l.fed) (well_formed l.chars)
  where
    by-test : (t u v : Bool) →
        let r = if t then no_frame malformed else if u
        then (if v then carries (frame_in l.chars) else no_frame malformed) else no_frame not_hex in
        name_of_read (line_answer_of (found r next)) ≡ read_named r
    by-test true u v = refl
    by-test false true true = refl
    by-test false true false = refl
    by-test false false v = refl
