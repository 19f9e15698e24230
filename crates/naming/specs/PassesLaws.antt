-- How the frames of a search are named: a pass that lists a sound code is SEARCH or ALARM with that code, a search that
-- nobody answers is NOBODY, and a reset without presence is EMPTY. A frame is taken by its slots, as the master records
-- them.
use Rattle.std.specs.Prelude.{ℕ, ◌<◌, ◌≤◌, ◌≡◌, refl, Bool, true, false, List, [], ◌∷◌, ◌++◌, length, take, drop, get_or}
use Rattle.std.proofs.Common.{sym, ap, ◌∙◌, arith, lit<, length-append, take_at, drop_at, take-take}
use Rattle.basic_laws.specs.Bits.{bits_of, bytes_bits, number_of}
use Rattle.basic_laws.specs.BitsLaws.{bits-length, number-bits}
use Rattle.commands.specs.Commands.{search_rom, alarm_search}
use Rattle.frame.specs.declared.Frame.{Frame}
use Rattle.frame.specs.Frames.{slots_of, blank_frame, Recorded}
use Rattle.naming.specs.declared.Name.TheVariants.{Empty, Search, Alarm, Nobody}
use Rattle.naming.specs.Naming.{named, plain, byte_of, searches, thirds, pass_slots}
use Rattle.naming.specs.Passes.{lists_code, PassListing}

-- the first byte of a frame is what its first eight slots send
first_byte : (command : ℕ) (ss : List Bool) (f : Frame) → command < 256 → Recorded (bits_of 8 command ++ ss) f
    → byte_of f 0 ≡ command
unfolding bytes_bits
first_byte command ss f h r = by_bytes f.bits refl
  where
    by_bytes : (l : List ℕ) → f.bits ≡ l → get_or l 0 0 ≡ command
    by_bytes [] e = absurd (let s = r.held.size in let z : length f.bits ≡ 0 = ap length e in omega arith)
    by_bytes (b ∷ l) e =
        let n = r.total ∙ length-append (bits_of 8 command) ss in let k = bits-length 8 command in
        let w : 8 ≤ f.count = omega arith in
        let small : b < 256 = rw e at (r.held.bytes 0) in
        let front : take 8 (slots_of f) ≡ bits_of 8 b =
        take-take 8 f.count (bytes_bits f.bits) w ∙ ap (λ (m : List ℕ). take 8 (bytes_bits m)) e
        ∙ take_at (bits_of 8 b) (bytes_bits l) 8 (bits-length 8 b) in
        let same : bits_of 8 b ≡ bits_of 8 command =
        sym front ∙ ap (take 8) r.slots ∙ take_at (bits_of 8 command) ss 8 (bits-length 8 command) in
        sym (number-bits 8 b small) ∙ ap number_of same ∙ number-bits 8 command h

module _ (code : ℕ) (ss : List Bool) (l : PassListing code ss) (f : Frame) where
  pass-count : (command : ℕ) → Recorded (bits_of 8 command ++ ss) f → f.count ≡ 200
  pass-count command r =
      let n = r.total ∙ length-append (bits_of 8 command) ss in let b = bits-length 8 command in let s = l.long in
      omega arith

  pass-read : (command : ℕ) → Recorded (bits_of 8 command ++ ss) f → pass_slots f.bits ≡ ss
  pass-read command r =
      ap (λ (k : ℕ). drop 8 (take k (bytes_bits f.bits))) (sym (pass-count command r)) ∙ ap (drop 8) r.slots
      ∙ drop_at (bits_of 8 command) ss 8 (bits-length 8 command)

  code_read : number_of (thirds ss) ≡ code
  code_read = ap number_of l.bits_are ∙ number-bits 64 code l.small

  -- a pass of a search is named SEARCH with the code it lists
  pub search-named : Recorded (bits_of 8 search_rom ++ ss) f → named f ≡ lists_code Search code
  unfolding named
  search-named r =
      rw (
        r.shown,
        pass-count search_rom r,
        first_byte search_rom ss f (lit< tt) r,
        pass-read search_rom r,
        l.allowed,
        code_read,
        l.sound,
      )

  -- a pass of an alarm search is named ALARM with the code it lists
  pub alarm-named : Recorded (bits_of 8 alarm_search ++ ss) f → named f ≡ lists_code Alarm code
  unfolding named
  alarm-named r =
      rw (
        r.shown,
        pass-count alarm_search r,
        first_byte alarm_search ss f (lit< tt) r,
        pass-read alarm_search r,
        l.allowed,
        code_read,
        l.sound,
      )

-- an alarm search that nobody answers
pub nobody-named : (f : Frame) → Recorded (bits_of 8 alarm_search ++ (true ∷ true ∷ [])) f → named f ≡ plain Nobody
unfolding named searches bits_of
nobody-named f r = rw (r.shown, r.slots, r.total, first_byte alarm_search (true ∷ true ∷ []) f (lit< tt) r)

-- a reset that no device answers
pub empty-named : named (blank_frame false) ≡ plain Empty
unfolding named
empty-named = refl
