-- The numbers of a search by its frames: each pass is one frame with presence, with as many slots as the line showed
-- bits, and a line of known length.
--     frames-counted      passes, slots and bytes of frames that all have n slots
use Rattle.std.specs.Prelude.{ℕ, ◌+◌, ◌*◌, ◌≤◌, Bool, true, List, [], ◌∷◌, map, ◌≡◌}
use Rattle.std.proofs.Math.Path.{ap}
use Rattle.std.proofs.Common.{◌∙◌, mul-zero, mul-suc, length-append}
use Rattle.std.proofs.Math.Nat.{zero-add}
use native.Mathlib.Omega.{arith}
use Rattle.std.proofs.Math.ListN.{length, length-map}
use Rattle.basic_laws.specs.Fold.{fold}
use Rattle.frame.specs.Frames.{bytes_for, most_slots}
use Rattle.frame.specs.FramesLaws.{recorded-all}
use Rattle.frame.specs.Recording.{write_all}
use Rattle.frame.specs.Writing.{fed_line}
use Rattle.frame.proofs.WritingLaws.{fed-length}
use Rattle.frame.specs.declared.Frame.{Frame}
use Rattle.basic_laws.specs.Each.{Each}
use Rattle.master_rules.specs.Search.{frame_of, count_pass, passes_in, slots_in}

-- ## Frames that are alike

passes-alike : (fs : List Frame) (n : ℕ) → Each (λ f. f.presence ≡ true) fs → fold count_pass n fs ≡ n + length fs
unfolding fold
passes-alike [] n h = omega arith
passes-alike (f ∷ fs) n h =
    let e = h.0 in
    let i = passes-alike fs (n + 1) h.1 in
    rw e (i ∙ omega arith)

slots-alike : (k : ℕ) (fs : List Frame) (n : ℕ) → Each (λ f. f.count ≡ k) fs
    → fold (λ m f. m + f.count) n fs ≡ n + k * length fs
unfolding fold
slots-alike k [] n h = omega (arith, mul-zero k)
slots-alike k (f ∷ fs) n h =
    let e = h.0 in
    let i = slots-alike k fs (n + k) h.1 in
    rw e (i ∙ omega (arith, mul-suc k (length fs)))

bytes-alike : (k : ℕ) (fs : List Frame) → Each (λ f. length (fed_line f) ≡ k) fs → length (write_all fs) ≡ k * length fs
unfolding write_all
bytes-alike k [] h = omega (arith, mul-zero k)
bytes-alike k (f ∷ fs) h =
    let e = h.0 in
    let i = bytes-alike k fs h.1 in
    length-append (fed_line f) (write_all fs) ∙ omega (arith, mul-suc k (length fs))

-- ## Frames of passes

-- the frame of n slots has presence, n slots, and a line of 7 characters and two for each byte
pub record FrameOf (n : ℕ) (f : Frame) : Type 0 where
  pub shown : f.presence ≡ true
  pub slots : f.count ≡ n
  pub bytes : length (fed_line f) ≡ 7 + 2 * bytes_for n

pub frame-of : (n : ℕ) (lines : List Bool) → length lines ≡ n → n ≤ most_slots → FrameOf n (frame_of lines)
frame-of n lines e h =
    let r = recorded-all lines (rw e h) in
    record {
      shown = r.shown;
      slots = r.total ∙ e;
      bytes = fed-length (frame_of lines) r.held.size r.carried
          ∙ ap (λ (k : ℕ). 7 + 2 * bytes_for k) (r.total ∙ e);
    }

frames-of : (P : Frame → Type 0) (n : ℕ) (ls : List (List Bool)) → ((l : List Bool) → length l ≡ n → P (frame_of l))
    → Each (λ l. length l ≡ n) ls → Each P (map frame_of ls)
frames-of P n [] f h = tt
frames-of P n (l ∷ ls) f h = (f l h.0, frames-of P n ls f h.1)

module _ (n : ℕ) (ls : List (List Bool)) (h : Each (λ l. length l ≡ n) ls) (k : n ≤ most_slots) where
  pub passes-counted : passes_in (map frame_of ls) ≡ length ls
  unfolding passes_in
  passes-counted =
      let e = passes-alike (map frame_of ls) 0 (frames-of (λ f. f.presence
      ≡ true) n ls (λ l e. (frame-of n l e k).shown) h) in
      let m = length-map ls frame_of in
      omega arith

  pub slots-counted : slots_in (map frame_of ls) ≡ n * length ls
  unfolding slots_in
  slots-counted =
      let e = slots-alike n (map frame_of ls) 0
      (frames-of (λ f. f.count ≡ n) n ls (λ l e. (frame-of n l e k).slots) h) in
      e ∙ zero-add (n * length (map frame_of ls)) ∙ ap (λ (m : ℕ). n * m) (length-map ls frame_of)

  pub bytes_counted : length (write_all (map frame_of ls)) ≡ (7 + 2 * bytes_for n) * length ls
  bytes_counted =
      bytes-alike (7 + 2 * bytes_for n) (map frame_of ls)
      (frames-of (λ f. length (fed_line f) ≡ 7 + 2 * bytes_for n) n ls (λ l e. (frame-of n l e k).bytes) h)
      ∙ ap (λ (m : ℕ). (7 + 2 * bytes_for n) * m) (length-map ls frame_of)
