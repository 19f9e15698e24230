-- The two round trips of a whole recording: written, then read; and read, then written. The same of calls that write
-- and read it line by line.
--     read-back              frames written one after another are read back as the same frames, and then there is
--                            nothing more
--     write-append           the recording of frames and of more frames
--     write-back             a recording of which every line is accepted, written back, is the same bytes
--     write-calls            lines written by successive calls are the recording of those frames, and nothing else of
--                            the slice changes
--     read-calls             successive reads of such a recording give those frames and then done
use Rattle.std.specs.Prelude.{ℕ, zero, suc, ◌+◌, ◌-◌, ◌<◌, ◌≤◌, ◌≡◌, refl, Bool, true, false, List, [], ◌∷◌, ◌++◌, map, ltb, length, take, drop}
use Rattle.std.proofs.Common.{sym, ap, ◌∙◌, append_assoc, arith, lt-ltb, le-ltb, ltb-true, ltb-false, lit≤, length-append, length-drop, drop-drop, drop_at, length-take-le}
use Rattle.std.specs.Prelude.{if◌then◌else◌}
use Rattle.basic_laws.specs.FirstLaws.{at-within}
use Rattle.basic_laws.specs.Laid.{laid}
use Rattle.basic_laws.specs.LaidLaws.{laid_none, laid_more, laid-length, laid-read}
use Rattle.text.specs.Lines.{Line, line_feed, lines_of, lines_bytes, feed_at, first_line, width}
use Rattle.text.specs.LinesLaws.{lines-bytes, lines_cut, lines_next, lines-done, digits-no-feed}
use Rattle.text.proofs.LayingLaws.{lay-fits}
use Rattle.frame.specs.declared.Frame.{Frame}
use Rattle.frame.specs.ReadLine.{carries, read_line, line_read_at, first_found, found, done, line_answer_of}
use Rattle.frame.specs.Writing.{characters_of, fed_line}
use Rattle.frame.proofs.WritingLaws.{line-digits, read-written, written_read}
use Rattle.frame.specs.Recording.{read_all, write_all, Writable, none, one, write_calls, read_calls, shown_from}

pub write-append : (fs gs : List Frame) → write_all (fs ++ gs) ≡ write_all fs ++ write_all gs
unfolding write_all
write-append [] gs = refl
write-append (f ∷ fs) gs = ap (λ (t : List ℕ). fed_line f ++ t) (write-append fs gs)
    ∙ sym (append_assoc (fed_line f) (write_all fs) (write_all gs))

-- ## Written, then read

pub read_back : {fs : List Frame} → Writable fs → read_all (write_all fs) ≡ map carries fs
unfolding write_all lines_of
read_back none = refl
read_back (one {f} {fs} held sound rest) =
    rw (
      lines_cut (characters_of f) (write_all fs) (digits-no-feed 16 (characters_of f) (lit≤ tt) (line-digits f)),
      read-written f held sound,
      read_back rest,
    )

-- ## Read, then written

lines-back : (ls : List Line) (fs : List Frame) → map read_line ls ≡ map carries fs → write_all fs ≡ lines_bytes ls
unfolding write_all lines_bytes
lines-back [] [] h = refl
lines-back [] (f ∷ fs) h = let z : ◌≡◌ {A = ℕ} 0 1 = cc in absurd (omega arith)
lines-back (l ∷ ls) [] h = let z : ◌≡◌ {A = ℕ} 0 1 = cc in absurd (omega arith)
lines-back (l ∷ ls) (f ∷ fs) h =
    let a : read_line l ≡ carries f = cc in
    let b : map read_line ls ≡ map carries fs = cc in
    let c = written_read l f a in
    rw (c.ended, c.same, lines-back ls fs b)

pub write-back : (s : List ℕ) (fs : List Frame) → read_all s ≡ map carries fs → write_all fs ≡ s
write-back s fs h = lines-back (lines_of s) fs h ∙ lines-bytes s

-- ## One line after the other, by places

module _ (s : List ℕ) (at : ℕ) where
  -- at or past the end the reader answers done and stays where it is
  pub read_done : length s ≤ at → line_read_at s at ≡ line_answer_of (done at)
  read_done h = rw (lines-done s at h)

  -- before it the reader answers what the line says that starts there, by where its characters end
  pub read_first : (e : ℕ) → at < length s → at + feed_at (drop at s) ≡ e
      → line_read_at s at ≡ line_answer_of (found (read_line record {
        chars = take (e - at) (drop at s);
        fed = ltb e (length s);
      }) (if ltb e (length s) then e + 1 else e))
  read_first e h k =
      ap (λ (ls : List Line). line_answer_of (first_found at ls)) (lines_next s at h) ∙ by-test (ltb e (length s)) refl
    where
      by-test : (u : Bool) → ltb e (length s) ≡ u
          → line_answer_of (found (read_line (first_line (drop at s))) (at + width (first_line (drop at s))))
          ≡ line_answer_of (found (read_line record { chars = take (e - at) (drop at s); fed = u }) (if u then e + 1
          else e))
      by-test true p =
          let m = ltb-true e (length s) p in
          let t = drop at s in
          let n = feed_at t in
          let w : n < length t = rw (length-drop at s) (omega arith) in
          let d : e - at ≡ n = omega arith in
          let z : at + (n + 1) ≡ e + 1 = omega arith in
          rw (lt-ltb n (length t) w, length-take-le n t (at-within line_feed t), d, z)
      by-test false p =
          let m = ltb-false e (length s) p in
          let t = drop at s in
          let n = feed_at t in
          let w : length t ≤ n = rw (length-drop at s) (omega arith) in
          let d : e - at ≡ n = omega arith in
          rw (le-ltb n (length t) w, length-take-le n t (at-within line_feed t), d, k)

-- ## Call after call

pub write-calls : {fs : List Frame} → Writable fs → (s : List ℕ) (at : ℕ) → at + length (write_all fs) ≤ length s
    → write_calls s at fs ≡ laid s at (write_all fs)
unfolding write_calls write_all
write-calls none s at h = laid_none s at
write-calls (one {f} {fs} held sound rest) s at h =
    let x = fed_line f in
    let l = length-append x (write_all fs) in
    let fits : at + length x ≤ length s = omega arith in
    let answers = lay-fits s at x fits in
    let size = laid-length s at x fits in
    let room : at + length x + length (write_all fs) ≤ length (laid s at x) = omega arith in
    rw (sound, answers.0, answers.1) (write-calls rest (laid s at x) (at + length x) room
    ∙ laid_more s at x (write_all fs) fits)

-- what stands at a place where a written line starts
line-found : (f : Frame) (s more : List ℕ) (at : ℕ) → read_line record { chars = characters_of f; fed = true } ≡ carries f
    → drop at s ≡ fed_line f ++ more
    → line_read_at s at ≡ line_answer_of (found (carries f) (at + length (fed_line f)))
line-found f s more at says here =
    let plain = digits-no-feed 16 (characters_of f) (lit≤ tt) (line-digits f) in
    let width_is : length (characters_of f) + 1 ≡ length (fed_line f) =
    sym (length-append (characters_of f) (line_feed ∷ [])) in
    rw (here, lines_cut (characters_of f) more plain, says, width_is)

reads-from : {fs : List Frame} → Writable fs → (n : ℕ) (s : List ℕ) (at : ℕ) → length fs < n → at ≤ length s
    → drop at s ≡ write_all fs → read_calls n s at ≡ shown_from at fs
unfolding read_calls shown_from write_all
reads-from none zero s at few within here = absurd (omega arith)
reads-from none (suc n) s at few within here =
    let l = length-drop at s in
    let e : length (drop at s) ≡ 0 = ap length here in
    let past : length s ≤ at = omega arith in
    rw (read_done s at past)
reads-from (one held sound rest) zero s at few within here = absurd (omega arith)
reads-from (one {f} {fs} held sound rest) (suc n) s at few within here =
    let x = fed_line f in
    let l = length-drop at s in
    let m : length (drop at s) ≡ length x + length (write_all fs) = ap length here ∙ length-append x (write_all fs) in
    let next : drop (at + length x) s ≡ write_all fs =
    sym (drop-drop (length x) at s) ∙ ap (drop (length x)) here ∙ drop_at x (write_all fs) (length x) refl in
    rw (
      line-found f s (write_all fs) at (read-written f held sound) here,
      reads-from rest n s (at + length x) (omega arith) (omega arith) next,
    )

pub read-calls : {fs : List Frame} → Writable fs → read_calls (suc (length fs)) (write_all fs) 0 ≡ shown_from 0 fs
read-calls {fs} w = reads-from w (suc (length fs)) (write_all fs) 0 (omega arith) (omega arith) refl

-- what successive writes left is read by successive reads
pub calls_back : {fs : List Frame} → Writable fs → (s : List ℕ) (at : ℕ) → at + length (write_all fs) ≤ length s
    → read_calls (suc (length fs)) (take (length (write_all fs)) (drop at (write_calls s at fs))) 0 ≡ shown_from 0 fs
calls_back {fs} w s at h =
    let written : take (length (write_all fs)) (drop at (write_calls s at fs)) ≡ write_all fs =
    ap (λ (d : List ℕ). take (length (write_all fs)) (drop at d)) (write-calls w s at h)
    ∙ laid-read s at (write_all fs) (omega arith) in
    rw written (read-calls w)
