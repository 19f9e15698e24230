-- The frames that fit into some room.
--     fitting-longest        they are the longest front that does
--     fitting-stop           frames behind those that do not all fit change nothing
--     fitting-last           all but the last, where that is the one that does not fit
use Rattle.std.specs.Prelude.{ℕ, suc, ◌+◌, ◌-◌, ◌<◌, ◌≤◌, ◌≡◌, refl, Bool, true, false, List, [], ◌∷◌, ◌++◌, leb, length, take}
use Rattle.std.proofs.Common.{sym, ap, ◌∙◌, arith, leb-true, leb-false, le-leb}
use Rattle.std.proofs.lemmas.Bool.{lt-leb}
use Rattle.std.proofs.Math.ListN.{length-append}
use Rattle.std.specs.Prelude.{if◌then◌else◌}
use Rattle.frame.specs.declared.Frame.{Frame}
use Rattle.frame.specs.Writing.{fed_line}
use Rattle.frame.specs.Recording.{write_all}
use Rattle.capture_laws.specs.Fitting.{fitting, Longest}

-- the bytes of a frame's line
abbrev size_of : Frame → ℕ
size_of f = length (fed_line f)

module _ (room : ℕ) (f : Frame) (fs : List Frame) where
  size-more : length (write_all (f ∷ fs)) ≡ size_of f + length (write_all fs)
  unfolding write_all
  size-more = length-append (fed_line f) (write_all fs)

  pub fitting-more : size_of f ≤ room → fitting room (f ∷ fs) ≡ f ∷ fitting (room - size_of f) fs
  unfolding fitting
  fitting-more h = rw (le-leb (size_of f) room h)

  pub fitting-none : room < size_of f → fitting room (f ∷ fs) ≡ []
  unfolding fitting
  fitting-none h = rw (lt-leb (size_of f) room h)

pub fitting-stop : (room : ℕ) (fs gs : List Frame) → room < length (write_all fs)
    → fitting room (fs ++ gs) ≡ fitting room fs
unfolding write_all
fitting-stop room [] gs h = absurd (omega arith)
fitting-stop room (f ∷ fs) gs h = by-room (leb (size_of f) room) refl (fitting-stop (room - size_of f) fs gs)
  where
    by-room : (t : Bool) → leb (size_of f) room ≡ t
        → (room - size_of f < length (write_all fs) → fitting (room - size_of f) (fs ++ gs) ≡ fitting (room - size_of f) fs)
        → fitting room (f ∷ (fs ++ gs)) ≡ fitting room (f ∷ fs)
    by-room true e later =
        let here = leb-true (size_of f) room e in
        let sum = size-more room f fs in
        let past : room - size_of f < length (write_all fs) = omega arith in
        fitting-more room f (fs ++ gs) here ∙ ap (λ (hs : List Frame). f ∷ hs) (later past)
        ∙ sym (fitting-more room f fs here)
    by-room false e later =
        let none = leb-false (size_of f) room e in
        fitting-none room f (fs ++ gs) none ∙ sym (fitting-none room f fs none)

pub fitting-last : (room : ℕ) (fs : List Frame) (f : Frame) → length (write_all fs) ≤ room
    → room < length (write_all (fs ++ (f ∷ []))) → fitting room (fs ++ (f ∷ [])) ≡ fs
unfolding write_all
fitting-last room [] f few past = let sum = size-more room f [] in fitting-none room f [] (omega arith)
fitting-last room (g ∷ fs) f few past =
    let before = size-more room g fs in
    let sum = size-more room g (fs ++ (f ∷ [])) in
    let here : size_of g ≤ room = omega arith in
    let later = fitting-last (room - size_of g) fs f (omega arith) (omega arith) in
    fitting-more room g (fs ++ (f ∷ [])) here ∙ ap (λ (hs : List Frame). g ∷ hs) later

pub fitting-longest : (room : ℕ) (fs : List Frame) → Longest room fs (fitting room fs)
unfolding fitting write_all
fitting-longest room [] = record { front = refl; fits = omega arith; no_more = λ h. absurd (omega arith) }
fitting-longest room (f ∷ fs) = by-room (leb (size_of f) room) refl (fitting-longest (room - size_of f) fs)
  where
    by-room : (t : Bool) → leb (size_of f) room ≡ t → Longest (room - size_of f) fs (fitting (room - size_of f) fs)
        → Longest room (f ∷ fs) (if t then f ∷ fitting (room - size_of f) fs else [])
    by-room true e l =
        let here = leb-true (size_of f) room e in
        let gs = fitting (room - size_of f) fs in
        let sum = size-more room f gs in
        let few = l.fits in
        record {
          front = ap (λ (hs : List Frame). f ∷ hs) l.front;
          fits = omega arith;
          no_more = λ h.
              let past = l.no_more (omega arith) in
              let more = size-more room f (take (suc (length gs)) fs) in
              omega arith;
        }
    by-room false e l =
        let none = leb-false (size_of f) room e in
        record {
          front = refl;
          fits = omega arith;
          no_more = λ h. let more = size-more room f [] in omega arith;
        }
