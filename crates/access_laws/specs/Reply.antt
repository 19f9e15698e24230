-- The nine bytes of a reply, slot by slot: where in each read slot the line is the next bit of nine bytes, whatever the
-- slots before have shown, the bytes shown are those nine. It is so while one device sends its scratchpad and all
-- others are quiet, and, with nine bytes FFh, where all are quiet.
--     Replies R Inv      with Inv k j the line shows bit j of byte k of R, and a slot goes on to the next
--     reply-shown        then the bytes shown are R
--     sending, silence   the two ways to reply
--     slots_kept         the read slots change nothing but stages
use Prim.Native.Nat.{ℕ, zero, suc, ◌+◌, ◌/◌, ◌^◌, ◌<◌, ◌≤◌}
use Rattle.std.specs.Prelude.{Bool, false, not, ◌&&◌, ◌≡◌, ltb, drop, replicate}
use Rattle.std.proofs.Math.Bool.{true, and-true}
use mathlib.Core.List.{List, [], ◌∷◌, map}
use Rattle.std.proofs.Common.{inl, inr, subst, ◌∙◌, add-one, drop_of_length-le, drop-cons}
use Rattle.std.proofs.Math.Path.{refl, sym, ap}
use native.Mathlib.Omega.{arith}
use borrow.Author.Tests.{lt-ltb, le-ltb, ltb-true, ltb-false}
use Rattle.std.proofs.Math.ListN.{length, get_or}
use Rattle.std.proofs.lemmas.List.{get_or-replicate}
use Rattle.std.specs.Prelude.{if◌then◌else◌}
use Rattle.basic_laws.specs.Each.{Each}
use Rattle.basic_laws.specs.EachLaws.{each-implies, each-mapped}
use Rattle.basic_laws.specs.Fold.{all}
use Rattle.basic_laws.specs.OneAmong.{OneAmong}
use Rattle.basic_laws.specs.OneAmongLaws.{one_each, one-mapped}
use Rattle.basic_laws.specs.Bits.{bit_at, bits_of, number_of}
use Rattle.basic_laws.specs.BitsLaws.{bits_at, number-bits}
use Rattle.basic_laws.specs.Bytes.{Bytes}
use Rattle.search_laws.specs.Reads.{read_slots}
use Rattle.search_laws.specs.Wire.{slots}
use Rattle.device.specs.Hear.{after_scratchpad, hear_of}
use Rattle.device.specs.Laws.{only_moves}
use Rattle.device.proofs.Laws.{hear-only-stage, quiet-stays, quiet-offers}
use Rattle.device.specs.Offer.{offer_of, nine_bytes, scratchpad_slot}
use Rattle.device.specs.OfferLaws.{nine-length}
use Rattle.device.specs.declared.Device.{Device}
use Rattle.device.specs.declared.Stage.{Stage}
use Rattle.device.specs.declared.Stage.TheVariants.{SendScratchpad, Quiet}
use Rattle.bench.specs.Bench.{live}
use Rattle.bench.specs.Slot.{line_bit, heard}
use Rattle.bench.specs.declared.Bench.{Bench}
use Rattle.bench.proofs.Laws.{line-live, heard-live, slot-accepted}
use Rattle.master_rules.specs.OnTheBench.{Free}
use Rattle.master_rules.proofs.OnTheBench.{free-heard}
use Rattle.master_rules.specs.Thermometers.{unstaged, Moving}
use Rattle.master_rules.specs.Wire.{shown}
use Rattle.master_rules.specs.Access.{after_slots, bytes_shown}
use Rattle.access_laws.specs.Picked.{half-then}

pub record Replies (R : List ℕ) (Inv : ℕ → ℕ → List Device → Type 0) : Type 0 where
  pub moving : (k j : ℕ) (ds : List Device) → Inv k j ds → Each Moving ds
  pub offers : (k j : ℕ) (ds : List Device) → k < 9 → j < 8 → Inv k j ds → all offer_of ds ≡ bit_at (get_or R k 0) j
  pub hears : (k j : ℕ) (ds : List Device) → k < 9 → j < 8 → (l : Bool) → Inv k j ds
      → Inv k (suc j) (map (λ d. hear_of d l) ds)
  pub turns : (k : ℕ) (ds : List Device) → Inv k 8 ds → Inv (suc k) 0 ds

-- ## Bit by bit and byte by byte

-- the first of some read slots, of which the line's bit is known
after_one : (m : ℕ) (c : Bench) (bit : Bool) → Free c → line_bit c true ≡ bit
    → after_slots (suc m) c ≡ after_slots m (heard c bit)
unfolding slots
after_one m c bit f line = ap (λ s. after_slots m s.bench) (slot-accepted c true f)
    ∙ ap (λ (l : Bool). after_slots m (heard c l)) line

module _ (R : List ℕ) (Inv : ℕ → ℕ → List Device → Type 0) (r : Replies R Inv) where
  -- m slots, with which byte k ends
  record ByteEnds (k m : ℕ) (bits : List Bool) (c : Bench) : Type 0 where
    pub lines : shown (read_slots m) c ≡ bits
    pub ended : Inv k 8 (live (after_slots m c))
    pub stays-free : Free (after_slots m c)

  byte-ends : (k : ℕ) → k < 9 → (m j : ℕ) → j + m ≡ 8 → (c : Bench) → Inv k j (live c) → Free c
      → ByteEnds k m (bits_of m (get_or R k 0 / 2 ^ j)) c
  unfolding slots bits_of
  byte-ends k h zero j e c i f = let z : j ≡ 8 = omega arith in
      record { lines = refl; ended = rw z at i; stays-free = f }
  byte-ends k h (suc m) j e c i f =
      let l : j < 8 = omega arith in
      let bit = bit_at (get_or R k 0) j in
      let line : line_bit c true ≡ bit = line-live c true ∙ r.offers k j (live c) h l i in
      let next : Inv k (suc j) (live (heard c bit)) = rw (heard-live c bit) (r.hears k j (live c) h l bit i) in
      let g : Free (heard c bit) = free-heard c bit (r.moving k j (live c) i) ∙ f in
      let later = byte-ends k h m (suc j) (omega arith) (heard c bit) next g in
      record {
        lines = rw (slot-accepted c true f, line, half-then (get_or R k 0) j, later.lines);
        ended = rw (after_one m c bit f line) later.ended;
        stays-free = rw (after_one m c bit f line) later.stays-free;
      }

  module _ (long : length R ≡ 9) (bytes : Bytes R) where
    bytes_left : (n k : ℕ) → k + n ≡ 9 → (c : Bench) → Inv k 0 (live c) → Free c → bytes_shown n c ≡ drop k R
    unfolding bytes_shown
    bytes_left zero k e c i f = let h : length R ≤ k = omega arith in sym (drop_of_length-le R h)
    bytes_left (suc n) k e c i f =
        let h : k < 9 = omega arith in
        let x = get_or R k 0 in
        let b = byte-ends k h 8 0 refl c i f in
        let one : x / 1 ≡ x = omega arith in
        let first : number_of (shown (read_slots 8) c) ≡ x =
        ap number_of (b.lines ∙ ap (bits_of 8) one) ∙ number-bits 8 x (bytes k) in
        let later = bytes_left n (suc k) (omega arith) (after_slots 8 c) (r.turns k _ b.ended) b.stays-free in
        rw (first, later) (sym (drop-cons R k 0 (omega arith)))

    pub reply-shown : (c : Bench) → Inv 0 0 (live c) → Free c → bytes_shown 9 c ≡ R
    reply-shown c i f = bytes_left 9 0 refl c i f

-- ## Quiet devices

abbrev pub IsQuiet : Device → Type 0
IsQuiet d = d.stage ≡ Quiet

quiet-moves : (d : Device) → IsQuiet d → Moving d
quiet-moves d q = ap only_moves q

quiet-hears : (l : Bool) (d : Device) → IsQuiet d → IsQuiet (hear_of d l)
quiet-hears l d q = ap (λ e. e.stage) (quiet-stays d l q) ∙ q

quiet-ones : (ds : List Device) → Each IsQuiet ds → all offer_of ds ≡ true
unfolding all
quiet-ones [] q = refl
quiet-ones (d ∷ ds) q = let i = quiet-ones ds q.1 in rw (quiet-offers d q.0, i)

ones_bit : (j : ℕ) → j < 8 → bit_at 255 j ≡ true
unfolding bits_of
ones_bit j h = sym (bits_at 8 255 j h) ∙ get_or-replicate 8 j true false h

-- where all are quiet
pub silence : Replies (replicate 9 255) (λ k j. Each IsQuiet)
silence = record {
  moving = λ k j ds. each-implies quiet-moves ds;
  offers = λ k j ds h l i. quiet-ones ds i ∙ sym (rw (get_or-replicate {A = ℕ} 9 k 255 0 h) (ones_bit j l));
  hears = λ k j ds h l x i. each-mapped IsQuiet (λ d. hear_of d x) (quiet-hears x) ds i;
  turns = λ k ds i. i;
}

-- ## One device that sends

-- where a sending device stands at bit j of byte k; after its last bit at the next byte, and after the last byte quiet
abbrev pub send_stage : ℕ → ℕ → Stage
send_stage k j = if ltb j 8 then (if ltb k 9 then SendScratchpad k j else Quiet) else if ltb k 8
    then SendScratchpad (k + 1) 0 else Quiet

abbrev pub Sends : List ℕ → ℕ → ℕ → Device → Type 0
Sends pad k j d = (d.stage ≡ send_stage k j) × (d.scratchpad ≡ pad)

sends-moves : (k j : ℕ) → only_moves (send_stage k j) ≡ true
sends-moves k j = by_tests (ltb j 8) (ltb k 9) (ltb k 8)
  where
    by_tests : (t u v : Bool) → only_moves (if t then (if u then SendScratchpad k j else Quiet) else if v
        then SendScratchpad (k + 1) 0 else Quiet) ≡ true
    by_tests true true v = refl
    by_tests true false v = refl
    by_tests false u true = refl
    by_tests false u false = refl

at-bit : (k j : ℕ) → k < 9 → j < 8 → send_stage k j ≡ SendScratchpad k j
at-bit k j h l = rw (lt-ltb j 8 l, lt-ltb k 9 h)

next_bit : (k j : ℕ) → k < 9 → j < 8 → after_scratchpad k j ≡ send_stage k (suc j)
next_bit k j h l = rw (lt-ltb j 8 l, lt-ltb k 9 h) (by-test (ltb j 7) refl)
  where
    by-test : (t : Bool) → ltb j 7 ≡ t
        → (if t then SendScratchpad k (j + 1) else if ltb k 8 then SendScratchpad (k + 1) 0 else Quiet)
        ≡ (if ltb (suc j) 8 then SendScratchpad k (suc j) else if ltb k 8 then SendScratchpad (k + 1) 0 else Quiet)
    by-test true e = let m = ltb-true j 7 e in let n : suc j < 8 = omega arith in rw (lt-ltb (suc j) 8 n, add-one j)
    by-test false e = let m = ltb-false j 7 e in let n : j ≡ 7 = omega arith in rw n

next-byte : (k : ℕ) → send_stage k 8 ≡ send_stage (suc k) 0
next-byte k = by-test (ltb k 8) refl
  where
    by-test : (t : Bool) → ltb k 8 ≡ t → (if t then SendScratchpad (k + 1) 0 else Quiet)
        ≡ (if ltb (suc k) 9 then SendScratchpad (suc k) 0 else Quiet)
    by-test true e = let m = ltb-true k 8 e in let n : suc k < 9 = omega arith in rw (lt-ltb (suc k) 9 n, add-one k)
    by-test false e = let m = ltb-false k 8 e in rw (le-ltb (suc k) 9 (omega arith))

module _ (pad : List ℕ) (long : length pad ≡ 8) where
  sent-bit : (k j : ℕ) → k < 9 → j < 8 → (d : Device) → Sends pad k j d → offer_of d ≡ bit_at (get_or (nine_bytes pad) k 0) j
  unfolding scratchpad_slot
  sent-bit k j h l d s =
      let e : d.stage ≡ SendScratchpad k j = s.0 ∙ at-bit k j h l in
      rw (e, s.1, nine-length pad long, lt-ltb k 9 h, lt-ltb j 8 l)

  sent-next : (k j : ℕ) → k < 9 → j < 8 → (l : Bool) (d : Device) → Sends pad k j d → Sends pad k (suc j) (hear_of d l)
  unfolding hear_of
  sent-next k j h l x d s =
      let e : d.stage ≡ SendScratchpad k j = s.0 ∙ at-bit k j h l in
      rw e (next_bit k j h l, s.1)

  one-offers : (x : Bool) (k j : ℕ) → ((d : Device) → Sends pad k j d → offer_of d ≡ x) → (ds : List Device)
      → OneAmong (Sends pad k j) IsQuiet ds → all offer_of ds ≡ x
  unfolding all
  one-offers x k j p [] o = absurd o
  one-offers x k j p (d ∷ ds) (inl o) = rw (p d o.0, quiet-ones ds o.1) (and-true x)
  one-offers x k j p (d ∷ ds) (inr o) = let i = one-offers x k j p ds o.1 in rw (quiet-offers d o.0, i)

  -- where one sends and all others are quiet
  pub sending : Replies (nine_bytes pad) (λ k j. OneAmong (Sends pad k j) IsQuiet)
  sending = record {
    moving = λ k j ds. one_each (λ d s. ap only_moves s.0 ∙ sends-moves k j) quiet-moves ds;
    offers = λ k j ds h l. one-offers (bit_at (get_or (nine_bytes pad) k 0) j) k j (sent-bit k j h l) ds;
    hears = λ k j ds h l x. one-mapped (Sends pad k j) IsQuiet (Sends pad k (suc j)) IsQuiet (λ d. hear_of d x)
        (sent-next k j h l x) (quiet-hears x) ds;
    turns = λ k ds. subst (λ (s : Stage). OneAmong (λ d. (d.stage ≡ s) × (d.scratchpad ≡ pad)) IsQuiet ds)
        (next-byte k);
  }

-- ## Nothing but stages changes

-- a device that sends its scratchpad, at whatever bit, or is quiet
pub data Replying (d : Device) : Type 0 where
  sends : (k j : ℕ) → d.stage ≡ SendScratchpad k j → Replying d
  silent : d.stage ≡ Quiet → Replying d

replying-moves : (d : Device) → Replying d → Moving d
replying-moves d (sends k j e) = ap only_moves e
replying-moves d (silent e) = ap only_moves e

replying-hears : (l : Bool) (d : Device) → Replying d → Replying (hear_of d l)
unfolding hear_of
replying-hears l d (silent e) = silent (rw e)
replying-hears l d (sends k j e) = by_tests (not (ltb k 9 && ltb j 8)) (ltb j 7) (ltb k 8) (rw e)
  where
    by_tests : (t u v : Bool)
        → (hear_of d l).stage ≡ (if t then Quiet else if u then SendScratchpad k (j + 1) else if v
        then SendScratchpad (k + 1) 0 else Quiet) → Replying (hear_of d l)
    by_tests true u v q = silent q
    by_tests false true v q = sends k (j + 1) q
    by_tests false false true q = sends (k + 1) 0 q
    by_tests false false false q = silent q

heard-kept : (l : Bool) (ds : List Device) → Each Replying ds
    → map unstaged (map (λ d. hear_of d l) ds) ≡ map unstaged ds
heard-kept l [] r = refl
heard-kept l (d ∷ ds) r =
    let e : unstaged (hear_of d l) ≡ unstaged d = ap unstaged (hear-only-stage d l (replying-moves d r.0)) in
    let i = heard-kept l ds r.1 in
    rw (e, i)

pub slots_kept : (n : ℕ) (c : Bench) → Each Replying (live c) → Free c
    → map unstaged (live (after_slots n c)) ≡ map unstaged (live c)
unfolding slots
slots_kept zero c r f = refl
slots_kept (suc n) c r f =
    let l = line_bit c true in
    let next : Each Replying (live (heard c l)) =
    rw (heard-live c l) (each-mapped Replying (λ d. hear_of d l) (replying-hears l) (live c) r) in
    let g : Free (heard c l) = free-heard c l (each-implies replying-moves (live c) r) ∙ f in
    ap (λ b. map unstaged (live b)) (after_one n c l f refl) ∙ slots_kept n (heard c l) next g
    ∙ ap (map unstaged) (heard-live c l) ∙ heard-kept l (live c) r
