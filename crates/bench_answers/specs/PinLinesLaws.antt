-- The answer to the call for address pins, part by part. A probe's line is at most 21 bytes, so that 32 of them and the
-- counts are within the room.
--     Put                       what the loop over the probes has put: the lines of the first i, and the place behind
--                               them
--     says-pins                 the counts and the lines behind them are one answer
--     codes-front, pins-front   the codes and pins found are the front of the list lent and of the pins answered
--     says-asked                so that what is said of those is said of what the call came to
use Rattle.std.specs.Prelude.{ℕ, zero, suc, ◌+◌, ◌*◌, ◌<◌, ◌≤◌, ◌≡◌, Bool, true, false, refl, List, [], ◌∷◌, ◌++◌, leb, ltb, min, length, take, get_or, replicate}
use Rattle.std.proofs.Common.{sym, ap, subst, ◌∙◌, append_assoc, append-nil, arith, add-one, leb-false, leb-true, lit<, length-append, length-take, take_all}
use Rattle.std.proofs.Math.Dec.{lit≤}
use Rattle.std.specs.Prelude.{if◌then◌else◌}
use Rattle.basic_laws.specs.Laid.{laid}
use Rattle.basic_laws.specs.LaidLaws.{laid_none, laid-length, laid-read, laid_then}
use Rattle.refusals.specs.Refusals.{accepted}
use Rattle.text.specs.DigitsLaws.{digits-length}
use Rattle.text.specs.Putting.{line_room, Puts}
use Rattle.text.specs.FieldsLaws.{byte-digits}
use Rattle.bench.specs.declared.Bench.{Bench}
use Rattle.master_rules.specs.Pins.{have_pin, shared_from, shared_pin, pins_outcome, pinned_of, pins_list_after}
use Rattle.master_rules.specs.declared.Pinned.{Pinned}
use Rattle.master_rules.specs.declared.SharedPin.TheVariants.{NoPin, Pin}
use Rattle.pins.specs.OutcomeLaws.{enough-places, found-few}
use Rattle.bench_answers.specs.Said.{says}
use Rattle.bench_answers.specs.declared.call_answers.Said.{Said}
use Rattle.bench_answers.specs.Whole.{room, Says}
use Rattle.bench_answers.specs.PinLines.{shared_text, pins_line, pin_line, pin_lines, of_pins}

-- ## How long

pub pin-short : (code pin : ℕ) → pin < 256 → length (pin_line code pin) ≤ 21
unfolding pin_line
pin-short code pin h = let l = digits-length 16 16 code in let m = byte-digits pin h in simp length-append (omega arith)

-- a pin number has at most three digits
shared-digits : (n p : ℕ) (pins : List ℕ) → n + p ≤ 256 → length (shared_text (shared_from n p pins)) ≤ 3
unfolding shared_from
shared-digits zero p pins h = lit≤ tt
shared-digits (suc n) p pins h = by-test (ltb 1 (have_pin pins p)) (shared-digits n (p + 1) pins (omega (arith, h)))
  where
    by-test : (t : Bool) → length (shared_text (shared_from n (p + 1) pins)) ≤ 3
        → length (shared_text (if t then Pin p else shared_from n (p + 1) pins)) ≤ 3
    by-test true i = byte-digits p (omega (arith, h))
    by-test false i = i

pub counts-short : (refusal codes : ℕ) (pins : List ℕ) → refusal < 256 → codes < 256
    → length (pins_line refusal codes (shared_pin pins)) ≤ line_room
unfolding pins_line
counts-short refusal codes pins h k =
    let a = byte-digits refusal h in
    let b = byte-digits codes k in
    let c = shared-digits 16 0 pins (lit≤ tt) in
    simp length-append (omega arith)

pub pins-refusal-short : (refusal : ℕ) → refusal < 256 → length (pins_line refusal 0 NoPin) ≤ line_room
unfolding pins_line
pins-refusal-short refusal h =
    let a = byte-digits refusal h in
    let b = byte-digits 0 (lit< tt) in
    simp length-append (omega arith)

-- ## Probe by probe

pub pins-next : (i : ℕ) (cs ps : List ℕ) → i < length cs → i < length ps
    → pin_lines (take (suc i) cs) (take (suc i) ps)
    ≡ pin_lines (take i cs) (take i ps) ++ pin_line (get_or cs i 0) (get_or ps i 0)
unfolding pin_lines
pins-next i [] ps h k = absurd (omega (arith, h))
pins-next i (c ∷ cs) [] h k = absurd (omega (arith, k))
pins-next zero (c ∷ cs) (p ∷ ps) h k = append-nil (pin_line c p)
pins-next (suc i) (c ∷ cs) (p ∷ ps) h k =
    let more = pins-next i cs ps (omega (arith, h)) (omega (arith, k)) in
    ap (λ (x : List ℕ). pin_line c p ++ x) more
    ∙ sym (append_assoc (pin_line c p) (pin_lines (take i cs) (take i ps)) (pin_line (get_or cs i 0) (get_or ps i 0)))

-- what the loop has put before place i
pub record Put (out₀ : List ℕ) (at : ℕ) (cs ps : List ℕ) (i to : ℕ) (out : List ℕ) : Type 0 where
  pub place : to ≡ at + length (pin_lines (take i cs) (take i ps))
  pub short : length (pin_lines (take i cs) (take i ps)) ≤ 21 * i
  pub laid_so : out ≡ laid out₀ at (pin_lines (take i cs) (take i ps))

module _ (out₀ : List ℕ) (at : ℕ) (cs ps : List ℕ) (same : length cs
    ≡ length ps) (fits : at + 21 * length cs ≤ length out₀) where
  pub put-none : Put out₀ at cs ps 0 at out₀
  unfolding pin_lines
  put-none = record { place = omega arith; short = lit≤ tt; laid_so = laid_none out₀ at }

  pub put-size : (i to : ℕ) (out : List ℕ) → i ≤ length cs → Put out₀ at cs ps i to out → length out ≡ length out₀
  put-size i to out h p = let s = p.short in
      ap length p.laid_so ∙ laid-length out₀ at (pin_lines (take i cs) (take i ps)) (omega arith)

  pub put-more : (i to : ℕ) (out out' : List ℕ) (r : ℕ) → i < length cs → Put out₀ at cs ps i to out
      → Puts out to (pin_line (get_or cs i 0) (get_or ps i 0)) out' r → length (pin_line (get_or cs i 0) (get_or ps i 0)) ≤ 21
      → Put out₀ at cs ps (i + 1) r out'
  put-more i to out out' r h p done few =
      let one = pin_line (get_or cs i 0) (get_or ps i 0) in
      let before = pin_lines (take i cs) (take i ps) in
      let size = put-size i to out (omega (arith, h)) p in
      let place = p.place in
      let short = p.short in
      let next : pin_lines (take (i + 1) cs) (take (i + 1) ps) ≡ before ++ one =
      rw (add-one i) (pins-next i cs ps h (omega (arith, h, same))) in
      let both = length-append before one in
      let so = done.puts (omega arith) in
      let behind = so.1 in
      let long : length (pin_lines (take (i + 1) cs) (take (i + 1) ps)) ≡ length before + length one =
      ap length next ∙ both in
      record {
        place = omega arith;
        short = omega arith;
        laid_so = so.0 ∙ ap (λ (d : List ℕ). laid d to one) p.laid_so
            ∙ laid_then out₀ at before one to (sym place) (omega arith) ∙ ap (laid out₀ at) (sym next);
      }

  pub put_all : (i to : ℕ) (out : List ℕ) → length cs ≤ i → i ≤ length cs → Put out₀ at cs ps i to out
      → (to ≡ at + length (pin_lines cs ps)) × (out ≡ laid out₀ at (pin_lines cs ps))
      × (length (pin_lines cs ps) ≤ 21 * length cs)
  put_all i to out h k p =
      let front : take i cs ≡ cs = take_all i cs h in
      let front-pins : take i ps ≡ ps = take_all i ps (omega (arith, h, same)) in
      let is : i ≡ length cs = omega (arith, h, k) in
      let short : length (pin_lines cs ps) ≤ 21 * i = rw (front, front-pins) at p.short in
      (rw (front, front-pins) at p.place, rw (front, front-pins) at p.laid_so, omega (arith, is, short))

-- ## The counts and the lines behind them

module _ (d x d₁ : List ℕ) (n : ℕ) (wide : room ≤ length d) (few : length x ≤ line_room) (put : Puts d 0 x d₁ n) where
  pub counts-put : (n ≡ length x) × (d₁ ≡ laid d 0 x) × (length d₁ ≡ length d)
  counts-put =
      let so = put.puts (omega arith) in
      let behind = so.1 in
      (omega arith, so.0, ap length so.0 ∙ laid-length d 0 x (omega arith))

  pub says-pins : (y d₂ : List ℕ) (m : ℕ) (b : Bench) → length y ≤ 672 → m ≡ n + length y → d₂ ≡ laid d₁ n y
      → Says d (says (x ++ y) b) d₂ (record { refusal = accepted; count = m; bench = b })
  says-pins y d₂ m b short count so =
      let c = counts-put in
      let place = c.0 in
      let both = length-append x y in
      let sum : m ≡ length (x ++ y) = omega arith in
      let all : d₂ ≡ laid d 0 (x ++ y) = so ∙ ap (λ (e : List ℕ). laid e n y) c.1
      ∙ laid_then d 0 x y n (omega arith) (omega arith) in
      record {
        said = ap (λ (k : ℕ). record { refusal = accepted; count = k; bench = b }) sum;
        laid-is = all;
        fits = omega arith;
      }

-- ## What the call came to

-- the codes and the pins are the front of what was lent and answered
module _ (b : Bench) (list list' : List ℕ) (r : Pinned) (is : r ≡ pinned_of (pins_outcome b (length list))) (so : list'
    ≡ pins_list_after list (pins_outcome b (length list))) where
  count-is : r.codes ≡ length (pins_outcome b (length list)).found.codes
  count-is = ap (λ (q : Pinned). q.codes) is

  pub codes-front : take r.codes list' ≡ (pins_outcome b (length list)).found.codes
  codes-front = ap (λ (n : ℕ). take n list') count-is
      ∙ ap (take (length (pins_outcome b (length list)).found.codes)) so
      ∙ laid-read list 0 (pins_outcome b (length list)).found.codes (omega arith)

  pub pins-front : take r.codes r.pins ≡ (pins_outcome b (length list)).found.pins
  pins-front =
      let f = (pins_outcome b (length list)).found in
      ap (λ (n : ℕ). take n r.pins) (count-is ∙ sym (found-few b (length list)).as_many)
      ∙ ap (λ (q : Pinned). take (length f.pins) q.pins) is
      ∙ laid-read (replicate 32 0) 0 f.pins (omega arith)

  pub codes-within : r.codes ≤ length list'
  codes-within = omega (arith, length-take r.codes list', ap length codes-front, count-is)

  pub pins-within : r.codes ≤ length r.pins
  pins-within = omega (
    arith,
    length-take r.codes r.pins,
    ap length pins-front,
    (found-few b (length list)).as_many,
    count-is,
  )

  pub asked-few : (length (take r.codes list') ≤ 32)
      × (length (take r.codes list') ≡ length (take r.codes r.pins))
  asked-few = (
    omega (arith, ap length codes-front, (found-few b (length list)).most),
    ap length codes-front ∙ sym (found-few b (length list)).as_many ∙ sym (ap length pins-front),
  )

  pub asked-short : r.refusal < 256 → length (pins_line r.refusal (length (take r.codes list')) r.shared)
      ≤ line_room
  asked-short h =
      let few = asked-few.0 in
      rw (ap (λ (q : Pinned). q.shared) is) (counts-short r.refusal (length (take r.codes list'))
      (pins_outcome b (length list)).found.pins h (omega (arith, few)))

  pub says-asked : (d d' : List ℕ) (s : Said)
      → Says d (says (pins_line r.refusal (length (take r.codes list')) r.shared
      ++ pin_lines (take r.codes list') (take r.codes r.pins)) r.bench) d' s
      → Says d (of_pins (pins_outcome b (length list))) d' s
  says-asked d d' s h =
      let o = pins_outcome b (length list) in
      subst (λ (q : Pinned). Says d (says (pins_line q.refusal (length o.found.codes) q.shared
      ++ pin_lines o.found.codes o.found.pins) q.bench) d' s) is
      (rw (codes-front, pins-front) at h)

-- more places than 32 are as good as just enough
pub pins-just-enough : (b : Bench) (places : ℕ) → pins_outcome b (min places 32) ≡ pins_outcome b places
pins-just-enough b places = by-test (leb 32 places) refl
  where
    by-test : (t : Bool) → leb 32 places ≡ t → pins_outcome b (min places 32) ≡ pins_outcome b places
    by-test true e =
        let most = leb-true 32 places e in
        let least : min places 32 ≡ 32 = omega arith in
        rw least (enough-places b 32 (lit≤ tt) ∙ sym (enough-places b places most))
    by-test false e =
        let few = leb-false 32 places e in
        let all : min places 32 ≡ places = omega arith in
        rw all refl
