-- A pass as a loop over the places makes it: at each place two reads and the bit, with the code so far as a number and
-- the last place at which 0 was taken at a conflict. It is the pass by a plan: `loop-pass`.
--     Walk                               what the loop carries
--     bit_step B prev D j w               one turn, at place j: nothing more once nobody has answered
--     steps B prev D m j w               m turns from place j on
--     started_pass B command n prev D ds  a pass after its reset: the command, and a turn at each of n places
--     loop_pass B command n prev D ds     a pass: a reset, and the pass after it
use Rattle.std.specs.Prelude.{◌≡◌, Bool, false}
use Rattle.std.proofs.Math.Path.{refl, sym, ap}
use Rattle.std.proofs.Common.{◌∙◌, pow-suc, add-mul, mul_assoc, mul_comm}
use Rattle.std.proofs.Math.Bool.{true}
use Rattle.std.proofs.Math.Option.{Option, none, some, map}
use mathlib.Core.List.{List, [], ◌∷◌, ◌++◌, append_assoc}
use Prim.Native.Nat.{ℕ, zero, suc, ◌+◌, ◌*◌, ◌-◌, ◌^◌, ◌<◌, ◌≤◌}
use native.Mathlib.Omega.{arith}
use Rattle.std.proofs.Math.Numerals.{add-one}
use Rattle.std.specs.Prelude.{if◌then◌else◌}
use Rattle.basic_laws.specs.ChoiceLaws.{choice-then, choice-else}
use Rattle.basic_laws.specs.Bits.{bit_number, number_of}
use Rattle.search_laws.specs.Pass.{Triple, triple, choice, on_some, found, took_zero}
use Rattle.search_laws.specs.PassLaws.{never}
use Rattle.search_laws.specs.Wire.{Bus, Pass, passed, with_triple, slots}
use Rattle.search_laws.specs.Issued.{longer-option}
use Rattle.search_laws.specs.Departure.{takes, last_from}

pub record Walk (D : Type 0) : Type 0 where
  pub answered : Bool  -- somebody has answered at every place so far
  pub code : ℕ  -- the bits sent so far
  pub last : ℕ  -- the last place at which 0 was taken at a conflict; the number of all bits where there was none
  pub lines : List Bool  -- the line's bits so far
  pub devices : D

abbrev pub walk : {D : Type 0} → Bool → ℕ → ℕ → List Bool → D → Walk D
walk a c k l ds = record { answered = a; code = c; last = k; lines = l; devices = ds }

-- A walk after the triple at place j, in whose third slot the line showed l.
abbrev pub walk_on : {D : Type 0} → ℕ → Walk D → Triple → Bool → D → Walk D
walk_on j w t l ds =
    walk true (w.code + bit_number t.sent * 2 ^ j) (if took_zero t then j
    else w.last) (w.lines ++ t.bit ∷ t.co_bit ∷ l ∷ []) ds

-- A walk after two reads that nobody has answered.
abbrev pub walk_ends : {D : Type 0} → Walk D → List Bool → D → Walk D
walk_ends w l ds = walk false w.code w.last (w.lines ++ l) ds

module _ (B : Bus) (prev D : ℕ) where
  -- The three slots of a place, or the two reads where nobody answers.
  abbrev pub onward : ℕ → Walk B.Devices → Walk B.Devices
  onward j w =
      let once = B.after true w.devices in
      let twice = B.after true once in
      let a = B.line true w.devices in
      let b = B.line true once in
      on_some (choice a b (takes prev D j)) (walk_ends w (a ∷ b ∷ []) twice)
      (λ d. walk_on j w (triple a b d) (B.line d twice) (B.after d twice))

  unfoldable pub bit_step : ℕ → Walk B.Devices → Walk B.Devices
  bit_step j w = if w.answered then onward j w else w

  -- A turn at which somebody has answered so far.
  pub bit-step : (j : ℕ) (w : Walk B.Devices) → w.answered ≡ true → bit_step j w ≡ onward j w
  unfolding bit_step
  bit-step j w h = sym (choice-then w.answered _ w h)

  unfoldable pub steps : ℕ → ℕ → Walk B.Devices → Walk B.Devices
  steps zero j w = w
  steps (suc m) j w = steps m (suc j) (bit_step j w)

  -- ## The turns of a loop over the places below n

  pub steps-turn : (n j : ℕ) (w : Walk B.Devices) → j < n
      → steps (n - j) j w ≡ steps (n - (j + 1)) (j + 1) (bit_step j w)
  unfolding steps
  steps-turn n j w h =
      let e : n - j ≡ suc (n - (j + 1)) = omega arith in
      rw (e, add-one j)

  pub steps-end : (n j : ℕ) (w : Walk B.Devices) → n ≤ j → steps (n - j) j w ≡ w
  unfolding steps
  steps-end n j w h = let e : n - j ≡ 0 = omega arith in rw e

  pub steps-over : (m j : ℕ) (w : Walk B.Devices) → w.answered ≡ false → steps m j w ≡ w
  unfolding steps bit_step
  steps-over zero j w h = refl
  steps-over (suc m) j w h = ap (steps m (suc j)) (sym (choice-else w.answered _ w h)) ∙ steps-over m (suc j) w h

-- A pass on devices that its reset has restarted.
abbrev pub started_pass : (B : Bus) → List Bool → ℕ → ℕ → ℕ → B.Devices → Walk B.Devices
started_pass B command n prev D ds =
    let s = slots B command ds in
    steps B prev D n 0 (walk true 0 n s.lines s.devices)

abbrev pub loop_pass : (B : Bus) → List Bool → ℕ → ℕ → ℕ → B.Devices → Walk B.Devices
loop_pass B command n prev D ds = started_pass B command n prev D (B.reset ds)

-- ## It is the pass by a plan

-- Whether a pass has found a code.
abbrev pub answers : Option (List Triple) → Bool
answers none = false
answers (some ts) = true

-- The walk s is the pass r over n bits.
pub record SamePass {D : Type 0} (n : ℕ) (r : Pass D) (s : Walk D) : Type 0 where
  pub answered-is : s.answered ≡ answers r.triples
  pub lines_are : s.lines ≡ r.lines
  pub devices-are : s.devices ≡ r.devices
  pub code_is : (ts : List Triple) → r.triples ≡ some ts → s.code ≡ number_of (found ts)
  pub last-is : (ts : List Triple) → r.triples ≡ some ts → s.last ≡ last_from 0 n ts

-- A loop that has come from w at place j to s has made the slots of r.
pub record Made {D : Type 0} (j : ℕ) (w : Walk D) (r : Pass D) (s : Walk D) : Type 0 where
  pub answered-is : s.answered ≡ answers r.triples
  pub lines_are : s.lines ≡ w.lines ++ r.lines
  pub devices-are : s.devices ≡ r.devices
  pub code_is : (ts : List Triple) → r.triples ≡ some ts → s.code ≡ w.code + number_of (found ts) * 2 ^ j
  pub last-is : (ts : List Triple) → r.triples ≡ some ts → s.last ≡ last_from j w.last ts

answers-map : (t : Triple) (o : Option (List Triple)) → answers o ≡ answers (map (λ ts. t ∷ ts) o)
answers-map t none = refl
answers-map t (some ts) = refl

code-more : (b c j : ℕ) → b * 2 ^ j + c * 2 ^ suc j ≡ (b + 2 * c) * 2 ^ j
code-more b c j =
    let e : c * 2 ^ suc j ≡ 2 * c * 2 ^ j = ap (λ (k : ℕ). c * k) (pow-suc 2 j) ∙ sym (mul_assoc c (2 ^ j) 2)
    ∙ mul_comm (c * 2 ^ j) 2
    ∙ sym (mul_assoc 2 c (2 ^ j)) in
    rw (e, add-mul b (2 * c) (2 ^ j))

pub made_none : {D : Type 0} (j : ℕ) (w : Walk D) (l : List Bool) (ds : D) → Made j w (passed none l ds) (walk_ends w l ds)
made_none j w l ds = record {
  answered-is = refl;
  lines_are = refl;
  devices-are = refl;
  code_is = λ ts e. absurd (never e);
  last-is = λ ts e. absurd (never e);
}

module _ {D : Type 0} (j : ℕ) (w : Walk D) (t : Triple) (l : Bool) (ds : D) (r : Pass D) (s : Walk D) where
  pub made_more : Made (suc j) (walk_on j w t l ds) r s → Made j w (with_triple t l r) s
  unfolding found number_of last_from
  made_more m = record {
    answered-is = m.answered-is ∙ answers-map t r.triples;
    lines_are = m.lines_are ∙ append_assoc w.lines (t.bit ∷ t.co_bit ∷ l ∷ []) r.lines;
    devices-are = m.devices-are;
    code_is = λ ts e.
        let k = longer-option t r.triples ts e in
        let c = m.code_is k.others k.others-is in
        let p = code-more (bit_number t.sent) (number_of (found k.others)) j in
        rw k.is (omega arith);
    last-is = λ ts e.
        let k = longer-option t r.triples ts e in
        rw k.is (m.last-is k.others k.others-is);
  }
