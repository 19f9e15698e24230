-- A search as a loop over the passes makes it: the code before and the place of departure go from pass to pass, and the
-- loop ends with a pass that leaves no place or in which nobody answers. It is the search by plans, with its codes as
-- numbers: `loop-search`.
--     Sweep                              what the loop carries
--     turn B command n s                 one turn, a pass; nothing more once no pass is to be made
--     turns B command n k s              k turns
--     loop_search B command fuel n ds     the search: at most `fuel` turns from the code 0 and no place
use Rattle.std.specs.Prelude.{◌≡◌, Bool, false, ◌&&◌, ltb, get_or}
use Rattle.std.proofs.Math.Path.{refl, sym, ap}
use Rattle.std.proofs.Common.{◌∙◌}
use Rattle.std.proofs.Math.Bool.{true}
use Rattle.std.proofs.Math.Option.{Option, none, some}
use mathlib.Core.List.{List, [], ◌∷◌, ◌++◌, map, append-nil}
use Prim.Native.Nat.{ℕ, zero, suc, ◌+◌, ◌-◌, ◌<◌, ◌≤◌}
use native.Mathlib.Omega.{arith}
use Rattle.std.proofs.Math.ListN.{length}
use Rattle.std.specs.Prelude.{if◌then◌else◌}
use Rattle.basic_laws.specs.ChoiceLaws.{choice-then, choice-else}
use Rattle.basic_laws.specs.Bits.{number_of}
use Rattle.search_laws.specs.Pass.{Triple, Plan, found}
use Rattle.search_laws.specs.Wire.{Bus, Search, searched}
use Rattle.search_laws.specs.Departure.{takes}
use Rattle.search_laws.specs.PassLoop.{Walk, loop_pass}

pub record Sweep (D : Type 0) : Type 0 where
  pub going : Bool  -- a pass is still to be made
  pub previous : ℕ  -- the code that the last pass has found
  pub departure : ℕ  -- the place at which to depart from it
  pub codes : List ℕ  -- the codes so far
  pub lines : List (List Bool)  -- the line's bits of each pass so far
  pub devices : D

abbrev pub sweep : {D : Type 0} → Bool → ℕ → ℕ → List ℕ → List (List Bool) → D → Sweep D
sweep g c k cs l ds = record { going = g; previous = c; departure = k; codes = cs; lines = l; devices = ds }

module _ (B : Bus) (command : List Bool) (n : ℕ) where
  -- A sweep after a pass.
  abbrev pub with_pass : Sweep B.Devices → Walk B.Devices → Sweep B.Devices
  with_pass s w =
      sweep (w.answered && ltb w.last n) w.code w.last (if w.answered then s.codes ++ w.code ∷ []
      else s.codes) (s.lines ++ w.lines ∷ []) w.devices

  unfoldable pub turn : Sweep B.Devices → Sweep B.Devices
  turn s = if s.going then with_pass s (loop_pass B command n s.previous s.departure s.devices) else s

  unfoldable pub turns : ℕ → Sweep B.Devices → Sweep B.Devices
  turns zero s = s
  turns (suc k) s = turns k (turn s)

  -- ## The turns of a loop of at most k passes

  pub turns-turn : (k i : ℕ) (s : Sweep B.Devices) → i < k → turns (k - i) s ≡ turns (k - (i + 1)) (turn s)
  unfolding turns
  turns-turn k i s h = let e : k - i ≡ suc (k - (i + 1)) = omega arith in rw e

  pub turns-end : (k i : ℕ) (s : Sweep B.Devices) → k ≤ i → turns (k - i) s ≡ s
  unfolding turns
  turns-end k i s h = let e : k - i ≡ 0 = omega arith in rw e

  pub turns-over : (k : ℕ) (s : Sweep B.Devices) → s.going ≡ false → turns k s ≡ s
  unfolding turns turn
  turns-over zero s h = refl
  turns-over (suc k) s h = ap (turns k) (sym (choice-else s.going _ s h)) ∙ turns-over k s h

  pub turn-pass : (s : Sweep B.Devices) → s.going ≡ true
      → turn s ≡ with_pass s (loop_pass B command n s.previous s.departure s.devices)
  unfolding turn
  turn-pass s h = sym (choice-then s.going _ s h)

abbrev pub loop_search : (B : Bus) → List Bool → ℕ → ℕ → B.Devices → Sweep B.Devices
loop_search B command fuel n ds = turns B command n fuel (sweep true 0 n [] [] ds)

-- ## It is the search by plans

-- The sweep t is the search r, with its codes as numbers.
pub record SameSearch {D : Type 0} (r : Search D) (t : Sweep D) : Type 0 where
  pub codes-are : t.codes ≡ map number_of r.codes
  pub lines_are : t.lines ≡ r.lines
  pub devices-are : t.devices ≡ r.devices

-- A sweep that has come from s to t has made the search r.
pub record Made {D : Type 0} (s : Sweep D) (r : Search D) (t : Sweep D) : Type 0 where
  pub codes-are : t.codes ≡ s.codes ++ map number_of r.codes
  pub lines_are : t.lines ≡ s.lines ++ r.lines
  pub devices-are : t.devices ≡ r.devices

-- A sweep goes by a plan.
abbrev pub Goes : {D : Type 0} → ℕ → Option Plan → Sweep D → Type 0
Goes n none s = s.going ≡ false
Goes n (some plan) s = (s.going ≡ true) × ((k : ℕ) → k < n → takes s.previous s.departure k ≡ get_or plan k false)

pub found-length : (ts : List Triple) → length (found ts) ≡ length ts
unfolding found
found-length [] = refl
found-length (t ∷ ts) = ap suc (found-length ts)

pub same_none : {D : Type 0} (s : Sweep D) → Made s (searched [] [] s.devices) s
same_none s = record {
  codes-are = sym (append-nil s.codes);
  lines_are = sym (append-nil s.lines);
  devices-are = refl;
}
