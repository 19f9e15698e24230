-- A pass as a loop over the places makes it: at each place two reads and the bit, with the code so far as a number and
-- the last place at which 0 was taken at a conflict. It is the pass by a plan: `loop-pass`.
--     Walk                               what the loop carries
--     bit_step B prev D j w               one turn, at place j: nothing more once nobody has answered
--     steps B prev D m j w               m turns from place j on
--     started_pass B command n prev D ds  a pass after its reset: the command, and a turn at each of n places
--     loop_pass B command n prev D ds     a pass: a reset, and the pass after it
use Rattle.std.specs.Prelude.{◌≡◌, Bool, false, get_or, drop}
use Rattle.std.proofs.Math.Path.{refl, sym}
use Rattle.std.proofs.Math.Bool.{true}
use Rattle.std.proofs.Math.Option.{none}
use mathlib.Core.List.{List, [], ◌∷◌, append-nil}
use Prim.Native.Nat.{ℕ, zero, suc, ◌+◌, ◌<◌}
use native.Mathlib.Omega.{arith}
use Rattle.basic_laws.specs.Bits.{number_of}
use Rattle.search_laws.specs.Codes.{other_bits}
use Rattle.search_laws.specs.Pass.{triple, Plan, choice, found}
use Rattle.search_laws.specs.PassLaws.{on_both}
use Rattle.search_laws.specs.Paths.{first-drop}
use Rattle.search_laws.specs.Wire.{Bus, passed, with_triple, slots, triplets, wire_pass}
use Rattle.search_laws.specs.Departure.{takes, last_from}
use Rattle.search_laws.specs.PassLoop.{Made, SamePass, Walk, bit-step, loop_pass, made_more, made_none, steps, steps-over, walk, walk_ends, walk_on}

rest-drop : (j : ℕ) (plan : Plan) → other_bits (drop j plan) ≡ drop (suc j) plan
rest-drop zero [] = refl
rest-drop (suc j) [] = refl
rest-drop zero (b ∷ plan) = refl
rest-drop (suc j) (b ∷ plan) = rest-drop j plan

module _ (B : Bus) (n prev D : ℕ) (plan : Plan) (same : (k : ℕ) → k < n → takes prev D k ≡ get_or plan k false) where
  steps-made : (m j : ℕ) (w : Walk B.Devices) → j + m ≡ n → w.answered ≡ true
      → Made j w (triplets B m (drop j plan) w.devices) (steps B prev D m j w)
  unfolding steps triplets found number_of last_from
  steps-made zero j w e h = record {
    answered-is = h;
    lines_are = sym (append-nil w.lines);
    devices-are = refl;
    code_is = λ ts f. let g : ts ≡ [] = cc in rw g (omega arith);
    last-is = λ ts f. let g : ts ≡ [] = cc in rw g;
  }
  steps-made (suc m) j w e h =
      let once = B.after true w.devices in
      let twice = B.after true once in
      let a = B.line true w.devices in
      let b = B.line true once in
      let l : j < n = omega arith in
      let i : (v : Walk B.Devices) → v.answered ≡ true
      → Made (suc j) v (triplets B m (drop (suc j) plan) v.devices) (steps B prev D m (suc j) v) =
      λ v k. steps-made m (suc j) v (omega arith) k in
      rw (bit-step B prev D j w h, same j l, first-drop, rest-drop)
      (on_both (λ v r. Made j w r (steps B prev D m (suc j) v)) (choice a b (get_or plan j false))
      (walk_ends w (a ∷ b ∷ []) twice) (λ d. walk_on j w (triple a b d) (B.line d twice) (B.after d twice))
      (passed none (a ∷ b ∷ []) twice) (λ d. with_triple (triple a b d) (B.line d twice)
      (triplets B m (drop (suc j) plan) (B.after d twice)))
      (rw (steps-over B prev D m (suc j) (walk_ends w (a ∷ b ∷ []) twice) refl) (made_none j w (a ∷ b ∷ []) twice))
      (λ d. made_more j w (triple a b d) (B.line d twice) (B.after d twice) _ _ (i _ refl)))

  -- A pass by places, where the places take what the plan has.
  pub loop-pass : (command : List Bool) (ds : B.Devices)
      → SamePass n (wire_pass B command n plan ds) (loop_pass B command n prev D ds)
  loop-pass command ds =
      let s = slots B command (B.reset ds) in
      let m = steps-made n 0 (walk true 0 n s.lines s.devices) (omega arith) refl in
      record {
        answered-is = m.answered-is;
        lines_are = m.lines_are;
        devices-are = m.devices-are;
        code_is = λ ts e. let c = m.code_is ts e in omega arith;
        last-is = m.last-is;
      }
