-- A line under repair: its characters stand at the front of an array, taken from its end by the last two steps.
--     Repaired cs r          r holds the characters cs, mended, and which steps altered them
use Rattle.std.specs.Prelude.{◌≡◌, ℕ, ◌+◌, ◌≤◌, Bool, true, false, List, map, length, take, ◌==◌, nat_eq}
use Rattle.std.proofs.Common.{sym, ap, ◌∙◌, arith, take-take}
use Rattle.std.proofs.lemmas.List.{length-map}
use Rattle.std.specs.Prelude.{if◌then◌else◌}
use Rattle.basic_laws.specs.Same.{same}
use Rattle.mending.specs.Mending.{raised, unreturned, unspaced, mended_chars, step_mark}
use Rattle.mending.specs.StepLaws.{unreturned-take, unspaced-take, altered-shorter}
use Rattle.mending.specs.Repair.{Repaired}

altered-most : (step : ℕ) (before after : List ℕ) → step_mark step before after ≤ step
altered-most step before after = by-test (same before after)
  where
    by-test : (t : Bool) → (if t then 0 else step) ≤ step
    by-test true = omega arith
    by-test false = omega arith

-- the characters as they were raised, from the front of an array on
module _ (cs chars : List ℕ) (laid-there : take (length cs) chars ≡ map raised cs) where
  -- what the return leaves of them, and then what the spaces leave
  pub return-part : take (length (unreturned (map raised cs))) chars ≡ unreturned (map raised cs)
  return-part =
      let r = map raised cs in
      let size = length-map cs raised in
      let fewer = (unreturned-take r).0 in
      sym (take-take (length (unreturned r)) (length cs) chars (omega arith))
      ∙ ap (take (length (unreturned r))) laid-there ∙ sym (unreturned-take r).1

  pub spaces-part : take (length (mended_chars cs)) chars ≡ mended_chars cs
  spaces-part =
      let u = unreturned (map raised cs) in
      let fewer = (unspaced-take u).0 in
      sym (take-take (length (unspaced u)) (length u) chars (omega arith)) ∙ ap (take (length (unspaced u))) return-part
      ∙ sym (unspaced-take u).1

-- no step makes a line longer
pub mended-fewer : (cs : List ℕ) → length (mended_chars cs) ≤ length cs
mended-fewer cs =
    let r = map raised cs in
    let size = length-map cs raised in
    let one = (unreturned-take r).0 in
    let two = (unspaced-take (unreturned r)).0 in
    omega arith

-- what the code finds, call by call: where the return and the spaces stand, and which step altered the line
module _ (cs chars : List ℕ) (laid-there : take (length cs) chars ≡ map raised cs) (returned : ℕ) (r : returned
    ≡ length (unreturned (take (length cs) chars))) where
  pub return-place : (returned ≡ length (unreturned (map raised cs))) × (returned ≤ length cs)
  return-place =
      let place : returned ≡ length (unreturned (map raised cs)) =
      r ∙ ap (λ (x : List ℕ). length (unreturned x)) laid-there in
      let fewer = (unreturned-take (map raised cs)).0 in
      let size = length-map cs raised in
      (place, omega arith)

  pub repaired : length cs ≤ 256 → length chars ≡ 257 → (spaced : ℕ) → spaced ≡ length (unspaced (take returned chars))
      → (one two four : ℕ)
      → one ≡ (if same cs (take (length cs) chars) then 0 else 1) → two ≡ (if nat_eq returned (length cs) then 0 else 2)
      → four ≡ (if nat_eq spaced returned then 0 else 4)
      → Repaired cs record { chars = chars; end = spaced; altered = one + two + four }
  repaired short full spaced s one two four p q w =
      let raise = map raised cs in
      let u = unreturned raise in
      let at_return_lem = return-place.0 in
      let part : take returned chars ≡ u = ap (λ (n : ℕ). take n chars) at_return_lem ∙ return-part cs chars laid-there in
      let at-spaces : spaced ≡ length (unspaced u) = s ∙ ap (λ (x : List ℕ). length (unspaced x)) part in
      let first : one ≡ step_mark 1 cs raise = p ∙ ap (λ (x : List ℕ). step_mark 1 cs x) laid-there in
      let second : two ≡ step_mark 2 raise u =
      q ∙ ap (λ (n : ℕ). if n == length cs then 0 else 2) at_return_lem
      ∙ ap (λ (n : ℕ). if length u == n then 0 else 2) (sym (length-map cs raised))
      ∙ sym (altered-shorter 2 raise u (unreturned-take raise).0 (unreturned-take raise).1) in
      let third : four ≡ step_mark 4 u (unspaced u) =
      w ∙ ap (λ (n : ℕ). if n == returned then 0 else 4) at-spaces
      ∙ ap (λ (n : ℕ). if length (unspaced u) == n then 0 else 4) at_return_lem
      ∙ sym (altered-shorter 4 u (unspaced u) (unspaced-take u).0 (unspaced-take u).1) in
      record {
        front = ap (λ (n : ℕ). take n chars) at-spaces ∙ spaces-part cs chars laid-there;
        count = at-spaces;
        by = omega arith;
        few = let fewer = mended-fewer cs in omega arith;
        small =
            let a = altered-most 1 cs raise in
            let b = altered-most 2 raise u in
            let c = altered-most 4 u (unspaced u) in
            omega arith;
        room = full;
      }
