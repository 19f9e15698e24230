-- A search as a loop over the passes makes it: the code before and the place of departure go from pass to pass, and the
-- loop ends with a pass that leaves no place or in which nobody answers. It is the search by plans, with its codes as
-- numbers: `loop-search`.
--     Sweep                              what the loop carries
--     turn B command n s                 one turn, a pass; nothing more once no pass is to be made
--     turns B command n k s              k turns
--     loop_search B command fuel n ds     the search: at most `fuel` turns from the code 0 and no place
use Rattle.std.specs.Prelude.{◌≡◌, Bool, false, ltb, take}
use Rattle.std.proofs.Math.Path.{refl, sym, ap}
use Rattle.std.proofs.Common.{◌∙◌, ltb-true}
use Rattle.std.proofs.Math.Bool.{true}
use Rattle.std.proofs.Math.Option.{Option, none, some}
use mathlib.Core.List.{List, [], ◌∷◌, ◌++◌, append-nil, append_assoc}
use Prim.Native.Nat.{ℕ, zero, suc}
use native.Mathlib.Omega.{arith}
use Rattle.std.proofs.Math.ListN.{length}
use Rattle.std.specs.Prelude.{if◌then◌else◌}
use Rattle.basic_laws.specs.Bits.{number_of}
use Rattle.search_laws.specs.Codes.{first, other_bits}
use Rattle.search_laws.specs.Pass.{Triple, triple, Plan, choice, on_some, found, next}
use Rattle.search_laws.specs.PassLaws.{on_some_lem, never}
use Rattle.search_laws.specs.Wire.{Bus, Pass, passed, with_triple, unanswered, with_code}
use Rattle.search_laws.specs.Wire.{triplets, wire_pass, search_from, wire_search}
use Rattle.search_laws.specs.Issued.{longer-option}
use Rattle.search_laws.specs.Departure.{last_from, plan_of}
use Rattle.search_laws.proofs.DepartureLaws.{takes-plan, takes_first, next-plan}
use Rattle.search_laws.specs.PassLoop.{Walk, answers, loop_pass, SamePass}
use Rattle.search_laws.proofs.PassLoop.{loop-pass}
use Rattle.search_laws.specs.SearchLoop.{Goes, Made, SameSearch, Sweep, found-length, loop_search, same_none, sweep, turn-pass, turns, turns-over, with_pass}

module _ (B : Bus) (command : List Bool) (n : ℕ) where
  triplets-length : (m : ℕ) (plan : Plan) (ds : B.Devices) (ts : List Triple) → (triplets B m plan ds).triples ≡ some ts
      → length ts ≡ m
  unfolding triplets
  triplets-length zero plan ds ts e = let f : ts ≡ [] = cc in rw f
  triplets-length (suc m) plan ds ts e =
      let once = B.after true ds in
      let twice = B.after true once in
      let a = B.line true ds in
      let b = B.line true once in
      let i : (d : Bool) (us : List Triple) → (triplets B m (other_bits plan) (B.after d twice)).triples ≡ some us
      → length us ≡ m =
      λ d. triplets-length m (other_bits plan) (B.after d twice) in
      on_some_lem (λ (p : Pass B.Devices). p.triples ≡ some ts
      → length ts ≡ suc m) (choice a b (first plan)) (passed none (a ∷ b ∷ []) twice)
      (λ d. with_triple (triple a b d) (B.line d twice) (triplets B m (other_bits plan) (B.after d twice)))
      (λ z. absurd (never z))
      (λ d z.
      let k = longer-option (triple a b d) _ ts z in
      rw k.is (ap suc (i d k.others k.others-is))) e

  -- The plan after a pass.
  goes_on : (ts : List Triple) (s : Sweep B.Devices) → length ts ≡ n → s.going ≡ ltb (last_from 0 n ts) n
      → s.previous ≡ number_of (found ts)
      → s.departure ≡ last_from 0 n ts → Goes n (next ts) s
  goes_on ts s l g p d =
      let D = last_from 0 n ts in
      let e : next ts ≡ plan_of n (found ts) D = rw l at (next-plan ts) in
      rw e (by-test (ltb D n) refl)
    where
      by-test : (t : Bool) → ltb (last_from 0 n ts) n ≡ t
          → Goes n (if t then some (take (last_from 0 n ts) (found ts) ++ true ∷ []) else none) s
      by-test true e =
          let h = ltb-true (last_from 0 n ts) n e in
          let f = found-length ts in
          (g ∙ e, λ k b. rw (p, d) (takes-plan (found ts) (last_from 0 n ts) k (omega arith)))
      by-test false e = g ∙ e

  -- One pass, and the search after it.
  by_answer : (s : Sweep B.Devices) (plan : Plan) (w : Walk B.Devices) (k : ℕ)
      → SamePass n (wire_pass B command n plan s.devices) w
      → ((o : Option Plan) (t : Sweep B.Devices) → Goes n o t
      → Made t (search_from B command k n o t.devices) (turns B command n k t))
      → (o : Option (List Triple)) → (wire_pass B command n plan s.devices).triples ≡ o
      → Made s
      (on_some o (unanswered (wire_pass B command n plan s.devices)) (λ ts.
      with_code (found ts) (wire_pass B command n plan s.devices).lines
      (search_from B command k n (next ts) (wire_pass B command n plan s.devices).devices)))
      (turns B command n k (with_pass B command n s w))
  by_answer s plan w k m i none e =
      let a : w.answered ≡ false = m.answered-is ∙ ap answers e in
      let t = with_pass B command n s w in
      let over : turns B command n k t ≡ t = turns-over B command n k t (rw a) in
      rw over (record {
        codes-are = rw a (sym (append-nil s.codes));
        lines_are = rw m.lines_are;
        devices-are = m.devices-are;
      })
  by_answer s plan w k m i (some ts) e =
      let a : w.answered ≡ true = m.answered-is ∙ ap answers e in
      let c = m.code_is ts e in
      let d = m.last-is ts e in
      let t = with_pass B command n s w in
      let l = triplets-length n plan _ ts e in
      let h = i (next ts) t (goes_on ts t l (rw (a, d)) c d) in
      record {
        codes-are = h.codes-are ∙ rw (a, c, m.devices-are) (append_assoc s.codes (number_of (found ts) ∷ []) _);
        lines_are = h.lines_are ∙ rw (m.lines_are, m.devices-are) (append_assoc s.lines (_ ∷ []) _);
        devices-are = h.devices-are ∙ rw m.devices-are;
      }

  turns-search : (k : ℕ) (o : Option Plan) (s : Sweep B.Devices) → Goes n o s
      → Made s (search_from B command k n o s.devices) (turns B command n k s)
  unfolding turns search_from
  turns-search zero o s g = same_none s
  turns-search (suc k) none s g = rw (turns-over B command n (suc k) s g) (same_none s)
  turns-search (suc k) (some plan) s g =
      let w = loop_pass B command n s.previous s.departure s.devices in
      let m = loop-pass B n s.previous s.departure plan g.1 command s.devices in
      let i : (o : Option Plan) (t : Sweep B.Devices) → Goes n o t
      → Made t (search_from B command k n o t.devices) (turns B command n k t) =
      λ o t. turns-search k o t in
      rw (turn-pass B command n s g.0) (by_answer s plan w k m i
      (wire_pass B command n plan s.devices).triples refl)

  pub loop-search : (fuel : ℕ) (ds : B.Devices)
      → SameSearch (wire_search B command fuel n ds) (loop_search B command fuel n ds)
  loop-search fuel ds =
      let m = turns-search fuel (some []) (sweep true 0 n [] [] ds) (refl, λ k h. takes_first n k h) in
      record { codes-are = m.codes-are; lines_are = m.lines_are; devices-are = m.devices-are }
