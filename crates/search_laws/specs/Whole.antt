-- A whole search by the slots it issued, on any bus: one in which each pass found a code is the passes of these codes,
-- and one that ends with the two reads of its first pass is the slots of the command and those reads.
--     search-issued      as many codes as passes
--     search-unheard     no code, and one pass of the command and two slots
use Rattle.std.specs.Prelude.{◌≡◌, Bool}
use Rattle.std.proofs.Math.Path.{refl, ap}
use Rattle.std.proofs.Common.{sym, arith}
use Rattle.std.proofs.Math.Bool.{true}
use Rattle.std.proofs.Math.Option.{Option, none, some}
use mathlib.Core.List.{List, [], ◌∷◌, ◌++◌}
use Prim.Native.Nat.{ℕ, zero, suc, ◌+◌}
use Rattle.std.proofs.Math.ListN.{length, length-append}
use Rattle.search_laws.specs.Codes.{first, other_bits}
use Rattle.search_laws.specs.Pass.{Triple, triple, Plan, choice, on_some, found, next}
use Rattle.search_laws.specs.PassLaws.{never}
use Rattle.search_laws.specs.Wire.{Bus, run, ran_passes, passed, with_triple, Search, searched, unanswered}
use Rattle.search_laws.specs.Wire.{with_code, slots, passes, triplets, wire_pass, search_from}
use Rattle.search_laws.specs.Issued.{slots-append, slots_length, pass-issued, run_of}

module _ (B : Bus) (command : List Bool) where
  -- a search that has found a code in each pass is the passes of its codes
  abbrev Issued : B.Devices → Search B.Devices → Type 0
  Issued ds s = length s.codes ≡ length s.lines
      → ran_passes s.lines s.devices ≡ passes B command s.codes ds

  module _ (n : ℕ) where
    pub search-issued : (fuel : ℕ) (o : Option Plan) (ds : B.Devices) → Issued ds (search_from B command fuel n o ds)
    unfolding search_from passes
    search-issued zero o ds e = refl
    search-issued (suc fuel) none ds e = refl
    search-issued (suc fuel) (some plan) ds e =
        by_answer (wire_pass B command n plan ds).triples refl
        (λ ts. search-issued fuel (next ts) (wire_pass B command n plan ds).devices) e
      where
        by_answer : (o : Option (List Triple)) → (wire_pass B command n plan ds).triples ≡ o
            → ((ts : List Triple) → Issued (wire_pass B command n plan ds).devices
            (search_from B command fuel n (next ts) (wire_pass B command n plan ds).devices))
            → Issued ds
            (on_some o (unanswered (wire_pass B command n plan ds)) (λ ts.
            with_code (found ts) (wire_pass B command n plan ds).lines
            (search_from B command fuel n (next ts) (wire_pass B command n plan ds).devices)))
        by_answer none a i e = absurd (omega arith)
        by_answer (some ts) a i e =
            let r = pass-issued B command n plan ds ts a in
            let j = i ts (omega arith) in
            rw (← r) (ap (λ q. ran_passes ((wire_pass B command n plan ds).lines ∷ q.lines) q.devices) j)

    -- two reads that nobody answers are two slots
    two-reads : (m : ℕ) (plan : Plan) (ds : B.Devices) → (triplets B m plan ds).triples ≡ none
        → length (triplets B m plan ds).lines ≡ 2
        → run (triplets B m plan ds).lines (triplets B m plan ds).devices ≡ slots B (true ∷ true ∷ []) ds
    unfolding triplets slots
    two-reads zero plan ds e h = absurd (never (sym e))
    two-reads (suc m) plan ds e h =
        by-choice (choice (B.line true ds) (B.line true (B.after true ds)) (first plan)) h
      where
        by-choice : (o : Option Bool)
            → length (on_some o (passed none (B.line true ds ∷ B.line true (B.after true ds) ∷ [])
            (B.after true (B.after true ds))) (λ d.
            with_triple (triple (B.line true ds) (B.line true (B.after true ds)) d)
            (B.line d (B.after true (B.after true ds)))
            (triplets B m (other_bits plan) (B.after d (B.after true (B.after true ds)))))).lines ≡ 2
            → run_of B (on_some o (passed none (B.line true ds ∷ B.line true (B.after true ds) ∷ [])
            (B.after true (B.after true ds))) (λ d.
            with_triple (triple (B.line true ds) (B.line true (B.after true ds)) d)
            (B.line d (B.after true (B.after true ds)))
            (triplets B m (other_bits plan) (B.after d (B.after true (B.after true ds))))))
            ≡ run (B.line true ds ∷ B.line true (B.after true ds) ∷ []) (B.after true (B.after true ds))
        by-choice none h = refl
        by-choice (some d) h = absurd (omega arith)

    pub search-unheard : (fuel : ℕ) (plan : Plan) (ds : B.Devices) (l : List Bool) (es : B.Devices)
        → search_from B command (suc fuel) n (some plan) ds ≡ searched [] (l ∷ []) es → length l ≡ length command + 2
        → run l es ≡ slots B (command ++ true ∷ true ∷ []) (B.reset ds)
    unfolding search_from
    search-unheard fuel plan ds l es e h = by_answer (wire_pass B command n plan ds).triples refl e
      where
        by_answer : (o : Option (List Triple)) → (wire_pass B command n plan ds).triples ≡ o
            → on_some o (unanswered (wire_pass B command n plan ds)) (λ ts.
            with_code (found ts) (wire_pass B command n plan ds).lines
            (search_from B command fuel n (next ts) (wire_pass B command n plan ds).devices))
            ≡ searched [] (l ∷ []) es
            → run l es ≡ slots B (command ++ true ∷ true ∷ []) (B.reset ds)
        by_answer none a f =
            let s = slots B command (B.reset ds) in
            let t = triplets B n plan s.devices in
            let g : (s.lines ++ t.lines) ∷ [] ≡ l ∷ [] = ap (λ r. r.lines) f in
            let k : s.lines ++ t.lines ≡ l = cc in
            let d : t.devices ≡ es = ap (λ r. r.devices) f in
            let m = slots_length B command (B.reset ds) in
            let c : length t.lines ≡ 2 = omega (arith, simp length-append at (ap length k)) in
            let w = two-reads n plan s.devices a c in
            rw (slots-append B command (true ∷ true ∷ []) (B.reset ds), ← w, k, d)
        by_answer (some ts) a f = let z = ap (λ s. length s.codes) f in absurd (omega arith)
