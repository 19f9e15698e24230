-- The slots of a number and of a number that is read, one slot more at a time, as the loops of a master make them, on
-- any bus.
use Prim.Native.Nat.{ℕ, suc, ◌+◌, ◌-◌, ◌/◌, ◌<◌, ◌≤◌, ◌*◌, ◌^◌}
use Rattle.std.specs.Prelude.{◌≡◌, true, [], ◌∷◌, ◌++◌, length}
use Rattle.std.proofs.Common.{ap, ◌∙◌, sym}
use native.Mathlib.Omega.{arith}
use Rattle.std.proofs.Math.ListN.{replicate-append-replicate}
use Rattle.std.proofs.lemmas.List.{length-replicate}
use Rattle.basic_laws.specs.Bits.{odd, bits_of, bit_number, number_of}
use Rattle.basic_laws.specs.BitsLaws.{number-snoc}
use Rattle.search_laws.specs.Issued.{slots-append, slots_length}
use Rattle.search_laws.specs.Reads.{read_slots, after_bits, bits_shown, after_reads}
use Rattle.search_laws.specs.Wire.{Bus, run, slots}

module _ (B : Bus) where
  -- ## The slots of a number, as a loop of halvings makes them

  pub bits-turn : (n i x : ℕ) (ds : B.Devices) → i < n
      → after_bits B (n - i) x ds ≡ after_bits B (n - (i + 1)) (x / 2) (B.after (odd x) ds)
  unfolding bits_of slots
  bits-turn n i x ds h = let e : n - i ≡ suc (n - (i + 1)) = omega arith in rw e

  pub bits-end : (n i x : ℕ) (ds : B.Devices) → n ≤ i → after_bits B (n - i) x ds ≡ ds
  unfolding bits_of slots
  bits-end n i x ds h = let e : n - i ≡ 0 = omega arith in rw e

  -- ## Read slots, one more

  read_more : (n : ℕ) (ds : B.Devices) → slots B (read_slots (n + 1)) ds
      ≡ run (bits_shown B n ds ++ (B.line true (after_reads B n ds) ∷ [])) (B.after true (after_reads B n ds))
  unfolding slots
  read_more n ds = rw (← replicate-append-replicate n 1 true) (slots-append B (read_slots n) (true ∷ []) ds)

  pub reads_more : (n : ℕ) (ds : B.Devices) → B.after true (after_reads B n ds) ≡ after_reads B (n + 1) ds
  reads_more n ds = sym (ap (λ r. r.devices) (read_more n ds))

  pub shown-more : (n : ℕ) (ds : B.Devices)
      → number_of (bits_shown B n ds) + bit_number (B.line true (after_reads B n ds)) * 2 ^ n
      ≡ number_of (bits_shown B (n + 1) ds)
  shown-more n ds =
      let long : length (bits_shown B n ds) ≡ n = slots_length B (read_slots n) ds ∙ length-replicate n true in
      let line = B.line true (after_reads B n ds) in
      sym (ap (λ r. number_of r.lines) (read_more n ds) ∙ number-snoc (bits_shown B n ds) line
      ∙ ap (λ (k : ℕ). number_of (bits_shown B n ds) + bit_number line * 2 ^ k) long)
