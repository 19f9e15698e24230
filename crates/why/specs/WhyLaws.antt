-- The answer by what a look at the code finds.
use Rattle.std.specs.Prelude.{ℕ, ◌≢◌, ◌≡◌}
use Rattle.std.proofs.Math.Path.{refl}
use Rattle.std.proofs.Common.{arith, eq-eqb, ne_eqb}
use Rattle.refusals.specs.Refusals.{accepted}
use Rattle.rom.specs.Code.{code_refusal}
use Rattle.bench.specs.Bench.{place_of}
use Rattle.bench.specs.Calls.{looked_at, looked}
use Rattle.bench.specs.declared.Bench.{Bench}
use Rattle.bench.specs.declared.Place.{Place}
use Rattle.bench.specs.declared.Place.TheVariants.{At, Nowhere}
use Rattle.why.specs.Why.{silent, told_by, why_at, why_of}
use Rattle.why.specs.declared.rules.Reason.TheVariants.{NotOnBench}

module _ (b : Bench) (code : ℕ) where
  pub why-refused : code_refusal code ≢ accepted → silent (code_refusal code) NotOnBench ≡ why_of b code
  unfolding why_of
  why-refused h = rw (ne_eqb (code_refusal code) accepted h) refl

  pub why-absent : code_refusal code ≡ accepted → (looked b code).refusal ≢ accepted
      → silent accepted NotOnBench ≡ why_of b code
  unfolding why_of looked
  why-absent s h = rw (eq-eqb (code_refusal code) accepted s) (by_place (place_of b code) h)
    where
      by_place : (p : Place) → (looked_at b p).refusal ≢ accepted → silent accepted NotOnBench ≡ why_at b p
      by_place (At i) k = absurd (k refl)
      by_place Nowhere k = refl

  pub why-there : code_refusal code ≡ accepted → (looked b code).refusal ≡ accepted
      → told_by (looked b code).device.page (looked b code).device.scratchpad ≡ why_of b code
  unfolding why_of looked
  why-there s h = rw (eq-eqb (code_refusal code) accepted s) (by_place (place_of b code) h)
    where
      by_place : (p : Place) → (looked_at b p).refusal ≡ accepted
          → told_by (looked_at b p).device.page (looked_at b p).device.scratchpad ≡ why_at b p
      by_place (At i) k = refl
      by_place Nowhere k = absurd (omega arith)
