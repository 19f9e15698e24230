-- What the end of a conversion stores is in range and is read back; bytes 2 to 5 stay, the limits and the configuration
-- among them; of a family with count bytes these can be believed, and the fine reading is the count. A byte stored past
-- the reading leaves the raw reading, and where that is in range, so is the reading at any configuration.
use Rattle.std.specs.Prelude.{ℕ, ◌<◌, ◌≤◌, ◌≡◌, refl, Bool, true, false, List, ltb, pos, ◌*ℤ◌}
use Rattle.std.proofs.Math.Path.{ap}
use Rattle.std.proofs.Common.{◌∙◌, arith, ltb-true, ltb-false, lit<, lit≤}
use Rattle.std.proofs.Math.ListN.{length, get_or, set, length-set, get_or-eq_default}
use Rattle.std.proofs.Math.Seq.{get_or-set_same, get_or-set_other}
use Rattle.family.specs.Layout.{configuration_place, count_remain_place, count_per_degree_place}
use Rattle.family.specs.declared.Properties.{Properties}
use Rattle.family.specs.declared.Unit.{Unit}
use Rattle.family.specs.declared.Unit.TheVariants.{Sixteenths as inSixteenths, HalfDegrees as inHalfDegrees}
use Rattle.basic_laws.specs.Complement.{Fits16}
use Rattle.temperature.specs.Measured.{nearest_halves, measured_of}
use Rattle.temperature.proofs.MeasuredLaws.{measured-range, measured-raw, measured-cleared, cleared-range}
use Rattle.temperature.specs.Range.{in_range}
use Rattle.temperature.specs.RangeLaws.{between-size}
use Rattle.temperature.specs.Register.{raw_reading, cleared_of, register_of}
use Rattle.temperature.specs.declared.Reading.{Reading}
use Rattle.temperature.specs.declared.Reading.TheVariants.{InSixteenths, InHalves}
use Rattle.temperature.specs.declared.Register.{Register}
use Rattle.temperature.specs.declared.Sixteenths.{Sixteenths}
use Rattle.scratchpad.specs.Fine.{counts_per_degree, remaining_of, counts_right, fine_of}
use Rattle.scratchpad.specs.FineLaws.{counts-left, fine_back}
use Rattle.scratchpad.specs.Judgement.{counts_believed}
use Rattle.scratchpad.specs.Stored.{reading_in, raw_in, fine_in, stored_reading, with_register, with_counts}
use Rattle.scratchpad.specs.Stored.{scratchpad_after}

-- ## Bytes past the reading, and before the counts

-- a byte stored past the reading leaves the raw reading
pub raw-kept : (row : Properties) (pad : List ℕ) (i v : ℕ) → 2 ≤ i → raw_in row (set pad i v) ≡ raw_in row pad
raw-kept row pad i v h = rw (
  get_or-set_other pad i 0 v 0 (λ e. omega arith),
  get_or-set_other pad i 1 v 0 (λ e. omega arith),
)

-- and one before the counts leaves these
pub believed-kept : (row : Properties) (pad : List ℕ) (i v : ℕ) → i < 6
    → counts_believed row (set pad i v) ≡ counts_believed row pad
believed-kept row pad i v h = rw (
  get_or-set_other pad i 6 v 0 (λ e. omega arith),
  get_or-set_other pad i 7 v 0 (λ e. omega arith),
)

-- ## The counts

module _ (count : Sixteenths) (pad : List ℕ) where
  counts-length : (unit : Unit) → length (with_counts unit count pad) ≡ length pad
  counts-length inSixteenths = refl
  counts-length inHalfDegrees = simp length-set

  counts-other : (unit : Unit) (i : ℕ) → i < 6 → get_or (with_counts unit count pad) i 0 ≡ get_or pad i 0
  counts-other inSixteenths i h = refl
  counts-other inHalfDegrees i h =
      get_or-set_other (set pad 6 (remaining_of count)) 7 i counts_per_degree 0 (λ e. omega arith)
      ∙ get_or-set_other pad 6 i (remaining_of count) 0 (λ e. omega arith)

  module _ (long : length pad ≡ 8) where
    remain-stored : get_or (with_counts inHalfDegrees count pad) 6 0 ≡ remaining_of count
    remain-stored =
        get_or-set_other (set pad 6 (remaining_of count)) 7 6 counts_per_degree 0 (λ e. omega arith)
        ∙ get_or-set_same pad 6 (remaining_of count) 0 (rw long (lit< tt))

    per-degree-stored : get_or (with_counts inHalfDegrees count pad) 7 0 ≡ counts_per_degree
    per-degree-stored = get_or-set_same (set pad 6 (remaining_of count)) 7 counts_per_degree 0
        (rw (length-set pad 6 (remaining_of count), long) (lit< tt))

    counts-believed : (unit : Unit) → counts_right unit (get_or (with_counts unit count pad) 6 0)
        (get_or (with_counts unit count pad) 7 0) ≡ true
    counts-believed inSixteenths = refl
    counts-believed inHalfDegrees = rw (remain-stored, per-degree-stored) (counts-left count)

  -- byte 7: sixteen, or as it was
  counts-seventh : (P : ℕ → Type 0) (unit : Unit) → (unit ≡ inHalfDegrees → P counts_per_degree) → P (get_or pad 7 0)
      → P (get_or (with_counts unit count pad) 7 0)
  counts-seventh P inSixteenths new old = old
  counts-seventh P inHalfDegrees new old = by-test (ltb 7 (length pad)) refl
    where
      by-test : (t : Bool) → ltb 7 (length pad) ≡ t
          → P (get_or (set (set pad 6 (remaining_of count)) 7 counts_per_degree) 7 0)
      by-test true e = let once = set pad 6 (remaining_of count) in
          rw (get_or-set_same once 7 counts_per_degree 0
          (rw (length-set pad 6 (remaining_of count)) (ltb-true 7 (length pad) e))) (new refl)
      by-test false e =
          let once = set pad 6 (remaining_of count) in
          let short : length pad ≤ 7 = ltb-false 7 (length pad) e in
          let still : length (set once 7 counts_per_degree) ≤ 7 =
          rw (length-set once 7 counts_per_degree, length-set pad 6 (remaining_of count)) short in
          rw (get_or-eq_default (set once 7 counts_per_degree) 0 still) (rw (get_or-eq_default pad 0 short) at old)

-- ## The end of a conversion

module _ (row : Properties) (count : Sixteenths) (pad : List ℕ) where
  -- the register alone
  registered : List ℕ
  registered = with_register pad (register_of (stored_reading row count pad))

  registered-length : length registered ≡ length pad
  unfolding registered
  registered-length = simp length-set

  registered-other : (i : ℕ) → 2 ≤ i → get_or registered i 0 ≡ get_or pad i 0
  unfolding registered
  registered-other i h =
      let r = register_of (stored_reading row count pad) in
      get_or-set_other (set pad 0 r.low) 1 i r.high 0 (λ e. omega arith)
      ∙ get_or-set_other pad 0 i r.low 0 (λ e. omega arith)

  pub after-length : length (scratchpad_after row count pad) ≡ length pad
  unfolding scratchpad_after registered
  after-length = counts-length count registered row.unit ∙ registered-length

  -- bytes 2 to 5
  pub after-other : (i : ℕ) → 2 ≤ i → i < 6 → get_or (scratchpad_after row count pad) i 0 ≡ get_or pad i 0
  unfolding scratchpad_after registered
  after-other i h k = counts-other count registered row.unit i k ∙ registered-other i h

  pub after-believed : length pad ≡ 8 → counts_believed row (scratchpad_after row count pad) ≡ true
  unfolding scratchpad_after registered
  after-believed long = counts-believed count registered (registered-length ∙ long) row.unit

  -- byte 7: sixteen in half degrees, or as it was
  pub after-seventh : (P : ℕ → Type 0) → (row.unit ≡ inHalfDegrees → P counts_per_degree) → P (get_or pad 7 0)
      → P (get_or (scratchpad_after row count pad) 7 0)
  unfolding scratchpad_after registered
  after-seventh P new old = counts-seventh count registered P row.unit new (rw (registered-other 7 (lit≤ tt)) old)

  module _ (in-range : in_range (InSixteenths count) ≡ true) where
    count_fits : Fits16 count.0
    count_fits = let k = between-size 879 2000 2000 count.0 (lit≤ tt) (lit≤ tt) in-range in
        record { sfits = omega arith }

    pub stored-range : in_range (stored_reading row count pad) ≡ true
    unfolding stored_reading
    stored-range = measured-range row.unit count (get_or pad configuration_place 0) in-range

    pub after-raw : length pad ≡ 8 → raw_in row (scratchpad_after row count pad) ≡ stored_reading row count pad
    unfolding scratchpad_after stored_reading registered
    after-raw long =
        let low = counts-other count registered row.unit 0 (lit< tt) in
        let high = counts-other count registered row.unit 1 (lit< tt) in
        rw (low, high) (pair_read (register_of (stored_reading row count pad))
        ∙ measured-raw row.unit count (get_or pad configuration_place 0) count_fits)
      where
        pair_read : (r : Register) → raw_in row (with_register pad r) ≡ raw_reading row.unit r.low r.high
        pair_read r =
            let once = set pad 0 r.low in
            let a : 0 < length pad = rw long (lit< tt) in
            let b : 1 < length once = rw (length-set pad 0 r.low, long) (lit< tt) in
            rw (
              get_or-set_same once 1 r.high 0 b,
              get_or-set_other once 1 0 r.high 0 (λ e. omega arith),
              get_or-set_same pad 0 r.low 0 a,
            )

    stored-cleared : cleared_of (stored_reading row count pad) (get_or pad configuration_place 0)
        ≡ stored_reading row count pad
    unfolding stored_reading
    stored-cleared = measured-cleared row.unit count (get_or pad configuration_place 0)

    -- decoded with the configuration that it was stored with
    pub after-reads : length pad ≡ 8 → reading_in row (scratchpad_after row count pad) ≡ stored_reading row count pad
    after-reads long =
        ap (λ (r : Reading). cleared_of r (get_or (scratchpad_after row count pad) configuration_place 0)) (after-raw long)
        ∙ ap (cleared_of (stored_reading row count pad)) (after-other configuration_place (lit≤ tt) (lit< tt))
        ∙ stored-cleared

    -- in half degrees
    module _ (long : length pad ≡ 8) (unit : row.unit ≡ inHalfDegrees) where
      stored-halves : stored_reading row count pad ≡ InHalves (nearest_halves count)
      unfolding stored_reading
      stored-halves = ap (λ (u : Unit). measured_of u count (get_or pad configuration_place 0)) unit

      after-remain : get_or (scratchpad_after row count pad) count_remain_place 0 ≡ remaining_of count
      unfolding scratchpad_after registered
      after-remain = ap (λ (u : Unit). get_or (with_counts u count registered) 6 0) unit
          ∙ remain-stored count registered (registered-length ∙ long)

      after-per-degree : get_or (scratchpad_after row count pad) count_per_degree_place 0 ≡ counts_per_degree
      unfolding scratchpad_after registered
      after-per-degree = ap (λ (u : Unit). get_or (with_counts u count registered) 7 0) unit
          ∙ per-degree-stored count registered (registered-length ∙ long)

      -- the fine reading is the count: four times itself over 64
      pub after-fine : fine_in row (scratchpad_after row count pad)
          ≡ record { numerator = count.0 *ℤ pos 4; denominator = 64 }
      after-fine =
          ap (λ (r : Reading). fine_of r (get_or (scratchpad_after row count pad) 6 0)
          (get_or (scratchpad_after row count pad) 7 0)) (after-reads long ∙ stored-halves)
          ∙ ap (λ (n : ℕ). fine_of (InHalves (nearest_halves count)) n (get_or (scratchpad_after row count pad) 7 0))
          after-remain
          ∙ ap (λ (n : ℕ). fine_of (InHalves (nearest_halves count)) (remaining_of count) n) after-per-degree
          ∙ fine_back count

-- a raw reading in range is read in range, whatever the configuration
pub raw-range : (row : Properties) (pad : List ℕ) → in_range (raw_in row pad) ≡ true → in_range (reading_in row pad) ≡ true
raw-range row pad h = cleared-range (raw_in row pad) (get_or pad configuration_place 0) h
