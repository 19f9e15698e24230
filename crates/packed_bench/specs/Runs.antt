-- A run of calls on a bench in lent bytes, and the same run on the records.
--     TableCall                     one call, with its arguments
--     TableAnswer                   what it answers: a refusal alone, or one with the presence or the line that was
--                                   seen
--     CodeTyped c                   the code of an adding has 64 bits, as its type has it
--     bench_left, bench_says c b      the bench that a call leaves on the records, and what it answers
--     table_left, table_says c t      the bytes that it leaves of lent ones, and what it answers, as `calls` promises
--     bench_after, bench_answers h b  the bench after the calls h, and the answers of all, refused ones too
--     table_after, table_answers h t  the same of lent bytes
--     RunsClaim                     1,536 zeros hold the empty bench; and bytes that hold it hold after every run of
--                                   calls the bench after them, with the same answers
use Rattle.std.specs.Prelude.{ℕ, ◌^◌, ◌<◌, Bool, List, [], ◌∷◌, ◌≡◌, replicate}
use Rattle.basic_laws.specs.Each.{Each}
use Rattle.temperature.specs.declared.Sixteenths.{Sixteenths}
use Rattle.device.specs.declared.Joining.{Joining}
use Rattle.bench.specs.Bench.{empty_bench}
use Rattle.bench.specs.Calls.{added_to, conversion_finished, copy_finished, power_cycled}
use Rattle.bench.specs.Slot.{slotted, reset_done}
use Rattle.bench.specs.declared.Bench.{Bench}
use Rattle.packed_bench.specs.Table.{table_bytes, held, unpacked}
use Rattle.packed_bench.specs.Answers.{no_reset, reset_seen, no_slot, slot_seen}
use Rattle.packed_bench.specs.Through.{answered_on, left_by}
use Rattle.packed_bench.specs.declared.calls.ResetSeen.{ResetSeen}
use Rattle.packed_bench.specs.declared.calls.SlotSeen.{SlotSeen}

-- ## Calls

pub data TableCall : Type 0 where
  add : Joining → TableCall
  reset : TableCall
  slot : Bool → TableCall
  finish_conversion : ℕ → Sixteenths → TableCall
  finish_copy : ℕ → TableCall
  power_cycle : ℕ → TableCall

pub data TableAnswer : Type 0 where
  refusal : ℕ → TableAnswer
  of_reset : ResetSeen → TableAnswer
  of_slot : SlotSeen → TableAnswer

abbrev pub CodeTyped : TableCall → Type 0
CodeTyped (add new) = new.code < 2 ^ 64
CodeTyped reset = Unit
CodeTyped (slot m) = Unit
CodeTyped (finish_conversion code n) = Unit
CodeTyped (finish_copy code) = Unit
CodeTyped (power_cycle code) = Unit

-- ## One call

abbrev pub bench_left : TableCall → Bench → Bench
bench_left (add new) b = (added_to b new).bench
bench_left reset b = (reset_done b).bench
bench_left (slot m) b = (slotted b m).bench
bench_left (finish_conversion code n) b = (conversion_finished b code n).bench
bench_left (finish_copy code) b = (copy_finished b code).bench
bench_left (power_cycle code) b = (power_cycled b code).bench

abbrev pub bench_says : TableCall → Bench → TableAnswer
bench_says (add new) b = refusal (added_to b new).refusal
bench_says reset b = of_reset (reset_seen (reset_done b))
bench_says (slot m) b = of_slot (slot_seen (slotted b m))
bench_says (finish_conversion code n) b = refusal (conversion_finished b code n).refusal
bench_says (finish_copy code) b = refusal (copy_finished b code).refusal
bench_says (power_cycle code) b = refusal (power_cycled b code).refusal

abbrev pub table_left : TableCall → List ℕ → List ℕ
table_left c t = left_by (λ b. bench_left c b) t

abbrev pub table_says : TableCall → List ℕ → TableAnswer
table_says (add new) t = refusal (answered_on (λ n. n) (λ b. (added_to b new).refusal) t)
table_says reset t = of_reset (answered_on no_reset (λ b. reset_seen (reset_done b)) t)
table_says (slot m) t = of_slot (answered_on no_slot (λ b. slot_seen (slotted b m)) t)
table_says (finish_conversion code n) t = refusal (answered_on (λ k. k) (λ b. (conversion_finished b code n).refusal) t)
table_says (finish_copy code) t = refusal (answered_on (λ n. n) (λ b. (copy_finished b code).refusal) t)
table_says (power_cycle code) t = refusal (answered_on (λ n. n) (λ b. (power_cycled b code).refusal) t)

-- ## Call after call

unfoldable pub bench_after : List TableCall → Bench → Bench
bench_after [] b = b
bench_after (c ∷ h) b = bench_after h (bench_left c b)

unfoldable pub bench_answers : List TableCall → Bench → List TableAnswer
bench_answers [] b = []
bench_answers (c ∷ h) b = bench_says c b ∷ bench_answers h (bench_left c b)

unfoldable pub table_after : List TableCall → List ℕ → List ℕ
table_after [] t = t
table_after (c ∷ h) t = table_after h (table_left c t)

unfoldable pub table_answers : List TableCall → List ℕ → List TableAnswer
table_answers [] t = []
table_answers (c ∷ h) t = table_says c t ∷ table_answers h (table_left c t)

-- ## The claim

pub record RunsClaim : Type 0 where
  pub zeros : unpacked (replicate table_bytes 0) ≡ held empty_bench
  pub left : (h : List TableCall) → Each CodeTyped h → (t : List ℕ) → unpacked t ≡ held empty_bench
      → unpacked (table_after h t) ≡ held (bench_after h empty_bench)
  pub says : (h : List TableCall) → Each CodeTyped h → (t : List ℕ) → unpacked t ≡ held empty_bench
      → table_answers h t ≡ bench_answers h empty_bench
