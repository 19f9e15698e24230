-- A call on the bench that lent bytes hold: the call on the records, through unpacking and packing.
--     answered_on refusal f t     what it answers: f of the bench that t holds; the refusal of bytes that hold none, 1
--                                or 22, comes before all others
--     left_by f t                 the lent bytes after it: those of the bench that f leaves, and all behind the table as
--                                it was; as they were where they hold no bench
--     After f t t'               the claim of the bytes t' that it leaves of t: they hold f of the bench that t held
--     unseen n                   the answer to looking at a device where bytes hold no bench: the refusal n and a
--                                vacant place
use Rattle.std.specs.Prelude.{ℕ, List, ◌≡◌, eqb}
use Rattle.std.specs.Prelude.{if◌then◌else◌}
use Rattle.refusals.specs.Refusals.{accepted}
use Rattle.bench.specs.Bench.{vacant}
use Rattle.bench.specs.declared.Bench.{Bench}
use Rattle.bench.specs.declared.Looked.{Looked}
use Rattle.packed_bench.specs.Table.{held, unpacked, packed_into}

abbrev pub answered_on : {A : Type 0} → (ℕ → A) → (Bench → A) → List ℕ → A
answered_on refusal f t = if eqb (unpacked t).refusal accepted then f (unpacked t).bench
    else refusal (unpacked t).refusal

abbrev pub left_by : (Bench → Bench) → List ℕ → List ℕ
left_by f t = if eqb (unpacked t).refusal accepted then packed_into t (f (unpacked t).bench) else t

-- where the bytes held a bench
abbrev pub After : (Bench → Bench) → List ℕ → List ℕ → Type 0
After f t t' = (unpacked t).refusal ≡ accepted → unpacked t' ≡ held (f (unpacked t).bench)

abbrev pub unseen : ℕ → Looked
unseen n = record { refusal = n; device = vacant }
