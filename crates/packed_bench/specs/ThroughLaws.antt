-- One law for every call on lent bytes: they then hold the bench that the call on the records leaves.
--     through            `After` holds of each f that leaves a bench that a table can hold
--     refused-done, accepted-done, stored-done       the ways of a call that unpacks, calls and packs
--     stays              a call that leaves the bench leaves the bytes, so that a refused one does
--     behind-stays       the bytes behind the table stay, whatever the call
--     slot-keeps, reset-keeps, added-keeps, conversion-keeps, copy-keeps, cycle-keeps
--                        each call leaves a bench that a table can hold, refused or not
use Rattle.std.specs.Prelude.{ℕ, ◌+◌, ◌-◌, ◌≤◌, Bool, true, false, List, ◌≡◌, refl, eqb, length, drop}
use Rattle.std.proofs.Common.{sym, ap, ◌∙◌, arith, eq-eqb, ne_eqb, eqb-true, drop_at, drop-drop}
use Rattle.std.specs.Prelude.{if◌then◌else◌}
use Rattle.basic_laws.specs.Each.{Each}
use Rattle.basic_laws.specs.EachLaws.{each_snoc, distinct_snoc}
use Rattle.basic_laws.specs.First.{first_with}
use Rattle.basic_laws.specs.Laid.{laid}
use Rattle.basic_laws.specs.Places.{drop-replicate}
use Rattle.refusals.specs.Refusals.{accepted}
use Rattle.rom.specs.Code.{sound}
use Rattle.temperature.specs.declared.Sixteenths.{Sixteenths}
use Rattle.device.specs.Finish.{conversion_done, copy_done}
use Rattle.device.proofs.Laws.{power-up-fresh, conversion-code, copy-only}
use Rattle.device.specs.Power.{power_up}
use Rattle.device.specs.declared.Device.{Device}
use Rattle.device.specs.declared.Joining.{Joining}
use Rattle.bench.specs.Bench.{vacant, live, empty_bench, place_of}
use Rattle.bench.specs.Calls.{added_to, conversion_finished, copy_finished, power_cycled, looked}
use Rattle.bench.specs.Slot.{line_bit, heard, slotted, restarted, reset_done}
use Rattle.bench.specs.declared.Bench.{Bench}
use Rattle.bench.proofs.Laws.{slot_cases, reset-cases, heard-count, heard-places, heard-rest, restarted-count}
use Rattle.bench.specs.Laws.{Added}
use Rattle.bench.specs.Laws.{OneChanged}
use Rattle.bench.proofs.Laws.{restarted-places, restarted-rest, added-cases, conversion-cases}
use Rattle.bench.proofs.Laws.{copy-cases, cycle-cases}
use Rattle.bench.specs.Sound.{codes_of}
use Rattle.bench.proofs.SoundLaws.{heard-codes, restarted-codes, added-codes, codes-new, one-changed-codes}
use Rattle.packed_bench.specs.Types.{InTypes}
use Rattle.packed_bench.specs.Table.{table_bytes, table_of, held, unpacked, pack_refusal, packed_into}
use Rattle.packed_bench.specs.Tabled.{Tabled}
use Rattle.packed_bench.specs.TableLaws.{table-length, unpacked-cases, unpacked-tabled, pack-unpack, packed-laid}
use Rattle.packed_bench.specs.TableLaws.{unpack-laid}
use Rattle.packed_bench.specs.declared.table.Unpacked.{Unpacked}
use Rattle.packed_bench.specs.Through.{answered_on, left_by, After}

-- ## The law

-- accepted bytes are as many as a table has
pub accepted-long : (t : List ℕ) → (unpacked t).refusal ≡ accepted → table_bytes ≤ length t
accepted-long t = unpacked-cases t (λ u. u.refusal ≡ accepted
    → table_bytes ≤ length t) (λ h e. absurd (omega arith)) (λ h n e. absurd (omega arith)) (λ h y e. h)

-- so that there is room for the bench after a call
pub accepted-room : (t : List ℕ) (u : Unpacked) → u ≡ unpacked t → u.refusal ≡ accepted → table_bytes ≤ length t
accepted-room t u is ok = accepted-long t (sym (ap (λ (v : Unpacked). v.refusal) is) ∙ ok)

-- the bytes that packing leaves hold the bench, if a table can: what packing promises, of the bench that the call
-- leaves
pub through : (f : Bench → Bench) → ((b : Bench) → Tabled b → Tabled (f b)) → (t t' : List ℕ)
    → (table_bytes ≤ length t → Tabled (f (unpacked t).bench) → unpacked t' ≡ held (f (unpacked t).bench))
    → After f t t'
through f keeps t t' packed ok = packed (accepted-long t ok) (keeps (unpacked t).bench (unpacked-tabled t ok))

-- what a call that unpacks, calls and packs has come to is what is promised of it: u is what unpacking answered, d what
-- the call on the records did
module _ {A R : Type 0} (F : Bench → R) (answer_of : R → A) (leaves : R → Bench) (refusal : ℕ
    → A) (t : List ℕ) (u : Unpacked) (is-u : u ≡ unpacked t) where
  abbrev Done : A → List ℕ → Type 0
  Done x t' =
      (x ≡ answered_on refusal (λ b. answer_of (F b)) t)
      × ((t' ≡ left_by (λ b. leaves (F b)) t) × After (λ b. leaves (F b)) t t')

  pub refused-done : (u.refusal ≡ accepted → ⊥) → Done (refusal u.refusal) t
  refused-done none =
      let not_there : (unpacked t).refusal ≡ accepted → ⊥ = λ e. none (ap (λ v. v.refusal) is-u ∙ e) in
      let other = ne_eqb (unpacked t).refusal accepted not_there in
      (rw other (ap (λ v. refusal v.refusal) is-u), (rw other refl, (λ ok. absurd (not_there ok))))

  pub accepted-done : ((b : Bench) → Tabled b → Tabled (leaves (F b))) → u.refusal ≡ accepted → (d : R)
      → d ≡ F u.bench
      → (t' : List ℕ) → t' ≡ packed_into t (leaves d)
      → (table_bytes ≤ length t → Tabled (leaves d) → unpacked t' ≡ held (leaves d))
      → Done (answer_of d) t'
  accepted-done keeps ok d is-d t' left back =
      let e : d ≡ F (unpacked t).bench = is-d ∙ ap (λ (v : Unpacked). F v.bench) is-u in
      let there = eq-eqb (unpacked t).refusal accepted (sym (ap (λ (v : Unpacked). v.refusal) is-u) ∙ ok) in (
        rw there (ap answer_of e),
        (
          rw there (left ∙ ap (λ v. packed_into t (leaves v)) e),
          through (λ b. leaves (F b)) keeps t t' (λ long tabled. back long (rw e tabled) ∙ ap (λ v. held (leaves v)) e),
        ),
      )

  -- the bench is not judged again, for each call leaves one that a table can hold
  pub stored-done : ((b : Bench) → Tabled b → Tabled (leaves (F b))) → u.refusal ≡ accepted → (d : R)
      → d ≡ F u.bench
      → (t' : List ℕ) → t' ≡ laid t 0 (table_of 32 (live (leaves d))) → Each InTypes (live (leaves d))
      → Done (answer_of d) t'
  stored-done keeps ok d is-d t' left typed =
      let e : d ≡ F (unpacked t).bench = is-d ∙ ap (λ (v : Unpacked). F v.bench) is-u in
      let there : (unpacked t).refusal ≡ accepted = sym (ap (λ (v : Unpacked). v.refusal) is-u) ∙ ok in
      let tabled : Tabled (leaves d) = rw e (keeps (unpacked t).bench (unpacked-tabled t there)) in
      accepted-done keeps ok d is-d t' (left ∙ sym (packed-laid (leaves d) t tabled (accepted-long t there)).1)
      (λ long tabled. ap unpacked left ∙ unpack-laid (leaves d) t tabled typed long)

pub stays : (f : Bench → Bench) (t : List ℕ)
    → ((unpacked t).refusal ≡ accepted → f (unpacked t).bench ≡ (unpacked t).bench) → left_by f t ≡ t
stays f t same = by-test (eqb (unpacked t).refusal accepted) refl
  where
    by-test : (u : Bool) → eqb (unpacked t).refusal accepted ≡ u
        → (if u then packed_into t (f (unpacked t).bench) else t) ≡ t
    by-test true e = let ok = eqb-true (unpacked t).refusal accepted e in rw (same ok) (pack-unpack t ok)
    by-test false e = refl

-- what stands behind the table stays
behind-packed : (t : List ℕ) (b : Bench) → drop table_bytes (packed_into t b) ≡ drop table_bytes t
unfolding packed_into laid
behind-packed t b = by-test (eqb (pack_refusal t b) accepted)
  where
    by-test : (u : Bool) → drop table_bytes (if u then laid t 0 (table_of 32 (live b)) else t) ≡ drop table_bytes t
    by-test false = refl
    by-test true =
        let x = table_of 32 (live b) in
        let long : length x ≡ 1536 = table-length 32 (live b) in
        let at : 0 + length x ≡ 1536 = omega arith in
        drop_at x (drop (0 + length x) t) 1536 long ∙ ap (λ (n : ℕ). drop n t) at

pub behind-stays : (f : Bench → Bench) (t : List ℕ) → drop table_bytes (left_by f t) ≡ drop table_bytes t
behind-stays f t = by-test (eqb (unpacked t).refusal accepted)
  where
    by-test : (u : Bool) → drop table_bytes (if u then packed_into t (f (unpacked t).bench) else t) ≡ drop table_bytes t
    by-test true = behind-packed t (f (unpacked t).bench)
    by-test false = refl

-- ## Looking

pub empty-unseen : (code : ℕ) → (looked empty_bench code).device ≡ vacant
unfolding looked place_of first_with
empty-unseen code = refl

-- the bench of a refusal is the empty one
pub refused-unseen : (t : List ℕ) (code : ℕ) → ((unpacked t).refusal ≡ accepted → ⊥)
    → (looked (unpacked t).bench code).device ≡ vacant
refused-unseen t code =
    unpacked-cases t (λ u. (u.refusal ≡ accepted → ⊥)
    → (looked u.bench code).device ≡ vacant) (λ h n. empty-unseen code) (λ h o n. empty-unseen code)
    (λ h y n. absurd (n refl))

-- ## Each call leaves a bench that a table can hold

heard-keeps : (b : Bench) (l : Bool) → Tabled b → Tabled (heard b l)
heard-keeps b l t = record {
  places = heard-places b l ∙ t.places;
  few = rw (heard-count b l) t.few;
  codes-sound = rw (heard-codes b l) t.codes-sound;
  codes-distinct = rw (heard-codes b l) t.codes-distinct;
  rest-vacant = rw (heard-count b l) (heard-rest b l ∙ t.rest-vacant);
}

restarted-keeps : (b : Bench) → Tabled b → Tabled (restarted b)
restarted-keeps b t = record {
  places = restarted-places b ∙ t.places;
  few = rw (restarted-count b) t.few;
  codes-sound = rw (restarted-codes b) t.codes-sound;
  codes-distinct = rw (restarted-codes b) t.codes-distinct;
  rest-vacant = rw (restarted-count b) (restarted-rest b ∙ t.rest-vacant);
}

pub slot-keeps : (m : Bool) (b : Bench) → Tabled b → Tabled (slotted b m).bench
slot-keeps m b t = slot_cases b m (λ r. Tabled r.bench) (λ e. heard-keeps b (line_bit b m) t) (λ e. t)

pub reset-keeps : (b : Bench) → Tabled b → Tabled (reset_done b).bench
reset-keeps b t = reset-cases b (λ r. Tabled r.bench) (λ e. restarted-keeps b t) (λ e. t)

pub added-keeps : (new : Joining) (b : Bench) → Tabled b → Tabled (added_to b new).bench
added-keeps new b t = added-cases b new (λ c. Tabled c.bench) t.places (λ n r. t) joins
  where
    joins : (after : Bench) → Added b new after → Tabled after
    joins after a =
        let n : 32 - b.count - 1 ≡ 32 - (b.count + 1) = omega arith in
        record {
          places = a.places-are ∙ t.places;
          few = omega (arith, a.room, a.count-is);
          codes-sound = rw (added-codes b new after a)
              (each_snoc (λ c. sound c ≡ true) (codes_of b) new.code t.codes-sound a.code-sound);
          codes-distinct = rw (added-codes b new after a)
              (distinct_snoc (codes_of b) new.code t.codes-distinct
              (codes-new (live b) new.code a.code-new));
          rest-vacant = rw a.count-is (a.rest-is ∙ sym (drop-drop 1 b.count b.devices)
              ∙ ap (drop 1) t.rest-vacant ∙ drop-replicate 1 (32 - b.count) vacant ∙ rw n refl);
        }

-- a call that changes one device and no code
one-keeps : (b : Bench) (code : ℕ) (f : Device → Device) → ((d : Device) → (f d).code ≡ d.code) → (after : Bench)
    → OneChanged b code f after → Tabled b → Tabled after
one-keeps b code f same after o t = record {
  places = o.places-are ∙ t.places;
  few = rw o.count-is t.few;
  codes-sound = rw (one-changed-codes b code f same after o) t.codes-sound;
  codes-distinct = rw (one-changed-codes b code f same after o) t.codes-distinct;
  rest-vacant = rw o.count-is (o.rest-is ∙ t.rest-vacant);
}

pub conversion-keeps : (code : ℕ) (n : Sixteenths) (b : Bench) → Tabled b → Tabled (conversion_finished b code n).bench
conversion-keeps code n b t =
    conversion-cases b code (λ c. Tabled c.bench) (λ r z. t) n
    (λ range after o. one-keeps b code (λ d. conversion_done d n) (λ d. conversion-code d n) after o t)

pub copy-keeps : (code : ℕ) (b : Bench) → Tabled b → Tabled (copy_finished b code).bench
copy-keeps code b t =
    copy-cases b code (λ c. Tabled c.bench) (λ r z. t)
    (λ s after o latched. one-keeps b code (λ d. copy_done d s) (λ d. ap (λ e. e.code) (copy-only d s)) after o t)

pub cycle-keeps : (code : ℕ) (b : Bench) → Tabled b → Tabled (power_cycled b code).bench
cycle-keeps code b t = cycle-cases b code (λ c. Tabled c.bench) (λ r z. t)
    (λ after o. one-keeps b code power_up (λ d. (power-up-fresh d).code_is) after o t)
