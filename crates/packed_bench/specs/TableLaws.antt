-- Packing and unpacking undo each other, and 22 is for the bytes that no records pack to, and for no others.
--     unpack-pack        a bench packed unpacks to itself, whatever stands behind the table
--     packed-laid        a bench that a table can hold is packed
--     packed-back        a bench that is packed unpacks to its records
--     packed-kept        so to itself, where a table can hold it
--     pack-unpack        accepted bytes pack back to themselves
--     unpacked-tabled    what is accepted is a bench that a table can hold, with numbers of their types
--     refused_none       22 is given only where no records, at most 32 with different sound codes, pack to the bytes
use Rattle.std.specs.Prelude.{ℕ, zero, suc, ◌+◌, ◌*◌, ◌-◌, ◌<◌, ◌≤◌, ◌≡◌, ◌≢◌, Bool, not, ◌&&◌, List, [], ◌∷◌, ◌++◌, map, eqb, leb, get_or, take, replicate}
use Rattle.std.proofs.Math.Path.{refl, sym, ap}
use Rattle.std.proofs.Common.{◌∙◌, append_assoc, lit<, length-take, take-append-drop, take_at, drop_at, length-take-le, get_or-drop}
use Rattle.std.proofs.Math.Bool.{true, false}
use Rattle.std.proofs.lemmas.Bool.{false≢true}
use native.Mathlib.Omega.{arith}
use borrow.Author.Tests.{eq-eqb, ne_eqb, eqb-true, eqb-false, lt-ltb, ltb-true, ltb-false, le-ltb, le-leb, leb-true}
use Rattle.std.proofs.Math.Dec.{ltb}
use Rattle.std.proofs.Math.ListN.{length, drop, length-append}
use Rattle.std.proofs.lemmas.List.{length-replicate}
use Rattle.std.specs.Prelude.{if◌then◌else◌}
use Rattle.basic_laws.specs.ChoiceLaws.{either_way, and_left, and_right}
use Rattle.basic_laws.specs.Each.{Each, Distinct}
use Rattle.basic_laws.specs.Fold.{all, fold}
use Rattle.basic_laws.specs.Laid.{laid}
use Rattle.basic_laws.specs.Same.{same}
use Rattle.basic_laws.specs.SameLaws.{same-equal, same-itself}
use Rattle.basic_laws.specs.Bits.{bits_of}
use Rattle.crc.specs.Crc.{crc_bits}
use Rattle.refusals.specs.Refusals.{accepted, no_room, wrong_kind, not_a_table}
use Rattle.rom.specs.Code.{code_refusal, sound}
use Rattle.device.specs.declared.Device.{Device}
use Rattle.packed_bench.specs.Bytes.{code_from_bytes}
use Rattle.packed_bench.specs.Packed.{packed_device, fields_of}
use Rattle.packed_bench.specs.Types.{InTypes}
use Rattle.packed_bench.specs.Laws.{packed-length, fields_back, fields-in-types}
use Rattle.bench.specs.Bench.{live, vacant, empty_bench}
use Rattle.bench.specs.Records.{absent, codes_fit, bench_of, fits_bench, made_of}
use Rattle.bench.specs.declared.Bench.{Bench}
use Rattle.bench.specs.declared.Made.{Made}
use Rattle.packed_bench.specs.declared.table.Unpacked.{Unpacked}
use Rattle.packed_bench.specs.Table.{table_bytes, entry_bytes, table_of, in_use, devices_in, is_table, not_unpacked}
use Rattle.packed_bench.specs.Table.{records_in, written_over, held, unpacked, pack_refusal, packed_into}
use Rattle.packed_bench.specs.Tabled.{Tabled}

-- ## Bytes that are enough for a table

pub records-in : (t : List ℕ) → table_bytes ≤ length t → records_in t ≡ devices_in 32 t
records-in t enough = rw (le-ltb (length t) table_bytes enough)

pub written_over_lem : (t : List ℕ) (ds : List Device) → table_bytes ≤ length t → written_over t ds ≡ laid t 0 (table_of 32 ds)
written_over_lem t ds enough = rw (le-ltb (length t) table_bytes enough)

-- ## An unused entry: nothing is read from it on

vacant-none : (ds : List Device) → in_use (fields_of (replicate 48 0)) ds ≡ []
unfolding fields_of code_from_bytes
vacant-none ds = refl

-- ## Lengths

pub entry_length : (ds : List Device) → length (entry_bytes ds) ≡ 48
entry_length [] = refl
entry_length (d ∷ ds) = packed-length d

pub table-length : (n : ℕ) (ds : List Device) → length (table_of n ds) ≡ 48 * n
unfolding table_of
table-length zero ds = refl
table-length (suc n) ds =
    let i = table-length n (drop 1 ds) in
    let e = entry_length ds in
    length-append (entry_bytes ds) (table_of n (drop 1 ds)) ∙ omega arith

pub devices-few : (n : ℕ) (t : List ℕ) → length (devices_in n t) ≤ n
unfolding devices_in
devices-few zero t = omega arith
devices-few (suc n) t =
    let i = devices-few n (drop 48 t) in
    either_way (λ l. length l ≤ suc n) (eqb (fields_of (take 48 t)).code 0) []
    (fields_of (take 48 t) ∷ devices_in n (drop 48 t)) (omega arith) (omega arith)

-- ## The codes

codeless : code_refusal 0 ≡ wrong_kind
unfolding code_refusal crc_bits bits_of fold
codeless = refl

sound-used : (code : ℕ) → sound code ≡ true → code ≢ 0
sound-used code s z = let e : wrong_kind ≡ accepted =
    sym codeless ∙ sym (ap code_refusal z) ∙ eqb-true (code_refusal code) accepted s in omega arith

-- the claim that the test of the codes makes
pub record TableFits (ds : List Device) : Type 0 where
  pub each-sound : Each (λ c. sound c ≡ true) (map (λ d. d.code) ds)
  pub each-own : Distinct (map (λ d. d.code) ds)

absent-told : (code : ℕ) (ds : List Device) → absent code ds ≡ true → Each (λ c. code ≢ c) (map (λ d. d.code) ds)
unfolding all
absent-told code [] h = tt
absent-told code (d ∷ ds) h =
    let here = and_left (not (eqb d.code code)) (absent code ds) h in
    let there = and_right (not (eqb d.code code)) (absent code ds) h in
    (differ (eqb d.code code) refl here, absent-told code ds there)
  where
    differ : (u : Bool) → eqb d.code code ≡ u → not u ≡ true → code ≢ d.code
    differ true e k z = false≢true k
    differ false e k z = eqb-false d.code code e (sym z)

absent-tells : (code : ℕ) (ds : List Device) → Each (λ c. code ≢ c) (map (λ d. d.code) ds) → absent code ds ≡ true
unfolding all
absent-tells code [] h = refl
absent-tells code (d ∷ ds) h =
    let n = ne_eqb d.code code (λ z. h.0 (sym z)) in
    rw n (absent-tells code ds h.1)

pub codes-told : (ds : List Device) → codes_fit ds ≡ true → TableFits ds
unfolding codes_fit
codes-told [] h = record { each-sound = tt; each-own = tt }
codes-told (d ∷ ds) h =
    let here = and_left (sound d.code && absent d.code ds) (codes_fit ds) h in
    let f = codes-told ds (and_right (sound d.code && absent d.code ds) (codes_fit ds) h) in
    record {
      each-sound = (and_left (sound d.code) (absent d.code ds) here, f.each-sound);
      each-own = (absent-told d.code ds (and_right (sound d.code) (absent d.code ds) here), f.each-own);
    }

pub codes-tell : (ds : List Device) → TableFits ds → codes_fit ds ≡ true
unfolding codes_fit
codes-tell [] f = refl
codes-tell (d ∷ ds) f =
    let s : sound d.code ≡ true = f.each-sound.0 in
    let n = absent-tells d.code ds f.each-own.0 in
    let i = codes-tell ds (record { each-sound = f.each-sound.1; each-own = f.each-own.1 }) in
    rw (s, n) i

-- ## Devices, their table, the devices

-- whatever stands behind the table
pub devices-back : (n : ℕ) (ds : List Device) (rest : List ℕ) → length ds ≤ n → Each InTypes ds
    → Each (λ c. sound c ≡ true) (map (λ d. d.code) ds)
    → devices_in n (table_of n ds ++ rest) ≡ ds
unfolding table_of devices_in
devices-back zero [] rest h p s = refl
devices-back zero (d ∷ ds) rest h p s = absurd (omega arith)
devices-back (suc n) [] rest h p s = vacant-none (devices_in n (table_of n [] ++ rest))
devices-back (suc n) (d ∷ ds) rest h p s =
    let i = devices-back n ds rest (omega arith) p.1 s.1 in
    let q = table_of n ds ++ rest in
    rw (
      append_assoc (packed_device d) (table_of n ds) rest,
      take_at (packed_device d) q 48 (packed-length d),
      drop_at (packed_device d) q 48 (packed-length d),
      fields_back d p.0,
      ne_eqb d.code 0 (sound-used d.code s.0),
      i,
    )

-- ## A bench and its devices

pub bench-live : (ds : List Device) → live (bench_of ds) ≡ ds
bench-live ds = take_at ds (replicate (32 - length ds) vacant) (length ds) refl

pub live-length : (b : Bench) → Tabled b → length (live b) ≡ b.count
live-length b t = let h : b.count ≤ length b.devices = omega (arith, t.few, t.places) in
    length-take-le b.count b.devices h

pub bench-back : (b : Bench) → Tabled b → bench_of (live b) ≡ b
bench-back b t = rw (live-length b t, ← t.rest-vacant, take-append-drop b.count b.devices)

pub tabled-fits : (b : Bench) → Tabled b → TableFits (live b)
tabled-fits b t = record { each-sound = t.codes-sound; each-own = t.codes-distinct }

pub bench-tabled : (ds : List Device) → length ds ≤ 32 → TableFits ds → Tabled (bench_of ds)
bench-tabled ds h f =
    let r = replicate (32 - length ds) vacant in
    record {
      places = length-append ds r ∙ (let l = length-replicate (32 - length ds) vacant in omega arith);
      few = h;
      codes-sound = rw (bench-live ds) f.each-sound;
      codes-distinct = rw (bench-live ds) f.each-own;
      rest-vacant = drop_at ds r (length ds) refl;
    }

-- ## Packing

-- a bench that a table can hold is the one that its records make
tabled-made : (b : Bench) → Tabled b → (made_of b.devices b.count).refusal ≡ accepted
tabled-made b t = rw (le-leb b.count 32 t.few, codes-tell (live b) (tabled-fits b t))

pub packed-laid : (b : Bench) (t : List ℕ) → Tabled b → table_bytes ≤ length t
    → (pack_refusal t b ≡ accepted) × (packed_into t b ≡ laid t 0 (table_of 32 (live b)))
unfolding packed_into
packed-laid b t tabled h =
    let ok : pack_refusal t b ≡ accepted = rw (le-ltb (length t) table_bytes h) (tabled-made b tabled) in
    (ok, rw (eq-eqb (pack_refusal t b) accepted ok))

-- and one whose records make a bench has few enough, with codes that fit
made_told : (b : Bench) → (made_of b.devices b.count).refusal ≡ accepted
    → (b.count ≤ 32) × (codes_fit (live b) ≡ true)
made_told b = by-test (fits_bench b.devices b.count) refl
  where
    by-test : (u : Bool) → fits_bench b.devices b.count ≡ u
        → (let m : Made = if u then record { refusal = accepted; bench = bench_of (live b) }
        else record { refusal = not_a_table; bench = empty_bench } in
        m.refusal ≡ accepted)
        → (b.count ≤ 32) × (codes_fit (live b) ≡ true)
    by-test true e h = (
      leb-true b.count 32 (and_left (leb b.count 32) (codes_fit (live b)) e),
      and_right (leb b.count 32) (codes_fit (live b)) e,
    )
    by-test false e h = absurd (omega (arith, h))

-- ## Both ways

module _ (b : Bench) (t : List ℕ) (tabled : Tabled b) (typed : Each InTypes (live b)) where
  live-few : length (live b) ≤ 32
  live-few = let e = live-length b tabled in omega (arith, tabled.few)

  live_back : (rest : List ℕ) → devices_in 32 (table_of 32 (live b) ++ rest) ≡ live b
  live_back rest = devices-back 32 (live b) rest live-few typed tabled.codes-sound

  table-holds : (rest : List ℕ) → is_table (table_of 32 (live b) ++ rest) ≡ true
  table-holds rest =
      rw (
        live_back rest,
        take_at (table_of 32 (live b)) rest table_bytes (table-length 32 (live b)),
        same-itself (table_of 32 (live b)),
      )
      (codes-tell (live b) (tabled-fits b tabled))

  pub unpack-laid : table_bytes ≤ length t → unpacked (laid t 0 (table_of 32 (live b))) ≡ held b
  unfolding unpacked laid
  unpack-laid h =
      let long : length (table_of 32 (live b)) ≡ 1536 = table-length 32 (live b) in
      let rest = drop (0 + length (table_of 32 (live b))) t in
      let whole = length-append (table_of 32 (live b)) rest in
      let much : table_bytes ≤ length (table_of 32 (live b) ++ rest) = omega arith in
      let room = le-ltb (length (table_of 32 (live b) ++ rest)) table_bytes much in
      rw (room, table-holds rest, live_back rest, bench-back b tabled)

  pub unpack-pack : table_bytes ≤ length t → unpacked (packed_into t b) ≡ held b
  unpack-pack h = ap unpacked (packed-laid b t tabled h).1 ∙ unpack-laid h

pub packed-back : (b : Bench) (t : List ℕ) → Each InTypes (live b) → table_bytes ≤ length t
    → (made_of b.devices b.count).refusal ≡ accepted
    → unpacked (laid t 0 (table_of 32 (live b))) ≡ held (bench_of (live b))
packed-back b t typed long ok =
    let told = made_told b ok in
    let few : length (live b) ≤ 32 = let l = length-take b.count b.devices in omega (arith, told.0) in
    let same = bench-live (live b) in
    let tabled = bench-tabled (live b) few (codes-told (live b) told.1) in
    ap (λ (ds : List Device). unpacked (laid t 0 (table_of 32 ds))) (sym same)
    ∙ unpack-laid (bench_of (live b)) t tabled (rw same typed) long

pub packed-kept : (b : Bench) (t t' : List ℕ) (n : ℕ) → n ≡ pack_refusal t b
    → (n ≡ accepted → unpacked t' ≡ held (bench_of (live b)))
    → table_bytes ≤ length t → Tabled b → unpacked t' ≡ held b
packed-kept b t t' n is back long tabled = back (is ∙ (packed-laid b t tabled long).0) ∙ ap held (bench-back b tabled)

-- what is accepted was long enough and is a table
module _ (t : List ℕ) (P : Unpacked → Type 0) where
  pub unpacked-cases : (length t < table_bytes → P (not_unpacked no_room))
      → (table_bytes ≤ length t → is_table t ≡ false → P (not_unpacked not_a_table))
      → (table_bytes ≤ length t → is_table t ≡ true → P (held (bench_of (devices_in 32 t)))) → P (unpacked t)
  unfolding unpacked
  unpacked-cases short other taken = by-room (ltb (length t) table_bytes) refl
    where
      by-test : (u : Bool) → is_table t ≡ u → table_bytes ≤ length t
          → P (if u then held (bench_of (devices_in 32 t)) else not_unpacked not_a_table)
      by-test true e h = taken h e
      by-test false e h = other h e

      by-room : (u : Bool) → ltb (length t) table_bytes ≡ u
          → P (if u then not_unpacked no_room else if is_table t then held (bench_of (devices_in 32 t))
          else not_unpacked not_a_table)
      by-room true e = short (ltb-true (length t) table_bytes e)
      by-room false e = by-test (is_table t) refl (ltb-false (length t) table_bytes e)

-- the bench of a table is one that a table can hold
table-tabled : (t : List ℕ) → is_table t ≡ true → Tabled (bench_of (devices_in 32 t))
table-tabled t y =
    bench-tabled (devices_in 32 t) (devices-few 32 t)
    (codes-told (devices_in 32 t) (and_right (same (table_of 32 (devices_in 32 t)) (take table_bytes t))
    (codes_fit (devices_in 32 t)) y))

pub pack-unpack : (t : List ℕ) → (unpacked t).refusal ≡ accepted → packed_into t (unpacked t).bench ≡ t
unfolding laid
pack-unpack t = unpacked-cases t (λ u. u.refusal ≡ accepted → packed_into t u.bench ≡ t)
    (λ h e. absurd (omega arith))
    (λ h n e. absurd (omega arith))
    (λ h y e.
    let same_bytes = same-equal (table_of 32 (devices_in 32 t)) (take table_bytes t)
    (and_left (same (table_of 32 (devices_in 32 t)) (take table_bytes t)) (codes_fit (devices_in 32 t)) y) in
    let long : length (table_of 32 (devices_in 32 t)) ≡ 1536 = table-length 32 (devices_in 32 t) in
    (packed-laid (bench_of (devices_in 32 t)) t (table-tabled t y) h).1
    ∙ rw (bench-live (devices_in 32 t), long, same_bytes) (take-append-drop table_bytes t))

pub unpacked-tabled : (t : List ℕ) → (unpacked t).refusal ≡ accepted → Tabled (unpacked t).bench
unpacked-tabled t = unpacked-cases t (λ u. u.refusal ≡ accepted → Tabled u.bench)
    (λ h e. absurd (omega arith))
    (λ h n e. absurd (omega arith))
    (λ h y e. table-tabled t y)

-- bytes that are refused with 22 are those of no records
pub refused_none : (t : List ℕ) → (unpacked t).refusal ≡ not_a_table
    → (ds : List Device) → length ds ≤ 32 → Each InTypes ds → TableFits ds → table_of 32 ds ≡ take table_bytes t → ⊥
refused_none t = unpacked-cases t (λ u. u.refusal ≡ not_a_table → (ds : List Device) → length ds ≤ 32 → Each InTypes ds
    → TableFits ds → table_of 32 ds ≡ take table_bytes t → ⊥)
    (λ h e ds few typed fits is. omega arith)
    (λ h n e ds few typed fits is.
    let b = bench_of ds in
    let l = bench-live ds in
    let whole : table_of 32 (live b) ++ drop table_bytes t ≡ t = rw (l, is) (take-append-drop table_bytes t) in
    let is_one = table-holds b t (bench-tabled ds few fits) (rw l typed) (drop table_bytes t) in
    false≢true (sym n ∙ ap is_table (sym whole) ∙ is_one))
    (λ h y e ds few typed fits is. omega arith)

-- ## The types

-- what is read from bytes is a record of the types
devices-typed : (n : ℕ) (t : List ℕ) → ((i : ℕ) → get_or t i 0 < 256) → Each InTypes (devices_in n t)
unfolding devices_in
devices-typed zero t h = tt
devices-typed (suc n) t h =
    let later = devices-typed n (drop 48 t) (λ i. rw (get_or-drop 48 t i 0) (h (48 + i))) in
    either_way (Each InTypes) (eqb (fields_of (take 48 t)).code 0) [] (fields_of (take 48 t) ∷ devices_in n (drop 48 t))
    tt (fields-in-types (take 48 t) (front t 48 h), later)
  where
    front : (l : List ℕ) (k : ℕ) → ((i : ℕ) → get_or l i 0 < 256) → (i : ℕ) → get_or (take k l) i 0 < 256
    front l zero b i = lit< tt
    front [] (suc k) b i = lit< tt
    front (x ∷ l) (suc k) b zero = b 0
    front (x ∷ l) (suc k) b (suc i) = front l k (λ j. b (suc j)) i

pub unpacked-typed : (t : List ℕ) → ((i : ℕ) → get_or t i 0 < 256) → Each InTypes (live (unpacked t).bench)
unpacked-typed t bytes = unpacked-cases t (λ u. Each InTypes (live u.bench)) (λ h. tt) (λ h n. tt)
    (λ h y. rw (bench-live (devices_in 32 t)) (devices-typed 32 t bytes))

-- ## The ends of the two calls

pub unpack-short : (t : List ℕ) → length t < table_bytes → not_unpacked no_room ≡ unpacked t
unfolding unpacked
unpack-short t h = rw (lt-ltb (length t) table_bytes h)

module _ (t : List ℕ) (long : table_bytes ≤ length t) (ds : List Device) (n : ℕ) (are : take n ds ≡ devices_in 32 t) where
  pub unpack-other : same (table_of 32 (take n ds)) (take table_bytes t) ≡ false → not_unpacked not_a_table ≡ unpacked t
  unfolding unpacked
  unpack-other e = rw (le-ltb (length t) table_bytes long, ← are, e)

  pub unpack-made : n ≤ 32 → same (table_of 32 (take n ds)) (take table_bytes t) ≡ true → (m : Made) → m ≡ made_of ds n
      → record { refusal = m.refusal; bench = m.bench } ≡ unpacked t
  unfolding unpacked
  unpack-made few e m is =
      rw (le-ltb (length t) table_bytes long, ← are, e, is, le-leb n 32 few) (by-test (codes_fit (take n ds)))
    where
      by-test : (u : Bool)
          → (let k : Made = if u then record { refusal = accepted; bench = bench_of (take n ds) }
          else record { refusal = not_a_table; bench = empty_bench } in
          let v : Unpacked = record { refusal = k.refusal; bench = k.bench } in
          v ≡ (if u then held (bench_of (take n ds)) else not_unpacked not_a_table))
      by-test true = refl
      by-test false = refl

module _ (b : Bench) (t : List ℕ) where
  pub pack-short : length t < table_bytes → (no_room ≡ pack_refusal t b) × (t ≡ packed_into t b)
  unfolding packed_into
  pack-short h = let e = lt-ltb (length t) table_bytes h in (rw e, rw e)

  module _ (long : table_bytes ≤ length t) (n : ℕ) (is : n ≡ (made_of b.devices b.count).refusal) where
    judged : n ≡ pack_refusal t b
    judged = rw (le-ltb (length t) table_bytes long) is

    pub pack-refused : (n ≡ accepted → ⊥) → (n ≡ pack_refusal t b) × (t ≡ packed_into t b)
    unfolding packed_into
    pack-refused h = (judged, rw (← judged, ne_eqb n accepted h))

    pub pack-done : n ≡ accepted → (accepted ≡ pack_refusal t b) × (laid t 0 (table_of 32 (live b)) ≡ packed_into t b)
    unfolding packed_into
    pack-done h = (sym h ∙ judged, rw (← judged, eq-eqb n accepted h))

-- ## Whatever bench is packed

module _ (b : Bench) (t : List ℕ) where
  pub refused-stays : (pack_refusal t b ≡ accepted → ⊥) → packed_into t b ≡ t
  unfolding packed_into
  refused-stays h = rw (ne_eqb (pack_refusal t b) accepted h)

  -- the refusal by the room
  by-room : (u : Bool) → ltb (length t) table_bytes ≡ u
      → pack_refusal t b ≡ (if u then no_room else (made_of b.devices b.count).refusal)
  by-room u e = rw e

  pub packs-back : Each InTypes (live b) → pack_refusal t b ≡ accepted
      → unpacked (packed_into t b) ≡ held (bench_of (live b))
  unfolding packed_into
  packs-back typed ok = ap unpacked (rw (eq-eqb (pack_refusal t b) accepted ok))
      ∙ by-test (ltb (length t) table_bytes) refl
    where
      by-test : (u : Bool) → ltb (length t) table_bytes ≡ u
          → unpacked (laid t 0 (table_of 32 (live b))) ≡ held (bench_of (live b))
      by-test true e = let one = sym (by-room true e) ∙ ok in absurd (omega arith)
      by-test false e = packed-back b t typed (ltb-false (length t) table_bytes e) (sym (by-room false e) ∙ ok)

  pub unheld-only : pack_refusal t b ≡ not_a_table → Tabled b → ⊥
  unheld-only other tabled = by-test (ltb (length t) table_bytes) refl
    where
      by-test : (u : Bool) → ltb (length t) table_bytes ≡ u → ⊥
      by-test true e = let one = sym (by-room true e) ∙ other in absurd (omega arith)
      by-test false e = let none = sym (by-room false e) ∙ other in let ok = tabled-made b tabled in
          absurd (omega arith)
