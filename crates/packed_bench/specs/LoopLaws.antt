-- Turns of the loops over entries, on plain values.
--     copy_more                      a copy of the front of a list, one element longer
--     laid-mid                       a part that is copied over is laid over
--     entry-there, entry-none        the entry of one place
--     table-turn, table-end          writing, entry by entry
--     read-turn, read-stop, read-end reading, entry by entry
use Prim.Native.Nat.{ℕ, suc, ◌+◌, ◌*◌, ◌-◌, ◌<◌, ◌≤◌}
use Rattle.std.specs.Prelude.{◌≡◌, refl, List, [], ◌∷◌, ◌++◌, get_or, set, take, drop, replicate}
use Rattle.std.proofs.Common.{sym, append_assoc, append-nil, length-take, drop_of_length-le, take-suc, drop-cons, get_or-take}
use native.Mathlib.Omega.{arith}
use Rattle.std.proofs.Math.Numerals.{add-one}
use borrow.Author.Tests.{eq-eqb, ne_eqb}
use Rattle.std.proofs.Math.ListN.{length}
use Rattle.std.proofs.Math.Seq.{take-suc-set, drop-drop}
use borrow.Rule.Slice.PartMut.{put_mid}
use Rattle.basic_laws.specs.Laid.{laid}
use Rattle.basic_laws.specs.LaidLaws.{laid_none, laid_then}
use Rattle.device.specs.declared.Device.{Device}
use Rattle.packed_bench.specs.Packed.{packed_device, fields_of}
use Rattle.packed_bench.specs.Table.{entry_bytes, table_of, devices_in}
use Rattle.packed_bench.specs.TableLaws.{entry_length, table-length}

pub copy_more : (e s : List ℕ) (i : ℕ) → i < length e → i < length s → take i e ≡ take i s
    → take (i + 1) (set e i (get_or s i 0)) ≡ take (i + 1) s
copy_more e s i h k p = rw (add-one i, take-suc-set e i (get_or s i 0) h, take-suc s i 0 k, p)

-- a part that is copied over is laid over
pub laid-mid : (at k : ℕ) (t e s : List ℕ) → e ≡ s → length s ≡ k → put_mid at k t e ≡ laid t at s
unfolding laid
laid-mid at k t e s same long =
    rw (same, ← long, append_assoc (take at t) s (drop (at + length s) t), drop-drop (length s) at t) refl

-- ## The entry of one place

module _ (devices : List Device) (count place : ℕ) where
  pub entry-there : (z : Device) → place < count → place < length devices
      → packed_device (get_or devices place z) ≡ entry_bytes (drop place (take count devices))
  entry-there z h k =
      let few = length-take count devices in
      let l : place < length (take count devices) = omega arith in
      sym (rw (drop-cons (take count devices) place z l, get_or-take count devices place z h) refl)

  pub entry-none : count ≤ place → replicate 48 0 ≡ entry_bytes (drop place (take count devices))
  entry-none h =
      let few = length-take count devices in
      let l : length (take count devices) ≤ place = omega arith in
      sym (rw (drop_of_length-le (take count devices) l) refl)

-- ## Writing, entry by entry: what stands there with the rest laid behind it is the whole

pub table-turn : (t : List ℕ) (ds : List Device) (i : ℕ) → i < 32 → 48 * i + 48 ≤ length t
    → laid t (48 * i) (table_of (32 - i) (drop i ds))
    ≡ laid (laid t (48 * i) (entry_bytes (drop i ds))) (48 * (i + 1)) (table_of (32 - (i + 1)) (drop (i + 1) ds))
unfolding table_of
table-turn t ds i h room =
    let n : 32 - i ≡ suc (32 - (i + 1)) = omega arith in
    let e = entry_length (drop i ds) in
    let at : 48 * i + length (entry_bytes (drop i ds)) ≡ 48 * (i + 1) = omega arith in
    let l : 48 * (i + 1) ≤ length t = omega arith in
    rw n (rw (drop-drop 1 i ds) (sym (laid_then t (48 * i) (entry_bytes (drop i ds))
    (table_of (32 - (i + 1)) (drop (i + 1) ds)) (48 * (i + 1)) at l)))

pub table-end : (t : List ℕ) (ds : List Device) (i : ℕ) → i ≡ 32 → laid t (48 * i) (table_of (32 - i) (drop i ds)) ≡ t
unfolding table_of
table-end t ds i e = let n : 32 - i ≡ 0 = omega arith in rw n (sym (laid_none t (48 * i)))

-- over zeros as long as a table
pub laid-whole : (t : List ℕ) (ds : List Device) → length t ≡ 1536 → laid t 0 (table_of 32 ds) ≡ table_of 32 ds
unfolding laid
laid-whole t ds long =
    let l : length (table_of 32 ds) ≡ 1536 = table-length 32 ds in
    let h : length t ≤ 0 + length (table_of 32 ds) = omega arith in
    rw (drop_of_length-le t h) (append-nil (table_of 32 ds))

-- ## Reading, entry by entry: the devices so far and those of the entries that are left

module _ (t : List ℕ) (devices : List Device) (i : ℕ) (d : Device) (is : d
    ≡ fields_of (take 48 (drop (48 * i) t))) (h : i < 32) where
  next : 32 - i ≡ suc (32 - (i + 1))
  next = omega arith

  pub read-turn : length devices ≡ 32 → (d.code ≡ 0 → ⊥)
      → take i devices ++ devices_in (32 - i) (drop (48 * i) t)
      ≡ take (i + 1) (set devices i d) ++ devices_in (32 - (i + 1)) (drop (48 * (i + 1)) t)
  unfolding devices_in
  read-turn long used =
      let k : i < length devices = omega arith in
      let at : 48 * i + 48 ≡ 48 * (i + 1) = omega arith in
      rw (next, ← is, ne_eqb d.code 0 used, drop-drop 48 (48 * i) t, at, add-one i, take-suc-set devices i d k)
      (sym (append_assoc (take i devices) (d ∷ []) (devices_in (32 - suc i) (drop (48 * suc i) t))))

  pub read-stop : d.code ≡ 0 → take i devices ++ devices_in (32 - i) (drop (48 * i) t) ≡ take i devices
  unfolding devices_in
  read-stop none = rw (next, ← is, eq-eqb d.code 0 none) (append-nil (take i devices))

pub read-end : (t : List ℕ) (devices : List Device) (i : ℕ) → i ≡ 32
    → take i devices ++ devices_in (32 - i) (drop (48 * i) t) ≡ take i devices
unfolding devices_in
read-end t devices i e = let n : 32 - i ≡ 0 = omega arith in rw n (append-nil (take i devices))
