-- The stored form of B is the general one at 15; what is kept is as it is kept, and in form for a master, for every row
-- and any pins.
use Rattle.std.specs.Prelude.{ℕ, ◌*◌, ◌/◌, ◌%◌, ◌^◌, ◌≡◌, refl, Bool, true, false, eqb}
use Rattle.std.proofs.Common.{sym, arith, eq-eqb, eqb-true}
use Rattle.std.specs.Int.Bits.{bit_and}
use Rattle.std.proofs.lemmas.Nat.Bits.{and_high}
use Rattle.std.specs.Prelude.{if◌then◌else◌}
use Rattle.family.specs.declared.Properties.{Properties}
use Rattle.family.specs.Configuration.{stored_form_b, stored_form, kept_configuration, as_kept, in_form}
use Rattle.family.specs.Families.{with_pins}

pub stored-form-b : (byte : ℕ) → stored_form byte 15 ≡ stored_form_b byte
stored-form-b byte = let a = bit_and byte 0x60 in omega arith

-- a stored form is its own
stored-again : (byte low : ℕ) → stored_form (stored_form byte low) low ≡ stored_form byte low
stored-again byte low =
    let e : bit_and byte 0x60 ≡ byte / 2 ^ 5 % 2 ^ 2 * 2 ^ 5 = and_high byte 2 5 in
    let f : bit_and (stored_form byte low) 0x60 ≡ stored_form byte low / 2 ^ 5 % 2 ^ 2 * 2 ^ 5 =
    and_high (stored_form byte low) 2 5 in
    omega arith

-- a family without a configuration asks nothing of the byte in its place
pub kept-none : (row : Properties) (byte : ℕ) → row.configurable ≡ false → as_kept row byte ≡ true
kept-none row byte e = rw e

-- what is kept is as it is kept
pub kept-as-kept : (row : Properties) (byte : ℕ) → as_kept row (kept_configuration row byte) ≡ true
kept-as-kept row byte = by-test row.configurable
  where
    by-test : (t : Bool)
        → (if t then eqb (if t then stored_form byte row.nibble
        else 0) (stored_form (if t then stored_form byte row.nibble else 0) row.nibble) else true) ≡ true
    by-test true = eq-eqb _ _ (sym (stored-again byte row.nibble))
    by-test false = refl

-- what a device keeps, whatever its pins, a master takes for a configuration
stored-upper : (byte a b : ℕ) → byte ≡ stored_form byte a → byte / 16 ≡ stored_form byte b / 16
stored-upper byte a b e =
    let f : bit_and byte 0x60 ≡ byte / 2 ^ 5 % 2 ^ 2 * 2 ^ 5 = and_high byte 2 5 in
    omega arith

pub kept-in-form : (row : Properties) (pins byte : ℕ) → as_kept (with_pins row pins) byte ≡ true → in_form row byte ≡ true
kept-in-form row pins byte = by_tests row.configurable row.pinned
  where
    by_tests : (t u : Bool) → (if t then eqb byte (stored_form byte (if u then pins else row.nibble)) else true) ≡ true
        → (if t then (if u then eqb (byte / 16) (stored_form byte row.nibble / 16)
        else eqb byte (stored_form byte row.nibble)) else true) ≡ true
    by_tests true true e = eq-eqb (byte / 16) (stored_form byte row.nibble / 16)
        (stored-upper byte pins row.nibble (eqb-true byte (stored_form byte pins) e))
    by_tests true false e = e
    by_tests false u e = refl
