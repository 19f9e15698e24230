-- Which device a read at a code picks: after 55h, the code and BEh the device with the code is about to send the first
-- bit of its scratchpad, which is as it was, and every other one is quiet. The matching device agrees with each bit of
-- the code; any other differs from it in one of the 64, since different numbers below 2^64 have different bits, and is
-- quiet from there on.
--     picked code d     d about to send its scratchpad, if it has the code, and quiet if not
--     address-picks     a reset, 55h, the code and a function command: the device with the code is what the command
--                       makes of it, every other one is quiet
--     read-picks        so a reset, 55h, the code and BEh leave every device
use Prim.Native.Nat.{ℕ, zero, suc, ◌+◌, ◌/◌, ◌^◌, ◌<◌}
use Rattle.std.specs.Prelude.{Bool, ◌++◌, ◌≢◌, ◌≡◌, eqb}
use Rattle.std.proofs.Math.Bool.{true, false, beq}
use Rattle.std.proofs.Math.Path.{refl}
use Rattle.std.proofs.Common.{sym, ap, ◌∙◌, pow-suc, lt-ltb, eqb-true}
use Rattle.std.proofs.Math.Nat.{div-div-eq-div-mul}
use native.Mathlib.Omega.{arith}
use Rattle.std.proofs.lemmas.Bool.{eqb-false}
use Rattle.std.specs.Prelude.{if◌then◌else◌}
use Rattle.basic_laws.specs.Bits.{bit_at, bits_of}
use Rattle.commands.specs.Commands.{match_rom, read_scratchpad}
use Rattle.rom.specs.Code.{code_bits}
use Rattle.search_laws.proofs.NumbersLaws.{bits-differ}
use Rattle.device.specs.Hear.{await_function, function_command, hear_of}
use Rattle.device.specs.Power.{reset_of}
use Rattle.device.specs.Record.{with_stage}
use Rattle.device.specs.declared.Device.{Device}
use Rattle.device.specs.declared.Stage.TheVariants.{Match, SendScratchpad, Quiet}
use Rattle.access_laws.specs.Unrefused.{address_bits}
use Rattle.access_laws.specs.Course.{Hears, hears-append, hears-then, quiet-hears, calm, match_stage, next_bit}

abbrev pub picked : ℕ → Device → Device
picked code d = with_stage d (if eqb d.code code then SendScratchpad 0 0 else Quiet)

-- ## One bit of the code

beq_same : (x : Bool) → beq x x ≡ true
beq_same true = refl
beq_same false = refl

beq-is : (x y : Bool) → beq x y ≡ true → x ≡ y
beq-is true true e = refl
beq-is true false e = sym e
beq-is false true e = e
beq-is false false e = refl

pub half-then : (x i : ℕ) → x / 2 ^ i / 2 ≡ x / 2 ^ suc i
half-then x i = div-div-eq-div-mul x (2 ^ i) 2 ∙ ap (λ (k : ℕ). x / k) (sym (pow-suc 2 i))

-- a device at bit i goes on where it agrees with the line, and is quiet where it does not
bit-agrees : (i : ℕ) → i < 64 → (x : Bool) (d : Device) → beq (bit_at d.code i) x ≡ true
    → hear_of (with_stage d (Match i)) x ≡ with_stage d (match_stage (suc i))
unfolding hear_of
bit-agrees i h x d e = rw (e, next_bit i h)

bit-differs : (i : ℕ) (x : Bool) (d : Device) → beq (bit_at d.code i) x ≡ false
    → hear_of (with_stage d (Match i)) x ≡ with_stage d Quiet
unfolding hear_of
bit-differs i x d e = rw e

-- ## The code from bit i on

module _ (d : Device) where
  -- the device with the code
  own-hears : (m i : ℕ) → i + m ≡ 64 → Hears (λ e. e
      ≡ with_stage d await_function) (bits_of m (d.code / 2 ^ i)) (with_stage d (match_stage i))
  unfolding bits_of
  own-hears zero i e = let z : i ≡ 64 = omega arith in rw z
  own-hears (suc m) i e =
      let l : i < 64 = omega arith in
      let x = bit_at d.code i in
      let later = own-hears m (suc i) (omega arith) in
      rw (lt-ltb i 64 l, half-then d.code i)
      (calm x (with_stage d (Match i)) (Match i) refl refl, refl, rw (bit-agrees i l x d (beq_same x)) later)

  -- a device with another code
  other-hears : (code m i : ℕ) → i + m ≡ 64 → bits_of m (d.code / 2 ^ i) ≢ bits_of m (code / 2 ^ i)
      → Hears (λ e. e ≡ with_stage d Quiet) (bits_of m (code / 2 ^ i)) (with_stage d (match_stage i))
  unfolding bits_of
  other-hears code zero i e n = absurd (n refl)
  other-hears code (suc m) i e n =
      let l : i < 64 = omega arith in
      rw (lt-ltb i 64 l) (
        calm (bit_at code i) (with_stage d (Match i)) (Match i) refl refl,
        refl,
        by-test (beq (bit_at d.code i) (bit_at code i)) refl l (other-hears code m (suc i) (omega arith)),
      )
    where
      by-test : (t : Bool) → beq (bit_at d.code i) (bit_at code i) ≡ t → i < 64
          → (bits_of m (d.code / 2 ^ suc i) ≢ bits_of m (code / 2 ^ suc i)
          → Hears (λ e. e ≡ with_stage d Quiet) (bits_of m (code / 2 ^ suc i)) (with_stage d (match_stage (suc i))))
          → Hears (λ e. e ≡ with_stage d Quiet) (bits_of m (code / 2 ^ i / 2))
          (hear_of (with_stage d (Match i)) (bit_at code i))
      by-test true f l later =
          rw (half-then code i, bit-agrees i l (bit_at code i) d f)
          (later (λ g. n (rw (
            beq-is (bit_at d.code i) (bit_at code i) f,
            half-then d.code i,
            half-then code i,
            g,
          ))))
      by-test false f l later = rw (bit-differs i (bit_at code i) d f)
          (quiet-hears (λ e. e ≡ with_stage d Quiet) (bits_of m (code / 2 ^ i / 2)) (with_stage d Quiet) refl refl)

  -- ## The commands

  rom-heard : Hears (λ e. e ≡ with_stage d (match_stage 0)) (bits_of 8 match_rom) (reset_of d)
  unfolding bits_of hear_of
  rom-heard = ((
    refl,
    refl,
    (
      refl,
      refl,
      (
        refl,
        refl,
        (refl, refl, (refl, refl, (refl, refl, (refl, refl, (refl, refl, refl))))),
      ),
    ),
  ))

  read_taken : Hears (λ e. e ≡ with_stage d (SendScratchpad 0 0)) (bits_of 8 read_scratchpad) (with_stage d await_function)
  unfolding bits_of hear_of function_command
  read_taken = ((
    refl,
    refl,
    (
      refl,
      refl,
      (
        refl,
        refl,
        (refl, refl, (refl, refl, (refl, refl, (refl, refl, (refl, refl, refl))))),
      ),
    ),
  ))

-- ## All of it

whole : (x : ℕ) → x / 2 ^ 0 ≡ x
whole x = omega arith

-- 55h and the code, after which E holds, and then the function command
then-hears : (E F : Device → Type 0) (code command : ℕ) (d : Device)
    → Hears E (code_bits code) (with_stage d (match_stage 0))
    → ((e : Device) → E e → Hears F (bits_of 8 command) e) → Hears F (address_bits code command) (reset_of d)
then-hears E F code command d h go =
    hears-append F (bits_of 8 match_rom) (code_bits code ++ bits_of 8 command) (reset_of d)
    (hears-then (λ e. e ≡ with_stage d (match_stage 0)) (Hears F (code_bits code ++ bits_of 8 command)) code-then
    (bits_of 8 match_rom) (reset_of d) (rom-heard d))
  where
    code-then : (e : Device) → e ≡ with_stage d (match_stage 0) → Hears F (code_bits code ++ bits_of 8 command) e
    code-then e q = rw q (hears-append F (code_bits code) (bits_of 8 command) (with_stage d (match_stage 0))
        (hears-then E (Hears F (bits_of 8 command)) go (code_bits code) (with_stage d (match_stage 0)) h))

-- what the function command makes of the device with the code
pub address-picks : (code command : ℕ) (d own : Device) → code < 2 ^ 64 → d.code < 2 ^ 64
    → Hears (λ e. e ≡ own) (bits_of 8 command) (with_stage d await_function)
    → Hears (λ e. e ≡ (if eqb d.code code then own else with_stage d Quiet)) (address_bits code command) (reset_of d)
address-picks code command d own a b taken = by-test (eqb d.code code) refl
  where
    here : d.code ≡ code → Hears (λ e. e ≡ own) (address_bits code command) (reset_of d)
    here f =
        let c : Hears (λ e. e ≡ with_stage d await_function) (code_bits code) (with_stage d (match_stage 0)) =
        rw (← f) (rw (whole d.code) at (own-hears d 64 0 refl)) in
        then-hears (λ e. e ≡ with_stage d await_function) (λ e. e ≡ own) code command d c (λ e q. rw q taken)

    elsewhere : d.code ≢ code → Hears (λ e. e ≡ with_stage d Quiet) (address_bits code command) (reset_of d)
    elsewhere n =
        let c : Hears (λ e. e ≡ with_stage d Quiet) (code_bits code) (with_stage d (match_stage 0)) =
        rw (whole code) at (other-hears d code 64 0 refl
        (λ e. bits-differ 64 d.code code b a n (rw (whole d.code, whole code) at e))) in
        then-hears (λ e. e ≡ with_stage d Quiet) (λ e. e ≡ with_stage d Quiet) code command d c (λ e q.
        rw q (quiet-hears (λ e. e ≡ with_stage d Quiet) (bits_of 8 command) (with_stage d Quiet) refl refl))

    by-test : (t : Bool) → eqb d.code code ≡ t
        → Hears (λ e. e ≡ (if t then own else with_stage d Quiet)) (address_bits code command) (reset_of d)
    by-test true e = here (eqb-true d.code code e)
    by-test false e = elsewhere (eqb-false d.code code e)

pub read-picks : (code : ℕ) (d : Device) → code < 2 ^ 64 → d.code < 2 ^ 64
    → Hears (λ e. e ≡ picked code d) (address_bits code read_scratchpad) (reset_of d)
read-picks code d a b =
    hears-then _ (λ e. e ≡ picked code d) (λ e q. q
    ∙ by-test (eqb d.code code)) (address_bits code read_scratchpad) (reset_of d)
    (address-picks code read_scratchpad d (with_stage d (SendScratchpad 0 0)) a b (read_taken d))
  where
    by-test : (t : Bool) → (if t then with_stage d (SendScratchpad 0 0) else with_stage d Quiet)
        ≡ with_stage d (if t then SendScratchpad 0 0 else Quiet)
    by-test true = refl
    by-test false = refl
