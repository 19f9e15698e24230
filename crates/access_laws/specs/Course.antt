-- The course of a read or a write at a code, device by device: what each is at while 55h, the code and the function
-- command come, and that none of them becomes busy by it. Only the last bit of a function command can make a device
-- busy, and BEh and 4Eh do not.
--     Calm x d           hearing the bit x leaves it as it is whether d holds the wire
--     Hears E bits d     d offers 1 at each of these bits, hears them calmly, and then E holds of it
--     Settled d          d sends its scratchpad, takes settings or is quiet: so it stays, whatever the line shows
--     address-heard      every device hears 55h, the code and BEh or 4Eh calmly, and is then settled
use Rattle.std.specs.Prelude.{ℕ, suc, ◌+◌, ◌<◌, Bool, not, ◌&&◌, List, [], ◌∷◌, ◌++◌, ◌⊎◌, ◌≡◌, ltb, length}
use Rattle.std.proofs.Math.Bool.{true, false}
use Rattle.std.specs.Bool.{beq}
use Rattle.std.proofs.Common.{true≢false, inl, inr, ⊎_elim, sym, ap, ◌∙◌, arith, add-one, lt-ltb, ltb-true, ltb-false}
use Rattle.std.proofs.lemmas.Bool.{false≢true}
use Rattle.std.proofs.Math.Path.{refl}
use Rattle.std.specs.Prelude.{if◌then◌else◌}
use Rattle.basic_laws.specs.Fold.{fold}
use Rattle.basic_laws.specs.Bits.{bit_at, bits_of}
use Rattle.basic_laws.specs.BitsLaws.{bits-length}
use Rattle.commands.specs.Commands.{match_rom, read_scratchpad, write_scratchpad}
use Rattle.rom.specs.Code.{code_bits}
use Rattle.commands.specs.Bytes.{shift_in}
use Rattle.commands.specs.BytesLaws.{shifted-cases}
use Rattle.device.specs.Hear.{await_function, after_bit, function_command, idle_command, store_setting, hear_settings, hear_at}
use Rattle.device.specs.Hear.{hear_of}
use Rattle.device.specs.Settings.{settings_count}
use Rattle.device.proofs.Laws.{quiet-stays, quiet-offers}
use Rattle.device.specs.Offer.{offer_of}
use Rattle.device.proofs.Outcomes.{hear-outcome}
use Rattle.device.specs.Power.{reset_of}
use Rattle.device.specs.Record.{with_stage, row_of, busy}
use Rattle.device.specs.Stages.{awaits_function}
use Rattle.device.specs.declared.Device.{Device}
use Rattle.device.specs.declared.Stage.{Stage}
use Rattle.device.specs.declared.Stage.TheVariants.{AwaitRom, SendRom, Match, Search, AwaitFunction, TakeSettings}
use Rattle.device.specs.declared.Stage.TheVariants.{SendScratchpad, SendStatus, SendPower, Quiet}
use Rattle.device.specs.Record.{holds_wire}
use Rattle.access_laws.specs.Unrefused.{address_bits}

abbrev pub Calm : Bool → Device → Type 0
Calm x d = holds_wire (hear_of d x) ≡ holds_wire d

abbrev pub Hears : (Device → Type 0) → List Bool → Device → Type 0
Hears E [] d = E d
Hears E (x ∷ bits) d = Calm x d × (offer_of d ≡ true) × Hears E bits (hear_of d x)

pub hears-append : (E : Device → Type 0) (xs ys : List Bool) (d : Device) → Hears (λ e. Hears E ys e) xs d
    → Hears E (xs ++ ys) d
hears-append E [] ys d h = h
hears-append E (x ∷ xs) ys d h = (h.0, h.1, hears-append E xs ys (hear_of d x) h.2)

pub hears-then : (E F : Device → Type 0) → ((d : Device) → E d → F d) → (xs : List Bool) (d : Device) → Hears E xs d
    → Hears F xs d
hears-then E F f [] d h = f d h
hears-then E F f (x ∷ xs) d h = (h.0, h.1, hears-then E F f xs (hear_of d x) h.2)

-- what the device is after them
pub hears-end : (E : Device → Type 0) (bits : List Bool) (d : Device) → Hears E bits d → E (fold hear_of d bits)
unfolding fold
hears-end E [] d h = h
hears-end E (x ∷ bits) d h = hears-end E bits (hear_of d x) h.2

-- ## Calm

-- away from function commands every bit is heard calmly
pub calm : (x : Bool) (d : Device) (s : Stage) → d.stage ≡ s → awaits_function s ≡ false → Calm x d
calm x d u e h = hear-outcome d x (λ e. holds_wire e ≡ holds_wire d)
    (record {
      moved = λ s. refl;
      converts = λ s f i. absurd (not_there s f);
      copies = λ s f i. absurd (not_there s f);
      recalls = λ s f i. refl;
      setting-stored = λ k s f i n. refl;
    })
  where
    not_there : (s : ℕ) → d.stage ≡ AwaitFunction s 7 → ⊥
    not_there s f = true≢false (sym (ap awaits_function f) ∙ ap awaits_function e ∙ h)

-- ## A quiet device

pub quiet-hears : (E : Device → Type 0) (bits : List Bool) (d : Device) → d.stage ≡ Quiet → E d → Hears E bits d
quiet-hears E [] d q e = e
quiet-hears E (x ∷ bits) d q e =
    let s = quiet-stays d x q in
    (ap holds_wire s, quiet-offers d q, rw s (quiet-hears E bits d q e))

-- ## Settled

abbrev settles : Stage → Bool
settles (AwaitRom s n) = false
settles (SendRom i) = false
settles (Match i) = false
settles (Search i p) = false
settles (AwaitFunction s n) = false
settles (TakeSettings k s n) = true
settles (SendScratchpad k j) = true
settles SendStatus = false
settles SendPower = false
settles Quiet = true

abbrev pub Settled : Device → Type 0
Settled d = settles d.stage ≡ true

pub settled-calm : (x : Bool) (d : Device) → Settled d → Calm x d
settled-calm x d h = at_stage d.stage refl h
  where
    at_stage : (s : Stage) → d.stage ≡ s → settles s ≡ true → Calm x d
    at_stage (AwaitRom s n) e t = absurd (false≢true t)
    at_stage (SendRom i) e t = absurd (false≢true t)
    at_stage (Match i) e t = absurd (false≢true t)
    at_stage (Search i p) e t = absurd (false≢true t)
    at_stage (AwaitFunction s n) e t = absurd (false≢true t)
    at_stage (TakeSettings k s n) e t = calm x d (TakeSettings k s n) e refl
    at_stage (SendScratchpad k j) e t = calm x d (SendScratchpad k j) e refl
    at_stage SendStatus e t = absurd (false≢true t)
    at_stage SendPower e t = absurd (false≢true t)
    at_stage Quiet e t = calm x d Quiet e refl

settled-if : (t : Bool) (d e : Device) → Settled d → Settled e → Settled (if t then d else e)
settled-if true d e h k = h
settled-if false d e h k = k

stage-if : (t : Bool) (s u : Stage) → settles s ≡ true → settles u ≡ true → settles (if t then s else u) ≡ true
stage-if true s u h k = h
stage-if false s u h k = k

store-settled : (d : Device) (k byte : ℕ) → Settled (store_setting d k byte)
unfolding store_setting
store-settled d k byte =
    settled-if (ltb k (settings_count (row_of d.code d.pins)))
    _ _ (stage-if (ltb (k + 1) (settings_count (row_of d.code d.pins))) (TakeSettings (k + 1) 0 0) Quiet refl
    refl) refl

pub settled-hears : (x : Bool) (d : Device) → Settled d → Settled (hear_of d x)
unfolding hear_of
settled-hears x d h = at_stage d.stage refl h
  where
    at_stage : (s : Stage) → d.stage ≡ s → settles s ≡ true → Settled (hear_at d x s)
    at_stage (AwaitRom s n) e t = absurd (false≢true t)
    at_stage (SendRom i) e t = absurd (false≢true t)
    at_stage (Match i) e t = absurd (false≢true t)
    at_stage (Search i p) e t = absurd (false≢true t)
    at_stage (AwaitFunction s n) e t = absurd (false≢true t)
    at_stage (TakeSettings k s n) e t = shifted-cases s n x (λ taken. Settled (hear_settings d k taken)) refl
        (λ z. store-settled d k (shift_in s x)) refl
    at_stage (SendScratchpad k j) e t =
        stage-if (not (ltb k 9 && ltb j 8)) _ _ refl (stage-if (ltb j 7) _ _ refl (stage-if (ltb k 8) _ _ refl refl))
    at_stage SendStatus e t = absurd (false≢true t)
    at_stage SendPower e t = absurd (false≢true t)
    at_stage Quiet e t = ap settles e

-- ## The code

-- where a matching device stands at bit i: after the last it awaits a function command
abbrev pub match_stage : ℕ → Stage
match_stage i = if ltb i 64 then Match i else await_function

-- matching so far, or quiet
abbrev AtBit : ℕ → Device → Type 0
AtBit i d = (d.stage ≡ match_stage i) ⊎ (d.stage ≡ Quiet)

pub next_bit : (i : ℕ) → i < 64 → after_bit Match i ≡ match_stage (suc i)
next_bit i h = by-test (ltb i 63) refl
  where
    by-test : (t : Bool) → ltb i 63 ≡ t → after_bit Match i ≡ match_stage (suc i)
    by-test true e = let l = ltb-true i 63 e in let k : suc i < 64 = omega arith in
        rw (e, lt-ltb (suc i) 64 k, add-one i)
    by-test false e = let l = ltb-false i 63 e in let k : i ≡ 63 = omega arith in rw k

bit-heard : (i : ℕ) → i < 64 → (x : Bool) (d : Device) → d.stage ≡ Match i → AtBit (suc i) (hear_of d x)
unfolding hear_of
bit-heard i h x d e = rw (e, next_bit i h) (by-test (beq (bit_at d.code i) x))
  where
    by-test : (t : Bool) → ((if t then match_stage (suc i) else Quiet) ≡ match_stage (suc i))
        ⊎ ((if t then match_stage (suc i) else Quiet) ≡ Quiet)
    by-test true = inl refl
    by-test false = inr refl

code-hears : (bits : List Bool) (i : ℕ) (d : Device) → i + length bits ≡ 64 → AtBit i d → Hears (AtBit 64) bits d
code-hears [] i d e a = let z : i ≡ 64 = omega arith in rw z at a
code-hears (x ∷ bits) i d e a =
    ⊎_elim (matching (λ f h. code-hears bits (suc i) f (omega arith) h))
    (λ q. quiet-hears (AtBit 64) (x ∷ bits) d q (inr q)) a
  where
    matching : ((f : Device) → AtBit (suc i) f → Hears (AtBit 64) bits f) → d.stage ≡ match_stage i
        → Hears (AtBit 64) (x ∷ bits) d
    matching later h =
        let l : i < 64 = omega arith in
        let m : d.stage ≡ Match i = h ∙ rw (lt-ltb i 64 l) in
        (calm x d (Match i) m refl, rw m, later (hear_of d x) (bit-heard i l x d m))

-- ## 55h and the function command

rom-hears : (d : Device) → Hears (AtBit 0) (bits_of 8 match_rom) (reset_of d)
unfolding bits_of hear_of
rom-hears d = ((
  refl,
  refl,
  (
    refl,
    refl,
    (
      refl,
      refl,
      (refl, refl, (refl, refl, (refl, refl, (refl, refl, (refl, refl, inl refl))))),
    ),
  ),
))

-- a device that awaits a function command and hears one
module _ (d : Device) where
  read-hears : Hears Settled (bits_of 8 read_scratchpad) (with_stage d await_function)
  unfolding bits_of hear_of function_command
  read-hears = ((
    refl,
    refl,
    (
      refl,
      refl,
      (
        refl,
        refl,
        (refl, refl, (refl, refl, (refl, refl, (refl, refl, (refl, refl, refl))))),
      ),
    ),
  ))

  write-hears : Hears Settled (bits_of 8 write_scratchpad) (with_stage d await_function)
  unfolding bits_of hear_of function_command idle_command
  write-hears = ((
    refl,
    refl,
    (
      refl,
      refl,
      (
        refl,
        refl,
        (refl, refl, (refl, refl, (refl, refl, (refl, refl, ((by-busy (busy d)).0, refl, (by-busy (busy d)).1))))),
      ),
    ),
  ))
    where
      by-busy : (t : Bool)
          → (holds_wire (if t then with_stage d Quiet else with_stage d (TakeSettings 0 0 0)) ≡ holds_wire d)
          × Settled (if t then with_stage d Quiet else with_stage d (TakeSettings 0 0 0))
      by-busy true = (refl, refl)
      by-busy false = (refl, refl)

-- of the two commands either
pub data Access : ℕ → Type 0 where
  reading : Access read_scratchpad
  writing : Access write_scratchpad

function-hears : {command : ℕ} → Access command → (d : Device) → AtBit 64 d → Hears Settled (bits_of 8 command) d
function-hears a d (inl e) = awaiting a
  where
    same : d ≡ with_stage d await_function
    same = ap (with_stage d) e

    awaiting : {command : ℕ} → Access command → Hears Settled (bits_of 8 command) d
    awaiting reading = rw same (read-hears d)
    awaiting writing = rw same (write-hears d)
function-hears {command} a d (inr q) = quiet-hears Settled (bits_of 8 command) d q (ap settles q)

-- ## All of it

pub address-heard : {command : ℕ} → Access command → (code : ℕ) (d : Device)
    → Hears Settled (address_bits code command) (reset_of d)
address-heard {command} a code d =
    hears-append Settled (bits_of 8 match_rom) (code_bits code ++ bits_of 8 command) (reset_of d)
    (hears-then (AtBit 0) (Hears Settled (code_bits code ++ bits_of 8 command)) code-then (bits_of 8 match_rom) (reset_of d)
    (rom-hears d))
  where
    code-then : (e : Device) → AtBit 0 e → Hears Settled (code_bits code ++ bits_of 8 command) e
    code-then e h =
        let l : 0 + length (code_bits code) ≡ 64 = omega (arith, bits-length 64 code) in
        hears-append Settled (code_bits code) (bits_of 8 command) e
        (hears-then (AtBit 64) (Hears Settled (bits_of 8 command)) (function-hears a) (code_bits code) e
        (code-hears (code_bits code) 0 e l h))
