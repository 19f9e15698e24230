-- The thermometers as a search sees them (the scope, "One slot", F0h and ECh): one by one they meet the laws that a
-- search asks of a device, for F0h all of them, for ECh those whose flag is set; and in the course of a search nothing
-- of a device changes but its stage.
--     thermometers           what a device offers, what it becomes in a slot and at a reset
--     search_bits, alarm_bits  the command as the line shows it
--     everybody, flagged     the laws for either command
--     unstaged d             the device without its stage: code, power, activity, stored bytes, flag and page
use Rattle.std.specs.Prelude.{ℕ, suc, ◌<◌, ◌≡◌, refl, Bool, true, false, not, cond, List, ltb, get_or}
use Rattle.std.proofs.Common.{ap, ◌∙◌, arith, add-one, lt-ltb, ltb-false, ltb-true}
use Rattle.std.specs.Bool.{beq}
use Rattle.std.specs.Prelude.{if◌then◌else◌}
use Rattle.basic_laws.specs.Bits.{bit_at, bits_of}
use Rattle.basic_laws.specs.BitsLaws.{bits_at}
use Rattle.search_laws.specs.Searchers.{Takes, Searchers}
use Rattle.device.specs.Hear.{after_bit, hear_of}
use Rattle.device.proofs.Laws.{hear-code, hear-alarm, quiet-stays, quiet-offers}
use Rattle.device.specs.Offer.{offer_of}
use Rattle.device.specs.Power.{reset_of}
use Rattle.device.specs.declared.Device.{Device}
use Rattle.device.specs.declared.Phase.TheVariants.{SendBit, SendComplement, TakeBit}
use Rattle.device.specs.declared.Stage.TheVariants.{Search, Quiet}
use Rattle.master_rules.specs.Thermometers.{alarm_bits, code_of, comes_to, search_bits, thermometers}

-- ## One device

pub comes-to : (j : ℕ) → j < 64 → comes_to j ≡ Search j SendBit
comes-to j h = rw (lt-ltb j 64 h)

goes_on : (j : ℕ) → j < 64 → after_bit (λ i. Search i SendBit) j ≡ comes_to (suc j)
goes_on j h = by-test (ltb j 63) refl
  where
    by-test : (t : Bool) → ltb j 63 ≡ t → after_bit (λ i. Search i SendBit) j ≡ comes_to (suc j)
    by-test true e = let l = ltb-true j 63 e in let k : suc j < 64 = omega arith in
        rw (e, lt-ltb (suc j) 64 k, add-one j)
    by-test false e = let l = ltb-false j 63 e in let k : j ≡ 63 = omega arith in rw k

pub own-offers : (j : ℕ) → j < 64 → (d : Device) → d.stage ≡ comes_to j → offer_of d ≡ get_or (code_of d) j false
own-offers j l d h = let e : d.stage ≡ Search j SendBit = h ∙ comes-to j l in
    rw (e, lt-ltb j 64 l, bits_at 64 d.code j l)

pub own-hears : (j : ℕ) → j < 64 → (x : Bool) (d : Device) → d.stage ≡ comes_to j
    → (hear_of d x).stage ≡ Search j SendComplement
unfolding hear_of
own-hears j l x d h = let e : d.stage ≡ Search j SendBit = h ∙ comes-to j l in rw e

pub co-offers : (j : ℕ) → j < 64 → (d : Device) → d.stage ≡ Search j SendComplement
    → offer_of d ≡ not (get_or (code_of d) j false)
co-offers j l d h = rw (h, lt-ltb j 64 l, bits_at 64 d.code j l)

pub co-hears : (j : ℕ) (x : Bool) (d : Device) → d.stage ≡ Search j SendComplement → (hear_of d x).stage ≡ Search j TakeBit
unfolding hear_of
co-hears j x d h = rw h

pub way-hears : (j : ℕ) → j < 64 → (x : Bool) (d : Device) → d.stage ≡ Search j TakeBit
    → cond (beq (get_or (code_of d) j false) x) ((hear_of d x).stage ≡ comes_to (suc j)) ((hear_of d x).stage ≡ Quiet)
unfolding hear_of
way-hears j l x d h = rw (h, goes_on j l, bits_at 64 d.code j l) (by-test (beq (bit_at d.code j) x))
  where
    by-test : (t : Bool) → cond t ((if t then comes_to (suc j) else Quiet)
        ≡ comes_to (suc j)) ((if t then comes_to (suc j) else Quiet) ≡ Quiet)
    by-test true = refl
    by-test false = refl

-- ## The laws of a search

-- either command, by who takes part: whether a device does goes by what no slot changes
module _ (command : List Bool) (joins : Device → Bool) (hear-joins : (x : Bool) (d : Device)
    → joins (hear_of d x) ≡ joins d)
    (restart-joins : (d : Device) → joins (reset_of d) ≡ joins d)
  where
    abbrev searchers_by : ((d : Device) → Takes thermometers
        (λ e. cond (joins e) (e.stage ≡ comes_to 0) (e.stage ≡ Quiet)) command (reset_of d))
        → Searchers thermometers command 64
    searchers_by taken = record {
      code = code_of;
      joins = joins;
      Own = λ j d. d.stage ≡ comes_to j;
      Co = λ j d. d.stage ≡ Search j SendComplement;
      Way = λ j d. d.stage ≡ Search j TakeBit;
      Out = λ d. d.stage ≡ Quiet;
      hear-code = λ x d. ap (bits_of 64) (hear-code d x);
      hear-joins = hear-joins;
      restart-code = λ d. refl;
      restart-joins = restart-joins;
      command-taken = taken;
      out-offer = quiet-offers;
      out-hear = λ x d h. ap (λ e. e.stage) (quiet-stays d x h) ∙ h;
      own-offer = own-offers;
      own-hear = own-hears;
      co-offer = co-offers;
      co-hear = λ j l x d h. co-hears j x d h;
      way-offer = λ j l d h. rw h;
      way-hear = way-hears;
    }

unfoldable pub everybody : Searchers thermometers search_bits 64
unfolding bits_of hear_of
everybody = searchers_by search_bits (λ d. true) (λ x d. refl) (λ d. refl)
    (λ d. (refl, (refl, (refl, (refl, (refl, (refl, (refl, (refl, refl)))))))))

unfoldable pub flagged : Searchers thermometers alarm_bits 64
unfolding bits_of hear_of
flagged =
    searchers_by alarm_bits (λ d. d.alarm) (λ x d. hear-alarm d x) (λ d. refl)
    (λ d. (refl, (refl, (refl, (refl, (refl, (refl, (refl, (refl, starts d.alarm)))))))))
  where
    starts : (t : Bool) → cond t ((if t then Search 0 SendBit else Quiet)
        ≡ Search 0 SendBit) ((if t then Search 0 SendBit else Quiet) ≡ Quiet)
    starts true = refl
    starts false = refl
