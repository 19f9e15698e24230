-- The refusals of reads and writes on a bench that calls reach: of the tests before anything is sent 5, 7 and 10, then
-- 4, of a reply 5, since a device's own is accepted (`read-answered`) and another code shows ones; of a write 13
-- besides. A write reads back on a bench that is readable still, for it makes slots and nothing else. What holds of
-- each of these numbers holds of the refusal: `read-refusal`, `write-refusal`.
use Rattle.std.specs.Prelude.{ℕ, Bool, ◌&&◌, List, [], ◌∷◌, ◌≢◌, ◌≡◌, refl, eqb}
use Rattle.std.proofs.Math.Bool.{true, false, not}
use Rattle.std.proofs.lemmas.Bool.{false≢true, eqb-false}
use Rattle.std.proofs.Common.{subst, eqb-true, eq-eqb}
use Rattle.std.specs.Prelude.{if◌then◌else◌}
use Rattle.basic_laws.specs.ChoiceLaws.{and_left, and_right}
use Rattle.basic_laws.specs.Each.{Each}
use Rattle.basic_laws.specs.Fold.{all}
use Rattle.basic_laws.specs.Bits.{bits_of}
use Rattle.refusals.specs.Refusals.{accepted, no_presence, wrong_crc, wrong_kind, wire_busy, mismatch}
use Rattle.family.specs.Families.{properties_of}
use Rattle.family.specs.declared.Properties.{Properties}
use Rattle.crc.specs.Crc.{crc_bits}
use Rattle.rom.specs.Code.{family_of, crc_byte_of, code_refusal}
use Rattle.device.specs.declared.Settings.{Settings}
use Rattle.bench.specs.Bench.{place_of, free}
use Rattle.bench.specs.Slot.{presence_of, restarted, reset_done}
use Rattle.bench.specs.declared.Bench.{Bench}
use Rattle.bench.specs.declared.Place.{Place}
use Rattle.bench.specs.declared.Place.TheVariants.{At, Nowhere}
use Rattle.bench.proofs.Laws.{reset-accepted, reset-cases}
use Rattle.master_rules.specs.declared.Access.{Access}
use Rattle.master_rules.specs.Access.{refused_at, fetched, on_presence, read_back, admission, read_at, settings_sent}
use Rattle.master_rules.specs.Access.{as_asked, written_and_read, write_at}
use Rattle.master_rules.proofs.AccessLaws.{read-unsent, write-unsent}
use Rattle.history_laws.specs.History.{Code64, after}
use Rattle.history_laws.specs.Kept.{written_keeps}
use Rattle.access_laws.specs.Bytewise.{Readable, readable-after, readable-slot, readable-reset}
use Rattle.access_laws.specs.Laws.{admitted-free}
use Rattle.access_laws.proofs.ReadLaws.{absent-refused, read-answered}
use Rattle.access_laws.specs.Shown.{damage, NeverDamaged}

-- ## The tests before anything is sent

pub admitted-code : (b : Bench) (code : ℕ) → code_refusal code ≡ accepted → free b ≡ true → admission b code ≡ accepted
unfolding admission
admitted-code b code e f = rw (e, f)

pub admitted-sound : (b : Bench) (code : ℕ) → admission b code ≡ accepted → code_refusal code ≡ accepted
unfolding admission
admitted-sound b code = by-test (eqb (code_refusal code) accepted) refl
  where
    by-test : (t : Bool) → eqb (code_refusal code) accepted ≡ t
        → (if not t then code_refusal code else if free b then accepted else wire_busy) ≡ accepted
        → code_refusal code ≡ accepted
    by-test true e a = eqb-true (code_refusal code) accepted e
    by-test false e a = a

pub read-admitted : (b : Bench) (code : ℕ) → admission b code ≡ accepted → read_at b code ≡ read_back code b
unfolding read_at
read-admitted b code a = rw a

pub write-admitted : (b : Bench) (code : ℕ) (s : Settings) → admission b code ≡ accepted
    → write_at b code s ≡ on_presence (reset_done b) (written_and_read code s)
unfolding write_at
write-admitted b code s a = rw a

read-fetched : (b : Bench) (code : ℕ) → admission b code ≡ accepted → presence_of b ≡ true
    → read_at b code ≡ fetched code (restarted b)
unfolding read_at read_back
read-fetched b code h there = rw (h, reset-accepted b (admitted-free b code h), there)

-- ## The refusals

-- what holds of each of these holds of what a test before the sending answers
module _ (P : ℕ → Type 0) (crc : P wrong_crc) (kind : P wrong_kind) (busy : P wire_busy) where
  unadmitted : (b : Bench) (code : ℕ) → admission b code ≢ accepted → P (admission b code)
  unfolding admission code_refusal
  unadmitted b code = by_tests (eqb (crc_byte_of code) (crc_bits 0 (bits_of 56 code))) (properties_of (family_of code)).known
      (free b)
    where
      by_tests : (t u v : Bool)
          → (if not (eqb (if not t then wrong_crc else if not u then wrong_kind else accepted) accepted)
          then (if not t then wrong_crc else if not u then wrong_kind else accepted)
          else if v then accepted else wire_busy)
          ≢ accepted
          → P (if not (eqb (if not t then wrong_crc else if not u then wrong_kind else accepted) accepted)
          then (if not t then wrong_crc else if not u then wrong_kind else accepted)
          else if v then accepted else wire_busy)
      by_tests true true true n = absurd (n refl)
      by_tests true true false n = busy
      by_tests true false v n = kind
      by_tests false u v n = crc

  module _ (done : P accepted) (lonely : P no_presence) where
    -- a reply at a code that passed the tests, on any readable bench
    fetched-refusal : (b : Bench) (code : ℕ) → Readable b → Code64 code → admission b code ≡ accepted
        → presence_of b ≡ true → P (fetched code (restarted b)).refusal
    fetched-refusal b code r fits a there = subst (λ (x : Access). P x.refusal) (read-fetched b code a there)
        (by_place (place_of b code) refl)
      where
        by_place : (p : Place) → place_of b code ≡ p → P (read_at b code).refusal
        by_place (At i) at = rw (read-answered b r code i (admitted-free b code a) at) done
        by_place Nowhere at = rw (absent-refused b code fits r.codes-fit a there at) crc

    read-back-refusal : (b : Bench) (code : ℕ) → Readable b → Code64 code → code_refusal code ≡ accepted
        → P (read_back code b).refusal
    unfolding read_back
    read-back-refusal b code r fits sound-code =
        reset-cases b (λ d. P (on_presence d (fetched code)).refusal)
        (λ f. by-presence (admitted-code b code sound-code f) (presence_of b) refl) (λ f. lonely)
      where
        by-presence : admission b code ≡ accepted → (p : Bool) → presence_of b ≡ p
            → P (if p then fetched code (restarted b) else refused_at no_presence (restarted b)).refusal
        by-presence a true there = fetched-refusal b code r fits a there
        by-presence a false there = lonely

    read-refusal : (b : Bench) (code : ℕ) → Readable b → Code64 code → P (read_at b code).refusal
    read-refusal b code r fits = by-admission (eqb (admission b code) accepted) refl
      where
        by-admission : (t : Bool) → eqb (admission b code) accepted ≡ t → P (read_at b code).refusal
        by-admission true e =
            let a = eqb-true (admission b code) accepted e in
            rw (read-admitted b code a) (read-back-refusal b code r fits (admitted-sound b code a))
        by-admission false e = let n = eqb-false (admission b code) accepted e in
            rw (read-unsent b code n) (unadmitted b code n)

    module _ (differs : P mismatch) where
      written-refusal : (b : Bench) (code : ℕ) (s : Settings) → Readable b → Code64 code → code_refusal code ≡ accepted
          → P (written_and_read code s b).refusal
      unfolding written_and_read
      written-refusal b code s r fits sound-code =
          by-test (eqb back.refusal accepted && not (as_asked row s back.pad))
        where
          row : Properties
          row = properties_of (family_of code)

          back : Access
          back = read_back code (settings_sent (properties_of (family_of code)) code s b)

          by-test : (t : Bool)
              → P (if t then refused_at mismatch (read_back code
              (settings_sent (properties_of (family_of code)) code s b)).bench
              else read_back code (settings_sent (properties_of (family_of code)) code s b)).refusal
          by-test true = differs
          by-test false = read-back-refusal _ code
              (written_keeps Readable readable-slot readable-reset (properties_of (family_of code)) code s b r) fits
              sound-code

      write-refusal : (b : Bench) (code : ℕ) (s : Settings) → Readable b → Code64 code → P (write_at b code s).refusal
      write-refusal b code s r fits = by-admission (eqb (admission b code) accepted) refl
        where
          by-presence : code_refusal code ≡ accepted → free b ≡ true → (p : Bool)
              → P (if p then written_and_read code s (restarted b) else refused_at no_presence (restarted b)).refusal
          by-presence sound-code f true =
              written-refusal (restarted b) code s (rw (reset-accepted b f) at (readable-reset b r)) fits sound-code
          by-presence sound-code f false = lonely

          by-admission : (t : Bool) → eqb (admission b code) accepted ≡ t → P (write_at b code s).refusal
          by-admission true e =
              let a = eqb-true (admission b code) accepted e in
              let f = admitted-free b code a in
              rw (write-admitted b code s a, reset-accepted b f)
              (by-presence (admitted-sound b code a) f (presence_of b))
          by-admission false e = let n = eqb-false (admission b code) accepted e in
              rw (write-unsent b code s n) (unadmitted b code n)

-- ## None of these is 6, 11 or 20

abbrev Undamaged : ℕ → Type 0
Undamaged refusal = Each (λ n. refusal ≢ n) damage

apart : (refusal : ℕ) → all (λ n. not (eqb refusal n)) damage ≡ true → Undamaged refusal
unfolding all
apart refusal = from damage
  where
    from : (l : List ℕ) → all (λ n. not (eqb refusal n)) l ≡ true → Each (λ n. refusal ≢ n) l
    from [] e = tt
    from (n ∷ l) e =
        let here = and_left (not (eqb refusal n)) (all (λ m. not (eqb refusal m)) l) e in
        let rest = and_right (not (eqb refusal n)) (all (λ m. not (eqb refusal m)) l) e in
        (λ same. false≢true (rw (eq-eqb refusal n same) at here), from l rest)

pub never-damaged : NeverDamaged
unfolding all
never-damaged h t code fits =
    let r = readable-after h t in
    let crc = apart wrong_crc refl in
    let kind = apart wrong_kind refl in
    let busy = apart wire_busy refl in
    let done = apart accepted refl in
    let lonely = apart no_presence refl in (
      read-refusal Undamaged crc kind busy done lonely (after h) code r fits,
      λ s. write-refusal Undamaged crc kind busy done lonely (apart mismatch refl) (after h) code s r fits,
    )
