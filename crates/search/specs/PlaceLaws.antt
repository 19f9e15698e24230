-- On a free wire, where every device is quiet or at the first slot of place j, the three slots of the place show what
-- the codes say and leave each device settled: `placed-at-once`. Device by device a quiet one stays as it is, and a
-- searching one sends its bit, its complement, and takes the bit; the rest carries that over the devices of the bench.
use Prim.Native.Nat.{ℕ, zero, suc, ◌<◌}
use Rattle.std.specs.Prelude.{◌⊎◌, ◌≡◌, Bool, false, not, ◌&&◌, ◌||◌, eqb, ltb, take}
use Rattle.std.proofs.Common.{inl, ◌∙◌}
use Rattle.std.proofs.Math.Logic.{inr, ⊎_elim}
use Rattle.std.proofs.Math.Path.{refl, ap}
use Rattle.std.proofs.Math.Bool.{true, and-true, and_assoc}
use Rattle.std.proofs.lemmas.Bool.{false≢true}
use mathlib.Core.List.{List, [], ◌∷◌, map}
use borrow.Author.Tests.{lt-ltb, ltb-true, eqb-true}
use Rattle.basic_laws.specs.ChoiceLaws.{and_left, and_right}
use Rattle.basic_laws.specs.Fold.{fold, all}
use Rattle.basic_laws.specs.Front.{map_front}
use Rattle.refusals.specs.Refusals.{accepted}
use Rattle.device.specs.Hear.{hear_of}
use Rattle.device.specs.Offer.{offer_of}
use Rattle.device.specs.Record.{holds_wire}
use Rattle.device.specs.declared.Device.{Device}
use Rattle.device.specs.declared.Phase.TheVariants.{SendBit, SendComplement, TakeBit}
use Rattle.device.specs.declared.Stage.{Stage}
use Rattle.device.specs.declared.Stage.TheVariants.{AwaitRom, SendRom, Match, Search, AwaitFunction, TakeSettings}
use Rattle.device.specs.declared.Stage.TheVariants.{SendScratchpad, SendStatus, SendPower, Quiet}
use Rattle.bench.specs.Bench.{live, free}
use Rattle.bench.specs.Settling.{settled_of, settled_bench}
use Rattle.bench.specs.Slot.{line_bit, heard, slotted}
use Rattle.bench.specs.declared.Bench.{Bench}
use Rattle.bench.specs.declared.Slotted.{Slotted}
use Rattle.bench.proofs.Laws.{heard-live}
use Rattle.search.specs.Place.{chosen, placed}
use Rattle.device.specs.Stages.{quiet_at, starts_at}
use Rattle.search.specs.Standing.{fits, one_at, zero_sent_at, survey_start, surveyed_with}
use Rattle.search.specs.declared.place.Survey.{Survey}

-- ## One device

is_false : (a : Bool) → not a ≡ true → a ≡ false
is_false true e = absurd (false≢true e)
is_false false e = refl

-- a device that fits is quiet, or at the first slot of the place
stage_cases : (j : ℕ) (P : Stage → Type 0) → P Quiet → (j < 64 → P (Search j SendBit)) → (s : Stage)
    → (quiet_at s || starts_at j s) ≡ true → P s
stage_cases j P q f (AwaitRom s n) h = absurd (false≢true h)
stage_cases j P q f (SendRom i) h = absurd (false≢true h)
stage_cases j P q f (Match i) h = absurd (false≢true h)
stage_cases j P q f (Search i SendBit) h =
    let e : i ≡ j = eqb-true i j (and_left (eqb i j) (ltb j 64) h) in
    rw e (f (ltb-true j 64 (and_right (eqb i j) (ltb j 64) h)))
stage_cases j P q f (Search i SendComplement) h = absurd (false≢true h)
stage_cases j P q f (Search i TakeBit) h = absurd (false≢true h)
stage_cases j P q f (AwaitFunction s n) h = absurd (false≢true h)
stage_cases j P q f (TakeSettings k s n) h = absurd (false≢true h)
stage_cases j P q f (SendScratchpad k i) h = absurd (false≢true h)
stage_cases j P q f SendStatus h = absurd (false≢true h)
stage_cases j P q f SendPower h = absurd (false≢true h)
stage_cases j P q f Quiet h = q

module _ (j : ℕ) (d : Device) (h : fits j d ≡ true) where
  stands : (d.stage ≡ Quiet) ⊎ ((j < 64) × (d.stage ≡ Search j SendBit))
  unfolding fits
  stands =
      stage_cases j (λ s. (s ≡ Quiet) ⊎ ((j < 64) × (s ≡ Search j SendBit))) (inl refl) (λ l. inr (l, refl)) d.stage
      (and_right (not (holds_wire d)) _ h)

  supplied : not (holds_wire d) ≡ true
  unfolding fits
  supplied = and_left (not (holds_wire d)) _ h

  first-offer : offer_of d ≡ one_at j d
  unfolding one_at
  first-offer = ⊎_elim (λ (e : d.stage ≡ Quiet). rw e) (λ w. rw (w.1, lt-ltb j 64 w.0)) stands

  second-offer : (x : Bool) → offer_of (hear_of d x) ≡ zero_sent_at j d
  unfolding zero_sent_at hear_of
  second-offer x = ⊎_elim (λ (e : d.stage ≡ Quiet). rw e) (λ w. rw (w.1, lt-ltb j 64 w.0)) stands

  third-offer : (x y : Bool) → offer_of (hear_of (hear_of d x) y) ≡ true
  unfolding hear_of
  third-offer x y = ⊎_elim (λ (e : d.stage ≡ Quiet). rw e) (λ w. rw w.1) stands

  once-supplied : (x : Bool) → not (holds_wire (hear_of d x)) ≡ true
  unfolding hear_of
  once-supplied x = ⊎_elim (λ (e : d.stage ≡ Quiet). rw e supplied) (λ w. rw w.1 supplied) stands

  twice-supplied : (x y : Bool) → not (holds_wire (hear_of (hear_of d x) y)) ≡ true
  unfolding hear_of
  twice-supplied x y = ⊎_elim (λ (e : d.stage ≡ Quiet). rw e supplied) (λ w. rw w.1 supplied) stands

  after-three : (x y z : Bool) → hear_of (hear_of (hear_of d x) y) z ≡ settled_of j z d
  unfolding hear_of settled_of
  after-three x y z = ⊎_elim (λ (e : d.stage ≡ Quiet). rw e) (λ w. rw w.1) stands

-- ## The devices of a list, where each fits

module _ (P : Device → Bool) where
  all_same : (p q : Device → Bool) → ((d : Device) → P d ≡ true → p d ≡ q d) → (l : List Device) → all P l ≡ true
      → all p l ≡ all q l
  unfolding all
  all_same p q e [] h = refl
  all_same p q e (x ∷ l) h = rw (e x (and_left (P x) (all P l) h), all_same p q e l (and_right (P x) (all P l) h))

  all_true : (p : Device → Bool) → ((d : Device) → P d ≡ true → p d ≡ true) → (l : List Device) → all P l ≡ true
      → all p l ≡ true
  unfolding all
  all_true p e [] h = refl
  all_true p e (x ∷ l) h = rw (e x (and_left (P x) (all P l) h)) (all_true p e l (and_right (P x) (all P l) h))

  front_same : (f g : Device → Device) → ((d : Device) → P d ≡ true → f d ≡ g d) → (n : ℕ) (l : List Device)
      → all P (take n l) ≡ true
      → map_front f n l ≡ map_front g n l
  unfolding map_front all
  front_same f g e zero l h = refl
  front_same f g e (suc n) [] h = refl
  front_same f g e (suc n) (x ∷ l) h =
      rw (e x (and_left (P x) (all P (take n l)) h))
      (ap (λ (t : List Device). g x ∷ t) (front_same f g e n l (and_right (P x) (all P (take n l)) h)))

all-mapped : (p : Device → Bool) (f : Device → Device) (l : List Device) → all p (map f l) ≡ all (λ d. p (f d)) l
unfolding all
all-mapped p f [] = refl
all-mapped p f (x ∷ l) = ap (λ (t : Bool). p (f x) && t) (all-mapped p f l)

front-twice : (f g : Device → Device) (n : ℕ) (l : List Device)
    → map_front g n (map_front f n l) ≡ map_front (λ d. g (f d)) n l
unfolding map_front
front-twice f g zero l = refl
front-twice f g (suc n) [] = refl
front-twice f g (suc n) (x ∷ l) = ap (λ (t : List Device). g (f x) ∷ t) (front-twice f g n l)

-- ## The bench

abbrev shown_on : Bench → Bool → Slotted
shown_on c x = record { refusal = accepted; line = x; bench = heard c x }

slot-passes : (c : Bench) (m x : Bool) → free c ≡ true → line_bit c m ≡ x → slotted c m ≡ shown_on c x
unfolding slotted
slot-passes c m x e l = rw (e, l)

abbrev hears : Bool → Device → Device
hears x d = hear_of d x

abbrev supplies : Device → Bool
supplies d = not (holds_wire d)

module _ (j : ℕ) (b : Bench) (h : all (fits j) (live b) ≡ true) where
  free-now : free b ≡ true
  unfolding free
  free-now = all_true (fits j) supplies (λ d k. supplied j d k) (live b) h

  first-line : line_bit b true ≡ all (one_at j) (live b)
  unfolding line_bit
  first-line = all_same (fits j) offer_of (one_at j) (λ d k. first-offer j d k) (live b) h

  free-once : (x : Bool) → free (heard b x) ≡ true
  unfolding free
  free-once x =
      ap (all supplies) (heard-live b x) ∙ all-mapped supplies (hears x) (live b)
      ∙ all_true (fits j) (λ d. supplies (hears x d)) (λ d k. once-supplied j d k x) (live b) h

  second-line : (x : Bool) → line_bit (heard b x) true ≡ all (zero_sent_at j) (live b)
  unfolding line_bit
  second-line x =
      ap (all offer_of) (heard-live b x) ∙ all-mapped offer_of (hears x) (live b)
      ∙ all_same (fits j) (λ d. offer_of (hears x d)) (zero_sent_at j) (λ d k. second-offer j d k x) (live b) h

  -- what holds of each device after two slots holds of all
  all-twice : (p : Device → Bool) (x y : Bool) → ((d : Device) → fits j d ≡ true → p (hears y (hears x d)) ≡ true)
      → all p (live (heard (heard b x) y)) ≡ true
  all-twice p x y e =
      ap (all p) (heard-live (heard b x) y ∙ ap (map (hears y)) (heard-live b x))
      ∙ all-mapped p (hears y) (map (hears x) (live b)) ∙ all-mapped (λ d. p (hears y d)) (hears x) (live b)
      ∙ all_true (fits j) (λ d. p (hears y (hears x d))) e (live b) h

  free-twice : (x y : Bool) → free (heard (heard b x) y) ≡ true
  unfolding free
  free-twice x y = all-twice supplies x y (λ d k. twice-supplied j d k x y)

  third-line : (x y m : Bool) → line_bit (heard (heard b x) y) m ≡ m
  unfolding line_bit
  third-line x y m = rw (all-twice offer_of x y (λ d k. third-offer j d k x y)) (and-true m)

  settled-three : (x y z : Bool) → heard (heard (heard b x) y) z ≡ settled_bench j z b
  unfolding heard
  settled-three x y z =
      let n = b.count in
      let t = b.devices in
      ap (λ (l : List Device). record { devices = l; count = n })
      (ap (map_front (hears z) n) (front-twice (hears x) (hears y) n t)
      ∙ front-twice (λ d. hears y (hears x d)) (hears z) n t
      ∙ front_same (fits j) (λ d. hears z (hears y (hears x d))) (settled_of j z) (λ d k. after-three j d k x y z) n t h)

  placed-at-once : (w : Bool) → let a = all (one_at j) (live b) in let z = all (zero_sent_at j) (live b) in let x =
      chosen a z w in (a && z) ≡ false
      → placed b w ≡ record { bench = settled_bench j x b; first = a; second = z; taken = x; third = x }
  unfolding placed
  placed-at-once w e =
      let a = all (one_at j) (live b) in
      let z = all (zero_sent_at j) (live b) in
      let x = chosen a z w in
      let one = slot-passes b true a free-now first-line in
      let two = slot-passes (heard b a) true z (free-once a) (second-line a) in
      let three = slot-passes (heard (heard b a) z) x x (free-twice a z) (third-line a z x) in
      rw (one, two, e, three, settled-three a z x)

-- ## The survey

survey-is : (j : ℕ) (s : Survey) (l : List Device)
    → fold (surveyed_with j) s l ≡ record {
      fits = s.fits && all (fits j) l;
      ones = s.ones && all (one_at j) l;
      zeros = s.zeros && all (zero_sent_at j) l;
    }
unfolding fold all surveyed_with
survey-is j s [] = rw (and-true s.fits, and-true s.ones, and-true s.zeros)
survey-is j s (d ∷ l) = survey-is j (surveyed_with j s d) l ∙ added
  where
    added : let t = surveyed_with j s d in
        ◌≡◌ {A = Survey} (record {
          fits = t.fits && all (fits j) l;
          ones = t.ones && all (one_at j) l;
          zeros = t.zeros && all (zero_sent_at j) l;
        })
        (record {
          fits = s.fits && (fits j d && all (fits j) l);
          ones = s.ones && (one_at j d && all (one_at j) l);
          zeros = s.zeros && (zero_sent_at j d && all (zero_sent_at j) l);
        })
    added = rw (
      and_assoc s.fits (fits j d) (all (fits j) l),
      and_assoc s.ones (one_at j d) (all (one_at j) l),
      and_assoc s.zeros (zero_sent_at j d) (all (zero_sent_at j) l),
    )

pub surveyed-at-once : (j : ℕ) (b : Bench) (w : Bool) → let s = fold (surveyed_with j) survey_start (live b) in let x =
    chosen s.ones s.zeros w in
    (s.fits && not (s.ones && s.zeros)) ≡ true
    → placed b w ≡ record { bench = settled_bench j x b; first = s.ones; second = s.zeros; taken = x; third = x }
surveyed-at-once j b w e =
    let is = survey-is j survey_start (live b) in
    let a = all (one_at j) (live b) in
    let z = all (zero_sent_at j) (live b) in
    let f = all (fits j) (live b) in
    let k : (f && not (a && z)) ≡ true = rw is at e in
    rw is (placed-at-once j b (and_left f _ k) w (is_false (a && z) (and_right f _ k)))
