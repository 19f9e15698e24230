-- The claims on writes. What each device is when the settings have come is `write-picks`; the read that follows is a
-- read like any other, on that bench, so that it shows what the device then holds and changes
-- nothing but stages. The bytes shown are as asked just where the device holds what was asked.
use Rattle.std.specs.Prelude.{ℕ, zero, suc, ◌^◌, ◌<◌, Bool, true, false, not, ◌&&◌, ◌≢◌, ◌≡◌, eqb, length, get_or, set}
use Rattle.std.proofs.lemmas.Bool.{false≢true, eqb-false}
use mathlib.Core.List.{List, [], ◌∷◌, map}
use Rattle.std.proofs.Math.Path.{refl, sym, ap}
use Rattle.std.proofs.Common.{◌∙◌, arith, eqb-true, eq-eqb, ne_eqb}
use Rattle.std.proofs.Math.ListN.{get_or-map}
use Rattle.std.proofs.lemmas.List.{set-get_or}
use Rattle.std.specs.Prelude.{if◌then◌else◌}
use Rattle.basic_laws.specs.Each.{Each, Distinct}
use Rattle.basic_laws.specs.First.{first_with}
use Rattle.basic_laws.specs.FirstLaws.{first-mapped}
use Rattle.basic_laws.specs.Fold.{fold}
use Rattle.refusals.specs.Refusals.{accepted, no_presence, wrong_crc, mismatch}
use Rattle.family.specs.Families.{with_pins}
use Rattle.family.specs.declared.Properties.{Properties}
use Rattle.search_laws.specs.Numbers.{Below}
use Rattle.search_laws.specs.Wire.{slots}
use Rattle.device.specs.Hear.{hear_of}
use Rattle.device.specs.Offer.{nine_bytes}
use Rattle.device.specs.Power.{reset_of}
use Rattle.device.specs.Record.{with_scratchpad, family_row, row_of, busy}
use Rattle.device.specs.Settings.{with_settings}
use Rattle.device.specs.SettingsLaws.{settings-twice, settings-long}
use Rattle.device.specs.declared.Device.{Device}
use Rattle.device.specs.declared.Settings.{Settings}
use Rattle.bench.specs.Bench.{live, vacant, place_of, free}
use Rattle.bench.specs.Calls.{device_at}
use Rattle.bench.specs.Slot.{presence_of, restarted, reset_done}
use Rattle.bench.specs.declared.Bench.{Bench}
use Rattle.bench.specs.declared.Place.{Place}
use Rattle.bench.specs.declared.Place.TheVariants.{At, Nowhere}
use Rattle.bench.proofs.Laws.{reset-accepted, restarted-live, place-live, place_found, place-nowhere, device-live}
use Rattle.bench.specs.Sound.{codes_of}
use Rattle.master_rules.specs.declared.Access.{Access}
use Rattle.master_rules.specs.Access.{refused_at, on_presence, read_back, admission, read_at, settings_sent, as_asked}
use Rattle.master_rules.specs.Access.{compared, written_and_read, write_at}
use Rattle.master_rules.proofs.AccessLaws.{write-unsent, held-as-asked, asked-as-held}
use Rattle.master_rules.specs.Buses.{slot_rule}
use Rattle.master_rules.specs.Issued.{issued}
use Rattle.master_rules.proofs.IssuedLaws.{slots-presence}
use Rattle.master_rules.specs.OnTheBench.{Free}
use Rattle.master_rules.proofs.OnTheBench.{restarted-keeps, free-restarted}
use Rattle.master_rules.specs.Thermometers.{unstaged}
use Rattle.history_laws.specs.History.{after}
use Rattle.history_laws.specs.Kept.{written_keeps}
use Rattle.access_laws.specs.Bytewise.{Readable, readable-after, readable-slot, readable-reset}
use Rattle.access_laws.specs.Course.{Hears, hears-end, hears-then}
use Rattle.access_laws.specs.Laws.{Ends, heard-runs, heard-live-all, calls-rule, settings-run, admitted-free}
use Rattle.access_laws.proofs.NeverLaws.{admitted-code, admitted-sound, read-admitted, write-admitted}
use Rattle.access_laws.proofs.ReadLaws.{absent-refused, has, admitted, present, pad-sound, read-answered}
use Rattle.access_laws.specs.Reply.{IsQuiet}
use Rattle.access_laws.specs.Shown.{answered_with}
use Rattle.access_laws.specs.ShownLaws.{differs_at, others-differ, read_kept}
use Rattle.access_laws.specs.Taken.{pad_written, settled_by, SettingBytes, write-picks}
use Rattle.access_laws.specs.Unrefused.{read_bits, write_bits}
use Rattle.access_laws.specs.Written.{with_asked, written_at, bench_written, WriteAnswer, WritePromise}

-- ## Lists of devices

pub map_at : {A B : Type 0} (f : A → B) (l : List A) (i : ℕ) (y : A) (z : B) → i < length l
    → get_or (map f l) i z ≡ f (get_or l i y)
map_at f [] i y z h = absurd (omega arith)
map_at f (x ∷ l) zero y z h = refl
map_at f (x ∷ l) (suc i) y z h = map_at f l i y z (omega arith)

-- a place goes by the codes alone
pub place-by-codes : (b c : Bench) (code : ℕ) → codes_of c ≡ codes_of b → place_of c code ≡ place_of b code
unfolding place_of
place-by-codes b c code e =
    first-mapped (λ (d : Device). d.code) (λ k. eqb k code) At Nowhere 0 (live c)
    ∙ ap (first_with (λ k. eqb k code) At Nowhere 0) e
    ∙ sym (first-mapped (λ (d : Device). d.code) (λ k. eqb k code) At Nowhere 0 (live b))

settled-codes : (code : ℕ) (s : Settings) (ds : List Device)
    → map (λ d. d.code) (map (settled_by code s) ds) ≡ map (λ d. d.code) ds
settled-codes code s [] = refl
settled-codes code s (d ∷ ds) = let i = settled-codes code s ds in rw i

-- devices without the code keep all but their stage
others-settled : (code : ℕ) (s : Settings) (ds : List Device) → Each (λ d. d.code ≢ code) ds
    → map unstaged (map (settled_by code s) ds) ≡ map unstaged ds
others-settled code s [] h = refl
others-settled code s (d ∷ ds) h = let i = others-settled code s ds h.1 in rw (ne_eqb d.code code h.0, i)

-- of different codes one is written, and the others keep all but their stage
one-settled : (code : ℕ) (s : Settings) (ds : List Device) (i : ℕ) → i < length ds → Distinct (map (λ d. d.code) ds)
    → (get_or ds i vacant).code ≡ code
    → map unstaged (map (settled_by code s) ds)
    ≡ set (map unstaged ds) i (unstaged (with_scratchpad (get_or ds i vacant) (pad_written (get_or ds i vacant) s)))
one-settled code s [] i h k e = absurd (omega arith)
one-settled code s (d ∷ ds) zero h k e =
    rw (eq-eqb d.code code e, others-settled code s ds (rw e at (others-differ d.code ds k.0)))
one-settled code s (d ∷ ds) (suc i) h k e =
    let l : i < length ds = omega arith in
    let n : d.code ≢ code = λ z. differs_at d.code ds i l k.0 (z ∙ sym e) in
    let later = one-settled code s ds i l k.1 e in
    rw (ne_eqb d.code code n, later)

-- ## The bench once the settings have been sent

module _ (b : Bench) (code : ℕ) (s : Settings) (bytes : SettingBytes s) (fits : code < 2 ^ 64)
    (fit : Below 64 (codes_of b)) (f : Free b) where
  sent_to : Bench
  sent_to = (slots slot_rule (write_bits (family_row code) code s) (restarted b)).devices

  each-hears : Each (Hears IsQuiet (write_bits (family_row code) code s)) (live (restarted b))
  each-hears = rw (restarted-live b) (go (live b) fit)
    where
      go : (ds : List Device) → Below 64 (map (λ d. d.code) ds)
          → Each (Hears IsQuiet (write_bits (family_row code) code s)) (map reset_of ds)
      go [] h = tt
      go (d ∷ ds) h = (
        hears-then (λ e. e ≡ settled_by code s d) IsQuiet (λ e q. ap (λ x. x.stage) q)
            (write_bits (family_row code) code s) (reset_of d) (write-picks code s d bytes fits h.0),
        go ds h.1,
      )

  ends : Ends IsQuiet (write_bits (family_row code) code s) (restarted b)
  ends = heard-runs IsQuiet (write_bits (family_row code) code s) (restarted b) each-hears (free-restarted b ∙ f)

  sent_is : settings_sent (family_row code) code s (restarted b) ≡ sent_to
  unfolding sent_to
  sent_is =
      sym (settings-run code (restarted b) (family_row code) s)
      ∙ ap (λ r. r.devices) (calls-rule (write_bits (family_row code) code s) (restarted b) ends.runs.throughout)

  sent-free : Free sent_to
  unfolding sent_to
  sent-free = ends.runs.after-it

  sent-live : live sent_to ≡ map (settled_by code s) (live b)
  unfolding sent_to
  sent-live =
      heard-live-all IsQuiet (write_bits (family_row code) code s) (restarted b) each-hears
      ∙ rw (restarted-live b) (each-settled (live b) fit)
    where
      each-settled : (ds : List Device) → Below 64 (map (λ d. d.code) ds)
          → map (λ d. fold hear_of d (write_bits (family_row code) code s)) (map reset_of ds) ≡ map (settled_by code s) ds
      each-settled [] h = refl
      each-settled (d ∷ ds) h =
          let e =
          hears-end (λ e. e ≡ settled_by code s d) (write_bits (family_row code) code s) (reset_of d)
          (write-picks code s d bytes fits h.0) in
          let i = each-settled ds h.1 in rw (e, i)

  sent-codes : codes_of sent_to ≡ codes_of b
  sent-codes = ap (map (λ d. d.code)) sent-live ∙ settled-codes code s (live b)

  -- where the call is admitted and somebody shows presence
  module _ (a : admission b code ≡ accepted) (there : presence_of b ≡ true) where
    read-there : read_back code sent_to ≡ read_at sent_to code
    read-there = sym (read-admitted sent_to code (admitted-code sent_to code (admitted-sound b code a) sent-free))

    write-is : write_at b code s ≡ compared (family_row code) s (read_at sent_to code)
    unfolding written_and_read
    write-is =
        write-admitted b code s a
        ∙ ap (λ r. on_presence r (written_and_read code s)) (reset-accepted b f)
        ∙ rw there
        (ap (λ c. compared (family_row code) s (read_back code c)) sent_is ∙ ap (compared (family_row code) s) read-there)

    compared-bench : (r : Access) → (compared (family_row code) s r).bench ≡ r.bench
    compared-bench r = by-test (eqb r.refusal accepted && not (as_asked (family_row code) s r.pad))
      where
        by-test : (t : Bool) → (if t then refused_at mismatch r.bench else r).bench ≡ r.bench
        by-test true = refl
        by-test false = refl

    touched : map unstaged (live (write_at b code s).bench) ≡ map unstaged (map (settled_by code s) (live b))
    touched =
        ap (λ (r : Access). map unstaged (live r.bench)) write-is
        ∙ ap (λ (c : Bench). map unstaged (live c)) (compared-bench (read_at sent_to code))
        ∙ read_kept sent_to code fits (rw sent-codes fit)
        ∙ ap (map unstaged) sent-live

-- ## The answer, where a device of a readable bench has the code

module _ (b : Bench) (r : Readable b) (code i : ℕ) (s : Settings) (bytes : SettingBytes s) (fits : code < 2 ^ 64)
    (f : Free b) (at : place_of b code ≡ At i) where
  abbrev device : Device
  device = device_at b i

  abbrev sent : Bench
  sent = sent_to b code s bytes fits r.codes-fit f

  at-sent : place_of sent code ≡ At i
  at-sent = place-by-codes b sent code (sent-codes b code s bytes fits r.codes-fit f) ∙ at

  readable-sent : Readable sent
  readable-sent =
      rw (sent_is b code s bytes fits r.codes-fit f) at
      (written_keeps Readable readable-slot readable-reset (family_row code) code s (restarted b)
      (rw (reset-accepted b f) at (readable-reset b r)))

  held : (device_at sent i).scratchpad ≡ pad_written device s
  held =
      ap (λ (d : Device). d.scratchpad) (sym (device-live sent code i at-sent))
      ∙ ap (λ (ds : List Device). (get_or ds i vacant).scratchpad) (sent-live b code s bytes fits r.codes-fit f)
      ∙ ap (λ (d : Device). d.scratchpad) (map_at (settled_by code s) (live b) i vacant vacant (place-live b code i at))
      ∙ ap (λ (d : Device). (settled_by code s d).scratchpad) (device-live b code i at)
      ∙ rw (eq-eqb device.code code (has b r code i f at))

  own : row_of device.code device.pins ≡ with_pins (family_row code) device.pins
  unfolding row_of
  own = rw (has b r code i f at)

  eight : length device.scratchpad ≡ 8
  eight = (pad-sound b r code i f at).eight

  write-compared : write_at b code s
      ≡ compared (family_row code) s (answered_with code (pad_written device s) (bench_written b code s))
  unfolding sent_to issued
  write-compared =
      write-is b code s bytes fits r.codes-fit f (admitted b r code i f at) (present b r code i f at)
      ∙ ap (compared (family_row code) s)
      (read-answered sent readable-sent code i (sent-free b code s bytes fits r.codes-fit f) at-sent
      ∙ ap (λ (pad : List ℕ). answered_with code pad (issued (read_bits code ∷ []) sent).bench) held)

  write-accepted : (pad : List ℕ) → pad_written device s ≡ pad → as_asked (family_row code) s (nine_bytes pad) ≡ true
      → write_at b code s ≡ answered_with code pad (bench_written b code s)
  write-accepted pad e a =
      write-compared ∙ ap (λ (p : List ℕ). compared (family_row code) s (answered_with code p (bench_written b code s))) e
      ∙ rw a

  write-refused : (pad : List ℕ) → pad_written device s ≡ pad → as_asked (family_row code) s (nine_bytes pad) ≡ false
      → write_at b code s ≡ refused_at mismatch (bench_written b code s)
  write-refused pad e a =
      write-compared ∙ ap (λ (p : List ℕ). compared (family_row code) s (answered_with code p (bench_written b code s))) e
      ∙ rw a

  idle-answered : busy device ≡ false
      → write_at b code s ≡ answered_with code (with_asked device s) (bench_written b code s)
  idle-answered idle = write-accepted (with_asked device s) (rw idle) as-asked
    where
      row : Properties
      row = with_pins (family_row code) device.pins

      as-asked : as_asked (family_row code) s (nine_bytes (with_asked device s)) ≡ true
      as-asked =
          rw own
          (held-as-asked (family_row code) device.pins (with_settings row device.scratchpad s) s
          (settings-long row device.scratchpad s eight)
          (settings-twice row device.scratchpad s eight))

  busy-answered : busy device ≡ true → with_asked device s ≡ device.scratchpad
      → write_at b code s ≡ answered_with code device.scratchpad (bench_written b code s)
  busy-answered busy-now e =
      write-accepted device.scratchpad (rw busy-now)
      (held-as-asked (family_row code) device.pins device.scratchpad s eight (rw own at e))

  busy-mismatched : busy device ≡ true → with_asked device s ≢ device.scratchpad
      → write_at b code s ≡ refused_at mismatch (bench_written b code s)
  busy-mismatched busy-now n = by-test (as_asked (family_row code) s (nine_bytes device.scratchpad)) refl
    where
      by-test : (t : Bool) → as_asked (family_row code) s (nine_bytes device.scratchpad) ≡ t
          → write_at b code s ≡ refused_at mismatch (bench_written b code s)
      by-test true a =
          absurd (n (rw own (asked-as-held (family_row code) device.pins device.scratchpad s eight
          (pad-sound b r code i f at).as-kept a)))
      by-test false a = write-refused device.scratchpad (rw busy-now) a

  -- the settings asked, where the write is accepted, are those that the device then holds, busy or not
  accepted-holds : (write_at b code s).refusal ≡ accepted → pad_written device s ≡ with_asked device s
  accepted-holds done = by-busy (busy device) refl
    where
      by-asked : (t : Bool) → as_asked (family_row code) s (nine_bytes device.scratchpad) ≡ t → busy device ≡ true
          → device.scratchpad ≡ with_asked device s
      by-asked true a now =
          rw own (sym (asked-as-held (family_row code) device.pins device.scratchpad s eight
          (pad-sound b r code i f at).as-kept a))
      by-asked false a now =
          let no : mismatch ≡ accepted =
          ap (λ (x : Access). x.refusal) (sym (write-refused device.scratchpad (rw now) a)) ∙ done in
          absurd (omega (arith, no))

      by-busy : (t : Bool) → busy device ≡ t
          → (if t then device.scratchpad else with_asked device s) ≡ with_asked device s
      by-busy true e = by-asked (as_asked (family_row code) s (nine_bytes device.scratchpad)) refl e
      by-busy false e = refl

  -- a device whose write is refused is busy, and holds what it held
  refused-holds : (write_at b code s).refusal ≢ accepted → pad_written device s ≡ device.scratchpad
  refused-holds not_done = by-busy (busy device) refl
    where
      by-busy : (t : Bool) → busy device ≡ t
          → (if t then device.scratchpad else with_asked device s) ≡ device.scratchpad
      by-busy true e = refl
      by-busy false e = absurd (not_done (ap (λ (x : Access). x.refusal) (idle-answered e)))

  written-there : map unstaged (live (write_at b code s).bench)
      ≡ set (map unstaged (live b)) i (unstaged (with_scratchpad device (pad_written device s)))
  written-there =
      touched b code s bytes fits r.codes-fit f (admitted b r code i f at) (present b r code i f at)
      ∙ one-settled code s (live b) i (place-live b code i at) r.sound.codes-distinct (place_found b code i at)
      ∙ ap (λ (d : Device). set (map unstaged (live b)) i (unstaged (with_scratchpad d (pad_written d s))))
      (device-live b code i at)

  accepted-there : (write_at b code s).refusal ≡ accepted
      → map unstaged (live (write_at b code s).bench) ≡ written_at b i s
  accepted-there done =
      written-there ∙ ap (λ (pad : List ℕ). set (map unstaged (live b)) i (unstaged (with_scratchpad device pad)))
      (accepted-holds done)

  refused-there : (write_at b code s).refusal ≢ accepted
      → map unstaged (live (write_at b code s).bench) ≡ map unstaged (live b)
  refused-there not_done =
      let same : unstaged device ≡ get_or (map unstaged (live b)) i (unstaged vacant) =
      ap unstaged (sym (device-live b code i at)) ∙ sym (get_or-map unstaged (live b) i vacant) in
      written-there
      ∙ ap (λ (pad : List ℕ). set (map unstaged (live b)) i (unstaged (with_scratchpad device pad)))
      (refused-holds not_done)
      ∙ ap (set (map unstaged (live b)) i) same
      ∙ set-get_or (map unstaged (live b)) i (unstaged vacant)

-- ## Whatever the answer

-- what holds of the bench as it was, restarted, or with the settings, holds of the bench after a write
write-benches : (b : Bench) (code : ℕ) (s : Settings) → SettingBytes s → code < 2 ^ 64 → Below 64 (codes_of b)
    → (P : List Device → Type 0)
    → P (map unstaged (live b)) → P (map unstaged (map (settled_by code s) (live b)))
    → P (map unstaged (live (write_at b code s).bench))
write-benches b code s bytes fits fit P same written = by-admission (eqb (admission b code) accepted) refl
  where
    by-presence : admission b code ≡ accepted → (p : Bool) → presence_of b ≡ p
        → P (map unstaged (live (write_at b code s).bench))
    by-presence a true e = rw (touched b code s bytes fits fit (admitted-free b code a) a e) written
    by-presence a false e =
        let f = admitted-free b code a in
        let alone : on_presence (reset_done b) (written_and_read code s) ≡ refused_at no_presence (restarted b) =
        rw (reset-accepted b f, e) in
        let kept : map unstaged (live (write_at b code s).bench) ≡ map unstaged (live b) =
        ap (λ (x : Access). map unstaged (live x.bench)) (write-admitted b code s a ∙ alone) ∙ restarted-keeps b in
        rw kept same

    by-admission : (t : Bool) → eqb (admission b code) accepted ≡ t → P (map unstaged (live (write_at b code s).bench))
    by-admission true e = by-presence (eqb-true (admission b code) accepted e) (presence_of b) refl
    by-admission false e = rw (write-unsent b code s (eqb-false (admission b code) accepted e)) same

codes-unstaged : (ds : List Device) → map (λ d. d.code) (map unstaged ds) ≡ map (λ d. d.code) ds
codes-unstaged [] = refl
codes-unstaged (d ∷ ds) = let i = codes-unstaged ds in rw i

pub write-codes : (b : Bench) (code : ℕ) (s : Settings) → SettingBytes s → code < 2 ^ 64 → Below 64 (codes_of b)
    → codes_of (write_at b code s).bench ≡ codes_of b
write-codes b code s bytes fits fit =
    sym (codes-unstaged (live (write_at b code s).bench))
    ∙ write-benches b code s bytes fits fit (λ ds. map (λ d. d.code) ds ≡ codes_of b) (codes-unstaged (live b))
    (codes-unstaged (map (settled_by code s) (live b)) ∙ settled-codes code s (live b))

neighbour-kept : (b : Bench) (code : ℕ) (s : Settings) → SettingBytes s → code < 2 ^ 64 → Below 64 (codes_of b)
    → (other i : ℕ) → other ≢ code → place_of b other ≡ At i
    → unstaged (device_at (write_at b code s).bench i) ≡ unstaged (device_at b i)
neighbour-kept b code s bytes fits fit other i n at =
    ap unstaged (sym (device-live after-it other i at_after)) ∙ same-there ∙ ap unstaged (device-live b other i at)
  where
    before : List Device
    before = live b

    after-it : Bench
    after-it = (write_at b code s).bench

    at_after : place_of after-it other ≡ At i
    at_after = place-by-codes b after-it other (write-codes b code s bytes fits fit) ∙ at

    settled-there : unstaged (get_or (map (settled_by code s) before) i vacant) ≡ unstaged (get_or before i vacant)
    settled-there =
        ap unstaged (map_at (settled_by code s) before i vacant vacant (place-live b other i at))
        ∙ rw (ne_eqb (get_or before i vacant).code code (λ e. n (sym (place_found b other i at) ∙ e)))

    same-there : unstaged (get_or (live after-it) i vacant) ≡ unstaged (get_or before i vacant)
    same-there =
        sym (get_or-map unstaged (live after-it) i vacant)
        ∙ write-benches b code s bytes fits fit (λ ds. get_or ds i (unstaged vacant) ≡ unstaged (get_or before i vacant))
        (get_or-map unstaged before i vacant)
        (get_or-map unstaged (map (settled_by code s) before) i vacant ∙ settled-there)

-- an accepted write found the wire free
accepted-admitted : (b : Bench) (code : ℕ) (s : Settings) → (write_at b code s).refusal ≡ accepted
    → admission b code ≡ accepted
accepted-admitted b code s done = by-test (eqb (admission b code) accepted) refl
  where
    by-test : (t : Bool) → eqb (admission b code) accepted ≡ t → admission b code ≡ accepted
    by-test true e = eqb-true (admission b code) accepted e
    by-test false e =
        let n = eqb-false (admission b code) accepted e in
        absurd (n (ap (λ (x : Access). x.refusal) (sym (write-unsent b code s n)) ∙ done))

-- the read that follows finds nobody either
absent-never : (b : Bench) (code : ℕ) (s : Settings) → SettingBytes s → code < 2 ^ 64 → Below 64 (codes_of b)
    → place_of b code ≡ Nowhere → (write_at b code s).refusal ≢ accepted
unfolding sent_to
absent-never b code s bytes fits fit nowhere done = by-presence (presence_of b) refl
  where
    a : admission b code ≡ accepted
    a = accepted-admitted b code s done

    f : Free b
    f = admitted-free b code a

    compared-refused : (x : Access) → x.refusal ≢ accepted → compared (family_row code) s x ≡ x
    compared-refused x n = rw (ne_eqb x.refusal accepted n)

    by-presence : (p : Bool) → presence_of b ≡ p → ⊥
    by-presence true there =
        let c = sent_to b code s bytes fits fit f in
        let free-there : Free c = sent-free b code s bytes fits fit f in
        let codes : codes_of c ≡ codes_of b = sent-codes b code s bytes fits fit f in
        let missing : (read_at c code).refusal ≡ wrong_crc =
        absent-refused c code fits (rw codes fit) (admitted-code c code (admitted-sound b code a) free-there)
        (slots-presence (write_bits (family_row code) code s) b ∙ there)
        (place-by-codes b c code codes ∙ nowhere) in
        let refused : (read_at c code).refusal ≢ accepted = λ e. let no : wrong_crc ≡ accepted =
        sym missing ∙ e in omega (arith, no) in
        refused (ap (λ (x : Access). x.refusal)
        (sym (write-is b code s bytes fits fit f a there ∙ compared-refused (read_at c code) refused)) ∙ done)
    by-presence false there =
        let alone : on_presence (reset_done b) (written_and_read code s) ≡ refused_at no_presence (restarted b) =
        rw (reset-accepted b f, there) in
        let no : no_presence ≡ accepted =
        ap (λ (x : Access). x.refusal) (sym (write-admitted b code s a ∙ alone)) ∙ done in
        absurd (omega (arith, no))

module _ (b : Bench) (r : Readable b) (code : ℕ) (s : Settings) (bytes : SettingBytes s) (fits : code < 2 ^ 64) where
  accepted-written : (i : ℕ) → place_of b code ≡ At i → (write_at b code s).refusal ≡ accepted
      → map unstaged (live (write_at b code s).bench) ≡ written_at b i s
  accepted-written i at done =
      accepted-there b r code i s bytes fits (admitted-free b code (accepted-admitted b code s done)) at done

  refused-kept : (write_at b code s).refusal ≢ accepted
      → map unstaged (live (write_at b code s).bench) ≡ map unstaged (live b)
  refused-kept not_done = by_place (place_of b code) refl (free b) refl
    where
      by_place : (p : Place) → place_of b code ≡ p → (u : Bool) → free b ≡ u
          → map unstaged (live (write_at b code s).bench) ≡ map unstaged (live b)
      by_place (At i) at true f = refused-there b r code i s bytes fits f at not_done
      by_place (At i) at false f =
          ap (λ (x : Access). map unstaged (live x.bench))
          (write-unsent b code s (λ a. false≢true (sym f ∙ admitted-free b code a)))
      by_place Nowhere at u f =
          write-benches b code s bytes fits r.codes-fit (λ ds. ds ≡ map unstaged (live b)) refl
          (others-settled code s (live b) (place-nowhere b code at))

-- ## The claims

pub write-answer : WriteAnswer
write-answer h t code s typed = record {
  idle-answer = λ i f at. idle-answered (after h) r code i s bytes typed.0 f at;
  busy-accepted = λ i f at. busy-answered (after h) r code i s bytes typed.0 f at;
  busy-refused = λ i f at. busy-mismatched (after h) r code i s bytes typed.0 f at;
  accepted-leaves = accepted-written (after h) r code s bytes typed.0;
  refused-leaves = refused-kept (after h) r code s bytes typed.0;
  absent-refused = absent-never (after h) code s bytes typed.0 r.codes-fit;
  neighbours = neighbour-kept (after h) code s bytes typed.0 r.codes-fit;
}
  where
    r : Readable (after h)
    r = readable-after h t

    bytes : SettingBytes s
    bytes = (typed.1, typed.2, typed.3)

pub write-promised : (b : Bench) (code : ℕ) (s : Settings) → WritePromise b code s
write-promised b code s h t typed e = rw (← e) (write-answer h t code s typed)
