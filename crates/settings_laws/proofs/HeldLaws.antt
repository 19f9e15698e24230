-- No call on the bench that spares a device changes the settings in its scratchpad. Calls of the master other than
-- writes change stages alone; an adding puts a device behind the others; a slot writes settings only by 4Eh and B8h;
-- the
-- end of a conversion writes a reading, that of a copy EEPROM; a power cycle and a write change one device, with
-- another
-- code.
--     Held ds i code s     of these devices the one at place i has the code and holds the settings s
--     bench-spares         a call that spares the device with the code, on the bench after any history
--     written-holds        an accepted write
use Rattle.std.specs.Prelude.{ℕ, zero, suc, ◌<◌, Bool, true, false, List, [], ◌∷◌, ◌++◌, map, ◌≢◌, ◌≡◌, refl, eqb, length, set}
use Rattle.std.proofs.Common.{sym, ap, subst, ◌∙◌, arith, eqb-true, ne_eqb, lit<, lit≤, length-set, length-append, get_or-set_same, get_or-set_other}
use Rattle.std.proofs.lemmas.Bool.{eqb-false}
use Rattle.std.proofs.Math.ListN.{get_or, get_or-map, get_or-append}
use Rattle.std.proofs.lemmas.List.{length-map}
use Rattle.std.specs.Prelude.{if◌then◌else◌}
use Rattle.basic_laws.specs.Each.{Each}
use Rattle.basic_laws.specs.EachLaws.{each_at}
use Rattle.commands.specs.Bytes.{shift_in}
use Rattle.commands.specs.BytesLaws.{shifted-cases}
use Rattle.commands.specs.Commands.{search_rom, alarm_search, convert, write_scratchpad, read_scratchpad, copy_scratchpad}
use Rattle.commands.specs.Commands.{recall_eeprom, read_power}
use Rattle.commands.specs.declared.Shifted.TheVariants.{Whole}
use Rattle.refusals.specs.Refusals.{accepted}
use Rattle.family.specs.Configuration.{stored_form, kept_configuration}
use Rattle.family.specs.declared.Properties.{Properties}
use Rattle.temperature.specs.declared.Sixteenths.{Sixteenths}
use Rattle.scratchpad.proofs.StoredLaws.{after-other}
use Rattle.device.specs.Finish.{conversion_done, copy_done}
use Rattle.device.specs.Hear.{hear_rom, function_command, idle_command, hear_function, hear_at, hear_of}
use Rattle.device.proofs.Laws.{hear-code}
use Rattle.device.specs.Power.{power_up, joined}
use Rattle.device.specs.Record.{with_scratchpad, row_of, busy}
use Rattle.device.specs.Settings.{settings_in, with_settings}
use Rattle.device.specs.Sound.{Sound}
use Rattle.device.specs.SettingsLaws.{settings-high, settings-low, settings-configuration}
use Rattle.device.specs.declared.Device.{Device}
use Rattle.device.specs.declared.Settings.{Settings}
use Rattle.device.specs.declared.Stage.{Stage}
use Rattle.device.specs.declared.Stage.TheVariants.{AwaitRom, SendRom, Match, Search, AwaitFunction, TakeSettings}
use Rattle.device.specs.declared.Stage.TheVariants.{SendScratchpad, SendStatus, SendPower, Quiet}
use Rattle.bench.specs.Bench.{live, vacant, place_of}
use Rattle.bench.specs.Calls.{device_at}
use Rattle.bench.specs.Slot.{line_bit, heard, restarted}
use Rattle.bench.specs.declared.Bench.{Bench}
use Rattle.bench.specs.declared.Place.{Place}
use Rattle.bench.specs.declared.Place.TheVariants.{At, Nowhere}
use Rattle.bench.proofs.Laws.{heard-live, slot_cases}
use Rattle.bench.specs.Laws.{OneChanged}
use Rattle.bench.proofs.Laws.{reset-cases, place-live, place_found, device-live, added-cases}
use Rattle.bench.proofs.Laws.{conversion-cases, copy-cases, cycle-cases}
use Rattle.bench.specs.Sound.{BenchSound}
use Rattle.bench.proofs.SoundLaws.{place_is}
use Rattle.master_rules.specs.Access.{read_at, write_at}
use Rattle.master_rules.proofs.OnTheBench.{restarted-keeps}
use Rattle.master_rules.specs.Pins.{pins_outcome}
use Rattle.master_rules.specs.Search.{search_outcome}
use Rattle.master_rules.specs.Thermometers.{unstaged}
use Rattle.history_laws.proofs.Corollaries.{bench-is-sound}
use Rattle.history_laws.specs.History.{Call, add, reset, slot, finish_conversion, finish_copy, power_cycle, search}
use Rattle.history_laws.specs.History.{search_alarms, read, write, read_pins, Typed, apply, after}
use Rattle.access_laws.specs.Bytewise.{readable-after}
use Rattle.access_laws.proofs.PinningLaws.{pins-kept}
use Rattle.access_laws.specs.SearchLaws.{search-kept, alarm-kept}
use Rattle.access_laws.specs.ShownLaws.{read_kept}
use Rattle.access_laws.proofs.WriteLaws.{map_at, write-answer}
use Rattle.access_laws.specs.Written.{with_asked, Writes}
use Rattle.settings_laws.specs.Shared.{Holds, SparesStage, SparesOnBench}
use Rattle.settings_laws.specs.HeldLaws.{HoldsAlone, Held}

-- ## One device among others

map-set : {A B : Type 0} (f : A → B) (l : List A) (i : ℕ) (x : A) → map f (set l i x) ≡ set (map f l) i (f x)
map-set f [] i x = refl
map-set f (y ∷ l) zero x = refl
map-set f (y ∷ l) (suc i) x = let e = map-set f l i x in rw e

module _ (i code : ℕ) (s : Settings) where
  -- of a bench, both ways
  pub holds-held : (b : Bench) (h : Holds b code s) → Held (live b) h.place code s
  holds-held b h = record {
    within = place-live b code h.place h.at;
    has = place_found b code h.place h.at;
    alone = rw (device-live b code h.place h.at) h.settings-are;
  }

  pub held-holds : (b : Bench) → BenchSound b → Held (live b) i code s → Holds b code s
  held-holds b sound h =
      let at : place_of b code ≡ At i = rw h.has at (place_is b i sound.codes-distinct h.within) in
      record { place = i; at = at; settings-are = rw (device-live b code i at) at h.alone }

  -- the same devices but for their stages
  pub unstaged-held : (ds es : List Device) → map unstaged es ≡ map unstaged ds → Held ds i code s → Held es i code s
  unstaged-held ds es e h =
      let same : unstaged (get_or es i vacant) ≡ unstaged (get_or ds i vacant) =
      sym (get_or-map unstaged es i vacant) ∙ ap (λ (l : List Device). get_or l i (unstaged vacant)) e
      ∙ get_or-map unstaged ds i vacant in
      let long : length es ≡ length ds = sym (length-map es unstaged) ∙ ap length e ∙ length-map ds unstaged in
      record {
        within = rw long h.within;
        has = ap (λ (d : Device). d.code) same ∙ h.has;
        alone = subst (HoldsAlone s) (sym same) h.alone;
      }

  -- one of them replaced
  pub set-held : (ds : List Device) (j : ℕ) (d : Device) → Held ds i code s
      → (j ≡ i → (d.code ≡ code) × HoldsAlone s d) → Held (set ds j d) i code s
  set-held ds j d h new = by-test (eqb j i) refl
    where
      by-test : (t : Bool) → eqb j i ≡ t → Held (set ds j d) i code s
      by-test true e =
          let is = eqb-true j i e in
          let there : get_or (set ds j d) i vacant ≡ d = rw is (get_or-set_same ds i d vacant h.within) in
          record {
            within = rw (length-set ds j d) h.within;
            has = rw there (new is).0;
            alone =
                rw there (new is).1;
          }
      by-test false e =
          let there : get_or (set ds j d) i vacant ≡ get_or ds i vacant =
          get_or-set_other ds j i d vacant (λ z. eqb-false j i e (sym z)) in
          record { within = rw (length-set ds j d) h.within; has = rw there h.has; alone = rw there h.alone }

  -- more behind them
  pub append-held : (ds es : List Device) → Held ds i code s → Held (ds ++ es) i code s
  append-held ds es h =
      let there : get_or (ds ++ es) i vacant ≡ get_or ds i vacant = get_or-append ds es vacant i h.within in
      let w = h.within in
      let long = length-append ds es in
      record { within = omega arith; has = rw there h.has; alone = rw there h.alone }

-- ## What each thing that can happen to a device leaves

converted-holds : (s : Settings) (d : Device) (n : Sixteenths) → HoldsAlone s d → HoldsAlone s (conversion_done d n)
unfolding conversion_done settings_in
converted-holds s d n h =
    let row = row_of d.code d.pins in
    let pad = d.scratchpad in
    rw (
      after-other row n pad 2 (lit≤ tt) (lit< tt),
      after-other row n pad 3 (lit≤ tt) (lit< tt),
      after-other row n pad 4 (lit≤ tt) (lit< tt),
    ) h

-- a slot that spares the device
module _ (s : Settings) where
  holds-if : (t : Bool) (d e : Device) → HoldsAlone s d → HoldsAlone s e → HoldsAlone s (if t then d else e)
  holds-if true d e h k = h
  holds-if false d e h k = k

  command-holds : (d : Device) (c : ℕ) → c ≢ recall_eeprom → HoldsAlone s d → HoldsAlone s (function_command d c)
  unfolding function_command idle_command
  command-holds d c other h =
      holds-if (eqb c read_scratchpad) _ _ h
      (holds-if (eqb c read_power) _ _ h
      (holds-if (busy d) _ _ h
      (holds-if (eqb c convert) _ _ h
      (holds-if (eqb c write_scratchpad) _ _ h
      (holds-if (eqb c copy_scratchpad) _ _ h (rw (ne_eqb c recall_eeprom other) h))))))

  heard-holds : (d : Device) (l : Bool) → SparesStage l d.stage → HoldsAlone s d → HoldsAlone s (hear_of d l)
  unfolding hear_of
  heard-holds d l spared h = at_stage d.stage spared
    where
      at_stage : (u : Stage) → SparesStage l u → HoldsAlone s (hear_at d l u)
      at_stage (AwaitRom r n) p = shifted-cases r n l (λ x. HoldsAlone s (hear_rom d x)) h (λ e. h) h
      at_stage (SendRom j) p = h
      at_stage (Match j) p = h
      at_stage (Search j q) p = h
      at_stage (AwaitFunction r n) p =
          shifted-cases r n l (λ x. x ≢ Whole recall_eeprom → HoldsAlone s (hear_function d x)) (λ q. h)
          (λ e q. command-holds d (shift_in r l) (λ z. q (ap Whole z)) h) (λ q. h) p
      at_stage (TakeSettings k r n) p = absurd p
      at_stage (SendScratchpad k j) p = h
      at_stage SendStatus p = h
      at_stage SendPower p = h
      at_stage Quiet p = h

copied-holds : (s : Settings) (d : Device) (c : Settings) → HoldsAlone s d → HoldsAlone s (copy_done d c)
unfolding copy_done
copied-holds s d c h = h

-- the settings asked of a write are those that it leaves
asked-read : (row : Properties) (pad : List ℕ) (s : Settings) → length pad ≡ 8
    → settings_in row (with_settings row pad s)
    ≡ record { high = s.high; low = s.low; configuration = kept_configuration row s.configuration }
unfolding settings_in
asked-read row pad s long =
    let form : (if row.configurable then get_or (with_settings row pad s) 4 0 else 0)
    ≡ kept_configuration row s.configuration = by-test row.configurable refl in
    rw (settings-high row pad s long, settings-low row pad s long, form)
  where
    by-test : (t : Bool) → row.configurable ≡ t
        → (if t then get_or (with_settings row pad s) 4 0 else 0)
        ≡ (if t then stored_form s.configuration row.nibble else 0)
    by-test true e = settings-configuration row pad s long e
    by-test false e = refl

pub asked-holds : (s : Settings) (d : Device) → length d.scratchpad ≡ 8
    → HoldsAlone s (with_scratchpad d (with_asked d s))
asked-holds s d long = asked-read (row_of d.code d.pins) d.scratchpad s long

-- ## Every call that spares the device

module _ (h : List Call) (t : Each Typed h) (code : ℕ) (s : Settings) (holds : Holds (after h) code s) where
  i : ℕ
  i = holds.place

  before : Held (live (after h)) i code s
  unfolding i
  before = holds-held i code s (after h) holds

  -- a device that changes alone
  one-held : (k : ℕ) (f : Device → Device) (c : Bench) → OneChanged (after h) k f c
      → ((d : Device) → (f d).code ≡ d.code)
      → ((d : Device) → d.code ≡ k → HoldsAlone s d → k ≡ code → HoldsAlone s (f d)) → Held (live c) i code s
  one-held k f c o codes keeps = rw o.live-is (set-held i code s (live (after h)) o.place (f d) before new)
    where
      d : Device
      d = get_or (live (after h)) o.place vacant

      new : o.place ≡ i → ((f d).code ≡ code) × HoldsAlone s (f d)
      new is =
          let there : d.code ≡ code = ap (λ (j : ℕ). (get_or (live (after h)) j vacant).code) is ∙ before.has in
          let holding : HoldsAlone s d = rw is before.alone in
          (codes d ∙ there, keeps d o.code-there holding (sym o.code-there ∙ there))

  stays : (c : Bench) → map unstaged (live c) ≡ map unstaged (live (after h)) → Held (live c) i code s
  stays c e = unstaged-held i code s (live (after h)) (live c) e before

  slot_held : (l : Bool) → ((j : ℕ) → place_of (after h) code ≡ At j → SparesStage l (device_at (after h) j).stage)
      → Held (live (heard (after h) l)) i code s
  unfolding i
  slot_held l spared =
      let ds = live (after h) in
      let d = get_or ds i vacant in
      let there : get_or (map (λ e. hear_of e l) ds) i vacant ≡ hear_of d l =
      map_at (λ e. hear_of e l) ds i vacant vacant before.within in
      let quiet : SparesStage l d.stage = rw (device-live (after h) code i holds.at) (spared i holds.at) in
      rw (heard-live (after h) l) (record {
        within = rw (length-map ds (λ e. hear_of e l)) before.within;
        has = rw there (hear-code d l ∙ before.has);
        alone = rw there (heard-holds s d l quiet before.alone);
      })

  write-held : (k : ℕ) (asked : Settings) → Typed (write k asked)
      → (k ≡ code → (write_at (after h) k asked).refusal ≢ accepted)
      → Held (live (write_at (after h) k asked).bench) i code s
  write-held k asked typed spared = by-refusal (eqb (write_at (after h) k asked).refusal accepted) refl
    where
      w : Writes (after h) k asked
      w = write-answer h t k asked typed

      by_place : (p : Place) → place_of (after h) k ≡ p → (write_at (after h) k asked).refusal ≡ accepted
          → Held (live (write_at (after h) k asked).bench) i code s
      by_place (At j) at done =
          let apart : j ≢ i =
          λ e. spared (sym (place_found (after h) k j at) ∙ ap (λ (n : ℕ). (get_or (live (after h)) n vacant).code) e
          ∙ before.has) done in
          let written = with_scratchpad (device_at (after h) j) (with_asked (device_at (after h) j) asked) in
          unstaged-held i code s (set (live (after h)) j written) (live (write_at (after h) k asked).bench)
          (w.accepted-leaves j at done ∙ sym (map-set unstaged (live (after h)) j written))
          (set-held i code s (live (after h)) j written before (λ e. absurd (apart e)))
      by_place Nowhere at done = absurd (w.absent-refused at done)

      by-refusal : (u : Bool) → eqb (write_at (after h) k asked).refusal accepted ≡ u
          → Held (live (write_at (after h) k asked).bench) i code s
      by-refusal true e = by_place (place_of (after h) k) refl (eqb-true _ accepted e)
      by-refusal false e = stays (write_at (after h) k asked).bench (w.refused-leaves (eqb-false _ accepted e))

  call-held : (c : Call) → Typed c → SparesOnBench code (after h) c → Held (live (apply (after h) c)) i code s
  unfolding conversion_done copy_done power_up
  call-held (add new) typed spared =
      added-cases (after h) new (λ r. Held (live r.bench) i code s) (bench-is-sound h t).places (λ n r. before)
      (λ c a.
      rw a.live-is (append-held i code s (live (after h)) (joined new ∷ []) before))
  call-held reset typed spared =
      reset-cases (after h) (λ r. Held (live r.bench) i code s)
      (λ f. stays (restarted (after h)) (restarted-keeps (after h))) (λ f. before)
  call-held (slot m) typed spared =
      slot_cases (after h) m (λ r. Held (live r.bench) i code s) (λ f. slot_held (line_bit (after h) m) spared)
      (λ f. before)
  call-held (finish_conversion k n) typed spared =
      conversion-cases (after h) k (λ r. Held (live r.bench) i code s) (λ r z. before) n (λ range c o.
      one-held k (λ d. conversion_done d n) c o (λ d. refl) (λ d at holding is. converted-holds s d n holding))
  call-held (finish_copy k) typed spared =
      copy-cases (after h) k (λ r. Held (live r.bench) i code s) (λ r z. before) (λ copied c o activity.
      one-held k (λ d. copy_done d copied) c o (λ d. refl) (λ d at holding is. copied-holds s d copied holding))
  call-held (power_cycle k) typed spared =
      cycle-cases (after h) k (λ r. Held (live r.bench) i code s) (λ r z. before) (λ c o.
      one-held k power_up c o (λ d. refl) (λ d at holding is. absurd (spared is)))
  call-held (search places room) typed spared =
      stays (search_outcome search_rom (after h) places room).bench (search-kept (after h) places room)
  call-held (search_alarms places room) typed spared =
      stays (search_outcome alarm_search (after h) places room).bench (alarm-kept (after h) places room)
  call-held (read k) typed spared =
      stays (read_at (after h) k).bench (read_kept (after h) k typed (readable-after h t).codes-fit)
  call-held (write k asked) typed spared = write-held k asked typed spared
  call-held (read_pins places) typed spared = stays (pins_outcome (after h) places).found.bench (pins-kept h t places)

  pub bench-spares : (c : Call) → Typed c → SparesOnBench code (after h) c → BenchSound (apply (after h) c)
      → Holds (apply (after h) c) code s
  bench-spares c typed spared sound = held-holds i code s (apply (after h) c) sound (call-held c typed spared)

-- ## An accepted write

pub written-holds : (h : List Call) → Each Typed h → (code : ℕ) (s : Settings) → Typed (write code s)
    → (write_at (after h) code s).refusal ≡ accepted
    → BenchSound (write_at (after h) code s).bench → Holds (write_at (after h) code s).bench code s
written-holds h t code s typed done sound = by_place (place_of (after h) code) refl
  where
    w : Writes (after h) code s
    w = write-answer h t code s typed

    by_place : (p : Place) → place_of (after h) code ≡ p → Holds (write_at (after h) code s).bench code s
    by_place (At i) at =
        let b = after h in
        let d = device_at b i in
        let new = with_scratchpad d (with_asked d s) in
        let within : i < length (live b) = place-live b code i at in
        let there : get_or (set (live b) i new) i vacant ≡ new = get_or-set_same (live b) i new vacant within in
        let has : d.code ≡ code = rw (device-live b code i at) at (place_found b code i at) in
        let long : length d.scratchpad ≡ 8 =
        rw (device-live b code i at) at
        (each_at Sound (live b) i vacant within (bench-is-sound h t).devices-sound).pad-sound.eight in
        let held : Held (set (live b) i new) i code s =
        record {
          within = rw (length-set (live b) i new) within;
          has = rw there has;
          alone =
              rw there (asked-holds s d long);
        } in
        held-holds i code s (write_at b code s).bench sound
        (unstaged-held i code s (set (live b) i new) (live (write_at b code s).bench)
        (w.accepted-leaves i at done ∙ sym (map-set unstaged (live b) i new)) held)
    by_place Nowhere at = absurd (w.absent-refused at done)
