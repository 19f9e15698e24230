-- The recording of a search is read back as its frames: `recording-read`. It names what was listed: `recording-named`.
-- A pass shows its command and then allowed triples, whose sent bits are the code (`PassShown`); those are the slots
-- that the naming reads; and the lines of a recording are read as the frames that were written (`read_back`).
--     Fits c     the bits of a sound code
use Rattle.std.specs.Prelude.{ℕ, suc, ◌*◌, ◌^◌, ◌<◌, ◌≤◌, Bool, true, false, not, ◌||◌, List, [], ◌∷◌, ◌++◌, map, ◌≡◌, refl, ltb, length}
use Rattle.std.specs.Prelude.{if◌then◌else◌}
use Rattle.std.proofs.Common.{sym, ap, ◌∙◌, arith, eqb-true, lt-ltb, ltb-false, lit≤, length-append}
use Rattle.std.proofs.lemmas.List.{length-map}
use Rattle.basic_laws.specs.Bits.{bits_of, number_of}
use Rattle.basic_laws.specs.BitsLaws.{bits-length, number-bits}
use Rattle.commands.specs.Commands.{search_rom, alarm_search}
use Rattle.refusals.specs.Refusals.{accepted, no_room, wire_busy}
use Rattle.rom.specs.Code.{code_bits, code_refusal, sound}
use Rattle.frame.specs.declared.Frame.{Frame}
use Rattle.frame.specs.Frames.{Recorded, blank_frame, most_slots}
use Rattle.frame.specs.FramesLaws.{recorded-all, blank-held, blank-lineable}
use Rattle.naming.specs.declared.Name.{Name}
use Rattle.naming.specs.declared.Name.TheVariants.{Search, Alarm}
use Rattle.naming.specs.Naming.{named, triple_allowed, triples_allowed, thirds, read_named, line_named}
use Rattle.naming.specs.Passes.{lists_code, PassListing}
use Rattle.naming.specs.PassesLaws.{search-named, alarm-named, nobody-named, empty-named}
use Rattle.search_laws.specs.Codes.{Code}
use Rattle.basic_laws.specs.ChoiceLaws.{beq-true, beq-false}
use Rattle.basic_laws.specs.Each.{Each, Along}
use Rattle.search_laws.specs.Complete.{allowed, PassShown, Complete}
use Rattle.basic_laws.specs.EachLaws.{each-perm, perm-length}
use Rattle.search_laws.specs.Numbers.{Below}
use Rattle.search_laws.specs.OnTheWire.{triples_shown}
use Rattle.search_laws.specs.Pass.{Triple, triple, found}
use Rattle.bench.specs.Bench.{live, free}
use Rattle.bench.specs.Sound.{codes_of, BenchSound}
use Rattle.bench.proofs.SoundLaws.{codes-count}
use Rattle.bench.specs.declared.Bench.{Bench}
use Rattle.master_rules.specs.OnTheBench as bench
use Rattle.master_rules.proofs.OnTheBench as wired
use Rattle.master_rules.specs.OnTheBench.{flagged_codes}
use Rattle.bench.specs.Slot.{reset_done}
use Rattle.master_rules.specs.Search.{fewest_places, fewest_bytes, most_passes, frame_of, refused_outcome, lonely_outcome}
use Rattle.master_rules.specs.Search.{found_outcome, search_run, search_outcome, Outcome}
use Rattle.history_laws.specs.History.{after, added}
use Rattle.history_laws.specs.Demand.{alarms}
use Rattle.history_laws.proofs.Corollaries.{bench-is-sound, codes-are-added}
use Rattle.history_laws.proofs.Theorem.{presence-is, presence-shown, codes-fit, flagged-are-alarms}
use Rattle.master_rules.specs.SearchLaws.{passes-made, nobody-there}
use Rattle.basic_laws.specs.LaidLaws.{laid-read}
use Rattle.text.specs.Lines.{Line, lines_of}
use Rattle.frame.specs.ReadLine.{carries, read_line}
use Rattle.frame.specs.Recording.{read_all, write_all, Writable, none, one}
use Rattle.frame.proofs.RecordingLaws.{read_back}
use Rattle.search_laws.specs.Wire.{Search as SearchBy}
use Rattle.master_rules.specs.Buses.{slot_rule}
use Rattle.access_laws.specs.Names.{names_of, recorded, NamesClaim, FramesClaim}

pub record Fits (c : Code) : Type 0 where
  pub long : length c ≡ 64
  pub small : number_of c < 2 ^ 64
  pub bits_are : code_bits (number_of c) ≡ c
  pub sound-is : code_refusal (number_of c) ≡ accepted

-- ## The triples of a pass, as the naming reads them

shown-length : (ts : List Triple) → length (triples_shown ts) ≡ 3 * length (found ts)
unfolding triples_shown found
shown-length [] = refl
shown-length (t ∷ ts) = let i = shown-length ts in omega arith

shown-thirds : (ts : List Triple) → thirds (triples_shown ts) ≡ found ts
unfolding triples_shown found thirds
shown-thirds [] = refl
shown-thirds (t ∷ ts) = let i = shown-thirds ts in rw i

same-triples : (a b c : Bool) → allowed (triple a b c) ≡ true → triple_allowed a b c ≡ true
same-triples false false c h = refl
same-triples false true c h = sym (beq-false c) ∙ h
same-triples true false c h = sym (beq-true c) ∙ h
same-triples true true c h = h

shown-allowed : (ts : List Triple) → Each (λ t. allowed t ≡ true) ts → triples_allowed (triples_shown ts) ≡ true
unfolding triples_shown triples_allowed
shown-allowed [] h = refl
shown-allowed (t ∷ ts) h = rw (same-triples t.bit t.co_bit t.sent h.0, shown-allowed ts h.1)

-- ## One pass

module _ (command : ℕ) (name : Name) (reads : (code : ℕ) (ss : List Bool) → PassListing code ss → (f : Frame)
    → Recorded (bits_of 8 command ++ ss) f → named f ≡ lists_code name code) where
  pass-named : (c : Code) (l : List Bool) → Fits c → PassShown (bits_of 8 command) c l
      → named (frame_of l) ≡ lists_code name (number_of c)
  pass-named c l h p =
      let ts = p.triples in
      let n : length (triples_shown ts) ≡ 192 =
      shown-length ts ∙ ap (λ (d : Code). 3 * length d) p.code_is ∙ ap (λ (k : ℕ). 3 * k) h.long in
      let eight = bits-length 8 command in
      let few : length (bits_of 8 command ++ triples_shown ts) ≤ 512 = simp length-append (omega arith) in
      let listing : PassListing (number_of c) (triples_shown ts) = record {
        long = n;
        allowed = shown-allowed ts p.all-allowed;
        bits_are = shown-thirds ts ∙ p.code_is ∙ sym h.bits_are;
        small = h.small;
        sound = h.sound-is;
      } in
      ap (λ (m : List Bool). named (frame_of m)) p.lines_are
      ∙ reads (number_of c) (triples_shown ts) listing (frame_of (bits_of 8 command ++ triples_shown ts))
      (recorded-all (bits_of 8 command ++ triples_shown ts) few)

  passes-named : (cs : List Code) (ls : List (List Bool)) → Each Fits cs → Along (PassShown (bits_of 8 command)) cs ls
      → map named (map frame_of ls) ≡ map (lists_code name) (map number_of cs)
  passes-named [] [] h a = refl
  passes-named [] (l ∷ ls) h a = absurd a
  passes-named (c ∷ cs) [] h a = absurd a
  passes-named (c ∷ cs) (l ∷ ls) h a = rw (pass-named c l h.0 a.0, passes-named cs ls h.1 a.1)

-- ## Written, then read and named

frame-writable : (l : List Bool) → length l ≤ most_slots → (fs : List Frame) → Writable fs → Writable (frame_of l ∷ fs)
frame-writable l h fs w = let r = recorded-all l h in one r.held r.carried w

frames-writable : (n : ℕ) (ls : List (List Bool)) → Each (λ l. length l ≡ n) ls → n ≤ most_slots
    → Writable (map frame_of ls)
frames-writable n [] h k = none
frames-writable n (l ∷ ls) h k = frame-writable l (rw h.0 k) (map frame_of ls) (frames-writable n ls h.1 k)

named-each : (fs : List Frame) → map read_named (map carries fs) ≡ map named fs
named-each [] = refl
named-each (f ∷ fs) = let i = named-each fs in rw i

lines-named : (ls : List Line) → map line_named ls ≡ map read_named (map read_line ls)
lines-named [] = refl
lines-named (l ∷ ls) = let i = lines-named ls in rw i

recorded-text : (recording : List ℕ) (o : Outcome) → recorded recording o ≡ write_all o.frames
recorded-text recording o = laid-read recording 0 (write_all o.frames) (omega arith)

-- what a search has written is read back as its frames
recorded-read : (recording : List ℕ) (o : Outcome) → Writable o.frames
    → read_all (recorded recording o) ≡ map carries o.frames
recorded-read recording o w = ap read_all (recorded-text recording o) ∙ read_back w

-- what a search has written is named as its frames are
recorded-named : (recording : List ℕ) (o : Outcome) → Writable o.frames
    → map line_named (lines_of (recorded recording o)) ≡ map named o.frames
recorded-named recording o w =
    let s = recorded-text recording o in
    ap (λ x. map line_named (lines_of x)) s ∙ lines-named (lines_of (write_all o.frames))
    ∙ ap (map read_named) (read_back w) ∙ named-each o.frames

-- ## A whole search

each_fits : (ns : List ℕ) → Below 64 ns → Each (λ c. sound c ≡ true) ns → Each Fits (map (bits_of 64) ns)
each_fits [] b s = tt
each_fits (n ∷ ns) b s =
    let e = number-bits 64 n b.0 in (
      record {
        long = bits-length 64 n;
        small = rw e b.0;
        bits_are = rw e;
        sound-is = rw e (eqb-true (code_refusal n) accepted s.0);
      },
      each_fits ns b.1 s.1,
    )

-- a recording that is named by the listing
record Reads (name : Name) (everybody : List ℕ) (o : Outcome) : Type 0 where
  pub writable : Writable o.frames
  pub names-are : map named o.frames ≡ names_of name everybody o.listed

-- nobody on the bench
lonely-reads : (name : Name) (o : Outcome) → o.frames ≡ blank_frame false ∷ [] → Reads name [] o
lonely-reads name o e = record {
  writable = rw e (one (blank-held false) (blank-lineable false) none);
  names-are = rw (e, empty-named);
}

-- a search that lists codes, by what is known of its run
module _ (command : ℕ) (name : Name)
    (reads : (code : ℕ) (ss : List Bool) → PassListing code ss → (f : Frame) → Recorded (bits_of 8 command ++ ss) f
    → named f ≡ lists_code name code)
    (b : Bench) (r : SearchBy Bench) (same : search_run command b
    ≡ r) (ns : List ℕ) (fits : Each Fits (map (bits_of 64) ns))
    (complete : Complete slot_rule (bits_of 8 command) 64 (map (bits_of 64) ns) b r)
  where
    wide : Each (λ l. length l ≡ 200) r.lines
    wide = rw (bits-length 8 command) at complete.slots-are

    frames-named : map named (map frame_of r.lines) ≡ map (lists_code name) (map number_of r.codes)
    frames-named = passes-named command name reads r.codes r.lines (each-perm Fits complete.all_listed fits)
        complete.frames

    -- somebody is listed
    listed-reads : (n : ℕ) (everybody : List ℕ) → 0 < length ns
        → Reads name (n ∷ everybody) (found_outcome (search_run command b))
    listed-reads n everybody h =
        rw same record {
          writable = frames-writable 200 r.lines wide (lit≤ tt);
          names-are = frames-named ∙ by-listed (map number_of r.codes) some;
        }
      where
        some : 0 < length (map number_of r.codes)
        some =
            let k = perm-length complete.all_listed in
            let m = length-map ns (bits_of 64) in
            let l = length-map r.codes number_of in
            omega arith

        by-listed : (ks : List ℕ) → 0 < length ks → map (lists_code name) ks ≡ names_of name (n ∷ everybody) ks
        by-listed [] z = absurd (omega arith)
        by-listed (k ∷ ks) z = refl

-- ## After every history

module _ (b : Bench) (s : BenchSound b) (f : free b
    ≡ true) (l : Below 64 (codes_of b)) (places room : ℕ) (p : fewest_places ≤ places) (q : fewest_bytes ≤ room) where
  few-codes : length (codes_of b) ≤ most_passes
  few-codes = rw (codes-count b s.places s.few) s.few

  absent : codes_of b ≡ [] → (reset_done b).presence ≡ false
  absent e = presence-shown b f ∙ presence-is b s ∙ ap (λ cs. ltb 0 (length cs)) e

  there : (n : ℕ) (ns : List ℕ) → codes_of b ≡ n ∷ ns → (reset_done b).presence ≡ true
  there n ns e =
      let more : 0 < suc (length ns) = omega arith in
      presence-shown b f ∙ presence-is b s ∙ ap (λ cs. ltb 0 (length cs)) e ∙ lt-ltb 0 (suc (length ns)) more

  search-reads : (ns : List ℕ) → codes_of b ≡ ns → Reads Search ns (search_outcome search_rom b places room)
  search-reads [] e = rw (nobody-there search_rom b places room p q f (absent e)) (lonely-reads Search _ refl)
  search-reads (n ∷ ns) e =
      let some : 0 < length (codes_of b) = rw e (omega arith) in
      rw (passes-made search_rom b places room p q f (there n ns e))
      (listed-reads search_rom Search search-named b (bench.search_on most_passes b) (wired.search-calls most_passes b f)
      (codes_of b)
      (each_fits (codes_of b) l s.codes-sound)
      (wired.search-complete most_passes b l s.codes-distinct some few-codes) n ns some)

  alarm-reads : (ns ks : List ℕ) → codes_of b ≡ ns → flagged_codes b ≡ ks
      → Reads Alarm ns (search_outcome alarm_search b places room)
  alarm-reads [] ks e k = rw (nobody-there alarm_search b places room p q f (absent e)) (lonely-reads Alarm _ refl)
  alarm-reads (n ∷ ns) [] e k =
      rw (
        passes-made alarm_search b places room p q f (there n ns e),
        wired.alarm-calls most_passes b f,
        wired.alarm-none 31 b k,
      )
      record {
        writable = frame-writable unheard_bits ten [] none;
        names-are = rw (nobody-named (frame_of unheard_bits) (recorded-all unheard_bits ten));
      }
    where
      unheard_bits : List Bool
      unheard_bits = bits_of 8 alarm_search ++ (true ∷ true ∷ [])

      ten : length unheard_bits ≤ most_slots
      ten = let b = bits-length 8 alarm_search in simp length-append (omega arith)
  alarm-reads (n ∷ ns) (c ∷ ks) e k =
      let some : 0 < length (flagged_codes b) = rw k (omega arith) in
      let few = wired.flagged-few b in
      let most = few-codes in
      let room-left : length (flagged_codes b) ≤ most_passes = omega arith in
      rw (passes-made alarm_search b places room p q f (there n ns e))
      (listed-reads alarm_search Alarm alarm-named b (bench.alarm_search_on most_passes b)
      (wired.alarm-calls most_passes b f) (flagged_codes b)
      (each_fits (flagged_codes b) (wired.flagged-below b l)
      (wired.some-each (λ c. sound c ≡ true) (λ d. d.alarm) (live b) s.codes-sound))
      (wired.alarm-complete most_passes b l s.codes-distinct some room-left) n ns some)

pub recording-named : NamesClaim
recording-named h t f places recording p q =
    let s = bench-is-sound h t in
    let l = codes-fit h t in
    let are = codes-are-added h t in
    let searched = search-reads (after h) s f l places (length recording) p q (added h) are in
    let alarmed = alarm-reads (after h) s f l places (length recording) p q (added h) (alarms h) are
    (flagged-are-alarms h t) in
    record {
      search = recorded-named recording (search_outcome search_rom (after h) places (length recording))
          searched.writable ∙ searched.names-are;
      alarm-search = recorded-named recording (search_outcome alarm_search (after h) places (length recording))
          alarmed.writable ∙ alarmed.names-are;
    }

-- ## Read back, whatever came of the search

-- a search is refused, or has room on a free wire
outcome-cases : (command : ℕ) (b : Bench) (places room : ℕ) (P : Outcome → Type 0) → P (refused_outcome no_room b)
    → P (refused_outcome wire_busy b)
    → (fewest_places ≤ places → fewest_bytes ≤ room → free b ≡ true → P (search_outcome command b places room))
    → P (search_outcome command b places room)
unfolding search_outcome
outcome-cases command b places room P short busy made =
    by_tests (ltb places fewest_places) refl (ltb room fewest_bytes) refl (free b) refl (λ p q f. made p q f)
  where
    by_tests : (t : Bool) → ltb places fewest_places ≡ t → (u : Bool) → ltb room fewest_bytes ≡ u → (v : Bool)
        → free b ≡ v
        → (let o : Outcome = if t || u then refused_outcome no_room b else if not v then refused_outcome wire_busy b
        else if not (reset_done b).presence then lonely_outcome (reset_done b).bench
        else found_outcome (search_run command b) in
        (fewest_places ≤ places → fewest_bytes ≤ room → free b ≡ true → P o) → P o)
    by_tests true d u e v f m = short
    by_tests false d true e v f m = short
    by_tests false d false e false f m = busy
    by_tests false d false e true f m = m (ltb-false places fewest_places d) (ltb-false room fewest_bytes e) f

pub recording-read : FramesClaim
recording-read h t places recording =
    let s = bench-is-sound h t in
    let l = codes-fit h t in
    let are = codes-are-added h t in
    let room = length recording in
    record {
      search = recorded-read recording (search_outcome search_rom (after h) places room)
          (outcome-cases search_rom (after h) places room (λ o. Writable o.frames) none none
          (λ p q f. (search-reads (after h) s f l places room p q (added h) are).writable));
      alarm-search = recorded-read recording (search_outcome alarm_search (after h) places room)
          (outcome-cases alarm_search (after h) places room (λ o. Writable o.frames) none none
          (λ p q f. (alarm-reads (after h) s f l places room p q (added h) (alarms h) are
          (flagged-are-alarms h t)).writable));
    }
