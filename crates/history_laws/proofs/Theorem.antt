-- Demand 3 holds: `demand-3`. After every history the codes on the bench are those added, and the flags are the
-- verdicts of the book's pages (`reached-after`); on a bench where nobody holds the wire the search by calls is the
-- search on a wire, which lists everybody who takes part; and by what was issued its frames and its bench are those of
-- the passes of the listed codes.
use Rattle.std.specs.Prelude.{ℕ, suc, ◌*◌, ◌<◌, ◌≤◌, Bool, false, ◌≡◌, refl, ltb}
use Rattle.std.proofs.Math.Bool.{true}
use Rattle.std.proofs.Common.{true≢false, sym, ◌∙◌, arith, lt-ltb, lit≤}
use Rattle.std.proofs.lemmas.Bool.{false≢true}
use mathlib.Core.List.{List, [], ◌∷◌, map}
use Rattle.std.proofs.Math.Path.{ap}
use Rattle.std.proofs.Math.ListN.{length, length-append}
use Rattle.std.proofs.lemmas.List.{length-map}
use Rattle.std.specs.Prelude.{if◌then◌else◌}
use Rattle.basic_laws.specs.Fold.{fold}
use Rattle.basic_laws.specs.Bits.{bits_of, number_of}
use Rattle.basic_laws.specs.BitsLaws.{bits-length}
use Rattle.commands.specs.Commands.{search_rom, alarm_search}
use Rattle.frame.specs.Frames.{blank_frame, no_bits}
use Rattle.text.specs.Digits.{digits, hex_of}
use Rattle.frame.specs.Recording.{write_all}
use Rattle.frame.specs.Writing.{characters_of}
use Rattle.rom.specs.Code.{code_bits}
use Rattle.basic_laws.specs.Each.{Each, those}
use Rattle.search_laws.specs.Complete.{Complete}
use Rattle.basic_laws.specs.EachLaws.{perm-length}
use Rattle.search_laws.specs.Numbers.{Below, Numbered}
use Rattle.search_laws.specs.Whole.{search-issued, search-unheard}
use Rattle.search_laws.specs.Searchers.{Searchers}
use Rattle.search_laws.specs.Wire.{Search, searched, passes, slots, ran_passes, run, wire_search}
use Rattle.device.specs.Sound.{Sound}
use Rattle.device.specs.declared.Device.{Device}
use Rattle.device.specs.declared.Page.{Page}
use Rattle.bench.specs.Bench.{live, free}
use Rattle.bench.proofs.Laws.{reset-accepted}
use Rattle.bench.specs.Slot.{reset_done, restarted, presence_of}
use Rattle.bench.specs.Sound.{codes_of, BenchSound}
use Rattle.bench.proofs.SoundLaws.{codes-count}
use Rattle.bench.specs.declared.Bench.{Bench}
use Rattle.master_rules.proofs.OnTheBench as wired
use Rattle.master_rules.specs.Buses.{slot_rule}
use Rattle.master_rules.specs.OnTheBench.{Free, flagged_codes}
use Rattle.master_rules.proofs.OnTheBench.{same-but-stage, restarted-keeps}
use Rattle.master_rules.specs.Thermometers.{thermometers, Moving}
use Rattle.master_rules.proofs.Thermometers.{everybody, flagged}
use Rattle.master_rules.proofs.ThermometersLaws.{everybody-course, flagged-course}
use Rattle.master_rules.specs.Thermometers.{unstaged, numbers_of}
use Rattle.master_rules.specs.Course.{Course}
use Rattle.master_rules.specs.Search.{fewest_places, fewest_bytes, code_length, most_passes, frame_of, lonely_outcome}
use Rattle.master_rules.specs.Search.{found_outcome, search_run, search_outcome, passes_in, slots_in}
use Rattle.history_laws.specs.Counted.{passes-counted, slots-counted, bytes_counted}
use Rattle.history_laws.specs.History.{Call, Typed, ledger, after, added, page, alarmed}
use Rattle.history_laws.specs.Demand.{alarms, unheard, slots_per_code, bytes_per_code, unheard_slots, Lonely}
use Rattle.history_laws.specs.Demand.{Unanswered, Listing, Comes, stored_of, SearchClaim, Claim, SearchPromise}
use Rattle.history_laws.specs.Demand.{AlarmPromise}
use Rattle.master_rules.specs.Issued.{issued}
use Rattle.history_laws.specs.IssuedLaws.{issued-passes, granted-passes, granted-unheard, granted-reset}
use Rattle.master_rules.specs.SearchLaws.{nobody-there, passes-made}
use Rattle.history_laws.specs.Reached.{PagesAre}
use Rattle.history_laws.proofs.Reached.{reached-after}

-- ## Nobody on the bench

lonely-bytes : length (write_all (blank_frame false ∷ [])) ≡ 7
unfolding write_all characters_of no_bits digits hex_of
lonely-bytes = refl

lonely : (b : Bench) → Free b → presence_of b ≡ false → Lonely b (lonely_outcome (reset_done b).bench)
unfolding passes_in slots_in fold issued slots
lonely b f e = record {
  told = record { refusal_is = refl; codes-are = refl; passes-are = refl; slots-are = refl; bytes-are = lonely-bytes };
  listed-is = refl;
  makes = record { frames-are = rw e; bench-is = ap (λ r. r.bench) (reset-accepted b f); granted = granted-reset b f };
}

-- ## Nobody to list

-- what a search by this command is asked to be: the search on the slot rule, by the laws of a search, on a bench with
-- somebody
module _ (command : ℕ) (Z : Searchers thermometers (bits_of 8 command) 64) (R : Course Z Moving) (b : Bench) (f : Free b)
    (there : presence_of b ≡ true)
    (same : search_run command b ≡ wire_search slot_rule (bits_of 8 command) most_passes code_length b)
  where
    abbrev ruled : Search Bench
    ruled = wire_search slot_rule (bits_of 8 command) most_passes code_length b

    unanswered : (es : Bench) → ruled ≡ searched [] (unheard command ∷ []) es
        → Unanswered command b (found_outcome (search_run command b))
    unfolding issued
    unanswered es e =
        let bits = unheard command in
        let eight = bits-length 8 command in
        let ten : length bits ≡ unheard_slots = simp length-append (omega arith) in
        let made : run bits es ≡ slots slot_rule bits (restarted b) =
        search-unheard slot_rule (bits_of 8 command) code_length 31 [] b bits es e
        (omega (arith, length-append (bits_of 8 command) (true ∷ true ∷ []))) in
        let n = passes-counted 10 (bits ∷ []) (ten, tt) (lit≤ tt) in
        let m = slots-counted 10 (bits ∷ []) (ten, tt) (lit≤ tt) in
        let k = bytes_counted 10 (bits ∷ []) (ten, tt) (lit≤ tt) in
        rw (same, e) record {
          told = record { refusal_is = refl; codes-are = refl; passes-are = n; slots-are = m; bytes-are = k };
          listed-is = refl;
          makes = record {
            frames-are = rw there (ap (λ r. frame_of r.lines ∷ []) made);
            bench-is = ap (λ r. r.devices) made;
            granted = granted-unheard command Z R b f;
          };
        }

    listing : (codes : List ℕ) → Numbered 64 codes ruled.codes
        → Complete slot_rule (bits_of 8 command) 64 (map (bits_of 64) codes) b ruled
        → Listing command codes b (found_outcome (search_run command b))
    listing codes numbered complete =
        let k = perm-length numbered.all_listed in
        let eight = bits-length 8 command in
        let many : length ruled.lines ≡ length codes = complete.passes-are ∙ length-map codes (bits_of 64) in
        let found : length ruled.codes ≡ length codes = sym (k ∙ length-map ruled.codes number_of) in
        let wide : Each (λ l. length l ≡ slots_per_code) ruled.lines = rw eight at complete.slots-are in
        let n = passes-counted 200 ruled.lines wide (lit≤ tt) in
        let m = slots-counted 200 ruled.lines wide (lit≤ tt) in
        let w = bytes_counted 200 ruled.lines wide (lit≤ tt) in
        let run_is : ran_passes ruled.lines ruled.devices ≡ passes slot_rule (bits_of 8 command) ruled.codes b =
        search-issued slot_rule (bits_of 8 command) code_length most_passes _ b (found ∙ sym many) in
        let made : ran_passes ruled.lines ruled.devices
        ≡ passes slot_rule (bits_of 8 command) (map code_bits (map number_of ruled.codes)) b =
        run_is ∙ ap (λ cs. passes slot_rule (bits_of 8 command) cs b) (sym numbered.codes-are) in
        let issue = issued-passes command (map number_of ruled.codes) b there in
        rw same record {
          told = record {
            refusal_is = refl;
            codes-are = sym k;
            passes-are = n ∙ many;
            slots-are = m ∙ ap (λ (i : ℕ). slots_per_code * i) many;
            bytes-are = w ∙ ap (λ (i : ℕ). bytes_per_code * i) many;
          };
          all_listed = numbered.all_listed;
          in_order = numbered.ordered;
          makes = record {
            frames-are = ap (λ q. map frame_of q.lines) made ∙ sym issue.frames-are;
            bench-is = ap (λ q. q.devices) made ∙ sym issue.bench-is;
            granted = granted-passes command Z R (map number_of ruled.codes) b f;
          };
        }

-- ## Who is on the bench

pub presence-is : (b : Bench) → BenchSound b → presence_of b ≡ ltb 0 (length (codes_of b))
presence-is b s = ap (ltb 0) (sym (codes-count b s.places s.few))

pub presence-shown : (b : Bench) → Free b → (reset_done b).presence ≡ presence_of b
presence-shown b f = ap (λ r. r.presence) (reset-accepted b f)

-- ## Stored bytes

stored_same : (b c : Bench) → map unstaged (live c) ≡ map unstaged (live b) → stored_of c ≡ stored_of b
stored_same b c e = same-but-stage (λ d. record { scratchpad = d.scratchpad; eeprom = d.eeprom }) (λ d. refl) (live c)
    (live b) e

stored-reset : (b : Bench) → free b ≡ true → stored_of (reset_done b).bench ≡ stored_of b
stored-reset b f =
    rw (reset-accepted b f) (stored_same b (restarted b) (restarted-keeps b))

-- ## Flags are the verdicts of the book

flagged-are : (book : ℕ → Page) (ds : List Device) → Each Sound ds → PagesAre book ds
    → numbers_of (those (λ d. d.alarm) ds) ≡ those (λ code. alarmed (book code)) (map (λ d. d.code) ds)
unfolding those
flagged-are book [] s p = refl
flagged-are book (d ∷ ds) s p =
    let e : d.alarm ≡ alarmed (book d.code) = s.0.flag_is ∙ ap alarmed p.0 in
    by-test d.alarm (alarmed (book d.code)) e (flagged-are book ds s.1 p.1)
  where
    by-test : (t u : Bool) → t ≡ u → numbers_of (those (λ d. d.alarm) ds)
        ≡ those (λ code. alarmed (book code)) (map (λ d. d.code) ds)
        → numbers_of (if t then d ∷ those (λ d. d.alarm) ds else those (λ d. d.alarm) ds)
        ≡ (if u then d.code ∷ those (λ code. alarmed (book code)) (map (λ d. d.code) ds)
        else those (λ code. alarmed (book code)) (map (λ d. d.code) ds))
    by-test true true e i = rw i
    by-test false false e i = i
    by-test true false e i = absurd (true≢false e)
    by-test false true e i = absurd (false≢true e)

-- ## The claim, for a bench of these codes

module _ (b : Bench) (s : BenchSound b) (f : free b
    ≡ true) (places room : ℕ) (p : fewest_places ≤ places) (q : fewest_bytes ≤ room) where
  -- with no device
  none-there : (command : ℕ) (codes : List ℕ) → codes_of b ≡ []
      → SearchClaim command [] codes b (search_outcome command b places room)
  none-there command codes e =
      let absent : presence_of b ≡ false = presence-is b s ∙ ap (λ cs. ltb 0 (length cs)) e in
      rw (nobody-there command b places room p q f (presence-shown b f ∙ absent)) record {
        comes = lonely b f absent;
        stored-kept = stored-reset b f;
      }

  -- with devices
  somebody : (n : ℕ) (ns : List ℕ) → codes_of b ≡ n ∷ ns → presence_of b ≡ true
  somebody n ns e =
      let more : 0 < suc (length ns) = omega arith in
      presence-is b s ∙ ap (λ cs. ltb 0 (length cs)) e ∙ lt-ltb 0 (suc (length ns)) more

  -- a search whose run is known
  some-there : (command : ℕ) (n : ℕ) (ns ks : List ℕ) → codes_of b ≡ n ∷ ns
      → Comes command (n ∷ ns) ks b (found_outcome (search_run command b))
      → map unstaged (live (search_run command b).devices) ≡ map unstaged (live b)
      → SearchClaim command (n ∷ ns) ks b (search_outcome command b places room)
  some-there command n ns ks e c k =
      rw (passes-made command b places room p q f (presence-shown b f ∙ somebody n ns e)) record {
        comes = c;
        stored-kept = stored_same b (search_run command b).devices k;
      }

  few-codes : length (codes_of b) ≤ most_passes
  few-codes = rw (codes-count b s.places s.few) s.few

  -- every code listed
  search-claim : Below 64 (codes_of b) → (ns : List ℕ) → codes_of b ≡ ns
      → SearchClaim search_rom ns ns b (search_outcome search_rom b places room)
  search-claim l [] e = none-there search_rom [] e
  search-claim l (n ∷ ns) e =
      let same = wired.search-calls most_passes b f in
      let some : 0 < length (codes_of b) = rw e (omega arith) in
      let numbered = wired.search-listed most_passes b l s.codes-distinct some few-codes in
      let complete = wired.search-complete most_passes b l s.codes-distinct some few-codes in
      let there = somebody n ns e in
      some-there search_rom n ns (n ∷ ns) e (rw e at
      (listing search_rom everybody everybody-course b f there same (codes_of b) numbered complete))
      (ap (λ r. map unstaged (live r.devices)) same ∙ wired.search-keeps most_passes b)

  -- the codes of those whose flag is set
  alarm-claim : Below 64 (codes_of b) → (ns ks : List ℕ) → codes_of b ≡ ns → flagged_codes b ≡ ks
      → SearchClaim alarm_search ns ks b (search_outcome alarm_search b places room)
  alarm-claim l [] ks e k = none-there alarm_search ks e
  alarm-claim l (n ∷ ns) [] e k =
      let same = wired.alarm-calls most_passes b f in
      some-there alarm_search n ns [] e (unanswered alarm_search flagged flagged-course b f (somebody n ns e) same
      _ (wired.alarm-none 31 b k))
      (ap (λ r. map unstaged (live r.devices)) same ∙ wired.alarm-keeps most_passes b)
  alarm-claim l (n ∷ ns) (c ∷ ks) e k =
      let same = wired.alarm-calls most_passes b f in
      let some : 0 < length (flagged_codes b) = rw k (omega arith) in
      let few = wired.flagged-few b in
      let most = few-codes in
      let room-left : length (flagged_codes b) ≤ most_passes = omega arith in
      let numbered = wired.alarm-listed most_passes b l s.codes-distinct some room-left in
      let complete = wired.alarm-complete most_passes b l s.codes-distinct some room-left in
      some-there alarm_search n ns (c ∷ ks) e (rw k at
      (listing alarm_search flagged flagged-course b f (somebody n ns e) same (flagged_codes b) numbered complete))
      (ap (λ r. map unstaged (live r.devices)) same ∙ wired.alarm-keeps most_passes b)

-- ## The claim, for every history

module _ (h : List Call) (t : Each Typed h) where
  pub codes-fit : Below 64 (codes_of (after h))
  codes-fit = let m = (reached-after h t).marked in rw m.codes-are m.codes-fit

  pub flagged-are-alarms : flagged_codes (after h) ≡ alarms h
  flagged-are-alarms =
      let r = reached-after h t in
      let m = r.marked in
      flagged-are (ledger h).book (live (after h)) r.sound.devices-sound m.pages-are
      ∙ ap (those (λ code. alarmed (page h code))) m.codes-are

pub demand-3 : Claim
demand-3 h t f places room p q =
    let r = reached-after h t in
    let fit = codes-fit h t in
    let are = r.marked.codes-are in
    record {
      search = search-claim (after h) r.sound f places room p q fit (added h) are;
      alarm-search = alarm-claim (after h) r.sound f places room p q fit (added h) (alarms h) are
          (flagged-are-alarms h t);
    }

-- as the calls promise it
pub search-promised : (b : Bench) (places room : ℕ) → SearchPromise b places room
search-promised b places room h t e f p q = rw (← e) (demand-3 h t (rw (← e) at f) places room p q).search

pub alarm-promised : (b : Bench) (places room : ℕ) → AlarmPromise b places room
alarm-promised b places room h t e f p q = rw (← e) (demand-3 h t (rw (← e) at f) places room p q).alarm-search
