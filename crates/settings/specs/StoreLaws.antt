-- Where codes are kept: a place that was found is one of the table and has the code; another entry at a place whose
-- code stays moves nobody; one behind the others is found by its code and hides nobody.
--     kept-found, kept-nowhere     the place of a code is where an entry has it; nowhere if none has
--     kept-within, located-within  a place that was found is one of the table; so is the one that stands for none
--     same-places                  an entry replaced by one of the same code
--     new-place                    an entry behind the others
--     located-cases, added-cases, removed-cases, changed-cases   what holds of a refusal and of what else a call does
--                                                                holds of the call
use Rattle.std.specs.Prelude.{ℕ, ◌+◌, ◌<◌, Bool, true, false, not, [], ◌∷◌, ◌++◌, map, ◌≢◌, ◌≡◌, refl, eqb, ltb, length, set, take}
use Rattle.std.proofs.Common.{sym, ap, ◌∙◌, arith, add-one, eqb-true, ltb-true, eq-eqb, ne_eqb, lit<, length-take, get_or-take, take-suc-set}
use Rattle.std.proofs.lemmas.Bool.{eqb-false}
use Rattle.std.proofs.Math.Seq.{take-set-lt, map-set_same}
use Rattle.std.specs.Prelude.{if◌then◌else◌}
use Rattle.basic_laws.specs.Each.{Each}
use Rattle.basic_laws.specs.First.{first_with}
use Rattle.basic_laws.specs.FirstLaws.{first-cases, first-none, first-append, first-mapped}
use Rattle.refusals.specs.Refusals.{accepted, duplicate, bench_full, not_found, stale_version, versions_spent}
use Rattle.rom.specs.Code.{code_refusal}
use Rattle.device.specs.declared.Settings.{Settings}
use Rattle.settings.specs.Store.{live_entries, blank, kept_at, entry_at, with_entry, with_new_entry}
use Rattle.settings.specs.Calls.{store_refused, store_changed, first_entry, there, added_at, settings_added, gone}
use Rattle.settings.specs.Calls.{settings_removed, missing, located_where, located, last_version, change_refused}
use Rattle.settings.specs.Calls.{altered_entry, changed_entry, settings_changed}
use Rattle.settings.specs.declared.Alterations.{Alterations}
use Rattle.settings.specs.declared.ChangeDone.{ChangeDone}
use Rattle.settings.specs.declared.Entry.{Entry}
use Rattle.settings.specs.declared.Kept.{Kept}
use Rattle.settings.specs.declared.Kept.TheVariants.{At, Nowhere}
use Rattle.settings.specs.declared.Located.{Located}
use Rattle.settings.specs.declared.Store.{Store}
use Rattle.settings.specs.declared.StoreAfter.{StoreAfter}

-- ## The place of a code

pub record EntryFound (s : Store) (code i : ℕ) : Type 0 where
  pub counted : i < s.count
  pub stands : i < length s.entries
  pub code-there : (entry_at s i).code ≡ code

pub kept-found : (s : Store) (code i : ℕ) → kept_at s code ≡ At i → EntryFound s code i
unfolding kept_at
kept-found s code i =
    first-cases (λ e. eqb e.code code) At Nowhere 0 (live_entries s) (λ k. k ≡ At i → EntryFound s code i)
    (λ j within passes same.
    let g : j ≡ i = let h : 0 + j ≡ i = cc in omega arith in
    let few = length-take s.count s.entries in
    let counted : i < s.count = omega arith in
    record {
      counted = counted;
      stands = omega arith;
      code-there = ap (λ (e : Entry). e.code) (sym (get_or-take s.count s.entries i blank counted))
          ∙ eqb-true _ code (rw g at (passes blank));
    })
    (λ none same. let z : ◌≡◌ {A = ℕ} 0 1 = cc in absurd (omega arith))

pub kept-nowhere : (s : Store) (code : ℕ) → kept_at s code ≡ Nowhere
    → Each (λ e. eqb e.code code ≡ false) (live_entries s)
unfolding kept_at
kept-nowhere s code =
    first-cases (λ e. eqb e.code code) At Nowhere 0 (live_entries s) (λ k. k ≡ Nowhere
    → Each (λ e. eqb e.code code ≡ false) (live_entries s))
    (λ j within passes same. let z : ◌≡◌ {A = ℕ} 0 1 = cc in absurd (omega arith))
    (λ none same. none)

pub kept-within : (s : Store) (code i : ℕ) → length s.entries ≡ 32 → kept_at s code ≡ At i → i < 32
kept-within s code i long e = let f = (kept-found s code i e).stands in omega arith

-- ## Entries replaced and new

by_code : (s : Store) (code : ℕ) → kept_at s code
    ≡ first_with (λ k. eqb k code) At Nowhere 0 (map (λ e. e.code) (live_entries s))
unfolding kept_at
by_code s code = first-mapped (λ (e : Entry). e.code) (λ k. eqb k code) At Nowhere 0 (live_entries s)

pub same-places : (s : Store) (i : ℕ) (e : Entry) → i < s.count → e.code ≡ (entry_at s i).code → (k : ℕ)
    → kept_at (with_entry s i e) k ≡ kept_at s k
same-places s i e counted same k =
    let codes : map (λ x. x.code) (take s.count (set s.entries i e)) ≡ map (λ x. x.code) (live_entries s) =
    ap (map (λ (x : Entry). x.code)) (take-set-lt s.count s.entries i e counted)
    ∙ map-set_same (λ (x : Entry). x.code) (live_entries s) i e blank (same
    ∙ ap (λ (x : Entry). x.code) (sym (get_or-take s.count s.entries i blank counted))) in
    by_code (with_entry s i e) k ∙ ap (first_with (λ c. eqb c k) At Nowhere 0) codes ∙ sym (by_code s k)

pub new-live : (s : Store) (e : Entry) → s.count < length s.entries
    → live_entries (with_new_entry s e) ≡ live_entries s ++ (e ∷ [])
new-live s e h = rw (add-one s.count) (take-suc-set s.entries s.count e h)

pub new-place : (s : Store) (e : Entry) → s.count < length s.entries → kept_at s e.code ≡ Nowhere
    → (k : ℕ) → kept_at (with_new_entry s e) k ≡ (if eqb k e.code then At s.count else kept_at s k)
unfolding kept_at first_with
new-place s e room none k =
    ap (first_with (λ x. eqb x.code k) At Nowhere 0) (new-live s e room)
    ∙ first-append (λ x. eqb x.code k) At Nowhere 0 (live_entries s) (e ∷ [])
    ∙ by-test (eqb k e.code) refl
  where
    place : 0 + length (live_entries s) ≡ s.count
    place = let few = length-take s.count s.entries in omega arith

    by-test : (t : Bool) → eqb k e.code ≡ t
        → first_with (λ x. eqb x.code k) At (if eqb e.code k then At (0 + length (live_entries s))
        else Nowhere) 0 (live_entries s)
        ≡ (if t then At s.count else first_with (λ x. eqb x.code k) At Nowhere 0 (live_entries s))
    by-test true is =
        let same = eqb-true k e.code is in
        rw (eq-eqb e.code k (sym same), place)
        (first-none _ At (At s.count) 0 (live_entries s) (rw (sym same) at (kept-nowhere s e.code none)))
    by-test false is = rw (ne_eqb e.code k (λ same. eqb-false k e.code is (sym same)))

-- ## The calls, case by case

pub located-cases : (s : Store) (code : ℕ) (P : Located → Type 0) → ((n : ℕ) → n ≢ accepted → P (missing n))
    → ((i : ℕ) → kept_at s code ≡ At i → (entry_at s i).present ≡ true
    → P (record { refusal = accepted; place = i; entry = entry_at s i }))
    → P (located s code)
unfolding located
located-cases s code P none found = by_code (eqb (code_refusal code) accepted) refl
  where
    by-presence : (t : Bool) (i : ℕ) → (entry_at s i).present ≡ t → kept_at s code ≡ At i
        → P (if t then record { refusal = accepted; place = i; entry = entry_at s i } else missing not_found)
    by-presence true i p e = found i e p
    by-presence false i p e = none not_found (λ z. omega arith)

    by_place : (k : Kept) → kept_at s code ≡ k → P (located_where s k)
    by_place (At i) e = by-presence (entry_at s i).present i refl e
    by_place Nowhere e = none not_found (λ z. omega arith)

    by_code : (t : Bool) → eqb (code_refusal code) accepted ≡ t
        → P (if not t then missing (code_refusal code) else located_where s (kept_at s code))
    by_code true e = by_place (kept_at s code) refl
    by_code false e = none (code_refusal code) (eqb-false (code_refusal code) accepted e)

pub located-within : (s : Store) (code : ℕ) → length s.entries ≡ 32 → (located s code).place < 32
located-within s code long = located-cases s code (λ l. l.place < 32) (λ n r. lit< tt)
    (λ i e p. kept-within s code i long e)

pub store-added-cases : (s : Store) (code : ℕ) (first : Settings) (P : StoreAfter → Type 0)
    → ((n : ℕ) → n ≢ accepted → P (store_refused n s))
    → (kept_at s code ≡ Nowhere → s.count < 32 → P (store_changed (with_new_entry s (first_entry code first))))
    → ((i : ℕ) → kept_at s code ≡ At i → P (store_changed (with_entry s i (there (entry_at s i)))))
    → P (settings_added s code first)
unfolding settings_added
store-added-cases s code first P refusal new again = by_code (eqb (code_refusal code) accepted) refl
  where
    by-room : (t : Bool) → ltb s.count 32 ≡ t → kept_at s code ≡ Nowhere
        → P (if not t then store_refused bench_full s else store_changed (with_new_entry s (first_entry code first)))
    by-room true r e = new e (ltb-true s.count 32 r)
    by-room false r e = refusal bench_full (λ z. omega arith)

    by-presence : (t : Bool) (i : ℕ) → kept_at s code ≡ At i
        → P (if t then store_refused duplicate s else store_changed (with_entry s i (there (entry_at s i))))
    by-presence true i e = refusal duplicate (λ z. omega arith)
    by-presence false i e = again i e

    by_place : (k : Kept) → kept_at s code ≡ k → P (added_at s code first k)
    by_place (At i) e = by-presence (entry_at s i).present i e
    by_place Nowhere e = by-room (ltb s.count 32) refl e

    by_code : (t : Bool) → eqb (code_refusal code) accepted ≡ t
        → P (if not t then store_refused (code_refusal code) s else added_at s code first (kept_at s code))
    by_code true e = by_place (kept_at s code) refl
    by_code false e = refusal (code_refusal code) (eqb-false (code_refusal code) accepted e)

pub removed-cases : (s : Store) (code : ℕ) (P : StoreAfter → Type 0) → ((n : ℕ) → n ≢ accepted → P (store_refused n s))
    → ((i : ℕ) → kept_at s code ≡ At i → P (store_changed (with_entry s i (gone (entry_at s i)))))
    → P (settings_removed s code)
unfolding settings_removed
removed-cases s code P refusal done =
    located-cases s code
    (λ l. P (if not (eqb l.refusal accepted) then store_refused l.refusal s
    else store_changed (with_entry s l.place (gone l.entry))))
    (λ n r. rw (ne_eqb n accepted r) (refusal n r))
    (λ i e p. done i e)

pub changed-cases : (s : Store) (code version : ℕ) (asked : Alterations) (P : ChangeDone → Type 0)
    → ((n : ℕ) → n ≢ accepted → P (change_refused n s))
    → ((i : ℕ) → kept_at s code ≡ At i → (entry_at s i).present ≡ true → version ≡ (entry_at s i).version
    → P (record {
      refusal = accepted;
      version = (entry_at s i).version + 1;
      store = with_entry s i (altered_entry (entry_at s i) asked);
    }))
    → P (settings_changed s code version asked)
unfolding settings_changed
changed-cases s code version asked P refusal done =
    located-cases s code
    (λ l. P (if not (eqb l.refusal accepted) then change_refused l.refusal s
    else if not (eqb version l.entry.version) then change_refused stale_version s
    else changed_entry s l.place l.entry asked))
    (λ n r. rw (ne_eqb n accepted r) (refusal n r))
    (λ i e p. by-version (eqb version (entry_at s i).version) i refl e p)
  where
    by_last : (t : Bool) (i : ℕ) → kept_at s code ≡ At i → (entry_at s i).present ≡ true → version ≡ (entry_at s i).version
        → P (if t then change_refused versions_spent s
        else record {
          refusal = accepted;
          version = (entry_at s i).version + 1;
          store = with_entry s i (altered_entry (entry_at s i) asked);
        })
    by_last true i e p v = refusal versions_spent (λ z. omega arith)
    by_last false i e p v = done i e p v

    by-version : (t : Bool) (i : ℕ) → eqb version (entry_at s i).version ≡ t → kept_at s code ≡ At i
        → (entry_at s i).present ≡ true
        → P (if not t then change_refused stale_version s else changed_entry s i (entry_at s i) asked)
    by-version true i v e p = by_last (eqb (entry_at s i).version last_version) i e p
        (eqb-true version (entry_at s i).version v)
    by-version false i v e p = refusal stale_version (λ z. omega arith)
