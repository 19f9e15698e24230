-- The story of the raised limit, from the claims on the store (`stale-refused`, `neighbours`) and the claim on shared
-- runs
-- (`to-the-wire`): of a shared run the store sees the calls on it, and nothing else.
use Rattle.std.specs.Prelude.{ℕ, List, [], ◌∷◌, ◌++◌, ◌≡◌, refl}
use Rattle.std.proofs.Common.{append-nil, sym, subst}
use Rattle.basic_laws.specs.EachLaws.{each_snoc}
use Rattle.basic_laws.specs.Fold.{fold}
use Rattle.basic_laws.specs.FoldLaws.{fold-append}
use Rattle.refusals.specs.Refusals.{accepted, stale_version}
use Rattle.device.specs.declared.Settings.{Settings}
use Rattle.settings.specs.Calls.{settings_read, settings_changed}
use Rattle.settings.specs.Runs.{StoreCall, change, Book, entered, book, after_calls}
use Rattle.settings.proofs.RunsLaws.{neighbours, stale-refused, change-reads}
use Rattle.settings.specs.declared.Alterations.{Alterations}
use Rattle.settings.specs.declared.ChangeDone.{ChangeDone}
use Rattle.settings.specs.declared.Current.{Current}
use Rattle.settings_laws.specs.Shared.{SharedCall, on_store, on_bench, settings_write, TypedShared, Shared, stepped}
use Rattle.settings_laws.specs.Shared.{onward, shared, Holds, raising, RaisedLimit}
use Rattle.settings_laws.proofs.SharedLaws.{to-the-wire}

-- the calls on the store
store_calls : List SharedCall → List StoreCall
store_calls [] = []
store_calls (on_store c ∷ h) = c ∷ store_calls h
store_calls (on_bench c ∷ h) = store_calls h
store_calls (settings_write code ∷ h) = store_calls h

book-onward : (st : Shared) (h : List SharedCall) → (onward st h).book ≡ fold entered st.book (store_calls h)
unfolding onward fold store_calls
book-onward st [] = refl
book-onward st (on_store c ∷ h) = book-onward (stepped st (on_store c)) h
book-onward st (on_bench c ∷ h) = book-onward (stepped st (on_bench c)) h
book-onward st (settings_write code ∷ h) = book-onward (stepped st (settings_write code)) h

book-shared : (h : List SharedCall) → (shared h).book ≡ book (store_calls h)
unfolding book fold
book-shared h = book-onward _ h

settings-equal : (s : Settings) (high low configuration : ℕ) → s.high ≡ high → s.low ≡ low
    → s.configuration ≡ configuration
    → s ≡ record { high = high; low = low; configuration = configuration }
settings-equal s high low configuration e f g =
    let same : ◌≡◌ {A = Settings} (record { high = s.high; low = s.low; configuration = s.configuration })
    (record { high = high; low = low; configuration = configuration }) = rw (e, f, g) in
    same

-- ## The store

module _ (code limit : ℕ) (late : Alterations) (more : List StoreCall) where
  abbrev seen_in : Book → Current
  seen_in b = settings_read b.store code

  abbrev raised_in : Book → ChangeDone
  raised_in b = settings_changed b.store code (seen_in b).version (raising limit)

  abbrev later_in : Book → Book
  later_in b = fold entered (entered b (change code (seen_in b).version (raising limit))) more

  -- the late change is refused, and the raised limit stands beside what was seen
  record Raised (b : Book) : Type 0 where
    pub stale : (settings_read (later_in b).store code).refusal ≡ accepted
        → (settings_changed (later_in b).store code (seen_in b).version late).refusal ≡ stale_version
    pub settings-are : (settings_read (raised_in b).store code).settings
        ≡ record { high = limit; low = (seen_in b).settings.low; configuration = (seen_in b).settings.configuration }

  book-later : (h : List StoreCall) (c : StoreCall) → book (h ++ (c ∷ more)) ≡ fold entered (entered (book h) c) more
  unfolding book fold
  book-later h c = fold-append entered _ h (c ∷ more)

  store-raised : (h : List StoreCall) → (raised_in (book h)).refusal ≡ accepted → Raised (book h)
  store-raised h done =
      let seen = seen_in (book h) in
      let reads = change-reads (after_calls h) code seen.version (raising limit) done in
      let parts = rw (append-nil h) at (neighbours h [] code (raising limit) reads.0) in
      record {
        stale =
            subst (λ (b : Book). (settings_read b.store code).refusal ≡ accepted
            → (settings_changed b.store code seen.version late).refusal ≡ stale_version)
            (book-later h (change code seen.version (raising limit)))
            (stale-refused h more code seen.version (raising limit) late done);
        settings-are =
            settings-equal (settings_read (raised_in (book h)).store code).settings limit seen.settings.low
            seen.settings.configuration (parts done).0 (parts done).1 (parts done).2;
      }

-- ## The wire

shared-snoc : (h : List SharedCall) (c : SharedCall) → shared (h ++ (c ∷ [])) ≡ stepped (shared h) c
unfolding onward fold
shared-snoc h c = fold-append stepped _ h (c ∷ [])

pub raised-limit : RaisedLimit
raised-limit h more code limit late t u fits byte done accepts spared =
    let seen = settings_read (shared h).book.store code in
    let raise = on_store (change code seen.version (raising limit)) in
    let written = stepped (stepped (shared h) raise) (settings_write code) in
    let calls = store_calls more in
    let story =
    subst (λ (b : Book). (raised_in code limit late calls b).refusal ≡ accepted → Raised code limit late calls b)
    (sym (book-shared h)) (store-raised code limit late calls (store_calls h)) done in
    let wire =
    rw (shared-snoc h raise) at
    (to-the-wire (h ++ (raise ∷ [])) more code (each_snoc TypedShared h raise t (fits, byte, tt, tt)) fits u) in
    let stale =
    subst (λ (b : Book). (settings_read b.store code).refusal ≡ accepted
    → (settings_changed b.store code seen.version late).refusal ≡ stale_version)
    (sym (book-onward written more)) story.stale in
    (stale, subst (Holds (onward written more).bench code) story.settings-are (wire accepts spared))
