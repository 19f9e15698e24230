-- The claims on every run of calls on a store, from the invariant `Keeps`.
--     runs-right, same_version, nothing-undone, stale-refused, neighbours      the claims
use Rattle.std.specs.Prelude.{ℕ, ◌+◌, Bool, true, false, not, ◌&&◌, ◌||◌, List, [], ◌∷◌, ◌++◌, ◌≢◌, ◌≡◌, eqb, ltb, length}
use Rattle.std.proofs.Common.{append-nil, append_assoc, sym, ◌∙◌, arith, eqb-true, eq-eqb, ne_eqb, length-take, length-append}
use Rattle.std.proofs.Math.Path.{refl, ap}
use Rattle.std.proofs.lemmas.Bool.{eqb-false}
use Rattle.std.specs.Int.Bits.{bit_and}
use Rattle.std.proofs.lemmas.Nat.Bits.{and_high}
use Rattle.std.proofs.lemmas.List.{length-map}
use Rattle.std.specs.Prelude.{if◌then◌else◌}
use Rattle.basic_laws.specs.Fold.{fold}
use Rattle.basic_laws.specs.FoldLaws.{fold-append}
use Rattle.refusals.specs.Refusals.{accepted, duplicate, bench_full, not_found, stale_version, versions_spent}
use Rattle.rom.specs.Code.{code_refusal}
use Rattle.device.specs.declared.Settings.{Settings}
use Rattle.settings.specs.Store.{live_entries, kept_at, entry_at, with_entry, with_new_entry}
use Rattle.settings.specs.Calls.{store_refused, store_changed, kept_form, first_entry, there, gone, added_at}
use Rattle.settings.specs.Calls.{altered_entry}
use Rattle.settings.specs.Calls.{altered, settings_altered, last_version, located, change_refused, changed_entry}
use Rattle.settings.specs.Calls.{settings_added, settings_removed, settings_read, settings_changed}
use Rattle.settings.specs.Runs.{StoreCall, add, remove, read, change, AcceptedChange, Account, joining, leaving}
use Rattle.settings.specs.Runs.{changing, Book, on_accepted, entered, book, after_calls, settled, none_shown}
use Rattle.settings.specs.Runs.{shown_of}
use Rattle.settings.specs.Runs.{most_codes, most_changes, adding_refusal, change_refusal, RunsRight, SameVersion}
use Rattle.settings.specs.Runs.{NothingUndone, StaleRefused, Becomes, Neighbours}
use Rattle.settings.specs.StoreLaws.{changed-cases}
use Rattle.settings.specs.Written.{settings_written}
use Rattle.settings.specs.declared.Alter.{Alter}
use Rattle.settings.specs.declared.Alter.TheVariants.{Leave, To}
use Rattle.settings.specs.declared.Alterations.{Alterations}
use Rattle.settings.specs.declared.Current.{Current}
use Rattle.settings.specs.declared.Entry.{Entry}
use Rattle.settings.specs.declared.Kept.{Kept}
use Rattle.settings.specs.declared.Kept.TheVariants.{At, Nowhere}
use Rattle.settings.specs.declared.Located.{Located}
use Rattle.settings.specs.declared.Store.{Store}
use Rattle.settings.specs.KeptLaws.{Held, Keeps}
use Rattle.settings.proofs.KeptLaws.{settled-more, call-keeps, book-keeps, keeps-read}

-- ## Each call by the account of its code

-- what a read that was accepted shows
shown-accepted : (code : ℕ) (a : Account) → (shown_of code a).refusal ≡ accepted
    → (a.present ≡ true) × (shown_of code a ≡ record {
      refusal = accepted;
      settings = settled a;
      version =
          length a.changes;
    })
shown-accepted code a = by_code (eqb (code_refusal code) accepted) refl
  where
    full : Current
    full = record { refusal = accepted; settings = settled a; version = length a.changes }

    by-presence : (t : Bool) → a.present ≡ t → (if t then full else none_shown not_found).refusal ≡ accepted
        → (a.present ≡ true) × ((if t then full else none_shown not_found) ≡ full)
    by-presence true p e = (p, refl)
    by-presence false p e = absurd (omega arith)

    by_code : (t : Bool) → eqb (code_refusal code) accepted ≡ t
        → (if not t then none_shown (code_refusal code) else if a.present then full else none_shown not_found).refusal
        ≡ accepted
        → (a.present ≡ true) × ((if not t then none_shown (code_refusal code) else if a.present then full
        else none_shown not_found) ≡ full)
    by_code true s e = by-presence a.present refl e
    by_code false s e = absurd (eqb-false (code_refusal code) accepted s e)

-- what an accepted change named is what a read shows just before it
pub change-reads : (s : Store) (code version : ℕ) (asked : Alterations)
    → (settings_changed s code version asked).refusal ≡ accepted
    → ((settings_read s code).refusal ≡ accepted) × ((settings_read s code).version ≡ version)
unfolding settings_changed settings_read
change-reads s code version asked = by-refusal (eqb (located s code).refusal accepted) refl
  where
    found : Located
    found = located s code

    by-version : (t : Bool) → eqb version found.entry.version ≡ t → found.refusal ≡ accepted
        → (if not t then change_refused stale_version s else changed_entry s found.place found.entry asked).refusal
        ≡ accepted
        → (found.refusal ≡ accepted) × (found.entry.version ≡ version)
    by-version true v r e = (r, sym (eqb-true version found.entry.version v))
    by-version false v r e = absurd (omega arith)

    by-refusal : (t : Bool) → eqb found.refusal accepted ≡ t
        → (if not t then change_refused found.refusal s
        else if not (eqb version found.entry.version) then change_refused stale_version s
        else changed_entry s found.place found.entry asked).refusal ≡ accepted
        → (found.refusal ≡ accepted) × (found.entry.version ≡ version)
    by-refusal true r e = by-version (eqb version found.entry.version) refl (eqb-true found.refusal accepted r) e
    by-refusal false r e = absurd (eqb-false found.refusal accepted r e)

-- a change keeps the code there
present-shown : (code : ℕ) (a : Account) (named : ℕ) (asked : Alterations) → (shown_of code a).refusal ≡ accepted
    → (shown_of code (changing named asked a)).refusal ≡ accepted
present-shown code a named asked = by_code (eqb (code_refusal code) accepted)
  where
    by-presence : (t : Bool) (x y : Current) → x.refusal ≡ y.refusal
        → (if t then x else none_shown not_found).refusal ≡ accepted
        → (if t then y else none_shown not_found).refusal ≡ accepted
    by-presence true x y s e = sym s ∙ e
    by-presence false x y s e = e

    by_code : (t : Bool)
        → (if not t then none_shown (code_refusal code)
        else if a.present then record { refusal = accepted; settings = settled a; version = length a.changes }
        else none_shown not_found).refusal ≡ accepted
        → (if not t then none_shown (code_refusal code)
        else if a.present then record {
          refusal = accepted;
          settings = settled (changing named asked a);
          version =
              length (changing named asked a).changes;
        } else none_shown not_found).refusal ≡ accepted
    by_code true e = by-presence a.present _ _ refl e
    by_code false e = e

-- and it answers the next one
change-answers : (s : Store) (code named : ℕ) (asked : Alterations)
    → (settings_changed s code named asked).refusal ≡ accepted
    → (settings_changed s code named asked).version ≡ named + 1
change-answers s code named asked =
    changed-cases s code named asked (λ r. r.refusal ≡ accepted → r.version ≡ named + 1) (λ n r e. absurd (r e))
    (λ i at p v e. ap (λ (n : ℕ). n + 1) (sym v))

module _ (b : Book) (g : Keeps b) where
  located-is : (code : ℕ) → (located b.store code).refusal ≡ (shown_of code (b.accounts code)).refusal
  unfolding settings_read
  located-is code = ap (λ (c : Current). c.refusal) (keeps-read b code g)

  count-is : b.store.count ≡ length b.codes
  count-is =
      let s = b.store in
      let few = g.few in
      let long = g.long in
      let count : length (live_entries s) ≡ s.count = let l = length-take s.count s.entries in omega arith in
      sym count ∙ sym (length-map (live_entries s) (λ (e : Entry). e.code)) ∙ ap length g.codes-are

  adding-is : (code : ℕ) (first : Settings)
      → (settings_added b.store code first).refusal ≡ adding_refusal code (b.accounts code) (length b.codes)
  unfolding settings_added
  adding-is code first = by_code (eqb (code_refusal code) accepted)
    where
      s : Store
      s = b.store

      a : Account
      a = b.accounts code

      by-presence : (t : Bool) (i : ℕ)
          → (if t then store_refused duplicate s else store_changed (with_entry s i (there (entry_at s i)))).refusal
          ≡ (if t then duplicate else accepted)
      by-presence true i = refl
      by-presence false i = refl

      by-room : (t : Bool)
          → (if not t then store_refused bench_full s else store_changed (with_new_entry s (first_entry code first))).refusal
          ≡ (if t then accepted else bench_full)
      by-room true = refl
      by-room false = refl

      by_place : (k : Kept) → Held s a k
          → (added_at s code first k).refusal
          ≡ (if a.present then duplicate else if a.known || ltb (length b.codes) most_codes then accepted
          else bench_full)
      by_place (At i) m = rw (← m.present-is, m.known_is) (by-presence (entry_at s i).present i)
      by_place Nowhere none = rw (none, ← count-is) (by-room (ltb s.count 32))

      by_code : (t : Bool)
          → (if not t then store_refused (code_refusal code) s else added_at s code first (kept_at s code)).refusal
          ≡ (if not t then code_refusal code else if a.present then duplicate
          else if a.known || ltb (length b.codes) most_codes then accepted else bench_full)
      by_code true = by_place (kept_at s code) (g.held code)
      by_code false = refl

  removing-is : (code : ℕ) → (settings_removed b.store code).refusal ≡ (shown_of code (b.accounts code)).refusal
  unfolding settings_removed
  removing-is code = by-test (eqb (located b.store code).refusal accepted) refl ∙ located-is code
    where
      found : Located
      found = located b.store code

      by-test : (t : Bool) → eqb found.refusal accepted ≡ t
          → (if not t then store_refused found.refusal b.store
          else store_changed (with_entry b.store found.place (gone found.entry))).refusal ≡ found.refusal
      by-test true e = sym (eqb-true found.refusal accepted e)
      by-test false e = refl

  module _ (code named : ℕ) (asked : Alterations) where
    -- the version of an entry that was found
    version-found : (located b.store code).refusal ≡ accepted
        → (located b.store code).entry.version ≡ length (b.accounts code).changes
    unfolding settings_read
    version-found r =
        ap (λ (c : Current). c.version)
        (keeps-read b code g ∙ (shown-accepted code (b.accounts code) (sym (located-is code) ∙ r)).1)

    changing-is : (settings_changed b.store code named asked).refusal ≡ change_refusal code (b.accounts code) named
    unfolding settings_changed
    changing-is = rw (← located-is code) (by-refusal (eqb (located b.store code).refusal accepted) refl)
      where
        s : Store
        s = b.store

        found : Located
        found = located s code

        n : ℕ
        n = length (b.accounts code).changes

        by_tests : (t u : Bool)
            → (if not t then change_refused stale_version s else if u then change_refused versions_spent s
            else record {
              refusal = accepted;
              version = found.entry.version + 1;
              store =
                  with_entry s found.place (altered_entry found.entry asked);
            }).refusal
            ≡ (if not t then stale_version else if u then versions_spent else accepted)
        by_tests true true = refl
        by_tests true false = refl
        by_tests false u = refl

        by-refusal : (t : Bool) → eqb found.refusal accepted ≡ t
            → (if not t then change_refused found.refusal s
            else if not (eqb named found.entry.version) then change_refused stale_version s
            else changed_entry s found.place found.entry asked).refusal
            ≡ (if not t then found.refusal else if not (eqb named n) then stale_version
            else if eqb n most_changes then versions_spent else accepted)
        by-refusal true e =
            rw (← version-found (eqb-true found.refusal accepted e))
            (by_tests (eqb named found.entry.version) (eqb found.entry.version last_version))
        by-refusal false e = refl

    answering-is : (settings_changed b.store code named asked).refusal ≡ accepted
        → (settings_read (settings_changed b.store code named asked).store code).version
        ≡ (settings_changed b.store code named asked).version
    answering-is done =
        let a = b.accounts code in
        let call = change code named asked in
        let is = keeps-read b code g in
        let reads = change-reads b.store code named asked done in
        let shown : (shown_of code a).refusal ≡ accepted = ap (λ (c : Current). c.refusal) (sym is) ∙ reads.0 in
        let next : settings_read (entered b call).store code ≡ shown_of code ((entered b call).accounts code) =
        keeps-read (entered b call) code (call-keeps b call g) in
        let entry : (entered b call).accounts code ≡ changing named asked a =
        rw (eq-eqb (settings_changed b.store code named asked).refusal accepted done, eq-eqb code code refl) in
        let again = shown-accepted code (changing named asked a) (present-shown code a named asked shown) in
        ap (λ (c : Current). c.version) (next ∙ ap (shown_of code) entry ∙ again.1)
        ∙ length-append a.changes _
        ∙ ap (λ (n : ℕ). n + 1) (ap (λ (c : Current). c.version) (sym (is ∙ (shown-accepted code a shown).1))
        ∙ reads.1)
        ∙ sym (change-answers b.store code named asked done)

pub runs-right : RunsRight
unfolding settings_written
runs-right h =
    let b = book h in
    let g = book-keeps h in
    record {
      read_is = λ code. keeps-read b code g;
      add_is = adding-is b g;
      remove-is = removing-is b g;
      change-is = changing-is b g;
      version-is = answering-is b g;
      write-is = λ code wire. rw (keeps-read b code g);
      in-turn = g.turn;
      places-are = count-is b g;
      places-few = rw (← count-is b g) g.few;
      codes-distinct = g.distinct;
    }

-- ## Equal versions

-- an account only grows
record Grown (a a' : Account) : Type 0 where
  pub more : List AcceptedChange
  pub changes-are : a'.changes ≡ a.changes ++ more
  pub known_is : a.known ≡ true → a'.known ≡ true
  pub first-is : a.known ≡ true → a'.first ≡ a.first

not-grown : (a : Account) → Grown a a
not-grown a = record { more = []; changes-are = sym (append-nil a.changes); known_is = λ k. k; first-is = λ k. refl }

grown-then : (a b c : Account) → Grown a b → Grown b c → Grown a c
grown-then a b c g h = record {
  more = g.more ++ h.more;
  changes-are =
      h.changes-are ∙ ap (λ (l : List AcceptedChange). l ++ h.more) g.changes-are
      ∙ append_assoc a.changes g.more h.more;
  known_is = λ k. h.known_is (g.known_is k);
  first-is = λ k. h.first-is (g.known_is k) ∙ g.first-is k;
}

joining-grown : (first : Settings) (a : Account) → Grown a (joining first a)
joining-grown first a =
    record { more = []; changes-are = sym (append-nil a.changes); known_is = λ k. refl; first-is = λ k. rw k }

leaving-grown : (a : Account) → Grown a (leaving a)
leaving-grown a =
    record { more = []; changes-are = sym (append-nil a.changes); known_is = λ k. k; first-is = λ k. refl }

changing-grown : (named : ℕ) (asked : Alterations) (a : Account) → Grown a (changing named asked a)
changing-grown named asked a = record { more = _; changes-are = refl; known_is = λ k. k; first-is = λ k. refl }

accepted-grown : (refusal code : ℕ) (f : Account → Account) (accounts : ℕ → Account) (k : ℕ)
    → Grown (accounts k) (f (accounts k)) → Grown (accounts k) (on_accepted refusal code f accounts k)
accepted-grown refusal code f accounts k g = by-test (eqb refusal accepted && eqb k code)
  where
    by-test : (t : Bool) → Grown (accounts k) (if t then f (accounts k) else accounts k)
    by-test true = g
    by-test false = not-grown (accounts k)

call-grown : (b : Book) (c : StoreCall) (k : ℕ) → Grown (b.accounts k) ((entered b c).accounts k)
call-grown b (add code first) k =
    accepted-grown (settings_added b.store code first).refusal code (joining first) b.accounts k
    (joining-grown first (b.accounts k))
call-grown b (remove code) k =
    accepted-grown (settings_removed b.store code).refusal code leaving b.accounts k
    (leaving-grown (b.accounts k))
call-grown b (read code) k = not-grown (b.accounts k)
call-grown b (change code version asked) k =
    accepted-grown (settings_changed b.store code version asked).refusal code (changing version asked)
    b.accounts k (changing-grown version asked (b.accounts k))

calls-grown : (b : Book) (h : List StoreCall) (k : ℕ) → Grown (b.accounts k) ((fold entered b h).accounts k)
unfolding fold
calls-grown b [] k = not-grown (b.accounts k)
calls-grown b (c ∷ h) k = grown-then _ _ _ (call-grown b c k) (calls-grown (entered b c) h k)

book-append : (h more : List StoreCall) → book (h ++ more) ≡ fold entered (book h) more
unfolding book
book-append h more = fold-append entered _ h more

-- a code that is there is known
present-known : (b : Book) (code : ℕ) → Keeps b → (b.accounts code).present ≡ true → (b.accounts code).known ≡ true
present-known b code g p = by_place (kept_at b.store code) (g.held code)
  where
    by_place : (k : Kept) → Held b.store (b.accounts code) k → (b.accounts code).known ≡ true
    by_place (At i) m = m.known_is
    by_place Nowhere none = let z : false ≡ true =
        sym (ap (λ (a : Account). a.present) none) ∙ p in let one : ◌≡◌ {A = ℕ} 0 1 =
        ap (λ (t : Bool). if t then 1 else 0) z in absurd (omega arith)

no_more : (l m : List AcceptedChange) → length (l ++ m) ≡ length l → l ++ m ≡ l
no_more l [] e = append-nil l
no_more l (c ∷ m) e = let n = length-append l (c ∷ m) in absurd (omega arith)

pub same_version : SameVersion
same_version h more code first last same =
    let b = book h in
    let b' = book (h ++ more) in
    let before = (runs-right h).read_is code in
    let behind = (runs-right (h ++ more)).read_is code in
    let one = shown-accepted code (b.accounts code) (ap (λ (c : Current). c.refusal) (sym before) ∙ first) in
    let two = shown-accepted code (b'.accounts code) (ap (λ (c : Current). c.refusal) (sym behind) ∙ last) in
    let g = rw (← book-append h more) at (calls-grown b more code) in
    let known = present-known b code (book-keeps h) one.0 in
    let lengths : length (b'.accounts code).changes ≡ length (b.accounts code).changes =
    ap (λ (c : Current). c.version) (sym (behind ∙ two.1)) ∙ same
    ∙ ap (λ (c : Current). c.version) (before ∙ one.1) in
    let changes : (b'.accounts code).changes ≡ (b.accounts code).changes =
    g.changes-are ∙ no_more (b.accounts code).changes g.more (ap length (sym g.changes-are) ∙ lengths) in
    let settings : settled (b'.accounts code) ≡ settled (b.accounts code) = rw (changes, g.first-is known) in
    let shown : ◌≡◌ {A = Current}
    (record {
      refusal = accepted;
      settings = settled (b'.accounts code);
      version =
          length (b'.accounts code).changes;
    })
    (record {
      refusal = accepted;
      settings = settled (b.accounts code);
      version =
          length (b.accounts code).changes;
    }) = rw (settings, lengths) in
    behind ∙ two.1 ∙ shown ∙ sym (before ∙ one.1)

-- ## An accepted change

pub nothing-undone : NothingUndone
nothing-undone h more code asked first done =
    let b = book (h ++ more) in
    let seen = settings_read (after_calls h) code in
    let call = change code seen.version asked in
    let last = change-reads b.store code seen.version asked done in
    let same : settings_read b.store code ≡ seen = same_version h more code first last.0 last.1 in
    let a = b.accounts code in
    let is = (runs-right (h ++ more)).read_is code in
    let shown = shown-accepted code a (ap (λ (c : Current). c.refusal) (sym is) ∙ last.0) in
    let now-is : seen ≡ record { refusal = accepted; settings = settled a; version = length a.changes } =
    sym same ∙ is ∙ shown.1 in
    let next : settings_read (entered b call).store code ≡ shown_of code ((entered b call).accounts code) =
    keeps-read (entered b call) code (call-keeps b call (book-keeps (h ++ more))) in
    let entry : (entered b call).accounts code ≡ changing seen.version asked a =
    rw (eq-eqb (settings_changed b.store code seen.version asked).refusal accepted done, eq-eqb code code refl) in
    let again =
    shown-accepted code (changing seen.version asked a)
    (present-shown code a seen.version asked (ap (λ (c : Current). c.refusal) (sym is) ∙ last.0)) in
    let settings : settled (changing seen.version asked a) ≡ settings_altered seen.settings asked =
    settled-more seen.version asked a ∙ ap (λ (c : Current). settings_altered c.settings asked) (sym now-is) in
    let version : length (changing seen.version asked a).changes ≡ seen.version + 1 =
    length-append a.changes _ ∙ ap (λ (c : Current). c.version + 1) (sym now-is) in
    let shown-next : ◌≡◌ {A = Current}
    (record {
      refusal = accepted;
      settings = settled (changing seen.version asked a);
      version =
          length (changing seen.version asked a).changes;
    })
    (record { refusal = accepted; settings = settings_altered seen.settings asked; version = seen.version + 1 }) =
    rw (settings, version) in
    next ∙ ap (shown_of code) entry ∙ again.1 ∙ shown-next

-- ## A version that was named

pub stale-refused : StaleRefused
unfolding fold
stale-refused h more code named asked late done there =
    let b = book h in
    let call = change code named asked in
    let b' = book (h ++ (call ∷ more)) in
    let a = b.accounts code in
    let is = (runs-right h).read_is code in
    let reads = change-reads b.store code named asked done in
    let shown = shown-accepted code a (ap (λ (c : Current). c.refusal) (sym is) ∙ reads.0) in
    let before : length a.changes ≡ named = ap (λ (c : Current). c.version) (sym (is ∙ shown.1)) ∙ reads.1 in
    let entry : (entered b call).accounts code ≡ changing named asked a =
    rw (eq-eqb (settings_changed b.store code named asked).refusal accepted done, eq-eqb code code refl) in
    let next : length ((entered b call).accounts code).changes ≡ named + 1 =
    ap (λ (x : Account). length x.changes) entry ∙ length-append a.changes _ ∙ ap (λ (n : ℕ). n + 1) before in
    let g = rw (← book-append h (call ∷ more)) at (calls-grown (entered b call) more code) in
    let later : length (b'.accounts code).changes
    ≡ length ((entered b call).accounts code).changes + length g.more =
    ap length g.changes-are ∙ length-append ((entered b call).accounts code).changes g.more in
    let apart : named ≢ length (b'.accounts code).changes = λ e. omega arith in
    let open-still : (shown_of code (b'.accounts code)).refusal ≡ accepted =
    ap (λ (c : Current). c.refusal) (sym ((runs-right (h ++ (call ∷ more))).read_is code)) ∙ there in
    (runs-right (h ++ (call ∷ more))).change-is code named late
    ∙ rw (open-still, ne_eqb named (length (b'.accounts code).changes) apart)

-- ## What is kept is in kept form

form-again : (s : Settings) → kept_form (kept_form s) ≡ kept_form s
form-again s = let e : bit_and (bit_and x 0x60) 0x60 ≡ bit_and x 0x60 =
    omega (arith, and_high x 2 5, and_high (bit_and x 0x60) 2 5) in rw e
  where
    x : ℕ
    x = s.configuration

abbrev InForm : Settings → Type 0
InForm s = kept_form s ≡ s

accepted-form : (refusal code : ℕ) (f : Account → Account) (accounts : ℕ → Account) (k : ℕ) → InForm (accounts k).first
    → InForm (f (accounts k)).first
    → InForm (on_accepted refusal code f accounts k).first
accepted-form refusal code f accounts k g h = by-test (eqb refusal accepted && eqb k code)
  where
    by-test : (t : Bool) → InForm (if t then f (accounts k) else accounts k).first
    by-test true = h
    by-test false = g

joining-form : (first : Settings) (a : Account) → InForm a.first → InForm (joining first a).first
joining-form first a g = by-test a.known
  where
    by-test : (t : Bool) → InForm (if t then a.first else kept_form first)
    by-test true = g
    by-test false = form-again first

call-form : (b : Book) (c : StoreCall) → ((k : ℕ) → InForm (b.accounts k).first) → (k : ℕ)
    → InForm ((entered b c).accounts k).first
call-form b (add code first) g k =
    accepted-form (settings_added b.store code first).refusal code (joining first) b.accounts k (g k)
    (joining-form first (b.accounts k) (g k))
call-form b (remove code) g k =
    accepted-form (settings_removed b.store code).refusal code leaving b.accounts k (g k) (g k)
call-form b (read code) g k = g k
call-form b (change code version asked) g k =
    accepted-form (settings_changed b.store code version asked).refusal code (changing version asked) b.accounts k
    (g k) (g k)

calls-form : (b : Book) (h : List StoreCall) → ((k : ℕ) → InForm (b.accounts k).first) → (k : ℕ)
    → InForm ((fold entered b h).accounts k).first
unfolding fold
calls-form b [] g = g
calls-form b (c ∷ h) g = calls-form (entered b c) h (call-form b c g)

settled-form : (s : Settings) (changes : List AcceptedChange) → InForm s
    → InForm (fold (λ (x : Settings) (c : AcceptedChange). settings_altered x c.asked) s changes)
unfolding fold
settled-form s [] g = g
settled-form s (c ∷ changes) g = settled-form (settings_altered s c.asked) changes (altered-form s c.asked)
  where
    altered-form : (x : Settings) (asked : Alterations) → InForm (settings_altered x asked)
    altered-form x asked =
        form-again (record {
          high = altered x.high asked.high;
          low =
              altered x.low asked.low;
          configuration = altered x.configuration asked.configuration;
        })

book-form : (h : List StoreCall) (code : ℕ) → InForm (settled ((book h).accounts code))
unfolding book
book-form h code =
    settled-form ((book h).accounts code).first ((book h).accounts code).changes (calls-form _ h (λ k. refl) code)

becomes : (x : Alter) (seen : ℕ) (kept : ℕ → ℕ) → kept seen ≡ seen → Becomes x seen kept (kept (altered seen x))
becomes Leave seen kept e = e
becomes (To byte) seen kept e = refl

pub neighbours : Neighbours
neighbours h more code asked first done =
    let seen = settings_read (after_calls h) code in
    let is = (runs-right h).read_is code in
    let shown = shown-accepted code ((book h).accounts code) (ap (λ (c : Current). c.refusal) (sym is) ∙ first) in
    let settings : seen.settings ≡ settled ((book h).accounts code) =
    ap (λ (c : Current). c.settings) (is ∙ shown.1) in
    let form : InForm seen.settings = rw settings (book-form h code) in
    rw (nothing-undone h more code asked first done) (
      becomes asked.high seen.settings.high (λ byte. byte) refl,
      becomes asked.low seen.settings.low (λ byte. byte) refl,
      becomes asked.configuration seen.settings.configuration (λ byte. bit_and byte 0x60)
          (ap (λ (s : Settings). s.configuration) form),
    )
