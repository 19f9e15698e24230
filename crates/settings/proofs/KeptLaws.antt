-- The invariant of the runs of calls on a store: each code that was ever added has one entry, and the entry is what
-- its account comes to; a code that has none has no account. A call about one code replaces its entry or puts one
-- behind the others, and leaves the places and entries of all other codes.
--     Keeps b         the invariant
--     book-keeps      it holds after every run
--     keeps-read      so that a read shows what the account comes to
use Rattle.std.specs.Prelude.{ℕ, ◌+◌, ◌<◌, Bool, true, false, not, ◌&&◌, List, [], ◌∷◌, ◌++◌, map, ◌≢◌, ◌≡◌, refl, eqb, length}
use Rattle.std.proofs.Common.{sym, ap, subst, ◌∙◌, arith, eqb-true, ne_eqb, lit≤, length-set, length-append, get_or-take, get_or-set_same, get_or-set_other}
use Rattle.std.proofs.lemmas.Bool.{eqb-false}
use Rattle.std.proofs.lemmas.List.{length-replicate}
use Rattle.std.proofs.Math.Seq.{take-set-lt, map-set_same}
use Rattle.std.specs.Prelude.{if◌then◌else◌}
use Rattle.basic_laws.specs.Each.{Each}
use Rattle.basic_laws.specs.EachLaws.{distinct_snoc}
use Rattle.basic_laws.specs.First.{first_with}
use Rattle.basic_laws.specs.Fold.{fold}
use Rattle.basic_laws.specs.FoldLaws.{fold-append}
use Rattle.refusals.specs.Refusals.{accepted, not_found}
use Rattle.rom.specs.Code.{code_refusal}
use Rattle.device.specs.declared.Settings.{Settings}
use Rattle.settings.specs.Store.{live_entries, blank, kept_at, entry_at, with_entry, with_new_entry}
use Rattle.settings.specs.Calls.{first_entry, there, gone, altered_entry, settings_altered, missing, located_where}
use Rattle.settings.specs.Calls.{located, settings_read}
use Rattle.settings.specs.Runs.{StoreCall, add, remove, read, change, AcceptedChange, Account, no_account, joining}
use Rattle.settings.specs.Runs.{leaving, changing, Book, on_accepted, codes_joined, entered, book, settled}
use Rattle.settings.specs.Runs.{none_shown, shown_of, InTurn}
use Rattle.settings.specs.StoreLaws.{kept-found, kept-nowhere, same-places, new-live, new-place}
use Rattle.settings.specs.StoreLaws.{store-added-cases, removed-cases, changed-cases}
use Rattle.settings.specs.declared.Alterations.{Alterations}
use Rattle.settings.specs.declared.Current.{Current}
use Rattle.settings.specs.declared.Entry.{Entry}
use Rattle.settings.specs.declared.Kept.{Kept}
use Rattle.settings.specs.declared.Kept.TheVariants.{At, Nowhere}
use Rattle.settings.specs.declared.Located.{Located}
use Rattle.settings.specs.declared.Store.{Store}
use Rattle.settings.specs.KeptLaws.{Held, Keeps, Matches}

first_matches : (code : ℕ) (first : Settings) → Matches (joining first no_account) (first_entry code first)
unfolding fold
first_matches code first = record { known_is = refl; present-is = refl; settings-are = refl; version-is = refl }

there-matches : (first : Settings) (a : Account) (e : Entry) → Matches a e → Matches (joining first a) (there e)
there-matches first a e m =
    record {
      known_is = refl;
      present-is = refl;
      settings-are = rw m.known_is m.settings-are;
      version-is = m.version-is;
    }

gone-matches : (a : Account) (e : Entry) → Matches a e → Matches (leaving a) (gone e)
gone-matches a e m = record {
  known_is = m.known_is;
  present-is = refl;
  settings-are = m.settings-are;
  version-is = m.version-is;
}

pub settled-more : (named : ℕ) (asked : Alterations) (a : Account)
    → settled (changing named asked a) ≡ settings_altered (settled a) asked
unfolding fold
settled-more named asked a = fold-append (λ (s : Settings) (c : AcceptedChange). settings_altered s c.asked)
    a.first a.changes (record { named = named; asked = asked } ∷ [])

altered-matches : (named : ℕ) (asked : Alterations) (a : Account) (e : Entry) → Matches a e
    → Matches (changing named asked a) (altered_entry e asked)
altered-matches named asked a e m = record {
  known_is = m.known_is;
  present-is = m.present-is;
  settings-are = ap (λ (s : Settings). settings_altered s asked) m.settings-are ∙ sym (settled-more named asked a);
  version-is = ap (λ (n : ℕ). n + 1) m.version-is ∙ sym (length-append a.changes _);
}

-- ## One entry replaced, and one put behind the others

module _ (s : Store) (code : ℕ) (accounts : ℕ → Account) (f : Account → Account) (held : (k : ℕ)
    → Held s (accounts k) (kept_at s k)) where
  replaced-held : (i : ℕ) (e : Entry) → kept_at s code ≡ At i → e.code ≡ (entry_at s i).code
      → Matches (f (accounts code)) e
      → (k : ℕ) → Held (with_entry s i e) (if eqb k code then f (accounts k)
      else accounts k) (kept_at (with_entry s i e) k)
  replaced-held i e at same m k =
      let found = kept-found s code i at in
      rw (same-places s i e found.counted same k) (by-test (eqb k code) refl)
    where
      by_place : (p : Kept) → kept_at s k ≡ p → (k ≡ code → ⊥) → Held s (accounts k) p
          → Held (with_entry s i e) (accounts k) p
      by_place (At j) q other h =
          let apart : j ≢ i = λ g. other (sym (kept-found s k j q).code-there ∙ ap (λ (n : ℕ). (entry_at s n).code) g
          ∙ (kept-found s code i at).code-there) in
          rw (get_or-set_other s.entries i j e blank apart) h
      by_place Nowhere q other h = h

      by-test : (t : Bool) → eqb k code ≡ t → Held (with_entry s i e) (if t then f (accounts k)
          else accounts k) (kept_at s k)
      by-test true g =
          let is = eqb-true k code g in
          rw (is, at, get_or-set_same s.entries i e blank (kept-found s code i at).stands) m
      by-test false g = by_place (kept_at s k) refl (eqb-false k code g) (held k)

module _ (s : Store) (e : Entry) (accounts : ℕ → Account) (f : Account → Account) (held : (k : ℕ)
    → Held s (accounts k) (kept_at s k)) where
  new-held : s.count < length s.entries → kept_at s e.code ≡ Nowhere → Matches (f (accounts e.code)) e
      → (k : ℕ) → Held (with_new_entry s e) (if eqb k e.code then f (accounts k)
      else accounts k) (kept_at (with_new_entry s e) k)
  new-held room none m k = rw (new-place s e room none k) (by-test (eqb k e.code) refl)
    where
      by_place : (p : Kept) → kept_at s k ≡ p → Held s (accounts k) p → Held (with_new_entry s e) (accounts k) p
      by_place (At j) q h =
          let counted = (kept-found s k j q).counted in
          let apart : j ≢ s.count = λ g. omega arith in
          rw (get_or-set_other s.entries s.count j e blank apart) h
      by_place Nowhere q h = h

      by-test : (t : Bool) → eqb k e.code ≡ t
          → Held (with_new_entry s e) (if t then f (accounts k) else accounts k) (if t then At s.count else kept_at s k)
      by-test true g = let is = eqb-true k e.code g in rw (is, get_or-set_same s.entries s.count e blank room) m
      by-test false g = by_place (kept_at s k) refl (held k)

turn_more : (n : ℕ) (changes : List AcceptedChange) (c : AcceptedChange) → InTurn n changes
    → c.named ≡ n + length changes → InTurn n (changes ++ (c ∷ []))
turn_more n [] c t e = (omega arith, tt)
turn_more n (d ∷ changes) c t e = (t.0, turn_more (n + 1) changes c t.1 (omega arith))

-- a code that has a place is known
held-known : (s : Store) (a : Account) (i : ℕ) (k : Kept) → k ≡ At i → Held s a k → Matches a (entry_at s i)
held-known s a i k e h = subst (Held s a) e h

held_none : (s : Store) (a : Account) (k : Kept) → k ≡ Nowhere → Held s a k → a ≡ no_account
held_none s a k e h = subst (Held s a) e h

module _ (b : Book) (code : ℕ) (g : Keeps b) where
  matches : (i : ℕ) → kept_at b.store code ≡ At i → Matches (b.accounts code) (entry_at b.store i)
  matches i e = held-known b.store (b.accounts code) i (kept_at b.store code) e (g.held code)

  -- an entry replaced by one of the same code
  replaced-keeps : (i : ℕ) (e : Entry) (f : Account → Account) → kept_at b.store code ≡ At i
      → e.code ≡ (entry_at b.store i).code
      → Matches (f (b.accounts code)) e → InTurn 0 (f (b.accounts code)).changes
      → Keeps (record {
        store = with_entry b.store i e;
        codes = b.codes;
        accounts = λ k. if eqb k code then f (b.accounts k) else b.accounts k;
      })
  replaced-keeps i e f at same m t =
      let s = b.store in
      let counted = (kept-found s code i at).counted in
      record {
        long = length-set s.entries i e ∙ g.long;
        few = g.few;
        codes-are =
            ap (map (λ (x : Entry). x.code)) (take-set-lt s.count s.entries i e counted)
            ∙ map-set_same (λ (x : Entry). x.code) (live_entries s) i e blank (same
            ∙ ap (λ (x : Entry). x.code) (sym (get_or-take s.count s.entries i blank counted)))
            ∙ g.codes-are;
        distinct = g.distinct;
        held = replaced-held s code b.accounts f g.held i e at same m;
        turn = by_code;
      }
    where
      by-test : (k : ℕ) (u : Bool) → eqb k code ≡ u
          → InTurn 0 (if u then f (b.accounts k) else b.accounts k).changes
      by-test k true q = rw (eqb-true k code q) t
      by-test k false q = g.turn k

      by_code : (k : ℕ) → InTurn 0 (if eqb k code then f (b.accounts k) else b.accounts k).changes
      by_code k = by-test k (eqb k code) refl

  -- the first entry of a code, behind the others
  new-keeps : (first : Settings) → kept_at b.store code ≡ Nowhere → b.store.count < 32
      → Keeps (record {
        store = with_new_entry b.store (first_entry code first);
        codes = b.codes ++ (code ∷ []);
        accounts = λ k. if eqb k code then joining first (b.accounts k) else b.accounts k;
      })
  new-keeps first none few =
      let s = b.store in
      let l = g.long in
      let room : s.count < length s.entries = omega arith in
      let no = held_none s (b.accounts code) (kept_at s code) none (g.held code) in
      record {
        long = length-set s.entries s.count (first_entry code first) ∙ g.long;
        few = omega arith;
        codes-are = ap (map (λ (x : Entry). x.code)) (new-live s (first_entry code first) room)
            ∙ map_snoc (live_entries s) (first_entry code first) ∙ ap (λ (l : List ℕ). l ++ (code ∷ [])) g.codes-are;
        distinct = distinct_snoc b.codes code g.distinct
            (rw g.codes-are at (others (live_entries s) (kept-nowhere s code none)));
        held = new-held s (first_entry code first) b.accounts (joining first) g.held room none
            (rw no (first_matches code first));
        turn = by_code;
      }
    where
      map_snoc : (l : List Entry) (e : Entry) → map (λ x. x.code) (l ++ (e ∷ []))
          ≡ map (λ x. x.code) l ++ (e.code ∷ [])
      map_snoc [] e = refl
      map_snoc (x ∷ l) e = ap (λ (m : List ℕ). x.code ∷ m) (map_snoc l e)

      others : (l : List Entry) → Each (λ e. eqb e.code code ≡ false) l → Each (λ k. k ≢ code) (map (λ x. x.code) l)
      others [] e = tt
      others (x ∷ l) e = (eqb-false x.code code e.0, others l e.1)

      by-test : (k : ℕ) (u : Bool) → InTurn 0 (if u then joining first (b.accounts k) else b.accounts k).changes
      by-test k true = g.turn k
      by-test k false = g.turn k

      by_code : (k : ℕ) → InTurn 0 (if eqb k code then joining first (b.accounts k) else b.accounts k).changes
      by_code k = by-test k (eqb k code)

-- ## Each call keeps it

-- a refused call enters nothing
refused-keeps : (b : Book) (code n : ℕ) (f : Account → Account) → n ≢ accepted → Keeps b
    → Keeps (record { store = b.store; codes = b.codes; accounts = on_accepted n code f b.accounts })
refused-keeps b code n f r g =
    subst (λ (t : Bool). Keeps (record {
      store = b.store;
      codes = b.codes;
      accounts = λ k. if t && eqb k code then f (b.accounts k) else b.accounts k;
    })) (sym (ne_eqb n accepted r)) g

added-keeps : (b : Book) (code : ℕ) (first : Settings) → Keeps b → Keeps (entered b (add code first))
added-keeps b code first g =
    store-added-cases b.store code first
    (λ r. Keeps (record {
      store = r.store;
      codes = codes_joined r.refusal code b;
      accounts = on_accepted r.refusal code (joining first) b.accounts;
    }))
    (λ n r. rw (ne_eqb n accepted r) (refused-keeps b code n (joining first) r g))
    (λ none few. rw (held_none b.store (b.accounts code) (kept_at b.store code) none (g.held code))
    (new-keeps b code g first none few))
    (λ i at.
    let m = matches b code g i at in
    rw m.known_is (replaced-keeps b code g i (there (entry_at b.store i)) (joining first) at refl
    (there-matches first (b.accounts code) _ m) (g.turn code)))

removed-keeps : (b : Book) (code : ℕ) → Keeps b → Keeps (entered b (remove code))
removed-keeps b code g =
    removed-cases b.store code
    (λ r. Keeps (record {
      store = r.store;
      codes = b.codes;
      accounts = on_accepted r.refusal code leaving b.accounts;
    }))
    (λ n r. refused-keeps b code n leaving r g)
    (λ i at. replaced-keeps b code g i (gone (entry_at b.store i)) leaving at refl
    (gone-matches (b.accounts code) _ (matches b code g i at)) (g.turn code))

changed-keeps : (b : Book) (code version : ℕ) (asked : Alterations) → Keeps b
    → Keeps (entered b (change code version asked))
changed-keeps b code version asked g =
    changed-cases b.store code version asked
    (λ r. Keeps (record {
      store = r.store;
      codes = b.codes;
      accounts = on_accepted r.refusal code (changing version asked) b.accounts;
    }))
    (λ n r. refused-keeps b code n (changing version asked) r g)
    (λ i at p v.
    let m = matches b code g i at in
    replaced-keeps b code g i (altered_entry (entry_at b.store i) asked) (changing version asked) at refl
    (altered-matches version asked (b.accounts code) _ m)
    (turn_more 0 (b.accounts code).changes (record { named = version; asked = asked }) (g.turn code)
    (omega (arith, v ∙ m.version-is))))

pub call-keeps : (b : Book) (c : StoreCall) → Keeps b → Keeps (entered b c)
call-keeps b (add code first) g = added-keeps b code first g
call-keeps b (remove code) g = removed-keeps b code g
call-keeps b (read code) g = g
call-keeps b (change code version asked) g = changed-keeps b code version asked g

calls-keep : (b : Book) (h : List StoreCall) → Keeps b → Keeps (fold entered b h)
unfolding fold
calls-keep b [] g = g
calls-keep b (c ∷ h) g = calls-keep (entered b c) h (call-keeps b c g)

pub book-keeps : (h : List StoreCall) → Keeps (book h)
unfolding book kept_at first_with
book-keeps h = calls-keep _ h (record {
  long = length-replicate 32 blank;
  few = lit≤ tt;
  codes-are = refl;
  distinct = tt;
  held = λ k. refl;
  turn = λ k. tt;
})

-- ## What a read shows

pub keeps-read : (b : Book) (code : ℕ) → Keeps b → settings_read b.store code ≡ shown_of code (b.accounts code)
unfolding settings_read located
keeps-read b code g = by_code (eqb (code_refusal code) accepted)
  where
    a : Account
    a = b.accounts code

    shown : Located → Current
    shown l = record { refusal = l.refusal; settings = l.entry.settings; version = l.entry.version }

    by-presence : (t : Bool) (i : ℕ) → Matches a (entry_at b.store i)
        → shown (if t then record { refusal = accepted; place = i; entry = entry_at b.store i } else missing not_found)
        ≡ (if t then record { refusal = accepted; settings = settled a; version = length a.changes }
        else none_shown not_found)
    by-presence true i m = rw (m.settings-are, m.version-is)
    by-presence false i m = refl

    by_place : (k : Kept) → Held b.store a k
        → shown (located_where b.store k) ≡ (if a.present
        then record { refusal = accepted; settings = settled a; version = length a.changes }
        else none_shown not_found)
    by_place (At i) m = rw (← m.present-is) (by-presence (entry_at b.store i).present i m)
    by_place Nowhere none = rw none

    by_code : (t : Bool)
        → shown (if not t then missing (code_refusal code) else located_where b.store (kept_at b.store code))
        ≡ (if not t then none_shown (code_refusal code) else if a.present
        then record { refusal = accepted; settings = settled a; version = length a.changes }
        else none_shown not_found)
    by_code true = by_place (kept_at b.store code) (g.held code)
    by_code false = refl
