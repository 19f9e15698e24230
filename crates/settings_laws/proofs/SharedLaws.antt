-- The claim on shared runs. Invariant (`Reached`): the bench is that of a history of typed calls, in which a settings
-- write
-- is the write that it makes, and what the store has for each code are bytes. An accepted settings write leaves the
-- settings in the device
-- (`written-holds`), and no call that spares the device takes them away (`call-spares`).
use Rattle.std.specs.Prelude.{ℕ, ◌≤◌, Bool, true, false, not, ◌&&◌, List, [], ◌∷◌, ◌++◌, ◌≢◌, ◌≡◌, refl, eqb, length}
use Rattle.std.proofs.Common.{ap, subst, ◌∙◌, arith, eqb-true, lit<}
use Rattle.std.proofs.lemmas.Bool.{eqb-false}
use Rattle.std.specs.Int.Bits.{bit_and}
use Rattle.std.proofs.lemmas.Nat.{and_le_r}
use Rattle.std.specs.Prelude.{if◌then◌else◌}
use Rattle.basic_laws.specs.Each.{Each}
use Rattle.basic_laws.specs.EachLaws.{each_snoc}
use Rattle.basic_laws.specs.Fold.{fold}
use Rattle.basic_laws.specs.FoldLaws.{fold-append}
use Rattle.refusals.specs.Refusals.{accepted, not_found}
use Rattle.rom.specs.Code.{code_refusal}
use Rattle.device.specs.declared.Settings.{Settings}
use Rattle.bench.specs.declared.Bench.{Bench}
use Rattle.bench.specs.Sound.{BenchSound}
use Rattle.master_rules.specs.declared.Access.{Access}
use Rattle.master_rules.specs.Access.{refused_at, write_at}
use Rattle.history_laws.proofs.Corollaries.{bench-is-sound}
use Rattle.history_laws.specs.History.{Call, write, Code64, Byte, Typed, apply, step, ledger, after}
use Rattle.access_laws.specs.Taken.{SettingBytes}
use Rattle.settings.specs.Calls.{kept_form, settings_added, settings_removed, settings_read, altered, settings_altered}
use Rattle.settings.specs.Calls.{settings_changed}
use Rattle.settings.specs.KeptLaws.{Keeps}
use Rattle.settings.proofs.KeptLaws.{call-keeps, book-keeps, keeps-read}
use Rattle.settings.specs.Runs.{StoreCall, add, remove, read, change, AcceptedChange, Account, joining, leaving}
use Rattle.settings.specs.Runs.{changing}
use Rattle.settings.specs.Runs.{Book, on_accepted, entered, book, settled, none_shown, shown_of}
use Rattle.settings.specs.Written.{settings_written}
use Rattle.settings.specs.declared.Alter.{Alter}
use Rattle.settings.specs.declared.Alter.TheVariants.{Leave, To}
use Rattle.settings.specs.declared.Alterations.{Alterations}
use Rattle.settings.specs.declared.Current.{Current}
use Rattle.settings_laws.proofs.HeldLaws.{bench-spares, written-holds}
use Rattle.settings_laws.specs.Shared.{SharedCall, on_store, on_bench, settings_write, TypedAlter, TypedStore}
use Rattle.settings_laws.specs.Shared.{TypedShared, Shared, stepped, onward, shared, Holds, SparesOnBench, Spares}
use Rattle.settings_laws.specs.Shared.{Spared, ToTheWire}

-- ## What a store has for a code are bytes

abbrev TypedAsked : Alterations → Type 0
TypedAsked asked = TypedAlter asked.high × TypedAlter asked.low × TypedAlter asked.configuration

record AccountBytes (a : Account) : Type 0 where
  pub first-bytes : SettingBytes a.first
  pub asked-bytes : Each (λ c. TypedAsked c.asked) a.changes

kept-bytes : (s : Settings) → Byte s.high → Byte s.low → SettingBytes (kept_form s)
kept-bytes s high low = let h : bit_and s.configuration 0x60 ≤ 0x60 =
    and_le_r s.configuration 0x60 in (high, low, omega arith)

altered-byte : (byte : ℕ) (x : Alter) → Byte byte → TypedAlter x → Byte (altered byte x)
altered-byte byte Leave b t = b
altered-byte byte (To given) b t = t

settled-bytes : (s : Settings) (changes : List AcceptedChange) → SettingBytes s
    → Each (λ c. TypedAsked c.asked) changes
    → SettingBytes (fold (λ (x : Settings) (c : AcceptedChange). settings_altered x c.asked) s changes)
unfolding fold
settled-bytes s [] b t = b
settled-bytes s (c ∷ changes) b t =
    settled-bytes (settings_altered s c.asked) changes (altered-bytes s c.asked b t.0) t.1
  where
    altered-bytes : (x : Settings) (asked : Alterations) → SettingBytes x → TypedAsked asked
        → SettingBytes (settings_altered x asked)
    altered-bytes x asked y u =
        kept-bytes (record {
          high = altered x.high asked.high;
          low =
              altered x.low asked.low;
          configuration = altered x.configuration asked.configuration;
        })
        (altered-byte x.high asked.high y.0 u.0) (altered-byte x.low asked.low y.1 u.1)

accepted-bytes : (refusal code : ℕ) (f : Account → Account) (accounts : ℕ → Account) (k : ℕ) → AccountBytes (accounts k)
    → AccountBytes (f (accounts k))
    → AccountBytes (on_accepted refusal code f accounts k)
accepted-bytes refusal code f accounts k g h = by-test (eqb refusal accepted && eqb k code)
  where
    by-test : (t : Bool) → AccountBytes (if t then f (accounts k) else accounts k)
    by-test true = h
    by-test false = g

joining-bytes : (first : Settings) (a : Account) → Byte first.high → Byte first.low → AccountBytes a
    → AccountBytes (joining first a)
joining-bytes first a high low g = record { first-bytes = by-test a.known; asked-bytes = g.asked-bytes }
  where
    by-test : (t : Bool) → SettingBytes (if t then a.first else kept_form first)
    by-test true = g.first-bytes
    by-test false = kept-bytes first high low

leaving-bytes : (a : Account) → AccountBytes a → AccountBytes (leaving a)
leaving-bytes a g = record { first-bytes = g.first-bytes; asked-bytes = g.asked-bytes }

changing-bytes : (named : ℕ) (asked : Alterations) (a : Account) → TypedAsked asked → AccountBytes a
    → AccountBytes (changing named asked a)
changing-bytes named asked a t g = record {
  first-bytes = g.first-bytes;
  asked-bytes =
      each_snoc (λ (c : AcceptedChange). TypedAsked c.asked) a.changes (record { named = named; asked = asked })
      g.asked-bytes t;
}

store_bytes : (b : Book) (c : StoreCall) → TypedStore c → ((k : ℕ) → AccountBytes (b.accounts k)) → (k : ℕ)
    → AccountBytes ((entered b c).accounts k)
store_bytes b (add code first) t g k =
    accepted-bytes (settings_added b.store code first).refusal code (joining first) b.accounts k (g k)
    (joining-bytes first (b.accounts k) t.1 t.2 (g k))
store_bytes b (remove code) t g k =
    accepted-bytes (settings_removed b.store code).refusal code leaving b.accounts k (g k)
    (leaving-bytes (b.accounts k) (g k))
store_bytes b (read code) t g k = g k
store_bytes b (change code version asked) t g k =
    accepted-bytes (settings_changed b.store code version asked).refusal code (changing version asked)
    b.accounts k (g k)
    (changing-bytes version asked (b.accounts k) (t.1, t.2, t.3) (g k))

-- what a read shows are bytes, refused or not
shown-bytes : (code : ℕ) (a : Account) → AccountBytes a → SettingBytes (shown_of code a).settings
shown-bytes code a g = by_tests (eqb (code_refusal code) accepted) a.present
  where
    by_tests : (t u : Bool)
        → SettingBytes (if not t then none_shown (code_refusal code)
        else if u then record { refusal = accepted; settings = settled a; version = length a.changes }
        else none_shown not_found).settings
    by_tests true true = settled-bytes a.first a.changes g.first-bytes g.asked-bytes
    by_tests true false = (lit< tt, lit< tt, lit< tt)
    by_tests false u = (lit< tt, lit< tt, lit< tt)

-- ## The invariant

record Reached (st : Shared) : Type 0 where
  pub calls : List Call
  pub typed : Each Typed calls
  pub bench-is : after calls ≡ st.bench
  pub keeps : Keeps st.book
  pub bytes : (k : ℕ) → AccountBytes (st.book.accounts k)

after-snoc : (h : List Call) (c : Call) → after (h ++ (c ∷ [])) ≡ apply (after h) c
unfolding ledger fold
after-snoc h c = ap (λ l. l.bench) (fold-append step _ h (c ∷ []))

-- one more call on the bench
bench-reached : (st : Shared) (c : Call) → Typed c → Reached st
    → Reached (record { book = st.book; bench = apply st.bench c })
bench-reached st c t r = record {
  calls = r.calls ++ (c ∷ []);
  typed = each_snoc Typed r.calls c r.typed t;
  bench-is = after-snoc r.calls c ∙ ap (λ (b : Bench). apply b c) r.bench-is;
  keeps = r.keeps;
  bytes = r.bytes;
}

-- what the store has for a code
abbrev had : Shared → ℕ → Current
had st code = settings_read st.book.store code

had-bytes : (st : Shared) (code : ℕ) → Reached st → SettingBytes (had st code).settings
had-bytes st code r =
    rw (keeps-read st.book code r.keeps) (shown-bytes code (st.book.accounts code) (r.bytes code))

-- a settings write is a write at the code, or makes no call at all
write-cases : (st : Shared) (code : ℕ) (P : Access → Type 0)
    → ((had st code).refusal ≢ accepted → P (refused_at (had st code).refusal st.bench))
    → ((had st code).refusal ≡ accepted → P (write_at st.bench code (had st code).settings))
    → P (settings_written st.book.store st.bench code)
unfolding settings_written
write-cases st code P none some = by-test (eqb (had st code).refusal accepted) refl
  where
    by-test : (t : Bool) → eqb (had st code).refusal accepted ≡ t
        → P (if not t then refused_at (had st code).refusal st.bench
        else write_at st.bench code (had st code).settings)
    by-test true e = some (eqb-true _ accepted e)
    by-test false e = none (eqb-false _ accepted e)

write-typed : (st : Shared) (code : ℕ) → Code64 code → Reached st → Typed (write code (had st code).settings)
write-typed st code fits r = let b = had-bytes st code r in (fits, b.0, b.1, b.2)

step-reached : (st : Shared) (c : SharedCall) → TypedShared c → Reached st → Reached (stepped st c)
step-reached st (on_store c) t r = record {
  calls = r.calls;
  typed = r.typed;
  bench-is = r.bench-is;
  keeps = call-keeps st.book c r.keeps;
  bytes = store_bytes st.book c t r.bytes;
}
step-reached st (on_bench c) t r = bench-reached st c t r
step-reached st (settings_write code) t r =
    write-cases st code (λ a. Reached (record { book = st.book; bench = a.bench })) (λ n. r)
    (λ e. bench-reached st (write code (had st code).settings) (write-typed st code t r) r)

onward-reached : (st : Shared) (h : List SharedCall) → Each TypedShared h → Reached st → Reached (onward st h)
unfolding onward fold
onward-reached st [] t r = r
onward-reached st (c ∷ h) t r = onward-reached (stepped st c) h t.1 (step-reached st c t.0 r)

-- ## The device

-- the bench after one more call is sound
next-sound : (st : Shared) (c : Call) (r : Reached st) → Typed c → BenchSound (apply (after r.calls) c)
next-sound st c r t =
    rw (after-snoc r.calls c) at (bench-is-sound (r.calls ++ (c ∷ [])) (each_snoc Typed r.calls c r.typed t))

call-spares : (st : Shared) (c : Call) (code : ℕ) (s : Settings) → Reached st → Typed c
    → SparesOnBench code st.bench c → Holds st.bench code s → Holds (apply st.bench c) code s
call-spares st c code s r t =
    subst (λ (b : Bench). SparesOnBench code b c → Holds b code s → Holds (apply b c) code s) r.bench-is
    (λ spared holds.
    bench-spares r.calls r.typed code s holds c t spared (next-sound st c r t))

step-spares : (st : Shared) (c : SharedCall) (code : ℕ) (s : Settings) → Reached st → TypedShared c → Spares code st c
    → Holds st.bench code s → Holds (stepped st c).bench code s
step-spares st (on_store c) code s r t spared holds = holds
step-spares st (on_bench c) code s r t spared holds = call-spares st c code s r t spared holds
step-spares st (settings_write k) code s r t spared holds =
    write-cases st k (λ a. (k ≡ code → a.refusal ≢ accepted) → Holds a.bench code s) (λ n u. holds) (λ e u.
    call-spares st (write k (had st k).settings) code s r (write-typed st k t r) u holds) spared

onward-spares : (st : Shared) (h : List SharedCall) (code : ℕ) (s : Settings) → Reached st → Each TypedShared h
    → Spared code st h → Holds st.bench code s → Holds (onward st h).bench code s
unfolding onward fold
onward-spares st [] code s r t spared holds = holds
onward-spares st (c ∷ h) code s r t spared holds =
    onward-spares (stepped st c) h code s (step-reached st c t.0 r) t.1 spared.1
    (step-spares st c code s r t.0 spared.0 holds)

-- an accepted settings write
write-holds : (st : Shared) (code : ℕ) → Reached st → Code64 code
    → (settings_written st.book.store st.bench code).refusal ≡ accepted
    → Holds (settings_written st.book.store st.bench code).bench code (had st code).settings
write-holds st code r fits =
    write-cases st code (λ a. a.refusal ≡ accepted → Holds a.bench code s) (λ n e. absurd (n e)) (λ e.
    subst (λ (b : Bench). (write_at b code s).refusal ≡ accepted → Holds (write_at b code s).bench code s) r.bench-is
    (λ done.
    written-holds r.calls r.typed code s (write-typed st code fits r) done
    (next-sound st (write code s) r (write-typed st code fits r))))
  where
    s : Settings
    s = (had st code).settings

-- ## The claim

start-reached : Reached (shared [])
unfolding onward fold book ledger
start-reached = record {
  calls = [];
  typed = tt;
  bench-is = refl;
  keeps = book-keeps [];
  bytes = λ k. record { first-bytes = (lit< tt, lit< tt, lit< tt); asked-bytes = tt };
}

shared-reached : (h : List SharedCall) → Each TypedShared h → Reached (shared h)
unfolding onward fold
shared-reached h t = onward-reached _ h t start-reached

pub to-the-wire : ToTheWire
to-the-wire h more code t fits u done spared =
    let r = shared-reached h t in
    onward-spares (stepped (shared h) (settings_write code)) more code (had (shared h) code).settings
    (step-reached (shared h) (settings_write code) fits r) u spared
    (write-holds (shared h) code r fits done)
