-- Every run of calls on a store, by any callers in any order, refused calls included, and an account of each code that
-- is made of the accepted ones alone (document 02, E6).
--     StoreCall             one call, with its arguments
--     book h                the store after the calls h from the empty one, the codes that were first added, in order,
--                           and the account of each code
--     after_calls h          that store
--     settled a             the first settings of an account under its changes, in turn
--     shown_of code a        what a read of the code shows, by its account
--     adding_refusal, change_refusal
--                           what an adding and a change are refused with, in order; a removal is refused as a read is
--     written_of code a b    a write of the settings to the bench b
--     InTurn n changes      the changes named n, n + 1 and so on
--     RunsRight             after every run each call is answered by the account of its code, each accepted change
--                           named how many there were before it and answers the version that a read then shows, and a
--                           code has one place for ever
--     SameVersion           equal versions of a code mean equal settings
--     NothingUndone         an accepted change alters just what its caller had read
--     StaleRefused          a version that an accepted change named is refused with 18 ever after
--     Neighbours            what an accepted change leaves is as its caller had read it, and what it sets is as asked,
--                           of a configuration bits 6 and 5
use Rattle.std.specs.Prelude.{ℕ, ◌+◌, ◌≤◌, Bool, true, false, not, ◌&&◌, ◌||◌, List, [], ◌∷◌, ◌++◌, ◌≡◌, eqb, ltb, length}
use Rattle.std.specs.Int.Bits.{bit_and}
use Rattle.std.specs.Prelude.{if◌then◌else◌}
use Rattle.basic_laws.specs.Each.{Distinct}
use Rattle.basic_laws.specs.Fold.{fold}
use Rattle.refusals.specs.Refusals.{accepted, duplicate, bench_full, not_found, stale_version, versions_spent}
use Rattle.rom.specs.Code.{code_refusal}
use Rattle.device.specs.declared.Settings.{Settings}
use Rattle.bench.specs.declared.Bench.{Bench}
use Rattle.master_rules.specs.declared.Access.{Access}
use Rattle.master_rules.specs.Access.{refused_at, write_at}
use Rattle.settings.specs.Store.{empty_store}
use Rattle.settings.specs.Calls.{kept_form, settings_added, settings_removed, settings_read, settings_altered}
use Rattle.settings.specs.Calls.{settings_changed}
use Rattle.settings.specs.Written.{settings_written}
use Rattle.settings.specs.declared.Alter.{Alter}
use Rattle.settings.specs.declared.Alter.TheVariants.{Leave, To}
use Rattle.settings.specs.declared.Alterations.{Alterations}
use Rattle.settings.specs.declared.Current.{Current}
use Rattle.settings.specs.declared.Store.{Store}

pub data StoreCall : Type 0 where
  add : ℕ → Settings → StoreCall
  remove : ℕ → StoreCall
  read : ℕ → StoreCall
  change : ℕ → ℕ → Alterations → StoreCall

-- ## Accounts

-- the version that an accepted change named, and what it asked
pub record AcceptedChange : Type 0 where
  pub named : ℕ
  pub asked : Alterations

pub record Account : Type 0 where
  -- whether the code was ever added, and whether it is there
  pub known : Bool
  pub present : Bool
  pub first : Settings
  pub changes : List AcceptedChange

abbrev pub no_account : Account
no_account =
    record { known = false; present = false; first = record { high = 0; low = 0; configuration = 0 }; changes = [] }

-- an accepted adding: the settings given count only the first time
abbrev pub joining : Settings → Account → Account
joining first a =
    record { known = true; present = true; first = if a.known then a.first else kept_form first; changes = a.changes }

abbrev pub leaving : Account → Account
leaving a = record { known = a.known; present = false; first = a.first; changes = a.changes }

abbrev pub changing : ℕ → Alterations → Account → Account
changing named asked a =
    record {
      known = a.known;
      present = a.present;
      first = a.first;
      changes =
          a.changes ++ (record { named = named; asked = asked } ∷ []);
    }

-- ## The book

pub record Book : Type 0 where
  pub store : Store
  pub codes : List ℕ
  pub accounts : ℕ → Account

-- the account of the call's code goes on, if the call was accepted
abbrev pub on_accepted : ℕ → ℕ → (Account → Account) → (ℕ → Account) → ℕ → Account
on_accepted refusal code f accounts k = if eqb refusal accepted && eqb k code then f (accounts k) else accounts k

abbrev pub codes_joined : ℕ → ℕ → Book → List ℕ
codes_joined refusal code b =
    if eqb refusal accepted && not (b.accounts code).known then b.codes ++ (code ∷ []) else b.codes

abbrev pub entered : Book → StoreCall → Book
entered b (add code first) =
    let r = settings_added b.store code first in
    record {
      store = r.store;
      codes = codes_joined r.refusal code b;
      accounts =
          on_accepted r.refusal code (joining first) b.accounts;
    }
entered b (remove code) =
    let r = settings_removed b.store code in
    record { store = r.store; codes = b.codes; accounts = on_accepted r.refusal code leaving b.accounts }
entered b (read code) = b
entered b (change code version asked) =
    let r = settings_changed b.store code version asked in
    record {
      store = r.store;
      codes = b.codes;
      accounts =
          on_accepted r.refusal code (changing version asked) b.accounts;
    }

unfoldable pub book : List StoreCall → Book
book h = fold entered (record { store = empty_store; codes = []; accounts = λ code. no_account }) h

abbrev pub after_calls : List StoreCall → Store
after_calls h = (book h).store

-- ## What an account comes to

abbrev pub settled : Account → Settings
settled a = fold (λ s c. settings_altered s c.asked) a.first a.changes

abbrev pub none_shown : ℕ → Current
none_shown n = record { refusal = n; settings = record { high = 0; low = 0; configuration = 0 }; version = 0 }

abbrev pub shown_of : ℕ → Account → Current
shown_of code a =
    if not (eqb (code_refusal code) accepted) then none_shown (code_refusal code)
    else if a.present then record { refusal = accepted; settings = settled a; version = length a.changes }
    else none_shown not_found

-- how many codes a store takes, and how many changes of one code
abbrev pub most_codes : ℕ
most_codes = 32

abbrev pub most_changes : ℕ
most_changes = 65535

-- 5 or 7, then 8, then 9 where it would be one code too many
abbrev pub adding_refusal : ℕ → Account → ℕ → ℕ
adding_refusal code a ever =
    if not (eqb (code_refusal code) accepted) then code_refusal code
    else if a.present then duplicate
    else if a.known || ltb ever most_codes then accepted
    else bench_full

-- 5, 7 or 12, then 18, then 19
abbrev pub change_refusal : ℕ → Account → ℕ → ℕ
change_refusal code a named =
    let shown = shown_of code a in
    if not (eqb shown.refusal accepted) then shown.refusal
    else if not (eqb named (length a.changes)) then stale_version
    else if eqb (length a.changes) most_changes then versions_spent
    else accepted

abbrev pub written_of : ℕ → Account → Bench → Access
written_of code a b =
    let shown = shown_of code a in
    if not (eqb shown.refusal accepted) then refused_at shown.refusal b else write_at b code shown.settings

abbrev pub InTurn : ℕ → List AcceptedChange → Type 0
InTurn n [] = Unit
InTurn n (c ∷ changes) = (c.named ≡ n) × InTurn (n + 1) changes

-- ## The claims

pub record Right (b : Book) : Type 0 where
  pub read_is : (code : ℕ) → settings_read b.store code ≡ shown_of code (b.accounts code)
  pub add_is : (code : ℕ) (first : Settings)
      → (settings_added b.store code first).refusal ≡ adding_refusal code (b.accounts code) (length b.codes)
  pub remove-is : (code : ℕ) → (settings_removed b.store code).refusal ≡ (shown_of code (b.accounts code)).refusal
  pub change-is : (code named : ℕ) (asked : Alterations)
      → (settings_changed b.store code named asked).refusal ≡ change_refusal code (b.accounts code) named
  pub version-is : (code named : ℕ) (asked : Alterations)
      → let done = settings_changed b.store code named asked in
      done.refusal ≡ accepted → (settings_read done.store code).version ≡ done.version
  pub write-is : (code : ℕ) (wire : Bench)
      → settings_written b.store wire code ≡ written_of code (b.accounts code) wire
  pub in-turn : (code : ℕ) → InTurn 0 (b.accounts code).changes
  pub places-are : b.store.count ≡ length b.codes
  pub places-few : length b.codes ≤ 32
  pub codes-distinct : Distinct b.codes

abbrev pub RunsRight : Type 0
RunsRight = (h : List StoreCall) → Right (book h)

-- however many calls came between, and whoever made them
abbrev pub SameVersion : Type 0
SameVersion = (h more : List StoreCall) (code : ℕ)
    → (settings_read (after_calls h) code).refusal ≡ accepted
    → (settings_read (after_calls (h ++ more)) code).refusal ≡ accepted
    → (settings_read (after_calls (h ++ more)) code).version ≡ (settings_read (after_calls h) code).version
    → settings_read (after_calls (h ++ more)) code ≡ settings_read (after_calls h) code

abbrev pub NothingUndone : Type 0
NothingUndone = (h more : List StoreCall) (code : ℕ) (asked : Alterations)
    → (settings_read (after_calls h) code).refusal ≡ accepted
    → let seen = settings_read (after_calls h) code in
    let done = settings_changed (after_calls (h ++ more)) code seen.version asked in
    done.refusal ≡ accepted
    → settings_read done.store code
    ≡ record { refusal = accepted; settings = settings_altered seen.settings asked; version = seen.version + 1 }

-- whatever comes between, as long as the code is there
abbrev pub StaleRefused : Type 0
StaleRefused = (h more : List StoreCall) (code named : ℕ) (asked late : Alterations)
    → (settings_changed (after_calls h) code named asked).refusal ≡ accepted
    → let now = after_calls (h ++ (change code named asked ∷ more)) in
    (settings_read now code).refusal ≡ accepted → (settings_changed now code named late).refusal ≡ stale_version

-- one setting under a change: left, or set to a byte, of which so much is kept
abbrev pub Becomes : Alter → ℕ → (ℕ → ℕ) → ℕ → Type 0
Becomes Leave seen kept now = now ≡ seen
Becomes (To byte) seen kept now = now ≡ kept byte

abbrev pub Neighbours : Type 0
Neighbours = (h more : List StoreCall) (code : ℕ) (asked : Alterations)
    → (settings_read (after_calls h) code).refusal ≡ accepted
    → let seen = settings_read (after_calls h) code in
    let done = settings_changed (after_calls (h ++ more)) code seen.version asked in
    done.refusal ≡ accepted
    → let now = settings_read done.store code in
    Becomes asked.high seen.settings.high (λ byte. byte) now.settings.high
    × Becomes asked.low seen.settings.low (λ byte. byte) now.settings.low
    × Becomes asked.configuration seen.settings.configuration (λ byte. bit_and byte 0x60)
    now.settings.configuration
