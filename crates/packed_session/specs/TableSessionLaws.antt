-- 81 characters of a line tell what the console on a table says to it, so that what it says does not depend on where
-- its input is cut; and what a call has said stands at the front of its buffer.
use Rattle.std.specs.Prelude.{ℕ, ◌+◌, ◌≤◌, ◌≡◌, refl, List, length, take, drop}
use Rattle.std.proofs.Common.{sym, ap, ◌∙◌, arith, le-leb, length-append, length-drop}
use Rattle.std.specs.Prelude.{if◌then◌else◌}
use Rattle.basic_laws.specs.Laid.{laid}
use Rattle.basic_laws.specs.LaidLaws.{laid-front}
use Rattle.text.specs.Lines.{Line, lines_of}
use Rattle.pieces.specs.Pieces.{together}
use Rattle.lines.specs.Words.{words_of}
use Rattle.bench_requests.specs.declared.Request.{Request}
use Rattle.sessions.specs.GatheringLaws.{held_reads}
use Rattle.sessions.specs.Session.{in_turn, fresh_run, session, cut, HeldEnough}
use Rattle.sessions.proofs.SessionLaws.{session-cuts}
use Rattle.bench_answers.specs.Whole.{room}
use Rattle.bench_session.specs.Console.{answered}
use Rattle.settings.specs.declared.Store.{Store}
use Rattle.bench_requests.specs.declared.settings_requests.StoreRequest.{StoreRequest}
use Rattle.bench_requests.specs.declared.settings_requests.StoreRequest.TheVariants.{Other as NoStore, Add, Remove}
use Rattle.bench_requests.specs.declared.settings_requests.StoreRequest.TheVariants.{Read, Change, Write}
use Rattle.bench_session.specs.SettingsConsole.{store_left, store_asked}
use Rattle.bench_session.specs.SettingsSessionLaws.{asked-same, store-asked-same}
use Rattle.packed_session.specs.TableRequests.{of_table, table_request_of}
use Rattle.packed_session.specs.declared.table_requests.TableRequest.{TableRequest}
use Rattle.packed_session.specs.declared.table_requests.TableRequest.TheVariants.{Poke, Dump, Other}
use Rattle.packed_session.specs.TableAnswers.{refused_on_table}
use Rattle.packed_session.specs.TableConsole.{Spoken, on_table, spoken_to, table_asked, wrote, keeps}
use Rattle.packed_session.specs.TableSettings.{spoken_of, told_of}
use Rattle.packed_session.specs.TableSession.{TableState, table_state, table_console}
use Rattle.packed_session.specs.declared.table_settings.TableTold.{TableTold}

-- what a line asks for that is cut at 81 characters
table-asked-same : (l : Line) → table_asked (cut l) ≡ table_asked l
unfolding table_request_of
table-asked-same l = ap (λ (q : TableRequest). if l.fed then q
    else Other) (held_reads (λ (t : List ℕ). of_table (words_of t)) Other l.chars)

spoken-to-same : (q : TableRequest) (t : List ℕ) (l : Line) → spoken_to q t (cut l) ≡ spoken_to q t l
unfolding spoken_to
spoken-to-same (Poke place byte) t l = refl
spoken-to-same Dump t l = refl
spoken-to-same Other t l = ap (λ (q : Request). on_table (λ b. answered b q) (λ n. refused_on_table n q) t) (asked-same l)

spoken-same : (t : List ℕ) (s : Store) (l : Line) (q : StoreRequest) → spoken_of t s (cut l) q ≡ spoken_of t s l q
unfolding spoken_of
spoken-same t s l NoStore = ap (λ (q : TableRequest). spoken_to q t (cut l)) (table-asked-same l)
    ∙ spoken-to-same (table_asked l) t l
spoken-same t s l (Add code first) = refl
spoken-same t s l (Remove code) = refl
spoken-same t s l (Read code) = refl
spoken-same t s l (Change code version changes) = refl
spoken-same t s l (Write code) = refl

answer-same : (t : List ℕ) (s : Store) (l : Line)
    → spoken_of t s (cut l) (store_asked (cut l)) ≡ spoken_of t s l (store_asked l)
answer-same t s l = ap (spoken_of t s (cut l)) (store-asked-same l) ∙ spoken-same t s l (store_asked l)

table-enough : HeldEnough table_console
table-enough = record {
  says_same = λ v l. ap (λ (a : Spoken). a.text) (answer-same v.table v.store l);
  next-same = λ v l.
      ap (λ (a : Spoken). table_state a.left (store_left v.store (store_asked (cut l))))
      (answer-same v.table v.store l)
      ∙ ap (λ (q : StoreRequest). table_state (spoken_of v.table v.store l (store_asked l)).left
      (store_left v.store q)) (store-asked-same l);
}

-- whatever the cuts, each line is answered on the table and the store that the lines before it left
pub table-session : (v : TableState) (cs : List (List ℕ))
    → session table_console (fresh_run v) cs ≡ in_turn table_console v (lines_of (together cs))
table-session = session-cuts table_console table-enough

-- what leaves a buffer its length was within it
laid-within : (d x : List ℕ) → length (laid d 0 x) ≡ length d → length x ≤ length d
unfolding laid
laid-within d x same =
    let parts = length-append x (drop (0 + length x) d) in
    let behind = length-drop (0 + length x) d in
    omega arith

-- what the call for a line leaves at the front of a buffer with room, and the bytes and the store
module _ (t : List ℕ) (s : Store) (l : Line) (out : List ℕ) (enough : room ≤ length out) (r : TableTold) (answer : r
    ≡ told_of t s l out)
    (out' : List ℕ) (left : out' ≡ wrote (spoken_of t s l (store_asked l)) out) (same : length out' ≡ length out)
    (t' : List ℕ) (table : t' ≡ keeps t (spoken_of t s l (store_asked l)) out) where
  pub table-front : (r.written.next ≤ length out')
      × (take r.written.next out' ≡ table_console.says (table_state t s) l)
      × (table_state t' r.store ≡ table_console.next (table_state t s) l)
  table-front =
      let has = le-leb room (length out) enough in
      let told = rw has at answer in
      let wrote-is = rw has at left in
      let text = (spoken_of t s l (store_asked l)).text in
      let within = laid-within out text (ap length (sym wrote-is) ∙ same) in
      let front = laid-front out text out' r.written.next (ap (λ (q : TableTold). q.written.next) told) wrote-is
      within in
      let leads : table_state t' r.store ≡ table_state (spoken_of t s l (store_asked l)).left r.store =
      ap (λ (x : List ℕ). table_state x r.store) (rw has at table) in (
        front.0,
        front.1,
        leads ∙ ap (λ (q : TableTold). table_state (spoken_of t s l (store_asked l)).left
            q.store) told,
      )
