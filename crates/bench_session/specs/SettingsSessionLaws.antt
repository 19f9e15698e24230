-- 81 characters of a line tell what the bench console says to it, so that what it says does not depend on where its
-- input is cut; and what a call has said stands at the front of its buffer.
use Rattle.std.specs.Prelude.{ℕ, ◌≤◌, ◌≡◌, refl, List, length, take}
use Rattle.std.proofs.Common.{ap, ◌∙◌, arith, le-leb}
use Rattle.std.specs.Prelude.{if◌then◌else◌}
use Rattle.basic_laws.specs.LaidLaws.{laid-front}
use Rattle.text.specs.Lines.{Line, lines_of}
use Rattle.pieces.specs.Pieces.{together}
use Rattle.lines.specs.Words.{words_of}
use Rattle.bench_requests.specs.declared.Request.{Request}
use Rattle.bench_requests.specs.declared.Request.TheVariants.{Bad}
use Rattle.sessions.specs.GatheringLaws.{held_reads, held_tells}
use Rattle.sessions.specs.Session.{in_turn, fresh_run, session, cut, HeldEnough}
use Rattle.sessions.proofs.SessionLaws.{session-cuts}
use Rattle.bench.specs.declared.Bench.{Bench}
use Rattle.bench_answers.specs.Said.{Answered}
use Rattle.bench_answers.specs.Whole.{room}
use Rattle.bench_session.specs.Console.{answered, asked}
use Rattle.settings.specs.declared.Store.{Store}
use Rattle.bench_requests.specs.StoreRequests.{of_store, store_request_of}
use Rattle.bench_requests.specs.declared.settings_requests.StoreRequest.{StoreRequest}
use Rattle.bench_requests.specs.declared.settings_requests.StoreRequest.TheVariants.{Other, Add, Remove, Read, Change}
use Rattle.bench_requests.specs.declared.settings_requests.StoreRequest.TheVariants.{Write}
use Rattle.bench_session.specs.SettingsConsole.{responded, store_left, store_asked, told, leaves}
use Rattle.bench_session.specs.SettingsSession.{Both, both, bench_console}
use Rattle.bench_session.specs.declared.settings_console.Told.{Told}

-- what a line asks for that is cut at 81 characters
pub asked-same : (l : Line) → asked (cut l) ≡ asked l
asked-same l = ap (λ (q : Request). if l.fed then q else Bad) (held_tells l.chars)

pub store-asked-same : (l : Line) → store_asked (cut l) ≡ store_asked l
unfolding store_request_of
store-asked-same l = ap (λ (q : StoreRequest). if l.fed then q
    else Other) (held_reads (λ (t : List ℕ). of_store (words_of t)) Other l.chars)

responded-same : (b : Bench) (s : Store) (l : Line) (q : StoreRequest) → responded b s (cut l) q ≡ responded b s l q
unfolding responded
responded-same b s l Other = ap (answered b) (asked-same l)
responded-same b s l (Add code first) = refl
responded-same b s l (Remove code) = refl
responded-same b s l (Read code) = refl
responded-same b s l (Change code version changes) = refl
responded-same b s l (Write code) = refl

answer-same : (b : Bench) (s : Store) (l : Line)
    → responded b s (cut l) (store_asked (cut l)) ≡ responded b s l (store_asked l)
answer-same b s l = ap (responded b s (cut l)) (store-asked-same l) ∙ responded-same b s l (store_asked l)

bench-enough : HeldEnough bench_console
bench-enough = record {
  says_same = λ v l. ap (λ (a : Answered). a.text) (answer-same v.bench v.store l);
  next-same = λ v l.
      ap (λ (a : Answered). both a.bench (store_left v.store (store_asked (cut l))))
      (answer-same v.bench v.store l)
      ∙ ap (λ (q : StoreRequest). both (responded v.bench v.store l (store_asked l)).bench
      (store_left v.store q)) (store-asked-same l);
}

-- whatever the cuts, each line is answered on the bench and the store that the lines before it left
pub bench-session : (v : Both) (cs : List (List ℕ))
    → session bench_console (fresh_run v) cs ≡ in_turn bench_console v (lines_of (together cs))
bench-session = session-cuts bench_console bench-enough

-- what the call for a line leaves at the front of a buffer with room, and the bench and the store
pub told-front : (b : Bench) (s : Store) (l : Line) (out : List ℕ) → room ≤ length out → (r : Told) → r ≡ told b s l out
    → (out' : List ℕ) → out' ≡ leaves b s l out → r.said.count ≤ room
    → (take r.said.count out' ≡ bench_console.says (both b s) l)
    × (both r.said.bench r.store ≡ bench_console.next (both b s) l)
told-front b s l out enough r answer out' left few =
    let t = le-leb room (length out) enough in
    let said = rw t at answer in
    let wrote = rw t at left in
    let count = ap (λ (q : Told). q.said.count) said in (
      (laid-front out (responded b s l (store_asked l)).text out' r.said.count count wrote (omega arith)).1,
      ap (λ (q : Told). both q.said.bench q.store) said,
    )
