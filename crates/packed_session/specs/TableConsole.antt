-- The console on a table: what it says to a line, and the bytes that the line leaves.
--     table_asked l           what a line asks of the bytes; one that has no feed asks for nothing there
--     on_table f refusal t    what f answers on the bench that t holds, with the bench that it leaves packed again; else
--                            the refusal of the bytes, 1 or 22, in a form of its own, and the bytes as they were
--     line_on_table t l        the same of a line of the bench, with the refusal in the line's own form
--     spoken t l             any line
--     table_told s out        what the call for it answers: how many bytes of text there are, or refusal 1 where less
--                            than the room is lent
--     wrote s out            the bytes lent for the text after it: the text from byte 0 on, or as they were
--     keeps t s out          the table after it
--     AfterLine t l t'       the claim of a line of the bench: where t held a bench, t' holds the one that the line
--                            leaves of it; `TableAfter` of any line
use Rattle.std.specs.Prelude.{ℕ, List, ◌≡◌, leb, length, set}
use Rattle.std.specs.Prelude.{if◌then◌else◌}
use Rattle.basic_laws.specs.Laid.{laid}
use Rattle.refusals.specs.Refusals.{accepted, no_room}
use Rattle.text.specs.Lines.{Line}
use Rattle.text.specs.declared.laying.Written.{Written}
use Rattle.bench.specs.declared.Bench.{Bench}
use Rattle.bench_answers.specs.Answers.{refusal_line}
use Rattle.bench_answers.specs.Said.{Answered}
use Rattle.bench_answers.specs.Whole.{room}
use Rattle.bench_session.specs.Console.{answered, asked}
use Rattle.packed_bench.specs.Through.{answered_on, left_by, After as AfterCall}
use Rattle.packed_session.specs.TableRequests.{table_request_of}
use Rattle.packed_session.specs.declared.table_requests.TableRequest.{TableRequest}
use Rattle.packed_session.specs.declared.table_requests.TableRequest.TheVariants.{Poke, Dump, Other}
use Rattle.packed_session.specs.TableAnswers.{refused_on_table, dump_text, poke_refusal}

pub record Spoken : Type 0 where
  pub text : List ℕ
  pub left : List ℕ

abbrev pub speaks : List ℕ → List ℕ → Spoken
speaks text left = record { text = text; left = left }

abbrev pub table_asked : Line → TableRequest
table_asked l = if l.fed then table_request_of l.chars else Other

unfoldable pub on_table : (Bench → Answered) → (ℕ → List ℕ) → List ℕ → Spoken
on_table f refusal t = speaks (answered_on refusal (λ b. (f b).text) t) (left_by (λ b. (f b).bench) t)

abbrev pub line_on_table : List ℕ → Line → Spoken
line_on_table t l = on_table (λ b. answered b (asked l)) (λ n. refused_on_table n (asked l)) t

unfoldable pub spoken_to : TableRequest → List ℕ → Line → Spoken
spoken_to (Poke place byte) t l = speaks (refusal_line (poke_refusal t place)) (set t place byte)
spoken_to Dump t l = speaks (dump_text t) t
spoken_to Other t l = line_on_table t l

abbrev pub spoken : List ℕ → Line → Spoken
spoken t l = spoken_to (table_asked l) t l

-- ## What the call answers and leaves

abbrev pub telling : List ℕ → Written
telling text = record { refusal = accepted; next = length text }

abbrev pub table_told : Spoken → List ℕ → Written
table_told s out = if leb room (length out) then telling s.text else record { refusal = no_room; next = 0 }

abbrev pub wrote : Spoken → List ℕ → List ℕ
wrote s out = if leb room (length out) then laid out 0 s.text else out

abbrev pub keeps : List ℕ → Spoken → List ℕ → List ℕ
keeps t s out = if leb room (length out) then s.left else t

-- what a part of the call has come to, with room for the text
pub record Tells (s : Spoken) (out out' t' : List ℕ) (r : Written) : Type 0 where
  pub told_is : r ≡ telling s.text
  pub wrote-is : out' ≡ laid out 0 s.text
  pub left_is : t' ≡ s.left

-- ## The bench after a line

abbrev pub AfterLine : List ℕ → Line → List ℕ → Type 0
AfterLine t l t' = AfterCall (λ b. (answered b (asked l)).bench) t t'

-- of a line of the bench
abbrev pub TableAfter : TableRequest → List ℕ → Line → List ℕ → Type 0
TableAfter (Poke place byte) t l t' = Unit
TableAfter Dump t l t' = Unit
TableAfter Other t l t' = AfterLine t l t'
