-- The loop's invariant: the entries that are left stand behind those so far; what is lent, with the lines that are left
-- laid from `to` on, is what is promised.
use Rattle.std.proofs.Common.{◌≡◌, ◌*◌, ◌≤◌, ◌-◌, length, take, drop}
use Rattle.std.specs.Slice.Iter.{chunks_exact_rest, chunks_exact_size}
use Rattle.basic_laws.specs.Laid.{laid}
use Rattle.packed_session.specs.TableAnswers.{table_text}
use Rattle.packed_session.proofs.table_answers.put_entries.Given as goal

abbrev pub invariant-loop-entry : goal.invariant-loop-entry
invariant-loop-entry l =
    (length l.yielded ≤ 32)
    × (chunks_exact_size l.entry-iterator ≡ 48)
    × (chunks_exact_rest l.entry-iterator ≡ drop (48 * length l.yielded) (take 1536 l.t))
    × (l.to ≡ 97 * length l.yielded)
    × (laid l.out (97 * length l.yielded) (table_text (32 - length l.yielded) (drop (48 * length l.yielded) l.t))
    ≡ laid l.initial.out 0 (table_text 32 l.t))
