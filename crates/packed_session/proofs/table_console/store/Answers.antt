-- The byte is stored, and what that came to is told.
use Rattle.packed_session.proofs.table_console.store.Goals as goal

pub returns : goal.returns
returns c =
    record { answer = rw (← c.poke-refusal.ensures.answer) c.refusal_line.ensures.answer; written = rw (← c.poke-refusal.ensures.answer) c.refusal_line.ensures.written; table = c.poke-refusal.ensures.written }
