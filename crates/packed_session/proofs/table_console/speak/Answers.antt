-- Each request by its own call.
use Rattle.packed_session.specs.TableConsole.{spoken_to}
use Rattle.packed_session.specs.TellsLaws.{line-tells, dump-tells}
use Rattle.packed_session.proofs.table_console.speak.Goals as goal

pub returns-in-Poke : goal.returns-in-Poke
unfolding spoken_to
returns-in-Poke c =
    rw c.in-Poke.is (
      line-tells _ c.args.out.now c.requires _ _ _ c.store.ensures.answer
          c.store.ensures.written c.store.ensures.table,
      tt,
    )

pub returns-in-Dump : goal.returns-in-Dump
unfolding spoken_to
returns-in-Dump c =
    rw c.in-Dump.is (
      dump-tells c.args.t.now c.args.out.now c.requires _ _ c.dump.ensures.answer
          c.dump.ensures.written,
      tt,
    )

pub returns-in-Other : goal.returns-in-Other
unfolding spoken_to
returns-in-Other c =
    let done = c.on_bench.ensures in
    rw c.in-Other.is (
      record { told_is = done.answer; wrote-is = done.written; left_is = done.table },
      done.after,
    )
