-- The console on a table as a console whose state is the bytes of the table and the store.
--     TableState         the bytes of a table, and a store
--     table_state t s     the two together
--     table_console       to a line it says the text of the answer, and it leads to the bytes and the store after it
--     first_state         the table of the empty bench, which is zeros, and the empty store, on which a run begins
use Rattle.std.specs.Prelude.{ℕ, List, replicate}
use Rattle.sessions.specs.Session.{Console}
use Rattle.settings.specs.Store.{empty_store}
use Rattle.settings.specs.declared.Store.{Store}
use Rattle.bench_session.specs.SettingsConsole.{store_left, store_asked}
use Rattle.packed_session.specs.TableSettings.{spoken_of}

pub record TableState : Type 0 where
  pub table : List ℕ
  pub store : Store

abbrev pub table_state : List ℕ → Store → TableState
table_state t s = record { table = t; store = s }

abbrev pub table_console : Console
table_console = record {
  State = TableState;
  says = λ v l. (spoken_of v.table v.store l (store_asked l)).text;
  next = λ v l. table_state (spoken_of v.table v.store l (store_asked l)).left
      (store_left v.store (store_asked l));
}

abbrev pub first_state : TableState
first_state = table_state (replicate 1536 0) empty_store
