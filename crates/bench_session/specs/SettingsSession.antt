-- The bench console as a console whose state is the bench and the store.
--     Both               a bench and a store
--     both b s           the two together
--     bench_console       to a line it says the text of the answer, and it leads to the bench and the store after it
--     nothing_yet         the empty bench and the empty store, on which a run begins
use Rattle.sessions.specs.Session.{Console}
use Rattle.bench.specs.Bench.{empty_bench}
use Rattle.bench.specs.declared.Bench.{Bench}
use Rattle.settings.specs.Store.{empty_store}
use Rattle.settings.specs.declared.Store.{Store}
use Rattle.bench_session.specs.SettingsConsole.{responded, store_left, store_asked}

pub record Both : Type 0 where
  pub bench : Bench
  pub store : Store

abbrev pub both : Bench → Store → Both
both b s = record { bench = b; store = s }

abbrev pub bench_console : Console
bench_console = record {
  State = Both;
  says = λ v l. (responded v.bench v.store l (store_asked l)).text;
  next = λ v l. both (responded v.bench v.store l (store_asked l)).bench (store_left v.store (store_asked l));
}

abbrev pub nothing_yet : Both
nothing_yet = both empty_bench empty_store
