-- Settings of a store written to a device (document 02, E6): 5, 7 or 12 as a read of the store gives them; else a write
-- at the code, with its own refusals.
use Rattle.std.specs.Prelude.{ℕ, not, eqb}
use Rattle.std.specs.Prelude.{if◌then◌else◌}
use Rattle.refusals.specs.Refusals.{accepted}
use Rattle.bench.specs.declared.Bench.{Bench}
use Rattle.master_rules.specs.Access.{refused_at, write_at}
use Rattle.master_rules.specs.declared.Access.{Access}
use Rattle.settings.specs.Calls.{settings_read}
use Rattle.settings.specs.declared.Store.{Store}

unfoldable pub settings_written : Store → Bench → ℕ → Access
settings_written s b code =
    let current = settings_read s code in
    if not (eqb current.refusal accepted) then refused_at current.refusal b else write_at b code current.settings
