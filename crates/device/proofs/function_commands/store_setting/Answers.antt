-- No more bytes than the family has settings (`last`, of its `row`); a byte within them is stored in the scratchpad
-- (`pad`), and the next is awaited or all are there.
use Rattle.device.specs.Hear.{store_setting}
use Rattle.device.specs.SettingsLaws.{settings-few}
use borrow.Author.Tests.{lt-ltb, le-ltb}
use native.Mathlib.Omega.{arith}
use Rattle.device.proofs.function_commands.store_setting.Goals as goal

pub returns-then-last-k : goal.returns-then-last-k
unfolding store_setting
returns-then-last-k c =
    record { answer = simp (← c.row_of-row.ensures.answer, ← c.settings_count-last.ensures.answer, le-ltb _ _ c.if-last-k.true, c.with_stage.ensures.answer) }

pub bounds-pad-place : goal.bounds-pad-place
bounds-pad-place c =
    let few = settings-few c.row_of-row.result in
    omega (arith, c.settings_count-last.ensures.answer)

pub returns-then-k-last : goal.returns-then-k-last
unfolding store_setting
returns-then-k-last c =
    record {
      answer = let more = lt-ltb _ _ c.if-k-last.true in
          simp (
            ← c.row_of-row.ensures.answer,
            ← c.settings_count-last.ensures.answer,
            lt-ltb _ _ c.if-last-k.false,
            more,
            c.with_stage-then-k-last.ensures.answer,
            c.with_scratchpad-next.ensures.answer,
            c.setting_byte.ensures.answer,
          );
    }

pub returns : goal.returns
unfolding store_setting
returns c =
    record {
      answer = let more = le-ltb _ _ c.if-k-last.false in
          simp (
            ← c.row_of-row.ensures.answer,
            ← c.settings_count-last.ensures.answer,
            lt-ltb _ _ c.if-last-k.false,
            more,
            c.with_stage-2.ensures.answer,
            c.with_scratchpad-next.ensures.answer,
            c.setting_byte.ensures.answer,
          );
    }
