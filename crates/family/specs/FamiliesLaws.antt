-- A test that each row of the table passes is passed by the row of every family: `every-row`. What holds of the rows by
-- computing is so shown without naming one.
use Rattle.std.specs.Prelude.{ℕ, ◌≡◌, Bool, true, false, ◌&&◌, eqb}
use Rattle.std.specs.Prelude.{if◌then◌else◌}
use Rattle.basic_laws.specs.ChoiceLaws.{and_left, and_right}
use Rattle.basic_laws.specs.Fold.{all}
use Rattle.family.specs.declared.Properties.{Properties}
use Rattle.family.specs.Families.{ds18s20, ds18b20, ds1825, row_s, row_b, row_pinned, row_unknown, rows, properties_of}

pub every-row : (p : Properties → Bool) → all p rows ≡ true → (f : ℕ) → p (properties_of f) ≡ true
unfolding all
every-row p h f = by_tests (eqb f ds18s20) (eqb f ds18b20) (eqb f ds1825)
  where
    after-s : (p row_b && (p row_pinned && (p row_unknown && true))) ≡ true
    after-s = and_right (p row_s) (p row_b && (p row_pinned && (p row_unknown && true))) h

    after-b : (p row_pinned && (p row_unknown && true)) ≡ true
    after-b = and_right (p row_b) (p row_pinned && (p row_unknown && true)) after-s

    by_tests : (t u v : Bool) → p (if t then row_s else if u then row_b else if v then row_pinned else row_unknown) ≡ true
    by_tests true u v = and_left (p row_s) (p row_b && (p row_pinned && (p row_unknown && true))) h
    by_tests false true v = and_left (p row_b) (p row_pinned && (p row_unknown && true)) after-s
    by_tests false false true = and_left (p row_pinned) (p row_unknown && true) after-b
    by_tests false false false = and_left (p row_unknown) true (and_right (p row_pinned) (p row_unknown && true) after-b)
