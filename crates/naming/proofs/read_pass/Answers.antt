use Prim.Native.Nat.{◌+◌, ◌-◌, ◌*◌}
use mathlib.Core.Bool.{false}
use mathlib.Core.Path.{◌≡◌, sym, ◌∙◌}
use native.Mathlib.Omega.{arith}
use lib.ListN.{drop, get_or}
use Rattle.basic_laws.specs.Bits.{bytes_bits}
use Rattle.frame.proofs.NumberLaws.{from-bit}
use Rattle.naming.specs.Naming.{triple_allowed, triples_allowed, pass_slots}
use Rattle.naming.specs.Laws.{one_at_most, pass-end, pass-before, pass-lt, triples-drop, triples-more}
use Rattle.naming.specs.Laws.{triples_none, thirds-more, thirds-none}
use Rattle.naming.proofs.read_pass.Goals as goal
use Rattle.naming.proofs.read_pass.Goals.{After-triple_allowed}

-- the triple that a turn reads, as the bytes have it
verdict : (c : After-triple_allowed) → let at = 8 + 3 * (c.loop-place.place - 1) in
    let slots = bytes_bits c.args.bits.now in
    triple_allowed (get_or slots at false) (get_or slots (at + 1) false) (get_or slots (at + 2) false)
    ≡ c.triple_allowed.result
verdict c =
    rw (
      c.bit_at-bit.ensures,
      c.bit_at-complement.ensures,
      c.bit_at-taken.ensures,
    ) at (sym c.triple_allowed.ensures)

pub loop-place-init : goal.loop-place-init
loop-place-init c =
    let e = pass-end c.args.bits.now c.requires in
    record { allowed = rw e triples_none; number = rw e (sym thirds-none) }

pub returns-then-not-triple_allowed : goal.returns-then-not-triple_allowed
returns-then-not-triple_allowed c =
    let bits = c.args.bits.now in
    let n = c.loop-place.place in
    let b = pass-before bits c.requires n c.loop-place-test.true c.loop-place.auto.place in
    let v : triples_allowed (drop (3 * (n - 1)) (pass_slots bits)) ≡ false =
    rw (b, triples-more, verdict (goal.at.returns-then-not-triple_allowed c).After-triple_allowed, c.if-not-triple_allowed.true) in
    rw (triples-drop (n - 1) (pass_slots bits) v)

pub overflow_mul-code : goal.overflow_mul-code
overflow_mul-code c =
    let p = pass-lt c.args.bits.now c.requires c.loop-place.place c.loop-place-test.true c.loop-place.auto.place in
    let e = c.loop-place.invariant.number in
    omega arith

pub overflow_add-code : goal.overflow_add-code
overflow_add-code c =
    let p = pass-lt c.args.bits.now c.requires c.loop-place.place c.loop-place-test.true c.loop-place.auto.place in
    let e = c.loop-place.invariant.number in
    let o = one_at_most c.bit_at-taken.result in
    let f = c.from.ensures ∙ from-bit c.bit_at-taken.result in
    omega arith

pub loop-place-preserved : goal.loop-place-preserved
loop-place-preserved c =
    let bits = c.args.bits.now in
    let n = c.loop-place.place in
    let b = pass-before bits c.requires n c.loop-place-test.true c.loop-place.auto.place in record {
      allowed = rw (
        b,
        triples-more,
        verdict (goal.at.loop-place-preserved c).After-triple_allowed,
        c.if-not-triple_allowed.false,
      ) c.loop-place.invariant.allowed;
      number = rw (
        b,
        thirds-more,
        c.from.ensures ∙ from-bit c.bit_at-taken.result,
        c.bit_at-taken.ensures,
        c.loop-place.invariant.number,
      );
    }
