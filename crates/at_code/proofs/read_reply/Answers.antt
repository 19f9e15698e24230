use Rattle.std.proofs.Common.{ℕ, ◌≡◌, ◌<◌, refl, arith, length}
use Rattle.std.specs.Prelude.{replicate}
use Rattle.basic_laws.specs.LaidLaws.{laid_none}
use Rattle.search_laws.specs.Wire.{slots}
use Rattle.at_code.specs.Replies.{byte_read_of, replied}
use Rattle.master_rules.specs.Access.{bytes_shown}
use Rattle.at_code.specs.Laws.{bytes-bench, bytes-more, bytes-all}
use Rattle.at_code.proofs.read_reply.Goals as goal

pub loop-place-init : goal.loop-place-init
unfolding slots bytes_shown
loop-place-init c =
    record { bench_is = refl; pad_is = laid_none _ _ }

pub loop-place-preserved : goal.loop-place-preserved
unfolding byte_read_of
loop-place-preserved c =
    let i = c.loop-place.place-index in
    let b = c.args.bench in
    let inv = c.loop-place.invariant in
    let h : i < length {A = ℕ} (replicate 9 0) = omega arith in
    record {
      bench_is = rw (c.read_byte-r.ensures.answer, inv.bench_is) (bytes-bench i b);
      pad_is = rw (c.read_byte-r.ensures.answer, inv.bench_is, inv.pad_is) (bytes-more i b (replicate 9 0) h);
    }

pub returns : goal.returns
unfolding replied
returns c =
    record {
      answer = let all : c.loop-place.place-index ≡ 9 = omega arith in
          rw (c.loop-place.invariant.bench_is, c.loop-place.invariant.pad_is, all, bytes-all c.args.bench);
    }
