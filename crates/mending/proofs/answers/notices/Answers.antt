use Rattle.std.proofs.Common.{◌+◌, ◌*◌, ◌%◌, ◌^◌, ◌<◌, ◌≤◌, length, get_or, refl, arith}
use Rattle.mending.specs.Notice.{most_told}
use Rattle.mending.specs.NoticesLaws.{noting-start, noting-more}
use Rattle.mending.proofs.answers.notices.Goals as goal

pub loop-byte-init : goal.loop-byte-init
loop-byte-init c =
    noting-start c.args.before c.args.report.now c.args.out.now c.ranges.before.fits

pub loop-byte-preserved : goal.loop-byte-preserved
loop-byte-preserved c =
    let a = c.args in
    let report = a.report.now in
    let left = c.if-out-report.false in
    let room : most_told * length report ≤ length a.out.now = omega arith in
    let byte = c.type_inv.report c.loop-byte.byte-index in
    let small : get_or report c.loop-byte.byte-index 0 < 256 = omega arith in
    noting-more a.before report a.out.now room c.loop-byte.byte-index c.loop-byte.number c.loop-byte.written
    c.loop-byte.out c.loop-byte.invariant c.loop-byte-test.true ((c.loop-byte.number + 1) % 2 ^ 64) refl small c.lay_notice-written.result
    c.lay_notice-written.new.out c.lay_notice-written.ensures.answer c.lay_notice-written.ensures.written
