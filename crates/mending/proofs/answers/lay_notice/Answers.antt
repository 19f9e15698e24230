-- The line is formed at the front of an array, and laid from there.
use Rattle.std.proofs.Common.{◌≤◌, length, replicate, sym, refl, ap, ◌∙◌, arith, length-take-le}
use Rattle.text.specs.Laying.{lay_answer, lay_leaves}
use Rattle.mending.specs.NoticeLaws.{notice-read}
use Rattle.mending.proofs.answers.lay_notice.Goals as goal

pub slice_bounds-lay-end : goal.slice_bounds-lay-end
slice_bounds-lay-end c =
    let within : c.notice-told.result.next ≤ length c.notice-told.new.out = omega arith in
    sym (length-take-le c.notice-told.result.next c.notice-told.new.out within)

pub returns : goal.returns
returns c =
    let a = c.args in
    let told = notice-read (replicate 64 0) a.number a.report c.notice-told.result c.notice-told.new.out refl
    c.notice-told.ensures.answer.0 c.notice-told.ensures.written in record { answer = c.lay.ensures.answer ∙ ap (lay_answer a.out.now a.at) told; written = c.lay.ensures.written ∙ ap (lay_leaves a.out.now a.at) told }
