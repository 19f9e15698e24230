-- What a part of the call has said, with room for it: one line, or the bytes of the table.
use Rattle.std.specs.Prelude.{ℕ, ◌≤◌, List, ◌≡◌, refl, length}
use Rattle.std.proofs.Common.{◌∙◌, arith, le-ltb}
use Rattle.text.specs.declared.laying.Written.{Written}
use Rattle.text.specs.Putting.{line_answer, line_leaves}
use Rattle.bench_answers.specs.Whole.{room}
use Rattle.packed_session.specs.TableAnswers.{text_room, dump_text, dump_answer, dump_leaves}
use Rattle.packed_session.specs.TableAnswersLaws.{line-told, line-laid}
use Rattle.packed_session.specs.TableConsole.{Spoken, speaks, Tells}

pub line-tells : (s : Spoken) (out : List ℕ) → room ≤ length out → (out' t' : List ℕ) (r : Written)
    → r ≡ line_answer out 0 s.text → out' ≡ line_leaves out 0 s.text
    → t' ≡ s.left → Tells s out out' t' r
line-tells s out wide out' t' r answer leaves left = record {
  told_is = answer ∙ line-told out s.text (omega (arith, wide));
  wrote-is = leaves ∙ line-laid out s.text (omega (arith, wide));
  left_is = left;
}

pub dump-tells : (t out : List ℕ) → room ≤ length out → (out' : List ℕ) (r : Written) → r ≡ dump_answer t out
    → out' ≡ dump_leaves t out → Tells (speaks (dump_text t) t) out out' t r
unfolding dump_answer dump_leaves
dump-tells t out wide out' r answer leaves =
    let h : text_room ≤ length out = omega (arith, wide) in
    let enough = le-ltb (length out) text_room h in
    record { told_is = rw enough at answer; wrote-is = rw enough at leaves; left_is = refl }
