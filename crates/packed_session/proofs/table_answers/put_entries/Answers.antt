use Rattle.std.proofs.Common.{◌≡◌, ◌+◌, ◌*◌, ◌-◌, [], ◌∷◌, ◌++◌, ◌∙◌, sym, ap, arith, length, take, drop}
use Rattle.std.proofs.Common.{length-append, length-drop, length-take-le}
use Rattle.text.specs.Digits.{hex_of}
use Rattle.text.specs.Lines.{line_feed}
use Rattle.basic_laws.specs.Laid.{laid}
use Rattle.text.proofs.PuttingLaws.{field_puts}
use Rattle.packed_session.specs.TableAnswers.{entry_line, table_text}
use Rattle.packed_session.specs.TableAnswersLaws.{line-length, text-length, text-turn, text-end}
use Rattle.packed_session.specs.TableAnswersLaws.{entry-within, entry-is, entry-behind}
use Rattle.packed_session.proofs.table_answers.put_entries.Goals as goal

pub loop-entry-preserved : goal.loop-entry-preserved
loop-entry-preserved c =
    let t = c.args.t.now in
    let l = c.loop-entry in
    let n = length l.yielded in
    let x = c.in-Some.entry.now in
    let step = c.in-Some.ensures.steps in
    let size : length x ≡ 48 = step.1.1 ∙ l.invariant.1 in
    let long = c.requires.0 in
    let wide = c.requires.1 in
    let within = entry-within t _ x _ n l.invariant.2 step.1.0 size long in
    let is = entry-is t _ x _ n l.invariant.2 step.1.0 size long in
    let behind = entry-behind t _ x _ n l.invariant.2 step.1.0 size long in
    let put = field_puts l.out l.to (hex_of x) line_feed c.put_bytes-to.new.out c.put_bytes-to.result
    (c.put_bytes-to.ensures.answer, c.put_bytes-to.ensures.written) in
    let d = length-drop (48 * n) t in
    let w : length (entry_line x) ≡ 97 = ap (λ e. length (entry_line e)) is
    ∙ line-length (drop (48 * n) t) (omega arith) in
    let done = rw l.invariant.3 at put.puts (omega arith) in
    let more : length (l.yielded ++ (c.in-Some.entry ∷ [])) ≡ n + 1 = length-append l.yielded _ in
    rw more (
      omega arith,
      step.0 ∙ l.invariant.1,
      behind,
      done.1 ∙ omega arith,
      ap (λ u. laid u (97 * (n + 1)) (table_text (32 - (n + 1)) (drop (48 * (n + 1)) t)))
          (done.0 ∙ ap (λ e. laid l.out (97 * n) (entry_line e)) is)
          ∙ sym (text-turn l.out t n within long (omega arith)) ∙ l.invariant.4,
    )

pub returns : goal.returns
returns c =
    let t = c.args.t.now in
    let l = c.loop-entry in
    let few = c.in-None.ensures.steps.1.0 in
    let left = ap length l.invariant.2 ∙ length-drop (48 * length l.yielded) (take 1536 t) in
    let whole = length-take-le 1536 t c.requires.0 in
    let end : length l.yielded ≡ 32 = omega arith in
    let long = text-length 32 t c.requires.0 in
    record {
      answer = l.invariant.3 ∙ omega arith;
      written = sym (text-end l.out t (length l.yielded) end) ∙ l.invariant.4;
    }
