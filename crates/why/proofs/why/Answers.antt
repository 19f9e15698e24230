-- The code's refusal, then whether the device is there, then its page.
use Prim.Native.Nat.{ℕ}
use mathlib.Core.Logic.{◌≢◌}
use mathlib.Core.Path.{◌≡◌, sym, ap, ◌∙◌}
use Rattle.refusals.specs.Refusals.{accepted}
use Rattle.rom.specs.Code.{code_refusal}
use Rattle.bench.specs.Calls.{looked}
use Rattle.bench.specs.declared.Looked.{Looked}
use Rattle.why.specs.Why.{silent, told_by, why_of}
use Rattle.why.specs.WhyLaws.{why-refused, why-absent, why-there}
use Rattle.why.specs.declared.rules.Reason.TheVariants.{NotOnBench}
use Rattle.why.proofs.BookLaws.{why-promised}
use Rattle.why.proofs.why.Goals as goal

pub returns-then-refusal-ne-ACCEPTED : goal.returns-then-refusal-ne-ACCEPTED
returns-then-refusal-ne-ACCEPTED c =
    let a = c.args in
    let unsound : code_refusal a.code ≢ accepted = λ e. c.if-refusal-ne-ACCEPTED.true (c.refusal_of-refusal.ensures.answer ∙ e) in
    let is : c.silent.result ≡ why_of a.bench a.code =
    c.silent.ensures ∙ ap (λ (n : ℕ). silent n NotOnBench) c.refusal_of-refusal.ensures.answer
    ∙ why-refused a.bench a.code unsound in
    record { answer = is; history = why-promised a.bench a.code c.silent.result is }

pub returns-then-looked-ne-ACCEPTED : goal.returns-then-looked-ne-ACCEPTED
returns-then-looked-ne-ACCEPTED c =
    let a = c.args in
    let is-sound : code_refusal a.code ≡ accepted = sym c.refusal_of-refusal.ensures.answer ∙ c.if-refusal-ne-ACCEPTED.false in
    let absent : (looked a.bench a.code).refusal ≢ accepted =
    λ e. c.if-looked-ne-ACCEPTED.true (ap (λ (l : Looked). l.refusal) c.look-looked.ensures.answer ∙ e) in
    let is : c.silent-then-looked-ne-ACCEPTED.result ≡ why_of a.bench a.code =
    c.silent-then-looked-ne-ACCEPTED.ensures ∙ why-absent a.bench a.code is-sound absent in
    record { answer = is; history = why-promised a.bench a.code c.silent-then-looked-ne-ACCEPTED.result is }

pub returns : goal.returns
returns c =
    let a = c.args in
    let is-sound : code_refusal a.code ≡ accepted = sym c.refusal_of-refusal.ensures.answer ∙ c.if-refusal-ne-ACCEPTED.false in
    let there : (looked a.bench a.code).refusal ≡ accepted =
    ap (λ (l : Looked). l.refusal) (sym c.look-looked.ensures.answer) ∙ c.if-looked-ne-ACCEPTED.false in
    let is : c.say.result ≡ why_of a.bench a.code =
    c.say.ensures ∙ ap (λ (l : Looked). told_by l.device.page l.device.scratchpad) c.look-looked.ensures.answer
    ∙ why-there a.bench a.code is-sound there in
    record { answer = is; history = why-promised a.bench a.code c.say.result is }
