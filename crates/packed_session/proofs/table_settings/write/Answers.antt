-- Refused bytes are told and stay; else what the write came to on the bench of the bytes is said, and the bench that it
-- left is packed.
use mathlib.Core.Path.{ap, ◌∙◌}
use Rattle.basic_laws.specs.Laid.{laid}
use Rattle.bench_requests.specs.declared.Request.TheVariants.{Read}
use Rattle.master_rules.specs.declared.Access.{Access}
use Rattle.bench_answers.specs.Said.{of_access}
use Rattle.bench_answers.specs.Whole.{saying}
use Rattle.bench_answers.specs.WholeLaws.{line-says}
use Rattle.settings.specs.Written.{settings_written}
use Rattle.packed_session.specs.TableAnswers.{refused_on_table}
use Rattle.packed_session.specs.OnBenchLaws.{refused-told, answered-told}
use Rattle.packed_session.specs.TableSettingsLaws.{settings-keep}
use Rattle.packed_bench.specs.TableLaws.{packed-kept}
use Rattle.packed_session.proofs.table_settings.write.Goals as goal

pub returns-then-refusal-ne-ACCEPTED : goal.returns-then-refusal-ne-ACCEPTED
returns-then-refusal-ne-ACCEPTED c =
    let all = refused-told (λ b. of_access (settings_written c.args.store b c.args.code))
    (λ n. refused_on_table n (Read c.args.code)) c.args.t.now c.args.out.now c.requires
    c.unpack-there.result c.unpack-there.ensures.answer c.if-refusal-ne-ACCEPTED.true _ _ c.refuse.ensures.answer c.refuse.ensures.written in record { answer = all.0; written = all.1.0; table = all.1.1.0; after = all.1.1.1 }

pub returns : goal.returns
returns c =
    let says = line-says c.args.out.now c.requires (of_access c.write.result) _ c.access-said.result
    c.access-said.ensures.answer c.access-said.ensures.written c.access-said.ensures.fits in
    let told = says.said ∙ ap (λ (a : Access). saying (of_access a)) c.write.ensures.answer in
    let left = says.laid-is ∙ ap (λ (a : Access). laid c.args.out.now 0 (of_access a).text)
    c.write.ensures.answer in let all = answered-told (λ b. of_access (settings_written c.args.store b c.args.code))
    (λ n. refused_on_table n (Read c.args.code)) c.args.t.now c.args.out.now c.requires
    c.unpack-there.result c.unpack-there.ensures.answer
    (settings-keep c.args.store c.args.code) c.if-refusal-ne-ACCEPTED.false c.access-said.result _ _ told left
    c.pack.ensures.written (packed-kept _ c.args.t.now _ c.pack.result c.pack.ensures.answer
    c.pack.ensures.back) in record { answer = all.0; written = all.1.0; table = all.1.1.0; after = all.1.1.1 }
