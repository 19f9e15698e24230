use Rattle.std.proofs.Common.{◌≡◌, ◌∙◌, ap, sym, refl, lit<, false, ◌-◌, ◌+◌}
use Rattle.std.proofs.lemmas.Bool.{not-true, not-false}
use Rattle.search_laws.specs.SearchLoop.{turns-over}
use Rattle.basic_laws.specs.Bits.{bits_of}
use Rattle.master_rules.specs.Buses.{calls}
use Rattle.master_rules.specs.Search.{code_length, most_passes}
use Rattle.search.specs.Sweep.{swept_all, no_pass, sweeping-start, sweeping-as, sweeping-pass, sweeping-end}
use Rattle.search.specs.declared.Sweep.{Sweep}
use Rattle.search.proofs.sweep_wire.Goals as goal
use Rattle.search.proofs.sweep_wire.Goals.{Then-not-s}

pub loop-init : goal.loop-init
loop-init c =
    let a = c.args in
    let e = c.turn-s.ensures in
    let r = c.requires in
    let k = sweeping-start a.command a.bench a.list.now a.recording.now in
    sweeping-as _ _ _ _ 1 e.answer e.listed e.written
    (sweeping-pass _ _ _ _ 0 (no_pass a.bench) _ _ k a.restarted r.0 (lit< tt) refl r.1 r.2)

-- where no pass is to follow, the turns that are left change nothing
over : (c : Then-not-s) → c.loop.invariant.made ≡ swept_all c.args.command c.args.bench
over c =
    let k = c.loop.invariant in
    let ended : k.made.going ≡ false =
    sym (ap (λ (u : Sweep). u.going) k.is) ∙ not-true c.loop.s.going c.if-not-s.true in
    sym (turns-over calls (bits_of 8 c.args.command) code_length (most_passes - c.loop.counter) k.made ended) ∙ k.comes

pub returns-then-not-s : goal.returns-then-not-s
returns-then-not-s c =
    let k = c.loop.invariant in
    rw (← over (goal.at.returns-then-not-s c).Then-not-s)
    (record { answer = k.is; listed = k.list-is; written = k.recording-is })

pub loop-preserved : goal.loop-preserved
loop-preserved c =
    let e = c.turn-s-in-loop.ensures in
    sweeping-as _ _ _ _ (c.loop.counter + 1) e.answer e.listed e.written
    (sweeping-pass _ _ _ _ c.loop.counter c.loop.s c.loop.list c.loop.recording c.loop.invariant c.reset-r.result.bench
    (ap (λ r. r.bench) c.reset-r.ensures.answer) c.loop-test.true (not-false c.loop.s.going c.if-not-s.false)
    c.requires.1 c.requires.2)

pub returns : goal.returns
returns c =
    let r = sweeping-end _ _ _ _ c.loop.counter _ _ _ c.loop.invariant c.loop-test.false in
    record { answer = r.0; listed = r.1; written = r.2 }
