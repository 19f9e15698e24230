-- Each return is one line of the definition: the tests before it came out the other way, its own came out its way.
-- `present`, `no-search`, `no-alarm`, `somebody` and `no-pad` say what a test that came out the other way tells of the
-- frame.
use mathlib.Core.Path.{◌≡◌, sym, ap, ◌∙◌}
use mathlib.Core.Bool.{true, false}
use borrow.Author.Tests.{not-false}
use Rattle.frame.specs.declared.Frame.{Frame}
use Rattle.commands.specs.Commands.{search_rom, alarm_search}
use Rattle.naming.specs.declared.Named.{Named}
use Rattle.naming.specs.Naming.{name_number, named, frame_number, sends, is_nobody, is_pad}
use Rattle.naming.proofs.name_frame.Goals as goal
use Rattle.naming.proofs.name_frame.Goals.{Else-is_nobody, Else-is_pad, Else-is_pass, Else-is_pass-2, Else-not-f}

-- the frame behind the first test
present : (c : Else-not-f) → c.args.f.presence ≡ true
present c = not-false c.args.f.presence c.if-not-f.false

no-search : (c : Else-is_pass) →
    sends c.args.f 200 search_rom ≡ false
no-search c =
    sym c.is_pass.ensures ∙ c.if-is_pass.false

no-alarm : (c : Else-is_pass-2) →
    sends c.args.f 200 alarm_search ≡ false
no-alarm c =
    sym c.is_pass-2.ensures ∙ c.if-is_pass-2.false

somebody : (c : Else-is_nobody) →
    is_nobody c.args.f ≡ false
somebody c =
    sym c.is_nobody.ensures ∙ c.if-is_nobody.false

no-pad : (c : Else-is_pad) → is_pad c.args.f ≡ false
no-pad c =
    sym c.is_pad.ensures ∙ c.if-is_pad.false

-- a name that is the frame's has its number
numbered : (f : Frame) (r : Named) → r ≡ named f → (r ≡ named f) × (name_number r.name ≡ frame_number f)
numbered f r e = (e, ap (λ (n : Named). name_number n.name) e)

pub returns-then-not-f : goal.returns-then-not-f
unfolding named
returns-then-not-f c =
    record {
      answer = let f = c.args.f in
          let e : c.plain_name.result ≡ named f = simp (c.if-not-f.true, c.plain_name.ensures) in
          numbered f c.plain_name.result e;
    }

pub returns-then-is_pass : goal.returns-then-is_pass
unfolding named
returns-then-is_pass c =
    record {
      answer = let f = c.args.f in
          let e : c.name_pass.result ≡ named f = simp (
            present (goal.at.returns-then-is_pass c).Else-not-f,
            ← c.is_pass.ensures,
            c.if-is_pass.true,
            ← c.read_pass.ensures,
            c.name_pass.ensures,
          ) in
          numbered f c.name_pass.result e;
    }

pub returns-then-is_pass-2 : goal.returns-then-is_pass-2
unfolding named
returns-then-is_pass-2 c =
    record {
      answer = let f = c.args.f in
          let e : c.name_pass-then-is_pass-2.result ≡ named f =
          simp (
            present (goal.at.returns-then-is_pass-2 c).Else-not-f,
            no-search (goal.at.returns-then-is_pass-2 c).Else-is_pass,
            ← c.is_pass-2.ensures,
            c.if-is_pass-2.true,
            ← c.read_pass-then-is_pass-2.ensures,
            c.name_pass-then-is_pass-2.ensures,
          ) in
          numbered f c.name_pass-then-is_pass-2.result e;
    }

pub returns-then-is_nobody : goal.returns-then-is_nobody
unfolding named
returns-then-is_nobody c =
    record {
      answer = let f = c.args.f in
          let e : c.plain_name-then-is_nobody.result ≡ named f =
          simp (
            present (goal.at.returns-then-is_nobody c).Else-not-f,
            no-search (goal.at.returns-then-is_nobody c).Else-is_pass,
            no-alarm (goal.at.returns-then-is_nobody c).Else-is_pass-2,
            ← c.is_nobody.ensures,
            c.if-is_nobody.true,
            c.plain_name-then-is_nobody.ensures,
          ) in
          numbered f c.plain_name-then-is_nobody.result e;
    }

pub returns-then-is_pad : goal.returns-then-is_pad
unfolding named
returns-then-is_pad c =
    record {
      answer = let f = c.args.f in
          let e : c.name_pad.result ≡ named f = simp (
            present (goal.at.returns-then-is_pad c).Else-not-f,
            no-search (goal.at.returns-then-is_pad c).Else-is_pass,
            no-alarm (goal.at.returns-then-is_pad c).Else-is_pass-2,
            somebody (goal.at.returns-then-is_pad c).Else-is_nobody,
            ← c.is_pad.ensures,
            c.if-is_pad.true,
            ← c.code_in.ensures,
            ← c.pad_in.ensures,
            c.name_pad.ensures,
          ) in
          numbered f c.name_pad.result e;
    }

pub returns : goal.returns
unfolding named
returns c =
    record {
      answer = let f = c.args.f in
          let e : c.plain_name-2.result ≡ named f =
          simp (
            present (goal.at.returns c).Else-not-f,
            no-search (goal.at.returns c).Else-is_pass,
            no-alarm (goal.at.returns c).Else-is_pass-2,
            somebody (goal.at.returns c).Else-is_nobody,
            no-pad (goal.at.returns c).Else-is_pad,
            c.plain_name-2.ensures,
          ) in
          numbered f c.plain_name-2.result e;
    }
