-- One law of the definition for each answer; `shown` and `allowed` say what was read of the head.
use Prim.Native.Nat.{ℕ, ◌+◌, ◌*◌, ◌-◌, ◌≤◌}
use mathlib.Core.Path.{◌≡◌, sym, ap, ◌∙◌}
use mathlib.Core.Bool.{◌||◌}
use mathlib.Core.List.{List}
use native.Mathlib.Omega.{arith}
use borrow.Author.Tests.{leb-true}
use lib.Dec.{eqb, leb}
use lib.ListN.{length, take, drop, length-drop}
use lib.Seq.{take_all}
use Rattle.basic_laws.specs.ChoiceLaws.{and_left}
use Rattle.basic_laws.specs.FoldLaws.{all_drop}
use Rattle.text.specs.Digits.{is_digit}
use Rattle.frame.specs.Frames.{count_allowed, bytes_for}
use Rattle.frame.specs.ReadLine.{LineContent, found, line_answer_of, presence_in, slot_count_in}
use Rattle.frame.specs.ReadLineLaws.{wrong-length, wrong-presence, wrong-count, right-head}
use Rattle.frame.proofs.frame_lines.parsing.read_digits.Goals as goal
use Rattle.frame.proofs.frame_lines.parsing.read_digits.Goals.{After-count_allowed-allowed, After-presence_of-presence, Else-line-length, Else-not-allowed}

-- the digits of presence, read
shown : (c : After-presence_of-presence) → c.presence_of-presence.result ≡ presence_in c.args.line.now
shown c =
    c.presence_of-presence.ensures

-- what the test of the count says of the digits
allowed : (c : After-count_allowed-allowed) → c.count_allowed-allowed.result
    ≡ count_allowed (eqb (presence_in c.args.line.now) 1)
    (slot_count_in c.args.line.now)
allowed c =
    rw (← shown (record { before = c.before.before.before.before; type_inv = record { line = c.before.before.before.before.shared_slice_known-1.given } }), ← c.count_of-count.ensures) c.count_allowed-allowed.ensures.answer

-- an allowed count is at most 512
small : (c : Else-not-allowed) → slot_count_in
    c.args.line.now ≤ 512
small c =
    let cs = c.args.line.now in
    let e = sym (allowed (record { before = c.before.before; type_inv = record { line = c.before.before.shared_slice_known-1.given } })) ∙ c.if-not-allowed.false in
    leb-true (slot_count_in cs) 512 (and_left (leb (slot_count_in cs) 512) (eqb (presence_in cs) 1
    || eqb (slot_count_in cs) 0) e)

-- the length is that of the count
long : (c : Else-line-length) → length c.args.line.now
    ≡ 6 + 2 * bytes_for (slot_count_in
    c.args.line.now)
long c =
    rw (← c.count_of-count.ensures, ← c.bytes_for.ensures.answer) c.if-line-length.false

-- all that stands behind the head
rest : (cs : List ℕ) → take (length cs - 6) (drop 6 cs) ≡ drop 6 cs
rest cs = let l = length-drop 6 cs in take_all (length cs - 6) (drop 6 cs) (omega arith)

pub returns-then-line-lt-HEAD : goal.returns-then-line-lt-HEAD
returns-then-line-lt-HEAD c =
    let a = c.args in
    c.refuse.ensures ∙ ap (λ (r : LineContent). line_answer_of (found r a.next))
    (sym (wrong-length a.line.now (λ e. let h = c.if-line-lt-HEAD.true in omega arith)))

pub returns-then-presence-gt1 : goal.returns-then-presence-gt1
returns-then-presence-gt1 c =
    let a = c.args in
    let h = c.if-presence-gt1.true in
    let e = shown (goal.at.returns-then-presence-gt1 c).After-presence_of-presence in
    c.refuse-then-presence-gt1.ensures ∙ ap (λ (r : LineContent). line_answer_of (found r a.next))
    (sym (wrong-presence a.line.now (rw (← e) h)))

pub returns-then-not-allowed : goal.returns-then-not-allowed
returns-then-not-allowed c =
    let a = c.args in
    let e = sym (allowed (goal.at.returns-then-not-allowed c).After-count_allowed-allowed) ∙ c.if-not-allowed.true in
    c.refuse-then-not-allowed.ensures ∙ ap (λ (r : LineContent). line_answer_of (found r a.next))
    (sym (wrong-count a.line.now e))

pub returns-then-line-length : goal.returns-then-line-length
returns-then-line-length c =
    let a = c.args in
    let e = c.bytes_for.ensures.answer in
    let f = c.count_of-count.ensures in
    c.refuse-then-line-length.ensures ∙ ap (λ (r : LineContent). line_answer_of (found r a.next))
    (sym (wrong-length a.line.now (rw (← f, ← e) c.if-line-length.true)))

pub read_slots-requires : goal.read_slots-requires
read_slots-requires c =
    let cs = c.args.line.now in
    let e = c.count_of-count.ensures in
    let l = long (goal.at.read_slots-requires c).Else-line-length in (
      rw e (small (goal.at.read_slots-requires c).Else-not-allowed),
      rw (rest cs, e) (length-drop 6 cs ∙ omega arith),
      rw (rest cs) (all_drop (is_digit 16) 6 cs c.requires),
    )

pub returns : goal.returns
returns c =
    let cs = c.args.line.now in
    let one : presence_in cs ≤ 1 = rw (← shown (goal.at.returns c).After-presence_of-presence) c.if-presence-gt1.false in
    let fine = sym (allowed (goal.at.returns c).After-count_allowed-allowed) ∙ c.if-not-allowed.false in
    c.read_slots.ensures
    ∙ rw (rest cs, shown (goal.at.returns c).After-presence_of-presence, c.count_of-count.ensures)
    (ap (λ (r : LineContent). line_answer_of (found r c.args.next))
    (sym (right-head cs one fine (long (goal.at.returns c).Else-line-length))))
