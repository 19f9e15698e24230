-- One law for each way in which an edge, a line, a closing and an end can come out, and the laws of a piece that is
-- read line by line:
--     refused-stays          after a refusal no byte changes anything
--     fed-characters         characters before a feed only lengthen the line
--     lengthens, line-fed    so the line that starts at a place is lengthened by its characters, and ended by its feed
--     line-open, line-whole  the same of what a piece has of a line, by itself
--     ends-in-feed, ends-in-none    whether a line has its feed, by its last character
use Prim.Native.Nat.{ℕ, suc, ◌+◌, ◌-◌, ◌<◌, ◌≤◌}
use Rattle.std.specs.Prelude.{◌≡◌, Bool, true, false, not, ◌&&◌, eqb, take}
use Rattle.std.proofs.Math.Path.{refl, sym, ap}
use Rattle.std.proofs.Common.{◌∙◌, take-append-drop, drop-drop}
use Rattle.std.proofs.lemmas.Bool.{false≢true}
use Rattle.std.specs.Cmp.Lexicographic.{pointwise, same_text}
use mathlib.Core.List.{List, [], ◌∷◌, ◌++◌, append-nil}
use native.Mathlib.Omega.{arith}
use borrow.Author.Tests.{eq-eqb, ne_eqb, not-true}
use Rattle.std.proofs.Math.ListN.{length, drop, length-drop}
use Rattle.std.proofs.Math.Seq.{drop-cons}
use Rattle.std.specs.Prelude.{if◌then◌else◌}
use Rattle.basic_laws.specs.ChoiceLaws.{choice-then, choice-else, and_left, and_right}
use Rattle.basic_laws.specs.Fold.{fold, all}
use Rattle.basic_laws.specs.FirstLaws.{at_none, at_there}
use Rattle.basic_laws.specs.FoldLaws.{all_append}
use Rattle.refusals.specs.Refusals.{accepted, not_hex, malformed}
use Rattle.text.specs.Lines.{line_feed, not_feed, feed_at}
use Rattle.captures.specs.declared.pulses.Step.{Step}
use Rattle.captures.specs.declared.pulses.Ending.{Ending}
use Rattle.captures.specs.Rule.{edge_step, ending_at}
use Rattle.captures.specs.RuleLaws.{refused-open}
use Rattle.captures.specs.Partial.{time_digits, no_line, longer_partial}
use Rattle.captures.specs.declared.edges.Reader.{Reader}
use Rattle.captures.specs.declared.edges.Answer.{Answer}
use Rattle.captures.specs.declared.edges.Turn.{Turn}
use Rattle.captures.specs.Edges.{refused_with, with_line, with_written, on_edge, line_ended, frame_written}
use Rattle.captures.specs.Edges.{closed_reader, closed_leaves, fed_line_reader, fed_line_leaves, Reading, stopped}
use Rattle.captures.specs.Edges.{on_byte, answers_of, finished_with, end_closed, end_wire, end_answer, end_leaves}

-- ## Ways to come out

abbrev stays-refused : Reader → ℕ → Turn
stays-refused r n = record { closes = false; reader = refused_with r n }

abbrev moved : Reader → Step → Turn
moved r s = record {
  closes = s.closes;
  reader = record {
    refusal = r.refusal;
    written = r.written;
    line = no_line;
    wire = s.wire;
  };
}

module _ (r : Reader) (s : Step) where
  pub edge-refused : (s.refusal ≡ accepted → ⊥)
      → record { closes = false; reader = refused_with r s.refusal } ≡ on_edge r s
  edge-refused h = choice-else (eqb s.refusal accepted) (moved r s) (stays-refused r s.refusal)
      (ne_eqb s.refusal accepted h)

  pub edge-taken : s.refusal ≡ accepted
      → record {
        closes = s.closes;
        reader = record {
          refusal = r.refusal;
          written = r.written;
          line = no_line;
          wire = s.wire;
        };
      } ≡ on_edge r s
  edge-taken h = choice-then (eqb s.refusal accepted) (moved r s) (stays-refused r s.refusal)
      (eq-eqb s.refusal accepted h)

module _ (r : Reader) where
  pub line_other : r.line.spelt ≡ false → record { closes = false; reader = refused_with r not_hex } ≡ line_ended r
  line_other e = rw e refl

  pub line-length : r.line.spelt ≡ true → (r.line.count ≡ time_digits → ⊥)
      → record { closes = false; reader = refused_with r malformed } ≡ line_ended r
  line-length e h = rw (e, ne_eqb r.line.count time_digits h) refl

  pub line-time : r.line.spelt ≡ true → r.line.count ≡ time_digits
      → on_edge r (edge_step r.wire r.line.number) ≡ line_ended r
  line-time e h = rw (e, eq-eqb r.line.count time_digits h) refl

module _ (before after : Reader) (out : List ℕ) where
  pub closing-refused : ((frame_written before out).refusal ≡ accepted → ⊥)
      → refused_with before (frame_written before out).refusal ≡ closed_reader before after out
  closing-refused h =
      choice-else (eqb (frame_written before out).refusal accepted) (with_written after (frame_written before out).next)
      (refused_with before (frame_written before out).refusal)
      (ne_eqb (frame_written before out).refusal accepted h)

  pub closing-done : (frame_written before out).refusal ≡ accepted
      → with_written after (frame_written before out).next ≡ closed_reader before after out
  closing-done h =
      choice-then (eqb (frame_written before out).refusal accepted) (with_written after (frame_written before out).next)
      (refused_with before (frame_written before out).refusal)
      (eq-eqb (frame_written before out).refusal accepted h)

module _ (r : Reader) (out : List ℕ) where
  pub feed-closes : (line_ended r).closes ≡ true
      → (closed_reader r (line_ended r).reader out ≡ fed_line_reader r out) × (closed_leaves r out ≡ fed_line_leaves r out)
  feed-closes e = (
    choice-then (line_ended r).closes (closed_reader r (line_ended r).reader out) (line_ended r).reader e,
    choice-then (line_ended r).closes (closed_leaves r out) out e,
  )

  pub feed-moves : (line_ended r).closes ≡ false
      → ((line_ended r).reader ≡ fed_line_reader r out) × (out ≡ fed_line_leaves r out)
  feed-moves e = (
    choice-else (line_ended r).closes (closed_reader r (line_ended r).reader out) (line_ended r).reader e,
    choice-else (line_ended r).closes (closed_leaves r out) out e,
  )

-- ## Ends

module _ (r : Reader) (out : List ℕ) where
  pub last-refused : ((frame_written r out).refusal ≡ accepted → ⊥)
      → answers_of (refused_with r (frame_written r out).refusal) ≡ end_closed r out
  last-refused h =
      choice-else (eqb (frame_written r out).refusal accepted) (finished_with (frame_written r out).next)
      (answers_of (refused_with r (frame_written r out).refusal))
      (ne_eqb (frame_written r out).refusal accepted h)

  pub last_done : (frame_written r out).refusal ≡ accepted → finished_with (frame_written r out).next ≡ end_closed r out
  last_done h =
      choice-then (eqb (frame_written r out).refusal accepted) (finished_with (frame_written r out).next)
      (answers_of (refused_with r (frame_written r out).refusal))
      (eq-eqb (frame_written r out).refusal accepted h)

  abbrev by-line : Answer
  by-line = if not (eqb r.line.count 0) then answers_of (refused_with r not_hex)
      else end_wire r out (ending_at r.wire.stage)

  pub end-again : (r.refusal ≡ accepted → ⊥) → (answers_of r ≡ end_answer r out) × (out ≡ end_leaves r out)
  end-again h =
      let e = ne_eqb r.refusal accepted h in
      (choice-then (stopped r) (answers_of r) by-line (ap not e), rw e refl)

  module _ (well : r.refusal ≡ accepted) where
    going : by-line ≡ end_answer r out
    going = choice-else (stopped r) (answers_of r) by-line (ap not (eq-eqb r.refusal accepted well))

    pub end-in-line : (r.line.count ≡ 0 → ⊥)
        → (answers_of (refused_with r not_hex) ≡ end_answer r out) × (out ≡ end_leaves r out)
    end-in-line h =
        let e = ne_eqb r.line.count 0 h in (
          choice-then (not (eqb r.line.count 0)) (answers_of (refused_with r not_hex))
              (end_wire r out (ending_at r.wire.stage)) (ap not e) ∙ going,
          rw (eq-eqb r.refusal accepted well, e) refl,
        )

    module _ (bare : r.line.count ≡ 0) (e : Ending) (known : e ≡ ending_at r.wire.stage) where
      at-wire : end_wire r out e ≡ end_answer r out
      at-wire =
          ap (end_wire r out) known
          ∙ choice-else (not (eqb r.line.count 0)) (answers_of (refused_with r not_hex))
          (end_wire r out (ending_at r.wire.stage)) (ap not (eq-eqb r.line.count 0 bare))
          ∙ going

      leaves : (t : Bool) → e.closes ≡ t → (if t then closed_leaves r out else out) ≡ end_leaves r out
      leaves t c = rw (eq-eqb r.refusal accepted well, eq-eqb r.line.count 0 bare, ← known, c) refl

      pub end_low : (e.refusal ≡ accepted → ⊥)
          → (answers_of (refused_with r e.refusal) ≡ end_answer r out) × (out ≡ end_leaves r out)
      end_low h = (
        choice-then (not (eqb e.refusal accepted)) (answers_of (refused_with r e.refusal)) (if e.closes
            then end_closed r out else finished_with r.written) (ap not (ne_eqb e.refusal accepted h)) ∙ at-wire,
        leaves false (ap (λ (x : Ending). x.closes) known ∙ refused-open r.wire.stage (rw known at h)),
      )

      accepts : e.refusal ≡ accepted → (if e.closes then end_closed r out else finished_with r.written)
          ≡ end_answer r out
      accepts h =
          choice-else (not (eqb e.refusal accepted)) (answers_of (refused_with r e.refusal)) (if e.closes
          then end_closed r out else finished_with r.written) (ap not (eq-eqb e.refusal accepted h)) ∙ at-wire

      pub end-closes : e.refusal ≡ accepted → e.closes ≡ true
          → (end_closed r out ≡ end_answer r out) × (closed_leaves r out ≡ end_leaves r out)
      end-closes h c = (
        choice-then e.closes (end_closed r out) (finished_with r.written) c ∙ accepts h,
        leaves true c,
      )

      pub end-nothing : e.refusal ≡ accepted → e.closes ≡ false
          → (finished_with r.written ≡ end_answer r out) × (out ≡ end_leaves r out)
      end-nothing h c = (
        choice-else e.closes (end_closed r out) (finished_with r.written) c ∙ accepts h,
        leaves false c,
      )

-- ## A piece, line by line

pub refused-stays : (x : Reading) → (x.reader.refusal ≡ accepted → ⊥) → (s : List ℕ) → fold on_byte x s ≡ x
unfolding fold on_byte
refused-stays x h [] = refl
refused-stays x h (c ∷ s) = rw (ne_eqb x.reader.refusal accepted h) (refused-stays x h s)

module _ (r : Reader) (out : List ℕ) (well : r.refusal ≡ accepted) where
  pub on-character : (c : ℕ) → not_feed c ≡ true
      → on_byte record { reader = r; out = out } c
      ≡ record { reader = with_line r (longer_partial r.line c); out = out }
  unfolding on_byte
  on-character c n = rw (eq-eqb r.refusal accepted well, not-true (eqb c line_feed) n) refl

  pub on-feed : on_byte record { reader = r; out = out } line_feed
      ≡ record { reader = fed_line_reader r out; out = fed_line_leaves r out }
  unfolding on_byte
  on-feed = rw (eq-eqb r.refusal accepted well) refl

pub fed-characters : (r : Reader) (out : List ℕ) → r.refusal ≡ accepted → (cs s : List ℕ) → all not_feed cs ≡ true
    → fold on_byte record { reader = r; out = out } (cs ++ s)
    ≡ fold on_byte record { reader = with_line r (fold longer_partial r.line cs); out = out } s
unfolding fold all
fed-characters r out well [] s h = refl
fed-characters r out well (c ∷ cs) s h =
    ap (λ (x : Reading). fold on_byte x (cs ++ s)) (on-character r out well c (and_left (not_feed c) (all not_feed cs) h))
    ∙ fed-characters (with_line r (longer_partial r.line c)) out well cs s (and_right (not_feed c) (all not_feed cs) h)

-- the line that starts at a place of a piece, by where its characters end
module _ (r : Reader) (out s : List ℕ) (at e : ℕ) (well : r.refusal ≡ accepted) (before : at < length s) (ends : e
    ≡ at + feed_at (drop at s)) where
  abbrev pub lengthened : Reader
  lengthened = with_line r (fold longer_partial r.line (take (e - at) (drop at s)))

  up_to : e - at ≡ feed_at (drop at s)
  up_to = omega arith

  pub lengthens : fold on_byte record { reader = r; out = out } (drop at s)
      ≡ fold on_byte record { reader = lengthened; out = out } (drop e s)
  lengthens =
      let n = e - at in
      let whole : take n (drop at s) ++ drop e s ≡ drop at s =
      let k : at + n ≡ e = omega arith in
      ap (λ (t : List ℕ). take n (drop at s) ++ t) (ap (λ (m : ℕ). drop m s) (sym k) ∙ sym (drop-drop n at s))
      ∙ take-append-drop n (drop at s) in
      let plain : all not_feed (take n (drop at s)) ≡ true = rw up_to (at_none line_feed (drop at s)) in
      ap (fold on_byte record { reader = r; out = out }) (sym whole)
      ∙ fed-characters r out well (take n (drop at s)) (drop e s) plain

  -- a feed stands behind them
  pub line-fed : e < length s → fold on_byte record { reader = r; out = out } (drop at s)
      ≡ fold on_byte record {
        reader = fed_line_reader lengthened out;
        out = fed_line_leaves lengthened out;
      } (drop (e + 1) s)
  unfolding fold
  line-fed h =
      let t = drop at s in
      let size = length-drop at s in
      let there : feed_at t < length t = omega arith in
      let k : at + feed_at t ≡ e = sym ends in
      let after : at + suc (feed_at t) ≡ e + 1 = omega arith in
      let next : drop e s ≡ line_feed ∷ drop (e + 1) s =
      ap (λ (m : ℕ). drop m s) (sym k) ∙ sym (drop-drop (feed_at t) at s) ∙ drop-cons t (feed_at t) 0 there
      ∙ ap (λ (c : ℕ). c ∷ drop (suc (feed_at t)) t) (at_there line_feed t there)
      ∙ ap (λ (u : List ℕ). line_feed ∷ u) (drop-drop (suc (feed_at t)) at s ∙ ap (λ (m : ℕ). drop m s) after) in
      lengthens ∙ ap (fold on_byte record { reader = lengthened; out = out }) next
      ∙ ap (λ (x : Reading). fold on_byte x (drop (e + 1) s)) (on-feed lengthened out well)

-- what a piece has of a line: characters, and a feed behind them or none
module _ (r : Reader) (out : List ℕ) (well : r.refusal ≡ accepted) (cs : List ℕ) (plain : all not_feed cs ≡ true) where
  abbrev gathered : Reader
  gathered = with_line r (fold longer_partial r.line cs)

  pub line-open : fold on_byte record { reader = r; out = out } cs ≡ record { reader = gathered; out = out }
  unfolding fold
  line-open = ap (fold on_byte record { reader = r; out = out }) (sym (append-nil cs))
      ∙ fed-characters r out well cs [] plain

  pub line-whole : fold on_byte record { reader = r; out = out } (cs ++ (line_feed ∷ []))
      ≡ record { reader = fed_line_reader gathered out; out = fed_line_leaves gathered out }
  unfolding fold
  line-whole = fed-characters r out well cs (line_feed ∷ []) plain ∙ on-feed gathered out well

-- at most one character, which is no feed
last-plain : (t : List ℕ) → length t ≤ 1 → pointwise eqb t (line_feed ∷ []) ≡ false → all not_feed t ≡ true
unfolding all
last-plain [] few e = refl
last-plain (c ∷ []) few e = by-test (eqb c line_feed) e
  where
    by-test : (t : Bool) → (t && true) ≡ false → (not t && true) ≡ true
    by-test true e = absurd (false≢true (sym e))
    by-test false e = refl
last-plain (c ∷ d ∷ t) few e = absurd (omega arith)

-- no character of a line but its last is a feed: the last tells whether the line has one
module _ (l : List ℕ) (plain : all not_feed (take (length l - 1) l) ≡ true) where
  pub ends-in-feed : pointwise eqb (drop (length l - 1) l) (line_feed ∷ []) ≡ true
      → l ≡ take (length l - 1) l ++ (line_feed ∷ [])
  ends-in-feed h = sym (take-append-drop (length l - 1) l)
      ∙ ap (λ (t : List ℕ). take (length l - 1) l ++ t) (same_text (drop (length l - 1) l) (line_feed ∷ []) (sym h))

  pub ends-in-none : pointwise eqb (drop (length l - 1) l) (line_feed ∷ []) ≡ false → all not_feed l ≡ true
  ends-in-none h =
      let size = length-drop (length l - 1) l in
      let last = last-plain (drop (length l - 1) l) (omega arith) h in
      ap (all not_feed) (sym (take-append-drop (length l - 1) l))
      ∙ all_append not_feed (take (length l - 1) l) (drop (length l - 1) l) ∙ rw (plain, last)
