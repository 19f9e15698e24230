-- Readers that differ in nothing but their buffers.
--     same-reader            where neither runs out of room for a piece, they are the same after it
use Rattle.std.specs.Prelude.{ℕ, ◌+◌, ◌≡◌, refl, ◌≢◌, Bool, true, false, not, List, [], ◌∷◌, eqb, length}
use Rattle.std.specs.Prelude.{if◌then◌else◌}
use Rattle.std.proofs.Common.{sym, ap, ◌∙◌, arith}
use Rattle.basic_laws.specs.Fold.{fold}
use Rattle.refusals.specs.Refusals.{accepted, no_room, malformed}
use Rattle.text.specs.Lines.{line_feed}
use Rattle.text.specs.declared.laying.Written.{Written}
use Rattle.text.specs.Laying.{has_room}
use Rattle.frame.specs.Frames.{lineable}
use Rattle.frame.specs.Writing.{fed_line}
use Rattle.captures.specs.Partial.{longer_partial}
use Rattle.captures.specs.declared.edges.Reader.{Reader}
use Rattle.captures.specs.Edges.{refused_with, with_line, with_written, line_ended, fed_line_reader, fed_line_leaves}
use Rattle.captures.specs.Edges.{Reading, on_byte, fed_bytes}
use Rattle.captures.proofs.EdgesLaws.{refused-stays}

-- ## A feed

module _ (r : Reader) where
  -- what the writer answers for the open frame, by whether a line can carry it and whether there is room for the line
  abbrev wrote : Bool → Bool → Written
  wrote carried room =
      if carried then (if room then record { refusal = accepted; next = r.written + length (fed_line r.wire.frame) }
      else record { refusal = no_room; next = 0 })
      else record { refusal = malformed; next = 0 }

  -- the reader after a feed, by whether it closes that frame too
  abbrev fed_by : Bool → Bool → Bool → Reader
  fed_by closes carried room =
      if closes then (if eqb (wrote carried room).refusal accepted
      then with_written (line_ended r).reader (wrote carried room).next
      else refused_with r (wrote carried room).refusal)
      else (line_ended r).reader

  fed-same : (closes carried room other : Bool) → (fed_by closes carried room).refusal ≢ no_room
      → (fed_by closes carried other).refusal ≢ no_room → fed_by closes carried room ≡ fed_by closes carried other
  fed-same false carried room other p q = refl
  fed-same true false room other p q = refl
  fed-same true true true true p q = refl
  fed-same true true true false p q = absurd (q refl)
  fed-same true true false other p q = absurd (p refl)

  feed-same : (out other : List ℕ) → (fed_line_reader r out).refusal ≢ no_room
      → (fed_line_reader r other).refusal ≢ no_room → fed_line_reader r out ≡ fed_line_reader r other
  feed-same out other =
      let n = length (fed_line r.wire.frame) in
      fed-same (line_ended r).closes (lineable r.wire.frame) (has_room out r.written n) (has_room other r.written n)

-- ## A piece

-- a reader that has room for a piece had room before it
roomless-before : (x : Reading) (s : List ℕ) → (fold on_byte x s).reader.refusal ≢ no_room → x.reader.refusal ≢ no_room
roomless-before x s h e =
    let other : x.reader.refusal ≢ accepted = λ z. let same : no_room ≡ accepted = sym e ∙ z in omega arith in
    h (ap (λ (y : Reading). y.reader.refusal) (refused-stays x other s) ∙ e)

-- the theorem for the bytes s
abbrev Same : List ℕ → Type 0
Same s = (r : Reader) (out other : List ℕ) → (fed_bytes r out s).reader.refusal ≢ no_room
    → (fed_bytes r other s).reader.refusal ≢ no_room → (fed_bytes r out s).reader ≡ (fed_bytes r other s).reader

feed-behind : (s : List ℕ) → Same s → (r : Reader) (out other : List ℕ)
    → (fed_bytes (fed_line_reader r out) (fed_line_leaves r out) s).reader.refusal ≢ no_room
    → (fed_bytes (fed_line_reader r other) (fed_line_leaves r other) s).reader.refusal ≢ no_room
    → (fed_bytes (fed_line_reader r out) (fed_line_leaves r out) s).reader
    ≡ (fed_bytes (fed_line_reader r other) (fed_line_leaves r other) s).reader
feed-behind s behind r out other p q =
    let b = fed_line_reader r other in
    let x = fed_line_leaves r out in
    let y = fed_line_leaves r other in
    let same : fed_line_reader r out ≡ b =
    feed-same r out other (roomless-before record { reader = fed_line_reader r out; out = x } s p)
    (roomless-before record { reader = b; out = y } s q) in
    rw same (behind b x y (rw same at p) q)

pub same-reader : (s : List ℕ) (r : Reader) (out other : List ℕ) → (fed_bytes r out s).reader.refusal ≢ no_room
    → (fed_bytes r other s).reader.refusal ≢ no_room → (fed_bytes r out s).reader ≡ (fed_bytes r other s).reader
unfolding fold on_byte
same-reader [] r out other p q = refl
same-reader (c ∷ s) r out other p q = by-byte (not (eqb r.refusal accepted)) (eqb c line_feed) (same-reader s) p q
  where
    after : Bool → Bool → List ℕ → Reading
    after stops feeds d =
        if stops then record { reader = r; out = d }
        else if feeds then record { reader = fed_line_reader r d; out = fed_line_leaves r d }
        else record { reader = with_line r (longer_partial r.line c); out = d }

    by-byte : (stops feeds : Bool) → Same s → (fold on_byte (after stops feeds out) s).reader.refusal ≢ no_room
        → (fold on_byte (after stops feeds other) s).reader.refusal ≢ no_room
        → (fold on_byte (after stops feeds out) s).reader ≡ (fold on_byte (after stops feeds other) s).reader
    by-byte true feeds behind p q = behind r out other p q
    by-byte false true behind p q = feed-behind s behind r out other p q
    by-byte false false behind p q = behind (with_line r (longer_partial r.line c)) out other p q
