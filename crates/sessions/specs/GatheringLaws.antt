-- What is held of a line tells what the whole line asks for, however long it is; and the buffer holds just that.
use Rattle.std.specs.Prelude.{ℕ, ◌+◌, ◌-◌, ◌<◌, ◌≤◌, ◌≡◌, refl, Bool, true, false, List, [], ◌++◌, leb, ltb, drop}
use Rattle.std.proofs.Math.Path.{sym}
use Rattle.std.proofs.Common.{ap, ◌∙◌, add-zero, leb-true, leb-false, lt-ltb, le-ltb, length-take, drop_of_length-le, take_all, length-take-le}
use native.Mathlib.Omega.{arith}
use Rattle.std.proofs.lemmas.Bool.{lt-leb}
use Rattle.std.proofs.Math.ListN.{length, take, length-append}
use Rattle.std.proofs.Math.Seq.{take-nil, take-append-add, take_at}
use Rattle.std.specs.Prelude.{if◌then◌else◌}
use Rattle.basic_laws.specs.First.{first_at}
use Rattle.basic_laws.specs.Laid.{laid}
use Rattle.basic_laws.specs.LaidLaws.{laid_none}
use Rattle.text.specs.Lines.{Line, feed_at, width}
use Rattle.text.specs.LinesLaws.{line-by-end, behind-fed, behind-open}
use Rattle.lines.specs.Words.{words_of}
use Rattle.bench_requests.specs.Requests.{of_bench, request_of, longest_request}
use Rattle.bench_requests.specs.declared.Request.TheVariants.{Bad}
use Rattle.sessions.specs.Gathering.{most_held, fitting, part_at, taken, taken_leaves}

-- whatever reads lines of up to 80 characters and takes all others for one thing: of a line that is cut at 81 it reads
-- what it reads of the whole line
pub held_reads : {A : Type 0} (reads : List ℕ → A) (other : A) (s : List ℕ)
    → (if leb (length (take most_held s)) longest_request then reads (take most_held s) else other)
    ≡ (if leb (length s) longest_request then reads s else other)
held_reads reads other s = by-test (leb (length s) longest_request) refl
  where
    by-test : (t : Bool) → leb (length s) longest_request ≡ t
        → (if leb (length (take most_held s)) longest_request then reads (take most_held s) else other)
        ≡ (if leb (length s) longest_request then reads s else other)
    by-test true e =
        let h = leb-true (length s) longest_request e in
        let whole = take_all most_held s (omega arith) in
        rw whole
    by-test false e =
        let h = leb-false (length s) longest_request e in
        let cut : length (take most_held s) ≡ 81 = length-take most_held s ∙ omega arith in
        rw (e, lt-leb (length (take most_held s)) longest_request (omega arith))

-- a line that is cut at 81 characters asks for what the whole line asks for
pub held_tells : (s : List ℕ) → request_of (take most_held s) ≡ request_of s
unfolding request_of
held_tells s = held_reads (λ (t : List ℕ). of_bench (words_of t)) Bad s

-- ## Characters laid behind those that are held

-- characters that all fit, and as many as just fit
module _ (line : List ℕ) (held : ℕ) (cs : List ℕ) (i : ℕ) (most : i ≤ length line - held) where
  pub fitting-all : i ≡ length cs → (held + i ≡ held + length (fitting line held cs))
      × (laid line held (take i cs) ≡ laid line held (fitting line held cs))
  fitting-all e =
      let all : fitting line held cs ≡ cs = take_all (length line - held) cs (omega arith) in
      let up_to : take i cs ≡ cs = take_all i cs (omega arith) in
      rw (all, up_to) (omega arith, refl)

  pub fitting-full : i ≤ length cs → length line ≤ held + i
      → (held + i ≡ held + length (fitting line held cs))
      × (laid line held (take i cs) ≡ laid line held (fitting line held cs))
  fitting-full few full =
      let left : length line - held ≡ i = omega arith in
      let size = length-take-le i cs few in
      rw left (omega arith, refl)

-- ## A part of a line, by where it ends

-- past the end of the piece
pub taken-past : (line : List ℕ) (held : ℕ) (piece : List ℕ) (at : ℕ) → length piece ≤ at
    → (record { held = held; whole = false; next = at } ≡ taken line held piece at)
    × (line ≡ taken_leaves line held piece at)
unfolding first_at
taken-past line held piece at past =
    let none : fitting line held [] ≡ [] = take-nil (length line - held) in
    rw (drop_of_length-le piece past, none, add-zero held, add-zero at) (refl, laid_none line held)

module _ (line : List ℕ) (held : ℕ) (piece : List ℕ) (at e after : ℕ) (line' : List ℕ) (before : at < length piece)
    (ends : e ≡ at + feed_at (drop at piece))
    (count : after ≡ held + length (fitting line held (take (e - at) (drop at piece)))) (left : line'
    ≡ laid line held (fitting line held (take (e - at) (drop at piece)))) where
  part : part_at piece at ≡ record { chars = take (e - at) (drop at piece); fed = ltb e (length piece) }
  part = (line-by-end piece at e (omega arith) ends).1

  by_place : (fed : Bool) (next : ℕ) → ltb e (length piece) ≡ fed → next ≡ at + width (part_at piece at)
      → (record { held = after; whole = fed; next = next } ≡ taken line held piece at)
      × (line' ≡ taken_leaves line held piece at)
  by_place fed next is-fed behind =
      let chars = sym (ap (λ (l : Line). l.chars) part) in
      let holds : after ≡ held + length (fitting line held (part_at piece at).chars) =
      count ∙ ap (λ (cs : List ℕ). held + length (fitting line held cs)) chars in
      let feed : fed ≡ (part_at piece at).fed = sym is-fed ∙ sym (ap (λ (l : Line). l.fed) part) in
      (cc, left ∙ ap (λ (cs : List ℕ). laid line held (fitting line held cs)) chars)

  -- with its feed
  pub taken-fed : e < length piece → (record { held = after; whole = true; next = e + 1 } ≡ taken line held piece at)
      × (line' ≡ taken_leaves line held piece at)
  taken-fed h = by_place true (e + 1) (lt-ltb e (length piece) h) (behind-fed piece at e ends h)

  -- to the end of the piece
  pub taken-open : length piece ≤ e → (record { held = after; whole = false; next = e } ≡ taken line held piece at)
      × (line' ≡ taken_leaves line held piece at)
  taken-open h = by_place false e (le-ltb e (length piece) h) (behind-open piece at e ends h)

-- ## The buffer of 81 bytes after a part of a line

module _ (line : List ℕ) (held : ℕ) (size : length line
    ≡ most_held) (within : held ≤ most_held) (piece : List ℕ) (at : ℕ) where
  front : length (take held line) ≡ held
  front = length-take-le held line (omega arith)

  pub taken-few : (taken line held piece at).held ≤ most_held
  taken-few = let l = length-take (length line - held) (part_at piece at).chars in omega arith

  -- what is held afterwards: the characters that were held, and the part's, cut at 81
  pub taken-holds : take (taken line held piece at).held (taken_leaves line held piece at)
      ≡ take most_held (take held line ++ (part_at piece at).chars)
  unfolding laid
  taken-holds =
      let cs = (part_at piece at).chars in
      let put = fitting line held cs in
      let all : length (take held line ++ put) ≡ held + length put = let f = front in let l =
      length-append (take held line) put in omega arith in
      let stands : take (held + length put) (laid line held put) ≡ take held line ++ put =
      take_at (take held line ++ put) (drop (held + length put) line) (held + length put) all in
      let split : length (take held line) + (length line - held) ≡ most_held = let f = front in omega arith in
      stands ∙ sym (ap (λ (n : ℕ). take n (take held line ++ cs)) (sym split)
      ∙ take-append-add (take held line) cs (length line - held))
