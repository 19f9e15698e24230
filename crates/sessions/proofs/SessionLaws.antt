-- What is said to a text that comes in pieces is what is said to its lines in turn, wherever it was cut; and a piece as
-- a program walks it, line by line. A piece is walked byte by byte: a byte that is no feed makes the held line longer
-- by one, and a feed ends it. What is held are the first 81 characters of the line that the bytes since the last feed
-- make, and by the premise those say what the line says. C is the console, s a state, u the line since the last feed.
use Rattle.std.specs.Prelude.{ℕ, zero, suc, ◌<◌, ◌≤◌, ◌≡◌, Bool, drop}
use Rattle.std.proofs.Math.Path.{refl, ap}
use Rattle.std.proofs.Common.{sym, ◌∙◌}
use Rattle.std.proofs.Math.Bool.{true, false, not}
use mathlib.Core.List.{List, [], ◌∷◌, ◌++◌, append_assoc, append-nil}
use native.Mathlib.Omega.{arith}
use borrow.Author.Tests.{eqb-true, lt-ltb}
use Rattle.std.proofs.Math.Dec.{eqb}
use Rattle.std.proofs.Math.ListN.{length, take}
use Rattle.basic_laws.specs.Fold.{all}
use Rattle.basic_laws.specs.FoldLaws.{all_append}
use Rattle.text.specs.Lines.{Line, line_feed, not_feed, longer, lines_of}
use Rattle.text.specs.LinesLaws.{lines_cut, plain_lines, lines-done, lines_next, line-ends}
use Rattle.pieces.specs.Pieces.{together}
use Rattle.sessions.specs.Gathering.{most_held, part_at, taken, taken_leaves}
use Rattle.sessions.specs.GatheringLaws.{taken-few, taken-holds}
use Rattle.sessions.specs.declared.gathering.Gathered.{Gathered}
use Rattle.sessions.specs.Session.{Console, in_turn, Run, fresh_run, grown, held_ended, end_said, ran_all, heard_all}
use Rattle.sessions.specs.Session.{run_after, said_on, at_end, session, HeldEnough, SessionClaim, ran_line, run_at}
use Rattle.sessions.specs.Session.{Holding}

-- what is cut twice is cut once
take_again : (n : ℕ) (u v : List ℕ) → take n (take n u ++ v) ≡ take n (u ++ v)
take_again zero u v = refl
take_again (suc n) [] v = refl
take_again (suc n) (c ∷ u) v = ap (λ (t : List ℕ). c ∷ t) (take_again n u v)

-- one character, without a feed
abbrev one : ℕ → Line
one c = record { chars = c ∷ []; fed = false }

module _ (C : Console) where
  grown-twice : (r : Run C.State) (c : ℕ) (l : Line)
      → grown r (record { chars = c ∷ l.chars; fed = l.fed }) ≡ grown (grown r (one c)) l
  grown-twice r c l =
      let same : take most_held (r.held ++ (c ∷ l.chars))
      ≡ take most_held (take most_held (r.held ++ (c ∷ [])) ++ l.chars) =
      ap (take most_held) (sym (append_assoc r.held (c ∷ []) l.chars))
      ∙ sym (take_again most_held (r.held ++ (c ∷ [])) l.chars) in
      ap (λ (u : List ℕ). record { state = r.state; held = u }) same

  ran-longer : (r : Run C.State) (c : ℕ) (ls : List Line) → ran_all C r (longer c ls) ≡ ran_all C (grown r (one c)) ls
  unfolding ran_all
  ran-longer r c [] = refl
  ran-longer r c (l ∷ ls) = ap (λ (q : Run C.State). ran_all C (held_ended C q l.fed) ls) (grown-twice r c l)

  heard-longer : (r : Run C.State) (c : ℕ) (ls : List Line)
      → heard_all C r (longer c ls) ≡ heard_all C (grown r (one c)) ls
  unfolding heard_all
  heard-longer r c [] = refl
  heard-longer r c (l ∷ ls) = ap (λ (q : Run C.State). end_said C q l.fed
      ++ heard_all C (held_ended C q l.fed) ls) (grown-twice r c l)

-- the run that the bytes u since the last feed lead to
abbrev holding : {S : Type 0} → S → List ℕ → Run S
holding s u = record { state = s; held = take most_held u }

-- a line, with its feed or without
abbrev line_of : List ℕ → Bool → Line
line_of u fed = record { chars = u; fed = fed }

module _ (C : Console) (enough : HeldEnough C) where
  -- at the end of the input
  finished-some : (s : C.State) (c : ℕ) (u : List ℕ) → all not_feed (c ∷ u) ≡ true
      → at_end C (holding s (c ∷ u)) ≡ in_turn C s (lines_of (c ∷ u))
  unfolding in_turn
  finished-some s c u plain =
      let some : 0 < length (take most_held (c ∷ u)) = omega arith in
      rw (
        lt-ltb 0 (length (take most_held (c ∷ u))) some,
        plain_lines c u plain,
        append-nil (C.says s (line_of (c ∷ u) false)),
      ) (enough.says_same s (line_of (c ∷ u) false))

  finished : (s : C.State) (u : List ℕ) → all not_feed u ≡ true → at_end C (holding s u) ≡ in_turn C s (lines_of u)
  unfolding in_turn lines_of
  finished s [] plain = refl
  finished s (c ∷ u) plain = finished-some s c u plain

  module _ (cs : List (List ℕ)) (later : (s : C.State) (u : List ℕ) → all not_feed u ≡ true
      → session C (holding s u) cs ≡ in_turn C s (lines_of (u ++ together cs))) where
    -- what is said from a run on
    abbrev onward : Run C.State → List ℕ → List ℕ
    onward r c = said_on C r c ++ session C (run_after C r c) cs

    at-feed : (c : List ℕ) (s : C.State) (u : List ℕ) → all not_feed u ≡ true
        → ((v : C.State) → onward (fresh_run v) c ≡ in_turn C v (lines_of (c ++ together cs)))
        → onward (holding s u) (line_feed ∷ c) ≡ in_turn C s (lines_of (u ++ (line_feed ∷ (c ++ together cs))))
    unfolding lines_of ran_all heard_all in_turn
    at-feed c s u plain rest =
        let l = line_of u true in
        let cut : take most_held (take most_held u ++ []) ≡ take most_held u =
        take_again most_held u [] ∙ ap (take most_held) (append-nil u) in
        let held = line_of (take most_held (take most_held u ++ [])) true in
        let says : C.says s held ≡ C.says s l =
        ap (λ (t : List ℕ). C.says s (line_of t true)) cut ∙ enough.says_same s l in
        let leads : C.next s held ≡ C.next s l =
        ap (λ (t : List ℕ). C.next s (line_of t true)) cut ∙ enough.next-same s l in
        let lines = ap lines_of (sym (append_assoc u (line_feed ∷ []) (c ++ together cs)))
        ∙ lines_cut u (c ++ together cs) plain in
        append_assoc (C.says s held) (said_on C (fresh_run (C.next s held)) c)
        (session C (run_after C (fresh_run (C.next s held)) c) cs)
        ∙ ap (λ (t : List ℕ). t ++ onward (fresh_run (C.next s held)) c) says
        ∙ ap (λ (v : C.State). C.says s l ++ onward (fresh_run v) c) leads
        ∙ ap (λ (t : List ℕ). C.says s l ++ t) (rest (C.next s l)) ∙ ap (in_turn C s) (sym lines)

    at_other : (d : ℕ) (c : List ℕ) (s : C.State) (u : List ℕ) → eqb d line_feed ≡ false
        → onward (holding s (u ++ (d ∷ []))) c ≡ in_turn C s (lines_of ((u ++ (d ∷ [])) ++ (c ++ together cs)))
        → onward (holding s u) (d ∷ c) ≡ in_turn C s (lines_of (u ++ (d ∷ (c ++ together cs))))
    unfolding lines_of
    at_other d c s u e rest =
        let r = holding s u in
        let lines : lines_of (d ∷ c) ≡ longer d (lines_of c) = rw e refl in
        let heard-is : said_on C r (d ∷ c) ≡ said_on C (grown r (one d)) c =
        ap (heard_all C r) lines ∙ heard-longer C r d (lines_of c) in
        let ran-is : run_after C r (d ∷ c) ≡ run_after C (grown r (one d)) c =
        ap (ran_all C r) lines ∙ ran-longer C r d (lines_of c) in
        let next : grown r (one d) ≡ holding s (u ++ (d ∷ [])) =
        ap (λ (t : List ℕ). record { state = s; held = t }) (take_again most_held u (d ∷ [])) in
        ap (λ (t : List ℕ). t ++ session C (run_after C r (d ∷ c)) cs) heard-is
        ∙ ap (λ (q : Run C.State). said_on C (grown r (one d)) c ++ session C q cs) ran-is
        ∙ ap (λ (q : Run C.State). onward q c) next ∙ rest
        ∙ ap (λ (t : List ℕ). in_turn C s (lines_of t)) (append_assoc u (d ∷ []) (c ++ together cs))

    piece : (c : List ℕ) (s : C.State) (u : List ℕ) → all not_feed u ≡ true
        → onward (holding s u) c ≡ in_turn C s (lines_of (u ++ (c ++ together cs)))
    unfolding lines_of ran_all heard_all all
    piece [] s u plain = later s u plain
    piece (d ∷ c) s u plain = by-test (eqb d line_feed) refl (λ v. piece c v [] refl) (piece c s (u ++ (d ∷ [])))
      where
        by-test : (t : Bool) → eqb d line_feed ≡ t
            → ((v : C.State) → onward (fresh_run v) c ≡ in_turn C v (lines_of (c ++ together cs)))
            → (all not_feed (u ++ (d ∷ [])) ≡ true → onward (holding s (u ++ (d ∷ []))) c
            ≡ in_turn C s (lines_of ((u ++ (d ∷ [])) ++ (c ++ together cs))))
            → onward (holding s u) (d ∷ c) ≡ in_turn C s (lines_of (u ++ (d ∷ (c ++ together cs))))
        by-test true e anew on = rw (eqb-true d line_feed e) (at-feed c s u plain anew)
        by-test false e anew on =
            let other : not_feed d ≡ true = ap not e in
            let still : all not_feed (u ++ (d ∷ [])) ≡ true = all_append not_feed u (d ∷ []) ∙ rw (plain, other) refl in
            at_other d c s u e (on still)

  pieces-said : (cs : List (List ℕ)) (s : C.State) (u : List ℕ) → all not_feed u ≡ true
      → session C (holding s u) cs ≡ in_turn C s (lines_of (u ++ together cs))
  unfolding session together
  pieces-said [] s u plain = rw (append-nil u) (finished s u plain)
  pieces-said (c ∷ cs) s u plain = piece cs (pieces-said cs) c s u plain

pub session-cuts : (C : Console) → SessionClaim C
unfolding all
session-cuts C enough s cs = pieces-said C enough cs s [] refl

-- ## A piece as a program walks it, line by line

-- what is still to run of a piece that is walked to its end
pub piece-done : (C : Console) (r : Run C.State) (piece : List ℕ) (at : ℕ) → length piece ≤ at
    → run_after C r (drop at piece) ≡ r
unfolding ran_all
piece-done C r piece at past = rw (lines-done piece at past) refl

-- what the part of a line that goes on at a place of a piece comes to, gathered behind what is held
module _ (C : Console) (v : C.State) {line : List ℕ} {held : ℕ} (holding : Holding line held) (piece : List ℕ) (at : ℕ)
    (g : Gathered) (answer : g ≡ taken line held piece at) (line' : List ℕ) (left : line'
    ≡ taken_leaves line held piece at) (before : at < length piece) where
  gathered-is : run_at v line' g.held ≡ grown (run_at v line held) (part_at piece at)
  gathered-is =
      let holds = taken-holds line held holding.size holding.within piece at in
      rw (left, answer) (ap (λ (u : List ℕ). record { state = v; held = u }) holds)

  line-ran : held_ended C (run_at v line' g.held) g.whole ≡ ran_line C (run_at v line held) (part_at piece at)
  line-ran =
      ap (λ (r : Run C.State). held_ended C r g.whole) gathered-is
      ∙ ap (λ (h : Gathered). held_ended C (grown (run_at v line held) (part_at piece at)) h.whole) answer

  pub line-few : g.held ≤ most_held
  line-few = rw answer (taken-few line held holding.size holding.within piece at)

  pub line-place : (at < g.next) × (g.next ≤ length piece)
  line-place = rw answer (line-ends piece at before)

  pub line-rest : (w : C.State) (n : ℕ) → run_at w line' n ≡ held_ended C (run_at v line' g.held) g.whole
      → run_after C (run_at v line held) (drop at piece) ≡ run_after C (run_at w line' n) (drop g.next piece)
  unfolding ran_all
  line-rest w n is =
      ap (ran_all C (run_at v line held)) (lines_next piece at before)
      ∙ ap (λ (h : Gathered). run_after C (ran_line C (run_at v line held) (part_at piece at)) (drop h.next piece))
      (sym answer)
      ∙ ap (λ (r : Run C.State). run_after C r (drop g.next piece)) (sym (is ∙ line-ran))

  pub line-holds : (n : ℕ) → length line' ≡ length line → n ≤ g.held → Holding line' n
  line-holds n same few = record { size = same ∙ holding.size; within = let most = line-few in omega arith }

-- what is said at the end where characters are held
pub end-said : (C : Console) (v : C.State) (u : List ℕ) → 0 < length u
    → C.says v record { chars = u; fed = false } ≡ at_end C record { state = v; held = u }
end-said C v u some = rw (lt-ltb 0 (length u) some) refl
