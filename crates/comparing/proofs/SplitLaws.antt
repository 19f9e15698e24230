-- A recording split behind each of its feeds, as `split_inclusive` does it: the first part is the first line with its
-- feed, if it has one.
--     split-before, split-left    where a part begins, and what is left behind it
--     split-same, split-other     two parts are equal just where the lines are the same
use Rattle.std.specs.Prelude.{ℕ, zero, suc, ◌+◌, ◌<◌, ◌≤◌, min, ◌≡◌, ◌≢◌, Bool, true, false, List, [], ◌∷◌, ◌++◌, ◌==◌, ltb, length, take, drop, get_or}
use Rattle.std.proofs.Common.{refl, sym, ap, ◌∙◌, arith, eqb-true, lt-ltb, le-ltb, ltb-true, ltb-false, length-append, length-drop, drop_at, drop-drop, take_all}
use Rattle.std.proofs.lemmas.Bool.{false≢true}
use Rattle.std.proofs.lemmas.List.{get_or_append_left, get_or_past, take-append-le, take_more}
use Rattle.std.specs.Prelude.{if◌then◌else◌}
use Rattle.std.specs.List.{IsFirstMatchOrLen}
use Rattle.std.specs.Fn.{ComputesKey}
use denote.Param.Members.{Mut}
use denote.Ref.{Bor}
use Rattle.basic_laws.specs.First.{first_at}
use Rattle.text.specs.Lines.{Line, line_feed, feed_at, first_line, line_bytes, width, same_line}
use Rattle.text.specs.LinesLaws.{same-line-equal, same-line-itself}

first-place : (v : ℕ) (w : List ℕ) (i : ℕ) → i ≤ length w → IsFirstMatchOrLen (λ c. c == v) w i → first_at v w ≡ i
unfolding first_at
first-place v [] i few h = omega arith
first-place v (c ∷ w) zero few h = let e : (c == v) ≡ true = h.1 (omega arith) 0 in rw e
first-place v (c ∷ w) (suc i) few h =
    let e : (c == v) ≡ false = h.0 0 0 (omega arith) (omega arith) in
    let f = first-place v w i (omega arith)
    (λ k d lo hi. h.0 (suc k) d (omega arith) (omega arith), λ k d. h.1 (omega arith) d) in
    rw e (ap suc f)

same-parts : (cs ds : List ℕ) (t u : Bool) → cs ≡ ds → t ≡ u
    → ◌≡◌ {A = Line} record { chars = cs; fed = t } record { chars = ds; fed = u }
same-parts cs ds t u e f = rw (e, f)

-- what a part says of the text from a place on: it is its front, and ends behind the first feed
pub record Split (s : List ℕ) (at : ℕ) (part left : List ℕ) : Type 0 where
  pub cut : drop at s ≡ part ++ left
  pub some : 0 < length (drop at s)
  pub place : ℕ
  pub long : length part ≡ min (place + 1) (length (drop at s))
  pub first : IsFirstMatchOrLen (λ c. c == line_feed) (drop at s) place

-- as a call of `next` tells it
pub split : {F : Type 0} {g : Mut F (Bor ℕ × Unit {0}) Bool} {f f' : F} {s w part left : List ℕ} {at : ℕ}
    → w ≡ drop at s → (w ≡ part ++ left) × ((i : ℕ) × (length part ≡ min (i + 1) (length w))
    × ((p : ℕ → Bool) → ComputesKey g p f → ComputesKey g p f' × IsFirstMatchOrLen p w i)) × (0 < length w)
    → ComputesKey g (λ c. c == line_feed) f → Split s at part left
split whole step tests = record {
  cut = sym whole ∙ step.0;
  some = rw whole at step.2;
  place = step.1.0;
  long = rw whole at step.1.1;
  first = rw whole at (step.1.2 (λ c. c == line_feed) tests).1;
}

module _ (s : List ℕ) (at : ℕ) (part left : List ℕ) (p : Split s at part left) where
  pub split-before : at < length s
  split-before = let l = length-drop at s in let n = p.some in omega arith

  pub split-left : left ≡ drop (at + length part) s
  split-left =
      sym (drop_at part left (length part) refl) ∙ ap (drop (length part)) (sym p.cut) ∙ drop-drop (length part) at s

  -- past the end any character would stand at the place, a feed among them
  within : p.place ≤ length (drop at s)
  within = by-test (ltb (length (drop at s)) p.place) refl
    where
      by-test : (t : Bool) → ltb (length (drop at s)) p.place ≡ t → p.place ≤ length (drop at s)
      by-test true e =
          let w = drop at s in
          let n : length w ≤ length w = omega arith in
          let none : (get_or w (length w) line_feed == line_feed) ≡ false =
          p.first.0 (length w) line_feed (omega arith) (ltb-true (length w) p.place e) in
          absurd (false≢true (sym (rw (get_or_past w (length w) line_feed n) at none)))
      by-test false e = ltb-false (length (drop at s)) p.place e

  front : (n : ℕ) → n ≤ length part → take n (drop at s) ≡ take n part
  front n h = ap (take n) p.cut ∙ take-append-le n part left h

  feed-place : feed_at (drop at s) ≡ p.place
  feed-place = first-place line_feed (drop at s) p.place within p.first

  -- the line with its feed, if it has one
  pub split-bytes : line_bytes (first_line (drop at s)) ≡ part
  split-bytes = by-test (ltb (feed_at (drop at s)) (length (drop at s))) refl
    where
      by-test : (t : Bool) → ltb (feed_at (drop at s)) (length (drop at s)) ≡ t
          → (if t then take (feed_at (drop at s)) (drop at s) ++ (line_feed ∷ [])
          else take (feed_at (drop at s)) (drop at s)) ≡ part
      by-test true e =
          let w = drop at s in
          let f = feed-place in
          let l = p.long in
          let h : p.place < length w = rw f at (ltb-true (feed_at w) (length w) e) in
          let there = eqb-true (get_or w p.place 0) line_feed (p.first.1 h 0) in
          rw f (ap (λ (c : ℕ). take p.place w ++ (c ∷ [])) (sym there) ∙ sym (take_more w p.place 0 h)
          ∙ front (p.place + 1) (omega arith) ∙ take_all (p.place + 1) part (omega arith))
      by-test false e =
          let w = drop at s in
          let f = feed-place in
          let l = p.long in
          let k = within in
          let h : length w ≤ p.place = rw f at (ltb-false (feed_at w) (length w) e) in
          rw f (front p.place (omega arith) ∙ take_all p.place part (omega arith))

  pub split-width : width (first_line (drop at s)) ≡ length part
  split-width = by-feed (ltb (feed_at (drop at s)) (length (drop at s))) (take (feed_at (drop at s)) (drop at s))
      ∙ ap length split-bytes
    where
      by-feed : (t : Bool) (cs : List ℕ)
          → (if t then length cs + 1 else length cs) ≡ length (if t then cs ++ (line_feed ∷ []) else cs)
      by-feed true cs = sym (length-append cs (line_feed ∷ []))
      by-feed false cs = refl

  -- it is cut off a part as it is cut off the text
  split-line : first_line (drop at s) ≡ first_line part
  split-line =
      let w = drop at s in
      let k = within in
      let l = p.long in
      let same_at : (i d : ℕ) → i < length part → get_or w i d ≡ get_or part i d =
      λ i d h. ap (λ (t : List ℕ). get_or t i d) p.cut ∙ get_or_append_left part left d i h in
      let in-part : feed_at part ≡ p.place =
      first-place line_feed part p.place (omega arith) (
        λ i d lo hi. rw (same_at i d (omega arith)) at (p.first.0 i d lo hi),
        λ h d. rw (same_at p.place d h) at (p.first.1 (omega arith) d),
      ) in
      let chars : take (feed_at w) w ≡ take (feed_at part) part =
      rw (feed-place, in-part) (front p.place (omega arith)) in
      let fed : ltb (feed_at w) (length w) ≡ ltb (feed_at part) (length part) =
      rw (feed-place, in-part) (by-test (ltb p.place (length w)) refl) in
      same-parts (take (feed_at w) w) (take (feed_at part) part) (ltb (feed_at w) (length w))
      (ltb (feed_at part) (length part)) chars fed
    where
      by-test : (t : Bool) → ltb p.place (length (drop at s)) ≡ t
          → ltb p.place (length (drop at s)) ≡ ltb p.place (length part)
      by-test true e =
          let h = ltb-true p.place (length (drop at s)) e in
          let l = p.long in
          e ∙ sym (lt-ltb p.place (length part) (omega arith))
      by-test false e =
          let h = ltb-false p.place (length (drop at s)) e in
          let l = p.long in
          e ∙ sym (le-ltb p.place (length part) (omega arith))

module _ (s t : List ℕ) (at : ℕ) (part left part' left' : List ℕ) (p : Split s at part left)
    (q : Split t at part' left') where
  pub split-same : part ≡ part' → same_line (first_line (drop at s)) (first_line (drop at t)) ≡ true
  split-same e =
      let lines : first_line (drop at s) ≡ first_line (drop at t) =
      split-line s at part left p ∙ ap first_line e ∙ sym (split-line t at part' left' q) in
      ap (λ (l : Line). same_line l (first_line (drop at t))) lines ∙ same-line-itself (first_line (drop at t))

  pub split-other : (part ≢ part') → same_line (first_line (drop at s)) (first_line (drop at t)) ≡ false
  split-other h = by-test (same_line (first_line (drop at s)) (first_line (drop at t))) refl
    where
      by-test : (b : Bool) → same_line (first_line (drop at s)) (first_line (drop at t)) ≡ b → b ≡ false
      by-test true e = absurd (h (sym (split-bytes s at part left p)
          ∙ ap line_bytes (same-line-equal (first_line (drop at s)) (first_line (drop at t)) e)
          ∙ split-bytes t at part' left' q))
      by-test false e = refl
