-- A text split behind each of its feeds, as `split_inclusive` does it: the first part is the first line, and its last
-- character tells whether it has a feed.
--     split-fed              a first part that ends in a feed is the first line and its feed
--     split-open             any other is all that is left, and there is no feed in it
--     split-plain            no character of a part but its last is a feed
use Rattle.std.specs.Prelude.{ℕ, zero, suc, ◌+◌, ◌-◌, ◌<◌, ◌≤◌, min, ◌≡◌, Bool, true, false, List, [], ◌∷◌, ◌++◌, ◌==◌, eqb, ltb, length, take, drop, get_or}
use Rattle.std.proofs.Common.{refl, sym, ap, ◌∙◌, arith, eqb-true, eq-eqb, ltb-true, ltb-false, length-drop, drop_at, drop-drop, drop_of_length-le, drop-cons, get_or-drop}
use Rattle.std.proofs.lemmas.Bool.{false≢true}
use Rattle.std.proofs.lemmas.List.{get_or_append_left, take-append-le, take-take}
use Rattle.std.specs.List.{IsFirstMatchOrLen}
use Rattle.std.specs.Fn.{ComputesKey}
use denote.Param.Members.{Mut}
use denote.Ref.{Bor}
use Rattle.std.specs.Cmp.Lexicographic.{pointwise, same_text}
use Rattle.basic_laws.specs.First.{first_at}
use Rattle.basic_laws.specs.FirstLaws.{at_none}
use Rattle.basic_laws.specs.Fold.{all}
use Rattle.basic_laws.specs.FoldLaws.{all_take}
use Rattle.text.specs.Lines.{line_feed, not_feed, feed_at}

first-place : (v : ℕ) (w : List ℕ) (i : ℕ) → IsFirstMatchOrLen (λ c. c == v) w i → first_at v w ≡ min i (length w)
unfolding first_at
first-place v [] i h = omega arith
first-place v (c ∷ w) zero h = let e : (c == v) ≡ true = h.1 (omega arith) 0 in rw e (omega arith)
first-place v (c ∷ w) (suc i) h =
    let e : (c == v) ≡ false = h.0 0 0 (omega arith) (omega arith) in
    let f = first-place v w i (λ k d lo hi. h.0 (suc k) d (omega arith) (omega arith), λ k d. h.1 (omega arith) d) in
    rw e (omega arith)

-- what a part says of the text from a place on: it is its front, and ends where the first feed stands
pub record Parted (s : List ℕ) (at : ℕ) (part left : List ℕ) : Type 0 where
  pub cut : drop at s ≡ part ++ left
  pub some : 0 < length (drop at s)
  pub place : ℕ
  pub long : length part ≡ min (place + 1) (length (drop at s))
  pub first : IsFirstMatchOrLen (λ c. c == line_feed) (drop at s) place

-- as a call of `next` tells it
pub parted : {F : Type 0} {g : Mut F (Bor ℕ × Unit {0}) Bool} {f f' : F} {s w part left : List ℕ} {at : ℕ}
    → w ≡ drop at s → (w ≡ part ++ left) × ((i : ℕ) × (length part ≡ min (i + 1) (length w))
    × ((p : ℕ → Bool) → ComputesKey g p f → ComputesKey g p f' × IsFirstMatchOrLen p w i)) × (0 < length w)
    → ComputesKey g (λ c. c == line_feed) f → Parted s at part left
parted whole step tests = record {
  cut = sym whole ∙ step.0;
  some = rw whole at step.2;
  place = step.1.0;
  long = rw whole at step.1.1;
  first = rw whole at (step.1.2 (λ c. c == line_feed) tests).1;
}

module _ (s : List ℕ) (at : ℕ) (part left : List ℕ) (p : Parted s at part left) where
  pub split-before : at < length s
  split-before = let l = length-drop at s in let n = p.some in omega arith

  pub split-left : left ≡ drop (at + length part) s
  split-left =
      sym (drop_at part left (length part) refl) ∙ ap (drop (length part)) (sym p.cut) ∙ drop-drop (length part) at s

  split-feed : feed_at (drop at s) ≡ min p.place (length (drop at s))
  split-feed = first-place line_feed (drop at s) p.place p.first

  -- the last character of the part stands in the text
  last-there : (k : ℕ) → k < length part → get_or (drop at s) k 0 ≡ get_or part k 0
  last-there k h = ap (λ (w : List ℕ). get_or w k 0) p.cut ∙ get_or_append_left part left 0 k h

  pub split-fed : (chars : List ℕ) → chars ≡ take (length part - 1) part → length chars + 1 ≡ length part
      → pointwise eqb (drop (length part - 1) part) (line_feed ∷ []) ≡ true
      → (at + feed_at (drop at s) ≡ at + length chars) × (at + length chars < length s)
      × (chars ≡ take (at + length chars - at) (drop at s))
  split-fed chars front size h =
      let k = length part - 1 in
      let rest_size = length-drop at s in
      let tail : drop k part ≡ line_feed ∷ [] = same_text (drop k part) (line_feed ∷ []) (sym h) in
      let last : get_or part (k + 0) 0 ≡ line_feed =
      sym (get_or-drop k part 0 0) ∙ ap (λ (t : List ℕ). get_or t 0 0) tail in
      let same_place : k + 0 ≡ k = omega arith in
      let there : get_or (drop at s) k 0 ≡ line_feed = last-there k (omega arith) ∙ rw same_place at last in
      let feed = split-feed in
      let none_before : k < p.place → ⊥ =
      λ l. false≢true (sym (p.first.0 k 0 (omega arith) l) ∙ eq-eqb (get_or (drop at s) k 0) line_feed there) in
      let here : length chars ≡ p.place = by-place none_before in
      let one : k ≡ at + length chars - at = omega arith in
      let front_kept : take k (drop at s) ≡ take k part =
      ap (take k) p.cut ∙ take-append-le k part left (omega arith) in
      (omega arith, omega arith, front ∙ sym front_kept ∙ ap (λ (n : ℕ). take n (drop at s)) one)
    where
      by-place : (length part - 1 < p.place → ⊥) → length chars ≡ p.place
      by-place none = by-test (ltb (length part - 1) p.place) refl
        where
          by-test : (t : Bool) → ltb (length part - 1) p.place ≡ t → length chars ≡ p.place
          by-test true e = absurd (none (ltb-true (length part - 1) p.place e))
          by-test false e = let f = ltb-false (length part - 1) p.place e in omega arith

  -- no character before the last is a feed
  pub split-plain : all not_feed (take (length part - 1) part) ≡ true
  split-plain =
      let k = length part - 1 in
      let w = drop at s in
      let feed = split-feed in
      let n = p.long in
      let before : k ≤ feed_at w = omega arith in
      let front : take k (take (feed_at w) w) ≡ take k part =
      take-take k (feed_at w) w before ∙ ap (take k) p.cut ∙ take-append-le k part left (omega arith) in
      ap (all not_feed) (sym front) ∙ all_take not_feed k (take (feed_at w) w) (at_none line_feed w)

  pub split-open : pointwise eqb (drop (length part - 1) part) (line_feed ∷ []) ≡ false
      → length s ≤ at + feed_at (drop at s)
  split-open h = by-test (ltb p.place (length (drop at s))) refl
    where
      by-test : (t : Bool) → ltb p.place (length (drop at s)) ≡ t → length s ≤ at + feed_at (drop at s)
      by-test true e =
          let within = ltb-true p.place (length (drop at s)) e in
          let size : length part ≡ suc p.place = omega arith in
          let place : length part - 1 ≡ p.place = omega arith in
          let feed : get_or part p.place 0 ≡ line_feed =
          sym (last-there p.place (omega arith))
          ∙ eqb-true (get_or (drop at s) p.place 0) line_feed (p.first.1 within 0) in
          let tail : drop p.place part ≡ get_or part p.place 0 ∷ [] =
          drop-cons part p.place 0 (omega arith)
          ∙ ap (λ (t : List ℕ). get_or part p.place 0 ∷ t) (drop_of_length-le part {i = suc p.place} (omega arith)) in
          absurd (false≢true (sym h ∙ rw (place, tail, feed)))
      by-test false e =
          let past = ltb-false p.place (length (drop at s)) e in
          let n = length-drop at s in
          let feed = split-feed in
          let most : min p.place (length (drop at s)) ≡ length (drop at s) = omega arith in
          omega arith
