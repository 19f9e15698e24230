-- What a host hears of a recording that it hands over in pieces: one call after another, by what is left of the
-- recording.
--     hears-whole            the theorem, of `HostClaim`
use Rattle.std.specs.Prelude.{ℕ, zero, suc, ◌+◌, ◌<◌, ◌≤◌, ◌≡◌, Bool, false, ◌&&◌, eqb, ltb}
use Rattle.std.proofs.Math.Path.{refl, sym, ap}
use Rattle.std.proofs.Common.{◌∙◌, arith, add-one, ne_eqb, eqb-true, ltb-true, ltb-false, lit<, length-drop, drop_of_length-le, take-append-drop, take_all, drop-cons, drop-drop, length-take-le}
use Rattle.std.proofs.Math.Bool.{true}
use mathlib.Core.List.{List, [], ◌∷◌, ◌++◌, append_assoc, append-nil}
use Rattle.std.proofs.lemmas.Bool.{eqb-false}
use Rattle.std.proofs.Math.ListN.{length, take, drop, length-append, length-take}
use Rattle.std.specs.Prelude.{if◌then◌else◌}
use Rattle.basic_laws.specs.Fold.{all}
use Rattle.basic_laws.specs.FoldLaws.{all_append, all_take}
use Rattle.basic_laws.specs.FirstLaws.{at_none, at_there}
use Rattle.basic_laws.specs.Laid.{laid}
use Rattle.basic_laws.specs.LaidLaws.{laid-length, laid-read}
use Rattle.refusals.specs.Refusals.{accepted}
use Rattle.text.specs.Lines.{Line, line_feed, not_feed, lines_of, feed_at, first_line, width}
use Rattle.text.specs.LinesLaws.{lines_cut}
use Rattle.pieces.specs.Pieces.{said, say_all, together, Enough}
use Rattle.pieces.specs.Cuts.{alone-open}
use Rattle.pieces.proofs.Cuts.{cut-same}
use Rattle.frame.specs.ReadLineLaws.{read-long}
use Rattle.naming.specs.Naming.{name_number, line_named}
use Rattle.naming.specs.declared.Name.{Name}
use Rattle.naming.specs.declared.Name.TheVariants.{Empty, Search, Alarm, Nobody, Pad, Other}
use Rattle.naming.specs.declared.Named.{Named}
use Rattle.host.specs.declared.Answer.{Answer}
use Rattle.naming.specs.Streaming.{most_held_of_recording}
use Rattle.host.specs.HostNaming.{done, more_wanted, number_told, line_in_hand, told_name, open_told}
use Rattle.host.specs.HostNaming.{place_behind, next_answer, next_leaves}
use Rattle.host.specs.Hosts.{line_numbers, hearing, hears, HostClaim}

-- ## A name is never taken for the end or for a wish

name-other : (n : Name) → (name_number n ≡ done → ⊥) × (name_number n ≡ more_wanted → ⊥)
name-other Empty = (λ e. absurd (omega arith), λ e. absurd (omega arith))
name-other Search = (λ e. absurd (omega arith), λ e. absurd (omega arith))
name-other Alarm = (λ e. absurd (omega arith), λ e. absurd (omega arith))
name-other Nobody = (λ e. absurd (omega arith), λ e. absurd (omega arith))
name-other Pad = (λ e. absurd (omega arith), λ e. absurd (omega arith))
name-other Other = (λ e. absurd (omega arith), λ e. absurd (omega arith))

told-other : (n : Named) → (number_told n ≡ done → ⊥) × (number_told n ≡ more_wanted → ⊥)
told-other n = by-test (eqb n.refusal accepted)
  where
    by-test : (t : Bool) → let k = if t then name_number n.name else 100 + n.refusal in
        (k ≡ done → ⊥) × (k ≡ more_wanted → ⊥)
    by-test true = name-other n.name
    by-test false = (λ e. absurd (omega arith), λ e. absurd (omega arith))

hearing-name : (n : Named) (place : ℕ) (next same : List ℕ)
    → hearing (told_name n place) next same ≡ (number_told n ∷ n.code ∷ n.raw ∷ []) ++ same
hearing-name n place next same =
    rw (ne_eqb (number_told n) done (told-other n).0, ne_eqb (number_told n) more_wanted (told-other n).1)

-- ## What 135 characters tell

long-told : (l : Line) → most_held_of_recording ≤ length l.chars → line_numbers l ≡ 103 ∷ 0 ∷ 0 ∷ []
long-told l h = rw (read-long l (omega arith))

pub host-held-tells : Enough line_numbers most_held_of_recording
host-held-tells = record { some = lit< tt; same = λ l m a b agree fed. long-told l a ∙ sym (long-told m b) }

-- ## The line in hand, and the lines behind it

-- the lines of some bytes behind characters without a feed: where the bytes have a feed, the first is the line in hand
module _ (u b : List ℕ) (plain : all not_feed u ≡ true) where
  module _ (fed : ltb (feed_at b) (length b) ≡ true) where
    parted : b ≡ take (feed_at b) b ++ (line_feed ∷ []) ++ drop (feed_at b + 1) b
    parted =
        let k = feed_at b in
        let h = ltb-true k (length b) fed in
        let feed = at_there line_feed b h in
        let here : drop k b ≡ line_feed ∷ drop (k + 1) b =
        drop-cons b k 0 h ∙ ap (λ (c : ℕ). c ∷ drop (suc k) b) feed
        ∙ ap (λ (j : ℕ). line_feed ∷ drop j b) (sym (add-one k)) in
        sym (take-append-drop k b) ∙ ap (λ (r : List ℕ). take k b ++ r) here
        ∙ sym (append_assoc (take k b) (line_feed ∷ []) (drop (k + 1) b))

    front-plain : all not_feed (u ++ take (feed_at b) b) ≡ true
    front-plain = all_append not_feed u (take (feed_at b) b) ∙ rw (plain, at_none line_feed b)

    pub told-fed : (r : List ℕ) → said line_numbers ((u ++ b) ++ r)
        ≡ line_numbers (line_in_hand u b) ++ said line_numbers (drop (feed_at b + 1) b ++ r)
    unfolding say_all
    told-fed r =
        let x = take (feed_at b) b in
        let f = line_feed ∷ [] in
        let t = drop (feed_at b + 1) b in
        let all-bytes : (u ++ b) ++ r ≡ ((u ++ x) ++ f) ++ (t ++ r) =
        ap (λ (c : List ℕ). (u ++ c) ++ r) parted
        ∙ ap (λ (c : List ℕ). c ++ r) (sym (append_assoc u (x ++ f) t)
        ∙ ap (λ (c : List ℕ). c ++ t) (sym (append_assoc u x f)))
        ∙ append_assoc ((u ++ x) ++ f) t r in
        ap (said line_numbers) all-bytes ∙ ap (say_all line_numbers) (lines_cut (u ++ x) (t ++ r) front-plain)
        ∙ ap (λ (s : Bool). line_numbers record { chars = u ++ x; fed = s } ++ said line_numbers (t ++ r)) (sym fed)

  module _ (unfed : ltb (feed_at b) (length b) ≡ false) where
    pub whole_open : take (feed_at b) b ≡ b
    whole_open = take_all (feed_at b) b (ltb-false (feed_at b) (length b) unfed)

    pub plain-open : all not_feed (u ++ b) ≡ true
    plain-open =
        let none : all not_feed b ≡ true = ap (all not_feed) (sym whole_open) ∙ at_none line_feed b in
        all_append not_feed u b ∙ rw (plain, none)

-- nothing is told of no bytes
said-none : (s : List ℕ) → length s ≡ 0 → said line_numbers s ≡ []
unfolding say_all lines_of
said-none [] h = refl
said-none (c ∷ s) h = absurd (omega arith)

-- ## One call

-- what a host hears in so many calls, where they are enough
abbrev Hears : ℕ → Type 0
Hears n =
    (line : List ℕ) (held : ℕ) (bytes : List ℕ) (at : ℕ) (cs : List (List ℕ)) → most_held_of_recording ≤ length line
    → all not_feed (take held line) ≡ true
    → length (take held line) + length (drop at bytes) + length (together cs) + length cs < n
    → hears n line held bytes at cs ≡ said line_numbers ((take held line ++ drop at bytes) ++ together cs)

module _ (n : ℕ) (ih : Hears n) (line : List ℕ) (held : ℕ) (bytes : List ℕ) (at : ℕ)
    (room : most_held_of_recording ≤ length line) (plain : all not_feed (take held line) ≡ true) where
  abbrev u : List ℕ
  u = take held line

  abbrev b : List ℕ
  b = drop at bytes

  abbrev place : ℕ
  place = place_behind bytes at

  abbrev after : List ℕ
  after = next_leaves line held bytes at

  after-long : most_held_of_recording ≤ length after
  after-long = by-test (eqb held 0 && (line_in_hand u b).fed)
    where
      by-test : (t : Bool) → most_held_of_recording ≤ length (if t then line
          else laid line 0 (take most_held_of_recording (line_in_hand u b).chars))
      by-test true = room
      by-test false =
          let x = take most_held_of_recording (line_in_hand u b).chars in
          let few = length-take most_held_of_recording (line_in_hand u b).chars in
          let l = laid-length line 0 x (omega arith) in
          omega arith

  -- a line that ends in the piece
  module _ (fed : ltb (feed_at b) (length b) ≡ true) where
    behind : (drop place bytes ≡ drop (feed_at b + 1) b) × (length (drop place bytes) < length b)
    behind =
        let k = ltb-true (feed_at b) (length b) fed in
        let d = length-drop at bytes in
        let size : length (take (feed_at b) b) ≡ feed_at b = length-take-le (feed_at b) b (omega arith) in
        let wide : width (first_line b) ≡ feed_at b + 1 =
        ap (λ (t : Bool). if t then length (take (feed_at b) b) + 1 else length (take (feed_at b) b)) fed
        ∙ omega arith in
        let sum : place ≡ at + (feed_at b + 1) = omega arith in
        let same : drop place bytes ≡ drop (feed_at b + 1) b =
        ap (λ (m : ℕ). drop m bytes) sum ∙ sym (drop-drop (feed_at b + 1) at bytes) in
        let l = ap length same ∙ length-drop (feed_at b + 1) b in
        (same, omega arith)

    next-fed : (ended : Bool) → next_answer line held bytes at ended ≡ told_name (line_named (line_in_hand u b)) place
    next-fed ended = ap (λ (t : Bool). if t then told_name (line_named (line_in_hand u b)) place
        else open_told (line_in_hand u b).chars ended place) fed

    hears-fed : (ended : Bool) (next : List ℕ) (cs : List (List ℕ))
        → length u + length b + length (together cs) + length cs < suc n →
        let a = next_answer line held bytes at ended in
        hearing a next (hears n after a.held bytes a.next cs) ≡ said line_numbers ((u ++ b) ++ together cs)
    unfolding all
    hears-fed ended next cs enough =
        let l = line_in_hand u b in
        let less = behind.1 in
        let rest = ih after 0 bytes place cs after-long refl (omega arith)
        ∙ ap (λ (r : List ℕ). said line_numbers (r ++ together cs)) behind.0 in
        ap (λ (a : Answer). hearing a next (hears n after a.held bytes a.next cs)) (next-fed ended)
        ∙ hearing-name (line_named l) place next (hears n after 0 bytes place cs)
        ∙ ap (λ (x : List ℕ). line_numbers l ++ x) rest
        ∙ sym (told-fed u b plain fed (together cs))

  -- one that does not
  module _ (unfed : ltb (feed_at b) (length b) ≡ false) where
    chars-open : (line_in_hand u b).chars ≡ u ++ b
    chars-open = ap (λ (x : List ℕ). u ++ x) (whole_open u b plain unfed)

    next-open : (ended : Bool) → next_answer line held bytes at ended ≡ open_told (u ++ b) ended place
    next-open ended =
        ap (λ (t : Bool). if t then told_name (line_named (line_in_hand u b)) place
        else open_told (line_in_hand u b).chars ended place) unfed
        ∙ ap (λ (cs : List ℕ). open_told cs ended place) chars-open

    after_open : after ≡ laid line 0 (take most_held_of_recording (u ++ b))
    after_open =
        ap (λ (t : Bool). if eqb held 0 && t then line
        else laid line 0 (take most_held_of_recording (line_in_hand u b).chars)) unfed
        ∙ by-held (eqb held 0) ∙ ap (λ (cs : List ℕ). laid line 0 (take most_held_of_recording cs)) chars-open
      where
        by-held : (t : Bool) → let x = laid line 0 (take most_held_of_recording (line_in_hand u b).chars) in
            (if t && false then line else x) ≡ x
        by-held true = refl
        by-held false = refl

    -- it goes on in the next piece
    hears-more : (c : List ℕ) (cs : List (List ℕ)) (same : Answer → List ℕ)
        → length u + length b + length (together (c ∷ cs)) + length (c ∷ cs) < suc n →
        let a = next_answer line held bytes at false in
        hearing a (hears n after a.held c 0 cs) (same a) ≡ said line_numbers ((u ++ b) ++ together (c ∷ cs))
    unfolding together
    hears-more c cs same enough =
        let v = take most_held_of_recording (u ++ b) in
        let front : take (length v) after ≡ v = ap (take (length v)) after_open ∙ laid-read line 0 v (omega arith) in
        let few = length-take most_held_of_recording (u ++ b) in
        let ub = length-append u b in
        let size : length (take (length v) after) ≡ length v = ap length front in
        let ct = length-append c (together cs) in
        let clean : all not_feed (take (length v) after) ≡ true =
        ap (all not_feed) front ∙ all_take not_feed most_held_of_recording (u ++ b) (plain-open u b plain unfed) in
        ap (λ (a : Answer). hearing a (hears n after a.held c 0 cs) (same a)) (next-open false)
        ∙ ih after (length v) c 0 cs after-long clean (omega arith)
        ∙ ap (λ (w : List ℕ). said line_numbers ((w ++ c) ++ together cs)) front
        ∙ ap (said line_numbers) (append_assoc v c (together cs))
        ∙ cut-same line_numbers most_held_of_recording host-held-tells (u ++ b) (c
        ++ together cs) (plain-open u b plain unfed)

    none-past : drop place bytes ≡ []
    none-past =
        let wide : width (first_line b) ≡ length b =
        ap (λ (t : Bool). if t then length (take (feed_at b) b) + 1 else length (take (feed_at b) b)) unfed
        ∙ ap length (whole_open u b plain unfed) in
        let d = length-drop at bytes in
        let past : length bytes ≤ place = omega arith in
        drop_of_length-le bytes past

    -- the recording ends with it
    hears-end : (next : List ℕ) → length u + length b < suc n →
        let a = next_answer line held bytes at true in
        hearing a next (hears n after a.held bytes a.next []) ≡ said line_numbers (u ++ b)
    unfolding all together
    hears-end next enough =
        ap (λ (a : Answer). hearing a next (hears n after a.held bytes a.next [])) (next-open true)
        ∙ by-test (eqb (length (u ++ b)) 0) refl
      where
        ub : length (u ++ b) ≡ length u + length b
        ub = length-append u b

        by-test : (t : Bool) → eqb (length (u ++ b)) 0 ≡ t →
            let a = if t then record { code = 0; next = place; held = 0; kind = done; raw = 0 }
            else told_name (line_named record { chars = u ++ b; fed = false }) place in
            hearing a next (hears n after a.held bytes a.next []) ≡ said line_numbers (u ++ b)
        by-test true e = sym (said-none (u ++ b) (eqb-true (length (u ++ b)) 0 e))
        by-test false e =
            let some = eqb-false (length (u ++ b)) 0 e in
            let sum = ub in
            let l : Line = record { chars = u ++ b; fed = false } in
            let none = ap length none-past in
            let rest = ih after 0 bytes place [] after-long refl (omega arith)
            ∙ said-none (drop place bytes ++ []) (ap length (append-nil (drop place bytes)) ∙ none) in
            hearing-name (line_named l) place next (hears n after 0 bytes place [])
            ∙ ap (λ (x : List ℕ). line_numbers l ++ x) rest
            ∙ sym (alone-open line_numbers (u ++ b) (omega arith) (plain-open u b plain unfed))

-- ## All calls

one_more : (n : ℕ) → Hears n → Hears (suc n)
unfolding hears together
one_more n ih line held bytes at [] room plain enough =
    by-test (ltb (feed_at (drop at bytes)) (length (drop at bytes))) refl
  where
    by-test : (t : Bool) → ltb (feed_at (drop at bytes)) (length (drop at bytes)) ≡ t
        → hears (suc n) line held bytes at [] ≡ said line_numbers ((take held line ++ drop at bytes) ++ [])
    by-test true e = hears-fed n ih line held bytes at room plain e true [] [] enough
    by-test false e =
        hears-end n ih line held bytes at room plain e [] (omega arith)
        ∙ ap (said line_numbers) (sym (append-nil (take held line ++ drop at bytes)))
one_more n ih line held bytes at (c ∷ cs) room plain enough =
    by-test (ltb (feed_at (drop at bytes)) (length (drop at bytes))) refl
  where
    by-test : (t : Bool) → ltb (feed_at (drop at bytes)) (length (drop at bytes)) ≡ t
        → hears (suc n) line held bytes at (c ∷ cs)
        ≡ said line_numbers ((take held line ++ drop at bytes) ++ together (c ∷ cs))
    by-test true e = hears-fed n ih line held bytes at room plain e false (hears n _ _ c 0 cs) (c ∷ cs) enough
    by-test false e =
        let after = next_leaves line held bytes at in
        hears-more n ih line held bytes at room plain e c cs (λ a. hears n after a.held bytes a.next (c ∷ cs))
        enough

hears-on : (n : ℕ) → Hears n
hears-on zero line held bytes at cs room plain enough = absurd (omega arith)
hears-on (suc n) line held bytes at cs room plain enough =
    one_more n (hears-on n) line held bytes at cs room plain enough

pub hears-whole : HostClaim
unfolding all together
hears-whole line room c cs n enough =
    let l = length-append c (together cs) in
    hears-on n line 0 c 0 cs room refl (omega arith)
