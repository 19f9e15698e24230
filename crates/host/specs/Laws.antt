-- Laws that the proofs of the calls rest on: what is held of a line tells what the line comes to; where characters are
-- laid behind those that are held; and each way in which a call can end, as its definition has it.
use Rattle.std.specs.Prelude.{ℕ, ◌+◌, ◌-◌, ◌<◌, ◌≤◌, min, ◌≡◌, refl, Bool, true, false, ◌&&◌, List, ◌++◌, eqb, leb, ltb, take, drop}
use Rattle.std.proofs.Common.{sym, ap, ◌∙◌, append-nil, eq-eqb, ne_eqb, eqb-true, leb-true, leb-false, le-leb, lt-ltb, le-ltb, length-append, length-take, drop_of_length-le, take_all, take-take, length-take-le}
use native.Mathlib.Omega.{arith}
use Rattle.std.proofs.lemmas.Bool.{eqb-false, lt-leb}
use Rattle.std.proofs.Math.ListN.{length}
use Rattle.std.proofs.lemmas.List.{take-append-le}
use Rattle.std.proofs.Math.Seq.{take-append-add}
use Rattle.std.specs.Prelude.{if◌then◌else◌}
use Rattle.basic_laws.specs.Laid.{laid}
use Rattle.basic_laws.specs.LaidLaws.{laid-length, laid-read}
use Rattle.refusals.specs.Refusals.{no_room}
use Rattle.text.specs.Lines.{Line, feed_at, first_line, width}
use Rattle.text.specs.LinesLaws.{line-by-end, behind-fed, behind-open}
use Rattle.frame.specs.ReadLineLaws.{read-long}
use Rattle.naming.specs.Naming.{refused_name, read_named, line_named}
use Rattle.naming.specs.declared.Named.{Named}
use Rattle.host.specs.declared.Answer.{Answer}
use Rattle.naming.specs.Streaming.{most_held_of_recording}
use Rattle.host.specs.HostNaming.{line_in_hand, held_from, told_name, open_told, line_told, place_behind}
use Rattle.host.specs.HostNaming.{next_answer, next_leaves, lent_answer, lent_leaves}

-- ## What is held of a line tells what it comes to

pub cut-named : (cs : List ℕ) (fed : Bool) → line_named record { chars = take most_held_of_recording cs; fed = fed }
    ≡ line_named record { chars = cs; fed = fed }
cut-named cs fed = by-test (leb (length cs) most_held_of_recording) refl
  where
    by-test : (t : Bool) → leb (length cs) most_held_of_recording ≡ t
        → line_named record { chars = take most_held_of_recording cs; fed = fed }
        ≡ line_named record { chars = cs; fed = fed }
    by-test true e = rw (take_all most_held_of_recording cs (leb-true (length cs) most_held_of_recording e))
    by-test false e =
        let k = leb-false (length cs) most_held_of_recording e in
        let l : length (take most_held_of_recording cs) ≡ most_held_of_recording =
        length-take-le most_held_of_recording cs (omega arith) in
        ap read_named (read-long record { chars = take most_held_of_recording cs; fed = fed } (omega arith)
        ∙ sym (read-long record { chars = cs; fed = fed } (omega arith)))

pub open-cut : (cs : List ℕ) (ended : Bool) (next : ℕ)
    → open_told (take most_held_of_recording cs) ended next ≡ open_told cs ended next
open-cut cs false next = rw (take-take most_held_of_recording most_held_of_recording cs (omega arith))
open-cut cs true next = by-test (eqb (length cs) 0) refl
  where
    size : length (take most_held_of_recording cs) ≡ min most_held_of_recording (length cs)
    size = length-take most_held_of_recording cs

    by-test : (t : Bool) → eqb (length cs) 0 ≡ t
        → open_told (take most_held_of_recording cs) true next ≡ open_told cs true next
    by-test true e =
        let none = eqb-true (length cs) 0 e in
        let l = size in
        rw (e, eq-eqb (length (take most_held_of_recording cs)) 0 (omega arith))
    by-test false e =
        let some = eqb-false (length cs) 0 e in
        let l = size in
        let k : length (take most_held_of_recording cs) ≡ 0 → ⊥ = λ z. some (omega arith) in
        rw (e, ne_eqb (length (take most_held_of_recording cs)) 0 k, cut-named cs false)

-- ## Characters laid behind those that are held

take-least : (k : ℕ) (l : List ℕ) → take (min (length l) k) l ≡ take k l
take-least k l = by-test (leb (length l) k) refl
  where
    by-test : (t : Bool) → leb (length l) k ≡ t → take (min (length l) k) l ≡ take k l
    by-test true e =
        let h = leb-true (length l) k e in
        let m : min (length l) k ≡ length l = omega arith in
        rw m (take_all (length l) l (omega arith) ∙ sym (take_all k l h))
    by-test false e = let h = leb-false (length l) k e in let m : min (length l) k ≡ k = omega arith in rw m

module _ (line : List ℕ) (held : ℕ) (more : List ℕ) (start count : ℕ) (begins : start
    ≡ min held most_held_of_recording) (counts : count ≡ min (length more) (most_held_of_recording - start))
    (room : most_held_of_recording ≤ length line) where
  held-parts : held_from (take held line) more ≡ take start line ++ take count more
  held-parts = by-test (leb held most_held_of_recording) refl
    where
      by-test : (t : Bool) → leb held most_held_of_recording ≡ t
          → held_from (take held line) more ≡ take start line ++ take count more
      by-test true e =
          let h = leb-true held most_held_of_recording e in
          let u = take held line in
          let same : start ≡ held = omega arith in
          let size : length u ≡ held = length-take-le held line (omega arith) in
          let sum : most_held_of_recording ≡ length u + (most_held_of_recording - start) = omega arith in
          ap (λ (n : ℕ). take n (u ++ more)) sum ∙ take-append-add u more (most_held_of_recording - start)
          ∙ ap (λ (x : List ℕ). u ++ x) (sym (take-least (most_held_of_recording - start) more)
          ∙ ap (λ (n : ℕ). take n more) (sym counts))
          ∙ ap (λ (n : ℕ). take n line ++ take count more) (sym same)
      by-test false e =
          let h = leb-false held most_held_of_recording e in
          let same : start ≡ most_held_of_recording = omega arith in
          let none : count ≡ 0 = omega arith in
          let size = length-take held line in
          rw (same, none)
          (take-append-le most_held_of_recording (take held line) more (omega arith)
          ∙ take-take most_held_of_recording held line (omega arith) ∙ sym (append-nil (take most_held_of_recording line)))

  part-size : length (take count more) ≡ count
  part-size = length-take-le count more (omega arith)

  front-size : length (take start line) ≡ start
  front-size = length-take-le start line (omega arith)

  pub held-size : start + count ≡ length (held_from (take held line) more)
  held-size =
      let a = front-size in let b = part-size in
      rw held-parts (rw (length-append (take start line) (take count more)) (omega arith))

  pub held-within : start + length (take count more) ≤ length line
  held-within = let b = part-size in omega arith

  pub held-laid : laid line start (take count more) ≡ laid line 0 (held_from (take held line) more)
  unfolding laid
  held-laid =
      let size = held-size in
      let b = part-size in
      let ends : start + length (take count more) ≡ 0 + length (held_from (take held line) more) = omega arith in
      rw ends (rw held-parts)

-- ## The ends of a call

module _ (line : List ℕ) (held : ℕ) (bytes : List ℕ) (at : ℕ) (ended : Bool) where
  pub lent-short : length line < most_held_of_recording
      → (told_name (refused_name no_room) 0 ≡ lent_answer line held bytes at ended) × (line ≡ lent_leaves line held bytes at)
  lent-short h = rw (lt-leb most_held_of_recording (length line) h) (refl, refl)

  module _ (room : most_held_of_recording ≤ length line) (from e : ℕ) (clip : from ≡ min at (length bytes)) (ends : e
      ≡ from + feed_at (drop from bytes)) where
    -- the characters of the first line, where they stand
    abbrev part : List ℕ
    part = take (e - from) (drop from bytes)

    from_place : drop from bytes ≡ drop at bytes
    from_place = by-test (leb at (length bytes)) refl
      where
        by-test : (t : Bool) → leb at (length bytes) ≡ t → drop from bytes ≡ drop at bytes
        by-test true k = let h = leb-true at (length bytes) k in let same : from ≡ at = omega arith in rw same
        by-test false k =
            let h = leb-false at (length bytes) k in
            let a : length bytes ≤ from = omega arith in
            let b : length bytes ≤ at = omega arith in
            drop_of_length-le bytes a ∙ sym (drop_of_length-le bytes b)

    pub ends-within : e ≤ length bytes
    ends-within = (line-by-end bytes from e (omega arith) ends).0

    first-given : first_line (drop at bytes) ≡ record { chars = part; fed = ltb e (length bytes) }
    first-given = ap first_line (sym from_place) ∙ (line-by-end bytes from e (omega arith) ends).1

    behind : (n : ℕ) → n ≡ from + width (first_line (drop from bytes)) → n ≡ place_behind bytes at
    behind n h = h ∙ ap (λ (b : List ℕ). from + width (first_line b)) from_place
        ∙ ap (λ (k : ℕ). k + width (first_line (drop at bytes))) clip

    -- the line in hand ends where the first line does
    given : line_in_hand (take held line) (drop at bytes)
        ≡ record { chars = take held line ++ part; fed = ltb e (length bytes) }
    given = ap (λ (l : Line). record { chars = take held line ++ l.chars; fed = l.fed }) first-given

    -- what the call answers and leaves, by that line
    answered : (fed : Bool) (next : ℕ) → ltb e (length bytes) ≡ fed → next ≡ place_behind bytes at
        → line_told record { chars = take held line ++ part; fed = fed } ended next ≡ lent_answer line held bytes at ended
    answered fed next h k =
        rw (le-leb most_held_of_recording (length line) room)
        (ap (line_told record { chars = take held line ++ part; fed = fed } ended) k
        ∙ ap (λ (t : Bool). line_told record { chars = take held line ++ part; fed = t } ended (place_behind bytes at))
        (sym h)
        ∙ ap (λ (l : Line). line_told l ended (place_behind bytes at)) (sym given))

    left : (none fed : Bool) → eqb held 0 ≡ none → ltb e (length bytes) ≡ fed
        → (if none && fed then line else laid line 0 (held_from (take held line) part)) ≡ lent_leaves line held bytes at
    left none fed n h =
        rw (le-leb most_held_of_recording (length line) room)
        (ap (λ (t : Bool). if t && fed then line else laid line 0 (held_from (take held line) part)) (sym n)
        ∙ ap (λ (t : Bool). if eqb held 0 && t then line else laid line 0 (held_from (take held line) part)) (sym h)
        ∙ ap (λ (l : Line). if eqb held 0 && l.fed then line
        else laid line 0 (take most_held_of_recording l.chars)) (sym given))

    module _ (fed : e < length bytes) where
      abbrev has-feed : ltb e (length bytes) ≡ true
      has-feed = lt-ltb e (length bytes) fed

      place : e + 1 ≡ place_behind bytes at
      place = behind (e + 1) (behind-fed bytes from e ends fed)

      pub lent-in-place : held ≡ 0 → (a : Answer) → a ≡ told_name (line_named record { chars = part; fed = true }) (e + 1)
          → (a ≡ lent_answer line held bytes at ended) × (line ≡ lent_leaves line held bytes at)
      lent-in-place none a h =
          let front : part ≡ take held line ++ part = rw none refl in (
            h ∙ ap (λ (cs : List ℕ). told_name (line_named record { chars = cs; fed = true }) (e + 1)) front
                ∙ answered true (e + 1) has-feed place,
            left true true (eq-eqb held 0 none) has-feed,
          )

      pub lent-gathered : (held ≡ 0 → ⊥) → (after : List ℕ) (a : Answer)
          → after ≡ laid line 0 (held_from (take held line) part)
          → a ≡ told_name (line_named record { chars = held_from (take held line) part; fed = true }) (e + 1)
          → (a ≡ lent_answer line held bytes at ended) × (after ≡ lent_leaves line held bytes at)
      lent-gathered some after a k h = (
        h ∙ ap (λ (n : Named). told_name n (e + 1)) (cut-named (take held line ++ part) true)
            ∙ answered true (e + 1) has-feed place,
        k ∙ left false true (ne_eqb held 0 some) has-feed,
      )

    pub lent-open : length bytes ≤ e → (after : List ℕ) (a : Answer)
        → after ≡ laid line 0 (held_from (take held line) part)
        → a ≡ open_told (held_from (take held line) part) ended e
        → (a ≡ lent_answer line held bytes at ended) × (after ≡ lent_leaves line held bytes at)
    lent-open past after a k h =
        let no-feed = le-ltb e (length bytes) past in
        let place = behind e (behind-open bytes from e ends past) in (
          h ∙ open-cut (take held line ++ part) ended e ∙ answered false e no-feed place,
          k ∙ by-held (eqb held 0) ∙ left (eqb held 0) false refl no-feed,
        )
      where
        by-held : (t : Bool) → laid line 0 (held_from (take held line) part)
            ≡ (if t && false then line else laid line 0 (held_from (take held line) part))
        by-held true = refl
        by-held false = refl

-- ## What is held stands at the front of the buffer

module _ (line u more : List ℕ) (room : most_held_of_recording ≤ length line) (n : ℕ) (after : List ℕ) (size : n
    ≡ length (held_from u more)) (lies : after ≡ laid line 0 (held_from u more)) where
  few : length (held_from u more) ≤ most_held_of_recording
  few = let l = length-take most_held_of_recording (u ++ more) in omega arith

  pub held-front : take (n - 0) (drop 0 after) ≡ held_from u more
  held-front =
      let z : n - 0 ≡ length (held_from u more) = omega arith in
      rw (z, lies) (laid-read line 0 (held_from u more) (omega arith))

  pub held_fits : n ≤ length after
  held_fits =
      let h = few in
      let l = laid-length line 0 (held_from u more) (omega arith) in
      rw lies (omega arith)

  pub held-few : length (take (n - 0) (drop 0 after)) ≤ most_held_of_recording
  held-few = rw held-front few

-- ## A buffer that is long enough

pub lent-room : (line : List ℕ) (held : ℕ) (bytes : List ℕ) (at : ℕ) (ended : Bool) → most_held_of_recording ≤ length line
    → (a : Answer) (after : List ℕ)
    → a ≡ lent_answer line held bytes at ended → after ≡ lent_leaves line held bytes at
    → (a ≡ next_answer line held bytes at ended) × (after ≡ next_leaves line held bytes at)
lent-room line held bytes at ended room a after h k = let long = le-leb most_held_of_recording (length line) room in
    (rw long at h, rw long at k)
