-- The text of a table, entry by entry.
--     line-length, text-length       97 bytes an entry
--     text-turn, text-end            the text put line by line: what stands there with the rest laid behind it is the
--                                    whole
--     entry-within, entry-is, entry-behind
--                                    an entry cut off those that are left: there is one, it is the next of the table,
--                                    and what is left behind it
--     line-told, line-laid           a line at the front of what is lent, where there is room
use Rattle.std.specs.Prelude.{ℕ, zero, suc, ◌+◌, ◌*◌, ◌-◌, ◌<◌, ◌≤◌, ◌≡◌, refl, true, List, ◌++◌, length, take, drop}
use Rattle.std.proofs.Common.{sym, ap, ◌∙◌, arith, le-leb, length-append, length-drop, drop-drop, length-take-le}
use Rattle.std.proofs.lemmas.List.{drop-take, take-take, take_at, drop_at}
use Rattle.basic_laws.specs.Laid.{laid}
use Rattle.basic_laws.specs.LaidLaws.{laid_none, laid_then}
use Rattle.refusals.specs.Refusals.{accepted}
use Rattle.text.specs.Laying.{has_room}
use Rattle.text.specs.Putting.{line_room, line_answer, line_leaves}
use Rattle.text.specs.DigitsLaws.{hex-length}
use Rattle.packed_session.specs.TableAnswers.{entry_line, table_text}

pub line-length : (t : List ℕ) → 48 ≤ length t → length (entry_line (take 48 t)) ≡ 97
line-length t h =
    let e = length-take-le 48 t h in
    let x = hex-length (take 48 t) in
    simp length-append (omega arith)

pub text-length : (n : ℕ) (t : List ℕ) → 48 * n ≤ length t → length (table_text n t) ≡ 97 * n
unfolding table_text
text-length zero t h = refl
text-length (suc n) t h =
    let d = length-drop 48 t in
    let e = line-length t (omega arith) in
    let i = text-length n (drop 48 t) (omega arith) in
    length-append (entry_line (take 48 t)) (table_text n (drop 48 t)) ∙ omega arith

pub text-turn : (out t : List ℕ) (i : ℕ) → i < 32 → 1536 ≤ length t → 97 * i + 97 ≤ length out
    → laid out (97 * i) (table_text (32 - i) (drop (48 * i) t))
    ≡ laid (laid out (97 * i) (entry_line (take 48 (drop (48 * i) t)))) (97 * (i + 1))
    (table_text (32 - (i + 1)) (drop (48 * (i + 1)) t))
unfolding table_text
text-turn out t i h long room =
    let n : 32 - i ≡ suc (32 - (i + 1)) = omega arith in
    let d = length-drop (48 * i) t in
    let e = line-length (drop (48 * i) t) (omega arith) in
    let at : 97 * i + length (entry_line (take 48 (drop (48 * i) t))) ≡ 97 * (i + 1) = omega arith in
    let l : 97 * (i + 1) ≤ length out = omega arith in
    let on : 48 * i + 48 ≡ 48 * (i + 1) = omega arith in
    rw n (rw (drop-drop 48 (48 * i) t, on) (sym
    (laid_then out (97 * i) (entry_line (take 48 (drop (48 * i) t)))
    (table_text (32 - (i + 1)) (drop (48 * (i + 1)) t)) (97 * (i + 1)) at l)))

pub text-end : (out t : List ℕ) (i : ℕ) → i ≡ 32 → laid out (97 * i) (table_text (32 - i) (drop (48 * i) t)) ≡ out
unfolding table_text
text-end out t i e = let n : 32 - i ≡ 0 = omega arith in rw n (sym (laid_none out (97 * i)))

-- the next of the entries, of which n are behind
module _ (t rest x rest' : List ℕ) (n : ℕ) (at : rest ≡ drop (48 * n) (take 1536 t)) (cut : rest ≡ x ++ rest')
    (size : length x ≡ 48) (long : 1536 ≤ length t) where
  pub entry-within : n < 32
  entry-within =
      let all = length-take-le 1536 t long in
      let left = ap length at ∙ length-drop (48 * n) (take 1536 t) in
      let parts = ap length cut ∙ length-append x rest' in
      omega arith

  pub entry-is : x ≡ take 48 (drop (48 * n) t)
  entry-is =
      let h = entry-within in
      let m = 1536 - 48 * n in
      let whole : 48 * n + m ≡ 1536 = omega arith in
      let front : rest ≡ take m (drop (48 * n) t) = at ∙ ap (λ k. drop (48 * n) (take k t)) (sym whole)
      ∙ drop-take (48 * n) m t in
      sym (take_at x rest' 48 size) ∙ ap (take 48) (sym cut ∙ front) ∙ take-take 48 m (drop (48 * n) t) (omega arith)

  pub entry-behind : rest' ≡ drop (48 * (n + 1)) (take 1536 t)
  entry-behind =
      let on : 48 * n + 48 ≡ 48 * (n + 1) = omega arith in
      sym (drop_at x rest' 48 size) ∙ ap (drop 48) (sym cut ∙ at) ∙ drop-drop 48 (48 * n) (take 1536 t)
      ∙ ap (λ k. drop k (take 1536 t)) on

-- ## A line with room for it, at the front

module _ (out x : List ℕ) (h : line_room ≤ length out) where
  there : has_room out 0 line_room ≡ true
  there = let k : 0 + line_room ≤ length out = omega arith in le-leb (0 + line_room) (length out) k

  pub line-told : line_answer out 0 x ≡ record { refusal = accepted; next = length x }
  line-told = let e : 0 + length x ≡ length x = omega arith in rw (there, e)

  pub line-laid : line_leaves out 0 x ≡ laid out 0 x
  line-laid = rw there
