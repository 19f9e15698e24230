-- Part behind part: where the whole fits, what two parts put is what they are together.
use Rattle.std.specs.Prelude.{ℕ, ◌+◌, ◌-◌, ◌≤◌, ◌≡◌, refl, true, false, List, [], ◌∷◌, ◌++◌, length, take, drop}
use Rattle.std.proofs.Common.{sym, ap, ◌∙◌, append_assoc, arith, leb-true, length-append}
use Rattle.basic_laws.specs.Laid.{laid}
use Rattle.basic_laws.specs.LaidLaws.{laid-length, laid-read, laid_then}
use Rattle.refusals.specs.Refusals.{accepted, no_room}
use Rattle.text.specs.Laying.{has_room, lay_answer, lay_leaves}
use Rattle.text.proofs.LayingLaws.{lay-fits}
use Rattle.text.specs.declared.laying.Written.{Written}
use Rattle.text.specs.Putting.{Puts, field_next, field_leaves, line_room, line_answer, line_leaves}

-- what a call that lays all or nothing puts
pub puts-laid : (d : List ℕ) (at : ℕ) (x d' : List ℕ) (w : Written) → w ≡ lay_answer d at x → d' ≡ lay_leaves d at x
    → Puts d at x d' w.next
puts-laid d at x d' w answer leaves = record {
  puts = λ fits.
      let done = lay-fits d at x fits in
      (leaves ∙ done.1, ap (λ (v : Written). v.next) (answer ∙ done.0));
}

module _ {d : List ℕ} {at : ℕ} {x d₁ : List ℕ} {n : ℕ} (one : Puts d at x d₁ n) where
  pub puts_then : {y d₂ : List ℕ} {m : ℕ} → Puts d₁ n y d₂ m → Puts d at (x ++ y) d₂ m
  puts_then {y} {d₂} {m} two = record {
    puts = λ fits.
        let both = length-append x y in
        let first = one.puts (omega arith) in
        let same = ap length first.0 ∙ laid-length d at x (omega arith) in
        let place = first.1 in
        let second = two.puts (omega arith) in
        let behind = second.1 in (
          second.0 ∙ ap (λ (e : List ℕ). laid e n y) first.0 ∙ laid_then d at x y n (sym place) (omega arith),
          omega arith,
        );
  }

-- ## Fields

-- a field that is laid, and then its mark
pub field-laid : (d : List ℕ) (at : ℕ) (x : List ℕ) (c n : ℕ) (d₁ : List ℕ) (r : ℕ) (d₂ : List ℕ)
    → n ≡ (lay_answer d at x).next → d₁ ≡ lay_leaves d at x
    → r ≡ (lay_answer d₁ n (c ∷ [])).next → d₂ ≡ lay_leaves d₁ n (c ∷ [])
    → (r ≡ field_next d at x c) × (d₂ ≡ field_leaves d at x c)
field-laid d at x c n d₁ r d₂ e f g h = (
  g ∙ ap (λ (u : List ℕ). (lay_answer u n (c ∷ [])).next) f
      ∙ ap (λ (m : ℕ). (lay_answer (lay_leaves d at x) m (c ∷ [])).next) e,
  h ∙ ap (λ (u : List ℕ). lay_leaves u n (c ∷ [])) f ∙ ap (λ (m : ℕ). lay_leaves (lay_leaves d at x) m (c ∷ [])) e,
)

pub field_puts : (d : List ℕ) (at : ℕ) (x : List ℕ) (c : ℕ) (d' : List ℕ) (r : ℕ)
    → (r ≡ field_next d at x c) × (d' ≡ field_leaves d at x c) → Puts d at (x ++ c ∷ []) d' r
field_puts d at x c d' r e =
    let first = puts-laid d at x (lay_leaves d at x) (lay_answer d at x) refl refl in
    let last = puts-laid (lay_leaves d at x) (lay_answer d at x).next (c ∷ []) (field_leaves d at x c)
    (lay_answer (lay_leaves d at x) (lay_answer d at x).next (c ∷ [])) refl refl in
    rw (e.0, e.1) (puts_then first last)

-- a field with its mark, and the rest of the line
pub puts-field : (f : List ℕ) (c : ℕ) {d : List ℕ} {at : ℕ} {d₁ : List ℕ} {n : ℕ} → Puts d at (f ++ c ∷ []) d₁ n
    → {rest d₂ : List ℕ} {m : ℕ} → Puts d₁ n rest d₂ m
    → Puts d at (f ++ c ∷ rest) d₂ m
puts-field f c {d} {at} {d₁} {n} one {rest} {d₂} {m} two = rw (append_assoc f (c ∷ []) rest) at (puts_then one two)

-- ## A whole line

module _ (out : List ℕ) (at : ℕ) (x : List ℕ) where
  pub line_refused : has_room out at line_room ≡ false
      → (record { refusal = no_room; next = 0 } ≡ line_answer out at x) × (out ≡ line_leaves out at x)
  line_refused e = rw e (refl, refl)

  pub line-done : has_room out at line_room ≡ true → length x ≤ line_room → (out' : List ℕ) (r : ℕ) → Puts out at x out' r
      → (record { refusal = accepted; next = r } ≡ line_answer out at x) × (out' ≡ line_leaves out at x)
  line-done e short out' r p =
      let room = leb-true (at + line_room) (length out) e in
      let done = p.puts (omega arith) in
      rw e (ap (λ (n : ℕ). record { refusal = accepted; next = n }) done.1, done.0)

-- ## One character, and what stands in front

-- a character that is laid where it fits
pub char-puts : (d : List ℕ) (at c : ℕ) (d' : List ℕ) (r : ℕ)
    → (r ≡ (lay_answer d at (c ∷ [])).next) × (d' ≡ lay_leaves d at (c ∷ [])) → Puts d at (c ∷ []) d' r
char-puts d at c d' r e = rw e.0 (puts-laid d at (c ∷ []) d' (lay_answer d at (c ∷ [])) refl e.1)

-- what is put at the front of a buffer that holds it, as code takes it from there
pub puts-front : (d x d' : List ℕ) (r : ℕ) → Puts d 0 x d' r → length x ≤ length d
    → (r ≤ length d') × (take (r - 0) (drop 0 d') ≡ x)
puts-front d x d' r p short =
    let done = p.puts (omega arith) in
    let same = ap length done.0 ∙ laid-length d 0 x (omega arith) in
    let place = done.1 in
    let size : r - 0 ≡ length x = omega arith in (
      omega arith,
      ap (λ (l : List ℕ). take (r - 0) (drop 0 l)) done.0 ∙ ap (λ (k : ℕ). take k (laid d 0 x)) size
          ∙ laid-read d 0 x (omega arith),
    )
