-- Laws that the proofs of printing rest on: how long the parts are, and that they are laid one behind the other.
use Rattle.std.specs.Prelude.{ℕ, suc, ◌+◌, ◌-◌, ◌<◌, ◌≤◌, ◌≡◌, refl, Bool, true, false, List, [], ◌∷◌, ◌++◌, eqb, length, set, take, drop}
use Rattle.std.proofs.Common.{sym, ap, ◌∙◌, arith, eq-eqb, ne_eqb, lit≤, length-append}
use Rattle.std.specs.Prelude.{if◌then◌else◌}
use Rattle.basic_laws.specs.Laid.{laid}
use Rattle.basic_laws.specs.LaidLaws.{laid-length, laid-store, laid-read, laid_then}
use Rattle.refusals.specs.Refusals.{accepted}
use Rattle.text.specs.Digits.{hex_digits}
use Rattle.text.specs.DigitsLaws.{digits-length}
use Rattle.text.specs.Decimal.{decimal}
use Rattle.text.specs.DecimalLaws.{decimal-length, decimal-most}
use Rattle.text.specs.Lines.{line_feed}
use Rattle.text.specs.Laying.{lay_answer, lay_leaves}
use Rattle.text.proofs.LayingLaws.{lay-fits, lay-behind}
use Rattle.naming.specs.declared.Name.{Name}
use Rattle.naming.specs.declared.Name.TheVariants.{Empty, Search, Alarm, Nobody, Pad, Other}
use Rattle.naming.specs.declared.Named.{Named}
use Rattle.naming.specs.declared.printing.Text.{Text}
use Rattle.text.specs.Lines.{space}
use Rattle.naming.specs.Printing.{word, refused_word, refused_text, detail, described, printed_name, blank_text}
use Rattle.naming.specs.Printing.{printed_text}

-- ## How long the details are

pub spaced-length : (n x : ℕ) → length (space ∷ hex_digits n x) ≡ suc n
spaced-length n x = ap suc (digits-length 16 n x)

pub pad-length : (code raw : ℕ) → length (detail Pad code raw) ≡ 22
pad-length code raw = length-append (space ∷ hex_digits 16 code) (space ∷ hex_digits 4 raw)
    ∙ rw (digits-length 16 16 code, digits-length 16 4 raw)

-- nothing laid, by the place behind it
pub place_none : (at : ℕ) → at ≡ at + 0
place_none at = omega arith

pub word-length : (n : Name) → length (word n) ≤ 6
word-length Empty = lit≤ tt
word-length Search = lit≤ tt
word-length Alarm = lit≤ tt
word-length Nobody = lit≤ tt
word-length Pad = lit≤ tt
word-length Other = lit≤ tt

detail-length : (n : Name) (code raw : ℕ) → length (detail n code raw) ≤ 22
detail-length Empty code raw = lit≤ tt
detail-length Search code raw = let l = spaced-length 16 code in omega arith
detail-length Alarm code raw = let l = spaced-length 16 code in omega arith
detail-length Nobody code raw = lit≤ tt
detail-length Pad code raw = let l = pad-length code raw in omega arith
detail-length Other code raw = lit≤ tt

-- the number of a refusal has at most three digits
module _ (n : ℕ) (small : n < 256) where
  refused-length : length (refused_text n) ≤ 11
  refused-length =
      let d = decimal-length n in
      let m = decimal-most n 2 (omega arith) in
      rw (length-append refused_word (decimal n)) (omega arith)

  -- the text of a refusal, laid in two parts
  module _ (s : List ℕ) (room : 28 ≤ length s) where
    behind : 8 + length (decimal n) ≤ length s
    behind = let d = decimal-length n in let m = decimal-most n 2 (omega arith) in omega arith

    pub refused-laid : lay_leaves (lay_leaves s 0 refused_word) 8 (decimal n) ≡ laid s 0 (refused_text n)
    refused-laid =
        let first = (lay-fits s 0 refused_word (omega arith)).1 in
        let second = behind in
        rw first (lay-behind s 0 refused_word (decimal n) 8 refl second)

    pub refused-next : (lay_answer (lay_leaves s 0 refused_word) 8 (decimal n)).next ≡ length (refused_text n)
    refused-next =
        let first = (lay-fits s 0 refused_word (omega arith)).1 in
        let size = laid-length s 0 refused_word (omega arith) in
        let fits = behind in
        let room-left : 8 + length (decimal n) ≤ length (laid s 0 refused_word) = omega arith in
        rw (first, (lay-fits (laid s 0 refused_word) 8 (decimal n) room-left).0)
        (sym (length-append refused_word (decimal n)))

pub described-length : (n : Named) → n.refusal < 256 → length (described n) ≤ 28
described-length n small = by-test (eqb n.refusal accepted)
  where
    by-test : (t : Bool) → length (if t then word n.name ++ detail n.name n.code n.raw
        else refused_text n.refusal) ≤ 28
    by-test true =
        let w = word-length n.name in let d = detail-length n.name n.code n.raw in
        rw (length-append (word n.name) (detail n.name n.code n.raw)) (omega arith)
    by-test false = let l = refused-length n.refusal small in omega arith

-- ## The text of a name, laid in two parts

module _ (s : List ℕ) (n : Named) (room : 28 ≤ length s) where
  word_fits : 0 + length (word n.name) ≤ length s
  word_fits = let l = word-length n.name in omega arith

  pub word_next : (lay_answer s 0 (word n.name)).next ≡ 0 + length (word n.name)
  word_next = rw (lay-fits s 0 (word n.name) word_fits).0

  pub word-laid : lay_leaves s 0 (word n.name) ≡ laid s 0 (word n.name)
  word-laid = (lay-fits s 0 (word n.name) word_fits).1

  pub named-laid : (e : ℕ) → n.refusal ≡ accepted → e ≡ 0 + length (word n.name)
      → (e + length (detail n.name n.code n.raw) ≡ length (described n))
      × (laid (laid s 0 (word n.name)) e (detail n.name n.code n.raw) ≡ laid s 0 (described n))
  named-laid e h k =
      let w = word n.name in
      let d = detail n.name n.code n.raw in
      let l = word-length n.name in
      let z : e ≤ length s = omega arith in
      let a : e + length d ≡ length (w ++ d) = rw (length-append w d) (omega arith) in
      rw (eq-eqb n.refusal accepted h) (a, laid_then s 0 w d e (sym k) z)

  pub refused-described : (n.refusal ≡ accepted → ⊥) → refused_text n.refusal ≡ described n
  refused-described h = rw (ne_eqb n.refusal accepted h)

-- ## A printed line in the front of 32 bytes

pub text-made : (n : Named) → n.refusal < 256 → (s : List ℕ) (e : ℕ) → e ≡ length (described n)
    → s ≡ laid blank_text 0 (described n)
    → ◌≡◌ {A = Text} record { bytes = set s e line_feed; count = e + 1 } (printed_text n)
unfolding printed_name
text-made n small s e k h =
    let l = described-length n small in
    let p : 0 + length (described n) ≡ e = omega arith in
    let r : e < length blank_text = omega arith in
    let b : set s e line_feed ≡ laid blank_text 0 (described n ++ (line_feed ∷ [])) =
    rw h (laid-store blank_text 0 (described n) line_feed e p r) in
    let c : e + 1 ≡ length (described n ++ (line_feed ∷ [])) =
    rw (length-append (described n) (line_feed ∷ [])) (omega arith) in
    rw (b, c)

pub printed-length : (n : Named) → n.refusal < 256 → length (printed_name n) ≤ 29
unfolding printed_name
printed-length n small = let l = described-length n small in
    rw (length-append (described n) (line_feed ∷ [])) (omega arith)

pub text-fits : (n : Named) → n.refusal < 256 → (printed_text n).count ≤ length (printed_text n).bytes
text-fits n small =
    let l = printed-length n small in
    let r : 0 + length (printed_name n) ≤ length blank_text = omega arith in
    let k = laid-length blank_text 0 (printed_name n) r in
    omega arith

pub text-read : (n : Named) → take ((printed_text n).count - 0) (drop 0 (printed_text n).bytes) ≡ printed_name n
text-read n =
    let z : (printed_text n).count - 0 ≡ length (printed_name n) = omega arith in
    ap (λ (k : ℕ). take k (laid blank_text 0 (printed_name n))) z ∙ laid-read blank_text 0 (printed_name n) (omega arith)
