-- Laws of truth values: a choice whose test is known, or of which both ways agree, a comparison with a known bit, and
-- the two halves of an AND.
use Rattle.std.specs.Prelude.{Bool, true, false, not, ◌&&◌, ◌≡◌, refl}
use Rattle.std.specs.Bool.{beq}
use Rattle.std.proofs.lemmas.Bool.{false≢true}
use Rattle.std.proofs.Common.{sym, ap}
use Rattle.std.specs.Prelude.{if◌then◌else◌}

-- a choice whose test is known
module _ {A : Type 0} (t : Bool) (a b : A) where
  pub choice-then : t ≡ true → a ≡ (if t then a else b)
  choice-then e = ap (λ (u : Bool). if u then a else b) (sym e)

  pub choice-else : t ≡ false → b ≡ (if t then a else b)
  choice-else e = ap (λ (u : Bool). if u then a else b) (sym e)

-- what holds of both ways of a choice holds of the choice
pub either_way : {A : Type 0} (P : A → Type 0) (u : Bool) (x y : A) → P x → P y → P (if u then x else y)
either_way P true x y p q = p
either_way P false x y p q = q

-- a choice by two tests is a choice in a choice
pub if-and : {A : Type 0} (x y : Bool) (s t : A) → (if x && y then s else t) ≡ (if x then (if y then s else t) else t)
if-and true y s t = refl
if-and false y s t = refl

-- a comparison with a known bit
pub beq-true : (b : Bool) → beq true b ≡ b
beq-true true = refl
beq-true false = refl

pub beq-false : (b : Bool) → beq false b ≡ not b
beq-false true = refl
beq-false false = refl

-- ## Truth values

pub and_left : (a b : Bool) → (a && b) ≡ true → a ≡ true
and_left true b e = refl
and_left false b e = e

pub and_right : (a b : Bool) → (a && b) ≡ true → b ≡ true
and_right true b e = e
and_right false b e = absurd (false≢true e)
