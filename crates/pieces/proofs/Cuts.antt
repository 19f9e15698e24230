-- A piece of a text may be cut anywhere, and its unfinished line to what is carried: the pieces say what the whole says.
use Rattle.std.specs.Prelude.{ℕ, ◌<◌, ◌≤◌, ◌≡◌, refl, Bool, true, leb, length, take}
use Rattle.std.proofs.Common.{sym, ◌∙◌, arith, leb-true, leb-false, length-append, take_all, take-take, length-take-le}
use Rattle.std.proofs.Math.Path.{ap}
use Rattle.std.proofs.Math.Bool.{false}
use mathlib.Core.List.{List, [], ◌∷◌, ◌++◌, append_assoc, append-nil}
use Rattle.std.proofs.lemmas.List.{take-append-le}
use Rattle.basic_laws.specs.Fold.{all}
use Rattle.basic_laws.specs.FoldLaws.{all_take}
use Rattle.text.specs.Lines.{Line, not_feed, lines_of}
use Rattle.pieces.specs.Pieces.{say_all, said, whole, rest, carried, together, pieces, Enough}
use Rattle.pieces.specs.Cuts.{say-append, lines_split, rest_plain, prefixed, nonempty-prefixed}

-- ## The unfinished line may be cut to what is carried

module _ (say : Line → List ℕ) (most : ℕ) (enough : Enough say most) where
  -- lines that agree in what is carried go on to say the same
  module _ (u v : List ℕ) (long-u : most ≤ length u) (long-v : most ≤ length v) (agree : take most u
      ≡ take most v) where
    front_same : (x : List ℕ) (t : Bool) → say record { chars = u ++ x; fed = t }
        ≡ say record { chars = v ++ x; fed = t }
    front_same x t =
        let a : most ≤ length (u ++ x) = rw (length-append u x) (omega arith) in
        let b : most ≤ length (v ++ x) = rw (length-append v x) (omega arith) in
        let e : take most (u ++ x) ≡ take most (v ++ x) =
        take-append-le most u x long-u ∙ agree ∙ sym (take-append-le most v x long-v) in
        enough.same record { chars = u ++ x; fed = t } record { chars = v ++ x; fed = t } a b e refl

    prefixed-same : (ls : List Line) → say_all say (prefixed u ls) ≡ say_all say (prefixed v ls)
    unfolding say_all
    prefixed-same [] = let e = front_same [] false in
        ap (λ (x : List ℕ). x ++ []) (rw (append-nil u, append-nil v) at e)
    prefixed-same (l ∷ ls) = ap (λ (x : List ℕ). x ++ say_all say ls) (front_same l.chars l.fed)

  pub cut-same : (u r : List ℕ) → all not_feed u ≡ true → said say (take most u ++ r) ≡ said say (u ++ r)
  cut-same u r h = by-test (leb (length u) most) refl
    where
      by-test : (t : Bool) → leb (length u) most ≡ t → said say (take most u ++ r) ≡ said say (u ++ r)
      by-test true e = rw (take_all most u (leb-true (length u) most e))
      by-test false e =
          let k = leb-false (length u) most e in
          let v = take most u in
          let some = enough.some in
          let l : length v ≡ most = length-take-le most u (omega arith) in
          let a : most ≤ length v = omega arith in
          let b : most ≤ length u = omega arith in
          let p : 0 < length v = omega arith in
          let q : 0 < length u = omega arith in
          let agree : take most v ≡ take most u = take-take most most u (omega arith) in
          rw (
            nonempty-prefixed v r p (all_take not_feed most u h),
            nonempty-prefixed u r q h,
          ) (prefixed-same v u a b agree (lines_of r))

  -- ## Every way of cutting

  pieces-on : (cs : List (List ℕ)) (u : List ℕ) → pieces say most u cs ≡ said say (u ++ together cs)
  unfolding pieces together
  pieces-on [] u = rw (append-nil u)
  pieces-on (c ∷ cs) u =
      let s = u ++ c in
      let i = pieces-on cs (carried most s) in
      let k = cut-same (rest (lines_of s)) (together cs) (rest_plain s) in
      rw (
        ← append_assoc u c (together cs),
        lines_split s (together cs),
        say-append say (whole (lines_of s)) (lines_of (rest (lines_of s) ++ together cs)),
        i,
        k,
      )

  -- what is said for the pieces of a text is what is said for the whole
  pub any-cuts : (cs : List (List ℕ)) → pieces say most [] cs ≡ said say (together cs)
  any-cuts cs = pieces-on cs []
