-- A read behind what goes in front, one more read, and a piece with nothing in front.
--     behind-read, led_by    where a read leads, and one more, also one that brings nothing
--     after-read, led_on     the same where a read that brings nothing leads nowhere
--     all-came               a piece with nothing in front came whole
use Rattle.std.proofs.Common.{ℕ, ◌+◌, ◌<◌, ◌≤◌, ◌≡◌, List, [], ◌∷◌, ◌++◌, length, take, drop, refl, ap, subst, sym, arith, length-drop, length-take-le}
use Rattle.std.specs.List.{FoldsTo}
use Rattle.std.proofs.lemmas.Fn.{FoldsTo-push}
use Rattle.std.proofs.lemmas.List.{drop-take}
use Rattle.pieces.specs.Carried.{behind}
use Rattle.streams.specs.Following.{After}

module _ {F : Type 0} (R : F → List ℕ → F → Type 0) where
  -- what stands behind what is carried is what came
  pub behind-read : (f g : F) (u buffer : List ℕ) (held n : ℕ) → held + n ≤ length buffer
      → take held buffer ≡ u → R f (drop held (take (held + n) buffer)) g → R f (behind u n buffer) g
  behind-read f g u buffer held n within front leads =
      let size : length u ≡ held = rw (sym front) (length-take-le held buffer (omega arith)) in
      rw size (subst (λ x. R f x g) (drop-take held n buffer) leads)

  after-some : (f g : F) (x : List ℕ) → 0 < length x → R f x g → After R f x g
  after-some f g [] some leads = absurd (omega arith)
  after-some f g (b ∷ bs) some leads = leads

  pub after-read : (f g : F) (u buffer : List ℕ) (held n : ℕ) → held + n ≤ length buffer → 0 < n
      → take held buffer ≡ u → R f (drop held (take (held + n) buffer)) g → After R f (behind u n buffer) g
  after-read f g u buffer held n within some front leads =
      let size : length u ≡ held = rw (sym front) (length-take-le held buffer (omega arith)) in
      let all : length (behind u n buffer) ≡ n =
      let left = length-drop held buffer in rw size (length-take-le n (drop held buffer) (omega arith)) in
      after-some f g (behind u n buffer) (omega arith) (behind-read f g u buffer held n within front leads)

  pub led_by : (p f g : F) (x : List ℕ) → (pieces : List (List ℕ)) × FoldsTo R p pieces f → R f x g
      → (pieces : List (List ℕ)) × FoldsTo R p pieces g
  led_by p f g x (pieces, led) leads = (pieces ++ (x ∷ []), FoldsTo-push R p pieces f x g led leads)

  pub led_on : (p f g : F) (x : List ℕ) → (pieces : List (List ℕ)) × FoldsTo R p pieces f → After R f x g
      → (pieces : List (List ℕ)) × FoldsTo R p pieces g
  led_on p f g [] (pieces, led) same = (pieces, subst (FoldsTo R p pieces) same led)
  led_on p f g (b ∷ bs) before leads = led_by p f g (b ∷ bs) before leads

pub all-came : (piece : List ℕ) (held : ℕ) → held ≤ length piece → take held piece ≡ [] → drop held piece ≡ piece
all-came piece held within none =
    let size = length-take-le held piece within in
    let zero : held ≡ 0 = omega (arith, ap length none) in
    rw zero refl
