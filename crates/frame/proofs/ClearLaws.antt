-- Whether no bit is set at or past a place, told by the byte at the place and by those behind it.
use Rattle.std.specs.Prelude.{ℕ, ◌≡◌, Bool, ◌&&◌, true, List, [], ◌∷◌, suc, ◌==◌, ◌/◌, ◌%◌, ◌^◌, ◌+◌, ◌-◌, ◌≤◌, ◌<◌, length, take, drop, get_or}
use Rattle.std.proofs.Common.{refl, sym, ap, ◌∙◌, lit<, arith}
use Rattle.std.proofs.lemmas.List.{take_rest}
use Rattle.std.specs.List.{list_all}
use Rattle.basic_laws.specs.Bits.{bytes_bits}
use Rattle.basic_laws.specs.Bytes.{Bytes}
use Rattle.basic_laws.specs.BytesLaws.{bytes_drop}
use Rattle.basic_laws.specs.Fold.{all}
use Rattle.frame.specs.Frames.{clear_from}
use Rattle.frame.specs.FramesLaws.{clear-byte, clear-start, clear_step, clear-end}

zeros-clear-from : (l : List ℕ) → Bytes l → list_all (λ b. b == 0) l ≡ clear_from 0 l
unfolding bytes_bits all
zeros-clear-from [] h = refl
zeros-clear-from (x ∷ l) h =
    let whole : x / 2 ^ 0 ≡ x = omega arith in
    let e : clear_from 0 (x ∷ l) ≡ ((x / 2 ^ 0) == 0 && clear_from 0 l) = clear-byte 0 x l (lit< tt) (h 0) in
    let f = rw whole at e in
    ap (λ (t : Bool). (x == 0) && t) (zeros-clear-from l (λ k. h (suc k))) ∙ sym f

module _ (l : List ℕ) (n : ℕ) where
  pub clear-past : length l ≤ n / 8 → clear_from n l ≡ true
  clear-past h = sym (clear-start l (n % 8) (n / 8) n refl refl) ∙ clear-end l (n % 8) (n / 8) h

  pub clear-here : ((i : ℕ) → get_or l i 0 < 256) → n / 8 < length l → clear_from n l
      ≡ ((get_or l (n / 8) 0 / 2 ^ (n % 8)) == 0
      && list_all (λ b. b == 0) (take (length l - (n / 8 + 1)) (drop (n / 8 + 1) l)))
  clear-here bytes h =
      let behind = drop (n / 8 + 1) l in
      sym (clear-start l (n % 8) (n / 8) n refl refl)
      ∙ clear_step l (n % 8) (n / 8) (omega arith) h (bytes (n / 8))
      ∙ ap (λ (t : Bool). (get_or l (n / 8) 0 / 2 ^ (n % 8)) == 0 && t)
      (sym (zeros-clear-from behind (bytes_drop (n / 8 + 1) l bytes))
      ∙ ap (list_all (λ b. b == 0)) (sym (take_rest l (n / 8 + 1))))
