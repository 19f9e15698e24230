-- What holds of a reader that waits holds where only that it waits is known.
use Rattle.std.proofs.Common.{ℕ, ◌+◌, ◌≤◌, ◌≡◌, true, List, length}
use Rattle.std.proofs.Props.{props}
use Rattle.std.proofs.Math.Logic.{∥∥₁_elim}
use Rattle.captures.specs.declared.edges.Reader.{Reader}
use Rattle.captures.specs.Edges.{feed_answer, feed_leaves, end_answer, end_leaves}
use Rattle.captures.specs.EdgePrinting.{printed_for}
use Rattle.capture_laws.specs.Transcript.{handed_on, enough_room, Waiting, piece_text, piece_after, end_text}
use Rattle.capture_laws.specs.CallLaws.{piece-any, piece-reader, piece-on, end-any}

module _ (r : Reader) (waits : ∥ Waiting r ∥₁) where
  pub piece_told : (s out : List ℕ) → enough_room + length s ≤ length out
      → handed_on (feed_answer r out s) (feed_leaves r out s) ≡ piece_text r s
  piece_told s out room = ∥∥₁_elim waits (hlevel props) (λ w. piece-any r w s out room)

  pub reader_told : (s out : List ℕ) → enough_room + length s ≤ length out
      → (printed_for (feed_answer r out s) (feed_leaves r out s)).reader ≡ piece_after r s
  reader_told s out room = ∥∥₁_elim waits (hlevel props) (λ w. piece-reader r w s out room)

  pub goes_on : (s out : List ℕ) → enough_room + length s ≤ length out
      → (printed_for (feed_answer r out s) (feed_leaves r out s)).going ≡ true
      → let next = (printed_for (feed_answer r out s) (feed_leaves r out s)).reader in
      (next ≡ piece_after r s) × ∥ Waiting next ∥₁
  goes_on s out room on =
      ∥∥₁_elim waits (hlevel props) (λ w. let next = piece-on r w s out room on in (next.0, ∣ next.1 ∣₁))

  pub end_told : (out : List ℕ) → enough_room ≤ length out → handed_on (end_answer r out) (end_leaves r out) ≡ end_text r
  end_told out room = ∥∥₁_elim waits (hlevel props) (λ w. end-any r w out room)
