-- The buffers have their lengths.
use Rattle.std.proofs.Common.{ℕ, ◌*◌, ◌≤◌, ◌≡◌, lit≤}
use lib.ListN.{length-replicate}
use Rattle.name_frames.proofs.main.Goals as goal

roomy : (b t n m : ℕ) → b ≡ n → t ≡ m → 257 ≤ n → 10 * n ≤ m → (257 ≤ b) × (10 * b ≤ t)
roomy b t n m e f h k = rw (e, f) (h, k)

pub print_recording-requires : goal.print_recording-requires
print_recording-requires c =
    roomy _ _ 65671 656710 (length-replicate {0} {A = ℕ} 65671 0) (length-replicate {0} {A = ℕ} 656710 0) (lit≤ tt)
    (lit≤ tt)
