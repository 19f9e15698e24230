-- What suits the mender has room for all that can come of a piece.
use Rattle.std.proofs.Common.{ℕ, ◌*◌, ◌≤◌, List, length, arith, mul-le-mul_left}
use Rattle.streams.specs.Following.{Fits}
use Rattle.pieces.specs.Carried.{most_carried}
use Rattle.mending.specs.Notice.{most_told, RoomToMend}

pub room_for : {s left report told : List ℕ} → Fits (λ n. (most_carried ≤ n) × (n ≤ length left) × (n ≤ length report)
    × (most_told * n ≤ length told)) (length s) → RoomToMend s left report told
room_for {s = s} fits =
    let most = mul-le-mul_left {m = length s} {n = fits.size} most_told fits.within in
    record { text = omega (arith, fits.allowed.1); noted = omega (arith, fits.allowed.2); notices = omega (arith, fits.allowed.3) }
