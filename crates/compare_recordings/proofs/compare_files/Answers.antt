-- Both buffers have their length, whatever is stored in them.
use Prim.Native.Nat.{ℕ}
use mathlib.Core.Path.{sym}
use lib.ListN.{length-replicate}
use Rattle.compare_recordings.proofs.compare_files.Goals as goal

pub slice_bounds-compare-end : goal.slice_bounds-compare-end
slice_bounds-compare-end g c =
    sym (length-replicate {0} {A = ℕ} 2097153 0)

pub slice_bounds-compare-end-2 : goal.slice_bounds-compare-end-2
slice_bounds-compare-end-2 g c =
    sym (length-replicate {0} {A = ℕ} 2097153 0)
