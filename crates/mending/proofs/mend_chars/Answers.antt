-- The characters, raised, stand at the front of the array.
use Rattle.std.proofs.Common.{◌≡◌, ◌≤◌, Bool, List, ℕ, map, length, take, replicate, ap, ◌∙◌, arith}
use lib.ListN.{length-map}
use Rattle.std.specs.Prelude.{if◌then◌else◌}
use Rattle.basic_laws.specs.Laid.{laid}
use Rattle.basic_laws.specs.LaidLaws.{laid-length, laid-read}
use Rattle.mending.specs.Mending.{raised, longest_mended}
use Rattle.mending.proofs.SpacesLaws.{pointwise-same}
use Rattle.mending.proofs.RepairLaws.{repaired}
use Rattle.mending.proofs.mend_chars.Goals as goal

-- the characters, raised, and the array's length
there : (cs chars : List ℕ) → length cs ≤ longest_mended → chars ≡ laid (replicate 257 0) 0 (map raised cs)
    → (length chars ≡ 257) × (take (length cs) chars ≡ map raised cs)
there cs chars few so =
    let size = length-map cs raised in (
      ap length so ∙ laid-length (replicate 257 0) 0 (map raised cs) (omega arith),
      ap (take (length cs)) so ∙ rw (← size) (laid-read (replicate 257 0) 0 (map raised cs) (omega arith)),
    )

pub returns : goal.returns
returns c =
    let cs = c.args.line.now in
    let chars = c.put_raised.new.out in
    let front = there cs chars c.requires c.put_raised.ensures in
    repaired cs chars front.1 c.before_return-unreturned.result c.before_return-unreturned.ensures c.requires front.0
    c.before_spaces-unspaced.result c.before_spaces-unspaced.ensures c.mark.result c.mark-2.result c.mark-3.result
    (c.mark.ensures.0 ∙ ap (λ (t : Bool). if t then 0 else 1) (c.eq-same.ensures ∙ pointwise-same _ _))
    c.mark-2.ensures.0 c.mark-3.ensures.0
