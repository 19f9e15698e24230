-- The master on a wire of slots (the scope, "One slot" and "The master"): what a run of slots shows, a pass and a whole
-- search, each with the bits that the line showed and with the devices as the last slot left them. A bus is whatever
-- answers resets and slots.
--     slots B offers ds                  the line's bits and the devices after, for the master's bits `offers` one
--                                        after another
--     pass_offers command c               the master's bits in a pass that lists c: the command, then 1, 1 and the bit
--                                        for each bit of c
--     passes B command cs ds             for each code of cs a reset and the slots of its pass, in order
--     wire_pass B command n plan ds       one pass by a plan: a reset, the command, n triples, fewer where nobody
--                                        answers
--     wire_search B command fuel n ds     passes from the empty plan on, up to the pass that leaves no plan or nobody
--                                        answers, at most `fuel`
use Rattle.std.specs.Prelude.{Bool, true, List, [], ◌∷◌, ◌++◌, ℕ, zero, suc}
use Rattle.std.proofs.Math.Option.{Option, none, some, map}
use Rattle.search_laws.specs.Codes.{Code, first, other_bits}
use Rattle.search_laws.specs.Pass.{Triple, triple, Plan, choice, on_some, found, next}

pub record Bus : Type 1 where
  pub Devices : Type 0
  pub line : Bool → Devices → Bool  -- what the line shows in a slot, where the master offers a bit
  pub after : Bool → Devices → Devices  -- the devices after that slot
  pub reset : Devices → Devices

-- What a run of slots gives: the bits that the line showed, in order, and the devices after the last.
pub record SlotsRun (D : Type 0) : Type 0 where
  pub lines : List Bool
  pub devices : D

abbrev pub run : {D : Type 0} → List Bool → D → SlotsRun D
run l ds = record { lines = l; devices = ds }

-- What several passes give: for each pass the line's bits.
pub record Passes (D : Type 0) : Type 0 where
  pub lines : List (List Bool)
  pub devices : D

abbrev pub ran_passes : {D : Type 0} → List (List Bool) → D → Passes D
ran_passes l ds = record { lines = l; devices = ds }

-- What a pass gives: its triples, none where nobody has answered at some bit, and its run.
pub record Pass (D : Type 0) : Type 0 where
  pub triples : Option (List Triple)
  pub lines : List Bool
  pub devices : D

abbrev pub passed : {D : Type 0} → Option (List Triple) → List Bool → D → Pass D
passed o l ds = record { triples = o; lines = l; devices = ds }

-- A pass with a triple before it, in whose third slot the line showed l.
abbrev pub with_triple : {D : Type 0} → Triple → Bool → Pass D → Pass D
with_triple t l p = passed (map (λ ts. t ∷ ts) p.triples) (t.bit ∷ t.co_bit ∷ l ∷ p.lines) p.devices

-- What a search gives: the codes in the order in which they were found, for each pass the line's bits, and the devices
-- after the last slot.
pub record Search (D : Type 0) : Type 0 where
  pub codes : List Code
  pub lines : List (List Bool)
  pub devices : D

abbrev pub searched : {D : Type 0} → List Code → List (List Bool) → D → Search D
searched cs l ds = record { codes = cs; lines = l; devices = ds }

-- A search that ends with a pass in which nobody has answered.
abbrev pub unanswered : {D : Type 0} → Pass D → Search D
unanswered p = searched [] (p.lines ∷ []) p.devices

-- A search with a pass before it, which has found c and shown l.
abbrev pub with_code : {D : Type 0} → Code → List Bool → Search D → Search D
with_code c l s = searched (c ∷ s.codes) (l ∷ s.lines) s.devices

unfoldable pub triple_offers : Code → List Bool
triple_offers [] = []
triple_offers (b ∷ c) = true ∷ true ∷ b ∷ triple_offers c

abbrev pub pass_offers : List Bool → Code → List Bool
pass_offers command c = command ++ triple_offers c

module _ (B : Bus) where
  unfoldable pub slots : List Bool → B.Devices → SlotsRun B.Devices
  slots [] ds = run [] ds
  slots (x ∷ xs) ds = let r = slots xs (B.after x ds) in run (B.line x ds ∷ r.lines) r.devices

  unfoldable pub passes : List Bool → List Code → B.Devices → Passes B.Devices
  passes command [] ds = ran_passes [] ds
  passes command (c ∷ cs) ds =
      let r = slots (pass_offers command c) (B.reset ds) in
      let s = passes command cs r.devices in
      ran_passes (r.lines ∷ s.lines) s.devices

  -- The slots of n bits: two reads, then the bit chosen; where nobody answers, the two reads are the last slots.
  unfoldable pub triplets : ℕ → Plan → B.Devices → Pass B.Devices
  triplets zero plan ds = passed (some []) [] ds
  triplets (suc n) plan ds =
      let once = B.after true ds in
      let twice = B.after true once in
      let a = B.line true ds in
      let b = B.line true once in
      on_some (choice a b (first plan)) (passed none (a ∷ b ∷ []) twice) (λ d.
      with_triple (triple a b d) (B.line d twice) (triplets n (other_bits plan) (B.after d twice)))

  abbrev pub wire_pass : List Bool → ℕ → Plan → B.Devices → Pass B.Devices
  wire_pass command n plan ds =
      let s = slots command (B.reset ds) in
      let r = triplets n plan s.devices in
      passed r.triples (s.lines ++ r.lines) r.devices

  -- The passes that are left: none where the pass before has left no plan, or where `fuel` passes have been made.
  unfoldable pub search_from : List Bool → ℕ → ℕ → Option Plan → B.Devices → Search B.Devices
  search_from command zero n o ds = searched [] [] ds
  search_from command (suc fuel) n none ds = searched [] [] ds
  search_from command (suc fuel) n (some plan) ds =
      let r = wire_pass command n plan ds in
      on_some r.triples (unanswered r) (λ ts.
      with_code (found ts) r.lines (search_from command fuel n (next ts) r.devices))

  abbrev pub wire_search : List Bool → ℕ → ℕ → B.Devices → Search B.Devices
  wire_search command fuel n ds = search_from command fuel n (some []) ds
