-- What a device has to do for a search to find it (the scope, "One slot", F0h and ECh), as laws about one device. A
-- search by F0h or by ECh is one with another command and another answer to who takes part.
--     Model                  devices one by one: what each offers in a slot, and what it becomes when the line shows a
--                            bit and at a reset
--     Carries B M            a bus on which the line is the AND of the master's bit and all offers, and every device
--                            hears the line's bit
--     wire M                 the bus that is nothing but a list of devices
--     Takes M P bs d         d offers 1 at each of the bits bs that it hears, and then P holds of it
--     Searchers M command n  the laws, for codes of n bits
--     participants Z ds      the codes of those devices that take part
use Rattle.std.specs.Prelude.{◌≡◌, refl, Bool, true, false, not, ◌&&◌, cond, List, [], ◌∷◌, map, ℕ, suc, ◌<◌, get_or}
use Rattle.std.specs.Bool.{beq}
use Rattle.std.specs.Prelude.{if◌then◌else◌}
use Rattle.basic_laws.specs.Fold.{all}
use Rattle.search_laws.specs.Codes.{Code}
use Rattle.search_laws.specs.Wire.{Bus}

pub record Model : Type 1 where
  pub Dev : Type 0
  pub offer : Dev → Bool
  pub hear : Bool → Dev → Dev
  pub restart : Dev → Dev

pub record Carries (B : Bus) (M : Model) : Type 0 where
  pub live : B.Devices → List M.Dev
  pub line-is : (x : Bool) (ds : B.Devices) → B.line x ds ≡ (x && all M.offer (live ds))
  pub after_is : (x : Bool) (ds : B.Devices) → live (B.after x ds) ≡ map (M.hear (B.line x ds)) (live ds)
  pub reset-is : (ds : B.Devices) → live (B.reset ds) ≡ map M.restart (live ds)

abbrev pub wire : Model → Bus
wire M = record {
  Devices = List M.Dev;
  line = λ x ds. x && all M.offer ds;
  after = λ x ds. map (M.hear (x && all M.offer ds)) ds;
  reset = map M.restart;
}

abbrev pub wire-carries : (M : Model) → Carries (wire M) M
wire-carries M = record { live = λ ds. ds; line-is = λ x ds. refl; after_is = λ x ds. refl; reset-is = λ ds. refl }

abbrev pub Takes : (M : Model) → (M.Dev → Type 0) → List Bool → M.Dev → Type 0
Takes M P [] d = P d
Takes M P (b ∷ bs) d = (M.offer d ≡ true) × Takes M P bs (M.hear b d)

pub record Searchers (M : Model) (command : List Bool) (n : ℕ) : Type 1 where
  pub code : M.Dev → Code
  pub joins : M.Dev → Bool  -- it takes part in a search by this command
  pub Own : ℕ → M.Dev → Type 0  -- its next slot sends bit j of its code; at n it has sent all and is chosen
  pub Co : ℕ → M.Dev → Type 0  -- its next slot sends that bit's complement
  pub Way : ℕ → M.Dev → Type 0  -- its next slot takes the bit that the master sends
  pub Out : M.Dev → Type 0  -- it is quiet until the next reset
  pub hear-code : (x : Bool) (d : M.Dev) → code (M.hear x d) ≡ code d
  pub hear-joins : (x : Bool) (d : M.Dev) → joins (M.hear x d) ≡ joins d
  pub restart-code : (d : M.Dev) → code (M.restart d) ≡ code d
  pub restart-joins : (d : M.Dev) → joins (M.restart d) ≡ joins d
  pub command-taken : (d : M.Dev) → Takes M (λ e. cond (joins e) (Own 0 e) (Out e)) command (M.restart d)
  pub out-offer : (d : M.Dev) → Out d → M.offer d ≡ true
  pub out-hear : (x : Bool) (d : M.Dev) → Out d → Out (M.hear x d)
  pub own-offer : (j : ℕ) → j < n → (d : M.Dev) → Own j d → M.offer d ≡ get_or (code d) j false
  pub own-hear : (j : ℕ) → j < n → (x : Bool) (d : M.Dev) → Own j d → Co j (M.hear x d)
  pub co-offer : (j : ℕ) → j < n → (d : M.Dev) → Co j d → M.offer d ≡ not (get_or (code d) j false)
  pub co-hear : (j : ℕ) → j < n → (x : Bool) (d : M.Dev) → Co j d → Way j (M.hear x d)
  pub way-offer : (j : ℕ) → j < n → (d : M.Dev) → Way j d → M.offer d ≡ true
  pub way-hear : (j : ℕ) → j < n → (x : Bool) (d : M.Dev) → Way j d
      → cond (beq (get_or (code d) j false) x) (Own (suc j) (M.hear x d)) (Out (M.hear x d))

unfoldable pub participants : {M : Model} {command : List Bool} {n : ℕ} → Searchers M command n → List M.Dev
    → List Code
participants Z [] = []
participants Z (d ∷ ds) = if Z.joins d then Z.code d ∷ participants Z ds else participants Z ds
