-- The smallest devices that meet the laws of a search, so that the laws are no empty promise: a code, an alarm flag and
-- a stage (the scope, "One slot", F0h and ECh). A search by F0h lists them all, one by ECh those with the flag set.
--     Small            a device
--     offers, hears    what it puts on the line, and its next stage when the line has shown a bit
--     model n          these devices, for codes of n bits
use Rattle.std.specs.Prelude.{◌≡◌, refl, Bool, true, false, not, cond, List, [], ◌∷◌, ◌++◌, ℕ, suc, ◌<◌, eqb, ltb, length, get_or}
use Rattle.std.specs.Bool.{beq}
use Rattle.std.proofs.Common.{lt-ltb}
use Rattle.std.specs.Prelude.{if◌then◌else◌}
use Rattle.basic_laws.specs.Bits.{bits_of, number_of}
use Rattle.search_laws.specs.Codes.{Code}
use Rattle.search_laws.specs.Searchers.{Model, Takes, Searchers}
use Rattle.search_laws.specs.Keeps.{Keeps}

abbrev pub SEARCH_ROM : ℕ
SEARCH_ROM = 0xF0

abbrev pub ALARM_SEARCH : ℕ
ALARM_SEARCH = 0xEC

-- The three slots of a bit, as a searching device goes through them.
pub data Phase : Type 0 where
  own co way : Phase

pub data Stage : Type 0 where
  quiet chosen : Stage
  command : List Bool → Stage  -- the bits of a command so far
  searching : ℕ → Phase → Stage  -- at this bit of its code

pub record Small : Type 0 where
  pub code : Code
  pub flag : Bool
  pub stage : Stage

abbrev pub at_stage : Small → Stage → Small
at_stage d s = record { code = d.code; flag = d.flag; stage = s }

-- A searching device comes to bit j of n.
abbrev pub small_comes_to : ℕ → ℕ → Stage
small_comes_to n j = if ltb j n then searching j own else chosen

-- A command byte, heard whole.
abbrev pub obeys : ℕ → Bool → ℕ → Stage
obeys n flag b =
    if eqb b SEARCH_ROM then small_comes_to n 0
    else (if eqb b ALARM_SEARCH then (if flag then small_comes_to n 0 else quiet) else quiet)

abbrev pub listens : ℕ → Bool → List Bool → Stage
listens n flag bs = if eqb (length bs) 8 then obeys n flag (number_of bs) else command bs

abbrev pub offers : Code → Stage → Bool
offers c quiet = true
offers c chosen = true
offers c (command bs) = true
offers c (searching j own) = get_or c j false
offers c (searching j co) = not (get_or c j false)
offers c (searching j way) = true

abbrev pub small_hears : ℕ → Bool → Code → Bool → Stage → Stage
small_hears n x c flag quiet = quiet
small_hears n x c flag chosen = chosen
small_hears n x c flag (command bs) = listens n flag (bs ++ x ∷ [])
small_hears n x c flag (searching j own) = searching j co
small_hears n x c flag (searching j co) = searching j way
small_hears n x c flag (searching j way) = if beq (get_or c j false) x then small_comes_to n (suc j) else quiet

abbrev pub model : ℕ → Model
model n = record {
  Dev = Small;
  offer = λ d. offers d.code d.stage;
  hear = λ x d. at_stage d (small_hears n x d.code d.flag d.stage);
  restart = λ d. at_stage d (command []);
}

-- ## The laws

pub comes-to : (n j : ℕ) → j < n → small_comes_to n j ≡ searching j own
comes-to n j h = rw (lt-ltb j n h)

pub way_on : (s : Stage) (b : Bool) → cond b ((if b then s else quiet) ≡ s) ((if b then s else quiet) ≡ quiet)
way_on s true = refl
way_on s false = refl

module _ (n byte : ℕ) (joins : Small → Bool) (stays : (d : Small) (s : Stage) → joins (at_stage d s) ≡ joins d) where
  -- Either command, by who takes part.
  abbrev pub searchers_by : ((d : Small) → Takes (model n)
      (λ e. cond (joins e) (e.stage ≡ small_comes_to n 0) (e.stage ≡ quiet)) (bits_of 8 byte) ((model n).restart d))
      → Searchers (model n) (bits_of 8 byte) n
  searchers_by taken = record {
    code = λ d. d.code;
    joins = joins;
    Own = λ j d. d.stage ≡ small_comes_to n j;
    Co = λ j d. d.stage ≡ searching j co;
    Way = λ j d. d.stage ≡ searching j way;
    Out = λ d. d.stage ≡ quiet;
    hear-code = λ x d. refl;
    hear-joins = λ x d. stays d _;
    restart-code = λ d. refl;
    restart-joins = λ d. stays d _;
    command-taken = taken;
    out-offer = λ d h. rw h;
    out-hear = λ x d h. rw h;
    own-offer = λ j l d h. rw (h, comes-to n j l);
    own-hear = λ j l x d h. rw (h, comes-to n j l);
    co-offer = λ j l d h. rw h;
    co-hear = λ j l x d h. rw h;
    way-offer = λ j l d h. rw h;
    way-hear = λ j l x d h. rw h (way_on (small_comes_to n (suc j)) (beq (get_or d.code j false) x));
  }

unfoldable pub searchers : (n : ℕ) → Searchers (model n) (bits_of 8 SEARCH_ROM) n
unfolding bits_of number_of
searchers n = searchers_by n SEARCH_ROM (λ d. true) (λ d s. refl)
    (λ d. (refl, (refl, (refl, (refl, (refl, (refl, (refl, (refl, refl)))))))))

unfoldable pub alarm_searchers : (n : ℕ) → Searchers (model n) (bits_of 8 ALARM_SEARCH) n
unfolding bits_of number_of
alarm_searchers n =
    searchers_by n ALARM_SEARCH (λ d. d.flag) (λ d s. refl)
    (λ d. (refl, (refl, (refl, (refl, (refl, (refl, (refl, (refl, way_on (small_comes_to n 0) d.flag)))))))))

-- A search keeps all but the stage.
pub small-keeps : (n : ℕ) → Keeps (searchers n) (λ d. at_stage d quiet)
unfolding bits_of searchers
small-keeps n = record {
  command-keeps = λ d. refl;
  own-keeps = λ j l x d h. refl;
  co-keeps = λ j l x d h. refl;
  way-keeps = λ j l x d h. refl;
  out-keeps = λ x d h. refl;
}
