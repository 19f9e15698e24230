-- The answer by the book of a history, which knows neither flag nor record; and what an alarm search has to do with it.
--     is_among code codes       whether a code is one of some
--     pad_of b code             the scratchpad of the device with a code, as it stands
--     by_book h code            the answer by the book: reason, reading and limits are those of the code's page, where
--                              the code was added; today's limits are the only thing that is looked up on the bench
--     ByTheBook                after every history the answer for every code is that of the book
--     ListedByReason h         an alarm search after the history lists the added codes whose reason is high, low or
--                              both, and no other code has one of these
--     WhyPromise b code r      the first as what a call promises: of every history that leads to the bench given
use Rattle.std.specs.Prelude.{ℕ, ◌≤◌, Bool, true, false, ◌||◌, ◌≡◌, eqb}
use mathlib.Core.List.{List, [], ◌∷◌, Permᴰ}
use Rattle.std.specs.Prelude.{if◌then◌else◌}
use Rattle.basic_laws.specs.Each.{Each, those}
use Rattle.commands.specs.Commands.{alarm_search}
use Rattle.refusals.specs.Refusals.{accepted}
use Rattle.rom.specs.Code.{code_refusal, sound}
use Rattle.bench.specs.Bench.{free}
use Rattle.bench.specs.Calls.{looked}
use Rattle.bench.specs.declared.Bench.{Bench}
use Rattle.master_rules.specs.Search.{fewest_places, fewest_bytes, search_outcome}
use Rattle.history_laws.specs.History.{Call, Typed, after, added, page}
use Rattle.why.specs.Why.{on_the_list, silent, told_by, why_of}
use Rattle.why.specs.declared.rules.Reason.TheVariants.{NotOnBench}
use Rattle.why.specs.declared.rules.Why.{Why}

abbrev pub is_among : ℕ → List ℕ → Bool
is_among code [] = false
is_among code (c ∷ cs) = eqb c code || is_among code cs

abbrev pub pad_of : Bench → ℕ → List ℕ
pad_of b code = (looked b code).device.scratchpad

abbrev pub by_book : List Call → ℕ → Why
by_book h code =
    if sound code then
    if is_among code (added h) then told_by (page h code) (pad_of (after h) code) else silent accepted NotOnBench
    else silent (code_refusal code) NotOnBench

abbrev pub ByTheBook : Type 0
ByTheBook = (h : List Call) → Each Typed h → (code : ℕ) → why_of (after h) code ≡ by_book h code

pub record ListedByReason (h : List Call) : Type 0 where
  pub listed : free (after h) ≡ true → (places room : ℕ) → fewest_places ≤ places → fewest_bytes ≤ room
      → Permᴰ (those (λ code. on_the_list (why_of (after h) code).reason) (added h))
      (search_outcome alarm_search (after h) places room).listed
  pub no_other : (code : ℕ) → is_among code (added h) ≡ false → on_the_list (why_of (after h) code).reason ≡ false

abbrev pub WhyPromise : Bench → ℕ → Why → Type 0
WhyPromise b code r = (h : List Call) → Each Typed h → after h ≡ b → r ≡ by_book h code
