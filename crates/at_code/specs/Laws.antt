-- The bytes that read slots show, as the loop over them makes them.
use Rattle.std.specs.Prelude.{ℕ, suc, ◌+◌, ◌<◌, zero, ◌*◌, ◌≡◌, refl, Bool, true, List, [], ◌∷◌, ◌++◌, length, set, replicate}
use Rattle.std.proofs.Common.{ap, ◌∙◌, sym, arith, add-one}
use Rattle.search_laws.specs.Wire.{slots}
use Rattle.bench.specs.declared.Bench.{Bench}
use Rattle.commands.specs.Commands.{read_scratchpad}
use Rattle.rom.specs.Code.{family_of}
use Rattle.scratchpad.specs.Judgement.{judged}
use Rattle.at_code.specs.Replies.{replied}
use Rattle.master_rules.specs.Buses.{calls}
use Rattle.std.proofs.lemmas.List.{replicate-append-replicate}
use Rattle.basic_laws.specs.Laid.{laid}
use Rattle.basic_laws.specs.LaidLaws.{laid-store}
use Rattle.search_laws.specs.Reads.{read_slots}
use Rattle.search_laws.specs.Issued.{slots-append}
use Rattle.master_rules.specs.Access.{byte_shown, after_slots, bytes_shown, addressed, judged_reply, fetched}

-- ## Bytes, as the loop over them makes them

slots-then : (m n : ℕ) (b : Bench) → after_slots n (after_slots m b) ≡ after_slots (m + n) b
slots-then m n b =
    sym (ap (λ r. r.devices) (slots-append calls (read_slots m) (read_slots n) b))
    ∙ ap (λ (l : List Bool). (slots calls l b).devices) (replicate-append-replicate m n true)

pub bytes-bench : (n : ℕ) (b : Bench) → after_slots 8 (after_slots (8 * n) b) ≡ after_slots (8 * (n + 1)) b
bytes-bench n b = let e : 8 * n + 8 ≡ 8 * (n + 1) = omega arith in
    slots-then (8 * n) 8 b ∙ ap (λ (k : ℕ). after_slots k b) e

pub shown-length : (n : ℕ) (b : Bench) → length (bytes_shown n b) ≡ n
unfolding bytes_shown
shown-length zero b = refl
shown-length (suc n) b = ap suc (shown-length n (after_slots 8 b))

bytes-snoc : (n : ℕ) (b : Bench) → bytes_shown (suc n) b ≡ bytes_shown n b ++ (byte_shown (after_slots (8 * n) b) ∷ [])
unfolding bytes_shown slots
bytes-snoc zero b = refl
bytes-snoc (suc n) b =
    let e : 8 + 8 * n ≡ 8 * suc n = omega arith in
    ap (λ (l : List ℕ). byte_shown b ∷ l) (bytes-snoc n (after_slots 8 b))
    ∙ ap (λ (c : Bench). byte_shown b ∷ (bytes_shown n (after_slots 8 b) ++ (byte_shown c ∷ []))) (slots-then 8 (8 * n) b
    ∙ ap (λ (k : ℕ). after_slots k b) e)

-- one byte more stored
pub bytes-more : (n : ℕ) (b : Bench) (pad : List ℕ) → n < length pad
    → set (laid pad 0 (bytes_shown n b)) n (byte_shown (after_slots (8 * n) b)) ≡ laid pad 0 (bytes_shown (n + 1) b)
bytes-more n b pad h =
    let e : 0 + length (bytes_shown n b) ≡ n = omega (arith, shown-length n b) in
    laid-store pad 0 (bytes_shown n b) (byte_shown (after_slots (8 * n) b)) n e h
    ∙ ap (laid pad 0) (sym (ap (λ (k : ℕ). bytes_shown k b) (add-one n) ∙ bytes-snoc n b))

-- nine bytes over nine places
pub bytes-all : (b : Bench) → laid (replicate 9 0) 0 (bytes_shown 9 b) ≡ bytes_shown 9 b
unfolding laid bytes_shown
bytes-all b = refl

-- ## A read by its reply

pub fetched-by : (code : ℕ) (b : Bench)
    → let r = replied (addressed code read_scratchpad b) in
    fetched code b ≡ judged_reply r.pad r.bench (judged (family_of code) r.pad)
unfolding fetched replied
fetched-by code b = refl
