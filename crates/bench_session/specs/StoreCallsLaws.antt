-- Whose a request is, and what a part of a call has come to, by the room.
--     own-request        a request that is neither the bench's nor a write to a device is one of the store alone
--     own-number         the numbers of such requests among the six
--     nothing-calls      nothing to say, and the store as it is
--     call-refused       without room the store stays
--     call-made          with room the parts are what the call answers
use Rattle.std.specs.Prelude.{ℕ, ◌+◌, ◌≤◌, ◌≡◌, refl, true, false, ◌⊎◌, List, [], length}
use Rattle.std.proofs.Common.{ap, ◌∙◌, ⊎_elim, arith}
use Rattle.basic_laws.specs.LaidLaws.{laid_none}
use Rattle.refusals.specs.Refusals.{accepted, no_room}
use Rattle.text.specs.Laying.{has_room}
use Rattle.text.specs.declared.laying.Written.{Written}
use Rattle.text.specs.Putting.{line_room, line_answer, line_leaves}
use Rattle.settings.specs.declared.Store.{Store}
use Rattle.bench_requests.specs.declared.settings_requests.StoreRequest.{StoreRequest}
use Rattle.bench_requests.specs.declared.settings_requests.StoreRequest.TheVariants.{Other, Add, Remove, Read, Change}
use Rattle.bench_requests.specs.declared.settings_requests.StoreRequest.TheVariants.{Write}
use Rattle.bench_session.specs.StoreCalls.{store_says, store_left, by_whose, called, Calls}
use Rattle.bench_session.specs.declared.settings_calls.Called.{Called}

pub own-request : {A : Type 0} (q : StoreRequest) (bench : A) (write : ℕ → A) (own : A) → (q ≡ Other → ⊥)
    → ((code : ℕ) → q ≡ Write code → ⊥) → by_whose q bench write own ≡ own
own-request Other bench write own not-other not-write = absurd (not-other refl)
own-request (Add code first) bench write own not-other not-write = refl
own-request (Remove code) bench write own not-other not-write = refl
own-request (Read code) bench write own not-other not-write = refl
own-request (Change code version asked) bench write own not-other not-write = refl
own-request (Write code) bench write own not-other not-write = absurd (not-write code refl)

-- as an arm of a match tells them
pub own-number : {n : ℕ} → (n ≡ 1) ⊎ ((n ≡ 2) ⊎ ((n ≡ 3) ⊎ (n ≡ 4))) → (1 ≤ n) × (n ≤ 4)
own-number {n} = ⊎_elim (λ e. (omega arith, omega arith))
    (⊎_elim (λ e. (omega arith, omega arith))
    (⊎_elim (λ e. (omega arith, omega arith)) (λ e. (omega arith, omega arith))))

pub nothing-calls : (d : List ℕ) (s : Store) → has_room d 0 line_room ≡ true
    → Calls d [] s d (record { written = record { refusal = accepted; next = 0 }; store = s })
nothing-calls d s room = record { answer = rw room; left = rw room (laid_none d 0); short = omega arith; store = refl }

module _ (d : List ℕ) (s : Store) (q : StoreRequest) where
  pub call-refused : has_room d 0 line_room ≡ false → (w : Written) → w ≡ record { refusal = no_room; next = 0 }
      → (record { written = w; store = s } ≡ called s q d)
      × ((d ≡ line_leaves d 0 (store_says s q)) × (w.next ≤ line_room))
  call-refused none w e = rw (none, e) (refl, (refl, omega arith))

  pub call-made : has_room d 0 line_room ≡ true → (d' : List ℕ) (r : Called)
      → Calls d (store_says s q) (store_left s q) d' r
      → (r ≡ called s q d) × ((d' ≡ line_leaves d 0 (store_says s q)) × (r.written.next ≤ line_room))
  call-made room d' r made =
      let next : r.written.next ≡ 0 + length (store_says s q) =
      rw room at (ap (λ (w : Written). w.next) made.answer) in
      let short = made.short in
      let line = ap {B = Called} (λ (w : Written). record { written = w; store = r.store }) made.answer in
      let store = ap {B = Called} (λ (t : Store). record { written = line_answer d 0 (store_says s q); store = t })
      made.store in
      (line ∙ store ∙ rw room, (made.left, omega arith))
