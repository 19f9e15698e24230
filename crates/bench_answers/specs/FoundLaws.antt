-- An answer of a search part by part, and that a search is as good with all that is lent as with just enough.
use Rattle.std.specs.Prelude.{ℕ, ◌+◌, ◌*◌, ◌<◌, ◌≤◌, min, ◌≡◌, refl, Bool, true, false, List, ◌++◌, ltb, length, take, get_or}
use Rattle.std.proofs.Common.{sym, ap, subst, ◌∙◌, append_assoc, arith, le-leb, lt-ltb, le-ltb, ltb-true, ltb-false, length-append, length-take-le, take_all}
use Rattle.basic_laws.specs.Laid.{laid}
use Rattle.basic_laws.specs.LaidLaws.{laid_none, laid-length, laid-front, laid_then}
use Rattle.refusals.specs.Refusals.{accepted}
use Rattle.text.specs.Laying.{lay_answer, lay_leaves}
use Rattle.text.proofs.LayingLaws.{lay-fits}
use Rattle.text.specs.declared.laying.Written.{Written}
use Rattle.frame.specs.Recording.{write_all}
use Rattle.bench.specs.declared.Bench.{Bench}
use Rattle.master_rules.specs.Search.{fewest_places, fewest_bytes, Outcome, search_outcome, answer_of, list_after}
use Rattle.master_rules.specs.Search.{recording_after}
use Rattle.master_rules.specs.declared.Searched.{Searched}
use Rattle.search.specs.Sweep.{search-bounded}
use Rattle.bench_answers.specs.Answers.{search_line, code_line, code_lines}
use Rattle.bench_answers.specs.AnswersLaws.{code-length, code-lines-length, codes-next}
use Rattle.text.specs.Putting.{line_room, line_answer, line_leaves}
use Rattle.bench_answers.specs.Said.{says}
use Rattle.bench_answers.specs.declared.call_answers.Said.{Said}
use Rattle.bench_answers.specs.Whole.{room, Says}
use Rattle.bench_answers.specs.Found.{of_search}

-- a line at a place with room for it
module _ (d : List ℕ) (at : ℕ) (x d' : List ℕ) (w : Written) (answer : w ≡ line_answer d at x) (leaves : d'
    ≡ line_leaves d at x) where
  pub line-laid : at + line_room ≤ length d → (w.next ≡ at + length x) × (d' ≡ laid d at x)
  line-laid h =
      let e = le-leb (at + line_room) (length d) h in
      (rw e at (ap (λ (v : Written). v.next) answer), rw e at leaves)

-- ## The three parts of a search's answer

module _ (d head codes frames d₁ d₂ d₃ : List ℕ) (first last : Written) (n : ℕ) (b : Bench) where
  pub says-found : room ≤ length d → length head ≤ line_room → length codes ≤ 544 → length frames ≤ 1824
      → first ≡ line_answer d 0 head → d₁ ≡ line_leaves d 0 head
      → n ≡ first.next + length codes → d₂ ≡ laid d₁ first.next codes
      → last ≡ lay_answer d₂ n frames → d₃ ≡ lay_leaves d₂ n frames
      → Says d (says (head ++ (codes ++ frames)) b) d₃ (record { refusal = accepted; count = last.next; bench = b })
  says-found h short few long one-is one-leaves two_is two-leaves three-is three-leaves =
      let one = line-laid d 0 head d₁ first one-is one-leaves (omega arith) in
      let behind : first.next ≡ length head = one.0 ∙ omega arith in
      let size-one : length d₁ ≡ length d = ap length one.1 ∙ laid-length d 0 head (omega arith) in
      let two : d₂ ≡ laid d 0 (head ++ codes) =
      two-leaves ∙ ap (λ (e : List ℕ). laid e first.next codes) one.1
      ∙ laid_then d 0 head codes first.next (sym one.0) (omega arith) in
      let both = length-append head codes in
      let size-two : length d₂ ≡ length d = ap length two ∙ laid-length d 0 (head ++ codes) (omega arith) in
      let three = lay-fits d₂ n frames (omega arith) in
      let place : 0 + length (head ++ codes) ≡ n = omega arith in
      let all : d₃ ≡ laid d 0 (head ++ (codes ++ frames)) =
      three-leaves ∙ three.1 ∙ ap (λ (e : List ℕ). laid e n frames) two
      ∙ laid_then d 0 (head ++ codes) frames n place (omega arith)
      ∙ ap (laid d 0) (append_assoc head codes frames) in
      let rest = length-append codes frames in
      let whole = length-append head (codes ++ frames) in
      let count : last.next ≡ length (head ++ (codes ++ frames)) =
      ap (λ (w : Written). w.next) (three-is ∙ three.0) ∙ omega arith in
      record {
        said = ap (λ (m : ℕ). record { refusal = accepted; count = m; bench = b }) count;
        laid-is = all;
        fits = omega arith;
      }

pub codes-few : (cs : List ℕ) → length cs ≤ 32 → length (code_lines cs) ≤ 544
codes-few cs h = let l = code-lines-length cs in omega arith

-- ## The lines of codes, as a loop lays them

pub codes-begun : (out : List ℕ) (at : ℕ) (cs : List ℕ) → out ≡ laid out at (code_lines (take 0 cs))
unfolding code_lines
codes-begun out at cs = laid_none out at

module _ (out₀ : List ℕ) (at : ℕ) (cs : List ℕ) (fits : at + 17 * length cs + line_room ≤ length out₀) where
  pub codes-turn : (i to : ℕ) (out out' : List ℕ) (w : Written) → i < length cs → to ≡ at + 17 * i
      → out ≡ laid out₀ at (code_lines (take i cs))
      → w ≡ line_answer out to (code_line (get_or cs i 0)) → out' ≡ line_leaves out to (code_line (get_or cs i 0))
      → (w.next ≡ at + 17 * (i + 1)) × (out' ≡ laid out₀ at (code_lines (take (i + 1) cs)))
  codes-turn i to out out' w within place so answer leaves =
      let front : length (take i cs) ≡ i = length-take-le i cs (omega arith) in
      let long : length (code_lines (take i cs)) ≡ 17 * i =
      code-lines-length (take i cs) ∙ ap (λ (n : ℕ). 17 * n) front in
      let size : length out ≡ length out₀ = ap length so ∙ laid-length out₀ at (code_lines (take i cs)) (omega arith) in
      let done = line-laid out to (code_line (get_or cs i 0)) out' w answer leaves (omega arith) in
      let one = code-length (get_or cs i 0) in
      let behind = done.0 in
      let next : at + length (code_lines (take i cs)) ≡ to = omega arith in (
        omega arith,
        done.1 ∙ ap (λ (d : List ℕ). laid d to (code_line (get_or cs i 0))) so
            ∙ laid_then out₀ at (code_lines (take i cs)) (code_line (get_or cs i 0)) to next (omega arith)
            ∙ ap (laid out₀ at) (sym (codes-next cs i within)),
      )

  pub codes-size : (i : ℕ) (out : List ℕ) → i ≤ length cs → out ≡ laid out₀ at (code_lines (take i cs))
      → length out ≡ length out₀
  codes-size i out h so =
      let long : length (code_lines (take i cs)) ≡ 17 * i =
      code-lines-length (take i cs) ∙ ap (λ (n : ℕ). 17 * n) (length-take-le i cs h) in
      ap length so ∙ laid-length out₀ at (code_lines (take i cs)) (omega arith)

  pub codes-end : (i to : ℕ) (out : List ℕ) → length cs ≤ i → i ≤ length cs → to ≡ at + 17 * i
      → out ≡ laid out₀ at (code_lines (take i cs))
      → (to ≡ at + 17 * length cs) × (out ≡ laid out₀ at (code_lines cs))
  codes-end i to out h k place so = (
    omega arith,
    so ∙ ap (λ (x : List ℕ). laid out₀ at (code_lines x)) (take_all i cs h),
  )

-- ## What a search left in what it was lent

-- the front of a list that was laid over
module _ (command : ℕ) (b : Bench) (list recording list' recording' : List ℕ) (r : Searched) (is : r
    ≡ answer_of (search_outcome command b (length list) (length recording))) where
  pub codes-part : list' ≡ list_after list (search_outcome command b (length list) (length recording))
      → (r.codes ≤ length list') × (take r.codes list'
      ≡ (search_outcome command b (length list) (length recording)).listed)
      × (r.codes ≡ length (take r.codes list'))
  codes-part so =
      laid-front list (search_outcome command b (length list) (length recording)).listed list' r.codes
      (ap (λ (q : Searched). q.codes) is) so
      (search-bounded command b (length list) (length recording)).codes-lent

  pub bytes-part : recording' ≡ recording_after recording (search_outcome command b (length list) (length recording))
      → (r.bytes ≤ length recording') × (take r.bytes recording'
      ≡ write_all (search_outcome command b (length list) (length recording)).frames)
      × (r.bytes ≡ length (take r.bytes recording'))
  bytes-part so =
      laid-front recording (write_all (search_outcome command b (length list) (length recording)).frames) recording'
      r.bytes (ap (λ (q : Searched). q.bytes) is) so
      (search-bounded command b (length list) (length recording)).bytes-lent

module _ (d : List ℕ) (o : Outcome) (r : Searched) (cs fs d' : List ℕ) (s : Said) where
  pub says-outcome : r ≡ answer_of o → cs ≡ o.listed → fs ≡ write_all o.frames
      → Says d (says (search_line r.refusal (length cs) r.passes r.slots (length fs)
      ++ (code_lines cs ++ fs)) r.bench) d' s → Says d (of_search o) d' s
  says-outcome e f g k =
      subst (λ (q : Searched). Says d (says (search_line q.refusal (length o.listed) q.passes q.slots
      (length (write_all o.frames)) ++ (code_lines o.listed ++ write_all o.frames)) q.bench) d' s) e
      (subst (λ (c : List ℕ). Says d (says (search_line r.refusal (length c) r.passes r.slots
      (length (write_all o.frames)) ++ (code_lines c ++ write_all o.frames)) r.bench) d' s) f
      (subst (λ (h : List ℕ). Says d (says (search_line r.refusal (length cs) r.passes r.slots (length h)
      ++ (code_lines cs ++ h)) r.bench) d' s) g k))

-- ## What is lent

least-test : (n m : ℕ) → ltb (min n m) m ≡ ltb n m
least-test n m = by-test (ltb n m) refl
  where
    by-test : (t : Bool) → ltb n m ≡ t → ltb (min n m) m ≡ t
    by-test true e = let h = ltb-true n m e in lt-ltb (min n m) m (omega arith)
    by-test false e = let h = ltb-false n m e in le-ltb (min n m) m (omega arith)

pub just_enough : (command : ℕ) (b : Bench) (places bytes : ℕ)
    → search_outcome command b (min places fewest_places) (min bytes fewest_bytes) ≡ search_outcome command b places bytes
unfolding search_outcome
just_enough command b places bytes = rw (least-test places fewest_places, least-test bytes fewest_bytes)
