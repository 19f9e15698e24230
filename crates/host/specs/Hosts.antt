-- A host that hands a recording over in pieces, as a program: it calls until it hears that the recording is over, with
-- the place and the count of the last answer, hands over the next piece where one is wanted, and says of the last piece
-- that it is the last.
--     line_numbers l                      what is told of a line, as three numbers: its kind, its code and its raw
--                                        reading
--     hears n line held bytes at cs      what the host hears in so many calls, name after name: `bytes` is the piece in
--                                        hand and cs are those to come
--     HostClaim                          whatever the pieces, it hears what is told of the lines of the whole recording
use Rattle.std.specs.Prelude.{ℕ, zero, suc, ◌+◌, ◌<◌, ◌≤◌, ◌≡◌, true, false, List, [], ◌∷◌, ◌++◌, eqb, length}
use Rattle.std.specs.Prelude.{if◌then◌else◌}
use Rattle.text.specs.Lines.{Line}
use Rattle.pieces.specs.Pieces.{said, together}
use Rattle.naming.specs.Naming.{line_named}
use Rattle.naming.specs.declared.Named.{Named}
use Rattle.host.specs.declared.Answer.{Answer}
use Rattle.naming.specs.Streaming.{most_held_of_recording}
use Rattle.host.specs.HostNaming.{done, more_wanted, number_told, next_answer, next_leaves}

-- what is told of a line
abbrev pub name_numbers : Named → List ℕ
name_numbers n = number_told n ∷ n.code ∷ n.raw ∷ []

abbrev pub line_numbers : Line → List ℕ
line_numbers l = name_numbers (line_named l)

-- what a host makes of an answer: it stops, it goes on with the next piece, or it takes the name and goes on with the
-- same
abbrev pub hearing : Answer → List ℕ → List ℕ → List ℕ
hearing a next same =
    if eqb a.kind done then []
    else if eqb a.kind more_wanted then next
    else (a.kind ∷ a.code ∷ a.raw ∷ []) ++ same

unfoldable pub hears : ℕ → List ℕ → ℕ → List ℕ → ℕ → List (List ℕ) → List ℕ
hears zero line held bytes at cs = []
hears (suc n) line held bytes at [] =
    let a = next_answer line held bytes at true in
    hearing a [] (hears n (next_leaves line held bytes at) a.held bytes a.next [])
hears (suc n) line held bytes at (c ∷ cs) =
    let a = next_answer line held bytes at false in
    let after = next_leaves line held bytes at in
    hearing a (hears n after a.held c 0 cs) (hears n after a.held bytes a.next (c ∷ cs))

-- whatever the pieces c and cs of a recording, and whatever stands in the buffer at first: what the host hears is what
-- is told of the lines of the whole recording, each once and in order, in no more calls than the recording has bytes
-- and the host pieces
abbrev pub HostClaim : Type 0
HostClaim =
    (line : List ℕ) → most_held_of_recording ≤ length line → (c : List ℕ) (cs : List (List ℕ)) (n : ℕ)
    → length (together (c ∷ cs)) + length cs < n
    → hears n line 0 c 0 cs ≡ said line_numbers (together (c ∷ cs))
