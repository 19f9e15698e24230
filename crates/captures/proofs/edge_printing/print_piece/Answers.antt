-- What the reader answers is printed.
use Rattle.captures.proofs.edge_printing.print_piece.Goals as goal

pub returns : goal.returns
returns c =
    let e = c.feed-fed.ensures in
    rw (e.answer, e.written) at c.print_answer.ensures
