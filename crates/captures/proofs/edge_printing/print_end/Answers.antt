-- What the reader answers is printed.
use Rattle.captures.proofs.edge_printing.print_end.Goals as goal

pub returns : goal.returns
returns c =
    let e = c.end-ended.ensures in
    rw (e.answer, e.written) at c.print_answer.ensures
