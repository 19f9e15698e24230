-- What is named is printed.
use Rattle.naming.proofs.printing.print_line.Goals as goal

pub returns : goal.returns
returns c =
    rw (← c.name_line.ensures.answer) c.print_named.ensures
