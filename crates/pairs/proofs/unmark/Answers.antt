use Rattle.std.proofs.Common.{sym}
use Rattle.pairs.proofs.Marking.{unmarks_both}
use Rattle.pairs.proofs.unmark.Goals as goal

pub returns-then-has_row-2 : goal.returns-then-has_row-2
returns-then-has_row-2 c =
    unmarks_both c.args.words.now c.remove.new.words c.remove-then-has_row-2.new.words c.args.v.0 c.args.w.0
    (sym c.if-has_row.ensures) (sym c.if-has_row-2.ensures)
    (rw c.number.ensures at c.remove.ensures) (rw c.number-then-has_row-2.ensures at c.remove-then-has_row-2.ensures)
