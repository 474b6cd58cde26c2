use Rattle.std.proofs.Common.{sym}
use Rattle.pairs.proofs.Marking.{marks_both}
use Rattle.pairs.proofs.mark.Goals as goal

pub returns-then-has_row-2 : goal.returns-then-has_row-2
returns-then-has_row-2 c =
    marks_both c.args.words.now c.insert.new.words c.insert-then-has_row-2.new.words c.args.v.0 c.args.w.0
    (sym c.if-has_row.ensures) (sym c.if-has_row-2.ensures) c.insert.auto.words
    (rw c.number.ensures at c.insert.ensures) (rw c.number-then-has_row-2.ensures at c.insert-then-has_row-2.ensures)
