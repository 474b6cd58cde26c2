-- The two kinds of label of a sheet, as one kind.
use Rattle.std.specs.Prelude.{ℕ}
use Rattle.std.specs.declared.cmp.Ordering.{Ordering}
use Rattle.label.specs.Counts.{no_count, counted, compared_counts}
use Rattle.label.specs.Eithers.{blank_either, raised_either, compared_either}
use Rattle.label.specs.Sets.{no_marks, with_mark, compared_sets}
use Rattle.label.specs.declared.counting.Count.{Count}
use Rattle.label.specs.declared.counting.Counting.{Counting}
use Rattle.label.specs.declared.either.Either.{Either}
use Rattle.label.specs.declared.lexicographic.Lexicographic.{Lexicographic}
use Rattle.label.specs.declared.lexicographic.MarkSet.{MarkSet}

-- the first is lexicographic, the second counts
abbrev pub SheetKind : Type 0
SheetKind = Either Lexicographic Counting

abbrev pub SheetLabel : Type 0
SheetLabel = Either MarkSet Count

-- the empty label of a kind, a label raised by a mark, and the comparison
abbrev pub empty_label : SheetKind → SheetLabel
empty_label = blank_either (λ k. no_marks) (λ k. no_count)

abbrev pub raised_label : SheetKind → SheetLabel → ℕ → SheetLabel
raised_label = raised_either (λ k. with_mark) (λ k. counted)

abbrev pub compared_labels : SheetKind → SheetLabel → SheetLabel → Ordering
compared_labels = compared_either (λ k. compared_sets) (λ k. compared_counts)
