use Rattle.std.proofs.Common.{vec_items, sym, ◌∙◌}
use Rattle.std.proofs.lemmas.Bool.{both_ways}
use Rattle.bits.proofs.Marks.{joined-mark}
use Rattle.bits.proofs.register.reading.BitRegisterReadablePlan.joined.Goals as goal
use Rattle.bits.proofs.register.reading.BitRegisterReadablePlan.joined.Goals.{then-is_within, else-is_within}

pub returns-then-is_within-2 : goal.returns-then-is_within-2
returns-then-is_within-2 c = elim c.if-is_within.branch [
  | then-is_within w ↦ c.is_marked.ensures ∙ rw c.deref.ensures.value (sym (joined-mark c.args.self.now.n c.args.self.now.few (vec_items c.args.self.now.words) c.args.v.0 c.args.w.0 (sym w.if-is_within.ensures) (sym w.is_within-then-is_within.ensures ∙ sym w.value-is ∙ c.if-is_within-2.true)))
  | else-is_within w ↦ absurd (both_ways c.is_within.result w.if-is_within.false (sym w.value-is ∙ c.if-is_within-2.true))
]
