use Rattle.std.proofs.Common.{vec_items, sym, rules}
use Rattle.bits.proofs.Neighbours.{next_kept}
use Rattle.bits.proofs.register.reading.BitRegisterReadablePlan.next.Goals as goal

pub returns : goal.returns
returns c =
    next_kept c.args.self.now.n (vec_items c.args.self.now.words) c.args.v.0 c.args.w.0 c.args.self.now.few (sym c.if-not-is_within.ensures)
    _ (λ x b k. search rules) c.next_marked.result c.filter.result (rw c.deref.ensures.value at c.next_marked.ensures) c.filter.ensures
