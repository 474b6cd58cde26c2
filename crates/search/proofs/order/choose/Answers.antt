use Rattle.std.proofs.Common.{◌≡◌, ℕ, ◌-◌, ◌<◌, get_or, sym, arith}
use Rattle.search.specs.Working.{at}
use Rattle.search.proofs.Ranks.{better, no_better}
use Rattle.search.proofs.order.choose.Goals as goal
use Rattle.search.proofs.order.choose.Goals.{then-is_before, else-is_before}

pub loop-i-preserved : goal.loop-i-preserved
loop-i-preserved g c =
    let k = c.args.kind.now in
    let law = g.met.K.Kind.lawful k in
    let here : ℕ → ℕ = at c.args.places.now in
    let tag : g.row.K-Label.Denot → ℕ → g.row.K-Label.Denot = λ d i. get_or c.args.labels.now (at c.args.places.now i - 1) d in
    let low : c.loop-i.best < c.loop-i.i = c.loop-i.invariant.0 in
    let apart : here c.loop-i.i ≡ here c.loop-i.best → ⊥ = λ e. c.requires.apart c.loop-i.best c.loop-i.i low (omega arith) (sym e) in
    elim c.if-is_before.branch [
      | then-is_before w ↦ (omega (arith, w.best-is), λ i d l ne. better (g.K.Kind.blank k) (g.K.Kind.raised k) (g.K.Kind.compared k) (g.K.Kind.stands k) law here (tag d) c.loop-i.best c.loop-i.i low (λ j. c.loop-i.invariant.1 j d) c.if-is_before.best w.best-is (w.if-is_before.ensures d) i l ne)
      | else-is_before w ↦ (omega (arith, w.best-is), λ i d l ne. no_better (g.K.Kind.blank k) (g.K.Kind.raised k) (g.K.Kind.compared k) (g.K.Kind.stands k) law here (tag d) c.loop-i.best c.loop-i.i low (λ j. c.loop-i.invariant.1 j d) c.if-is_before.best w.best-is apart (w.if-is_before.ensures d) i l ne)
    ]
