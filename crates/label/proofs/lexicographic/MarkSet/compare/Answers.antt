use Rattle.std.proofs.Common.{◌≡◌, ℕ, ◌-◌, ◌<◌, get_or, sym, arith, rules}
use Rattle.label.specs.Highest.{exceeds_at, same_words, by_words_less, by_words_greater, by_words_equal}
use Rattle.label.proofs.lexicographic.MarkSet.compare.Goals as goal

pub returns-then-mine-theirs : goal.returns-then-mine-theirs
returns-then-mine-theirs c =
    let k : ℕ = c.loop-k.k - 1 in
    let same : (j : ℕ) → k < j → j < 8 → get_or c.args.self.now.words j 0 ≡ get_or c.args.other.now.words j 0 = λ j p q. c.loop-k.invariant j (omega arith) q in
    record {
      value = by_words_less c.args.self.now.words c.args.other.now.words (c.loop-k.k - 1) (omega arith) same (omega arith);
      greater = exceeds_at c.args.self.now c.args.other.now (c.loop-k.k - 1) (omega arith) same (omega arith) (search rules);
    }

pub returns-then-theirs-mine : goal.returns-then-theirs-mine
returns-then-theirs-mine c =
    let k : ℕ = c.loop-k.k - 1 in
    let same : (j : ℕ) → k < j → j < 8 → get_or c.args.self.now.words j 0 ≡ get_or c.args.other.now.words j 0 = λ j p q. c.loop-k.invariant j (omega arith) q in
    record {
      value = by_words_greater c.args.self.now.words c.args.other.now.words (c.loop-k.k - 1) (omega arith) same (omega arith);
      greater = exceeds_at c.args.other.now c.args.self.now (c.loop-k.k - 1) (omega arith) (λ j p q. sym (same j p q)) (omega arith) (search rules);
    }

pub returns : goal.returns
returns c =
    let same : (j : ℕ) → j < 8 → get_or c.args.self.now.words j 0 ≡ get_or c.args.other.now.words j 0 = λ j q. c.loop-k.invariant j (omega arith) q in
    record {
      value = by_words_equal c.args.self.now.words c.args.other.now.words same;
      greater = same_words c.args.self.now c.args.other.now same;
    }
