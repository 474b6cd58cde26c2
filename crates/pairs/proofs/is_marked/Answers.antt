use Rattle.std.proofs.Common.{◌≤◌, sym, ap, ◌∙◌, arith}
use Rattle.bitset.specs.Bits.{holds}
use Rattle.plan.proofs.PipeLaws.{within_parts}
use Rattle.pairs.proofs.Marked.{marked-holds, marked-outside, unmarked_off}
use Rattle.pairs.proofs.is_marked.Goals as goal

pub returns-then-v-eq0 : goal.returns-then-v-eq0
returns-then-v-eq0 c = sym (marked-outside c.args.words.now c.args.v.0 c.args.w.0 (λ p. omega (arith, p.0, c.if-v-eq0.true)))

pub returns-then-is_within : goal.returns-then-is_within
returns-then-is_within c =
    let i : (1 ≤ c.args.w.0) × (c.args.w.0 ≤ 512) = within_parts 512 c.args.w.0 (sym c.if-is_within.ensures) in
    c.contains.ensures ∙ ap (holds c.args.words.now) c.number.ensures ∙ sym (marked-holds c.args.words.now c.args.v.0 c.args.w.0 (omega (arith, c.if-v-eq0.false)) i.0 i.1)

pub returns-else-is_within : goal.returns-else-is_within
returns-else-is_within c =
    c.if-is_within.false ∙ sym (unmarked_off c.args.words.now c.args.v.0 c.args.w.0 (sym c.if-is_within.ensures))
