use Rattle.std.proofs.Common.{◌-◌, arith}
use Rattle.plan.proofs.PipeLaws.{within_parts}
use Rattle.chained.specs.Walks.{walk_starts, walk_goes, walk_falls, walk_ends}
use Rattle.chained.proofs.register.ChainedRegister.seat.Goals as goal

pub loop-next-init : goal.loop-next-init
loop-next-init c =
    walk_starts c.args.self.now (c.args.v.0 - 1) c.args.w c.as_slice-cells.result.now c.as_slice-cells.ensures.value
    (omega (arith, within_parts c.args.self.now.n c.args.v.0 c.requires.0)) c.requires.1

pub loop-next-smaller : goal.loop-next-smaller
loop-next-smaller c =
    walk_falls c.args.self.now (c.args.v.0 - 1) c.args.w c.as_slice-cells.result.now c.as_slice-cells.ensures.value c.loop-next.node c.loop-next.next c.loop-next.invariant (omega (arith, c.loop-next-test.true))
    c.if-cells-next.true

pub loop-next-preserved : goal.loop-next-preserved
loop-next-preserved c =
    walk_goes c.args.self.now (c.args.v.0 - 1) c.args.w c.as_slice-cells.result.now c.as_slice-cells.ensures.value c.loop-next.node c.loop-next.next c.loop-next.invariant (omega (arith, c.loop-next-test.true))
    c.if-cells-next.true

pub returns-else-cells-next : goal.returns-else-cells-next
returns-else-cells-next c =
    walk_ends c.args.self.now (c.args.v.0 - 1) c.args.w c.as_slice-cells.result.now c.as_slice-cells.ensures.value c.loop-next.node c.loop-next.next c.loop-next.invariant c.args.v.0
    (omega (arith, within_parts c.args.self.now.n c.args.v.0 c.requires.0)) (λ m. c.if-cells-next.false)
