use Rattle.image.proofs.ChainWalks.{along_goes_on, along_fails, along_ends}
use Rattle.image.proofs.layout.Layout.chain_length.Goals as goal

pub returns-in_err-far : goal.returns-in_err-far
returns-in_err-far c =
    rw c.from_residual.ensures
    (along_fails c.args.self.now.bytes.now c.args.v c.loop-far.far-iterator c.next.new.self c.loop-far.passed c.in-Some.far c.in_err-far.was c.loop-far.invariant.2 c.in-Some.ensures.steps)

pub loop-far-preserved : goal.loop-far-preserved
loop-far-preserved c =
    (tt, tt, along_goes_on c.args.self.now.bytes.now c.args.v c.loop-far.far-iterator c.next.new.self c.loop-far.passed c.in-Some.far c.in_ok-far.field-0 c.in_ok-far.was c.loop-far.invariant.2 c.in-Some.ensures.steps)

pub returns : goal.returns
returns c = along_ends c.args.self.now.bytes.now c.args.v c.loop-far.far-iterator c.next.new.self c.loop-far.passed c.loop-far.invariant.2 c.in-None.ensures.steps
