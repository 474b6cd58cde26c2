use Rattle.std.proofs.Common.{◌+◌, ◌-◌, ◌*◌, arith}
use Rattle.image.proofs.Stretches.{fields_go_on}
use Rattle.image.proofs.fields.put_all.Goals as goal

pub loop-i-preserved : goal.loop-i-preserved
loop-i-preserved c =
    fields_go_on c.loop-i.i ((2 * c.loop-i.i + 2) - 2 * c.loop-i.i) c.loop-i.part c.put.new.part c.args.fields.now c.loop-i-test.true
    (omega (arith, c.requires, c.loop-i.auto.part)) c.loop-i.invariant c.put.ensures
