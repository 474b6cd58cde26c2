use Rattle.std.proofs.Common.{◌+◌, ◌-◌, ◌*◌, length, refl, arith}
use Rattle.image.proofs.Writes.{length_written, write_many, write_short, write_passes, stretches_placed}
use Rattle.image.proofs.writer.write.Goals as goal

pub returns-then-records-from : goal.returns-then-records-from
returns-then-records-from g c =
    (write_many (g.P.ReadablePlan.meaning c.args.plan.now) (length c.args.out.now) (omega (arith, c.pipe_count-records.ensures, c.from.ensures, c.if-records-from.true)), refl)

pub returns-then-out-long : goal.returns-then-out-long
returns-then-out-long g c =
    (write_short (g.P.ReadablePlan.meaning c.args.plan.now) (length c.args.out.now) (omega (arith, c.pipe_count-records.ensures, c.from.ensures, c.if-records-from.false)) (omega (arith, c.pipe_count-records.ensures, c.from-2.ensures, c.size-n.ensures.value, c.if-out-long.true)), refl)

pub write_heads-requires-clause-few : goal.write_heads-requires-clause-few
write_heads-requires-clause-few g c = omega (arith, c.pipe_count-records.ensures, c.from.ensures, c.if-records-from.false)

pub write_records-requires : goal.write_records-requires
write_records-requires g c = record {
  long = omega (arith, c.pipe_count-records.ensures);
  few = omega (arith, c.pipe_count-records.ensures, c.from.ensures, c.if-records-from.false);
}

pub returns : goal.returns
returns g c = (
  write_passes (g.P.ReadablePlan.meaning c.args.plan.now) (length c.args.out.now) (omega (arith, c.pipe_count-records.ensures, c.from.ensures, c.if-records-from.false)) (omega (arith, c.pipe_count-records.ensures, c.from-2.ensures, c.size-n.ensures.value, c.if-out-long.false)),
  omega (arith, length_written (g.P.ReadablePlan.meaning c.args.plan.now), c.pipe_count-records.ensures, c.from-2.ensures, c.size-n.ensures.value),
  rw c.from-2.ensures (stretches_placed (g.P.ReadablePlan.meaning c.args.plan.now) c.args.out.now c.put_all.new.part c.write_heads.new.part c.write_records.new.part c.size-n.result c.pipe_count-records.result c.size-n.ensures.value c.pipe_count-records.ensures c.put_all.ensures c.write_heads.ensures c.write_records.ensures
      ((8 + 2 * c.size-n.result) - 8) (((8 + 2 * c.size-n.result) + 6 * c.pipe_count-records.result) - (8 + 2 * c.size-n.result)) ((8 + 2 * c.size-n.result) + 6 * c.pipe_count-records.result) (omega arith) (omega arith) refl),
)
