use Rattle.std.proofs.Common.{◌+◌, ◌-◌, ◌*◌, ◌≤◌, length, arith, rules}
use Rattle.image.proofs.Stretches.{records_start, records_go_on}
use Rattle.image.proofs.Uppers.{pipes_part}
use Rattle.image.proofs.writer.write_records.Given.{Over}
use Rattle.image.proofs.writer.write_records.Goals as goal
use Rattle.image.proofs.writer.write_records.Goals.{After-upper_count}

-- the chain of v fits into the stretch behind those before it
room : (g : Over) (c : After-upper_count g) → (6 * (c.loop-v.before + c.upper_count.result) ≤ length c.loop-v.part) × (c.loop-v.before + c.upper_count.result ≤ 8000)
room g c =
    let e = pipes_part (g.P.ReadablePlan.meaning c.args.plan.now) c.loop-v.v c.loop-v.auto.v (omega (arith, c.size-v-end.ensures.value, c.loop-v-test.true)) in
    (omega (arith, c.loop-v.invariant.before_is, c.upper_count.ensures, c.requires.long, c.loop-v.auto.part), omega (arith, c.loop-v.invariant.before_is, c.upper_count.ensures, c.requires.few))

pub loop-v-init : goal.loop-v-init
loop-v-init g c = records_start (g.P.ReadablePlan.meaning c.args.plan.now) c.args.part.now

pub overflow_add-after : goal.overflow_add-after
overflow_add-after g c = omega (arith, (room g (goal.at.overflow_add-after g c).After-upper_count).1)

pub overflow_mul-before : goal.overflow_mul-before
overflow_mul-before g c = omega (arith, (room g (goal.at.overflow_mul-before g c).After-upper_count).1)

pub overflow_mul-after : goal.overflow_mul-after
overflow_mul-after g c = omega (arith, (room g (goal.at.overflow_mul-after g c).After-upper_count).1)

pub slice_bounds-write_chain-end : goal.slice_bounds-write_chain-end
slice_bounds-write_chain-end g c = let r = (room g (goal.at.slice_bounds-write_chain-end g c).After-upper_count).0 in search rules

pub write_chain-requires-clause-few : goal.write_chain-requires-clause-few
write_chain-requires-clause-few g c = omega (arith, (room g (goal.at.write_chain-requires-clause-few g c).After-upper_count).1)

pub loop-v-preserved : goal.loop-v-preserved
loop-v-preserved g c =
    records_go_on (g.P.ReadablePlan.meaning c.args.plan.now) c.loop-v.v c.loop-v.before (6 * (c.loop-v.before + c.upper_count.result) - 6 * c.loop-v.before) c.upper_count.result c.loop-v.part c.write_chain.new.part c.loop-v.auto.v c.loop-v.invariant c.upper_count.ensures c.write_chain.ensures (room g (goal.at.loop-v-preserved g c).After-upper_count).0
