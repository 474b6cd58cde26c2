use Rattle.std.proofs.Common.{false, vec_items, vec_len, refl, arith}
use Rattle.std.specs.Vec.{with_items}
use Rattle.plan.proofs.PipeLaws.{plan_same}
use Rattle.chained.specs.Changes.{LaidOut}
use Rattle.chained.specs.Nodes.{joined}
use Rattle.chained.proofs.Blanks.{laid_refilled, kept_blank, joined_none, new_passes}
use Rattle.chained.proofs.States.{Kept}
use Rattle.chained.proofs.register.ChainedRegister.new.Goals as goal

pub invariant_of-result : goal.invariant_of-result
invariant_of-result c =
    let laid : LaidOut c.args.n c.args.c (vec_items c.args.memory) (vec_items (with_items c.args.memory c.lay_out.new.cells)) = laid_refilled c.args.memory c.deref_mut.result.now c.lay_out.new.cells c.args.n c.args.c c.deref_mut.ensures.value c.lay_out.auto.cells c.lay_out.ensures in
    let k : Kept c.args.n c.args.c c.args.c c.args.n (vec_items (with_items c.args.memory c.lay_out.new.cells)) = kept_blank c.args.n c.args.c (vec_items c.args.memory) (vec_items (with_items c.args.memory c.lay_out.new.cells)) laid in
    record {
      some = omega arith;
      few = omega arith;
      most = omega arith;
      room = omega arith;
      bounded = k.bounded;
      paired = k.paired;
      apart = k.apart;
      ascends = k.chains.ascends;
      complete = k.chains.complete;
      single = k.chains.single;
      counted = k.frees.counted;
      distinct = k.frees.distinct;
      listed = k.frees.listed;
      first = k.frees.first;
      filled = k.filled;
    }

pub returns : goal.returns
returns c =
    let laid : LaidOut c.args.n c.args.c (vec_items c.args.memory) (vec_items (with_items c.args.memory c.lay_out.new.cells)) = laid_refilled c.args.memory c.deref_mut.result.now c.lay_out.new.cells c.args.n c.args.c c.deref_mut.ensures.value c.lay_out.auto.cells c.lay_out.ensures in
    record {
      says = new_passes c.args.n c.args.c (vec_len c.args.memory) (omega arith) (omega arith) (omega arith) (omega arith);
      plan = plan_same c.args.n (joined c.args.n c.args.c (vec_items (with_items c.args.memory c.lay_out.new.cells))) (λ a b. false)
          (joined_none c.args.n c.args.c (vec_items c.args.memory) (vec_items (with_items c.args.memory c.lay_out.new.cells)) laid);
      spare = refl;
      long = refl;
      behind = laid.behind;
    }
