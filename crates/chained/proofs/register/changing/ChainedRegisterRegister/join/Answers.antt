use Rattle.std.proofs.Common.{◌-◌, vec_items, sym}
use Rattle.std.specs.Vec.{with_items}
use Rattle.std.proofs.lemmas.Result.{err_from_is_err_and}
use Rattle.plan.proofs.Verdicts.{join_stopped}
use Rattle.chained.proofs.States.{Kept}
use Rattle.chained.proofs.Steps.{join_joined, join_unspared, join_kept, join_done}
use Rattle.chained.proofs.register.changing.ChainedRegisterRegister.join.Goals as goal

pub returns-then-self-eq0 : goal.returns-then-self-eq0
returns-then-self-eq0 c =
    join_unspared c.args.self.now c.args.v.0 c.args.w.0 c.in_ok-check_ends.ensures c.find-v_found.result.neighbour c.find-v_found.ensures.neighbour (sym c.if-eq.ensures) c.if-self-eq0.true

pub invariant_of-self : goal.invariant_of-self
invariant_of-self c =
    let k : Kept c.args.self.now.n c.args.self.now.c (c.args.self.now.spare - 1) c.add_pair-free.result (vec_items (with_items c.args.self.now.cells c.add_pair-free.new.cells)) = join_kept c.args.self.now c.args.v.0 c.args.w.0 c.in_ok-check_ends.ensures c.find-v_found.result.neighbour c.find-v_found.ensures.neighbour c.find-v_found.result.seat c.find.result.seat c.find-v_found.ensures.seat c.find.ensures.seat (sym c.if-eq.ensures) c.if-self-eq0.false c.deref_mut.result.now c.add_pair-free.new.cells c.deref_mut.ensures.value c.add_pair-free.auto.cells c.add_pair-free.ensures.cells c.add_pair-free.result c.add_pair-free.ensures.head in
    record {
      some = c.args.self.now.some;
      few = c.args.self.now.few;
      most = c.args.self.now.most;
      room = c.args.self.now.room;
      bounded = k.bounded;
      paired = k.paired;
      apart = k.apart;
      ascends = k.chains.ascends;
      complete = k.chains.complete;
      single = k.chains.single;
      counted = k.frees.counted;
      distinct = k.frees.distinct;
      listed = k.frees.listed;
      first = k.frees.first;
      filled = k.filled;
    }

pub returns : goal.returns
returns c =
    join_done c.args.self.now c.args.v.0 c.args.w.0 c.in_ok-check_ends.ensures c.find-v_found.result.neighbour c.find-v_found.ensures.neighbour c.find-v_found.result.seat c.find.result.seat c.find-v_found.ensures.seat c.find.ensures.seat (sym c.if-eq.ensures) c.if-self-eq0.false
    c.deref_mut.result.now c.add_pair-free.new.cells c.deref_mut.ensures.value c.add_pair-free.auto.cells c.add_pair-free.ensures.cells

pub returns-in_err-check_ends : goal.returns-in_err-check_ends
returns-in_err-check_ends c =
    let failed = err_from_is_err_and c.from_residual.result c.from_residual.ensures.1 in
    rw (failed.1, failed.2) (join_stopped _ _ _ _ _ _ c.in_err-check_ends.ensures)

pub returns-then-eq : goal.returns-then-eq
returns-then-eq c =
    join_joined c.args.self.now c.args.v.0 c.args.w.0 c.in_ok-check_ends.ensures c.find-v_found.result.neighbour c.find-v_found.ensures.neighbour (sym c.if-eq.ensures)
