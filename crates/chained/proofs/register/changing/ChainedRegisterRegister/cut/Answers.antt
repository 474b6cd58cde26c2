use Rattle.std.proofs.Common.{◌+◌, vec_items, sym}
use Rattle.std.specs.Vec.{with_items}
use Rattle.std.proofs.lemmas.Bool.{not-true, not-false}
use Rattle.chained.proofs.States.{Kept}
use Rattle.chained.proofs.Steps.{cut_unjoined, cut_seats, cut_nodes, cut_pair, cut_kept, cut_done}
use Rattle.chained.proofs.register.changing.ChainedRegisterRegister.cut.Goals as goal

pub returns-then-ne : goal.returns-then-ne
returns-then-ne c =
    cut_unjoined c.args.self.now c.args.v.0 c.args.w.0 c.in_ok-check_ends.ensures c.find-v_found.result.neighbour c.find-v_found.ensures.neighbour (not-true _ (sym c.if-ne.ensures))

pub free_pair-pair-requires : goal.free_pair-pair-requires
free_pair-pair-requires c =
    record {
      seats = cut_seats c.args.self.now c.args.v.0 c.args.w.0 c.in_ok-check_ends.ensures c.find-v_found.result.neighbour c.find-v_found.ensures.neighbour c.find-v_found.result.seat c.find.result.seat c.find-v_found.ensures.seat c.find.ensures.seat (not-false _ (sym c.if-ne.ensures)) c.deref_mut.result.now c.deref_mut.ensures.value;
      nodes = cut_nodes c.args.self.now c.args.v.0 c.args.w.0 c.in_ok-check_ends.ensures c.find-v_found.result.neighbour c.find-v_found.ensures.neighbour c.find-v_found.result.seat c.find.result.seat c.find-v_found.ensures.seat c.find.ensures.seat (not-false _ (sym c.if-ne.ensures)) c.deref_mut.result.now c.deref_mut.ensures.value;
      pair = cut_pair c.args.self.now c.args.v.0 c.args.w.0 c.in_ok-check_ends.ensures c.find-v_found.result.neighbour c.find-v_found.ensures.neighbour c.find-v_found.result.seat c.find.result.seat c.find-v_found.ensures.seat c.find.ensures.seat (not-false _ (sym c.if-ne.ensures)) c.deref_mut.result.now c.deref_mut.ensures.value;
    }

pub invariant_of-self : goal.invariant_of-self
invariant_of-self c =
    let k : Kept c.args.self.now.n c.args.self.now.c (c.args.self.now.spare + 1) c.free_pair-pair.result (vec_items (with_items c.args.self.now.cells c.free_pair-pair.new.cells)) = cut_kept c.args.self.now c.args.v.0 c.args.w.0 c.in_ok-check_ends.ensures c.find-v_found.result.neighbour c.find-v_found.ensures.neighbour c.find-v_found.result.seat c.find.result.seat c.find-v_found.ensures.seat c.find.ensures.seat (not-false _ (sym c.if-ne.ensures)) c.deref_mut.result.now c.deref_mut.ensures.value c.free_pair-pair.new.cells c.free_pair-pair.auto.cells c.free_pair-pair.ensures.cells c.free_pair-pair.result c.free_pair-pair.ensures.pair in
    record {
      some = c.args.self.now.some;
      few = c.args.self.now.few;
      most = c.args.self.now.most;
      room = c.args.self.now.room;
      bounded = k.bounded;
      paired = k.paired;
      apart = k.apart;
      ascends = k.chains.ascends;
      complete = k.chains.complete;
      single = k.chains.single;
      counted = k.frees.counted;
      distinct = k.frees.distinct;
      listed = k.frees.listed;
      first = k.frees.first;
      filled = k.filled;
    }

pub returns : goal.returns
returns c =
    cut_done c.args.self.now c.args.v.0 c.args.w.0 c.in_ok-check_ends.ensures c.find-v_found.result.neighbour c.find-v_found.ensures.neighbour c.find-v_found.result.seat c.find.result.seat c.find-v_found.ensures.seat c.find.ensures.seat (not-false _ (sym c.if-ne.ensures))
    c.deref_mut.result.now c.deref_mut.ensures.value c.free_pair-pair.new.cells c.free_pair-pair.auto.cells c.free_pair-pair.ensures.cells
