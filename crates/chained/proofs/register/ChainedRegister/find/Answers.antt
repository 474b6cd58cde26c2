use Rattle.std.proofs.Common.{◌≤◌, vec_items, arith}
use Rattle.std.specs.Prelude.{slice_index}
use Rattle.chained.specs.Walks.{neighbour_none, neighbour_found, neighbour_some, found_room, next_from, next_from_none}
use Rattle.chained.proofs.register.ChainedRegister.find.Goals as goal

pub returns-then-next-eq0 : goal.returns-then-next-eq0
returns-then-next-eq0 c =
    record {
      seat = c.seat-seat.ensures;
      neighbour = next_from_none c.args.self.now c.args.v.0 c.args.w c.requires.1 (neighbour_none c.args.self.now c.args.v.0 c.args.w c.seat-seat.result c.requires.0 c.seat-seat.ensures (rw c.as_slice-cells.ensures.value at c.if-next-eq0.true));
    }

pub bounds-cells-next : goal.bounds-cells-next
bounds-cells-next c =
    rw c.as_slice-cells.ensures.value (omega (arith, found_room c.args.self.now c.args.v.0 c.args.w c.seat-seat.result c.requires.0 c.seat-seat.ensures (omega (arith, rw c.as_slice-cells.ensures.value at c.if-next-eq0.false)), c.args.self.now.room, c.args.self.now.cells.ok.0))

pub returns : goal.returns
returns c =
    record {
      seat = c.seat-seat.ensures;
      neighbour = rw c.as_slice-cells.ensures.value (let some : 1 ≤ slice_index (vec_items c.args.self.now.cells) c.seat-seat.result = omega (arith, rw c.as_slice-cells.ensures.value at c.if-next-eq0.false) in
          next_from c.args.self.now c.args.v.0 c.args.w _ c.requires.1 (neighbour_some c.args.self.now c.args.v.0 c.args.w c.seat-seat.result c.requires.0 c.seat-seat.ensures some) (neighbour_found c.args.self.now c.args.v.0 c.args.w c.seat-seat.result c.requires.0 c.seat-seat.ensures some));
    }
