use Rattle.std.proofs.Common.{◌≡◌, ◌+◌, ◌-◌, ◌*◌, length, take, min, Some, None, arith}
use Rattle.bitset.specs.Bits.{NextHeld}
use Rattle.pairs.proofs.Marked.{next_few, next_found, none_found}
use Rattle.pairs.proofs.next_marked.Goals as goal

pub returns-in_err-i : goal.returns-in_err-i
returns-in_err-i c =
    let short : c.min-end.result ≡ min (length c.args.words.now) (8 * c.args.v.0) = omega (arith, c.min-end.ensures, c.from.ensures) in
    let none : NextHeld (take c.min-end.result c.args.words.now) (512 * (c.args.v.0 - 1) + c.args.w.0) None = rw (c.index-start.ensures, c.from-2.ensures) at c.in_err-i.ensures in
    rw c.from_residual.ensures (none_found c.args.words.now c.args.v.0 c.min-end.result short c.args.w.0 none (omega arith))

pub overflow_cast-result : goal.overflow_cast-result
overflow_cast-result c =
    let short : c.min-end.result ≡ min (length c.args.words.now) (8 * c.args.v.0) = omega (arith, c.min-end.ensures, c.from.ensures) in
    let found : NextHeld (take c.min-end.result c.args.words.now) (512 * (c.args.v.0 - 1) + c.args.w.0) (Some c.in_ok-i.i) = rw (c.index-start.ensures, c.from-2.ensures) at c.in_ok-i.ensures in
    record { fits = omega (arith, c.index-start.ensures, next_few c.args.words.now c.args.v.0 c.min-end.result short c.args.w.0 c.in_ok-i.i found) }

pub overflow_add-result : goal.overflow_add-result
overflow_add-result c =
    let short : c.min-end.result ≡ min (length c.args.words.now) (8 * c.args.v.0) = omega (arith, c.min-end.ensures, c.from.ensures) in
    let found : NextHeld (take c.min-end.result c.args.words.now) (512 * (c.args.v.0 - 1) + c.args.w.0) (Some c.in_ok-i.i) = rw (c.index-start.ensures, c.from-2.ensures) at c.in_ok-i.ensures in
    record { fits = omega (arith, c.index-start.ensures, next_few c.args.words.now c.args.v.0 c.min-end.result short c.args.w.0 c.in_ok-i.i found) }

pub returns : goal.returns
returns c =
    let short : c.min-end.result ≡ min (length c.args.words.now) (8 * c.args.v.0) = omega (arith, c.min-end.ensures, c.from.ensures) in
    let found : NextHeld (take c.min-end.result c.args.words.now) (512 * (c.args.v.0 - 1) + c.args.w.0) (Some c.in_ok-i.i) = rw (c.index-start.ensures, c.from-2.ensures) at c.in_ok-i.ensures in
    rw c.index-start.ensures (next_found c.args.words.now c.args.v.0 c.min-end.result short c.args.w.0 c.in_ok-i.i found)
