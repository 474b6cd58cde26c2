use Rattle.std.proofs.Common.{◌≡◌, ◌+◌, ◌/◌, ◌%◌, ◌^◌, ◌<◌, get_or, arith}
use lib.Count.{count_trailing_zeros}
use Rattle.bitset.proofs.Held.{next_past, rest_fits, next_in_word, none_behind, next_far, trailing_few, next_behind}
use Rattle.bitset.proofs.next.Goals as goal

pub returns-in_err-head : goal.returns-in_err-head
returns-in_err-head c =
    rw c.from_residual.ensures (next_past c.args.words.now c.args.from c.in_err-head.ensures.lookup.3)

pub overflow_add-result : goal.overflow_add-result
overflow_add-result c =
    let e : c.in_ok-head.field-0.now ≡ get_or c.args.words.now (c.args.from / 64) 0 = c.in_ok-head.ensures.lookup.3.1 0 in
    let l : c.args.from % 64 + count_trailing_zeros 64 (c.in_ok-head.field-0.now / 2 ^ (c.args.from % 64)) < 64 = rw e (rest_fits c.args.words.now c.args.from (omega (arith, c.type_inv.words (c.args.from / 64))) (rw e at c.if-head-ne0.true)) in
    record { fits = omega arith }

pub returns-then-head-ne0 : goal.returns-then-head-ne0
returns-then-head-ne0 c =
    let e : c.in_ok-head.field-0.now ≡ get_or c.args.words.now (c.args.from / 64) 0 = c.in_ok-head.ensures.lookup.3.1 0 in
    rw e (next_in_word c.args.words.now c.args.from (omega (arith, c.type_inv.words (c.args.from / 64))) (rw e at c.if-head-ne0.true))

pub returns-in_err-k : goal.returns-in_err-k
returns-in_err-k c =
    let e : c.in_ok-head.field-0.now ≡ get_or c.args.words.now (c.args.from / 64) 0 = c.in_ok-head.ensures.lookup.3.1 0 in
    rw c.from_residual-in_err-k.ensures (none_behind c.args.words.now c.args.from (rw e at c.if-head-ne0.false) c.in_err-k.ensures)

pub returns-in_err-start : goal.returns-in_err-start
returns-in_err-start c =
    let e : c.in_ok-head.field-0.now ≡ get_or c.args.words.now (c.args.from / 64) 0 = c.in_ok-head.ensures.lookup.3.1 0 in
    rw c.from_residual-in_err-start.ensures (next_far c.args.words.now c.args.from (rw e at c.if-head-ne0.false) c.in_ok-k.field-0 c.in_ok-k.ensures c.in_err-start.ensures)

pub overflow_add-result-2 : goal.overflow_add-result-2
overflow_add-result-2 c =
    let e : c.in_ok-head.field-0.now ≡ get_or c.args.words.now (c.args.from / 64) 0 = c.in_ok-head.ensures.lookup.3.1 0 in
    let few : count_trailing_zeros 64 (get_or c.args.words.now (c.args.from / 64 + 1 + c.in_ok-k.field-0) 0) < 64 = trailing_few c.args.words.now c.args.from (rw e at c.if-head-ne0.false) c.in_ok-k.field-0 c.in_ok-k.ensures (omega (arith, c.type_inv.words (c.args.from / 64 + 1 + c.in_ok-k.field-0))) in
    record { fits = omega (arith, c.in_ok-start.ensures) }

pub returns : goal.returns
returns c =
    let e : c.in_ok-head.field-0.now ≡ get_or c.args.words.now (c.args.from / 64) 0 = c.in_ok-head.ensures.lookup.3.1 0 in
    rw c.in_ok-start.ensures.1 (next_behind c.args.words.now c.args.from (rw e at c.if-head-ne0.false) c.in_ok-k.field-0 c.in_ok-k.ensures (omega (arith, c.type_inv.words (c.args.from / 64 + 1 + c.in_ok-k.field-0))))
