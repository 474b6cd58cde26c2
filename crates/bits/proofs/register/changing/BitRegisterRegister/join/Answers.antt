use Rattle.std.proofs.Common.{◌-◌, vec_items, sym}
use Rattle.std.specs.Vec.{with_items}
use Rattle.bits.proofs.Steps.{Tallied, join_tallied, join_done, join_has_spare}
use Rattle.bits.proofs.register.changing.BitRegisterRegister.join.Goals as goal

pub overflow_sub-self : goal.overflow_sub-self
overflow_sub-self c = join_has_spare c.args.self.now c.args.v.0 c.args.w.0 c.in_ok-check_ends.ensures (sym c.if-joined.ensures)

pub invariant_of-self : goal.invariant_of-self
invariant_of-self c =
    let t : Tallied c.args.self.now.n (c.args.self.now.spare - 1) (vec_items (with_items c.args.self.now.words c.mark.new.words)) = join_tallied c.args.self.now c.args.v.0 c.args.w.0 c.in_ok-check_ends.ensures c.deref_mut.result.now c.mark.new.words c.deref_mut.ensures.value c.mark.auto.words (sym c.if-joined.ensures) c.mark.ensures in
    record {
      some = c.args.self.now.some;
      few = c.args.self.now.few;
      room = c.args.self.now.room;
      alike = t.alike;
      apart = t.apart;
      counted = t.counted;
    }

pub returns : goal.returns
returns c =
    join_done c.args.self.now c.args.v.0 c.args.w.0 c.in_ok-check_ends.ensures
    c.deref_mut.result.now c.mark.new.words c.deref_mut.ensures.value c.mark.auto.words (sym c.if-joined.ensures) c.mark.ensures
