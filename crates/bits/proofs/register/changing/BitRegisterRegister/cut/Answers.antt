use Rattle.std.proofs.Common.{◌+◌, vec_items, sym}
use Rattle.std.specs.Vec.{with_items}
use Rattle.bits.proofs.Steps.{Tallied, cut_tallied, cut_done}
use Rattle.bits.proofs.register.changing.BitRegisterRegister.cut.Goals as goal

pub invariant_of-self : goal.invariant_of-self
invariant_of-self c =
    let t : Tallied c.args.self.now.n (c.args.self.now.spare + 1) (vec_items (with_items c.args.self.now.words c.unmark.new.words)) = cut_tallied c.args.self.now c.args.v.0 c.args.w.0 c.in_ok-check_ends.ensures c.deref_mut.result.now c.unmark.new.words c.deref_mut.ensures.value c.unmark.auto.words (sym c.if-not-joined.ensures) c.unmark.ensures in
    record {
      some = c.args.self.now.some;
      few = c.args.self.now.few;
      room = c.args.self.now.room;
      alike = t.alike;
      apart = t.apart;
      counted = t.counted;
    }

pub returns : goal.returns
returns c =
    cut_done c.args.self.now c.args.v.0 c.args.w.0 c.in_ok-check_ends.ensures
    c.deref_mut.result.now c.unmark.new.words c.deref_mut.ensures.value c.unmark.auto.words (sym c.if-not-joined.ensures) c.unmark.ensures
