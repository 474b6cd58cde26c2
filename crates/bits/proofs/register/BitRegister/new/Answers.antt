use Rattle.std.proofs.Common.{◌≡◌, ℕ, false, vec_items, vec_len, sym, refl, ◌∙◌, arith}
use Rattle.std.specs.Vec.{with_items}
use Rattle.plan.proofs.PipeLaws.{plan_same}
use Rattle.bits.specs.Rows.{joined}
use Rattle.bits.proofs.Blanks.{lent_blank, lent_behind, counted-blank, new_passes}
use Rattle.bits.proofs.register.BitRegister.new.Goals as goal

pub invariant_of-result : goal.invariant_of-result
invariant_of-result c =
    let none : (a b : ℕ) → joined c.args.n (vec_items (with_items c.args.memory c.clear.new.words)) a b ≡ false = lent_blank c.args.memory c.deref_mut.result.now c.clear.new.words c.args.n c.deref_mut.ensures.value c.clear.auto.words (omega arith) c.clear.ensures.cleared in
    record {
      some = omega arith;
      few = omega arith;
      room = omega arith;
      alike = λ a b. none a b ∙ sym (none b a);
      apart = λ a. none a a;
      counted = rw c.from-junctions.ensures (counted-blank c.args.n (vec_items (with_items c.args.memory c.clear.new.words)) none);
    }

pub returns : goal.returns
returns c =
    record {
      says = new_passes c.args.n (vec_len c.args.memory) (omega arith) (omega arith) (omega arith);
      plan = plan_same c.args.n (joined c.args.n (vec_items (with_items c.args.memory c.clear.new.words))) (λ a b. false)
          (lent_blank c.args.memory c.deref_mut.result.now c.clear.new.words c.args.n c.deref_mut.ensures.value c.clear.auto.words (omega arith) c.clear.ensures.cleared);
      spare = rw c.from-junctions.ensures refl;
      long = refl;
      behind = lent_behind c.args.memory c.deref_mut.result.now c.clear.new.words c.args.n c.deref_mut.ensures.value c.clear.auto.words c.clear.ensures.behind;
    }
