use Rattle.std.proofs.Common.{◌≡◌, ℕ, ◌+◌, ◌-◌, ◌≤◌, Some, None, Option, Ok, Result, ap, ◌∙◌, arith}
use Rattle.std.specs.Result.{result_ok}
use Rattle.std.proofs.lemmas.Result.{err_from_is_err_and}
use Rattle.plan.specs.declared.refusal.Refusal.{Refusal}
use Rattle.plan.specs.declared.refusal.Refusal.TheVariants.{ChainFault}
use Rattle.image.specs.Images.{Image, image_of}
use Rattle.image.specs.Reading.{Walked}
use Rattle.image.specs.Tallies.{Tallied, tally_starts, tally_goes_on, tally_most, tally_fails, tally_full, tally_lacks}
use Rattle.image.proofs.layout.Layout.check_chains.Goals as goal

-- the chain of v is sound, and is counted
tallied : (m : Image) (v reached passed : ℕ) (length : Option ℕ) (answer : Result ℕ Refusal) → 1 ≤ v → Tallied m (v - 1) reached → Walked m v length → length ≡ result_ok answer → answer ≡ Ok passed → Tallied m (v + 1 - 1) (reached + passed)
tallied m v reached passed length answer a t w e d =
    let some : length ≡ Some passed = e ∙ ap result_ok d in
    tally_goes_on m v reached passed a t (rw some at w)

pub loop-v-init : goal.loop-v-init
loop-v-init c = tally_starts (image_of c.args.self.now.bytes.now)

pub returns-in_err-reached : goal.returns-in_err-reached
returns-in_err-reached c =
    let none : c.chain_length.result ≡ None = c.ok_or.ensures.ok_part ∙ ap result_ok c.in_err-reached.was in
    let value = rw none at c.in_err-reached.ensures.value in
    let fault : c.in_err-reached.field-0.0 ≡ ChainFault (record { 0 = c.loop-v.v }) = cc in
    let p = err_from_is_err_and c.from_residual.result c.from_residual.ensures.1 in
    rw (p.1, p.2, fault)
    (tally_fails (image_of c.args.self.now.bytes.now) c.loop-v.v c.loop-v.reached c.loop-v.auto.v (omega (arith, c.args.self.now.laid.size)) c.loop-v.invariant (rw none at c.chain_length.ensures))

pub overflow_add-reached : goal.overflow_add-reached
overflow_add-reached c =
    let t : Tallied (image_of c.args.self.now.bytes.now) (c.loop-v.v + 1 - 1) (c.loop-v.reached + c.in_ok-reached.field-0) = tallied (image_of c.args.self.now.bytes.now) c.loop-v.v c.loop-v.reached c.in_ok-reached.field-0 c.chain_length.result c.ok_or.result c.loop-v.auto.v c.loop-v.invariant c.chain_length.ensures c.ok_or.ensures.ok_part c.in_ok-reached.was in
    omega (arith, tally_most (image_of c.args.self.now.bytes.now) (c.loop-v.v + 1 - 1) (c.loop-v.reached + c.in_ok-reached.field-0) t, c.args.self.now.laid.records, c.args.self.now.laid.most)

pub loop-v-preserved : goal.loop-v-preserved
loop-v-preserved c =
    tallied (image_of c.args.self.now.bytes.now) c.loop-v.v c.loop-v.reached c.in_ok-reached.field-0 c.chain_length.result c.ok_or.result c.loop-v.auto.v c.loop-v.invariant c.chain_length.ensures c.ok_or.ensures.ok_part c.in_ok-reached.was

pub returns-then-reached-self : goal.returns-then-reached-self
returns-then-reached-self c =
    tally_lacks (image_of c.args.self.now.bytes.now) (c.loop-v.v - 1) c.loop-v.reached (omega (arith, c.args.self.now.laid.size)) c.loop-v.invariant (λ e. omega (arith, c.args.self.now.laid.records, c.if-reached-self.true))

pub returns : goal.returns
returns c =
    tally_full (image_of c.args.self.now.bytes.now) (c.loop-v.v - 1) c.loop-v.reached (omega (arith, c.args.self.now.laid.size)) c.loop-v.invariant (omega (arith, c.args.self.now.laid.records, c.if-reached-self.false))
