use Rattle.std.proofs.Common.{◌≡◌, ℕ, ◌*◌, vec_len, Ok, Result, Vec, sym, ap, ◌∙◌, subst, ap₂, arith, rules}
use Rattle.plan.specs.Memory.{KeptFrom}
use Rattle.plan.specs.Plans.{Plan}
use Rattle.plan.specs.declared.turned_down.TurnedDown.{TurnedDown}
use Rattle.chained.specs.Making.{Making}
use Rattle.chained.specs.declared.register.ChainedRegister.{ChainedRegister}
use Rattle.order.specs.Reports.{short}
use Rattle.image.specs.Images.{image_of}
use Rattle.set.specs.Ledgers.{Ledger, opened}
use Rattle.calls.specs.Heard.{lists_of}
use Rattle.image_order.proofs.Loaded.{kept_ordered, room_of}
use Rattle.image_order.proofs.call.order_image.Goals as goal

pub returns : goal.returns
returns c =
    let ok : c.new.result ≡ Ok c.in_ok-register.register = search rules in
    let made : Making c.in_ok-header.header.n 8000 c.args.memory (Ok c.in_ok-register.register) = subst (λ (r : Result ChainedRegister (TurnedDown (Vec ℕ _))). Making c.in_ok-header.header.n 8000 c.args.memory r) ok c.new.ensures in
    let size : c.in_ok-header.header.n ≡ (image_of c.args.bytes.now).size = c.in_ok-header.ensures.header.size in
    let is = c.new-set.ensures ∙ ap₂ (λ (p : Plan) (s : ℕ). opened p s) made.plan made.spare in
    record {
      ordered = kept_ordered c.args.bytes.now c.in_ok-header.header.n (sym c.in_ok-header.ensures.says) size c.in_ok-header.ensures.header.some c.in_ok-header.ensures.header.few (omega (arith, c.in_ok-header.ensures.header.records, c.in_ok-header.ensures.header.most))
          (λ n. short n c.args.places.now c.args.ring.now c.args.rows.now c.args.labels.now c.args.scratch.now) _ (vec_len c.args.memory) (room_of c.in_ok-header.header.n (vec_len c.args.memory) made.says) _ _ is (lists_of c.args.places.now c.args.ring.now c.args.rows.now) (lists_of c.run.new.places c.run.new.ring c.run.new.rows) c.run.new.listener.answer c.run.result c.run.ensures.kept;
      labels = subst (λ (n : ℕ). KeptFrom n c.args.labels.now c.run.new.labels) (ap (λ (l : Ledger). l.base.size) is ∙ size) c.run.ensures.labels;
      scratch = subst (λ (n : ℕ). KeptFrom (2 * n) c.args.scratch.now c.run.new.scratch) (ap (λ (l : Ledger). l.base.size) is ∙ size) c.run.ensures.scratch;
    }
