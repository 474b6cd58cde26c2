use Rattle.std.proofs.Common.{◌≡◌, ◌+◌, ap, ◌∙◌}
use Rattle.std.specs.NonZero.{non_zero_u16_get}
use Rattle.image.specs.Images.{image_of, field, record_at}
use Rattle.image.proofs.layout.Layout.known_record.Goals as goal

pub returns : goal.returns
unfolding image_of
returns c =
    let at : c.record_start.result ≡ record_at (field c.args.self.now.bytes.now 0) (non_zero_u16_get c.args.i) = c.record_start.ensures ∙ ap (λ n. record_at n (non_zero_u16_get c.args.i)) c.args.self.now.laid.size in
    record { near = c.read.ensures.near ∙ ap (field c.args.self.now.bytes.now) at; far = c.read.ensures.far ∙ ap (λ k. field c.args.self.now.bytes.now (k + 2)) at; next = c.read.ensures.next ∙ ap (λ k. field c.args.self.now.bytes.now (k + 4)) at }
