use Rattle.std.proofs.Common.{◌≡◌, ◌+◌, ◌*◌, ap, ◌∙◌, arith}
use Rattle.image.specs.Images.{image_of, field, head_at}
use Rattle.image.proofs.layout.Layout.head.Goals as goal

pub returns : goal.returns
unfolding image_of
returns c =
    let h : c.read.result ≡ field c.args.self.now.bytes.now (head_at c.args.v.0) = c.read.ensures ∙ ap (λ k. field c.args.self.now.bytes.now (8 + 2 * k)) c.index.ensures in
    grind arith
