use Rattle.std.proofs.Common.{◌≡◌, ◌+◌, leb, length, ap, ◌∙◌, arith}
use Rattle.std.proofs.lemmas.Bool.{and_from, le-leb}
use Rattle.image.specs.Images.{image_of, field, record_at}
use Rattle.image.proofs.reader.record_ends.Goals as goal

pub returns : goal.returns
unfolding image_of
returns c =
    let at : c.record_start-at.result ≡ record_at (field c.args.bytes.now 0) c.args.i = rw (c.read.ensures, c.in_ok-i.ensures) at c.record_start-at.ensures in (
      and_from (leb 1 c.args.i) (leb (record_at (field c.args.bytes.now 0) c.args.i + 6) (length c.args.bytes.now)) (le-leb 1 c.args.i (omega (arith, c.in_ok-i.ensures, c.in_ok-i.i.ok))) (le-leb (record_at (field c.args.bytes.now 0) c.args.i + 6) (length c.args.bytes.now) (omega arith)),
      c.read-record.ensures.near ∙ ap (field c.args.bytes.now) at,
      c.read-record.ensures.far ∙ ap (λ k. field c.args.bytes.now (k + 2)) at,
    )
