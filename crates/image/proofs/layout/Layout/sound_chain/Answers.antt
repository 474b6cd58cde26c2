use Rattle.std.proofs.Common.{arith}
use Rattle.plan.proofs.PipeLaws.{within_parts}
use Rattle.image.specs.Images.{image_of}
use Rattle.image.specs.Sounds.{sound_chained, is_sound_carried}
use Rattle.image.proofs.SoundWalks.{head_inside}
use Rattle.image.proofs.layout.Layout.sound_chain.Goals as goal

pub invariant_of-result : goal.invariant_of-result
invariant_of-result c =
    let p = within_parts c.args.self.now.header.n c.args.v.0 c.requires.inside in
    let k = sound_chained c.args.self.now.bytes.now (is_sound_carried c.args.self.now.bytes.now c.requires.sound) in
    record { sound = c.requires.sound; inside = rw c.head.ensures (head_inside (image_of c.args.self.now.bytes.now) k c.args.v.0 p.0 (omega (arith, p.1, c.args.self.now.laid.size))) }
