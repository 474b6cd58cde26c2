use Rattle.std.proofs.Common.{vec_items}
use Rattle.image.specs.Sounds.{sound_laid}
use Rattle.image.proofs.checked.CheckedImage.layout.Goals as goal

pub invariant_of-result : goal.invariant_of-result
invariant_of-result c =
    record { laid = rw c.deref.ensures.value (sound_laid (vec_items c.args.self.now.bytes) c.args.self.now.header c.args.self.now.sound c.args.self.now.size c.args.self.now.count) }
