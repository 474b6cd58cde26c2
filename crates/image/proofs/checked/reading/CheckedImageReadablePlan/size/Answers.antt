use Rattle.std.proofs.Common.{vec_items}
use Rattle.image.specs.Reading.{Laid}
use Rattle.image.specs.Sounds.{sound_laid}
use Rattle.image.proofs.checked.reading.CheckedImageReadablePlan.size.Goals as goal

pub returns : goal.returns
returns c =
    let l : Laid (vec_items c.args.self.now.bytes) c.args.self.now.header = sound_laid (vec_items c.args.self.now.bytes) c.args.self.now.header c.args.self.now.sound c.args.self.now.size c.args.self.now.count in
    record { value = l.size; some = l.some; few = l.few }
