use Rattle.std.proofs.Common.{refl}
use Rattle.image.specs.Chains.{sound_from, reaches}
use Rattle.image.specs.Images.{image_of}
use Rattle.image.specs.Reading.{header_sound, chains_verdict, read_verdict}
use Rattle.image.specs.Writing.{uppers, pipes_to, link, heads, chain_to, records_to, written}
use Rattle.image.proofs.laws.worked_images.Goals as goal

pub returns-clause-worked : goal.returns-clause-worked
unfolding uppers pipes_to link heads chain_to records_to written image_of sound_from reaches header_sound chains_verdict read_verdict
returns-clause-worked c =
    record {
      ring_long = refl;
      ring_heads = (refl, refl, refl, refl);
      ring_sound = refl;
      ring_joined = (refl, refl, refl, refl);
      ring_apart = (refl, refl);
      ring_written = refl;
      byte_more = λ b. refl;
      lost_long = refl;
      lost_refused = refl;
    }
