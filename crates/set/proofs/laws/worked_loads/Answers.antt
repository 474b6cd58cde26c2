use Rattle.std.proofs.Common.{refl}
use Rattle.image.specs.Chains.{sound_from, reaches}
use Rattle.image.specs.Images.{image_of}
use Rattle.image.specs.Reading.{header_sound, chains_verdict, read_verdict}
use Rattle.set.specs.Ledgers.{with_records}
use Rattle.set.proofs.laws.worked_loads.Goals as goal

pub returns : goal.returns
unfolding with_records image_of sound_from reaches header_sound chains_verdict read_verdict
returns c =
    record {
      value = refl;
      worked = record {
        carries = refl;
        enough = refl;
        joined = (refl, refl, refl, refl);
        apart = (refl, refl);
        spare = refl;
        few = refl;
        twice = refl;
        shut = refl;
        other = refl;
        longer = λ b. refl;
        lost = refl;
      };
    }
