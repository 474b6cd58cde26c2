use Rattle.image.proofs.SoundImages.{sound_laws, record_present, lost_refused}
use Rattle.image.proofs.laws.image_laws.Goals as goal

pub returns-clause-laws : goal.returns-clause-laws
returns-clause-laws c = record { sound = sound_laws; present = record_present; lost = lost_refused }
