use Rattle.std.proofs.Common.{◌<◌, ◌≤◌, sym, subst, arith, rules}
use Rattle.std.specs.NonZero.{non_zero_u16_get}
use Rattle.image.specs.Images.{image_of}
use Rattle.image.specs.Records.{index_field}
use Rattle.image.specs.SoundSteps.{ends_left}
use Rattle.image.specs.Sounds.{sound_chained, is_sound_carried}
use Rattle.image.proofs.SoundWalks.{next_inside, ends_fall}
use Rattle.image.proofs.chains.SoundChainIterator.next.Goals as goal

pub invariant_of-self : goal.invariant_of-self
invariant_of-self c =
    let bytes = c.args.self.now.image.bytes.now in
    let i = non_zero_u16_get c.in_ok-self.field-0 in
    let few : i ≤ (image_of bytes).records = subst (λ o. index_field o ≤ (image_of bytes).records) c.in_ok-self.was c.args.self.now.inside in
    record { sound = c.args.self.now.sound; inside = rw c.known_record-found.ensures.next (next_inside (image_of bytes) (sound_chained bytes (is_sound_carried bytes c.args.self.now.sound)) i (omega arith) few) }

pub returns-clause-goes : goal.returns-clause-goes
returns-clause-goes c =
    let bytes = c.args.self.now.image.bytes.now in
    let i = non_zero_u16_get c.in_ok-self.field-0 in
    let few : i ≤ (image_of bytes).records = subst (λ o. index_field o ≤ (image_of bytes).records) c.in_ok-self.was c.args.self.now.inside in
    let falls : ends_left (image_of bytes) ((image_of bytes).next i) < ends_left (image_of bytes) i = ends_fall (image_of bytes) (sound_chained bytes (is_sound_carried bytes c.args.self.now.sound)) i (omega arith) few in
    let less : ends_left (image_of bytes) (index_field c.known_record-found.result.next) < ends_left (image_of bytes) (index_field c.args.self.now.at) = subst (λ o. ends_left (image_of bytes) (index_field c.known_record-found.result.next) < ends_left (image_of bytes) (index_field o)) (sym c.in_ok-self.was) (rw c.known_record-found.ensures.next falls) in
    search rules
