-- The laws of sound images.
use Rattle.std.specs.Prelude.{◌≡◌, ℕ, ◌+◌, ◌≤◌, true, false, List, length, ◌≢◌, nat_le, refl}
use Rattle.std.proofs.Common.{sym, arith}
use Rattle.std.proofs.lemmas.Bool.{both_ways, and_from, le-leb}
use Rattle.plan.specs.Refusals.{carried}
use Rattle.image.specs.Chains.{in_chain}
use Rattle.image.specs.Images.{Image, field, record_at, image_of}
use Rattle.image.specs.Laws.{SoundLaws}
use Rattle.image.specs.Reading.{read_verdict, has_record}
use Rattle.image.proofs.Countings.{records_pairs}
use Rattle.image.specs.Sounds.{Carried, carried_parts, Chained, placed, single, pipe_record, record_pipe, plan_sound, sound_chained}
use Rattle.image.specs.Tallies.{in_chain_near}

module _ (m : Image) (c : Chained m) where
  pub chained_laws : 1 ≤ m.size → m.size ≤ 512 → SoundLaws m
  chained_laws some few =
      record {
        ends = λ i a b. let p = placed m c i a b in (p.some, p.above, p.below);
        chained = λ i a b. (placed m c i a b).here;
        apart = λ v i a b h. sym (in_chain_near m v i (c.sound v a b) h).near;
        single = single m c;
        joined = pipe_record m c;
        joins = λ i a b. record_pipe m c i (m.near i) (m.far i) a b refl refl;
        counted = records_pairs m c;
        plan = plan_sound m c some few;
      }

pub sound_laws : (bytes : List ℕ) → read_verdict bytes ≡ carried → SoundLaws (image_of bytes)
unfolding image_of
sound_laws bytes h =
    let p : Carried bytes = carried_parts bytes h in
    chained_laws (image_of bytes) (sound_chained bytes h) p.range.some p.range.few

pub lost_refused : (bytes : List ℕ) (i : ℕ) → 1 ≤ i → i ≤ (image_of bytes).records → ((v : ℕ) → 1 ≤ v → v ≤ (image_of bytes).size → in_chain (image_of bytes) v i ≡ false) → read_verdict bytes ≢ carried
lost_refused bytes i a b none h =
    let r = (sound_chained bytes h).all i a b in
    both_ways (in_chain (image_of bytes) r.0 i) (none r.0 r.1 r.2) r.3

pub record_present : (bytes : List ℕ) (i : ℕ) → read_verdict bytes ≡ carried → 1 ≤ i → i ≤ (image_of bytes).records → has_record bytes i ≡ true
unfolding image_of
record_present bytes i h a b =
    and_from (nat_le 1 i) (nat_le (record_at (field bytes 0) i + 6) (length bytes)) (le-leb 1 i a) (le-leb (record_at (field bytes 0) i + 6) (length bytes) (omega (arith, (carried_parts bytes h).long)))
