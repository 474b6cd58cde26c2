-- Reading an image: whether bytes are a sound image, and else which fault comes first.
use Rattle.std.specs.Prelude.{◌≡◌, ℕ, suc, ◌+◌, ◌≤◌, Bool, true, false, cond, not, ◌&&◌, List, [], ◌∷◌, length, Some, None, Ok, Err, Option, Result, ◌==◌, nat_le, nat_lt}
use Rattle.plan.specs.declared.number.Junction.{Junction}
use Rattle.plan.specs.declared.refusal.Refusal.{Refusal}
use Rattle.plan.specs.Plans.{within, count}
use Rattle.plan.specs.Refusals.{Verdict, carried, refused, number, values}
use Rattle.image.specs.Chains.{sound_chain, in_chain, reached}
use Rattle.image.specs.Images.{Image, field, record_at, image_of, image_length}
use Rattle.image.specs.declared.header.Header.{Header}
use Rattle.image.specs.Ranges.{each, some, lowest}

-- each field of the header is in its range: 1 to 512 junctions, at most 8,000 records, edition 1 and a zero
unfoldable pub header_sound : List ℕ → Bool
header_sound bytes = within 512 (field bytes 0) && (nat_le (field bytes 2) 8000 && (field bytes 4 == 1 && field bytes 6 == 0))

-- the chains, in the order of their junctions: the first faulty one; else, where a record is in none, a fault of junction 0
unfoldable pub chains_verdict : Image → Verdict
chains_verdict m =
    cond (some (λ v. not (sound_chain m v)) m.size) (refused 6 (lowest (λ v. not (sound_chain m v)) m.size ∷ []))
    (cond (each (reached m) m.records) carried (refused 6 (0 ∷ [])))

-- the checks in their order
unfoldable pub read_verdict : List ℕ → Verdict
read_verdict bytes =
    cond (nat_lt (length bytes) 8) (refused 4 []) (cond (not (header_sound bytes)) (refused 5 [])
    (cond (not (length bytes == image_length (field bytes 0) (field bytes 2))) (refused 4 [])
    (chains_verdict (image_of bytes))))

-- the bytes are a sound image
abbrev pub is_carried : Verdict → Bool
is_carried carried = true
is_carried (refused k vs) = false

abbrev pub is_sound : List ℕ → Bool
is_sound bytes = is_carried (read_verdict bytes)

-- the bytes have the sound header h and the length that it says
pub record Laid (bytes : List ℕ) (h : Header) : Type 0 where
  pub size : h.n ≡ (image_of bytes).size
  pub records : h.records ≡ (image_of bytes).records
  pub some : 1 ≤ h.n
  pub few : h.n ≤ 512
  pub most : h.records ≤ 8000
  pub long : length bytes ≡ image_length h.n h.records

-- a walk along the chain of v tells how many of the records are in it, or that it is faulty
abbrev pub Walked : Image → ℕ → Option ℕ → Type 0
Walked m v None = sound_chain m v ≡ false
Walked m v (Some r) = (sound_chain m v ≡ true) × (r ≡ count (λ j. in_chain m v (suc j)) m.records)

-- the header and the length leave the verdict to the chains, or give it
abbrev pub HeaderRead : List ℕ → Result Header Refusal → Type 0
HeaderRead bytes (Ok h) = Laid bytes h × (chains_verdict (image_of bytes) ≡ read_verdict bytes)
HeaderRead bytes (Err e) = refused (number e) (values e) ≡ read_verdict bytes

-- a header answered is the image's, and the image has the length that it says
abbrev pub HeaderOf : List ℕ → Result Header Refusal → Type 0
HeaderOf bytes (Ok h) = Laid bytes h
HeaderOf bytes (Err e) = Unit {0}

-- the bytes reach to the end of the record of index i
abbrev pub has_record : List ℕ → ℕ → Bool
has_record bytes i = nat_le 1 i && nat_le (record_at (field bytes 0) i + 6) (length bytes)

-- the ends of the record of index i, where the bytes have it
abbrev pub RecordEnds : List ℕ → ℕ → Option (Junction × Junction) → Type 0
RecordEnds bytes i None = has_record bytes i ≡ false
RecordEnds bytes i (Some ends) = (has_record bytes i ≡ true) × (ends.0.0 ≡ (image_of bytes).near i) × (ends.1.0 ≡ (image_of bytes).far i)
