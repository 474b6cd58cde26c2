-- The image of a plan as bytes: fields of 16 bits, low byte first. A header of four fields; a head for each junction; records of three fields, indexed from 1.
use Rattle.std.specs.Prelude.{ℕ, ◌+◌, ◌-◌, ◌*◌, ◌/◌, ◌%◌, List, [], ◌∷◌, slice_index}

-- the field whose low byte stands at index k
abbrev pub field : List ℕ → ℕ → ℕ
field bytes k = slice_index bytes k + 256 * slice_index bytes (k + 1)

-- fields as bytes
abbrev pub bytes_of : List ℕ → List ℕ
bytes_of [] = []
bytes_of (x ∷ xs) = x % 256 ∷ x / 256 ∷ bytes_of xs

-- what an image says: the numbers of junctions and of records; for junction v the index of its first record, or 0; for the record of index i its ends, and the index of the next record of its chain, or 0
pub record Image : Type 0 where
  pub size : ℕ
  pub records : ℕ
  pub head : ℕ → ℕ
  pub near : ℕ → ℕ
  pub far : ℕ → ℕ
  pub next : ℕ → ℕ

-- where the head of v stands, and the record of index i in an image of n junctions
abbrev pub head_at : ℕ → ℕ
head_at v = 8 + 2 * (v - 1)

abbrev pub record_at : ℕ → ℕ → ℕ
record_at n i = 8 + 2 * n + 6 * (i - 1)

unfoldable pub image_of : List ℕ → Image
image_of bytes = record {
  size = field bytes 0;
  records = field bytes 2;
  head = λ v. field bytes (head_at v);
  near = λ i. field bytes (record_at (field bytes 0) i);
  far = λ i. field bytes (record_at (field bytes 0) i + 2);
  next = λ i. field bytes (record_at (field bytes 0) i + 4);
}

-- the number of bytes of an image of n junctions and r records
abbrev pub image_length : ℕ → ℕ → ℕ
image_length n r = 8 + 2 * n + 6 * r
