-- The header of an image and its length: what they tell of the verdict.
use Rattle.std.specs.Prelude.{◌≡◌, ℕ, ◌<◌, ◌≤◌, true, false, ◌&&◌, ◌⊎◌, List, [], length, Ok, ◌==◌, ◌≢◌, nat_le}
use Rattle.std.proofs.Math.Path.{refl}
use Rattle.std.proofs.Common.{sym, ◌∙◌, inl, inr, arith}
use Rattle.std.proofs.lemmas.Bool.{cases_Bool, and_parts, and_from, lt-ltb, le-ltb, le-leb, leb-true, eq-eqb, ne_eqb, eqb-true}
use Rattle.plan.specs.Plans.{within}
use Rattle.plan.specs.Refusals.{refused}
use Rattle.image.specs.Images.{field, image_of, image_length}
use Rattle.image.specs.Reading.{header_sound, chains_verdict, read_verdict, HeaderRead}
use Rattle.image.specs.declared.header.Header.{Header}

-- each field of the header is in its range
pub record InRange (bytes : List ℕ) : Type 0 where
  pub some : 1 ≤ field bytes 0
  pub few : field bytes 0 ≤ 512
  pub most : field bytes 2 ≤ 8000
  pub edition : field bytes 4 ≡ 1
  pub zero : field bytes 6 ≡ 0

module _ (bytes : List ℕ) where
  pub in_range : (n r e z : ℕ) → n ≡ field bytes 0 → r ≡ field bytes 2 → e ≡ field bytes 4 → z ≡ field bytes 6 → (n ≢ 0) → n ≤ 512 → r ≤ 8000 → e ≡ 1 → z ≡ 0 → InRange bytes
  in_range n r e z n-is r-is e-is z-is some few most edition zero =
      record { some = omega arith; few = omega arith; most = omega arith; edition = sym e-is ∙ edition; zero = sym z-is ∙ zero }

  in_range_sound : InRange bytes → header_sound bytes ≡ true
  unfolding header_sound
  in_range_sound h =
      and_from (within 512 (field bytes 0)) (nat_le (field bytes 2) 8000 && (field bytes 4 == 1 && field bytes 6 == 0))
      (and_from (nat_le 1 (field bytes 0)) (nat_le (field bytes 0) 512) (le-leb 1 (field bytes 0) h.some) (le-leb (field bytes 0) 512 h.few))
      (and_from (nat_le (field bytes 2) 8000) (field bytes 4 == 1 && field bytes 6 == 0) (le-leb (field bytes 2) 8000 h.most)
      (and_from (field bytes 4 == 1) (field bytes 6 == 0) (eq-eqb (field bytes 4) 1 h.edition) (eq-eqb (field bytes 6) 0 h.zero)))

  pub sound_in_range : header_sound bytes ≡ true → InRange bytes
  unfolding header_sound
  sound_in_range h =
      let a = and_parts (within 512 (field bytes 0)) (nat_le (field bytes 2) 8000 && (field bytes 4 == 1 && field bytes 6 == 0)) h in
      let b = and_parts (nat_le 1 (field bytes 0)) (nat_le (field bytes 0) 512) a.0 in
      let c = and_parts (nat_le (field bytes 2) 8000) (field bytes 4 == 1 && field bytes 6 == 0) a.1 in
      let d = and_parts (field bytes 4 == 1) (field bytes 6 == 0) c.1 in
      record {
        some = leb-true 1 (field bytes 0) b.0;
        few = leb-true (field bytes 0) 512 b.1;
        most = leb-true (field bytes 2) 8000 c.0;
        edition = eqb-true (field bytes 4) 1 d.0;
        zero = eqb-true (field bytes 6) 0 d.1;
      }

  out_of_range : (InRange bytes → ⊥) → header_sound bytes ≡ false
  out_of_range out = go (cases_Bool (header_sound bytes))
    where
      go : (header_sound bytes ≡ true) ⊎ (header_sound bytes ≡ false) → header_sound bytes ≡ false
      go (inl h) = absurd (out (sound_in_range h))
      go (inr h) = h

  pub verdict_short : length bytes < 8 → refused 4 [] ≡ read_verdict bytes
  unfolding read_verdict
  verdict_short h = rw (lt-ltb (length bytes) 8 h) refl

  pub verdict_header : 8 ≤ length bytes → (InRange bytes → ⊥) → refused 5 [] ≡ read_verdict bytes
  unfolding read_verdict
  verdict_header h out = rw (le-ltb (length bytes) 8 h, out_of_range out) refl

  pub verdict_length : 8 ≤ length bytes → InRange bytes → (length bytes ≢ image_length (field bytes 0) (field bytes 2)) → refused 4 [] ≡ read_verdict bytes
  unfolding read_verdict
  verdict_length h range ne = rw (le-ltb (length bytes) 8 h, in_range_sound range, ne_eqb (length bytes) (image_length (field bytes 0) (field bytes 2)) ne) refl

  pub verdict_chains : 8 ≤ length bytes → InRange bytes → length bytes ≡ image_length (field bytes 0) (field bytes 2) → chains_verdict (image_of bytes) ≡ read_verdict bytes
  unfolding read_verdict
  verdict_chains h range e = rw (le-ltb (length bytes) 8 h, in_range_sound range, eq-eqb (length bytes) (image_length (field bytes 0) (field bytes 2)) e) refl

  pub header_read : (h : Header) → 8 ≤ length bytes → h.n ≡ field bytes 0 → h.records ≡ field bytes 2 → InRange bytes → length bytes ≡ image_length h.n h.records → HeaderRead bytes (Ok h)
  unfolding image_of
  header_read h eight n-is r-is range e =
      (record { size = n-is; records = r-is; some = omega (arith, range.some); few = omega (arith, range.few); most = omega (arith, range.most); long = e }, verdict_chains eight range (rw (n-is, r-is) at e))
