-- One bit of a word: put in, taken out, shifted, and the lowest that is set.
use Rattle.std.proofs.Common.{◌≡◌, ℕ, suc, ◌+◌, ◌-◌, ◌*◌, ◌/◌, ◌%◌, ◌^◌, ◌<◌, ◌≤◌, true, false, not, ◌&&◌, ◌||◌, eqb, ◌⊎◌, inl, inr, ap, w64}
use lib.Bits.{bit_and, bit_or}
use lib.Count.{count_trailing_zeros}
use Rattle.std.proofs.lemmas.Nat.{shr-shr}
use Rattle.std.proofs.lemmas.Nat.Bits.{bit_at_lowest, bit_at-suc, bit_at-zero, bit_at_above, bit_at_set_same, bit_at_set_other, bit_at_clear_same, bit_at_clear_other, bit_at-trailing_zeros}
use Rattle.std.proofs.lemmas.Bool.{cases_eq, ne_eqb, eq-eqb}
use Rattle.bitset.specs.Bits.{bit}

pub bit-zero : (n : ℕ) → bit n 0 ≡ eqb (n % 2) 1
unfolding bit
bit-zero n = ap (λ x. eqb x 1) (bit_at_lowest n)

pub bit-suc : (n k : ℕ) → bit n (suc k) ≡ bit (n / 2) k
unfolding bit
bit-suc n k = ap (λ x. eqb x 1) (bit_at-suc n k)

pub bit_of_zero : (k : ℕ) → bit 0 k ≡ false
unfolding bit
bit_of_zero k = ap (λ x. eqb x 1) (bit_at-zero k)

pub bit-shr : (n s k : ℕ) → bit (n / 2 ^ s) k ≡ bit n (s + k)
unfolding bit
bit-shr n s k = ap (λ x. eqb (x % 2) 1) (shr-shr n s k)

pub bit_high : (w n k : ℕ) → n < 2 ^ w → w ≤ k → bit n k ≡ false
unfolding bit
bit_high w n k h l = ap (λ x. eqb x 1) (bit_at_above n w k h l)

pub bit_set : (n b k : ℕ) → b < 64 → bit (bit_or n ((1 * 2 ^ b) % 2 ^ 64)) k ≡ (eqb k b || bit n k)
unfolding bit
bit_set n b k l = go (cases_eq k b)
  where
    go : (k ≡ b) ⊎ (k ≡ b → ⊥) → bit (bit_or n ((1 * 2 ^ b) % 2 ^ 64)) k ≡ (eqb k b || bit n k)
    go (inl e) = rw (eq-eqb k b e, e) (ap (λ x. eqb x 1) (bit_at_set_same w64 n b l))
    go (inr ne) = rw (ne_eqb k b ne) (ap (λ x. eqb x 1) (bit_at_set_other w64 n b l k ne))

pub bit_cleared : (n b k : ℕ) → b < 64 → k < 64 → bit (bit_and n (2 ^ 64 - 1 - (1 * 2 ^ b) % 2 ^ 64)) k ≡ (not (eqb k b) && bit n k)
unfolding bit
bit_cleared n b k l m = go (cases_eq k b)
  where
    go : (k ≡ b) ⊎ (k ≡ b → ⊥) → bit (bit_and n (2 ^ 64 - 1 - (1 * 2 ^ b) % 2 ^ 64)) k ≡ (not (eqb k b) && bit n k)
    go (inl e) = rw (eq-eqb k b e, e) (ap (λ x. eqb x 1) (bit_at_clear_same w64 n b l))
    go (inr ne) = rw (ne_eqb k b ne) (ap (λ x. eqb x 1) (bit_at_clear_other w64 n b l k m ne))

-- the number of trailing zeros is the place of the lowest bit that is set
pub lowest_bit : (n : ℕ) → 0 < n → n < 2 ^ 64 → (count_trailing_zeros 64 n < 64) × (bit n (count_trailing_zeros 64 n) ≡ true) × ((j : ℕ) → j < count_trailing_zeros 64 n → bit n j ≡ false)
unfolding bit
lowest_bit n some fits =
    let h = bit_at-trailing_zeros w64 n some fits in
    (h.0, ap (λ x. eqb x 1) h.1, λ j l. ap (λ x. eqb x 1) (h.2 j l))
