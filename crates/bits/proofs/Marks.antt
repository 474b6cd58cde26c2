-- The rows of bits: what a change of the mark of a pair does to the plan that they keep.
use Rattle.std.proofs.Common.{◌≡◌, ℕ, ◌*◌, ◌<◌, ◌≤◌, Bool, true, false, ◌&&◌, List, get_or, sym, refl, ◌∙◌, arith}
use Rattle.std.proofs.lemmas.Bool.{and_parts}
use Rattle.std.proofs.lemmas.Bool.Decides.{nat_tests}
use Rattle.plan.specs.Plans.{within}
use Rattle.plan.specs.Registers.{same_pair}
use Rattle.plan.proofs.PipeLaws.{within_parts}
use Rattle.bitset.specs.Bits.{holds}
use Rattle.pairs.specs.Rows.{number, marked}
use Rattle.pairs.proofs.Marked.{marked-holds, marked_blank}
use Rattle.bits.specs.Rows.{joined}

-- numbers out of range are neither end of the pair
pair_within : (n v w a b : ℕ) → within n v ≡ true → within n w ≡ true → (within n a && within n b) ≡ false → same_pair v w a b ≡ false
pair_within n v w a b p q e = grind (arith, nat_tests)

module _ (n : ℕ) (few : n ≤ 512) where
  -- two junctions are joined where their pair is marked
  pub holds_mark : (ws : List ℕ) (a b : ℕ) → (within n a && within n b) ≡ true → holds ws (number a b) ≡ marked ws a b
  holds_mark ws a b inside =
      let i : (within n a ≡ true) × (within n b ≡ true) = and_parts (within n a) (within n b) inside in
      let x : (1 ≤ a) × (a ≤ n) = within_parts n a i.0 in
      let y : (1 ≤ b) × (b ≤ n) = within_parts n b i.1 in
      sym (marked-holds ws a b x.0 y.0 (omega (arith, y.1)))

  pub joined-mark : (ws : List ℕ) (a b : ℕ) → within n a ≡ true → within n b ≡ true → joined n ws a b ≡ marked ws a b
  joined-mark ws a b i j = let e : (within n a && within n b) ≡ true = rw (i, j) refl in rw e (holds_mark ws a b e)

  -- a change of the marks of a pair of junctions is one of its pipe
  pub joined_changed : (change : Bool → Bool → Bool) → change false false ≡ false → (ws ws' : List ℕ) (v w : ℕ) → within n v ≡ true → within n w ≡ true → ((a b : ℕ) → marked ws' a b ≡ change (same_pair v w a b) (marked ws a b)) → (a b : ℕ) → joined n ws' a b ≡ change (same_pair v w a b) (joined n ws a b)
  joined_changed change none ws ws' v w v-in w-in changed a b = go (within n a && within n b) refl
    where
      go : (t : Bool) → (within n a && within n b) ≡ t → (t && holds ws' (number a b)) ≡ change (same_pair v w a b) (t && holds ws (number a b))
      go true e = rw (holds_mark ws' a b e, holds_mark ws a b e) (changed a b)
      go false e = rw (pair_within n v w a b v-in w-in e) (sym none)

  -- rows of zeros join nothing
  pub joined-blank : (ws : List ℕ) → ((k : ℕ) → k < 8 * n → get_or ws k 0 ≡ 0) → (a b : ℕ) → joined n ws a b ≡ false
  joined-blank ws zeros a b = go (within n a && within n b) refl
    where
      go : (t : Bool) → (within n a && within n b) ≡ t → (t && holds ws (number a b)) ≡ false
      go true e =
          let i : (within n a ≡ true) × (within n b ≡ true) = and_parts (within n a) (within n b) e in
          holds_mark ws a b e ∙ marked_blank ws n zeros a b (within_parts n a i.0).1
      go false e = refl
