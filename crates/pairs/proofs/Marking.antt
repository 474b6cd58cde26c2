-- A pair put into both its rows, or taken out of both.
use Rattle.std.proofs.Common.{◌≡◌, ℕ, ◌-◌, ◌*◌, ◌/◌, ◌<◌, ◌≤◌, Bool, true, false, not, ◌&&◌, ◌||◌, eqb, ltb, ◌⊎◌, List, length, get_or, MatchBool, sym, refl, ap, ◌∙◌, inl, inr, arith}
use Rattle.std.proofs.lemmas.Bool.{cases_eq, cases_lt, eq-eqb, ne_eqb, lt-ltb}
use Rattle.std.proofs.lemmas.Bool.Decides.{nat_tests}
use Rattle.bitset.specs.Bits.{holds, Inserted, Removed}
use Rattle.plan.specs.Registers.{same_pair}
use Rattle.pairs.specs.Rows.{number, has_row, marked, Marks, Unmarks}
use Rattle.pairs.proofs.Marked.{marked-holds, marked-outside}

pub has_row_parts : (rows : List ℕ) (v : ℕ) → has_row rows v ≡ true → (1 ≤ v) × (v ≤ 512) × (8 * v ≤ length rows)
has_row_parts rows v h = grind (arith, nat_tests)

pub has_row_from : (rows : List ℕ) (v : ℕ) → 1 ≤ v → v ≤ 512 → 8 * v ≤ length rows → has_row rows v ≡ true
has_row_from rows v a b c = grind (arith, nat_tests)

-- the numbers of v's row stand in its eight words
word_in_row : (v w : ℕ) → 1 ≤ v → 1 ≤ w → w ≤ 512 → number v w / 64 / 8 ≡ v - 1
word_in_row v w a b c = omega arith

number_apart : (v w a b : ℕ) → 1 ≤ v → 1 ≤ w → w ≤ 512 → 1 ≤ a → 1 ≤ b → b ≤ 512 → number a b ≡ number v w → (a ≡ v) × (b ≡ w)
number_apart v w a b i j k x y z e = omega arith

eqb-number : (v w a b : ℕ) → 1 ≤ v → 1 ≤ w → w ≤ 512 → 1 ≤ a → 1 ≤ b → b ≤ 512 → eqb (number a b) (number v w) ≡ (eqb a v && eqb b w)
eqb-number v w a b i j k x y z = go (cases_eq a v) (cases_eq b w)
  where
    go : (a ≡ v) ⊎ (a ≡ v → ⊥) → (b ≡ w) ⊎ (b ≡ w → ⊥) → eqb (number a b) (number v w) ≡ (eqb a v && eqb b w)
    go (inl d) (inl e) = rw (eq-eqb a v d, eq-eqb b w e) (eq-eqb (number a b) (number v w) (omega arith))
    go (inr d) e = rw (ne_eqb a v d) (ne_eqb (number a b) (number v w) (λ q. d (number_apart v w a b i j k x y z q).0))
    go (inl d) (inr e) = rw (eq-eqb a v d, ne_eqb b w e) (ne_eqb (number a b) (number v w) (λ q. e (number_apart v w a b i j k x y z q).1))

-- one bit changed after the other, by a change that is one of both where it is made twice
module _ (change : Bool → Bool → Bool) (kept : (h : Bool) → change false h ≡ h) (twice : (x y h : Bool) → change y (change x h) ≡ change (x || y) h) (before mid after : List ℕ) (v w : ℕ) (v-in : has_row before v ≡ true) (w-in : has_row before w ≡ true) where
  -- the pair is changed, and no other
  pairs_changed : ((j : ℕ) → holds mid j ≡ change (eqb j (number v w)) (holds before j)) → ((j : ℕ) → holds after j ≡ change (eqb j (number w v)) (holds mid j)) → (a b : ℕ) → marked after a b ≡ change (same_pair v w a b) (marked before a b)
  pairs_changed first second a b = go (cases_lt 0 a) (cases_lt 0 b) (cases_lt 512 b)
    where
      p : (1 ≤ v) × (v ≤ 512) × (8 * v ≤ length before)
      p = has_row_parts before v v-in

      q : (1 ≤ w) × (w ≤ 512) × (8 * w ≤ length before)
      q = has_row_parts before w w-in

      outside : ((1 ≤ a) × (1 ≤ b) × (b ≤ 512) → ⊥) → marked after a b ≡ change (same_pair v w a b) (marked before a b)
      outside out =
          let x : same_pair v w a b ≡ false = apart p.0 p.1 q.0 q.1 out in
          rw (marked-outside after a b out, marked-outside before a b out, x) (sym (kept false))
        where
          apart : 1 ≤ v → v ≤ 512 → 1 ≤ w → w ≤ 512 → ((1 ≤ a) × (1 ≤ b) × (b ≤ 512) → ⊥) → same_pair v w a b ≡ false
          apart i j k l out = grind (arith, nat_tests)

      inside : 1 ≤ a → 1 ≤ b → b ≤ 512 → marked after a b ≡ change (same_pair v w a b) (marked before a b)
      inside i j k =
          rw (marked-holds after a b i j k, marked-holds before a b i j k, second (number a b), first (number a b), eqb-number v w a b p.0 q.0 q.1 i j k, eqb-number w v a b q.0 p.0 p.1 i j k)
          (twice (eqb a v && eqb b w) (eqb a w && eqb b v) (holds before (number a b)))

      go : (0 < a) ⊎ (a ≤ 0) → (0 < b) ⊎ (b ≤ 0) → (512 < b) ⊎ (b ≤ 512) → marked after a b ≡ change (same_pair v w a b) (marked before a b)
      go (inl i) (inl j) (inr k) = inside i j k
      go (inl i) (inl j) (inl k) = outside (λ h. omega arith)
      go (inl i) (inr j) k = outside (λ h. omega arith)
      go (inr i) j k = outside (λ h. omega arith)

-- words of other rows stay
others_kept : (before mid after : List ℕ) (v w : ℕ) → has_row before v ≡ true → has_row before w ≡ true → ((k : ℕ) → (k ≡ number v w / 64 → ⊥) → get_or mid k 0 ≡ get_or before k 0) → ((k : ℕ) → (k ≡ number w v / 64 → ⊥) → get_or after k 0 ≡ get_or mid k 0) → (k : ℕ) → (k / 8 ≡ v - 1 → ⊥) → (k / 8 ≡ w - 1 → ⊥) → get_or after k 0 ≡ get_or before k 0
others_kept before mid after v w v-in w-in first second k x y =
    let p : (1 ≤ v) × (v ≤ 512) × (8 * v ≤ length before) = has_row_parts before v v-in in
    let q : (1 ≤ w) × (w ≤ 512) × (8 * w ≤ length before) = has_row_parts before w w-in in
    second k (λ e. y (ap (λ i. i / 8) e ∙ word_in_row w v q.0 p.0 p.1)) ∙ first k (λ e. x (ap (λ i. i / 8) e ∙ word_in_row v w p.0 q.0 q.1))

-- a number within the words is put in
put_inside : (ws ws' : List ℕ) (i : ℕ) → Inserted ws i ws' → i < 64 * length ws → (j : ℕ) → holds ws' j ≡ (eqb j i || holds ws j)
put_inside ws ws' i put l j =
    let e : ltb (i / 64) (length ws) ≡ true = lt-ltb (i / 64) (length ws) (omega arith) in
    put.bits j ∙ rw e (inside (eqb j i) (holds ws j))
  where
    inside : (b h : Bool) → ((b && true) || h) ≡ (b || h)
    inside true h = refl
    inside false h = refl

set_twice : (x y h : Bool) → (y || (x || h)) ≡ ((x || y) || h)
set_twice true true h = refl
set_twice true false h = refl
set_twice false true h = refl
set_twice false false h = refl

cleared_twice : (x y h : Bool) → (not y && (not x && h)) ≡ (not (x || y) && h)
cleared_twice true true h = refl
cleared_twice true false h = refl
cleared_twice false true h = refl
cleared_twice false false h = refl

module _ (before mid after : List ℕ) (v w : ℕ) (v-in : has_row before v ≡ true) (w-in : has_row before w ≡ true) where
  pub marks_both : length mid ≡ length before → Inserted before (number v w) mid → Inserted mid (number w v) after → MatchBool (has_row before v && has_row before w) (Marks before v w after) (after ≡ before)
  marks_both long first second =
      let p : (1 ≤ v) × (v ≤ 512) × (8 * v ≤ length before) = has_row_parts before v v-in in
      let q : (1 ≤ w) × (w ≤ 512) × (8 * w ≤ length before) = has_row_parts before w w-in in
      rw (v-in, w-in) (record {
        pairs = pairs_changed (λ b h. b || h) (λ h. refl) set_twice before mid after v w v-in w-in
            (put_inside before mid (number v w) first (omega arith)) (put_inside mid after (number w v) second (omega arith));
        others = others_kept before mid after v w v-in w-in first.others second.others;
      })

  pub unmarks_both : Removed before (number v w) mid → Removed mid (number w v) after → MatchBool (has_row before v && has_row before w) (Unmarks before v w after) (after ≡ before)
  unmarks_both first second =
      rw (v-in, w-in) (record {
        pairs = pairs_changed (λ b h. not b && h) (λ h. refl) cleared_twice before mid after v w v-in w-in first.bits second.bits;
        others = others_kept before mid after v w v-in w-in first.others second.others;
      })
