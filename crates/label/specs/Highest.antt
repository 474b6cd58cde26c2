-- Comparing sets of marks by their words: the greater has the highest mark in which they differ.
use Rattle.std.specs.Prelude.{◌≡◌, ℕ, zero, suc, ◌+◌, ◌-◌, ◌*◌, ◌/◌, ◌%◌, ◌^◌, ◌<◌, ◌≤◌, Bool, true, false, ◌&&◌, ◌⊎◌, List, ◌≢◌, nat_eq, slice_index, slice_index_or}
use Rattle.std.specs.declared.cmp.Ordering.TheVariants.{Less, Equal, Greater}
use Rattle.std.specs.declared.cmp.Ordering.{Ordering}
use Rattle.std.proofs.Common.{sym, ap, ap₂, ◌∙◌, inl, inr, pow-suc, arith}
use Rattle.std.proofs.lemmas.Bool.{cases_order, cases_eq, cases_lt}
use Rattle.std.proofs.lemmas.Bool.Decides.{nat_tests}
use Rattle.std.specs.Ordering.{ordering_then, MatchOrdering}
use Rattle.bitset.specs.Bits.{bit, holds}
use Rattle.bitset.proofs.BitLaws.{bit-zero, bit-suc}
use Rattle.label.specs.declared.lexicographic.MarkSet.{MarkSet}
use Rattle.label.specs.Marks.{is_mark}
use Rattle.label.specs.Counts.{by_number}
use Rattle.label.specs.Sets.{marked, Exceeds, by_words}

-- ---- one word
-- the greater of two words has the highest bit in which they differ
pub record TopBit (w x y : ℕ) : Type 0 where
  pub at : ℕ
  pub below : at < w
  pub here : bit y at ≡ true
  pub there : bit x at ≡ false
  pub above : (c : ℕ) → at < c → bit y c ≡ bit x c

pub top_bit : (w x y : ℕ) → x < y → y < 2 ^ w → TopBit w x y
top_bit zero x y l f = absurd (omega arith)
top_bit (suc w) x y l f =
    go (cases_eq (x / 2) (y / 2)) (λ h. top_bit w (x / 2) (y / 2) h (omega (arith, pow-suc 2 w)))
  where
    go : (x / 2 ≡ y / 2) ⊎ (x / 2 ≢ y / 2) → (x / 2 < y / 2 → TopBit w (x / 2) (y / 2)) → TopBit (suc w) x y
    go (inl e) rest = record {
      at = 0;
      below = omega arith;
      here = bit-zero y ∙ (ap (λ n. nat_eq n 1) (let o : y % 2 ≡ 1 = omega arith in o));
      there = bit-zero x ∙ (ap (λ n. nat_eq n 1) (let o : x % 2 ≡ 0 = omega arith in o));
      above = higher;
    }
      where
        higher : (c : ℕ) → 0 < c → bit y c ≡ bit x c
        higher zero h = absurd (omega arith)
        higher (suc c) h = bit-suc y c ∙ (ap (λ n. bit n c) (sym e) ∙ sym (bit-suc x c))
    go (inr ne) rest =
        let r : TopBit w (x / 2) (y / 2) = rest (omega arith) in
        shift r
      where
        shift : TopBit w (x / 2) (y / 2) → TopBit (suc w) x y
        shift r = record {
          at = suc r.at;
          below = omega (arith, r.below);
          here = bit-suc y r.at ∙ r.here;
          there = bit-suc x r.at ∙ r.there;
          above = higher;
        }
          where
            higher : (c : ℕ) → suc r.at < c → bit y c ≡ bit x c
            higher zero h = absurd (omega arith)
            higher (suc c) h = bit-suc y c ∙ (r.above c (omega arith) ∙ sym (bit-suc x c))

-- ---- all words
-- the words above k are the same, and word k is less
pub exceeds_at : (a b : MarkSet) (k : ℕ) → k < 8 → ((j : ℕ) → k < j → j < 8 → slice_index a.words j ≡ slice_index b.words j) → slice_index a.words k < slice_index b.words k → slice_index b.words k < 2 ^ 64 → Exceeds (marked b) (marked a)
unfolding holds
exceeds_at a b k l same less fits =
    let t : TopBit 64 (slice_index a.words k) (slice_index b.words k) = top_bit 64 (slice_index a.words k) (slice_index b.words k) less fits in
    let low : t.at < 64 = t.below in
    let word : (suc (64 * k + t.at) - 1) / 64 ≡ k = omega arith in
    let place : (suc (64 * k + t.at) - 1) % 64 ≡ t.at = omega arith in
    let mark : is_mark (suc (64 * k + t.at)) ≡ true = grind (arith, nat_tests) in (
      suc (64 * k + t.at),
      ap₂ (λ (p q : Bool). p && q) mark (ap₂ (λ (i j : ℕ). bit (slice_index b.words i) j) word place ∙ t.here),
      ap₂ (λ (p q : Bool). p && q) mark (ap₂ (λ (i j : ℕ). bit (slice_index a.words i) j) word place ∙ t.there),
      higher t,
    )
  where
    higher : (t : TopBit 64 (slice_index a.words k) (slice_index b.words k)) (m : ℕ) → suc (64 * k + t.at) < m → marked b m ≡ marked a m
    higher t m h = go (cases_eq ((m - 1) / 64) k) (cases_lt 512 m)
      where
        go : ((m - 1) / 64 ≡ k) ⊎ ((m - 1) / 64 ≢ k) → (512 < m) ⊎ (m ≤ 512) → marked b m ≡ marked a m
        go c (inl past) =
            let no_mark : is_mark m ≡ false = grind (arith, nat_tests) in
            ap (λ p. p && holds b.words (m - 1)) no_mark ∙ sym (ap (λ p. p && holds a.words (m - 1)) no_mark)
        go (inl e) (inr in') =
            ap (λ q. is_mark m && q) (ap (λ i. bit (slice_index b.words i) ((m - 1) % 64)) e ∙ (t.above ((m - 1) % 64) (omega arith) ∙ sym (ap (λ i. bit (slice_index a.words i) ((m - 1) % 64)) e)))
        go (inr ne) (inr in') =
            ap (λ w. is_mark m && bit w ((m - 1) % 64)) (sym (same ((m - 1) / 64) (omega (arith, t.below)) (omega arith)))

-- the words are all the same
pub same_words : (a b : MarkSet) → ((j : ℕ) → j < 8 → slice_index a.words j ≡ slice_index b.words j) → (m : ℕ) → marked a m ≡ marked b m
unfolding holds
same_words a b same m = go (cases_lt 512 m)
  where
    go : (512 < m) ⊎ (m ≤ 512) → marked a m ≡ marked b m
    go (inl past) =
        let no_mark : is_mark m ≡ false = grind (arith, nat_tests) in
        ap (λ p. p && holds a.words (m - 1)) no_mark ∙ sym (ap (λ p. p && holds b.words (m - 1)) no_mark)
    go (inr in') = ap (λ w. is_mark m && bit w ((m - 1) % 64)) (same ((m - 1) / 64) (omega arith))

-- how the sets rank
abbrev pub RankedSets : Ordering → MarkSet → MarkSet → Type 0
RankedSets o a b = MatchOrdering o (Exceeds (marked b) (marked a)) ((m : ℕ) → marked a m ≡ marked b m) (Exceeds (marked a) (marked b))

pub ranked_words : (n : ℕ) (a b : MarkSet) → n ≤ 8 → ((k : ℕ) → slice_index a.words k < 2 ^ 64) → ((k : ℕ) → slice_index b.words k < 2 ^ 64) → ((j : ℕ) → n ≤ j → j < 8 → slice_index a.words j ≡ slice_index b.words j) → RankedSets (by_words n a.words b.words) a b
ranked_words zero a b l fa fb same = same_words a b (λ j h. same j (omega arith) h)
ranked_words (suc n) a b l fa fb same =
    go (cases_order (slice_index a.words n) (slice_index b.words n)) (λ e. ranked_words n a b (omega arith) fa fb (higher e))
  where
    higher : slice_index_or a.words n 0 ≡ slice_index b.words n → (j : ℕ) → n ≤ j → j < 8 → slice_index a.words j ≡ slice_index b.words j
    higher e j h k = pick (cases_eq j n)
      where
        pick : (j ≡ n) ⊎ (j ≢ n) → slice_index a.words j ≡ slice_index b.words j
        pick (inl z) = ap (λ i. slice_index a.words i) z ∙ (e ∙ sym (ap (λ i. slice_index b.words i) z))
        pick (inr nz) = same j (omega arith) k

    go : (slice_index a.words n ≡ slice_index b.words n) ⊎ ((slice_index a.words n < slice_index b.words n) ⊎ (slice_index b.words n < slice_index a.words n)) → (slice_index a.words n ≡ slice_index b.words n → RankedSets (by_words n a.words b.words) a b) → RankedSets (by_words (suc n) a.words b.words) a b
    go (inl e) rest =
        let o : by_number (slice_index a.words n) (slice_index b.words n) ≡ Equal = grind (arith, nat_tests) in
        rw o (rest e)
    go (inr (inl h)) rest =
        let o : by_number (slice_index a.words n) (slice_index b.words n) ≡ Less = grind (arith, nat_tests) in
        rw o (exceeds_at a b n (omega arith) (λ j p q. same j (omega arith) q) h (fb n))
    go (inr (inr h)) rest =
        let o : by_number (slice_index a.words n) (slice_index b.words n) ≡ Greater = grind (arith, nat_tests) in
        rw o (exceeds_at b a n (omega arith) (λ j p q. sym (same j (omega arith) q)) h (fa n))

-- ---- the words, one by one
-- words that are the same decide nothing
pub by_words_down : (m n : ℕ) (v w : List ℕ) → n ≤ m → ((j : ℕ) → n ≤ j → j < m → slice_index v j ≡ slice_index w j) → by_words m v w ≡ by_words n v w
by_words_down zero n v w l same = let e : 0 ≡ n = omega arith in ap (λ k. by_words k v w) e
by_words_down (suc m) n v w l same =
    go (cases_eq (suc m) n) (λ h. by_words_down m n v w h (λ j p q. same j p (omega arith)))
  where
    go : (suc m ≡ n) ⊎ (suc m ≢ n) → (n ≤ m → by_words m v w ≡ by_words n v w) → by_words (suc m) v w ≡ by_words n v w
    go (inl e) rest = ap (λ k. by_words k v w) e
    go (inr ne) rest =
        let s : slice_index_or v m 0 ≡ slice_index_or w m 0 = same m (omega arith) (omega arith) in
        let o : by_number (slice_index v m) (slice_index w m) ≡ Equal = grind (arith, nat_tests) in
        rw o (rest (omega arith))

module _ (v w : List ℕ) (k : ℕ) (l : k < 8) (same : (j : ℕ) → k < j → j < 8 → slice_index v j ≡ slice_index w j) where
  pub by_words_less : slice_index_or v k 0 < slice_index w k → Less ≡ by_words 8 v w
  by_words_less h =
      let o : by_number (slice_index v k) (slice_index w k) ≡ Less = grind (arith, nat_tests) in
      sym (by_words_down 8 (suc k) v w (omega arith) (λ j p q. same j (omega arith) q) ∙ ap (λ x. ordering_then x (by_words k v w)) o)

  pub by_words_greater : slice_index_or w k 0 < slice_index v k → Greater ≡ by_words 8 v w
  by_words_greater h =
      let o : by_number (slice_index v k) (slice_index w k) ≡ Greater = grind (arith, nat_tests) in
      sym (by_words_down 8 (suc k) v w (omega arith) (λ j p q. same j (omega arith) q) ∙ ap (λ x. ordering_then x (by_words k v w)) o)

pub by_words_equal : (v w : List ℕ) → ((j : ℕ) → j < 8 → slice_index v j ≡ slice_index w j) → Equal ≡ by_words 8 v w
by_words_equal v w same = sym (by_words_down 8 0 v w (omega arith) (λ j p q. same j q))
