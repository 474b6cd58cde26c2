-- Sets of marks keep the laws.
use Rattle.std.specs.Prelude.{◌≡◌, ℕ, zero, suc, ◌-◌, ◌*◌, ◌/◌, ◌%◌, ◌^◌, ◌<◌, ◌≤◌, Bool, true, false, cond, ◌&&◌, ◌||◌, ◌⊎◌, List, [], ◌∷◌, ◌++◌, length, replicate, ◌==◌, ◌≢◌, bit_or, nat_lt, slice_index, slice_index_or, slice_set, refl}
use Rattle.std.specs.declared.cmp.Ordering.TheVariants.{Less, Equal, Greater}
use Rattle.std.specs.declared.cmp.Ordering.{Ordering}
use Rattle.std.proofs.Common.{sym, ap, ◌∙◌, inl, inr, arith, get_or-set_same, get_or-set_other}
use Rattle.std.proofs.lemmas.Nat.{or_lt, one_shl, pow_below}
use Rattle.std.proofs.lemmas.List.{length-set, get_or_past, get_or-replicate}
use Rattle.std.proofs.lemmas.Bool.{cases_eq, cases_lt, both_ways}
use Rattle.std.proofs.lemmas.Bool.Decides.{nat_tests}
use Rattle.bitset.specs.Bits.{bit, holds, Inserted}
use Rattle.bitset.proofs.BitLaws.{bit_of_zero}
use Rattle.bitset.proofs.Held.{insert_word}
use Rattle.label.specs.declared.lexicographic.MarkSet.{MarkSet}
use Rattle.label.specs.Laws.{Laws}
use Rattle.label.specs.Marks.{has, is_mark}
use Rattle.label.specs.Sets.{marked, no_marks, with_bit, with_mark, by_words, compared_sets, SetStands}
use Rattle.label.specs.Fallen.{falls_push, has_push}
use Rattle.label.specs.Highest.{RankedSets, ranked_words}
use Rattle.label.specs.Rankings.{Ranking, chain, level_ranking, number_ranking, then_ranking}

words_ranking : (n : ℕ) → Ranking {L = MarkSet} (λ a b. by_words n a.words b.words)
words_ranking zero = level_ranking
words_ranking (suc n) = then_ranking _ _ (number_ranking (λ (a : MarkSet). slice_index a.words n)) (words_ranking n)

no_word : (k : ℕ) → slice_index_or {A = ℕ} (replicate 8 0) k 0 ≡ 0
no_word k = go (cases_lt k 8)
  where
    go : (k < 8) ⊎ (8 ≤ k) → slice_index_or {A = ℕ} (replicate 8 0) k 0 ≡ 0
    go (inl h) = get_or-replicate 8 k 0 0 h
    go (inr h) = get_or_past (replicate 8 0) k 0 h

none_stand : SetStands no_marks []
unfolding holds
none_stand = record {
  eight = refl;
  fit = λ k. rw (no_word k) (omega arith);
  falls = refl;
  marks = λ m. let e : bit (slice_index_or {A = ℕ} (replicate 8 0) ((m - 1) / 64) 0) ((m - 1) % 64) ≡ false = ap (λ w. bit w ((m - 1) % 64)) (no_word ((m - 1) / 64)) ∙ bit_of_zero ((m - 1) % 64) in grind (arith, nat_tests);
}

-- words with a mark's bit put in
module _ (ws : List ℕ) (m : ℕ) (eight : length ws ≡ 8) (mark : is_mark m ≡ true) where
  low : (m - 1) / 64 < length ws
  low = rw eight (let k : m ≤ 512 = grind (arith, nat_tests) in omega arith)

  inserted : Inserted ws (m - 1) (with_bit ws (m - 1))
  inserted =
      let e : (1 * 2 ^ ((m - 1) % 64)) % 2 ^ 64 ≡ 2 ^ ((m - 1) % 64) = one_shl ((m - 1) % 64) 64 (omega arith) in
      let i : Inserted ws (m - 1) (slice_set ws ((m - 1) / 64) (bit_or (slice_index ws ((m - 1) / 64)) ((1 * 2 ^ ((m - 1) % 64)) % 2 ^ 64))) = insert_word ws (m - 1) low in
      rw e at i

  bit_fits : ((k : ℕ) → slice_index ws k < 2 ^ 64) → (k : ℕ) → slice_index (with_bit ws (m - 1)) k < 2 ^ 64
  bit_fits fit k = go (cases_eq k ((m - 1) / 64))
    where
      go : (k ≡ (m - 1) / 64) ⊎ (k ≢ (m - 1) / 64) → slice_index (with_bit ws (m - 1)) k < 2 ^ 64
      go (inl e) =
          let p : 2 ^ ((m - 1) % 64) < 2 ^ 64 = pow_below ((m - 1) % 64) 64 (omega arith) in
          rw (e, get_or-set_same ws ((m - 1) / 64) (bit_or (slice_index ws ((m - 1) / 64)) (2 ^ ((m - 1) % 64))) 0 low)
          (or_lt 64 (slice_index ws ((m - 1) / 64)) (2 ^ ((m - 1) % 64)) (fit ((m - 1) / 64)) p)
      go (inr ne) = rw (get_or-set_other ws ((m - 1) / 64) k (bit_or (slice_index ws ((m - 1) / 64)) (2 ^ ((m - 1) % 64))) 0 ne) (fit k)

  marked_with_bit : (x : ℕ) → (is_mark x && holds (with_bit ws (m - 1)) (x - 1)) ≡ ((is_mark x && holds ws (x - 1)) || m == x)
  marked_with_bit x =
      let e : holds (with_bit ws (m - 1)) (x - 1) ≡ ((x - 1 == m - 1 && nat_lt ((m - 1) / 64) (length ws)) || holds ws (x - 1)) = inserted.bits (x - 1) in
      let l : (m - 1) / 64 < length ws = low in
      grind (arith, nat_tests)

-- a set has, after a mark, that mark and what it had
pub marked-with_mark : (a : MarkSet) (m x : ℕ) → length a.words ≡ 8 → marked (with_mark a m) x ≡ (marked a x || (is_mark m && m == x))
marked-with_mark a m x eight = go (is_mark m) refl
  where
    go : (b : Bool) → is_mark m ≡ b → (is_mark x && holds (cond b (with_bit a.words (m - 1)) a.words) (x - 1)) ≡ (marked a x || (b && m == x))
    go true e = marked_with_bit a.words m eight e x
    go false e = or_false (marked a x)
      where
        or_false : (b : Bool) → b ≡ (b || false)
        or_false true = refl
        or_false false = refl

module _ (a : MarkSet) (s : List ℕ) (m : ℕ) (mark : is_mark m ≡ true) (h : SetStands a s) (above : (x : ℕ) → has s x ≡ true → m < x) where
  marked_after : (x : ℕ) → (is_mark x && holds (with_bit a.words (m - 1)) (x - 1)) ≡ has (s ++ m ∷ []) x
  marked_after x =
      let e : (is_mark x && holds (with_bit a.words (m - 1)) (x - 1)) ≡ ((is_mark x && holds a.words (x - 1)) || m == x) = marked_with_bit a.words m h.eight mark x in
      let p : has (s ++ m ∷ []) x ≡ (has s x || m == x) = has_push m x s in
      let q : (is_mark x && holds a.words (x - 1)) ≡ has s x = h.marks x in
      cc

  words_after : with_mark a m ≡ record { words = with_bit a.words (m - 1) }
  words_after = ap (λ b. record { words = cond b (with_bit a.words (m - 1)) a.words }) mark

  bit_stands : SetStands (record { words = with_bit a.words (m - 1) }) (s ++ m ∷ [])
  bit_stands = record {
    eight = simp length-set h.eight;
    fit = bit_fits a.words m h.eight mark h.fit;
    falls = falls_push 513 m s (grind (arith, nat_tests)) (grind (arith, nat_tests)) h.falls above;
    marks = marked_after;
  }

  mark_stands : SetStands (with_mark a m) (s ++ m ∷ [])
  mark_stands = rw words_after bit_stands

fewer_less : (a b : MarkSet) (s t : List ℕ) (m : ℕ) → SetStands a s → SetStands b t → ((x : ℕ) → has s x ≡ true → has t x ≡ true) → has t m ≡ true → has s m ≡ false → by_words 8 a.words b.words ≡ Less
fewer_less a b s t m h k sub p q =
    go (by_words 8 a.words b.words) refl (ranked_words 8 a b (omega arith) h.fit k.fit (λ j x y. absurd (omega arith)))
  where
    go : (o : Ordering) → by_words 8 a.words b.words ≡ o → RankedSets o a b → by_words 8 a.words b.words ≡ Less
    go Less e r = e
    go Equal e r = absurd (both_ways (has s m) q (sym (h.marks m) ∙ (r m ∙ (k.marks m ∙ p))))
    go Greater e r =
        let in_s : has s r.0 ≡ true = sym (h.marks r.0) ∙ r.1 in
        let off_t : has t r.0 ≡ false = sym (k.marks r.0) ∙ r.2 in
        absurd (both_ways (has t r.0) off_t (sub r.0 in_s))

pub lexicographic_lawful : Laws no_marks with_mark compared_sets SetStands
lexicographic_lawful =
    let c : MarkSet → MarkSet → Ordering = compared_sets in
    let r : Ranking c = words_ranking 8 in
    record {
      empty = none_stand;
      raises = mark_stands;
      turns = r.turns;
      less_less = λ x y z p q. chain c r x y z Less Less p q refl refl;
      less_equal = λ x y z p q. chain c r x y z Less Equal p q refl refl;
      equal_less = λ x y z p q. chain c r x y z Equal Less p q refl refl;
      equal_equal = λ x y z p q. chain c r x y z Equal Equal p q refl refl;
      fewer = fewer_less;
    }
