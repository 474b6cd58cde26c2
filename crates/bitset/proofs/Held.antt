-- Sets of numbers in words: what a change of one word does, and what a search from a number on finds.
use Rattle.std.proofs.Common.{◌≡◌, ℕ, ◌+◌, ◌-◌, ◌*◌, ◌/◌, ◌%◌, ◌^◌, ◌<◌, ◌≤◌, Bool, true, false, not, ◌&&◌, ◌||◌, eqb, ltb, ◌⊎◌, List, length, get_or, set, take, drop, Some, None, sym, refl, ap, ◌∙◌, ap₂, inl, inr, arith, get_or-set_other, get_or-set_same}
use lib.Bits.{bit_and, bit_or, and_mask}
use lib.Count.{count_trailing_zeros}
use Rattle.std.specs.List.{between, position, position_or_len}
use Rattle.std.proofs.lemmas.List.Edits.{get_or-between}
use Rattle.std.proofs.lemmas.List.{get_or_past, get_or-drop, length-drop, take_rest}
use Rattle.std.proofs.lemmas.List.Quantifiers.{position-Some}
use Rattle.std.proofs.lemmas.List.Sums.{fails_before_first}
use Rattle.std.proofs.lemmas.Nat.{shr_le}
use Rattle.std.proofs.lemmas.Bool.{cases_eq, cases_lt, ne_eqb, eq-eqb, lt-ltb, both_ways}
use Rattle.std.proofs.lemmas.Bool.Decides.{nat_tests}
use Rattle.bitset.specs.Bits.{bit, holds, Inserted, Removed, NextHeld}
use Rattle.bitset.proofs.BitLaws.{bit_of_zero, bit-shr, bit_high, bit_set, bit_cleared, lowest_bit}

pub holds_past : (ws : List ℕ) (i : ℕ) → length ws ≤ i / 64 → holds ws i ≡ false
unfolding holds
holds_past ws i h = ap (λ x. bit x (i % 64)) (get_or_past ws (i / 64) 0 h) ∙ bit_of_zero (i % 64)

pub zero_word : (ws : List ℕ) (i : ℕ) → get_or ws (i / 64) 0 ≡ 0 → holds ws i ≡ false
unfolding holds
zero_word ws i e = ap (λ x. bit x (i % 64)) e ∙ bit_of_zero (i % 64)

-- what is held lies within the words
pub held_below : (ws : List ℕ) (i : ℕ) → holds ws i ≡ true → i < 64 * length ws
held_below ws i h = go (cases_lt (i / 64) (length ws))
  where
    go : (i / 64 < length ws) ⊎ (length ws ≤ i / 64) → i < 64 * length ws
    go (inl l) = omega arith
    go (inr l) = absurd (both_ways (holds ws i) (holds_past ws i l) h)

-- few enough words hold no number past 64 bits
pub none_held : (ws : List ℕ) (from : ℕ) → NextHeld ws from None → length ws ≤ 2 ^ 58 → (i : ℕ) → from ≤ i → holds ws i ≡ false
none_held ws from none few i h = go (cases_lt i (2 ^ 64))
  where
    go : (i < 2 ^ 64) ⊎ (2 ^ 64 ≤ i) → holds ws i ≡ false
    go (inl l) = none i h l
    go (inr l) = holds_past ws i (omega arith)

-- a part of the words, as a set
pub holds_part : (ws : List ℕ) (from to i : ℕ) → from + i / 64 < to → holds (between from to ws) i ≡ holds ws (64 * from + i)
unfolding holds
holds_part ws from to i l =
    let p : (64 * from + i) / 64 ≡ from + i / 64 = omega arith in
    let q : (64 * from + i) % 64 ≡ i % 64 = omega arith in
    ap (λ x. bit x (i % 64)) (get_or-between ws from to (i / 64) 0 l) ∙ sym (rw (p, q) refl)

-- ---- one bit read

pub read_bit : (ws : List ℕ) (i : ℕ) → eqb (bit_and (get_or ws (i / 64) 0 / 2 ^ (i % 64)) 1) 1 ≡ holds ws i
unfolding holds bit
read_bit ws i = ap (λ x. eqb x 1) (and_mask (get_or ws (i / 64) 0 / 2 ^ (i % 64)) 1)

-- ---- one word written

same_word : (i j : ℕ) → j / 64 ≡ i / 64 → eqb (j % 64) (i % 64) ≡ eqb j i
same_word i j e = grind (arith, nat_tests)

pub holds-set_same : (ws : List ℕ) (i w j : ℕ) → i / 64 < length ws → j / 64 ≡ i / 64 → holds (set ws (i / 64) w) j ≡ bit w (j % 64)
unfolding holds
holds-set_same ws i w j l e =
    ap (λ k. bit (get_or (set ws (i / 64) w) k 0) (j % 64)) e ∙ ap (λ x. bit x (j % 64)) (rw get_or-set_same)

pub holds-set_other : (ws : List ℕ) (i w j : ℕ) → (j / 64 ≡ i / 64 → ⊥) → holds (set ws (i / 64) w) j ≡ holds ws j
unfolding holds
holds-set_other ws i w j ne = ap (λ x. bit x (j % 64)) (rw get_or-set_other)

set_others : (ws : List ℕ) (i w k : ℕ) → (k ≡ i / 64 → ⊥) → get_or (set ws (i / 64) w) k 0 ≡ get_or ws k 0
set_others ws i w k ne = rw get_or-set_other

pub word_of : (ws : List ℕ) (i j : ℕ) → j / 64 ≡ i / 64 → bit (get_or ws (i / 64) 0) (j % 64) ≡ holds ws j
unfolding holds
word_of ws i j e = ap (λ k. bit (get_or ws k 0) (j % 64)) (sym e)

pub insert_word : (ws : List ℕ) (i : ℕ) → i / 64 < length ws → Inserted ws i (set ws (i / 64) (bit_or (get_or ws (i / 64) 0) ((1 * 2 ^ (i % 64)) % 2 ^ 64)))
insert_word ws i l =
    record { bits = λ j. go j (cases_eq (j / 64) (i / 64)); others = set_others ws i word }
  where
    word : ℕ
    word = bit_or (get_or ws (i / 64) 0) ((1 * 2 ^ (i % 64)) % 2 ^ 64)

    go : (j : ℕ) → (j / 64 ≡ i / 64) ⊎ (j / 64 ≡ i / 64 → ⊥) → holds (set ws (i / 64) word) j ≡ ((eqb j i && ltb (i / 64) (length ws)) || holds ws j)
    go j (inl e) =
        holds-set_same ws i word j l e ∙ (bit_set (get_or ws (i / 64) 0) (i % 64) (j % 64) (omega arith)
        ∙ rw (same_word i j e, word_of ws i j e, lt-ltb (i / 64) (length ws) l) (grind arith))
    go j (inr ne) = holds-set_other ws i word j ne ∙ rw (ne_eqb j i (λ e. ne (ap (λ x. x / 64) e))) refl

pub remove_word : (ws : List ℕ) (i : ℕ) → i / 64 < length ws → Removed ws i (set ws (i / 64) (bit_and (get_or ws (i / 64) 0) (2 ^ 64 - 1 - (1 * 2 ^ (i % 64)) % 2 ^ 64)))
remove_word ws i l =
    record { bits = λ j. go j (cases_eq (j / 64) (i / 64)); others = set_others ws i word }
  where
    word : ℕ
    word = bit_and (get_or ws (i / 64) 0) (2 ^ 64 - 1 - (1 * 2 ^ (i % 64)) % 2 ^ 64)

    go : (j : ℕ) → (j / 64 ≡ i / 64) ⊎ (j / 64 ≡ i / 64 → ⊥) → holds (set ws (i / 64) word) j ≡ (not (eqb j i) && holds ws j)
    go j (inl e) =
        holds-set_same ws i word j l e ∙ (bit_cleared (get_or ws (i / 64) 0) (i % 64) (j % 64) (omega arith) (omega arith)
        ∙ rw (same_word i j e, word_of ws i j e) refl)
    go j (inr ne) = holds-set_other ws i word j ne ∙ rw (ne_eqb j i (λ e. ne (ap (λ x. x / 64) e))) refl

pub remove_nothing : (ws : List ℕ) (i : ℕ) → length ws ≤ i / 64 → Removed ws i ws
remove_nothing ws i l = record { bits = λ j. go j (cases_eq j i); others = λ k ne. refl }
  where
    go : (j : ℕ) → (j ≡ i) ⊎ (j ≡ i → ⊥) → holds ws j ≡ (not (eqb j i) && holds ws j)
    go j (inl e) =
        let p : holds ws j ≡ false = ap (holds ws) e ∙ holds_past ws i l in
        p ∙ ap₂ (λ (a b : Bool). not a && b) (sym (eq-eqb j i e)) (sym p)
    go j (inr ne) = ap (λ b. not b && holds ws j) (sym (ne_eqb j i ne))

-- ---- the next number held

-- a word with a bit set
abbrev pub filled : ℕ → Bool
filled word = not (eqb word 0)

filled-zero : (word : ℕ) → filled word ≡ false → word ≡ 0
filled-zero word h = grind (arith, nat_tests)

filled-some : (word : ℕ) → filled word ≡ true → 1 ≤ word
filled-some word h = grind (arith, nat_tests)

position-None : (p : ℕ → Bool) (xs : List ℕ) → position p xs ≡ None → (k : ℕ) → k < length xs → p (get_or xs k 0) ≡ false
position-None p xs none k l = go (cases_lt (position_or_len p xs) (length xs))
  where
    go : (position_or_len p xs < length xs) ⊎ (length xs ≤ position_or_len p xs) → p (get_or xs k 0) ≡ false
    go (inl a) = let found : Some (position_or_len p xs) ≡ None = rw (lt-ltb (position_or_len p xs) (length xs) a) at none in absurd (cc)
    go (inr a) = fails_before_first p xs k 0 (omega arith)

module _ (ws : List ℕ) (from : ℕ) where
  -- the word of `from`, with the bits of lower numbers shifted out
  abbrev rest_of_word : ℕ
  rest_of_word = get_or ws (from / 64) 0 / 2 ^ (from % 64)

  holds_in_word : (k d i : ℕ) → d < 64 → i ≡ 64 * k + d → holds ws i ≡ bit (get_or ws k 0) d
  unfolding holds
  holds_in_word k d i l e =
      let p : i / 64 ≡ k = omega arith in
      let q : i % 64 ≡ d = omega arith in
      rw (p, q) refl

  holds_from : (d : ℕ) → from % 64 + d < 64 → holds ws (from + d) ≡ bit rest_of_word d
  holds_from d l =
      holds_in_word (from / 64) (from % 64 + d) (from + d) l (omega arith) ∙ sym (bit-shr (get_or ws (from / 64) 0) (from % 64) d)

  pub next_past : length ws ≤ from / 64 → NextHeld ws from None
  next_past l i h f = holds_past ws i (omega arith)

  -- the word of `from` has a bit left
  module _ (fits : get_or ws (from / 64) 0 < 2 ^ 64) (some : rest_of_word ≡ 0 → ⊥) where
    abbrev place : ℕ
    place = count_trailing_zeros 64 rest_of_word

    lowest : (place < 64) × (bit rest_of_word place ≡ true) × ((j : ℕ) → j < place → bit rest_of_word j ≡ false)
    lowest = lowest_bit rest_of_word (omega arith) (omega (arith, shr_le (get_or ws (from / 64) 0) (from % 64)))

    pub rest_fits : from % 64 + place < 64
    rest_fits = go (cases_lt (from % 64 + place) 64)
      where
        high : 64 ≤ from % 64 + place → bit rest_of_word place ≡ false
        high l = bit-shr (get_or ws (from / 64) 0) (from % 64) place ∙ bit_high 64 (get_or ws (from / 64) 0) (from % 64 + place) fits l

        go : (from % 64 + place < 64) ⊎ (64 ≤ from % 64 + place) → from % 64 + place < 64
        go (inl l) = l
        go (inr l) = absurd (both_ways (bit rest_of_word place) (high l) lowest.1)

    pub next_in_word : NextHeld ws from (Some (from + place))
    next_in_word =
        (omega arith, holds_from place rest_fits ∙ lowest.1, λ j h k. before j h k rest_fits)
      where
        before : (j : ℕ) → from ≤ j → j < from + place → from % 64 + place < 64 → holds ws j ≡ false
        before j h k l =
            let e : j ≡ from + (j - from) = omega arith in
            ap (holds ws) e ∙ (holds_from (j - from) (omega arith) ∙ lowest.2 (j - from) (omega arith))

  pub none_in_word : rest_of_word ≡ 0 → (i : ℕ) → from ≤ i → i < 64 * (from / 64 + 1) → holds ws i ≡ false
  none_in_word z i h l =
      let e : i ≡ from + (i - from) = omega arith in
      ap (holds ws) e ∙ (holds_from (i - from) (omega arith) ∙ (ap (λ x. bit x (i - from)) z ∙ bit_of_zero (i - from)))

  -- where the word of `from` has no bit left, the words behind it decide
  module _ (zero : rest_of_word ≡ 0) where
    none_before : (k : ℕ) → ((j : ℕ) → from / 64 < j → j < k → get_or ws j 0 ≡ 0) → (i : ℕ) → from ≤ i → i < 64 * k → holds ws i ≡ false
    none_before k clear i h l = go (cases_lt i (64 * (from / 64 + 1)))
      where
        go : (i < 64 * (from / 64 + 1)) ⊎ (64 * (from / 64 + 1) ≤ i) → holds ws i ≡ false
        go (inl a) = none_in_word zero i h a
        go (inr a) = zero_word ws i (clear (i / 64) (omega arith) (omega arith))

    -- the words behind are 0 before the j-th of them
    clear_behind : (j : ℕ) → ((i : ℕ) → i < j → filled (get_or (drop (from / 64 + 1) ws) i 0) ≡ false) → (k : ℕ) → from / 64 < k → k < from / 64 + 1 + j → get_or ws k 0 ≡ 0
    clear_behind j clear k a b =
        let e : from / 64 + 1 + (k - (from / 64 + 1)) ≡ k = omega arith in
        let z : get_or (drop (from / 64 + 1) ws) (k - (from / 64 + 1)) 0 ≡ 0 = filled-zero (get_or (drop (from / 64 + 1) ws) (k - (from / 64 + 1)) 0) (clear (k - (from / 64 + 1)) (omega arith)) in
        ap (λ n. get_or ws n 0) (sym e) ∙ (sym (get_or-drop (from / 64 + 1) ws (k - (from / 64 + 1)) 0) ∙ z)

    -- the words behind, as `&words[..]` has them
    abbrev rest : List ℕ
    rest = take (length ws - (from / 64 + 1)) (drop (from / 64 + 1) ws)

    pub none_behind : None ≡ position filled rest → NextHeld ws from None
    none_behind none i h f = go (cases_lt (i / 64) (length ws))
      where
        clear : (k : ℕ) → from / 64 < k → k < from / 64 + 1 + length (drop (from / 64 + 1) ws) → get_or ws k 0 ≡ 0
        clear = clear_behind (length (drop (from / 64 + 1) ws)) (position-None filled (drop (from / 64 + 1) ws) (sym (rw take_rest at none)))

        go : (i / 64 < length ws) ⊎ (length ws ≤ i / 64) → holds ws i ≡ false
        go (inl l) = none_before (i / 64 + 1) (λ j a b. clear j a (omega (arith, length-drop (from / 64 + 1) ws))) i h (omega arith)
        go (inr l) = holds_past ws i l

    module _ (j : ℕ) (first : Some j ≡ position filled rest) where
      at_first : (j < length (drop (from / 64 + 1) ws)) × (filled (get_or (drop (from / 64 + 1) ws) j 0) ≡ true) × ((k : ℕ) → k < j → filled (get_or (drop (from / 64 + 1) ws) k 0) ≡ false)
      at_first = position-Some filled (drop (from / 64 + 1) ws) j 0 (sym (rw take_rest at first))

      abbrev word : ℕ
      word = from / 64 + 1 + j

      none_ahead : (i : ℕ) → from ≤ i → i < 64 * word → holds ws i ≡ false
      none_ahead = none_before word (clear_behind j at_first.2)

      -- its numbers are past 64 bits
      pub next_far : (word * 64 < 2 ^ 64 → ⊥) → NextHeld ws from None
      next_far far i h f = none_ahead i h (omega arith)

      module _ (fits : get_or ws word 0 < 2 ^ 64) where
        abbrev lead : ℕ
        lead = count_trailing_zeros 64 (get_or ws word 0)

        first_bit : (lead < 64) × (bit (get_or ws word 0) lead ≡ true) × ((i : ℕ) → i < lead → bit (get_or ws word 0) i ≡ false)
        first_bit =
            let some : filled (get_or ws word 0) ≡ true = ap filled (sym (get_or-drop (from / 64 + 1) ws j 0)) ∙ at_first.1 in
            lowest_bit (get_or ws word 0) (filled-some (get_or ws word 0) some) fits

        pub trailing_few : lead < 64
        trailing_few = first_bit.0

        pub next_behind : NextHeld ws from (Some (word * 64 + lead))
        next_behind = (
          omega arith,
          holds_in_word word lead (word * 64 + lead) first_bit.0 (omega arith) ∙ first_bit.1,
          λ i h b. before i h b first_bit.0 (cases_lt i (64 * word)),
        )
          where
            before : (i : ℕ) → from ≤ i → i < word * 64 + lead → lead < 64 → (i < 64 * word) ⊎ (64 * word ≤ i) → holds ws i ≡ false
            before i h b l (inl p) = none_ahead i h p
            before i h b l (inr p) =
                holds_in_word word (i - 64 * word) i (omega arith) (omega arith) ∙ first_bit.2 (i - 64 * word) (omega arith)
