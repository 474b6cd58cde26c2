-- Falling lists of marks.
use Rattle.std.specs.Prelude.{◌≡◌, ℕ, suc, ◌+◌, ◌<◌, ◌≤◌, true, false, ◌||◌, ◌⊎◌, List, [], ◌∷◌, ◌++◌, length, ◌==◌, ◌≢◌, nat_eq, refl}
use Rattle.std.proofs.Common.{inl, inr, arith}
use Rattle.std.proofs.lemmas.Bool.{cases_eq, cases_Bool, both_ways, ne_eqb}
use Rattle.std.proofs.lemmas.Bool.Decides.{nat_tests}
use Rattle.label.specs.Marks.{has, falls}

-- what a falling list has lies below its top
pub has_below : (top x : ℕ) (s : List ℕ) → falls top s ≡ true → has s x ≡ true → (1 ≤ x) × (x < top)
has_below top x [] f h = absurd (both_ways false refl h)
has_below top x (y ∷ ys) f h =
    go (cases_Bool (y == x)) (λ a b. has_below y x ys a b)
  where
    go : ((y == x) ≡ true) ⊎ ((y == x) ≡ false) → (falls y ys ≡ true → has ys x ≡ true → (1 ≤ x) × (x < y)) → (1 ≤ x) × (x < top)
    go (inl e) rest = grind (arith, nat_tests)
    go (inr e) rest = grind (arith, nat_tests)

-- a falling list above m has no more marks than there are between
pub falls-length : (top m : ℕ) (s : List ℕ) → m < top → falls top s ≡ true → ((x : ℕ) → has s x ≡ true → m < x) → length s + m < top
falls-length top m [] l f above = omega arith
falls-length top m (y ∷ ys) l f above =
    let here : m < y = above y (grind (arith, nat_tests)) in
    let rest : length ys + m < y = falls-length y m ys here (grind (arith, nat_tests)) (λ x h. above x (grind (arith, nat_tests))) in
    grind (arith, nat_tests)

-- a falling list with a lower mark after it falls
pub falls_push : (top m : ℕ) (s : List ℕ) → 1 ≤ m → m < top → falls top s ≡ true → ((x : ℕ) → has s x ≡ true → m < x) → falls top (s ++ m ∷ []) ≡ true
falls_push top m [] i l f above = grind (arith, nat_tests)
falls_push top m (y ∷ ys) i l f above =
    let here : m < y = above y (grind (arith, nat_tests)) in
    let rest : falls y (ys ++ m ∷ []) ≡ true = falls_push y m ys i here (grind (arith, nat_tests)) (λ x h. above x (grind (arith, nat_tests))) in
    grind (arith, nat_tests)

pub has_push : (m x : ℕ) (s : List ℕ) → has (s ++ m ∷ []) x ≡ (has s x || m == x)
has_push m x [] = grind (arith, nat_tests)
has_push m x (y ∷ ys) =
    let rest : has (ys ++ m ∷ []) x ≡ (has ys x || m == x) = has_push m x ys in
    grind (arith, nat_tests)

-- ---- falling lists as sets
module _ (top x y : ℕ) (xs ys : List ℕ) (f : falls top (x ∷ xs) ≡ true) (g : falls top (y ∷ ys) ≡ true) (sub : (k : ℕ) → has (x ∷ xs) k ≡ true → has (y ∷ ys) k ≡ true) where
  head_le : x ≤ y
  head_le = go (cases_eq y x)
    where
      go : (y ≡ x) ⊎ (y ≢ x) → x ≤ y
      go (inl e) = omega arith
      go (inr ne) =
          let at : has (y ∷ ys) x ≡ true = sub x (grind (arith, nat_tests)) in
          let off : nat_eq y x ≡ false = ne_eqb y x ne in
          let in_ys : has ys x ≡ true = grind (arith, nat_tests) in
          let low : (1 ≤ x) × (x < y) = has_below y x ys (grind (arith, nat_tests)) in_ys in
          omega arith

  -- equal heads: the rest is in the rest
  rest_in_rest : x ≡ y → (k : ℕ) → has xs k ≡ true → has ys k ≡ true
  rest_in_rest e k h =
      let low : (1 ≤ k) × (k < x) = has_below x k xs (grind (arith, nat_tests)) h in
      let at : has (y ∷ ys) k ≡ true = sub k (grind (arith, nat_tests)) in
      let off : nat_eq y k ≡ false = ne_eqb y k (omega arith) in
      grind (arith, nat_tests)

  -- a lower head: the whole is in the rest
  all_in_rest : x < y → (k : ℕ) → has (x ∷ xs) k ≡ true → has ys k ≡ true
  all_in_rest l k h =
      let low : (1 ≤ k) × (k < suc x) = has_below (suc x) k (x ∷ xs) (grind (arith, nat_tests)) h in
      let at : has (y ∷ ys) k ≡ true = sub k h in
      let off : nat_eq y k ≡ false = ne_eqb y k (omega arith) in
      grind (arith, nat_tests)

-- a falling list within another is no longer
pub within-length : (top : ℕ) (s t : List ℕ) → falls top s ≡ true → falls top t ≡ true → ((k : ℕ) → has s k ≡ true → has t k ≡ true) → length s ≤ length t
within-length top [] t f g sub = omega arith
within-length top (x ∷ xs) [] f g sub = absurd (both_ways false refl (sub x (grind (arith, nat_tests))))
within-length top (x ∷ xs) (y ∷ ys) f g sub =
    go (cases_eq x y) (λ e. within-length x xs ys (grind (arith, nat_tests)) (grind (arith, nat_tests)) (rest_in_rest top x y xs ys f g sub e)) (λ l. within-length y (x ∷ xs) ys (grind (arith, nat_tests)) (grind (arith, nat_tests)) (all_in_rest top x y xs ys f g sub l))
  where
    go : (x ≡ y) ⊎ (x ≢ y) → (x ≡ y → length xs ≤ length ys) → (x < y → suc (length xs) ≤ length ys) → suc (length xs) ≤ suc (length ys)
    go (inl e) same lower = omega (arith, same e)
    go (inr ne) same lower =
        let l : x ≤ y = head_le top x y xs ys f g sub in
        let k : suc (length xs) ≤ length ys = lower (omega arith) in
        omega arith

-- a falling list within another that has a mark more is shorter
pub fewer_length : (top : ℕ) (s t : List ℕ) (m : ℕ) → falls top s ≡ true → falls top t ≡ true → ((k : ℕ) → has s k ≡ true → has t k ≡ true) → has t m ≡ true → has s m ≡ false → length s < length t
fewer_length top s [] m f g sub a b = absurd (both_ways false refl a)
fewer_length top [] (y ∷ ys) m f g sub a b = omega arith
fewer_length top (x ∷ xs) (y ∷ ys) m f g sub a b =
    go (cases_eq x y) (cases_eq y m)
    (λ e h. fewer_length x xs ys m (grind (arith, nat_tests)) (grind (arith, nat_tests)) (rest_in_rest top x y xs ys f g sub e) h (grind (arith, nat_tests)))
    (λ l h. fewer_length y (x ∷ xs) ys m (grind (arith, nat_tests)) (grind (arith, nat_tests)) (all_in_rest top x y xs ys f g sub l) h b)
    (λ l. within-length y (x ∷ xs) ys (grind (arith, nat_tests)) (grind (arith, nat_tests)) (all_in_rest top x y xs ys f g sub l))
  where
    go : (x ≡ y) ⊎ (x ≢ y) → (y ≡ m) ⊎ (y ≢ m) → (x ≡ y → has ys m ≡ true → length xs < length ys) → (x < y → has ys m ≡ true → suc (length xs) < length ys) → (x < y → suc (length xs) ≤ length ys) → suc (length xs) < suc (length ys)
    go (inl e) (inl z) same lower none = absurd (both_ways (has (x ∷ xs) m) b (grind (arith, nat_tests)))
    go (inl e) (inr nz) same lower none =
        let k : length xs < length ys = same e (grind (arith, nat_tests)) in
        omega arith
    go (inr ne) (inl z) same lower none =
        let l : x ≤ y = head_le top x y xs ys f g sub in
        let k : suc (length xs) ≤ length ys = none (omega arith) in
        omega arith
    go (inr ne) (inr nz) same lower none =
        let l : x ≤ y = head_le top x y xs ys f g sub in
        let k : suc (length xs) < length ys = lower (omega arith) (grind (arith, nat_tests)) in
        omega arith
