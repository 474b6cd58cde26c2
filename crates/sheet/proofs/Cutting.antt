-- Cutting a list at its first stop byte.
use Rattle.std.proofs.Common.{◌≡◌, ℕ, suc, ◌+◌, ◌-◌, ◌≤◌, Bool, true, false, cond, not, eqb, List, [], ◌∷◌, ◌++◌, length, take, drop, refl, ap, arith, length-drop}
use Rattle.std.proofs.lemmas.Bool.{eq-eqb}
use Rattle.std.proofs.lemmas.Bool.Decides.{nat_tests}
use Rattle.std.proofs.lemmas.List.Sums.{prefix_len-le-length}
use Rattle.std.proofs.Math.Numerals.{one-add}
use Rattle.std.specs.List.{position, position_or_len}
use Rattle.std.specs.Option.{unwrap_or}
use Rattle.sheet.specs.Lines.{front, back}

-- how many bytes stand before the first stop
abbrev first_stop : ℕ → List ℕ → ℕ
first_stop stop bs = position_or_len (λ b. eqb b stop) bs

cut_at_first : (stop : ℕ) (bs : List ℕ) → (take (first_stop stop bs) bs ≡ front stop bs) × (drop (first_stop stop bs) bs ≡ back stop bs)
cut_at_first stop [] = (refl, refl)
cut_at_first stop (b ∷ bs) = go (eqb b stop) (cut_at_first stop bs)
  where
    go : (t : Bool) → (take (first_stop stop bs) bs ≡ front stop bs) × (drop (first_stop stop bs) bs ≡ back stop bs) → (take (cond (not t) (1 + first_stop stop bs) 0) (b ∷ bs) ≡ cond t [] (b ∷ front stop bs)) × (drop (cond (not t) (1 + first_stop stop bs) 0) (b ∷ bs) ≡ cond t (b ∷ bs) (back stop bs))
    go true h = (refl, refl)
    go false h = (rw one-add (ap (λ xs. b ∷ xs) h.0), rw one-add h.1)

-- the place that a search for the stop answers, or the length, cuts the list
pub cut_at_position : (stop : ℕ) (bs : List ℕ) (n : ℕ) → n ≡ unwrap_or (position (λ b. eqb b stop) bs) (length bs) → (take n bs ≡ front stop bs) × (drop n bs ≡ back stop bs)
cut_at_position stop bs n e =
    let short = prefix_len-le-length (λ b. not (eqb b stop)) bs in
    let is : n ≡ first_stop stop bs = grind (arith, nat_tests) in
    rw is (cut_at_first stop bs)

-- the two parts make up the whole
pub front-back : (stop : ℕ) (bs : List ℕ) → front stop bs ++ back stop bs ≡ bs
front-back stop [] = refl
front-back stop (b ∷ bs) = go (eqb b stop) (front-back stop bs)
  where
    go : (t : Bool) → front stop bs ++ back stop bs ≡ bs → cond t [] (b ∷ front stop bs) ++ cond t (b ∷ bs) (back stop bs) ≡ b ∷ bs
    go true h = refl
    go false h = ap (λ xs. b ∷ xs) h

-- no byte of the list is the stop
abbrev pub Free : ℕ → List ℕ → Type 0
Free stop [] = Unit {0}
Free stop (b ∷ bs) = (eqb b stop ≡ false) × Free stop bs

pub front_free : (stop : ℕ) (a bs : List ℕ) → Free stop a → (front stop (a ++ stop ∷ bs) ≡ a) × (back stop (a ++ stop ∷ bs) ≡ stop ∷ bs)
front_free stop [] bs f = let e : eqb stop stop ≡ true = eq-eqb stop stop refl in (rw e refl, rw e refl)
front_free stop (b ∷ a) bs f =
    let h : (front stop (a ++ stop ∷ bs) ≡ a) × (back stop (a ++ stop ∷ bs) ≡ stop ∷ bs) = front_free stop a bs f.1 in
    let e : eqb b stop ≡ false = f.0 in
    (rw e (ap (λ xs. b ∷ xs) h.0), rw e h.1)

pub front_all : (stop : ℕ) (a : List ℕ) → Free stop a → (front stop a ≡ a) × (back stop a ≡ [])
front_all stop [] f = (refl, refl)
front_all stop (b ∷ a) f =
    let h : (front stop a ≡ a) × (back stop a ≡ []) = front_all stop a f.1 in
    let e : eqb b stop ≡ false = f.0 in
    (rw e (ap (λ xs. b ∷ xs) h.0), rw e h.1)

length_back : (stop : ℕ) (bs : List ℕ) → length (back stop bs) ≤ length bs
length_back stop [] = omega arith
length_back stop (b ∷ bs) = go (eqb b stop) (length_back stop bs)
  where
    go : (t : Bool) → length (back stop bs) ≤ length bs → length (cond t (b ∷ bs) (back stop bs)) ≤ suc (length bs)
    go true h = omega arith
    go false h = omega arith

-- what is left behind a stop is shorter
pub back_shorter : (stop : ℕ) (bs : List ℕ) → length (drop 1 (back stop bs)) ≤ length bs - 1
back_shorter stop bs = simp length-drop (omega (arith, length_back stop bs))
