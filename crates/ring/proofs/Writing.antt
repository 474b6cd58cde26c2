-- A ring written down: its path is read back from its end, and turned round.
use Rattle.std.proofs.Common.{◌≡◌, ℕ, suc, ◌+◌, ◌-◌, ◌<◌, ◌≤◌, ◌⊎◌, List, length, get_or, take, set, reverse, sym, refl, ap, ◌∙◌, inl, inr, add-one, arith, rules}
use Rattle.std.proofs.lemmas.Grind.{common_steps}
use Rattle.std.proofs.lemmas.List.{places, get_or-set_same, get_or-set_other, length-set, get_or-take, length-take-le, length-reverse, get_or-reverse}
use borrow.Rule.Slice.PartMut.{put_mid}
use Rattle.std.proofs.lemmas.Bool.{cases_eq}
use Rattle.plan.specs.Orders.{numbers}
use Rattle.plan.specs.Plans.{Plan, Sound}
use Rattle.plan.specs.declared.number.Junction.{Junction}
use Rattle.plan.proofs.Numbers.{getD_numbers, length-numbers}
use Rattle.ring.specs.Calls.{Lists}
use Rattle.ring.specs.Reach.{Corner, Queue, back}
use Rattle.ring.proofs.Closing.{Closes, ringed, ringed_path, ringed_last, ring_round, ring_lowest, ring_towards, ring_fits}
use Rattle.ring.proofs.Rounds.{ring_from_reads}

-- i junctions of the path are read back from index top, and at is the index of the next
pub record ReadBack (q m : ℕ → ℕ) (top i at : ℕ) (path : List Junction) : Type 0 where
  pub index : at ≡ back q m top i
  pub reads : (k : ℕ) → k < i → (get_or path k (record { 0 = 0 })).0 ≡ q (back q m top k)

pub read_more : (q m : ℕ → ℕ) (top i at : ℕ) (path : List Junction) (x : Junction) (at' : ℕ) → ReadBack q m top i at path → i < length path → x.0 ≡ q at → at' ≡ m (q at) - 1 → ReadBack q m top (i + 1) at' (set path i x)
read_more q m top i at path x at' h l e f = record {
  index = rw add-one (f ∙ ap (λ y. m (q y) - 1) h.index);
  reads = λ k b. grind (arith, common_steps, h.reads k, ap q h.index);
}

-- what is read of a list in which ys stands from index 1 on, in the place of n entries
module _ {X : Type 0} (xs ys : List X) (n : ℕ) (same : length ys ≡ n) (room : n + 1 ≤ length xs) (i : ℕ) (d : X) where
  reads_under : i ≡ 0 → get_or (put_mid 1 n xs ys) i d ≡ get_or xs i d
  reads_under e = search (rules, places)

  reads_in : 1 ≤ i → i ≤ n → get_or (put_mid 1 n xs ys) i d ≡ get_or ys (i - 1) d
  reads_in a b = search (rules, places)

  reads_over : n < i → get_or (put_mid 1 n xs ys) i d ≡ get_or xs i d
  reads_over a = search (rules, places)

pub length_put : {X : Type 0} (xs ys : List X) (n : ℕ) → length ys ≡ n → n + 1 ≤ length xs → length (put_mid 1 n xs ys) ≡ length xs
length_put xs ys n same room = search (rules, places)

-- the ring: v, the path turned round, and c, in the place of what the list held
module _ (p : Plan) (sound : Sound p) (v c : Junction) (a size : ℕ) (q m : ℕ → ℕ) (corner : Corner p v.0 a c.0) (z : Queue p v.0 a size q m) (top d : ℕ) (k : Closes p c.0 q m size top d)
    (ring₀ path : List Junction) (room : p.size ≤ length ring₀) (path_long : length path ≡ d + 1) (path_reads : (i : ℕ) → i < d + 1 → (get_or path i (record { 0 = 0 })).0 ≡ q (back q m top i)) where
  fits : d + 3 ≤ p.size
  fits = ring_fits p sound v.0 a c.0 size q m corner z top d k

  abbrev ring₁ : List Junction
  ring₁ = set (put_mid 1 (d + 2 - 1) (set ring₀ 0 v) (reverse path)) (d + 2) c

  turned : length (reverse path) ≡ d + 2 - 1
  turned = omega (arith, length-reverse path, path_long)

  held : d + 2 - 1 + 1 ≤ length (set ring₀ 0 v)
  held = omega (arith, length-set ring₀ 0 v, fits)

  long : length ring₁ ≡ length ring₀
  long = length-set _ (d + 2) c ∙ length_put (set ring₀ 0 v) (reverse path) (d + 2 - 1) turned held ∙ length-set ring₀ 0 v

  reads : (i : ℕ) → i < d + 3 → (get_or ring₁ i (record { 0 = 0 })).0 ≡ ringed v.0 c.0 q m top d i
  reads i l = go (cases_eq i 0) (cases_eq i (d + 2))
    where
      put : List Junction
      put = put_mid 1 (d + 2 - 1) (set ring₀ 0 v) (reverse path)

      go : (i ≡ 0) ⊎ (i ≡ 0 → ⊥) → (i ≡ d + 2) ⊎ (i ≡ d + 2 → ⊥) → (get_or ring₁ i (record { 0 = 0 })).0 ≡ ringed v.0 c.0 q m top d i
      go (inl e) x =
          rw e (ap (λ (y : Junction). y.0) (get_or-set_other _ (d + 2) 0 c (record { 0 = 0 }) (λ y. omega arith) ∙ reads_under _ _ _ turned held 0 (record { 0 = 0 }) refl ∙ get_or-set_same ring₀ 0 v (record { 0 = 0 }) (omega (arith, fits))))
      go (inr ne) (inl e) =
          ap (λ (y : Junction). y.0) (ap (λ j. get_or ring₁ j (record { 0 = 0 })) e ∙ get_or-set_same _ (d + 2) c (record { 0 = 0 }) (omega (arith, fits, long, length-set put (d + 2) c))) ∙ sym (ringed_last v.0 c.0 q m top d i (omega arith))
      go (inr ne) (inr nf) =
          let e : length path - 1 - (i - 1) ≡ d + 1 - i = omega arith in
          ap (λ (y : Junction). y.0) (get_or-set_other _ (d + 2) i c (record { 0 = 0 }) nf ∙ reads_in _ _ _ turned held i (record { 0 = 0 }) (omega arith) (omega arith) ∙ get_or-reverse path (i - 1) (record { 0 = 0 }) (omega arith) ∙ ap (λ j. get_or path j (record { 0 = 0 })) e)
          ∙ path_reads (d + 1 - i) (omega arith) ∙ sym (ringed_path v.0 c.0 q m top d i (omega arith) (omega arith))

  abbrev vs : List ℕ
  vs = take (d + 3) (numbers ring₁)

  vs_long : length vs ≡ d + 3
  vs_long = length-take-le (d + 3) (numbers ring₁) (omega (arith, length-numbers ring₁, long, fits))

  vs_reads : (i : ℕ) → i < d + 3 → get_or vs i 0 ≡ ringed v.0 c.0 q m top d i
  vs_reads i l = get_or-take (d + 3) (numbers ring₁) i 0 l ∙ getD_numbers ring₁ i ∙ reads i l

  pub lists_ring : Lists p ring₀ (d + 3) ring₁
  lists_ring = record {
    long = (ring_round p sound v.0 a c.0 size q m corner z top d k).long;
    upto = fits;
    ring = ring_from_reads p (d + 3) _ (ring_round p sound v.0 a c.0 size q m corner z top d k) vs vs_long vs_reads;
    listed = record {
      lowest = λ i a₁ b₁. let l : i < d + 3 = rw vs_long at b₁ in rw (vs_reads 0 (omega arith), vs_reads i l) (ring_lowest p sound v.0 a c.0 size q m corner z top d k i a₁ l);
      towards = λ i e. let f : suc i ≡ d + 3 = e ∙ vs_long in rw (vs_reads 1 (omega arith), vs_reads i (omega arith)) (ring_towards p sound v.0 a c.0 size q m corner z top d k i f);
    };
    behind = λ i e l. get_or-set_other _ (d + 2) i c e (λ y. omega arith) ∙ reads_over _ _ _ turned held i e (omega arith) ∙ get_or-set_other ring₀ 0 i v e (λ y. omega arith);
  }
