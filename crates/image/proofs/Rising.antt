-- In what is written the records stand in rising order of near end, then far end: a record's index is its rank among the pipes.
use Rattle.std.proofs.Common.{◌≡◌, ℕ, ◌-◌, ◌<◌, ◌≤◌, true, ltb, ◌⊎◌, sym, ap, ◌∙◌, inl, inr, arith}
use Rattle.std.proofs.lemmas.Bool.{cases_lt, cases_order, and_parts, ltb-true}
use Rattle.plan.specs.Plans.{Plan}
use Rattle.image.specs.Images.{image_of}
use Rattle.image.specs.Writing.{upper, uppers, written, Below}
use Rattle.image.proofs.Layouts.{rank, Recorded, recorded, counted, uppers_some, find_record}
use Rattle.image.proofs.Uppers.{uppers_mono, pipes_to_step, pipes_to_le}

-- where the record of index i stands for the pipe from v to w
record Stands (p : Plan) (i v w : ℕ) : Type 0 where
  some : 1 ≤ v
  few : v ≤ p.size
  counts : 1 ≤ uppers p v w
  far_few : w ≤ p.size
  index : i ≡ rank p v w
  near : (image_of (written p)).near i ≡ v
  far : (image_of (written p)).far i ≡ w

module _ (p : Plan) where
  find : (i : ℕ) → 1 ≤ i → i ≤ (image_of (written p)).records → (v : ℕ) × (w : ℕ) × Stands p i v w
  find i a b =
      let f : (v : ℕ) × (w : ℕ) × (1 ≤ v) × (v ≤ p.size) × (upper p v w ≡ true) × (w ≤ p.size) × (i ≡ rank p v w) = find_record p p.size i a (omega (arith, b, counted p)) in
      let l : f.0 < f.1 = ltb-true f.0 f.1 (and_parts (ltb f.0 f.1) (p.joins f.0 f.1) f.4).0 in
      let q : Recorded p f.0 f.1 = recorded p f.0 f.1 f.2 f.3 f.4 (omega (arith, l)) f.5 in (
        f.0,
        f.1,
        record {
          some = f.2;
          few = f.3;
          counts = uppers_some p f.0 f.1 f.4 (omega (arith, l));
          far_few = f.5;
          index = f.6;
          near = ap (image_of (written p)).near f.6 ∙ q.near;
          far = ap (image_of (written p)).far f.6 ∙ q.far;
        },
      )

  -- a pipe of a lower near end has a lower rank
  near_first : (i j v w x y : ℕ) → Stands p i v w → Stands p j x y → x < v → j < i
  near_first i j v w x y a b l =
      omega (arith, a.index, b.index, a.counts, pipes_to_step p x b.some, pipes_to_le p x (v - 1) (omega arith), uppers_mono p x y p.size b.far_few)

  -- of one near end, a far end that is no higher has no higher a rank
  far_first : (i j v w y : ℕ) → Stands p i v w → Stands p j v y → y ≤ w → j ≤ i
  far_first i j v w y a b l = omega (arith, a.index, b.index, uppers_mono p v y w l)

  below : (i j v w x y : ℕ) → i < j → Stands p i v w → Stands p j x y → Below (image_of (written p)) i j
  below i j v w x y l a b = go (cases_order v x)
    where
      same : v ≡ x → (w < y) ⊎ (y ≤ w) → Below (image_of (written p)) i j
      same e (inl k) = inr (a.near ∙ e ∙ sym b.near, omega (arith, k, a.far, b.far))
      same e (inr k) = absurd (omega (arith, l, far_first i j v w y a (rw e b) k))

      go : (v ≡ x) ⊎ ((v < x) ⊎ (x < v)) → Below (image_of (written p)) i j
      go (inl e) = same e (cases_lt w y)
      go (inr (inl k)) = inl (omega (arith, k, a.near, b.near))
      go (inr (inr k)) = absurd (omega (arith, l, near_first i j v w x y a b k))

pub records_rise : (p : Plan) (i j : ℕ) → 1 ≤ i → i < j → j ≤ (image_of (written p)).records → Below (image_of (written p)) i j
records_rise p i j a l b =
    let f : (v : ℕ) × (w : ℕ) × Stands p i v w = find p i a (omega (arith, l, b)) in
    let g : (v : ℕ) × (w : ℕ) × Stands p j v w = find p j (omega (arith, a, l)) b in
    below p i j f.0 f.1 g.0 g.1 l f.2 g.2
