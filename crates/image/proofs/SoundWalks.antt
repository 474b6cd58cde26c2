-- A walk along a chain of a sound image: what comes behind a record, and what is met first above w.
use Rattle.std.specs.Prelude.{◌≡◌, ℕ, zero, suc, ◌-◌, ◌<◌, ◌≤◌, Bool, true, false, ◌⊎◌, List, [], ◌∷◌, Some, None, Option, ◌==◌, ◌≢◌}
use Rattle.std.specs.Fn.{CalledAt}
use Rattle.std.specs.Iterator.{Yields, FindsItem}
use Rattle.std.specs.List.{FoldsTo}
use Rattle.std.proofs.Common.{refl, sym, ap, subst, ◌∙◌, arith}
use Rattle.std.proofs.Math.Logic.{inl, inr}
use Rattle.std.proofs.lemmas.Bool.{cases_eq, both_ways, or_cases, eq-eqb, ne_eqb, eqb-true}
use denote.Param.Members.{Mut}
use denote.Ref.{Bor}
use Rattle.plan.specs.declared.number.Junction.{Junction}
use Rattle.plan.specs.Plans.{NextNeighbour}
use Rattle.image.specs.declared.layout.Layout.{Layout}
use Rattle.image.specs.declared.sound_chain.SoundChain.{SoundChain}
use Rattle.image.specs.Chains.{sound_from, reaches, plan_of}
use Rattle.image.specs.Images.{Image, image_of}
use Rattle.image.specs.Records.{index_field}
use Rattle.image.specs.SoundSteps.{SoundSteps, ends_left}
use Rattle.image.specs.Sounds.{Chained, Placed, placed}
use Rattle.image.specs.Walks.{Member, reaches_step, reaches_end, sound_more, follows_member}
use Rattle.image.proofs.Seeks.{Seeking, seek_starts, seek_goes_on, seek_finds, seek_ends}

-- ---- what comes behind a record

module _ (m : Image) (v : ℕ) where
  -- a sound chain goes on soundly behind each record that it reaches
  sound_behind : (k low i j : ℕ) → sound_from m v k low i ≡ true → reaches m k i j ≡ true → (r : ℕ) × (sound_from m v r (m.far j) (m.next j) ≡ true)
  unfolding reaches
  sound_behind zero low i j s h = absurd (both_ways false refl h)
  sound_behind (suc k) low i j s h = go (cases_eq i 0) (sound_behind k (m.far i) (m.next i) j)
    where
      at : (i ≢ 0) → (sound_from m v k (m.far i) (m.next i) ≡ true → reaches m k (m.next i) j ≡ true → (r : ℕ) × (sound_from m v r (m.far j) (m.next j) ≡ true)) → ((i == j) ≡ true) ⊎ (reaches m k (m.next i) j ≡ true) → (r : ℕ) × (sound_from m v r (m.far j) (m.next j) ≡ true)
      at ne rest (inl e) = (k, subst (λ x. sound_from m v k (m.far x) (m.next x) ≡ true) (eqb-true i j e) (sound_more m v k low i ne s).1)
      at ne rest (inr e) = rest (sound_more m v k low i ne s).1 e

      go : (i ≡ 0) ⊎ (i ≢ 0) → (sound_from m v k (m.far i) (m.next i) ≡ true → reaches m k (m.next i) j ≡ true → (r : ℕ) × (sound_from m v r (m.far j) (m.next j) ≡ true)) → (r : ℕ) × (sound_from m v r (m.far j) (m.next j) ≡ true)
      go (inl e) rest = absurd (both_ways (reaches m (suc k) 0 j) (reaches_end m v (suc k) j) (ap (λ x. reaches m (suc k) x j) (sym e) ∙ h))
      go (inr ne) rest = at ne rest (or_cases (i == j) (reaches m k (m.next i) j) (sym (reaches_step m v k i j ne) ∙ h))

  -- where a sound chain goes on, a record stands in it
  goes_on : (k low i : ℕ) → (i ≢ 0) → sound_from m v k low i ≡ true → Member m v low i
  unfolding sound_from
  goes_on zero low i ne h = absurd (ne (eqb-true i 0 h))
  goes_on (suc k) low i ne h = follows_member m v low i ne (sound_more m v k low i ne h).0

module _ (m : Image) (c : Chained m) where
  comes_behind : (i : ℕ) → 1 ≤ i → i ≤ m.records → (m.next i ≢ 0) → Member m (m.near i) (m.far i) (m.next i)
  comes_behind i a b ne =
      let p : Placed m i = placed m c i a b in
      let r : (k : ℕ) × (sound_from m (m.near i) k (m.far i) (m.next i) ≡ true) = sound_behind m (m.near i) m.size (m.near i) (m.head (m.near i)) i (c.sound (m.near i) p.some p.few) p.here in
      goes_on m (m.near i) r.0 (m.far i) (m.next i) ne r.1

  pub next_inside : (i : ℕ) → 1 ≤ i → i ≤ m.records → m.next i ≤ m.records
  next_inside i a b = go (cases_eq (m.next i) 0)
    where
      go : (m.next i ≡ 0) ⊎ (m.next i ≢ 0) → m.next i ≤ m.records
      go (inl e) = omega (arith, e)
      go (inr ne) = (comes_behind i a b ne).few

  pub head_inside : (v : ℕ) → 1 ≤ v → v ≤ m.size → m.head v ≤ m.records
  head_inside v a b = go (cases_eq (m.head v) 0)
    where
      go : (m.head v ≡ 0) ⊎ (m.head v ≢ 0) → m.head v ≤ m.records
      go (inl e) = omega (arith, e)
      go (inr ne) = (goes_on m v m.size v (m.head v) ne (c.sound v a b)).few

  -- the walk comes nearer to the end
  pub ends_fall : (i : ℕ) → 1 ≤ i → i ≤ m.records → ends_left m (m.next i) < ends_left m i
  ends_fall i a b = rw (ne_eqb i 0 (λ e. omega (arith, e))) (go (cases_eq (m.next i) 0))
    where
      below : m.far i ≤ m.size
      below = (placed m c i a b).below

      go : (m.next i ≡ 0) ⊎ (m.next i ≢ 0) → ends_left m (m.next i) < suc (m.size - m.far i)
      go (inl e) = rw (eq-eqb (m.next i) 0 e) (omega arith)
      go (inr ne) =
          let z : Member m (m.near i) (m.far i) (m.next i) = comes_behind i a b ne in
          rw (ne_eqb (m.next i) 0 ne) (omega (arith, z.above, z.below, below))

-- ---- the first far end above w

-- s stands in the chain of v over the bytes, where every record with a far end above w is still to come
pub record Toward (bytes : List ℕ) (v : Junction) (w : ℕ) (s : SoundChain) : Type 0 where
  pub bytes_are : s.image.bytes.now ≡ bytes
  pub low : ℕ
  pub seeking : Seeking (image_of bytes) v.0 w low (index_field s.at)

module _ (bytes : List ℕ) (v : Junction) (w : ℕ) (k : Chained (image_of bytes)) where
  pub toward_starts : (s : SoundChain) → s.image.bytes.now ≡ bytes → index_field s.at ≡ (image_of bytes).head v.0 → 1 ≤ v.0 → v.0 ≤ (image_of bytes).size → Toward bytes v w s
  toward_starts s bytes_are at_is some few =
      record { bytes_are = bytes_are; low = v.0; seeking = rw at_is (seek_starts (image_of bytes) k v.0 w some few) }

  module _ (s t : SoundChain) (a : Toward bytes v w s) where
    far_is : (u : Junction) → SoundSteps s (Some u) t → u.0 ≡ (image_of bytes).far (index_field s.at)
    far_is u p = p.1 ∙ ap (λ b. (image_of b).far (index_field s.at)) a.bytes_are

    toward_goes_on : (u : Junction) → u.0 ≤ w → SoundSteps s (Some u) t → Toward bytes v w t
    toward_goes_on u l p =
        let next_is : index_field t.at ≡ (image_of bytes).next (index_field s.at) = p.2 ∙ ap (λ b. (image_of b).next (index_field s.at)) a.bytes_are in
        record {
          bytes_are = ap (λ (i : Layout). i.bytes.now) p.3 ∙ a.bytes_are;
          low = (image_of bytes).far (index_field s.at);
          seeking = rw next_is (seek_goes_on (image_of bytes) k v.0 w a.low (index_field s.at) a.seeking p.0 (omega (arith, far_is u p)));
        }

    toward_finds : (u : Junction) → v.0 ≤ w → w < u.0 → SoundSteps s (Some u) t → NextNeighbour (plan_of (image_of bytes)) v.0 w (Some u)
    toward_finds u upper l p = seek_finds (image_of bytes) k v.0 w a.low (index_field s.at) u upper a.seeking p.0 (far_is u p) l

    toward_ends : v.0 ≤ w → SoundSteps s None t → NextNeighbour (plan_of (image_of bytes)) v.0 w None
    toward_ends upper p = seek_ends (image_of bytes) k v.0 w a.low (index_field s.at) upper a.seeking p.0

  module _ {F : Type 0} (g : Mut F (Bor Junction × Unit {0}) Bool) (f : F) where
    -- at the far ends that f turned down
    walk_toward : ((u : Junction) (q : F) → CalledAt g f u false q → (q ≡ f) × (u.0 ≤ w)) → (s t : SoundChain) (xs : List Junction) (h : F) → Toward bytes v w s → Yields SoundSteps s xs t → FoldsTo (λ p x q. CalledAt g p x false q) f xs h → Toward bytes v w t × (h ≡ f)
    walk_toward quiet s t [] h a y c = (subst (λ x. Toward bytes v w x) y a, sym c)
    walk_toward quiet s t (u ∷ xs) h a y c =
        let l = quiet u c.0 c.1 in
        walk_toward quiet y.0 t xs h (toward_goes_on s y.0 a u l.1 y.1) y.2 (subst (λ q. FoldsTo (λ p x q. CalledAt g p x false q) q xs h) l.0 c.2)

    -- the first far end that f takes
    pub first_above : ((u : Junction) (q : F) → CalledAt g f u false q → (q ≡ f) × (u.0 ≤ w)) → ((u : Junction) (q : F) → CalledAt g f u true q → w < u.0) → (s t : SoundChain) (r : Option Junction) → v.0 ≤ w → Toward bytes v w s → FindsItem SoundSteps g s f r t → NextNeighbour (plan_of (image_of bytes)) v.0 w r
    first_above quiet tells s t None upper a r =
        let e = walk_toward quiet s r.2.0 r.0 r.1 a r.2.1 r.3 in
        toward_ends r.2.0 t e.0 upper r.2.2
    first_above quiet tells s t (Some u) upper a r =
        let e = walk_toward quiet s r.2.0 r.0 r.1 a r.2.1 r.3 in
        toward_finds r.2.0 t e.0 u upper (tells u r.4.0 (subst (λ q. CalledAt g q u true r.4.0) e.1 r.4.1)) r.2.2
