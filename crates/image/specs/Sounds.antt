-- Sound images: what a verdict of sound tells of the chains and the records.
use Rattle.std.specs.Prelude.{◌≡◌, ℕ, zero, suc, ◌<◌, ◌≤◌, Bool, true, false, cond, not, ◌&&◌, ◌⊎◌, List, [], ◌∷◌, length, ◌==◌, ◌≢◌, nat_le, nat_lt, refl}
use Rattle.std.proofs.Common.{sym, ap, ◌∙◌, inl, inr, arith}
use Rattle.std.proofs.lemmas.Bool.{cases_eq, cases_Bool, both_ways, and_parts, and_from, or_cases, or_left, eq-eqb, eqb-true, not-false, le-leb}
use Rattle.plan.specs.Plans.{Sound, within}
use Rattle.plan.specs.Refusals.{Verdict, carried, refused}
use Rattle.plan.specs.Registers.{same_pair}
use Rattle.plan.proofs.PipeLaws.{within_parts, same_pair_swapped}
use Rattle.plan.proofs.Verdicts.{carried≢refused}
use Rattle.image.specs.Chains.{sound_from, sound_chain, reaches, in_chain, reached, pipe, plan_of}
use Rattle.image.specs.Images.{Image, field, image_of, image_length}
use Rattle.image.specs.Ranges.{each, some, lowest}
use Rattle.image.specs.Reading.{header_sound, chains_verdict, read_verdict, is_carried, is_sound, Laid}
use Rattle.image.specs.declared.header.Header.{Header}
use Rattle.image.specs.Headers.{InRange, sound_in_range}
use Rattle.image.specs.RangesLemmas.{some_at, some_one, some-none, some_same, each_at, each_all}
use Rattle.image.specs.Tallies.{in_chain_near}
use Rattle.image.specs.Walks.{Member, reaches_member, reaches_step, reaches_end, sound_more}

pub within_from : (n v : ℕ) → 1 ≤ v → v ≤ n → within n v ≡ true
within_from n v a b = and_from (nat_le 1 v) (nat_le v n) (le-leb 1 v a) (le-leb v n b)

-- a check that is passed
passed : (b : Bool) (k : ℕ) (vs : List ℕ) (x : Verdict) → cond b (refused k vs) x ≡ carried → (b ≡ false) × (x ≡ carried)
passed true k vs x h = absurd (carried≢refused k vs h)
passed false k vs x h = (refl, h)

kept : (b : Bool) (k : ℕ) (vs : List ℕ) → cond b carried (refused k vs) ≡ carried → b ≡ true
kept true k vs h = refl
kept false k vs h = absurd (carried≢refused k vs h)

-- the header, the length and the chains of a sound image
pub record Carried (bytes : List ℕ) : Type 0 where
  pub range : InRange bytes
  pub long : length bytes ≡ image_length (field bytes 0) (field bytes 2)
  pub chains : chains_verdict (image_of bytes) ≡ carried

pub carried_parts : (bytes : List ℕ) → read_verdict bytes ≡ carried → Carried bytes
unfolding read_verdict
carried_parts bytes h =
    let a = passed (nat_lt (length bytes) 8) 4 [] (cond (not (header_sound bytes)) (refused 5 []) (cond (not (length bytes == image_length (field bytes 0) (field bytes 2))) (refused 4 []) (chains_verdict (image_of bytes)))) h in
    let b = passed (not (header_sound bytes)) 5 [] (cond (not (length bytes == image_length (field bytes 0) (field bytes 2))) (refused 4 []) (chains_verdict (image_of bytes))) a.1 in
    let c = passed (not (length bytes == image_length (field bytes 0) (field bytes 2))) 4 [] (chains_verdict (image_of bytes)) b.1 in
    record {
      range = sound_in_range bytes (not-false (header_sound bytes) b.0);
      long = eqb-true (length bytes) (image_length (field bytes 0) (field bytes 2)) (not-false _ c.0);
      chains = c.1;
    }

-- every chain is sound, and every record is in one
pub record Chained (m : Image) : Type 0 where
  pub sound : (v : ℕ) → 1 ≤ v → v ≤ m.size → sound_chain m v ≡ true
  pub all : (i : ℕ) → 1 ≤ i → i ≤ m.records → (v : ℕ) × (1 ≤ v) × (v ≤ m.size) × (in_chain m v i ≡ true)

pub chains_chained : (m : Image) → chains_verdict m ≡ carried → Chained m
unfolding chains_verdict
chains_chained m h =
    record {
      sound = λ v a b. ok v a b (cases_Bool (sound_chain m v));
      all = λ i a b. some_one (λ v. in_chain m v i) m.size (each_at (reached m) m.records (kept (each (reached m) m.records) 6 (0 ∷ []) p.1) i a b);
    }
  where
    p : (some (λ v. not (sound_chain m v)) m.size ≡ false) × (cond (each (reached m) m.records) carried (refused 6 (0 ∷ [])) ≡ carried)
    p = passed (some (λ v. not (sound_chain m v)) m.size) 6 (lowest (λ v. not (sound_chain m v)) m.size ∷ []) (cond (each (reached m) m.records) carried (refused 6 (0 ∷ []))) h

    ok : (v : ℕ) → 1 ≤ v → v ≤ m.size → (sound_chain m v ≡ true) ⊎ (sound_chain m v ≡ false) → sound_chain m v ≡ true
    ok v a b (inl e) = e
    ok v a b (inr e) = absurd (both_ways (some (λ u. not (sound_chain m u)) m.size) p.0 (some_at (λ u. not (sound_chain m u)) m.size v a b (ap not e)))

pub chained_verdict : (m : Image) → Chained m → chains_verdict m ≡ carried
unfolding chains_verdict
chained_verdict m c =
    rw (some-none (λ v. not (sound_chain m v)) m.size (λ v a b. ap not (c.sound v a b)), each_all (reached m) m.records (λ i a b. at i (c.all i a b))) refl
  where
    at : (i : ℕ) → (v : ℕ) × (1 ≤ v) × (v ≤ m.size) × (in_chain m v i ≡ true) → reached m i ≡ true
    at i r = some_at (λ v. in_chain m v i) m.size r.0 r.1 r.2 r.3

-- a sound chain has a far end once
reaches_single : (m : Image) (v k low i a b : ℕ) → sound_from m v k low i ≡ true → reaches m k i a ≡ true → reaches m k i b ≡ true → m.far a ≡ m.far b → a ≡ b
unfolding reaches
reaches_single m v zero low i a b s p q e = absurd (both_ways false refl p)
reaches_single m v (suc k) low i a b s p q e = go (cases_eq i 0) (reaches_single m v k (m.far i) (m.next i) a b)
  where
    at : (i ≢ 0) → (sound_from m v k (m.far i) (m.next i) ≡ true → reaches m k (m.next i) a ≡ true → reaches m k (m.next i) b ≡ true → m.far a ≡ m.far b → a ≡ b) → ((i == a) ≡ true) ⊎ (reaches m k (m.next i) a ≡ true) → ((i == b) ≡ true) ⊎ (reaches m k (m.next i) b ≡ true) → a ≡ b
    at ne rest (inl x) (inl y) = sym (eqb-true i a x) ∙ eqb-true i b y
    at ne rest (inl x) (inr y) =
        let z : Member m v (m.far i) b = reaches_member m v k (m.far i) (m.next i) b (sound_more m v k low i ne s).1 y in
        absurd (omega (arith, z.above, ap m.far (eqb-true i a x)))
    at ne rest (inr x) (inl y) =
        let z : Member m v (m.far i) a = reaches_member m v k (m.far i) (m.next i) a (sound_more m v k low i ne s).1 x in
        absurd (omega (arith, z.above, ap m.far (eqb-true i b y)))
    at ne rest (inr x) (inr y) = rest (sound_more m v k low i ne s).1 x y e

    go : (i ≡ 0) ⊎ (i ≢ 0) → (sound_from m v k (m.far i) (m.next i) ≡ true → reaches m k (m.next i) a ≡ true → reaches m k (m.next i) b ≡ true → m.far a ≡ m.far b → a ≡ b) → a ≡ b
    go (inl z) rest = absurd (both_ways (reaches m (suc k) 0 a) (reaches_end m v (suc k) a) (ap (λ x. reaches m (suc k) x a) (sym z) ∙ p))
    go (inr ne) rest =
        at ne rest (or_cases (i == a) (reaches m k (m.next i) a) (sym (reaches_step m v k i a ne) ∙ p)) (or_cases (i == b) (reaches m k (m.next i) b) (sym (reaches_step m v k i b ne) ∙ q))

-- record i stands in the chain of its near end, which is a junction
pub record Placed (m : Image) (i : ℕ) : Type 0 where
  pub some : 1 ≤ m.near i
  pub few : m.near i ≤ m.size
  pub here : in_chain m (m.near i) i ≡ true
  pub above : m.near i < m.far i
  pub below : m.far i ≤ m.size

module _ (m : Image) (c : Chained m) where
  pub placed : (i : ℕ) → 1 ≤ i → i ≤ m.records → Placed m i
  placed i a b =
      let r : (v : ℕ) × (1 ≤ v) × (v ≤ m.size) × (in_chain m v i ≡ true) = c.all i a b in
      let x : Member m r.0 r.0 i = in_chain_near m r.0 i (c.sound r.0 r.1 r.2) r.3 in
      let e : m.near i ≡ r.0 = x.near in
      record {
        some = omega (arith, r.1);
        few = omega (arith, r.2);
        here = ap (λ v. in_chain m v i) e ∙ r.3;
        above = omega (arith, x.above);
        below = x.below;
      }

  -- a pair is joined where a record has it, the lower end near
  pub pipe_record : (v w : ℕ) → v < w → pipe m v w ≡ true → (i : ℕ) × (1 ≤ i) × (i ≤ m.records) × (m.near i ≡ v) × (m.far i ≡ w)
  pipe_record v w l h =
      let r : (i : ℕ) × (1 ≤ i) × (i ≤ m.records) × (same_pair v w (m.near i) (m.far i) ≡ true) = some_one (λ i. same_pair v w (m.near i) (m.far i)) m.records h in
      let p : Placed m r.0 = placed r.0 r.1 r.2 in
      let e : (m.near r.0 ≡ v) × (m.far r.0 ≡ w) = ordered v w (m.near r.0) (m.far r.0) l p.above r.3 in
      (r.0, r.1, r.2, e.0, e.1)
    where
      ordered : (v w a b : ℕ) → v < w → a < b → same_pair v w a b ≡ true → (a ≡ v) × (b ≡ w)
      ordered v w a b l k h = go (or_cases (a == v && b == w) (a == w && b == v) h)
        where
          go : ((a == v && b == w) ≡ true) ⊎ ((a == w && b == v) ≡ true) → (a ≡ v) × (b ≡ w)
          go (inl e) = let p = and_parts (a == v) (b == w) e in (eqb-true a v p.0, eqb-true b w p.1)
          go (inr e) = let p = and_parts (a == w) (b == v) e in absurd (omega (arith, eqb-true a w p.0, eqb-true b v p.1))

  pub record_pipe : (i v w : ℕ) → 1 ≤ i → i ≤ m.records → m.near i ≡ v → m.far i ≡ w → pipe m v w ≡ true
  record_pipe i v w a b p q =
      some_at (λ j. same_pair v w (m.near j) (m.far j)) m.records i a b
      (or_left (m.near i == v && m.far i == w) (m.near i == w && m.far i == v) (and_from (m.near i == v) (m.far i == w) (eq-eqb (m.near i) v p) (eq-eqb (m.far i) w q)))

  pub single : (i j : ℕ) → 1 ≤ i → i ≤ m.records → 1 ≤ j → j ≤ m.records → m.near i ≡ m.near j → m.far i ≡ m.far j → i ≡ j
  single i j a b x y p q =
      reaches_single m (m.near j) m.size (m.near j) (m.head (m.near j)) i j (c.sound (m.near j) (placed j x y).some (placed j x y).few) (ap (λ v. in_chain m v i) (sym p) ∙ (placed i a b).here) (placed j x y).here q

  -- both ends of a pipe are junctions, and they differ
  pub pipe_ends : (v w : ℕ) → pipe m v w ≡ true → (within m.size v ≡ true) × (within m.size w ≡ true) × (v ≢ w)
  pipe_ends v w h =
      let r : (i : ℕ) × (1 ≤ i) × (i ≤ m.records) × (same_pair v w (m.near i) (m.far i) ≡ true) = some_one (λ i. same_pair v w (m.near i) (m.far i)) m.records h in
      inside r.0 (placed r.0 r.1 r.2) (or_cases (m.near r.0 == v && m.far r.0 == w) (m.near r.0 == w && m.far r.0 == v) r.3)
    where
      inside : (i : ℕ) → Placed m i → ((m.near i == v && m.far i == w) ≡ true) ⊎ ((m.near i == w && m.far i == v) ≡ true) → (within m.size v ≡ true) × (within m.size w ≡ true) × (v ≢ w)
      inside i x (inl s) =
          let p = and_parts (m.near i == v) (m.far i == w) s in
          let d : m.near i ≡ v = eqb-true (m.near i) v p.0 in
          let e : m.far i ≡ w = eqb-true (m.far i) w p.1 in
          (within_from m.size v (omega (arith, x.some)) (omega (arith, x.few)), within_from m.size w (omega (arith, x.some, x.above)) (omega (arith, x.below)), λ z. omega (arith, x.above))
      inside i x (inr s) =
          let p = and_parts (m.near i == w) (m.far i == v) s in
          let d : m.near i ≡ w = eqb-true (m.near i) w p.0 in
          let e : m.far i ≡ v = eqb-true (m.far i) v p.1 in
          (within_from m.size v (omega (arith, x.some, x.above)) (omega (arith, x.below)), within_from m.size w (omega (arith, x.some)) (omega (arith, x.few)), λ z. omega (arith, x.above))

pub pipe_alike : (m : Image) (v w : ℕ) → pipe m v w ≡ pipe m w v
pipe_alike m v w = some_same (λ i. same_pair v w (m.near i) (m.far i)) (λ i. same_pair w v (m.near i) (m.far i)) m.records (λ i a b. same_pair_swapped v w (m.near i) (m.far i))

module _ (m : Image) (c : Chained m) where
  pub plan_sound : 1 ≤ m.size → m.size ≤ 512 → Sound (plan_of m)
  plan_sound some few =
      record {
        some = some;
        few = few;
        inside = λ v h. within_parts m.size v h;
        ends = λ v w h. let e = pipe_ends m c v w h in (e.0, e.1);
        apart = λ v. alone v (cases_Bool (pipe m v v));
        alike = λ v w. pipe_alike m v w;
      }
    where
      alone : (v : ℕ) → (pipe m v v ≡ true) ⊎ (pipe m v v ≡ false) → pipe m v v ≡ false
      alone v (inl h) = absurd ((pipe_ends m c v v h).2 refl)
      alone v (inr h) = h

pub is_sound_carried : (bytes : List ℕ) → is_sound bytes ≡ true → read_verdict bytes ≡ carried
is_sound_carried bytes h = go (read_verdict bytes) h
  where
    go : (x : Verdict) → is_carried x ≡ true → x ≡ carried
    go carried h = refl
    go (refused k vs) h = absurd (both_ways false refl h)

-- what a sound image is
pub sound_chained : (bytes : List ℕ) → read_verdict bytes ≡ carried → Chained (image_of bytes)
sound_chained bytes h = chains_chained (image_of bytes) (carried_parts bytes h).chains

pub sound_laid : (bytes : List ℕ) (h : Header) → is_sound bytes ≡ true → h.n ≡ (image_of bytes).size → h.records ≡ (image_of bytes).records → Laid bytes h
unfolding image_of
sound_laid bytes h s n-is r-is =
    let p : Carried bytes = carried_parts bytes (is_sound_carried bytes s) in
    record {
      size = n-is;
      records = r-is;
      some = omega (arith, p.range.some);
      few = omega (arith, p.range.few);
      most = omega (arith, p.range.most);
      long = omega (arith, p.long);
    }

-- the plan of an image that is carried
pub image_sound : (bytes : List ℕ) → read_verdict bytes ≡ carried → Sound (plan_of (image_of bytes))
unfolding image_of
image_sound bytes h =
    let p : Carried bytes = carried_parts bytes h in
    plan_sound (image_of bytes) (sound_chained bytes h) p.range.some p.range.few
