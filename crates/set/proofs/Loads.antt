-- The records of an image written into a ledger, one after another.
use Rattle.std.proofs.Common.{◌≡◌, ℕ, zero, suc, ◌+◌, ◌-◌, ◌<◌, ◌≤◌, Bool, true, false, not, ◌&&◌, ◌||◌, eqb, ltb, ◌⊎◌, List, [], ◌∷◌, sym, refl, ap, ◌∙◌, ap₂, inl, inr, arith}
use Rattle.std.proofs.lemmas.Bool.{cases_Bool, cases_eq, both_ways, and_parts, and_from, and_cases, and_left, or_cases, or_from, not-false, eqb-true, eq-eqb, ne_eqb, ltb-false, lt-ltb, le-ltb}
use Rattle.std.proofs.lemmas.Bool.Decides.{nat_tests}
use Rattle.plan.specs.Plans.{Plan, Sound, within, pairs}
use Rattle.plan.specs.Refusals.{Verdict, carried, refused, checked, after}
use Rattle.plan.specs.Registers.{same_pair, join_verdict}
use Rattle.plan.proofs.Verdicts.{all_passed, carried≢refused}
use Rattle.image.specs.Chains.{pipe, plan_of}
use Rattle.image.specs.Images.{Image, image_of}
use Rattle.image.specs.Laws.{SoundLaws}
use Rattle.image.specs.Ranges.{some}
use Rattle.image.specs.Reading.{read_verdict, has_record}
use Rattle.image.specs.RangesLemmas.{some-none}
use Rattle.image.proofs.SoundImages.{sound_laws, record_present}
use Rattle.plan.proofs.PipeLaws.{within_parts}
use Rattle.image.specs.Sounds.{within_from}
use Rattle.set.specs.Laws.{WritesPipes, LoadLaws}
use Rattle.set.specs.Ledgers.{Ledger, seen, clear, then, load_checks, with_joined, with_records, with_loaded}
use Rattle.set.proofs.Clears.{clear-serves, clear_apart}

eqb-turned : (a b : ℕ) → eqb a b ≡ eqb b a
eqb-turned a b = go (cases_eq a b)
  where
    go : (a ≡ b) ⊎ (a ≡ b → ⊥) → eqb a b ≡ eqb b a
    go (inl e) = eq-eqb a b e ∙ sym (eq-eqb b a (sym e))
    go (inr ne) = ne_eqb a b ne ∙ sym (ne_eqb b a (λ e. ne (sym e)))

-- which of two pairs is compared with which does not matter
pub same_pair-turned : (v w a b : ℕ) → same_pair v w a b ≡ same_pair a b v w
same_pair-turned v w a b = grind (arith, nat_tests, eqb-turned a v, eqb-turned b w, eqb-turned a w, eqb-turned b v)

or_turned : (x y z : Bool) → (x || (y || z)) ≡ (y || (x || z))
or_turned true true z = refl
or_turned true false z = refl
or_turned false true z = refl
or_turned false false z = refl

or-none : (x : Bool) → x ≡ (x || false)
or-none true = refl
or-none false = refl

module _ (l : Ledger) (m : Image) where
  pub records_size : (k : ℕ) → (with_records l m k).base.size ≡ l.base.size
  unfolding with_records
  records_size zero = refl
  records_size (suc k) = records_size k

  pub records_serves : (k : ℕ) → (with_records l m k).base.serves ≡ l.base.serves
  unfolding with_records
  records_serves zero = refl
  records_serves (suc k) = records_serves k

  pub records_shut : (k : ℕ) → (with_records l m k).shut ≡ l.shut
  unfolding with_records
  records_shut zero = refl
  records_shut (suc k) = records_shut k

  pub records_spare : (k : ℕ) → (with_records l m k).spare ≡ l.spare - k
  unfolding with_records
  records_spare zero = omega arith
  records_spare (suc k) = let e : (with_records l m k).spare ≡ l.spare - k = records_spare k in omega (arith, e)

  pub records_joins : (k v w : ℕ) → (with_records l m k).base.joins v w ≡ (l.base.joins v w || some (λ i. same_pair v w (m.near i) (m.far i)) k)
  unfolding with_records
  records_joins zero v w = or-none (l.base.joins v w)
  records_joins (suc k) v w =
      ap₂ (λ (x y : Bool). x || y) (same_pair-turned (m.near (suc k)) (m.far (suc k)) v w) (records_joins k v w)
      ∙ or_turned (same_pair v w (m.near (suc k)) (m.far (suc k))) (l.base.joins v w) (some (λ i. same_pair v w (m.near i) (m.far i)) k)

  pub records_start : with_records l m 0 ≡ l
  unfolding with_records
  records_start = refl

  records_suc : (k : ℕ) → with_records l m (suc k) ≡ with_joined (with_records l m k) (m.near (suc k)) (m.far (suc k))
  unfolding with_records
  records_suc k = refl

  pub records_next : (i : ℕ) → 1 ≤ i → with_records l m (i + 1 - 1) ≡ with_joined (with_records l m (i - 1)) (m.near i) (m.far i)
  records_next i a =
      let e : i + 1 - 1 ≡ suc (i - 1) = omega arith in
      let f : suc (i - 1) ≡ i = omega arith in
      ap (with_records l m) e ∙ (records_suc (i - 1) ∙ ap (λ j. with_joined (with_records l m (i - 1)) (m.near j) (m.far j)) f)

-- the checks of a load are passed
pub record Loadable (l : Ledger) (bytes : List ℕ) : Type 0 where
  pub sound : read_verdict bytes ≡ carried
  pub size : (image_of bytes).size ≡ l.base.size
  pub new : clear (seen l) ≡ true
  pub room : (image_of bytes).records ≤ l.spare

pub then_carried : (a b : Verdict) → then a b ≡ carried → (a ≡ carried) × (b ≡ carried)
then_carried carried b h = (refl, h)
then_carried (refused k vs) b h = absurd (carried≢refused k vs h)

pub loadable : (l : Ledger) (bytes : List ℕ) → load_checks l bytes ≡ carried → Loadable l bytes
loadable l bytes h =
    let cs : List (Bool × ℕ) = (not (eqb (image_of bytes).size l.base.size), 18) ∷ (not (clear (seen l)), 17) ∷ (ltb l.spare (image_of bytes).records, 14) ∷ [] in
    let p = then_carried (read_verdict bytes) (checked cs) h in
    let t = all_passed cs p.1 in
    record {
      sound = p.0;
      size = eqb-true (image_of bytes).size l.base.size (not-false _ t.0);
      new = not-false _ t.1.0;
      room = ltb-false l.spare (image_of bytes).records t.1.1.0;
    }

-- the verdicts of a load whose image is sound and has the ledger's n
module _ (l : Ledger) (bytes : List ℕ) (sound : read_verdict bytes ≡ carried) (same : (image_of bytes).size ≡ l.base.size) where
  sized : eqb (image_of bytes).size l.base.size ≡ true
  sized = eq-eqb (image_of bytes).size l.base.size same

  pub load_not_new : clear (seen l) ≡ false → load_checks l bytes ≡ refused 17 []
  load_not_new h = rw (sound, sized, h)

  pub load_no_spare : clear (seen l) ≡ true → l.spare < (image_of bytes).records → load_checks l bytes ≡ refused 14 []
  load_no_spare h less = let t : ltb l.spare (image_of bytes).records ≡ true = lt-ltb l.spare (image_of bytes).records less in rw (sound, sized, h, t)

pub load_passes : (l : Ledger) (bytes : List ℕ) → Loadable l bytes → load_checks l bytes ≡ carried
load_passes l bytes ok =
    let t : ltb l.spare (image_of bytes).records ≡ false = le-ltb l.spare (image_of bytes).records ok.room in
    rw (ok.sound, sized l bytes ok.sound ok.size, ok.new, t)

-- a join that no check turns down
pub join_passes : (p : Plan) (s v w : ℕ) → within p.size v ≡ true → within p.size w ≡ true → (v ≡ w → ⊥) → p.serves v ≡ true → p.serves w ≡ true → p.joins v w ≡ false → 1 ≤ s → join_verdict p s v w ≡ carried
join_passes p s v w a b ne c d apart some =
    let e : eqb v w ≡ false = ne_eqb v w ne in
    let f : eqb s 0 ≡ false = ne_eqb s 0 (λ z. omega arith) in
    rw (a, b, e, c, d, apart, f)

same_pair_cases : (v w a b : ℕ) → same_pair v w a b ≡ true → ((a ≡ v) × (b ≡ w)) ⊎ ((a ≡ w) × (b ≡ v))
same_pair_cases v w a b h = go (or_cases (eqb a v && eqb b w) (eqb a w && eqb b v) h)
  where
    go : ((eqb a v && eqb b w) ≡ true) ⊎ ((eqb a w && eqb b v) ≡ true) → ((a ≡ v) × (b ≡ w)) ⊎ ((a ≡ w) × (b ≡ v))
    go (inl e) = let p = and_parts (eqb a v) (eqb b w) e in inl (eqb-true a v p.0, eqb-true b w p.1)
    go (inr e) = let p = and_parts (eqb a w) (eqb b v) e in inr (eqb-true a w p.0, eqb-true b v p.1)

module _ (m : Image) (laws : SoundLaws m) where
  -- no record before i has the pair of i
  pub pair_is_new : (i : ℕ) → 1 ≤ i → i ≤ m.records → some (λ j. same_pair (m.near i) (m.far i) (m.near j) (m.far j)) (i - 1) ≡ false
  pair_is_new i a b = some-none (λ j. same_pair (m.near i) (m.far i) (m.near j) (m.far j)) (i - 1) (λ j c d. at j c d (cases_Bool (same_pair (m.near i) (m.far i) (m.near j) (m.far j))))
    where
      as_one : (j : ℕ) → 1 ≤ j → j ≤ i - 1 → ((m.near j ≡ m.near i) × (m.far j ≡ m.far i)) ⊎ ((m.near j ≡ m.far i) × (m.far j ≡ m.near i)) → ⊥
      as_one j c d (inl e) = omega (arith, laws.single j i c (omega arith) a b e.0 e.1)
      as_one j c d (inr e) = omega (arith, e.0, e.1, (laws.ends i a b).1, (laws.ends j c (omega arith)).1)

      at : (j : ℕ) → 1 ≤ j → j ≤ i - 1 → (same_pair (m.near i) (m.far i) (m.near j) (m.far j) ≡ true) ⊎ (same_pair (m.near i) (m.far i) (m.near j) (m.far j) ≡ false) → same_pair (m.near i) (m.far i) (m.near j) (m.far j) ≡ false
      at j c d (inl e) = absurd (as_one j c d (same_pair_cases (m.near i) (m.far i) (m.near j) (m.far j) e))
      at j c d (inr e) = e

module _ (l : Ledger) (m : Image) (new : clear (seen l) ≡ true) where
  pub records_serve : (k v : ℕ) → 1 ≤ v → v ≤ l.base.size → (seen (with_records l m k)).serves v ≡ true
  records_serve k v a b = ap₂ (λ (f g : ℕ → Bool). f v && not (g v)) (records_serves l m k) (records_shut l m k) ∙ clear-serves (seen l) new v a b

  -- no pipe is written in
  pub new_apart : (v w : ℕ) → 1 ≤ v → v ≤ l.base.size → 1 ≤ w → w ≤ l.base.size → l.base.joins v w ≡ false
  new_apart v w a b c d = go (and_cases (l.base.joins v w) ((seen l).serves v && (seen l).serves w) (clear_apart (seen l) new v w a b c d))
    where
      go : (l.base.joins v w ≡ false) ⊎ (((seen l).serves v && (seen l).serves w) ≡ false) → l.base.joins v w ≡ false
      go (inl e) = e
      go (inr e) = absurd (both_ways ((seen l).serves v && (seen l).serves w) e (and_from ((seen l).serves v) ((seen l).serves w) (clear-serves (seen l) new v a b) (clear-serves (seen l) new w c d)))

module _ (l : Ledger) (bytes : List ℕ) (ok : Loadable l bytes) where
  laws : SoundLaws (image_of bytes)
  laws = sound_laws bytes ok.sound

  -- the join of each record passes when those before it are joined
  pub record_passes : (i : ℕ) → 1 ≤ i → i ≤ (image_of bytes).records → join_verdict (seen (with_records l (image_of bytes) (i - 1))) (with_records l (image_of bytes) (i - 1)).spare ((image_of bytes).near i) ((image_of bytes).far i) ≡ carried
  record_passes i a b =
      let m : Image = image_of bytes in
      let e : (1 ≤ (image_of bytes).near i) × ((image_of bytes).near i < (image_of bytes).far i) × ((image_of bytes).far i ≤ (image_of bytes).size) = laws.ends i a b in
      let n : (with_records l (image_of bytes) (i - 1)).base.size ≡ l.base.size = records_size l (image_of bytes) (i - 1) in
      let s : (with_records l (image_of bytes) (i - 1)).spare ≡ l.spare - (i - 1) = records_spare l (image_of bytes) (i - 1) in
      let low : (image_of bytes).near i ≤ l.base.size = omega (arith, e.1, e.2, ok.size) in
      let some : 1 ≤ (image_of bytes).far i = omega (arith, e.0, e.1) in
      let high : (image_of bytes).far i ≤ l.base.size = omega (arith, e.2, ok.size) in
      let apart : (with_records l (image_of bytes) (i - 1)).base.joins ((image_of bytes).near i) ((image_of bytes).far i) ≡ false = records_joins l (image_of bytes) (i - 1) ((image_of bytes).near i) ((image_of bytes).far i) ∙ or_from _ _ (new_apart l (image_of bytes) ok.new ((image_of bytes).near i) ((image_of bytes).far i) e.0 low some high) (pair_is_new (image_of bytes) laws i a b) in
      join_passes (seen (with_records l (image_of bytes) (i - 1))) (with_records l (image_of bytes) (i - 1)).spare ((image_of bytes).near i) ((image_of bytes).far i)
      (within_from (with_records l (image_of bytes) (i - 1)).base.size ((image_of bytes).near i) e.0 (omega (arith, n, low)))
      (within_from (with_records l (image_of bytes) (i - 1)).base.size ((image_of bytes).far i) some (omega (arith, n, high)))
      (λ z. omega (arith, z, e.1))
      (records_serve l (image_of bytes) ok.new (i - 1) ((image_of bytes).near i) e.0 low)
      (records_serve l (image_of bytes) ok.new (i - 1) ((image_of bytes).far i) some high)
      (and_left _ _ apart)
      (omega (arith, s, ok.room))

  -- one turn of a load: the join of record i
  pub record_joined : (i v w : ℕ) (now next : Ledger) (a : Verdict) → 1 ≤ i → i ≤ (image_of bytes).records → now ≡ with_records l (image_of bytes) (i - 1) → v ≡ (image_of bytes).near i → w ≡ (image_of bytes).far i → a ≡ join_verdict (seen now) now.spare v w → next ≡ after a (with_joined now v w) now → next ≡ with_records l (image_of bytes) (i + 1 - 1)
  record_joined i v w now next a some most here left right says then_is =
      let passed : a ≡ carried = says ∙ (ap (λ (x : Ledger). join_verdict (seen x) x.spare v w) here ∙ (ap₂ (join_verdict (seen (with_records l (image_of bytes) (i - 1))) (with_records l (image_of bytes) (i - 1)).spare) left right ∙ record_passes i some most)) in
      let joined : next ≡ with_joined now v w = then_is ∙ ap (λ x. after x (with_joined now v w) now) passed in
      joined ∙ (ap (λ (x : Ledger). with_joined x v w) here ∙ (ap₂ (with_joined (with_records l (image_of bytes) (i - 1))) left right ∙ sym (records_next l (image_of bytes) i some)))

  -- every record is there
  pub record_there : (i : ℕ) → 1 ≤ i → i ≤ (image_of bytes).records → has_record bytes i ≡ false → ⊥
  record_there i some most none = both_ways (has_record bytes i) none (record_present bytes i ok.sound some most)

pub writes_pipes : (l : Ledger) (bytes : List ℕ) → WritesPipes l bytes
writes_pipes l bytes = record {
  pipes = records_joins l (image_of bytes) (image_of bytes).records;
  spare = records_spare l (image_of bytes) (image_of bytes).records;
  size = records_size l (image_of bytes) (image_of bytes).records;
  serves = records_serves l (image_of bytes) (image_of bytes).records;
  shut = records_shut l (image_of bytes) (image_of bytes).records;
}

-- once its checks are passed, the image is the ledger's plan
module _ (l : Ledger) (bytes : List ℕ) (base : Sound l.base) (ok : Loadable l bytes) where
  serves_all : (v : ℕ) → (seen (with_loaded l bytes)).serves v ≡ within (image_of bytes).size v
  serves_all v = go (cases_Bool (within (image_of bytes).size v))
    where
      out : within (image_of bytes).size v ≡ false → l.base.serves v ≡ true → ⊥
      out e s = let i : (1 ≤ v) × (v ≤ l.base.size) = base.inside v s in both_ways (within (image_of bytes).size v) e (within_from (image_of bytes).size v i.0 (omega (arith, i.1, ok.size)))

      none : within (image_of bytes).size v ≡ false → (l.base.serves v ≡ true) ⊎ (l.base.serves v ≡ false) → l.base.serves v ≡ false
      none e (inl s) = absurd (out e s)
      none e (inr s) = s

      go : (within (image_of bytes).size v ≡ true) ⊎ (within (image_of bytes).size v ≡ false) → (seen (with_loaded l bytes)).serves v ≡ within (image_of bytes).size v
      go (inl e) = let i : (1 ≤ v) × (v ≤ (image_of bytes).size) = within_parts (image_of bytes).size v e in records_serve l (image_of bytes) ok.new (image_of bytes).records v i.0 (omega (arith, i.1, ok.size)) ∙ sym e
      go (inr e) = and_left _ _ (ap (λ (f : ℕ → Bool). f v) (records_serves l (image_of bytes) (image_of bytes).records) ∙ none e (cases_Bool (l.base.serves v))) ∙ sym e

  -- no pipe was written in before
  none_before : (v w : ℕ) → l.base.joins v w ≡ false
  none_before v w = go (cases_Bool (l.base.joins v w))
    where
      go : (l.base.joins v w ≡ true) ⊎ (l.base.joins v w ≡ false) → l.base.joins v w ≡ false
      go (inl e) =
          let ends : (l.base.serves v ≡ true) × (l.base.serves w ≡ true) = base.ends v w e in
          let i : (1 ≤ v) × (v ≤ l.base.size) = base.inside v ends.0 in
          let j : (1 ≤ w) × (w ≤ l.base.size) = base.inside w ends.1 in
          new_apart l (image_of bytes) ok.new v w i.0 i.1 j.0 j.1
      go (inr e) = e

  joins_all : (v w : ℕ) → (seen (with_loaded l bytes)).joins v w ≡ pipe (image_of bytes) v w
  joins_all v w = ap₂ (λ (x y : Bool). x && y) joined (ap₂ (λ (x y : Bool). x && y) (serves_all v) (serves_all w)) ∙ go (cases_Bool (pipe (image_of bytes) v w))
    where
      joined : (with_loaded l bytes).base.joins v w ≡ pipe (image_of bytes) v w
      joined = records_joins l (image_of bytes) (image_of bytes).records v w ∙ ap (λ x. x || pipe (image_of bytes) v w) (none_before v w)

      go : (pipe (image_of bytes) v w ≡ true) ⊎ (pipe (image_of bytes) v w ≡ false) → (pipe (image_of bytes) v w && (within (image_of bytes).size v && within (image_of bytes).size w)) ≡ pipe (image_of bytes) v w
      go (inl e) = let ends : (within (image_of bytes).size v ≡ true) × (within (image_of bytes).size w ≡ true) = (laws l bytes ok).plan.ends v w e in rw (e, ends.0, ends.1)
      go (inr e) = and_left _ _ e ∙ sym e

  loaded : seen (with_loaded l bytes) ≡ plan_of (image_of bytes)
  loaded i = record {
    size = (records_size l (image_of bytes) (image_of bytes).records ∙ sym ok.size) i;
    serves = λ v. serves_all v i;
    joins = λ v w. joins_all v w i;
  }

pub load_laws : LoadLaws
load_laws = record {
  writes = writes_pipes;
  loaded = λ l bytes base h. loaded l bytes base (loadable l bytes h);
  spent = λ l bytes h. spent l bytes (loadable l bytes h);
}
  where
    spent : (l : Ledger) (bytes : List ℕ) → Loadable l bytes → (with_loaded l bytes).spare ≡ l.spare - pairs (pipe (image_of bytes)) l.base.size
    spent l bytes ok = records_spare l (image_of bytes) (image_of bytes).records ∙ ap (λ r. l.spare - r) ((laws l bytes ok).counted ∙ ap (pairs (pipe (image_of bytes))) ok.size)
