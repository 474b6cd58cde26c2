-- What is written for a plan is a sound image of its junctions and pipes.
use Rattle.std.proofs.Common.{◌≡◌, ℕ, zero, suc, ◌+◌, ◌<◌, ◌≤◌, Bool, true, false, ◌&&◌, ◌||◌, eqb, ltb, ◌⊎◌, sym, ap, ◌∙◌, ap₂, inl, inr, arith}
use mathlib.Core.Path.{fun_ext}
use Rattle.std.proofs.lemmas.Bool.{cases_lt, cases_order, cases_Bool, both_ways, and_parts, and_from, or_cases, or_left, or_right, eq-eqb, eqb-true, lt-ltb, ltb-true}
use Rattle.plan.specs.Plans.{Plan, Sound, within, pairs}
use Rattle.plan.specs.Refusals.{carried}
use Rattle.plan.specs.Registers.{same_pair}
use Rattle.image.specs.Chains.{sound_from, sound_chain, reaches, in_chain, pipe, plan_of}
use Rattle.image.specs.Images.{image_of, image_length}
use Rattle.image.specs.Reading.{read_verdict}
use Rattle.image.specs.Writing.{upper, uppers, pipes_to, link, written, all_in_service, RoundTrip}
use Rattle.image.specs.Headers.{InRange, verdict_chains}
use Rattle.image.proofs.Layouts.{rank, Recorded, recorded, headed, sized, counted, uppers_some, find_record, written-size, written_records, written_edition, written_zero}
use Rattle.image.specs.RangesLemmas.{some_at, some_one}
use Rattle.image.specs.Sounds.{Chained, chained_verdict, pipe_alike}
use Rattle.image.proofs.Uppers.{count_one, count_mono, uppers_mono, uppers_least, pipes_to_step, pipes_to_le, pipes_pairs, link_some, link_none}
use Rattle.image.specs.Walks.{Member, member_follows, sound_end, sound_step, reaches_step}
use Rattle.image.proofs.Writes.{length_written}

module _ (p : Plan) (s : Sound p) where
  upper_parts : (v w : ℕ) → upper p v w ≡ true → (v < w) × (p.joins v w ≡ true)
  upper_parts v w h = let q = and_parts (ltb v w) (p.joins v w) h in (ltb-true v w q.0, q.1)

  rank_few : (v w : ℕ) → 1 ≤ v → v ≤ p.size → w ≤ p.size → rank p v w ≤ pipes_to p p.size
  rank_few v w a b c = omega (arith, pipes_to_step p v a, pipes_to_le p v p.size b, uppers_mono p v w p.size c)

  -- a record stands in the chain of its near end behind any lower far end
  stands : (v low w : ℕ) → 1 ≤ v → v ≤ p.size → low < w → upper p v w ≡ true → w ≤ p.size → Member (image_of (written p)) v low (rank p v w)
  stands v low w a b l h c =
      let r : Recorded p v w = recorded p v w a b h (omega arith) c in
      record {
        some = omega (arith, uppers_some p v w h (omega arith));
        few = omega (arith, counted p, rank_few v w a b c);
        near = r.near;
        above = omega (arith, r.far);
        below = omega (arith, r.far, sized p);
      }

  -- where more follow, the link is the index of the next
  linked : (v low : ℕ) → low ≤ p.size → uppers p v low < uppers p v p.size → (x : ℕ) × (low < x) × (x ≤ p.size) × (upper p v x ≡ true) × (uppers p v x ≡ uppers p v low + 1) × (link p v low ≡ rank p v x)
  linked v low l h =
      let r : (x : ℕ) × (low < x) × (x ≤ p.size) × (upper p v x ≡ true) × (uppers p v x ≡ uppers p v low + 1) = uppers_least p v low l h in
      (r.0, r.1, r.2, r.3, r.4, link_some p v low h ∙ omega (arith, r.4))

  sound_past : (v k low : ℕ) → uppers p v p.size ≤ uppers p v low → sound_from (image_of (written p)) v k low (link p v low) ≡ true
  sound_past v k low h = ap (sound_from (image_of (written p)) v k low) (link_none p v low h) ∙ sound_end (image_of (written p)) v k low

  -- the chain of v from low on is sound
  written_sound : (v k low : ℕ) → 1 ≤ v → v ≤ p.size → low ≤ p.size → p.size ≤ k + low → sound_from (image_of (written p)) v k low (link p v low) ≡ true
  written_sound v zero low a b l full = sound_past v 0 low (uppers_mono p v p.size low (omega arith))
  written_sound v (suc k) low a b l full = go (cases_lt (uppers p v low) (uppers p v p.size)) (λ w. written_sound v k w a b)
    where
      go : (uppers p v low < uppers p v p.size) ⊎ (uppers p v p.size ≤ uppers p v low) → ((w : ℕ) → w ≤ p.size → p.size ≤ k + w → sound_from (image_of (written p)) v k w (link p v w) ≡ true) → sound_from (image_of (written p)) v (suc k) low (link p v low) ≡ true
      go (inr h) rest = sound_past v (suc k) low h
      go (inl h) rest =
          let r : (x : ℕ) × (low < x) × (x ≤ p.size) × (upper p v x ≡ true) × (uppers p v x ≡ uppers p v low + 1) × (link p v low ≡ rank p v x) = linked v low l h in
          let q : Recorded p v r.0 = recorded p v r.0 a b r.3 (omega (arith, r.1)) r.2 in
          let m : Member (image_of (written p)) v low (rank p v r.0) = stands v low r.0 a b r.1 r.3 r.2 in
          ap (sound_from (image_of (written p)) v (suc k) low) r.5
          ∙ (sound_step (image_of (written p)) v k low (rank p v r.0) (λ z. omega (arith, m.some)) (member_follows (image_of (written p)) v low (rank p v r.0) m)
          ∙ (ap₂ (λ (i j : ℕ). sound_from (image_of (written p)) v k i j) q.far q.next ∙ rest r.0 r.2 (omega (arith, r.1))))

  -- a neighbour above low counts
  uppers_above : (v low w : ℕ) → low < w → upper p v w ≡ true → uppers p v low + 1 ≤ uppers p v w
  unfolding uppers
  uppers_above v low w l h = omega (arith, count_one (upper p v) w h, count_mono (upper p v) (suc low) w l)

  -- the chain of v from low on reaches the record of v and w
  written_reaches : (v w k low : ℕ) → 1 ≤ v → v ≤ p.size → upper p v w ≡ true → w ≤ p.size → low < w → p.size ≤ k + low → reaches (image_of (written p)) k (link p v low) (rank p v w) ≡ true
  written_reaches v w zero low a b h c l full = absurd (omega arith)
  written_reaches v w (suc k) low a b h c l full = go (written_reaches v w k)
    where
      r : (x : ℕ) × (low < x) × (x ≤ p.size) × (upper p v x ≡ true) × (uppers p v x ≡ uppers p v low + 1) × (link p v low ≡ rank p v x)
      r = linked v low (omega arith) (omega (arith, uppers_above v low w l h, uppers_mono p v w p.size c))

      q : Recorded p v r.0
      q = recorded p v r.0 a b r.3 (omega (arith, r.1)) r.2

      m : Member (image_of (written p)) v low (rank p v r.0)
      m = stands v low r.0 a b r.1 r.3 r.2

      step : reaches (image_of (written p)) (suc k) (link p v low) (rank p v w) ≡ (eqb (rank p v r.0) (rank p v w) || reaches (image_of (written p)) k (link p v r.0) (rank p v w))
      step =
          ap (λ i. reaches (image_of (written p)) (suc k) i (rank p v w)) r.5
          ∙ (reaches_step (image_of (written p)) v k (rank p v r.0) (rank p v w) (λ z. omega (arith, m.some))
          ∙ ap (λ i. eqb (rank p v r.0) (rank p v w) || reaches (image_of (written p)) k i (rank p v w)) q.next)

      go : ((x : ℕ) → 1 ≤ v → v ≤ p.size → upper p v w ≡ true → w ≤ p.size → x < w → p.size ≤ k + x → reaches (image_of (written p)) k (link p v x) (rank p v w) ≡ true) → reaches (image_of (written p)) (suc k) (link p v low) (rank p v w) ≡ true
      go rest = step ∙ at (cases_order r.0 w)
        where
          at : (r.0 ≡ w) ⊎ ((r.0 < w) ⊎ (w < r.0)) → (eqb (rank p v r.0) (rank p v w) || reaches (image_of (written p)) k (link p v r.0) (rank p v w)) ≡ true
          at (inl e) = or_left (eqb (rank p v r.0) (rank p v w)) (reaches (image_of (written p)) k (link p v r.0) (rank p v w)) (eq-eqb (rank p v r.0) (rank p v w) (ap (rank p v) e))
          at (inr (inl x)) = or_right (eqb (rank p v r.0) (rank p v w)) (reaches (image_of (written p)) k (link p v r.0) (rank p v w)) (rest r.0 a b h c x (omega (arith, r.1)))
          at (inr (inr x)) = absurd (omega (arith, r.4, uppers_above v low w l h, uppers_above v w r.0 x r.3))

  written_chained : Chained (image_of (written p))
  written_chained =
      record {
        sound = λ v a b. whole v a (omega (arith, sized p));
        all = λ i a b. found i (find_record p p.size i a (omega (arith, counted p)));
      }
    where
      whole : (v : ℕ) → 1 ≤ v → v ≤ p.size → sound_chain (image_of (written p)) v ≡ true
      whole v a b = ap₂ (λ (k i : ℕ). sound_from (image_of (written p)) v k v i) (sized p) (headed p v a b) ∙ written_sound v p.size v a b b (omega arith)

      found : (i : ℕ) → (v : ℕ) × (w : ℕ) × (1 ≤ v) × (v ≤ p.size) × (upper p v w ≡ true) × (w ≤ p.size) × (i ≡ rank p v w) → (v : ℕ) × (1 ≤ v) × (v ≤ (image_of (written p)).size) × (in_chain (image_of (written p)) v i ≡ true)
      found i r = (
        r.0,
        r.2,
        omega (arith, r.3, sized p),
        ap (in_chain (image_of (written p)) r.0) r.6
            ∙ (ap₂ (λ (k j : ℕ). reaches (image_of (written p)) k j (rank p r.0 r.1)) (sized p) (headed p r.0 r.2 r.3)
            ∙ written_reaches r.0 r.1 p.size r.0 r.2 r.3 r.4 r.5 (upper_parts r.0 r.1 r.4).0 (omega arith)),
      )

  pub written_carried : pairs p.joins p.size ≤ 8000 → read_verdict (written p) ≡ carried
  written_carried few =
      sym (verdict_chains (written p) (omega (arith, length_written p)) range (length_written p ∙ sym (ap₂ image_length (written-size p) (written_records p)))) ∙ chained_verdict (image_of (written p)) written_chained
    where
      range : InRange (written p)
      range = record {
        some = omega (arith, written-size p, s.some);
        few = omega (arith, written-size p, s.few);
        most = omega (arith, written_records p, pipes_pairs p);
        edition = written_edition p;
        zero = written_zero p;
      }

  -- ---- the same pipes

  joined_pipe : (v w : ℕ) → v < w → p.joins v w ≡ true → pipe (image_of (written p)) v w ≡ true
  joined_pipe v w l h =
      let e = s.ends v w h in
      let i = s.inside v e.0 in
      let j = s.inside w e.1 in
      let u : upper p v w ≡ true = and_from (ltb v w) (p.joins v w) (lt-ltb v w l) h in
      let r : Recorded p v w = recorded p v w i.0 i.1 u j.0 j.1 in
      some_at (λ k. same_pair v w ((image_of (written p)).near k) ((image_of (written p)).far k)) (image_of (written p)).records (rank p v w) (omega (arith, uppers_some p v w u j.0)) (omega (arith, counted p, rank_few v w i.0 i.1 j.1))
      (or_left (eqb ((image_of (written p)).near (rank p v w)) v && eqb ((image_of (written p)).far (rank p v w)) w) (eqb ((image_of (written p)).near (rank p v w)) w && eqb ((image_of (written p)).far (rank p v w)) v)
      (and_from (eqb ((image_of (written p)).near (rank p v w)) v) (eqb ((image_of (written p)).far (rank p v w)) w) (eq-eqb ((image_of (written p)).near (rank p v w)) v r.near) (eq-eqb ((image_of (written p)).far (rank p v w)) w r.far)))

  joined_either : (v w : ℕ) → p.joins v w ≡ true → pipe (image_of (written p)) v w ≡ true
  joined_either v w h = go (cases_order v w)
    where
      go : (v ≡ w) ⊎ ((v < w) ⊎ (w < v)) → pipe (image_of (written p)) v w ≡ true
      go (inl e) = absurd (both_ways (p.joins w w) (s.apart w) (ap (λ x. p.joins x w) (sym e) ∙ h))
      go (inr (inl l)) = joined_pipe v w l h
      go (inr (inr l)) = pipe_alike (image_of (written p)) v w ∙ joined_pipe w v l (s.alike w v ∙ h)

  pipe_joined : (v w : ℕ) → pipe (image_of (written p)) v w ≡ true → p.joins v w ≡ true
  pipe_joined v w h =
      let r : (i : ℕ) × (1 ≤ i) × (i ≤ (image_of (written p)).records) × (same_pair v w ((image_of (written p)).near i) ((image_of (written p)).far i) ≡ true) = some_one (λ k. same_pair v w ((image_of (written p)).near k) ((image_of (written p)).far k)) (image_of (written p)).records h in
      let f : (a : ℕ) × (b : ℕ) × (1 ≤ a) × (a ≤ p.size) × (upper p a b ≡ true) × (b ≤ p.size) × (r.0 ≡ rank p a b) = find_record p p.size r.0 r.1 (omega (arith, r.2, counted p)) in
      let u = upper_parts f.0 f.1 f.4 in
      let q : Recorded p f.0 f.1 = recorded p f.0 f.1 f.2 f.3 f.4 (omega (arith, u.0)) f.5 in
      let n : (image_of (written p)).near r.0 ≡ f.0 = ap (image_of (written p)).near f.6 ∙ q.near in
      let m : (image_of (written p)).far r.0 ≡ f.1 = ap (image_of (written p)).far f.6 ∙ q.far in
      ends f.0 f.1 u.1 (ap₂ (same_pair v w) (sym n) (sym m) ∙ r.3)
    where
      ends : (a b : ℕ) → p.joins a b ≡ true → same_pair v w a b ≡ true → p.joins v w ≡ true
      ends a b j e = go (or_cases (eqb a v && eqb b w) (eqb a w && eqb b v) e)
        where
          go : ((eqb a v && eqb b w) ≡ true) ⊎ ((eqb a w && eqb b v) ≡ true) → p.joins v w ≡ true
          go (inl x) = let y = and_parts (eqb a v) (eqb b w) x in ap₂ p.joins (sym (eqb-true a v y.0)) (sym (eqb-true b w y.1)) ∙ j
          go (inr x) = let y = and_parts (eqb a w) (eqb b v) x in s.alike v w ∙ (ap₂ p.joins (sym (eqb-true a w y.0)) (sym (eqb-true b v y.1)) ∙ j)

  pipes_same : (v w : ℕ) → pipe (image_of (written p)) v w ≡ p.joins v w
  pipes_same v w = go (cases_Bool (pipe (image_of (written p)) v w)) (cases_Bool (p.joins v w))
    where
      go : (pipe (image_of (written p)) v w ≡ true) ⊎ (pipe (image_of (written p)) v w ≡ false) → (p.joins v w ≡ true) ⊎ (p.joins v w ≡ false) → pipe (image_of (written p)) v w ≡ p.joins v w
      go (inl a) b = a ∙ sym (pipe_joined v w a)
      go (inr a) (inl b) = absurd (both_ways (pipe (image_of (written p)) v w) a (joined_either v w b))
      go (inr a) (inr b) = a ∙ sym b

  pub written_same : plan_of (image_of (written p)) ≡ all_in_service p
  written_same =
      let joins_same : pipe (image_of (written p)) ≡ p.joins = fun_ext (λ v. fun_ext (λ w. pipes_same v w)) in
      let make : ℕ → (ℕ → ℕ → Bool) → Plan = λ n j. record { size = n; serves = within n; joins = j } in
      ap₂ make (sized p) joins_same

pub round_trip : (p : Plan) → Sound p → pairs p.joins p.size ≤ 8000 → RoundTrip p
round_trip p s few = record { sound = written_carried p s few; same = written_same p s }
