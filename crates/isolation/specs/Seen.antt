-- What the layer shows of the plan below it.
use Rattle.std.specs.Prelude.{◌≡◌, ℕ, ◌+◌, ◌-◌, Bool, true, false, cond, not, ◌&&◌, ◌||◌, ◌⊎◌, [], ◌∷◌, ◌==◌, refl}
use Rattle.std.proofs.Common.{sym, ap, ap₂, ◌∙◌, inl, inr, arith}
use Rattle.std.proofs.Math.Bool.{and_comm, and_assoc}
use Rattle.std.proofs.lemmas.Bool.{cases_Bool, and_parts}
use Rattle.std.proofs.lemmas.Bool.Decides.{nat_tests}
use Rattle.plan.specs.Plans.{Plan, Sound}
use Rattle.plan.specs.Refusals.{Verdict, carried, refused, after, checked}
use Rattle.plan.specs.Registers.{Joins, Cuts, join_verdict, cut_verdict, with_pipe, without_pipe, same_pair, outside, unserved}
use Rattle.plan.proofs.Verdicts.{Usable, join_passed}
use Rattle.isolation.specs.Layers.{through, isolates_pair}

module _ (p : Plan) (o : ℕ → Bool) where
  pub shut_hides_left : (v x : ℕ) → o v ≡ false → (through p o).joins v x ≡ false
  shut_hides_left v x h = grind (arith, nat_tests)

  pub shut_hides_right : (v x : ℕ) → o x ≡ false → (through p o).joins v x ≡ false
  shut_hides_right v x h = grind (arith, nat_tests)

  pub none_below : (v x : ℕ) → p.joins v x ≡ false → (through p o).joins v x ≡ false
  none_below v x h = grind (arith, nat_tests)

  -- a pipe through the layer: a pipe below, with both ends in service and open
  pub shown : (v x : ℕ) → (through p o).joins v x ≡ true → (p.joins v x ≡ true) × ((p.serves v && o v) ≡ true) × ((p.serves x && o x) ≡ true)
  shown v x h =
      let a = and_parts (p.joins v x) ((p.serves v && o v) && (p.serves x && o x)) h in
      let b = and_parts (p.serves v && o v) (p.serves x && o x) a.1 in
      (a.0, b.0, b.1)

  module _ (s : Sound p) where
    -- where both ends are open, the layer shows what is below
    pub open_ends_show : (v x : ℕ) → o v ≡ true → o x ≡ true → (through p o).joins v x ≡ p.joins v x
    open_ends_show v x a b = go (cases_Bool (p.joins v x))
      where
        go : (p.joins v x ≡ true) ⊎ (p.joins v x ≡ false) → (through p o).joins v x ≡ p.joins v x
        go (inl h) = let e = s.ends v x h in grind (arith, nat_tests)
        go (inr h) = none_below v x h ∙ sym h

    pub through_sound : Sound (through p o)
    through_sound = record {
      some = s.some;
      few = s.few;
      inside = λ v h. s.inside v (and_parts (p.serves v) (o v) h).0;
      ends = λ v w h. ((shown v w h).1, (shown v w h).2);
      apart = λ v. none_below v v (s.apart v);
      alike = λ v w. ap (λ b. b && ((p.serves v && o v) && (p.serves w && o w))) (s.alike v w) ∙ ap (λ b. p.joins w v && b) (and_comm (p.serves v && o v) (p.serves w && o w));
    }

-- the pair v, w is not isolated: where both are junctions and differ, both are open
not_isolated : (p : Plan) (o : ℕ → Bool) (v w : ℕ) → isolates_pair p o v w ≡ false → outside p v w ≡ false → (v == w) ≡ false → (o v ≡ true) × (o w ≡ true)
not_isolated p o v w h a d = and_parts (o v) (o w) (grind (arith, nat_tests))

-- two verdicts agree where a first check turns down, or where what comes after it agrees
skip : (b : Bool) (k : ℕ) (x y : Verdict) → (b ≡ false → x ≡ y) → cond b (refused k []) x ≡ cond b (refused k []) y
skip true k x y h = refl
skip false k x y h = h refl

module _ (p : Plan) (o : ℕ → Bool) (sound : Sound p) (v w : ℕ) (free : isolates_pair p o v w ≡ false) where
  unserved_same : outside p v w ≡ false → (v == w) ≡ false → unserved (through p o) v w ≡ unserved p v w
  unserved_same a d = let e = not_isolated p o v w free a d in grind (arith, nat_tests)

  joins_same : outside p v w ≡ false → (v == w) ≡ false → (through p o).joins v w ≡ p.joins v w
  joins_same a d = let e = not_isolated p o v w free a d in open_ends_show p o sound v w e.0 e.1

  -- the register below is asked just where the layer has nothing to say
  pub join_verdict_through : (s : ℕ) → join_verdict (through p o) s v w ≡ join_verdict p s v w
  join_verdict_through s =
      skip (outside p v w) 2 _ _ (λ a. skip (v == w) 3 _ _ (λ d.
      ap₂ (λ (x y : Bool). checked ((x, 11) ∷ (y, 12) ∷ ((s == 0), 14) ∷ [])) (unserved_same a d) (joins_same a d)))

  pub cut_verdict_through : cut_verdict (through p o) v w ≡ cut_verdict p v w
  cut_verdict_through =
      skip (outside p v w) 2 _ _ (λ a. skip (v == w) 3 _ _ (λ d.
      ap₂ (λ (x y : Bool). checked ((x, 11) ∷ (not y, 13) ∷ [])) (unserved_same a d) (joins_same a d)))

  -- the layer over the plan with one pipe more, or less, is the plan through the layer with it
  pair_serves : Usable p v w → (a b : ℕ) → same_pair v w a b ≡ true → ((p.serves a && o a) && (p.serves b && o b)) ≡ true
  pair_serves u a b e = let x = not_isolated p o v w free (grind (arith, nat_tests)) u.differ in grind (arith, nat_tests)

  through_with_pipe : Usable p v w → through (with_pipe p v w) o ≡ with_pipe (through p o) v w
  through_with_pipe u i = record { size = p.size; serves = λ a. p.serves a && o a; joins = λ a b. at a b (same_pair v w a b) refl i }
    where
      at : (a b : ℕ) (t : Bool) → same_pair v w a b ≡ t → ((same_pair v w a b || p.joins a b) && ((p.serves a && o a) && (p.serves b && o b))) ≡ (same_pair v w a b || (p.joins a b && ((p.serves a && o a) && (p.serves b && o b))))
      at a b true e = let h = pair_serves u a b e in rw (e, h)
      at a b false e = rw e

  through_without_pipe : through (without_pipe p v w) o ≡ without_pipe (through p o) v w
  through_without_pipe i = record { size = p.size; serves = λ a. p.serves a && o a; joins = λ a b. and_assoc (not (same_pair v w a b)) (p.joins a b) ((p.serves a && o a) && (p.serves b && o b)) i }

  pub joins_through : {s s' : ℕ} {ans : Verdict} {p' : Plan} → Joins p s v w ans p' s' → Joins (through p o) s v w ans (through p' o) s'
  joins_through {s} {s'} {ans} {p'} j =
      let same = join_verdict_through s in
      record {
        says = j.says ∙ sym same;
        plan = ap (λ q. through q o) j.plan ∙ go (join_verdict p s v w) refl ∙ ap (λ k. after k (with_pipe (through p o) v w) (through p o)) (sym same);
        spare = j.spare ∙ ap (λ k. after k (s - 1) s) (sym same);
      }
    where
      go : (k : Verdict) → join_verdict p s v w ≡ k → through (after k (with_pipe p v w) p) o ≡ after k (with_pipe (through p o) v w) (through p o)
      go carried e = through_with_pipe (join_passed p v w s e).0
      go (refused k vs) e = refl

  pub cuts_through : {s s' : ℕ} {ans : Verdict} {p' : Plan} → Cuts p s v w ans p' s' → Cuts (through p o) s v w ans (through p' o) s'
  cuts_through {s} {s'} {ans} {p'} j =
      let same = cut_verdict_through in
      record {
        says = j.says ∙ sym same;
        plan = ap (λ q. through q o) j.plan ∙ go (cut_verdict p v w) ∙ ap (λ k. after k (without_pipe (through p o) v w) (through p o)) (sym same);
        spare = j.spare ∙ ap (λ k. after k (s + 1) s) (sym same);
      }
    where
      go : (k : Verdict) → through (after k (without_pipe p v w) p) o ≡ after k (without_pipe (through p o) v w) (through p o)
      go carried = through_without_pipe
      go (refused k vs) = refl

-- a pair that the layer isolates is turned down by 11
module _ (p : Plan) (o : ℕ → Bool) (v w : ℕ) (shut : isolates_pair p o v w ≡ true) where
  pub isolated_join : (s : ℕ) → join_verdict (through p o) s v w ≡ refused 11 []
  isolated_join s = grind (arith, nat_tests)

  pub isolated_cut : cut_verdict (through p o) v w ≡ refused 11 []
  isolated_cut = grind (arith, nat_tests)
