use Rattle.std.proofs.Common.{◌≡◌, ℕ, ◌+◌, ◌≤◌, ◌⊎◌, sym, ◌∙◌, ap, inl, inr, arith}
use Rattle.std.proofs.lemmas.Bool.{cases_eq}
use Rattle.std.specs.Option.{unwrap_or}
use Rattle.plan.specs.Plans.{Plan, Sound}
use Rattle.plan.proofs.Walks.{goes_along, meets_next}
use Rattle.ring.proofs.Missing.{NoneAt, visit_more, visit_all, none_without_near, none_without_far, none_across, none_missed, no_ring_from_none}
use Rattle.ring.proofs.find.find_ring.Goals as goal
use Rattle.ring.proofs.find.find_ring.Goals.{else-search-test, then-search-test+in-Some+in-Some-c+else-joined+in-Some-meeting}

pub loop-c-preserved-then-joined : goal.loop-c-preserved-then-joined
loop-c-preserved-then-joined g c =
    let p : Plan = g.P.ReadablePlan.meaning c.args.plan.now in
    let sound : Sound p = g.met.P.ReadablePlan.sound c.args.plan.now in
    let v : ℕ = c.search.i + 1 in
    let i = c.loop-c.invariant in
    let s = c.in-Some-c.ensures.steps in (
      goes_along g.P.ReadablePlan.meaning i.0 s,
      i.1,
      i.2,
      visit_more p v (none_without_far p sound v _) i.3 (meets_next g.P.ReadablePlan.meaning i.0 s) s.0.stands (none_across _ sound _ _ _ (sym c.if-joined.ensures)),
    )

pub loop-c-preserved : goal.loop-c-preserved
loop-c-preserved g c =
    let p : Plan = g.P.ReadablePlan.meaning c.args.plan.now in
    let sound : Sound p = g.met.P.ReadablePlan.sound c.args.plan.now in
    let v : ℕ = c.search.i + 1 in
    let i = c.loop-c.invariant in
    let s = c.in-Some-c.ensures.steps in (
      goes_along g.P.ReadablePlan.meaning i.0 s,
      i.1,
      i.2,
      visit_more p v (none_without_far p sound v _) i.3 (meets_next g.P.ReadablePlan.meaning i.0 s) s.0.stands (none_missed _ sound _ _ _ _ _ _ c.reach-size.ensures.queue c.reach-size.ensures.spread c.in_default.ensures),
    )

pub loop-a-preserved : goal.loop-a-preserved
loop-a-preserved g c =
    let p : Plan = g.P.ReadablePlan.meaning c.args.plan.now in
    let sound : Sound p = g.met.P.ReadablePlan.sound c.args.plan.now in
    let v : ℕ = c.search.i + 1 in
    let i = c.loop-a.invariant in
    let j = c.loop-c.invariant in
    let s = c.in-Some.ensures.steps in (
      goes_along g.P.ReadablePlan.meaning i.0 s,
      j.1,
      j.2 ∙ i.2,
      (λ k d l. c.reach-size.ensures.behind k d l ∙ i.3 k d l),
      visit_more p v (λ x f y. none_without_near p sound v x y f) i.4 (meets_next g.P.ReadablePlan.meaning i.0 s) s.0.stands
          (visit_all p v (none_without_far p sound v _) j.3 (meets_next g.P.ReadablePlan.meaning j.0 c.in-None-c.ensures.steps)),
    )

pub search-preserved : goal.search-preserved
search-preserved g c = (
  c.loop-a.invariant.1,
  c.loop-a.invariant.2 ∙ c.search.invariant.1,
  (λ i d l. c.loop-a.invariant.3 i d l ∙ c.search.invariant.2 i d l),
  λ v a c' pos l. at v a c' pos l (cases_eq v (c.search.i + 1)),
)
  where
    all : (a c' : ℕ) → NoneAt (g.P.ReadablePlan.meaning c.args.plan.now) (c.search.i + 1) a c'
    all = visit_all (g.P.ReadablePlan.meaning c.args.plan.now) (c.search.i + 1) (λ x f y. none_without_near _ (g.met.P.ReadablePlan.sound c.args.plan.now) _ x y f) c.loop-a.invariant.4 (meets_next g.P.ReadablePlan.meaning c.loop-a.invariant.0 c.in-None.ensures.steps)

    at : (v a c' : ℕ) → 1 ≤ v → v ≤ c.search.i + 1 → (v ≡ c.search.i + 1) ⊎ (v ≡ c.search.i + 1 → ⊥) → NoneAt (g.P.ReadablePlan.meaning c.args.plan.now) v a c'
    at v a c' pos l (inl e) = λ k r d e₀. all a c' k r d (e₀ ∙ e)
    at v a c' pos l (inr ne) = c.search.invariant.3 v a c' pos (omega arith)

pub returns-clause-left : goal.returns-clause-left
returns-clause-left g c =
    elim c.search-test.branch [
      | else-search-test w ↦ (
        record {
          none = λ e. (no_ring_from_none _ (g.met.P.ReadablePlan.sound c.args.plan.now) (λ v a c' pos l. c.search.invariant.3 v a c' pos (omega (arith, l, w.search-test.false, c.size-n.ensures.value))), w.ring-is ∙ c.search.invariant.1);
          some = λ ne. absurd (ne (c.unwrap_or.ensures ∙ ap (λ o. unwrap_or o 0) (w.found-is ∙ c.search.invariant.0)));
        },
        rw w.scratch-is c.search.invariant.2,
      )
      | then-search-test+in-Some+in-Some-c+else-joined+in-Some-meeting w ↦
          let e : c.unwrap_or.result ≡ w.list.result = c.unwrap_or.ensures ∙ ap (λ o. unwrap_or o 0) w.found-is in
          let r = w.loop-c.invariant.2 ∙ w.loop-a.invariant.2 ∙ c.search.invariant.1 in (
            record {
              none = λ z. absurd (omega (arith, e, z, w.list.ensures.long));
              some = λ ne. rw (e, w.ring-is) (rw r at w.list.ensures);
            },
            rw w.scratch-is (λ k d l. w.reach-size.ensures.behind k d l ∙ w.loop-a.invariant.3 k d l ∙ c.search.invariant.2 k d l),
          )
    ]
