-- What an order found by the search tells of its plan.
use Rattle.std.proofs.Common.{◌≡◌, ℕ, suc, ◌-◌, ◌*◌, ◌<◌, ◌≤◌, true, false, ltb, ◌↔◌, List, [], ◌∷◌, length, get_or, take, Ordering, sym, refl, ap, ◌∙◌, ap₂, arith}
use Rattle.std.proofs.lemmas.List.{take-map}
use Rattle.std.proofs.lemmas.Bool.{le-ltb, or_from, not_from_true}
use Rattle.plan.specs.declared.number.Junction.{Junction}
use Rattle.plan.specs.Orders.{numbers, ordered, place}
use Rattle.plan.specs.Plans.{Plan, Sound, pairs}
use Rattle.plan.proofs.Orders.{IsOrder, order_of, place_at, place_pos, place_reads}
use Rattle.search.specs.Rule.{Searched}
use Rattle.search.specs.Theorems.{LateNeighbours}
use Rattle.elimination.specs.Elimination.{fill}
use Rattle.elimination.specs.Rows.{fill_verdict}
use Rattle.elimination.proofs.Laws.{no_fill_law_lem}
use Rattle.ring.specs.Calls.{Found}
use Rattle.ring.specs.Rings.{NoRing}
use Rattle.plan.specs.Refusals.{carried, checked}
use Rattle.order.specs.Reports.{FreeOfFill, Least, RingShown, short}
use Rattle.order.proofs.Bridges.{Witness}
use Rattle.order.proofs.Chordal.{place_bounded, no_ring_if_perfect, perfect_if_no_ring}

module _ {L : Type 0} (blank : L) (raised : L → ℕ → L) (compared : L → L → Ordering) (late : LateNeighbours blank raised compared) (p : Plan) (sound : Sound p) (us : List ℕ) (s : Searched blank raised compared p us) where
  is_order : IsOrder p.size us
  is_order = order_of p.size us s.order

  -- what the search gives, by places instead of indices
  witness : Witness p.joins (place us)
  witness a b c ab bc ac bn =
      let o = is_order in
      let cn : place us c ≤ p.size = place_bounded p sound us o c a (sound.alike _ _ ∙ ac) in
      let pa = place_pos us a in
      let ra : get_or us (place us a - 1) 0 ≡ a = place_reads us a (omega (arith, o.long)) in
      let rb : get_or us (place us b - 1) 0 ≡ b = place_reads us b (omega (arith, o.long)) in
      let rc : get_or us (place us c - 1) 0 ≡ c = place_reads us c (omega (arith, o.long)) in
      let d = late p us sound s (place us a - 1) (place us b - 1) (place us c - 1) (omega arith) (omega arith) (omega arith) (ap₂ p.joins ra rc ∙ ac) (ap₂ p.joins rb rc ∙ bn) in
      let at : place us (get_or us d.place 0) ≡ suc d.place = place_at p.size us o d.place d.inside in
      (get_or us d.place 0, omega (arith, at, d.above), sym (ap (λ x. p.joins x (get_or us d.place 0)) rb) ∙ d.joined, sym (ap (λ x. p.joins x (get_or us d.place 0)) ra) ∙ d.apart)

  free_from_no_ring : NoRing p → FreeOfFill p us
  free_from_no_ring none = (no_fill_law_lem p sound us).0.1 (perfect_if_no_ring p sound us is_order witness none)

  pub least : Least p us
  least = record {
    order = (λ h. (us, s.order, h), λ w. free_from_no_ring (from w.0 w.1 w.2));
    ring = (from us s.order, free_from_no_ring);
  }
    where
      from : (ws : List ℕ) → ordered p.size ws ≡ true → FreeOfFill p ws → NoRing p
      from ws o h = no_ring_if_perfect p sound ws (order_of p.size ws o) ((no_fill_law_lem p sound ws).0.0 h)

  pub free_count : (k : ℕ) → k ≡ pairs (fill p.joins us) p.size → (k ≡ 0) ↔ FreeOfFill p us
  free_count k e = (
    (λ z. (no_fill_law_lem p sound us).0.1 ((no_fill_law_lem p sound us).1.0 (sym e ∙ z))),
    (λ h. e ∙ (no_fill_law_lem p sound us).1.1 ((no_fill_law_lem p sound us).0.0 h)),
  )

  -- the ring beside the order
  pub shown_none : (fills : ℕ) (before : List Junction) → fills ≡ pairs (fill p.joins us) p.size → fills ≡ 0 → RingShown p fills before before 0
  shown_none fills before e z = record {
    none = λ y. (refl, least.ring.0 ((free_count fills e).0 z), refl);
    some = λ l. absurd (omega arith);
  }

  pub shown_some : (fills k : ℕ) (before after : List Junction) → fills ≡ pairs (fill p.joins us) p.size → 0 < fills → Found p before k after → RingShown p fills before after k
  shown_some fills k before after e l h = record {
    none = λ z. absurd (omega arith);
    some = λ y. h.some (λ z. let f : fills ≡ 0 = (free_count fills e).1 (free_from_no_ring (h.none z).0) in omega arith);
  }

-- the part of the places that is handed on, as numbers
pub part_numbers : (js : List Junction) (n m : ℕ) → n ≡ m → numbers (take (n - 0) js) ≡ take m (numbers js)
part_numbers js n m e =
    let f : n - 0 ≡ m = omega arith in
    ap (λ k. numbers (take k js)) f ∙ sym (take-map (λ (j : Junction). j.0) m js)

pub fill_carried : (n : ℕ) (us : List ℕ) (words : ℕ) → ordered n us ≡ true → 8 * n ≤ words → fill_verdict n us words ≡ carried
fill_carried n us words o l =
    let t : ltb words (8 * n) ≡ false = le-ltb words (8 * n) l in
    ap₂ (λ a b. checked ((a, 9) ∷ (b, 8) ∷ [])) (not_from_true _ o) t

-- memory is long enough
pub long_enough : {L : Type 0} (n : ℕ) (places ring : List Junction) (rows : List ℕ) (labels : List L) (scratch : List ℕ) → n ≤ length places → n ≤ length ring → 8 * n ≤ length rows → n ≤ length labels → 2 * n ≤ length scratch → short n places ring rows labels scratch ≡ false
long_enough n places ring rows labels scratch a b c d e =
    or_from _ _ (or_from _ _ (or_from _ _ (or_from _ _ (le-ltb _ n a) (le-ltb _ n b)) (le-ltb _ (8 * n) c)) (le-ltb _ n d)) (le-ltb _ (2 * n) e)
