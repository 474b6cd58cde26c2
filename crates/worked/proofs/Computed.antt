-- The worked plans, by computation.
use Rattle.std.proofs.Common.{◌≡◌, ℕ, true, false, eqb, List, [], ◌∷◌, get_or, sym, refl, ap, ◌∙◌, arith}
use Rattle.std.proofs.lemmas.Bool.{ne_eqb, true≢false}
use Rattle.std.proofs.lemmas.Bool.Decides.{nat_tests}
use Rattle.plan.specs.Plans.{Plan, Sound}
use Rattle.plan.specs.Refusals.{refused}
use Rattle.plan.specs.Registers.{join_verdict, outside, unserved}
use Rattle.label.specs.Counted.{counting_lawful}
use Rattle.label.specs.LexLaws.{lexicographic_lawful}
use Rattle.label.specs.Counts.{no_count, counted, compared_counts}
use Rattle.label.specs.Sets.{no_marks, with_mark, compared_sets}
use Rattle.search.specs.Worked.{Lexicographically, ByCounts, ring_of_four}
use Rattle.search.proofs.Computed.{worked_orders_lem}
use Rattle.search.proofs.Unique.{at_most_one}
use Rattle.elimination.specs.Elimination.{new, eliminated, fill, cells}
use Rattle.image.specs.Chains.{sound_from, reaches}
use Rattle.image.specs.Images.{image_of}
use Rattle.image.specs.Reading.{header_sound, chains_verdict, read_verdict}
use Rattle.image.specs.Writing.{uppers, pipes_to, link, heads, chain_to, records_to, written}
use Rattle.worked.specs.Worked.{NotSearched, WorkedPlans}

-- a pipe has two different junctions in service as its ends, so the first check that turns down a join on it is that it is there
module _ (p : Plan) (s : Sound p) (v w : ℕ) (h : p.joins v w ≡ true) where
  joined_inside : outside p v w ≡ false
  joined_inside =
      let i = s.inside v (s.ends v w h).0 in
      let j = s.inside w (s.ends v w h).1 in
      grind (arith, nat_tests)

  joined_differ : eqb v w ≡ false
  joined_differ = ne_eqb v w (λ e. true≢false (sym h ∙ (ap (p.joins v) (sym e) ∙ s.apart v)))

  joined_served : unserved p v w ≡ false
  joined_served = let e = s.ends v w h in grind (arith, nat_tests)

  joined_already : join_verdict p 0 v w ≡ refused 12 []
  joined_already = rw joined_inside (rw joined_differ (rw joined_served (rw h refl)))

pub worked_plans_lem : WorkedPlans
unfolding new eliminated fill cells uppers pipes_to link heads chain_to records_to written image_of sound_from reaches header_sound chains_verdict read_verdict
worked_plans_lem =
    record {
      one_lexicographic = record { order = worked_orders_lem.one_lexicographic; filled = refl; celled = refl };
      one_counting = record { order = worked_orders_lem.one_counting; filled = refl; celled = refl };
      four_lexicographic = record { order = worked_orders_lem.four_lexicographic; filled = refl; celled = refl };
      four_counting = record { order = worked_orders_lem.four_counting; filled = refl; celled = refl };
      five_lexicographic = record { order = worked_orders_lem.five_lexicographic; filled = refl; celled = refl };
      path_handed_in = record { order = refl; filled = refl; celled = refl };
      path_refused = λ words. refl;
      joined_already = joined_already;
      image_written = refl;
      image_read = refl;
      image_long = refl;
      image_heads = refl;
      byte_more = λ b. refl;
      lost_long = refl;
      lost_fifth = (refl, refl);
      lost_refused = refl;
    }

lexicographic_only : (us : List ℕ) → Lexicographically ring_of_four us → us ≡ 3 ∷ 4 ∷ 2 ∷ 1 ∷ []
lexicographic_only us s = at_most_one no_marks with_mark compared_sets lexicographic_lawful.turns ring_of_four us (3 ∷ 4 ∷ 2 ∷ 1 ∷ []) s worked_orders_lem.four_lexicographic

counting_only : (us : List ℕ) → ByCounts ring_of_four us → us ≡ 4 ∷ 3 ∷ 2 ∷ 1 ∷ []
counting_only us s = at_most_one no_count counted compared_counts counting_lawful.turns ring_of_four us (4 ∷ 3 ∷ 2 ∷ 1 ∷ []) s worked_orders_lem.four_counting

-- lists with different first entries differ
heads_differ : (a b : ℕ) (us ws : List ℕ) → (a ≡ b → ⊥) → a ∷ us ≡ b ∷ ws → ⊥
heads_differ a b us ws h e = h (ap (λ (xs : List ℕ). get_or xs 0 0) e)

pub not_searched : NotSearched
not_searched = record {
  by_number = ((λ s. heads_differ 1 3 _ _ (λ e. omega (arith, e)) (lexicographic_only _ s)), λ s. heads_differ 1 4 _ _ (λ e. omega (arith, e)) (counting_only _ s));
  by_number_but_one = ((λ s. heads_differ 2 3 _ _ (λ e. omega (arith, e)) (lexicographic_only _ s)), λ s. heads_differ 2 4 _ _ (λ e. omega (arith, e)) (counting_only _ s));
}
