-- A join and a cut on a register: what turns them down, and where they are carried out the plan after and what the register keeps.
use Rattle.std.proofs.Common.{◌≡◌, ℕ, ◌+◌, ◌-◌, ◌*◌, ◌<◌, ◌≤◌, Bool, true, false, not, ◌&&◌, ◌||◌, eqb, List, [], ◌∷◌, length, get_or, vec_items, Some, Option, refl, ap, ◌∙◌, arith}
use Rattle.std.specs.Vec.{with_items}
use Rattle.std.proofs.lemmas.Bool.{eq-eqb, ne_eqb}
use Rattle.std.specs.Option.{option_eq}
use Rattle.plan.specs.Plans.{within, NextNeighbour}
use Rattle.plan.specs.declared.number.Junction.{Junction}
use Rattle.plan.specs.Refusals.{carried, refused, checked}
use Rattle.plan.specs.Registers.{same_pair, join_verdict, cut_verdict, Joins, Cuts}
use Rattle.plan.proofs.Memory.{items_refilled}
use Rattle.plan.proofs.PipeLaws.{within_parts, plan_same, joins_carried, cuts_carried}
use Rattle.plan.proofs.Verdicts.{join_refused, cut_refused, ends_verdict, ends_passed}
use Rattle.chained.specs.declared.register.ChainedRegister.{ChainedRegister}
use Rattle.chained.specs.Changes.{unlinked, with_pair, pair_behind, without_pair}
use Rattle.chained.specs.Nodes.{joined, kept}
use Rattle.chained.specs.Making.{plan_of}
use Rattle.chained.specs.Reading.{SeatIn, NeighbourFrom, number_of}
use Rattle.chained.proofs.Cutting as cutting
use Rattle.chained.proofs.Joining as joining
use Rattle.chained.proofs.States.{Kept, kept_in}
use Rattle.chained.specs.Walks.{joined_since, unjoined_since, from_next}
use Rattle.chained.proofs.Found.{same_number, is_found, not_found}

-- every check passed
join_checks : (a b d j z : Bool) → a ≡ true → b ≡ true → d ≡ false → j ≡ false → z ≡ false → checked ((not (a && b), 2) ∷ (d, 3) ∷ (not (a && b), 11) ∷ (j, 12) ∷ (z, 14) ∷ []) ≡ carried
join_checks a b d j z p q r s t = rw (p, q, r, s, t) refl

cut_checks : (a b d j : Bool) → a ≡ true → b ≡ true → d ≡ false → j ≡ true → checked ((not (a && b), 2) ∷ (d, 3) ∷ (not (a && b), 11) ∷ (not j, 13) ∷ []) ≡ carried
cut_checks a b d j p q r s = rw (p, q, r, s) refl

spare_checks : (a b d j z : Bool) → a ≡ true → b ≡ true → d ≡ false → j ≡ false → z ≡ true → checked ((not (a && b), 2) ∷ (d, 3) ∷ (not (a && b), 11) ∷ (j, 12) ∷ (z, 14) ∷ []) ≡ refused 14 []
spare_checks a b d j z p q r s t = rw (p, q, r, s, t) refl

unjoined_checks : (a b d j : Bool) → a ≡ true → b ≡ true → d ≡ false → j ≡ false → checked ((not (a && b), 2) ∷ (d, 3) ∷ (not (a && b), 11) ∷ (not j, 13) ∷ []) ≡ refused 13 []
unjoined_checks a b d j p q r s = rw (p, q, r, s) refl

joined_checks : (a b d j z : Bool) → a ≡ true → b ≡ true → d ≡ false → j ≡ true → checked ((not (a && b), 2) ∷ (d, 3) ∷ (not (a && b), 11) ∷ (j, 12) ∷ (z, 14) ∷ []) ≡ refused 12 []
joined_checks a b d j z p q r s = rw (p, q, r, s) refl

-- a call turned down for what a walk did or did not find
module _ (r : ChainedRegister) (v w : ℕ) (passed : carried ≡ ends_verdict r.n v w) (f : Option Junction) (met : NextNeighbour (plan_of r) v (w - 1) f) where
  v-in : within r.n v ≡ true
  v-in = (ends_passed r.n v w passed).0

  w-in : within r.n w ≡ true
  w-in = (ends_passed r.n v w passed).1

  ne : v ≡ w → ⊥
  ne = (ends_passed r.n v w passed).2

  some : 1 ≤ w
  some = (within_parts r.n w w-in).0

  found : NeighbourFrom (plan_of r) v w (number_of f)
  found = from_next r v w f some met

  joint : option_eq same_number f (Some (record { 0 = w })) ≡ true → joined r.n r.c (vec_items r.cells) v w ≡ true
  joint h = joined_since r v w (number_of f) some found (is_found w some f h)

  pub join_joined : option_eq same_number f (Some (record { 0 = w })) ≡ true → Joins (plan_of r) r.spare v w (refused 12 []) (plan_of r) r.spare
  join_joined h =
      join_refused (plan_of r) v w r.spare 12 []
      (joined_checks (within r.n v) (within r.n w) (eqb v w) (joined r.n r.c (vec_items r.cells) v w) (eqb r.spare 0) v-in w-in (ne_eqb v w ne) (joint h))

  module _ (apart : option_eq same_number f (Some (record { 0 = w })) ≡ false) where
    unjoined : joined r.n r.c (vec_items r.cells) v w ≡ false
    unjoined = unjoined_since r v w (number_of f) some found (not_found w some f apart)

    pub join_unspared : r.spare ≡ 0 → Joins (plan_of r) r.spare v w (refused 14 []) (plan_of r) r.spare
    join_unspared z =
        join_refused (plan_of r) v w r.spare 14 []
        (spare_checks (within r.n v) (within r.n w) (eqb v w) (joined r.n r.c (vec_items r.cells) v w) (eqb r.spare 0) v-in w-in (ne_eqb v w ne) unjoined (eq-eqb r.spare 0 z))

    pub cut_unjoined : Cuts (plan_of r) r.spare v w (refused 13 []) (plan_of r) r.spare
    cut_unjoined =
        cut_refused (plan_of r) v w r.spare 13 []
        (unjoined_checks (within r.n v) (within r.n w) (eqb v w) (joined r.n r.c (vec_items r.cells) v w) v-in w-in (ne_eqb v w ne) unjoined)

module _ (r : ChainedRegister) (v w : ℕ) (passed : carried ≡ ends_verdict r.n v w) (f : Option Junction) (met : NextNeighbour (plan_of r) v (w - 1) f) (s t : ℕ) (v-seat : SeatIn r v w s) (w-seat : SeatIn r w v t) where
  room : r.n + 4 * r.c ≤ length (vec_items r.cells)
  room = omega (arith, r.room, r.cells.ok.0)

  module _ (apart : option_eq same_number f (Some (record { 0 = w })) ≡ false) (spared : r.spare ≡ 0 → ⊥) (lent last : List ℕ) (Lent-is : lent ≡ vec_items r.cells) (long : length last ≡ length lent) (last-is : last ≡ with_pair r.c lent r.free v s w t) where
    join_items : vec_items (with_items r.cells last) ≡ with_pair r.c (vec_items r.cells) r.free v s w t
    join_items = items_refilled r.cells lent last Lent-is long ∙ (last-is ∙ ap (λ ws. with_pair r.c ws r.free v s w t) Lent-is)

    pub join_kept : (head : ℕ) → head ≡ get_or lent r.free 0 → Kept r.n r.c (r.spare - 1) head (vec_items (with_items r.cells last))
    join_kept head head_is =
        let e : head ≡ get_or (vec_items r.cells) r.free 0 = head_is ∙ ap (λ ws. get_or ws r.free 0) Lent-is in
        rw (join_items, e) (joining.kept_after r.n r.c r.spare r.free (vec_items r.cells) (kept_in r) room r.some v w s t (v-in r v w passed f met) (w-in r v w passed f met) (ne r v w passed f met) (unjoined r v w passed f met apart) (omega arith) v-seat w-seat)

    join_passes : join_verdict (plan_of r) r.spare v w ≡ carried
    join_passes =
        join_checks (within r.n v) (within r.n w) (eqb v w) (joined r.n r.c (vec_items r.cells) v w) (eqb r.spare 0) (v-in r v w passed f met) (w-in r v w passed f met) (ne_eqb v w (ne r v w passed f met)) (unjoined r v w passed f met apart) (ne_eqb r.spare 0 spared)

    pub join_done : Joins (plan_of r) r.spare v w carried (kept r.n r.c (vec_items (with_items r.cells last))) (r.spare - 1)
    join_done =
        joins_carried (plan_of r) (kept r.n r.c (vec_items (with_items r.cells last))) r.spare v w join_passes
        (plan_same r.n (joined r.n r.c (vec_items (with_items r.cells last))) (λ a b. same_pair v w a b || joined r.n r.c (vec_items r.cells) a b)
        (λ a b. ap (λ ws. joined r.n r.c ws a b) join_items ∙ joining.joined_after r.n r.c r.spare r.free (vec_items r.cells) (kept_in r) room r.some v w s t (v-in r v w passed f met) (w-in r v w passed f met) (ne r v w passed f met) (unjoined r v w passed f met apart) (omega arith) v-seat w-seat a b))

  module _ (same : option_eq same_number f (Some (record { 0 = w })) ≡ true) (lent : List ℕ) (Lent-is : lent ≡ vec_items r.cells) where
    pub cut_seats : (s < length lent) × (t < length lent)
    cut_seats = rw Lent-is (cutting.seats_fit r.n r.c r.spare r.free (vec_items r.cells) (kept_in r) room v w s t (v-in r v w passed f met) (w-in r v w passed f met) (ne r v w passed f met) (joint r v w passed f met same) v-seat w-seat)

    pub cut_nodes : (get_or lent s 0 < length lent) × (get_or (unlinked lent s) t 0 < length lent)
    cut_nodes = rw Lent-is (cutting.nodes_fit r.n r.c r.spare r.free (vec_items r.cells) (kept_in r) room v w s t (v-in r v w passed f met) (w-in r v w passed f met) (ne r v w passed f met) (joint r v w passed f met same) v-seat w-seat)

    pub cut_pair : pair_behind lent s t + 3 * r.c < length lent
    cut_pair = rw Lent-is (cutting.pair_fits r.n r.c r.spare r.free (vec_items r.cells) (kept_in r) room v w s t (v-in r v w passed f met) (w-in r v w passed f met) (ne r v w passed f met) (joint r v w passed f met same) v-seat w-seat)

    module _ (last : List ℕ) (long : length last ≡ length lent) (last-is : last ≡ without_pair r.c lent s t r.free (r.spare + 1)) where
      cut_items : vec_items (with_items r.cells last) ≡ without_pair r.c (vec_items r.cells) s t r.free (r.spare + 1)
      cut_items = items_refilled r.cells lent last Lent-is long ∙ (last-is ∙ ap (λ ws. without_pair r.c ws s t r.free (r.spare + 1)) Lent-is)

      pub cut_kept : (head : ℕ) → head ≡ pair_behind lent s t → Kept r.n r.c (r.spare + 1) head (vec_items (with_items r.cells last))
      cut_kept head head_is =
          let e : head ≡ pair_behind (vec_items r.cells) s t = head_is ∙ ap (λ ws. pair_behind ws s t) Lent-is in
          rw (cut_items, e) (cutting.kept_after r.n r.c r.spare r.free (vec_items r.cells) (kept_in r) room v w s t (v-in r v w passed f met) (w-in r v w passed f met) (ne r v w passed f met) (joint r v w passed f met same) v-seat w-seat)

      cut_passes : cut_verdict (plan_of r) v w ≡ carried
      cut_passes =
          cut_checks (within r.n v) (within r.n w) (eqb v w) (joined r.n r.c (vec_items r.cells) v w) (v-in r v w passed f met) (w-in r v w passed f met) (ne_eqb v w (ne r v w passed f met)) (joint r v w passed f met same)

      pub cut_done : Cuts (plan_of r) r.spare v w carried (kept r.n r.c (vec_items (with_items r.cells last))) (r.spare + 1)
      cut_done =
          cuts_carried (plan_of r) (kept r.n r.c (vec_items (with_items r.cells last))) r.spare v w cut_passes
          (plan_same r.n (joined r.n r.c (vec_items (with_items r.cells last))) (λ a b. not (same_pair v w a b) && joined r.n r.c (vec_items r.cells) a b)
          (λ a b. ap (λ ws. joined r.n r.c ws a b) cut_items ∙ cutting.joined_after r.n r.c r.spare r.free (vec_items r.cells) (kept_in r) room v w s t (v-in r v w passed f met) (w-in r v w passed f met) (ne r v w passed f met) (joint r v w passed f met same) v-seat w-seat a b))
