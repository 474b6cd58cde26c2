-- A join and a cut that are carried out: the checks passed, the plan after and the count of its pipes.
use Rattle.std.proofs.Common.{◌≡◌, ℕ, ◌+◌, ◌-◌, ◌*◌, ◌≤◌, Bool, true, false, not, ◌&&◌, ◌||◌, eqb, List, length, MatchBool, vec_items, Vec, refl, ap, ◌∙◌, arith}
use Rattle.std.specs.declared.alloc.Global.{Global}
use Rattle.std.specs.Vec.{with_items}
use Rattle.std.proofs.lemmas.Bool.{ne_eqb}
use Rattle.plan.specs.Plans.{within, pairs}
use Rattle.plan.specs.Refusals.{carried}
use Rattle.plan.proofs.Verdicts.{ends_verdict, ends_passed}
use Rattle.plan.specs.Registers.{same_pair, join_verdict, cut_verdict, Joins, Cuts}
use Rattle.plan.proofs.Counts.{pairs-le}
use Rattle.bitset.specs.Bits.{holds}
use Rattle.bits.specs.declared.register.BitRegister.{BitRegister}
use Rattle.bits.specs.Making.{plan_of}
use Rattle.bits.specs.Rows.{joined, kept}
use Rattle.bits.proofs.Marks.{joined_changed}
use Rattle.pairs.specs.Rows.{number, has_row, marked, Marks, Unmarks}
use Rattle.pairs.proofs.Marking.{has_row_from}
use Rattle.plan.proofs.Memory.{items_refilled}
use Rattle.plan.proofs.PipeLaws.{plan_same, within_parts, joins_carried, cuts_carried, added_alike, added_apart, taken_alike, taken_apart, pairs_added, pairs_taken}

-- the words of a register after they were lent and the marks of a pair were changed
module _ (words : Vec ℕ Global) (lent last : List ℕ) (n v w : ℕ) (Lent-is : lent ≡ vec_items words) (long : length last ≡ length lent) (few : n ≤ 512) (v-in : within n v ≡ true) (w-in : within n w ≡ true) where
  lent_changed : (change : Bool → Bool → Bool) → change false false ≡ false → ((a b : ℕ) → marked last a b ≡ change (same_pair v w a b) (marked lent a b)) → (a b : ℕ) → joined n (vec_items (with_items words last)) a b ≡ change (same_pair v w a b) (joined n (vec_items words) a b)
  lent_changed change none changed a b =
      ap (λ ws. joined n ws a b) (items_refilled words lent last Lent-is long)
      ∙ (joined_changed n few change none lent last v w v-in w-in changed a b ∙ ap (λ ws. change (same_pair v w a b) (joined n ws a b)) Lent-is)

module _ (n spare : ℕ) (ws : List ℕ) (v w : ℕ) (counted : 2 * (spare + pairs (joined n ws) n) + n ≡ n * n) (alike : (a b : ℕ) → joined n ws a b ≡ joined n ws b a) (v-in : within n v ≡ true) (w-in : within n w ≡ true) (ne : v ≡ w → ⊥) where
  one_more : (g : ℕ → ℕ → Bool) → joined n ws v w ≡ false → ((a b : ℕ) → g a b ≡ (same_pair v w a b || joined n ws a b)) → pairs g n ≡ pairs (joined n ws) n + 1
  one_more g e added =
      let p : (1 ≤ v) × (v ≤ n) = within_parts n v v-in in
      let q : (1 ≤ w) × (w ≤ n) = within_parts n w w-in in
      pairs_added (joined n ws) g n v w p.0 p.1 q.0 q.1 ne (alike v w) e added

  -- while a pair is not joined there is a pipe to spare
  pub spare_left : joined n ws v w ≡ false → 1 ≤ spare
  spare_left e =
      let more : pairs (λ a b. same_pair v w a b || joined n ws a b) n ≡ pairs (joined n ws) n + 1 = one_more (λ a b. same_pair v w a b || joined n ws a b) e (λ a b. refl) in
      let most : 2 * pairs (λ a b. same_pair v w a b || joined n ws a b) n + n ≤ n * n = pairs-le (λ a b. same_pair v w a b || joined n ws a b) n in
      omega arith

  counted_added : (ws' : List ℕ) → joined n ws v w ≡ false → ((a b : ℕ) → joined n ws' a b ≡ (same_pair v w a b || joined n ws a b)) → 2 * ((spare - 1) + pairs (joined n ws') n) + n ≡ n * n
  counted_added ws' e added =
      let some : 1 ≤ spare = spare_left e in
      let more : pairs (joined n ws') n ≡ pairs (joined n ws) n + 1 = one_more (joined n ws') e added in
      omega arith

  counted_taken : (ws' : List ℕ) → joined n ws v w ≡ true → ((a b : ℕ) → joined n ws' a b ≡ (not (same_pair v w a b) && joined n ws a b)) → 2 * ((spare + 1) + pairs (joined n ws') n) + n ≡ n * n
  counted_taken ws' e taken =
      let p : (1 ≤ v) × (v ≤ n) = within_parts n v v-in in
      let q : (1 ≤ w) × (w ≤ n) = within_parts n w w-in in
      let less : pairs (joined n ws) n ≡ pairs (joined n ws') n + 1 = pairs_taken (joined n ws) (joined n ws') n v w p.0 p.1 q.0 q.1 ne (alike v w) e taken in
      omega arith

  join_passes : joined n ws v w ≡ false → join_verdict (kept n ws) spare v w ≡ carried
  join_passes e =
      let some : 1 ≤ spare = spare_left e in
      let d : eqb v w ≡ false = ne_eqb v w ne in
      let z : eqb spare 0 ≡ false = ne_eqb spare 0 (λ h. omega arith) in
      let h : holds ws (number v w) ≡ false = rw (v-in, w-in) at e in
      rw (v-in, w-in, d, z, h) refl

  cut_passes : joined n ws v w ≡ true → cut_verdict (kept n ws) v w ≡ carried
  cut_passes e =
      let d : eqb v w ≡ false = ne_eqb v w ne in
      let h : holds ws (number v w) ≡ true = rw (v-in, w-in) at e in
      rw (v-in, w-in, d, h) refl

  join_made : (ws' : List ℕ) → joined n ws v w ≡ false → ((a b : ℕ) → joined n ws' a b ≡ (same_pair v w a b || joined n ws a b)) → Joins (kept n ws) spare v w carried (kept n ws') (spare - 1)
  join_made ws' e added =
      joins_carried (kept n ws) (kept n ws') spare v w (join_passes e) (plan_same n (joined n ws') (λ a b. same_pair v w a b || joined n ws a b) added)

  cut_made : (ws' : List ℕ) → joined n ws v w ≡ true → ((a b : ℕ) → joined n ws' a b ≡ (not (same_pair v w a b) && joined n ws a b)) → Cuts (kept n ws) spare v w carried (kept n ws') (spare + 1)
  cut_made ws' e taken =
      cuts_carried (kept n ws) (kept n ws') spare v w (cut_passes e) (plan_same n (joined n ws') (λ a b. not (same_pair v w a b) && joined n ws a b) taken)

-- ---- a register, with its words lent for a change

-- what a register says of its rows
pub record Tallied (n spare : ℕ) (ws : List ℕ) : Type 0 where
  pub alike : (a b : ℕ) → joined n ws a b ≡ joined n ws b a
  pub apart : (a : ℕ) → joined n ws a a ≡ false
  pub counted : 2 * (spare + pairs (joined n ws) n) + n ≡ n * n

module _ (r : BitRegister) (v w : ℕ) (passed : carried ≡ ends_verdict r.n v w) where
  ends : (within r.n v ≡ true) × (within r.n w ≡ true) × (v ≡ w → ⊥)
  ends = ends_passed r.n v w passed

  pub join_has_spare : joined r.n (vec_items r.words) v w ≡ false → 1 ≤ r.spare
  join_has_spare e = spare_left r.n r.spare (vec_items r.words) v w r.counted r.alike ends.0 ends.1 ends.2 e

  module _ (lent last : List ℕ) (Lent-is : lent ≡ vec_items r.words) (long : length last ≡ length lent) where
    -- the words have the rows of both
    rows : (has_row lent v ≡ true) × (has_row lent w ≡ true)
    rows =
        let p : (1 ≤ v) × (v ≤ r.n) = within_parts r.n v ends.0 in
        let q : (1 ≤ w) × (w ≤ r.n) = within_parts r.n w ends.1 in
        let room : 8 * r.n ≤ length lent = omega (arith, r.room, ap length Lent-is, r.words.ok.0) in (
          has_row_from lent v p.0 (omega (arith, p.1, r.few)) (omega (arith, p.1)),
          has_row_from lent w q.0 (omega (arith, q.1, r.few)) (omega (arith, q.1)),
        )

    module _ (unjoined : joined r.n (vec_items r.words) v w ≡ false) (marked : MatchBool (has_row lent v && has_row lent w) (Marks lent v w last) (last ≡ lent)) where
      change_added : (a b : ℕ) → joined r.n (vec_items (with_items r.words last)) a b ≡ (same_pair v w a b || joined r.n (vec_items r.words) a b)
      change_added =
          let marks : Marks lent v w last = rw (rows.0, rows.1) at marked in
          lent_changed r.words lent last r.n v w Lent-is long r.few ends.0 ends.1 (λ s t. s || t) refl marks.pairs

      pub join_tallied : Tallied r.n (r.spare - 1) (vec_items (with_items r.words last))
      join_tallied =
          record {
            alike = added_alike (joined r.n (vec_items r.words)) (joined r.n (vec_items (with_items r.words last))) v w ends.2 r.alike r.apart change_added;
            apart = added_apart (joined r.n (vec_items r.words)) (joined r.n (vec_items (with_items r.words last))) v w ends.2 r.alike r.apart change_added;
            counted = counted_added r.n r.spare (vec_items r.words) v w r.counted r.alike ends.0 ends.1 ends.2 (vec_items (with_items r.words last)) unjoined change_added;
          }

      pub join_done : Joins (plan_of r) r.spare v w carried (kept r.n (vec_items (with_items r.words last))) (r.spare - 1)
      join_done = join_made r.n r.spare (vec_items r.words) v w r.counted r.alike ends.0 ends.1 ends.2 (vec_items (with_items r.words last)) unjoined change_added

    module _ (joint : joined r.n (vec_items r.words) v w ≡ true) (unmarked : MatchBool (has_row lent v && has_row lent w) (Unmarks lent v w last) (last ≡ lent)) where
      change_taken : (a b : ℕ) → joined r.n (vec_items (with_items r.words last)) a b ≡ (not (same_pair v w a b) && joined r.n (vec_items r.words) a b)
      change_taken =
          let unmarks : Unmarks lent v w last = rw (rows.0, rows.1) at unmarked in
          lent_changed r.words lent last r.n v w Lent-is long r.few ends.0 ends.1 (λ s t. not s && t) refl unmarks.pairs

      pub cut_tallied : Tallied r.n (r.spare + 1) (vec_items (with_items r.words last))
      cut_tallied =
          record {
            alike = taken_alike (joined r.n (vec_items r.words)) (joined r.n (vec_items (with_items r.words last))) v w ends.2 r.alike r.apart change_taken;
            apart = taken_apart (joined r.n (vec_items r.words)) (joined r.n (vec_items (with_items r.words last))) v w ends.2 r.alike r.apart change_taken;
            counted = counted_taken r.n r.spare (vec_items r.words) v w r.counted r.alike ends.0 ends.1 ends.2 (vec_items (with_items r.words last)) joint change_taken;
          }

      pub cut_done : Cuts (plan_of r) r.spare v w carried (kept r.n (vec_items (with_items r.words last))) (r.spare + 1)
      cut_done = cut_made r.n r.spare (vec_items r.words) v w r.counted r.alike ends.0 ends.1 ends.2 (vec_items (with_items r.words last)) joint change_taken
