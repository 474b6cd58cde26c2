-- The laws of runs.
use Rattle.std.proofs.Common.{◌≡◌, ℕ, zero, suc, ◌+◌, ◌≤◌, Bool, true, false, cond, not, ◌&&◌, ◌||◌, eqb, List, [], ◌∷◌, ◌++◌, take, Some, None, Option, Ordering, sym, refl, ap, ◌∙◌, subst, arith, Ok, Err, Result}
use Rattle.std.specs.Ordering.{ordering_reverse}
use Rattle.std.proofs.lemmas.Bool.{eqb-false}
use Rattle.plan.specs.Orders.{numbers}
use Rattle.plan.specs.Plans.{Plan, pairs}
use Rattle.plan.specs.declared.number.Junction.{Junction}
use Rattle.plan.specs.Refusals.{Verdict, carried, refused, after}
use Rattle.plan.specs.Registers.{same_pair}
use Rattle.plan.proofs.Verdicts.{join_passed, carried≢refused}
use Rattle.image.specs.Chains.{pipe}
use Rattle.image.specs.Images.{image_of}
use Rattle.search.proofs.Unique.{at_most_one}
use Rattle.elimination.specs.Elimination.{fill, cells}
use Rattle.order.specs.Reports as report
use Rattle.order.specs.declared.report.Report.{Report}
use Rattle.set.specs.Ledgers.{Ledger, seen}
use Rattle.set.proofs.Loads.{writes_pipes, loadable}
use Rattle.calls.specs.Deeds.{Deed, loads, joins, cuts, shuts, opens, orders, verdict, written, next, fed}
use Rattle.calls.specs.Heard.{Heard, Lists, said}
use Rattle.calls.specs.Laws.{tells_pipe, tells_shut, or_else, later, last_told, lays, lifts, total, SameOrder, RunLaws}
use Rattle.calls.specs.Runs.{Run, last_lists, ChangeHeard, OrderHeard, Left}
use Rattle.calls.specs.declared.answer.Outcome.{Outcome}
use Rattle.plan.specs.declared.refusal.Refusal.{Refusal}
use Rattle.calls.specs.declared.answer.Outcome.TheVariants.{Done, Ordered}
use Rattle.calls.proofs.Runs.{fed-size}

or_else-later : {A : Type 0} (x t : Option A) (b : A) → or_else x (or_else t b) ≡ or_else (later x t) b
or_else-later (Some a) t b = refl
or_else-later None t b = refl

after-serves : (v : Verdict) (a b : Ledger) → a.base.serves ≡ b.base.serves → (after v a b).base.serves ≡ b.base.serves
after-serves carried a b e = e
after-serves (refused k vs) a b e = refl

-- an order shows a ring exactly when it has fill
ring_shown : (p : Plan) (before now : List Junction) (f k : ℕ) → report.RingShown p f before now k → (k ≡ 0 → f ≡ 0) × (f ≡ 0 → k ≡ 0)
ring_shown p before now f k s = (zeros f s, λ e. (s.none e).0)
  where
    zeros : (f : ℕ) → report.RingShown p f before now k → k ≡ 0 → f ≡ 0
    zeros zero s e = refl
    zeros (suc f) s e = let h : 4 ≤ k = (s.some (omega arith)).long in absurd (omega (arith, h, e))

module _ {K : Type 0} where
  -- what a call that is carried out writes of a pair, of a junction and of the spare
  written_pipe : (l : Ledger) (d : Deed K) (v w : ℕ) → (written l d).base.joins v w ≡ or_else (tells_pipe v w d) (l.base.joins v w)
  written_pipe l (loads bytes) v w = (writes_pipes l bytes).pipes v w ∙ by (pipe (image_of bytes) v w) (l.base.joins v w)
    where
      by : (p b : Bool) → (b || p) ≡ or_else (cond p (Some true) None) b
      by true true = refl
      by true false = refl
      by false true = refl
      by false false = refl
  written_pipe l (joins a c) v w = by (same_pair a c v w) (l.base.joins v w)
    where
      by : (p b : Bool) → (p || b) ≡ or_else (cond p (Some true) None) b
      by true b = refl
      by false b = refl
  written_pipe l (cuts a c) v w = by (same_pair a c v w) (l.base.joins v w)
    where
      by : (p b : Bool) → (not p && b) ≡ or_else (cond p (Some false) None) b
      by true b = refl
      by false b = refl
  written_pipe l (shuts a) v w = refl
  written_pipe l (opens a) v w = refl
  written_pipe l (orders short k) v w = refl

  written_shut : (l : Ledger) (d : Deed K) (v : ℕ) → (written l d).shut v ≡ or_else (tells_shut v d) (l.shut v)
  written_shut l (loads bytes) v = ap (λ (f : ℕ → Bool). f v) (writes_pipes l bytes).shut
  written_shut l (joins a c) v = refl
  written_shut l (cuts a c) v = refl
  written_shut l (shuts a) v = by (eqb v a) true (l.shut v)
    where
      by : (p c b : Bool) → cond p c b ≡ or_else (cond p (Some c) None) b
      by true c b = refl
      by false c b = refl
  written_shut l (opens a) v = by (eqb v a) false (l.shut v)
    where
      by : (p c b : Bool) → cond p c b ≡ or_else (cond p (Some c) None) b
      by true c b = refl
      by false c b = refl
  written_shut l (orders short k) v = refl

  written_spare : (l : Ledger) (d : Deed K) → verdict l d ≡ carried → (written l d).spare + lays d ≡ l.spare + lifts d
  written_spare l (loads bytes) e =
      let r : (image_of bytes).records ≤ l.spare = (loadable l bytes e).room in
      omega (arith, r, (writes_pipes l bytes).spare)
  written_spare l (joins a c) e =
      let s : (l.spare ≡ 0 → ⊥) = eqb-false l.spare 0 (join_passed (seen l) a c l.spare e).2 in
      omega (arith, s)
  written_spare l (cuts a c) e = omega arith
  written_spare l (shuts a) e = refl
  written_spare l (opens a) e = refl
  written_spare l (orders short k) e = refl

  -- a quantity of the ledger that calls tell of
  module _ {A : Type 0} (of : Ledger → A) (tells : Deed K → Option A) (writes : (l : Ledger) (d : Deed K) → of (written l d) ≡ or_else (tells d) (of l)) where
    told_step : (v : Verdict) (l : Ledger) (d : Deed K) → of (after v (written l d) l) ≡ or_else (after v (tells d) None) (of l)
    told_step carried l d = writes l d
    told_step (refused k vs) l d = refl

    pub told : {L : Type 0} (blank : K → L) (raised : K → L → ℕ → L) (compared : K → L → L → Ordering) (l : Ledger) (before : Lists) (ds : List (Deed K)) (hs : List Heard) → Run blank raised compared l before ds hs → of (fed l ds) ≡ or_else (last_told tells ds hs) (of l)
    told blank raised compared l before [] [] r = refl
    told blank raised compared l before [] (h ∷ hs) r = absurd r
    told blank raised compared l before (d ∷ ds) [] r = absurd r
    told blank raised compared l before (d ∷ ds) (h ∷ hs) r =
        told blank raised compared (next l d) h.lists ds hs r.1
        ∙ ap (or_else (last_told tells ds hs)) (told_step (verdict l d) l d ∙ ap (λ (v : Verdict). or_else (after v (tells d) None) (of l)) (sym r.0.answers))
        ∙ or_else-later (last_told tells ds hs) (after (said h.answer) (tells d) None) (of l)

  spare_step : (l : Ledger) (d : Deed K) (v : Verdict) → verdict l d ≡ v → (after v (written l d) l).spare + after v (lays d) 0 ≡ l.spare + after v (lifts d) 0
  spare_step l d carried e = written_spare l d e
  spare_step l d (refused k vs) e = refl

  pub spare_told : {L : Type 0} (blank : K → L) (raised : K → L → ℕ → L) (compared : K → L → L → Ordering) (l : Ledger) (before : Lists) (ds : List (Deed K)) (hs : List Heard) → Run blank raised compared l before ds hs → (fed l ds).spare + total lays ds hs ≡ l.spare + total lifts ds hs
  spare_told blank raised compared l before [] [] r = refl
  spare_told blank raised compared l before [] (h ∷ hs) r = absurd r
  spare_told blank raised compared l before (d ∷ ds) [] r = absurd r
  spare_told blank raised compared l before (d ∷ ds) (h ∷ hs) r = by
      (fed (next l d) ds).spare (next l d).spare l.spare (after (said h.answer) (lays d) 0) (after (said h.answer) (lifts d) 0) (total lays ds hs) (total lifts ds hs)
      (spare_told blank raised compared (next l d) h.lists ds hs r.1)
      (subst (λ (v : Verdict). (next l d).spare + after v (lays d) 0 ≡ l.spare + after v (lifts d) 0) (sym r.0.answers) (spare_step l d (verdict l d) refl))
    where
      by : (a b c x y t u : ℕ) → a + t ≡ b + u → b + x ≡ c + y → a + (x + t) ≡ c + (y + u)
      by a b c x y t u e f = omega (arith, e, f)

  written_serves : (l : Ledger) (d : Deed K) → (written l d).base.serves ≡ l.base.serves
  written_serves l (loads bytes) = (writes_pipes l bytes).serves
  written_serves l (joins a c) = refl
  written_serves l (cuts a c) = refl
  written_serves l (shuts a) = refl
  written_serves l (opens a) = refl
  written_serves l (orders short k) = refl

  pub fed_serves : (l : Ledger) (ds : List (Deed K)) → (fed l ds).base.serves ≡ l.base.serves
  fed_serves l [] = refl
  fed_serves l (d ∷ ds) = fed_serves (next l d) ds ∙ after-serves (verdict l d) (written l d) l (written_serves l d)

-- two answers to a change with one verdict
changes_alike : (before before' : Lists) (a a' : Result Outcome Refusal) (now now' : Lists) → said a ≡ said a' → ChangeHeard before a now → ChangeHeard before' a' now' → SameOrder a now a' now'
changes_alike before before' (Ok (Ordered n r)) a' now now' e c c' = absurd c
changes_alike before before' (Ok Done) (Ok (Ordered n r)) now now' e c c' = absurd c'
changes_alike before before' (Ok Done) (Ok Done) now now' e c c' = tt
changes_alike before before' (Ok Done) (Err x) now now' e c c' = carried≢refused _ _ (sym e)
changes_alike before before' (Err x) (Ok (Ordered n r)) now now' e c c' = absurd c'
changes_alike before before' (Err x) (Ok Done) now now' e c c' = carried≢refused _ _ e
changes_alike before before' (Err x) (Err y) now now' e c c' = tt

module _ {K L : Type 0} (blank : K → L) (raised : K → L → ℕ → L) (compared : K → L → L → Ordering) (turns : (k : K) (a b : L) → compared k b a ≡ ordering_reverse (compared k a b)) (l : Ledger) where
  -- two orders of one plan by one kind
  orders_alike : (k : K) (before before' now now' : Lists) (n n' : ℕ) (r r' : Report) → OrderHeard blank raised compared l before k (Ok (Ordered n r)) now → OrderHeard blank raised compared l before' k (Ok (Ordered n' r')) now' → SameOrder (Ok (Ordered n r)) now (Ok (Ordered n' r')) now'
  orders_alike k before before' now now' n n' r r' o o' =
      let same = at_most_one (blank k) (raised k) (compared k) (turns k) (seen l) (take l.base.size (numbers now.places)) (take l.base.size (numbers now'.places)) o.1.searched o'.1.searched in
      let fills : r.fill ≡ r'.fill = o.1.count ∙ ap (λ (us : List ℕ). pairs (fill (seen l).joins us) l.base.size) same ∙ sym o'.1.count in
      let ring = ring_shown (seen l) before.ring now.ring r.fill r.ring o.1.shown in
      let ring' = ring_shown (seen l) before'.ring now'.ring r'.fill r'.ring o'.1.shown in (
        o.0 ∙ sym o'.0,
        fills,
        o.1.cells_are ∙ ap (cells (seen l)) same ∙ sym o'.1.cells_are,
        ap (λ (m : ℕ). take m (numbers now.places)) o.0 ∙ same ∙ ap (λ (m : ℕ). take m (numbers now'.places)) (sym o.0),
        ((λ e. ring'.1 (sym fills ∙ ring.0 e)), λ e. ring.1 (fills ∙ ring'.0 e)),
      )

  order_answers_alike : (k : K) (before before' : Lists) (a a' : Result Outcome Refusal) (now now' : Lists) → said a ≡ said a' → OrderHeard blank raised compared l before k a now → OrderHeard blank raised compared l before' k a' now' → SameOrder a now a' now'
  order_answers_alike k before before' (Ok Done) a' now now' e c c' = absurd c
  order_answers_alike k before before' (Err x) (Ok Done) now now' e c c' = absurd c'
  order_answers_alike k before before' (Err x) (Err y) now now' e c c' = tt
  order_answers_alike k before before' (Err x) (Ok (Ordered n r)) now now' e c c' = carried≢refused _ _ e
  order_answers_alike k before before' (Ok (Ordered n r)) (Ok Done) now now' e c c' = absurd c'
  order_answers_alike k before before' (Ok (Ordered n r)) (Err y) now now' e c c' = carried≢refused _ _ (sym e)
  order_answers_alike k before before' (Ok (Ordered n r)) (Ok (Ordered n' r')) now now' e c c' = orders_alike k before before' now now' n n' r r' c c'

  pub answers_alike : (d : Deed K) (before before' : Lists) (a a' : Result Outcome Refusal) (now now' : Lists) → said a ≡ said a' → Left blank raised compared l before d a now → Left blank raised compared l before' d a' now' → SameOrder a now a' now'
  answers_alike (loads bytes) before before' a a' now now' e c c' = changes_alike before before' a a' now now' e c c'
  answers_alike (joins v w) before before' a a' now now' e c c' = changes_alike before before' a a' now now' e c c'
  answers_alike (cuts v w) before before' a a' now now' e c c' = changes_alike before before' a a' now now' e c c'
  answers_alike (shuts v) before before' a a' now now' e c c' = changes_alike before before' a a' now now' e c c'
  answers_alike (opens v) before before' a a' now now' e c c' = changes_alike before before' a a' now now' e c c'
  answers_alike (orders short k) before before' a a' now now' e c c' = order_answers_alike k before before' a a' now now' e c c'

module _ {K L : Type 0} (blank : K → L) (raised : K → L → ℕ → L) (compared : K → L → L → Ordering) (turns : (k : K) (a b : L) → compared k b a ≡ ordering_reverse (compared k a b)) where
  run_both : (l : Ledger) (before : Lists) (ds es : List (Deed K)) (hs gs : List Heard) → Run blank raised compared l before ds hs → Run blank raised compared (fed l ds) (last_lists before hs) es gs → Run blank raised compared l before (ds ++ es) (hs ++ gs)
  run_both l before [] es [] gs a b = b
  run_both l before [] es (h ∷ hs) gs a b = absurd a
  run_both l before (d ∷ ds) es [] gs a b = absurd a
  run_both l before (d ∷ ds) es (h ∷ hs) gs a b = (a.0, run_both (next l d) h.lists ds es hs gs a.1 b)

  pub run_laws_lem : RunLaws blank raised compared
  run_laws_lem = record {
    pipes = λ l before ds hs r v w. told (λ x. x.base.joins v w) (tells_pipe v w) (λ x d. written_pipe x d v w) blank raised compared l before ds hs r;
    shut_junctions = λ l before ds hs r v. told (λ x. x.shut v) (tells_shut v) (λ x d. written_shut x d v) blank raised compared l before ds hs r;
    spare_moves = spare_told blank raised compared;
    below = λ l ds. (fed-size l ds, fed_serves l ds);
    alike = λ l before before' d h h' a a'.
        (let e : said h.answer ≡ said h'.answer = a.answers ∙ sym a'.answers in
        (e, answers_alike blank raised compared turns l d before before' h.answer h'.answer h.lists h'.lists e a.leaves a'.leaves));
    both = run_both;
  }
