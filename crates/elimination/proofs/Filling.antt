-- The rows and the count while an order is eliminated.
use Rattle.std.proofs.Common.{◌≡◌, ℕ, ◌+◌, ◌-◌, ◌*◌, ◌/◌, ◌%◌, ◌<◌, ◌≤◌, true, false, ◌⊎◌, List, length, get_or, MatchOption, Some, Option, sym, refl, ◌∙◌, inl, inr, add-one, arith}
use Rattle.std.proofs.lemmas.Bool.{cases_lt, le-ltb}
use Rattle.bitset.specs.Bits.{bit}
use Rattle.plan.specs.Plans.{Plan, Sound, pairs}
use Rattle.plan.specs.Orders.{ordered}
use Rattle.plan.specs.Refusals.Verdict.{carried}
use Rattle.plan.proofs.Counts.{pairs_same, pairs-none}
use Rattle.plan.proofs.Orders.{IsOrder, order_of, place_at}
use Rattle.pairs.specs.Rows.{marked}
use Rattle.pairs.proofs.Marked.{marked-bit, marked_blank}
use Rattle.elimination.specs.declared.order.PlaceTable.{PlaceTable}
use Rattle.elimination.specs.Elimination.{fill}
use Rattle.elimination.specs.Rows.{Fills, fill_verdict}
use Rattle.elimination.specs.Steps.{found, Places, Table, Eliminates, at}
use Rattle.elimination.proofs.Laws.{plan_simple}
use Rattle.elimination.proofs.Neighbours.{found-marked, found-outside}
use Rattle.elimination.proofs.Takeover.{Working, working_none, working_more, working_all}

-- the list is an order of n junctions, with its places in the table
pub record Placed (n : ℕ) (us : List ℕ) (table : PlaceTable) : Type 0 where
  pub ordered : ordered n us ≡ true
  pub order : IsOrder n us
  pub places : Places n us table.places

pub placed : {m n : ℕ} {us : List ℕ} {found : Option PlaceTable} {table : PlaceTable} → m ≡ n → found ≡ Some table → MatchOption found (ordered m us ≡ false) (λ t. (ordered m us ≡ true) × Places m us t.places) → Placed n us table
placed {m} {n} {us} e f h =
    let p = rw f at h in
    let ok : ordered n us ≡ true = rw e at p.0 in
    record { ordered = ok; order = order_of n us ok; places = rw e at p.1 }

-- the first t junctions of the list are eliminated
pub record Filling (q : Plan) (us : List ℕ) (before : List ℕ) (t : ℕ) (rows : List ℕ) (count : ℕ) : Type 0 where
  pub working : Working q.joins q.size us t (found q.size rows)
  pub counted : count ≡ pairs (found q.size rows) q.size
  pub behind : (k : ℕ) → 8 * q.size ≤ k → get_or rows k 0 ≡ get_or before k 0

found-clear : (n : ℕ) (rows : List ℕ) → ((k : ℕ) → k < 8 * n → get_or rows k 0 ≡ 0) → (v w : ℕ) → found n rows v w ≡ false
found-clear n rows clear v w = go (cases_lt n v)
  where
    go : (n < v) ⊎ (v ≤ n) → found n rows v w ≡ false
    go (inl l) = found-outside n rows v w l
    go (inr l) = found-marked n rows v w l ∙ marked_blank rows n clear v w l

module _ (q : Plan) (s : Sound q) (us : List ℕ) (o : IsOrder q.size us) where
  ends : (v w : ℕ) → q.joins v w ≡ true → (1 ≤ v) × (v ≤ q.size) × (1 ≤ w) × (w ≤ q.size)
  ends v w h =
      let e : (q.serves v ≡ true) × (q.serves w ≡ true) = s.ends v w h in
      ((s.inside v e.0).0, (s.inside v e.0).1, (s.inside w e.1).0, (s.inside w e.1).1)

  pub filling_none : (before rows : List ℕ) → ((k : ℕ) → k < 8 * q.size → get_or rows k 0 ≡ 0) → ((k : ℕ) → 8 * q.size ≤ k → get_or rows k 0 ≡ get_or before k 0) → Filling q us before 0 rows 0
  filling_none before rows clear behind =
      record {
        working = working_none q.joins (plan_simple q s) q.size us o ends (found q.size rows) (found-clear q.size rows clear);
        counted = sym (pairs-none (found q.size rows) q.size (λ v w i j k. found-clear q.size rows clear v w));
        behind = behind;
      }

  module _ {before : List ℕ} {t : ℕ} {rows : List ℕ} {count : ℕ} (f : Filling q us before t rows count) where
    pub filling_table : 8 * q.size ≤ length rows → Table q.size rows
    filling_table room =
        record { room = room; alike = f.working.alike; inside = λ v w h. (f.working.inside v w h).3 }

    pub filling_more : (places after : List ℕ) (added : ℕ) → Places q.size us places → t < q.size → Eliminates q (at places) (get_or us t 0) rows after → added + pairs (found q.size rows) q.size ≡ pairs (found q.size after) q.size → Filling q us before (t + 1) after (count + added)
    filling_more places after added table l e more =
        record {
          working = rw (add-one t) (working_more q.joins (plan_simple q s) q.size us o ends t (found q.size rows) f.working (get_or us t 0) e.parent (at places) table (o.each t l).0 (o.each t l).1 (place_at q.size us o t l) e.earliest (found q.size after) e.over.marks);
          counted = omega (arith, f.counted);
          behind = λ k h. e.over.behind k h ∙ f.behind k h;
        }

    pub filling_all : t ≡ q.size → Fills q us before count rows
    filling_all end =
        record {
          counted = f.counted ∙ pairs_same (found q.size rows) (fill q.joins us) q.size (λ v w i j k. same v w);
          rows = record { bits = λ v k b i j x y. bits v k b i j x y };
          behind = f.behind;
        }
      where
        same : (v w : ℕ) → found q.size rows v w ≡ fill q.joins us v w
        same = working_all q.joins (plan_simple q s) q.size us o ends (found q.size rows) (rw end at f.working)

        bits : (v k b : ℕ) → 1 ≤ v → v ≤ q.size → k < 8 → b < 64 → bit (get_or rows (8 * (v - 1) + k) 0) b ≡ fill q.joins us v (64 * k + b + 1)
        bits v k b i j x y =
            let d : (64 * k + b) / 64 ≡ k = omega arith in
            let m : (64 * k + b) % 64 ≡ b = omega arith in
            let h : marked rows v (64 * k + b + 1) ≡ bit (get_or rows (8 * (v - 1) + k) 0) b = rw (d, m) at (marked-bit rows v (64 * k + b) i (omega arith)) in
            sym h ∙ sym (found-marked q.size rows v (64 * k + b + 1) j) ∙ same v (64 * k + b + 1)

-- words behind the rows that stayed before stayed since
pub fills_since : {q : Plan} {us : List ℕ} {mid : List ℕ} {count : ℕ} {rows : List ℕ} (before : List ℕ) → ((k : ℕ) → 8 * q.size ≤ k → get_or mid k 0 ≡ get_or before k 0) → Fills q us mid count rows → Fills q us before count rows
fills_since before kept f =
    record { counted = f.counted; rows = f.rows; behind = λ k l. f.behind k l ∙ kept k l }

pub carried_out : (n : ℕ) (us : List ℕ) (words : ℕ) → ordered n us ≡ true → 8 * n ≤ words → carried ≡ fill_verdict n us words
carried_out n us words o room = rw (o, le-ltb words (8 * n) room) refl
