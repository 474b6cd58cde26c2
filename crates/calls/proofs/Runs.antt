-- Runs that grow by a call.
use Rattle.std.proofs.Common.{◌≡◌, ℕ, zero, suc, ◌+◌, ◌<◌, true, List, [], ◌∷◌, ◌++◌, map, length, get_or, take, Ordering, sym, refl, ap, ◌∙◌, ap₂, arith}
use mathlib.Core.Path.{fun_ext}
use Rattle.std.proofs.lemmas.Bool.{and_parts}
use Rattle.plan.specs.declared.number.Junction.{Junction}
use Rattle.plan.specs.Memory.{KeptFrom}
use Rattle.plan.specs.Refusals.{Verdict, carried, refused, after}
use Rattle.order.specs.Reports.{short}
use Rattle.set.specs.Ledgers.{Ledger, New, started}
use Rattle.set.proofs.Loads.{records_size}
use Rattle.image.specs.Images.{image_of}
use Rattle.calls.specs.Deeds.{Deed, loads, joins, cuts, shuts, opens, orders, verdict, written, next, fed, idle, all_idle}
use Rattle.calls.specs.Heard.{Heard, Lists, Told}
use Rattle.calls.specs.Runs.{Run, Ran, Answered, last_lists}

-- the first entries of a mapped list, with the next one
take-map-suc : {A B : Type 0} (f : A → B) (xs : List A) (i : ℕ) (x : A) → x ≡ get_or xs i x → i < length xs → take (suc i) (map f xs) ≡ take i (map f xs) ++ f x ∷ []
take-map-suc f [] i x e h = absurd (omega arith)
take-map-suc f (y ∷ xs) zero x e h = ap (λ z. f z ∷ []) (sym e)
take-map-suc f (y ∷ xs) (suc i) x e h = ap (λ zs. f y ∷ zs) (take-map-suc f xs i x e (omega arith))

pub take-map-next : {A B : Type 0} (f : A → B) (xs : List A) (i : ℕ) (x : A) → x ≡ get_or xs i x → i < length xs → take (i + 1) (map f xs) ≡ take i (map f xs) ++ f x ∷ []
take-map-next f xs i x e h =
    let one : i + 1 ≡ suc i = omega arith in
    ap (λ j. take j (map f xs)) one ∙ take-map-suc f xs i x e h

pub last_lists-append : (before : Lists) (hs : List Heard) (h : Heard) → last_lists before (hs ++ h ∷ []) ≡ h.lists
last_lists-append before [] h = refl
last_lists-append before (x ∷ hs) h = last_lists-append x.lists hs h

-- each call of an idle list is idle
pub idle-at : {A K : Type 0} (f : A → Deed K) (xs : List A) (i : ℕ) (x : A) → all_idle (map f xs) ≡ true → x ≡ get_or xs i x → i < length xs → idle (f x) ≡ true
idle-at f [] i x h e l = absurd (omega arith)
idle-at f (y ∷ xs) zero x h e l = ap (λ z. idle (f z)) e ∙ (and_parts (idle (f y)) (all_idle (map f xs)) h).0
idle-at f (y ∷ xs) (suc i) x h e l = idle-at f xs i x (and_parts (idle (f y)) (all_idle (map f xs)) h).1 e (omega arith)

-- no call changes the number of junctions
written-size : {K : Type 0} (l : Ledger) (d : Deed K) → (written l d).base.size ≡ l.base.size
written-size l (loads bytes) = records_size l (image_of bytes) (image_of bytes).records
written-size l (joins v w) = refl
written-size l (cuts v w) = refl
written-size l (shuts v) = refl
written-size l (opens v) = refl
written-size l (orders short k) = refl

after-size : (v : Verdict) (a b : Ledger) → a.base.size ≡ b.base.size → (after v a b).base.size ≡ b.base.size
after-size carried a b e = e
after-size (refused k vs) a b e = refl

pub next-size : {K : Type 0} (l : Ledger) (d : Deed K) → (next l d).base.size ≡ l.base.size
next-size l d = after-size (verdict l d) (written l d) l (written-size l d)

pub fed-size : {K : Type 0} (l : Ledger) (ds : List (Deed K)) → (fed l ds).base.size ≡ l.base.size
fed-size l [] = refl
fed-size l (d ∷ ds) = fed-size (next l d) ds ∙ next-size l d

-- a new set keeps the ledger that a run starts with
pub new-started : (l : Ledger) → New l → l ≡ started l.base.size l.base.serves l.spare
new-started l n i = record {
  base = record { size = l.base.size; serves = l.base.serves; joins = fun_ext (λ v. fun_ext (n.pipes v)) i };
  spare = l.spare;
  shut = fun_ext n.open_all i;
}

-- whether memory is short is a matter of lengths
pub short_same : {L : Type 0} (n n' : ℕ) (places ring places' ring' : List Junction) (rows rows' scratch scratch' : List ℕ) (labels labels' : List L) → n' ≡ n → length places' ≡ length places → length ring' ≡ length ring → length rows' ≡ length rows → length labels' ≡ length labels → length scratch' ≡ length scratch → short n' places' ring' rows' labels' scratch' ≡ short n places ring rows labels scratch
short_same n n' places ring places' ring' rows rows' scratch scratch' labels labels' en ep er ew el es = rw (en, ep, er, ew, el, es) refl

pub kept-both : {A : Type 0} (n n' : ℕ) (xs ys zs : List A) → n' ≡ n → KeptFrom n xs ys → KeptFrom n' ys zs → KeptFrom n xs zs
kept-both n n' xs ys zs e f g k d h = (rw e at g) k d h ∙ f k d h

module _ {K L : Type 0} (blank : K → L) (raised : K → L → ℕ → L) (compared : K → L → L → Ordering) where
  pub fed_append : (l : Ledger) (ds : List (Deed K)) (d : Deed K) → fed l (ds ++ d ∷ []) ≡ next (fed l ds) d
  fed_append l [] d = refl
  fed_append l (x ∷ ds) d = fed_append (next l x) ds d

  pub run_append : (l : Ledger) (before : Lists) (ds : List (Deed K)) (hs : List Heard) (d : Deed K) (h : Heard) → Run blank raised compared l before ds hs → Answered blank raised compared (fed l ds) (last_lists before hs) d h → Run blank raised compared l before (ds ++ d ∷ []) (hs ++ h ∷ [])
  run_append l before [] [] d h r a = (a, tt)
  run_append l before [] (x ∷ hs) d h r a = absurd r
  run_append l before (y ∷ ds) [] d h r a = absurd r
  run_append l before (y ∷ ds) (x ∷ hs) d h r a = (r.0, run_append (next l y) x.lists ds hs d h r.1 a)

  -- the first i calls have run, and the listener may have heard their answers
  pub record Running (l : Ledger) (before : Lists) (ds : List (Deed K)) (i : ℕ) (l' : Ledger) (now : Lists) (log log' : List Heard → Type 0) : Type 0 where
    pub answers : List Heard
    pub ran : Ran blank raised compared l before (take i ds) l' now answers
    pub told : Told log log' answers

  pub ran_next : (l : Ledger) (before : Lists) (ds more : List (Deed K)) (l' l'' : Ledger) (now : Lists) (hs : List Heard) (d d' : Deed K) (h : Heard) → Ran blank raised compared l before ds l' now hs → more ≡ ds ++ d ∷ [] → d' ≡ d → Answered blank raised compared l' now d' h → l'' ≡ next l' d' → Ran blank raised compared l before more l'' h.lists (hs ++ h ∷ [])
  ran_next l before ds more l' l'' now hs d d' h r m t a e = record {
    run = rw m (run_append l before ds hs d h r.run (rw (r.ledger, r.lists, t) at a));
    ledger = e ∙ ap₂ (λ (x : Deed K) (y : Ledger). next y x) t r.ledger ∙ sym (fed_append l ds d) ∙ ap (λ (x : List (Deed K)). fed l x) (sym m);
    lists = sym (last_lists-append before hs h);
  }
