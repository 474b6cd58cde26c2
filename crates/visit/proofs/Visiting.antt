-- Visits that grow by a line.
use Rattle.std.proofs.Common.{◌≡◌, ℕ, zero, suc, ◌+◌, ◌<◌, Bool, List, [], ◌∷◌, ◌++◌, take, Ok, Err, Result, Ordering, sym, refl, ap, ◌∙◌, subst, arith}
use Rattle.std.proofs.lemmas.List.{append_assoc, append-nil}
use Rattle.set.specs.Ledgers.{Ledger}
use Rattle.sheet.specs.Lines.{lines}
use Rattle.calls.specs.Deeds.{Deed, next}
use Rattle.calls.specs.Heard.{Heard, Lists, Told}
use Rattle.calls.specs.Runs.{Answered, Ran, RanOrFailed, last_lists}
use Rattle.visit.specs.Visits.{Stage, LineHeard, Visited}

-- a list of one call
module _ {K L : Type 0} (blank : K → L) (raised : K → L → ℕ → L) (compared : K → L → L → Ordering) where
  pub record Single (l : Ledger) (before : Lists) (d : Deed K) (l' : Ledger) (now : Lists) (log log' : List Heard → Type 0) : Type 0 where
    pub answer : Heard
    pub answered : Answered blank raised compared l before d answer
    pub ledger : l' ≡ next l d
    pub lists : now ≡ answer.lists
    pub told : Told log log' (answer ∷ [])

  ran_single : (l : Ledger) (before : Lists) (d : Deed K) (l' : Ledger) (now : Lists) (log log' : List Heard → Type 0) (hs : List Heard) → Ran blank raised compared l before (d ∷ []) l' now hs → Told log log' hs → Single l before d l' now log log'
  ran_single l before d l' now log log' [] s t = absurd s.run
  ran_single l before d l' now log log' (h ∷ []) s t = record { answer = h; answered = s.run.0; ledger = s.ledger; lists = s.lists; told = t }
  ran_single l before d l' now log log' (h ∷ g ∷ hs) s t = absurd s.run.1

  pub single : {E : Type 0} (l : Ledger) (before : Lists) (d : Deed K) (l' : Ledger) (now : Lists) (log log' : List Heard → Type 0) (r : Result Unit E) → RanOrFailed blank raised compared l before (d ∷ []) l' now log log' r → Single l before d l' now log log'
  single l before d l' now log log' (Ok u) k = ran_single l before d l' now log log' k.0 k.1 k.2
  single l before d l' now log log' (Err e) k = by k.0 k.1 k.2 k.3 k.4
    where
      by : (i : ℕ) → i < 1 → (hs : List Heard) → Ran blank raised compared l before (take (i + 1) (d ∷ [])) l' now hs → Told log log' hs → Single l before d l' now log log'
      by zero h hs s t = ran_single l before d l' now log log' hs s t
      by (suc i) h hs s t = absurd (omega arith)

pub last_lists-both : (before : Lists) (hs gs : List Heard) → last_lists before (hs ++ gs) ≡ last_lists (last_lists before hs) gs
last_lists-both before [] gs = refl
last_lists-both before (h ∷ hs) gs = last_lists-both h.lists hs gs

-- answers told one after the other
pub told_both : (log log' log'' : List Heard → Type 0) (hs gs : List Heard) → Told log log' hs → Told log' log'' gs → Told log log'' (hs ++ gs)
told_both log log' log'' hs gs a b old h = subst log'' (append_assoc old hs gs) (b (old ++ hs) (a old h))

module _ (tight : ℕ → Bool) (spare : ℕ → ℕ) (full : ℕ → Bool) where
  -- two parts of a visit, one after the other
  pub visited_both : (s m t : Stage) (before : Lists) (xs ys : List (List ℕ)) (hs gs : List Heard) → Visited tight spare full s before xs hs m → Visited tight spare full m (last_lists before hs) ys gs t → Visited tight spare full s before (xs ++ ys) (hs ++ gs) t
  visited_both s m t before [] ys [] gs a b = subst (λ (x : Stage). Visited tight spare full x before ys gs t) a b
  visited_both s m t before [] ys (h ∷ hs) gs a b = absurd a
  visited_both s m t before (x ∷ xs) ys [] gs a b = absurd a
  visited_both s m t before (x ∷ xs) ys (h ∷ hs) gs a b = (a.0, a.1, visited_both a.0 m t h.lists xs ys hs gs a.2 b)

  -- the lines read so far, of a text of which a rest is left
  pub record Gone (s : Stage) (before : Lists) (text rest : List ℕ) (t : Stage) (now : Lists) (log log' : List Heard → Type 0) : Type 0 where
    pub done : List (List ℕ)
    pub answers : List Heard
    pub parts : lines text ≡ done ++ lines rest
    pub visited : Visited tight spare full s before done answers t
    pub lists : now ≡ last_lists before answers
    pub told : Told log log' answers

  pub none_gone : (s : Stage) (before : Lists) (text : List ℕ) (log : List Heard → Type 0) → Gone s before text text s before log log
  none_gone s before text log = record { done = []; answers = []; parts = refl; visited = refl; lists = refl; told = λ old o. subst log (sym (append-nil old)) o }

  -- what a line is held against is asked of lists and of a maker that may have changed since
  pub heard_same : (tight' : ℕ → Bool) (spare' : ℕ → ℕ) (full' : ℕ → Bool) (s m : Stage) (before : Lists) (line : List ℕ) (h : Heard) → tight' ≡ tight → spare' ≡ spare → full' ≡ full → LineHeard tight' spare' full' s before line h m → LineHeard tight spare full s before line h m
  heard_same tight' spare' full' s m before line h e f i l = subst (λ (t : ℕ → Bool). LineHeard t spare full s before line h m) e (subst (λ (x : ℕ → ℕ). LineHeard tight' x full s before line h m) f (subst (λ (y : ℕ → Bool). LineHeard tight' spare' y s before line h m) i l))

  -- one line more
  pub gone_next : (s m t : Stage) (before now now' : Lists) (text rest rest' line : List ℕ) (log log' log'' : List Heard → Type 0) (h : Heard) → lines rest ≡ line ∷ lines rest' → now' ≡ h.lists → Gone s before text rest t now log log' → LineHeard tight spare full t now line h m → Told log' log'' (h ∷ []) → Gone s before text rest' m now' log log''
  gone_next s m t before now now' text rest rest' line log log' log'' h cut w g l told = record {
    done = g.done ++ line ∷ [];
    answers = g.answers ++ h ∷ [];
    parts = g.parts ∙ ap (λ (xs : List (List ℕ)). g.done ++ xs) cut ∙ sym (append_assoc g.done (line ∷ []) (lines rest'));
    visited = visited_both s t m before g.done (line ∷ []) g.answers (h ∷ []) g.visited (m, subst (λ (x : Lists). LineHeard tight spare full t x line h m) g.lists l, refl);
    lists = w ∙ sym (last_lists-both before g.answers (h ∷ []));
    told = told_both log log' log'' g.answers (h ∷ []) g.told told;
  }

  -- all lines
  pub all_gone : (s t : Stage) (before now : Lists) (text rest : List ℕ) (log log' : List Heard → Type 0) → lines rest ≡ [] → (p : Gone s before text rest t now log log') → Visited tight spare full s before (lines text) p.answers t
  all_gone s t before now text rest log log' e p = subst (λ (xs : List (List ℕ)). Visited tight spare full s before xs p.answers t) (sym (p.parts ∙ ap (λ (xs : List (List ℕ)). p.done ++ xs) e ∙ append-nil p.done)) p.visited
