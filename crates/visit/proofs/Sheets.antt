-- A whole sheet, from its parts.
use Rattle.std.proofs.Common.{◌≡◌, ℕ, Bool, true, false, ltb, List, [], ◌∷◌, ◌++◌, length, Ok, Err, Result, sym, refl, ap, ◌∙◌, subst, Some, None}
use Rattle.std.proofs.lemmas.List.{append_assoc, append-nil}
use Rattle.plan.specs.Plans.{Plan}
use Rattle.plan.specs.declared.refusal.Refusal.TheVariants.{ShortMemory}
use Rattle.set.specs.Kept.{ledger}
use Rattle.set.specs.declared.set.Set.{Set}
use Rattle.sheet.specs.Lines.{lines}
use Rattle.sheet.specs.declared.line.Lines as sheet_lines
use Rattle.calls.specs.Heard.{Heard, Lists, Told}
use Rattle.calls.specs.Runs.{last_lists}
use Rattle.visit.specs.Openings.{LinesHeard, OpenedOf, Opening}
use Rattle.visit.specs.Visits.{Stage, no_set, with_set, Visited, SheetHeard, VisitHeard}
use Rattle.visit.proofs.Visiting.{visited_both, last_lists-both, told_both}

-- the one answer to a sheet that is too long
abbrev pub too_long : Lists → Heard
too_long before = record { answer = Err ShortMemory; lists = before }

module _ (tight : ℕ → Bool) (spare : ℕ → ℕ) (full : ℕ → Bool) (before : Lists) (sheet : List ℕ) where
  pub sheet_too_long : {E : Type 0} (log log' : List Heard → Type 0) (r : Result Unit E) → ltb 16384 (length sheet) ≡ true → Told log log' (too_long before ∷ []) → VisitHeard tight spare full before sheet before log log' no_set r
  sheet_too_long log log' (Ok u) e t = (too_long before ∷ [], subst (λ (b : Bool). SheetHeard tight spare full b before (lines sheet) (too_long before ∷ []) no_set) (sym e) (too_long before, refl, refl, refl, refl), refl, t)
  sheet_too_long log log' (Err x) e t = (lines sheet, [], too_long before ∷ [], sym (append-nil (lines sheet)), subst (λ (b : Bool). SheetHeard tight spare full b before (lines sheet) (too_long before ∷ []) no_set) (sym e) (too_long before, refl, refl, refl, refl), refl, t)

  module _ (fits : ltb 16384 (length sheet) ≡ false) where
    whole : (xs : List (List ℕ)) (hs : List Heard) (t : Stage) → Visited tight spare full no_set before xs hs t → SheetHeard tight spare full (ltb 16384 (length sheet)) before xs hs t
    whole xs hs t v = subst (λ (b : Bool). SheetHeard tight spare full b before xs hs t) (sym fits) v

    -- no line made a set
    pub sheet_ended : (E : Type 0) {R : Type 0} (meaning : R → Plan) (left : R → ℕ) (log log' : List Heard → Type 0) → OpenedOf tight spare full meaning left before sheet log log' None → VisitHeard tight spare full {E = E} before sheet before log log' no_set (Ok tt)
    sheet_ended E meaning left log log' o = (o.0, whole (lines sheet) o.0 no_set o.1, o.2, o.3)

    -- the listener failed before there was a set, or at its line
    pub sheet_stopped : {E R : Type 0} (meaning : R → Plan) (left : R → ℕ) (log log' : List Heard → Type 0) (x : E) (o : Opening tight spare full {R = R} meaning left before sheet log log' (Err x)) → VisitHeard tight spare full before sheet before log log' o.3 (Err x)
    sheet_stopped meaning left log log' x o = (o.0, o.1, o.2, o.4, whole o.0 o.2 o.3 o.5, o.6, o.7)

    -- a set was made, and the lines behind it went on
    pub sheet_made : {E R : Type 0} (meaning : R → Plan) (left : R → ℕ) (log log' log'' : List Heard → Type 0) (set : Set R) (rest : sheet_lines.Lines) (now' : Lists) (t : Stage) (r : Result Unit E) → OpenedOf tight spare full meaning left before sheet log log' (Some (set, rest)) → LinesHeard tight spare full (with_set (ledger meaning left set)) before rest.rest.now now' log' log'' t r → VisitHeard tight spare full before sheet now' log log'' t r
    sheet_made meaning left log log' log'' set rest now' t (Ok u) o p =
        let v = subst (λ (b : Lists). Visited tight spare full (with_set (ledger meaning left set)) b (lines rest.rest.now) p.0 t) o.4 p.1 in (
          o.1 ++ p.0,
          whole (lines sheet) (o.1 ++ p.0) t (subst (λ (xs : List (List ℕ)). Visited tight spare full no_set before xs (o.1 ++ p.0) t) (sym o.2) (visited_both tight spare full no_set (with_set (ledger meaning left set)) t before o.0 (lines rest.rest.now) o.1 p.0 o.3 v)),
          p.2 ∙ ap (λ (b : Lists). last_lists b p.0) o.4 ∙ sym (last_lists-both before o.1 p.0),
          told_both log log' log'' o.1 p.0 o.5 p.3,
        )
    sheet_made meaning left log log' log'' set rest now' t (Err x) o p =
        let v = subst (λ (b : Lists). Visited tight spare full (with_set (ledger meaning left set)) b p.0 p.2 t) o.4 p.4 in (
          o.0 ++ p.0,
          p.1,
          o.1 ++ p.2,
          o.2 ∙ ap (λ (xs : List (List ℕ)). o.0 ++ xs) p.3 ∙ sym (append_assoc o.0 p.0 p.1),
          whole (o.0 ++ p.0) (o.1 ++ p.2) t (visited_both tight spare full no_set (with_set (ledger meaning left set)) t before o.0 p.0 o.1 p.2 o.3 v),
          p.5 ∙ ap (λ (b : Lists). last_lists b p.2) o.4 ∙ sym (last_lists-both before o.1 p.2),
          told_both log log' log'' o.1 p.2 o.5 p.6,
        )
