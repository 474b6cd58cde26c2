-- The two parts of a visit: the lines up to a set, and the lines behind.
use Rattle.std.specs.Prelude.{◌≡◌, ℕ, Bool, List, [], ◌∷◌, ◌++◌, Some, None, Ok, Err, Option, Result}
use Rattle.plan.specs.Plans.{Plan}
use Rattle.plan.specs.declared.turned_down.TurnedDown.{TurnedDown}
use Rattle.set.specs.Kept.{ledger}
use Rattle.set.specs.declared.set.Set.{Set}
use Rattle.sheet.specs.Calls.{Spelled}
use Rattle.sheet.specs.Lines.{lines}
use Rattle.sheet.specs.declared.line.Lines as sheet_lines
use Rattle.calls.specs.Deeds.{Deed, deed}
use Rattle.calls.specs.Heard.{Heard, Lists, Told}
use Rattle.calls.specs.Runs.{last_lists}
use Rattle.calls.specs.declared.answer.Outcome.TheVariants.{Done}
use Rattle.calls.specs.declared.call.Call.{Call}
use Rattle.sheet.specs.declared.call.Call as sheet
use Rattle.visit.specs.Kinds.{SheetKind}
use Rattle.visit.specs.Visits.{Stage, no_set, with_set, new_size, set_call, LineHeard, Visited}

-- the n of the line that makes a set, and the call on a set that a line spells; or nothing
abbrev pub deed_of : Bool → Option (Call SheetKind) → Option (Deed SheetKind)
deed_of short None = None
deed_of short (Some c) = Some (deed short c)

pub record NewSize (line : List ℕ) (r : Option ℕ) : Type 0 where
  pub call : Option sheet.Call
  pub spelled : Spelled line call
  pub same : r ≡ new_size call

pub record SetCall (line : List ℕ) (r : Option (Call SheetKind)) : Type 0 where
  pub call : Option sheet.Call
  pub spelled : Spelled line call
  pub same : (short : Bool) → deed_of short r ≡ set_call short call

module _ (tight : ℕ → Bool) (spare : ℕ → ℕ) (full : ℕ → Bool) where
  -- one line: what was heard of it, and how far the visit then is
  pub record LineRun (s : Stage) (before : Lists) (line : List ℕ) (now : Lists) (log log' : List Heard → Type 0) (m : Stage) : Type 0 where
    pub answer : Heard
    pub heard : LineHeard tight spare full s before line answer m
    pub lists : now ≡ answer.lists
    pub told : Told log log' (answer ∷ [])

  -- a line where there is no set yet, with the set that it makes; or the refusal, and the maker as it was
  abbrev pub SetMade : {M R : Type 0} → (R → Plan) → (R → ℕ) → Lists → List ℕ → M → Result (Set R) (TurnedDown M) → Type 0
  SetMade meaning left before line maker (Ok set) = LineHeard tight spare full no_set before line (record { answer = (Ok Done); lists = before }) (with_set (ledger meaning left set))
  SetMade meaning left before line maker (Err t) = LineHeard tight spare full no_set before line (record { answer = Err t.refusal; lists = before }) no_set × (t.memory ≡ maker)

  -- lines from the first on: all of them where the listener did not fail
  abbrev pub LinesHeard : {E : Type 0} → Stage → Lists → List ℕ → Lists → (List Heard → Type 0) → (List Heard → Type 0) → Stage → Result Unit E → Type 0
  LinesHeard s before text last log log' t (Ok u) =
      (hs : List Heard) × Visited tight spare full s before (lines text) hs t × (last ≡ last_lists before hs) × Told log log' hs
  LinesHeard s before text last log log' t (Err e) =
      (done : List (List ℕ)) × (more : List (List ℕ)) × (hs : List Heard) × (lines text ≡ done ++ more) × Visited tight spare full s before done hs t × (last ≡ last_lists before hs) × Told log log' hs

  -- the lines up to a set that was made, with the rest of the sheet; or all lines, none of which made one; no answer list is written
  abbrev pub OpenedOf : {R : Type 0} → (R → Plan) → (R → ℕ) → Lists → List ℕ → (List Heard → Type 0) → (List Heard → Type 0) → Option (Set R × sheet_lines.Lines) → Type 0
  OpenedOf meaning left before sheet log log' (Some (set, more)) =
      (done : List (List ℕ)) × (hs : List Heard) × (lines sheet ≡ done ++ lines more.rest.now) × Visited tight spare full no_set before done hs (with_set (ledger meaning left set)) × (before ≡ last_lists before hs) × Told log log' hs
  OpenedOf meaning left before sheet log log' None =
      (hs : List Heard) × Visited tight spare full no_set before (lines sheet) hs no_set × (before ≡ last_lists before hs) × Told log log' hs

  abbrev pub Opening : {R E : Type 0} → (R → Plan) → (R → ℕ) → Lists → List ℕ → (List Heard → Type 0) → (List Heard → Type 0) → Result (Option (Set R × sheet_lines.Lines)) E → Type 0
  Opening meaning left before sheet log log' (Ok o) = OpenedOf meaning left before sheet log log' o
  Opening meaning left before sheet log log' (Err e) =
      (done : List (List ℕ)) × (more : List (List ℕ)) × (hs : List Heard) × (t : Stage) × (lines sheet ≡ done ++ more) × Visited tight spare full no_set before done hs t × (before ≡ last_lists before hs) × Told log log' hs
