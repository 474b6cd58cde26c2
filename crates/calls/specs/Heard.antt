-- What is heard of a call: its answer, and the answer lists as they are after it.
use Rattle.std.specs.Prelude.{ℕ, List, ◌++◌, Ok, Err, Result}
use Rattle.plan.specs.declared.number.Junction.{Junction}
use Rattle.plan.specs.declared.refusal.Refusal.{Refusal}
use Rattle.plan.specs.Refusals.{Verdict, carried, refused, number, values}
use Rattle.calls.specs.declared.answer.Outcome.{Outcome}
use Rattle.calls.specs.declared.answer.Outcome.TheVariants.{Done, Ordered}

-- the answer lists of an order: places, ring and fill rows
pub record Lists : Type 0 where
  pub places : List Junction
  pub ring : List Junction
  pub rows : List ℕ

pub record Heard : Type 0 where
  pub answer : Result Outcome Refusal
  pub lists : Lists

abbrev pub lists_of : List Junction → List Junction → List ℕ → Lists
lists_of places ring rows = record { places = places; ring = ring; rows = rows }

abbrev pub heard_with : Result Outcome Refusal → List Junction → List Junction → List ℕ → Heard
heard_with answer places ring rows = record { answer = answer; lists = lists_of places ring rows }

-- an answer as a verdict
abbrev pub said : Result Outcome Refusal → Verdict
said (Ok Done) = carried
said (Err e) = refused (number e) (values e)
said (Ok (Ordered n report)) = carried

-- a listener was told these answers more
abbrev pub Told : (List Heard → Type 0) → (List Heard → Type 0) → List Heard → Type 0
Told before after hs = (old : List Heard) → before old → after (old ++ hs)
