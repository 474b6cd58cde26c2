-- The order, by lexicographic label, of the plan that an image stands for.
use Rattle.std.specs.Prelude.{◌≡◌, ℕ, ◌+◌, Bool, List, [], ◌∷◌, nat_lt, Ok, Err, Result}
use Rattle.plan.specs.Refusals.{Verdict, checked}
use Rattle.label.specs.Sets.{no_marks, with_mark, compared_sets}
use Rattle.image.specs.Chains.{plan_of}
use Rattle.image.specs.Images.{image_of}
use Rattle.image.specs.Reading.{read_verdict}
use Rattle.order.specs.Reports as report
use Rattle.set.specs.Ledgers.{then}
use Rattle.calls.specs.Heard.{Lists, said}
use Rattle.calls.specs.declared.answer.Outcome.{Outcome}
use Rattle.plan.specs.declared.refusal.Refusal.{Refusal}
use Rattle.calls.specs.declared.answer.Outcome.TheVariants.{Done, Ordered}

-- the checks in their order: those of the image; then memory of n + 32,000 numbers for the register; then memory for the order, of which tight says whether it is too short
abbrev pub verdict : List ℕ → ℕ → Bool → Verdict
verdict bytes long tight = then (read_verdict bytes) (checked ((nat_lt long ((image_of bytes).size + 32000), 8) ∷ (tight, 8) ∷ []))

-- an order is that of the image's plan; turned down, no answer list is written
abbrev pub Left : List ℕ → Lists → Result Outcome Refusal → Lists → Type 0
Left bytes before (Ok Done) now = ⊥
Left bytes before (Err e) now = now ≡ before
Left bytes before (Ok (Ordered n r)) now = (n ≡ (image_of bytes).size) × report.Ordered no_marks with_mark compared_sets (plan_of (image_of bytes)) r before.places before.ring before.rows now.places now.ring now.rows

pub record ImageOrdered (bytes : List ℕ) (long : ℕ) (tight : Bool) (before : Lists) (answer : Result Outcome Refusal) (now : Lists) : Type 0 where
  pub answers : said answer ≡ verdict bytes long tight
  pub leaves : Left bytes before answer now
