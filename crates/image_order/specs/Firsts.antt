-- The first of several answers that says more than that a call was carried out.
use Rattle.std.specs.Prelude.{List, [], ◌∷◌, Ok, Err, Result}
use Rattle.calls.specs.Heard.{Heard}
use Rattle.calls.specs.declared.answer.Outcome.{Outcome}
use Rattle.plan.specs.declared.refusal.Refusal.{Refusal}
use Rattle.calls.specs.declared.answer.Outcome.TheVariants.{Done, Ordered}

abbrev pub or_told : Result Outcome Refusal → Result Outcome Refusal → Result Outcome Refusal
or_told (Ok Done) b = b
or_told (Err e) b = Err e
or_told (Ok (Ordered n r)) b = Ok (Ordered n r)

abbrev pub first_told : List Heard → Result Outcome Refusal
first_told [] = (Ok Done)
first_told (h ∷ hs) = or_told h.answer (first_told hs)
