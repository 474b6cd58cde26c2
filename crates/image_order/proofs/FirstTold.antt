-- The first answer of a list that grows at its end.
use Rattle.std.proofs.Common.{◌≡◌, List, [], ◌∷◌, ◌++◌, refl, ap, ◌∙◌, Ok, Err, Result}
use Rattle.calls.specs.Heard.{Heard}
use Rattle.calls.specs.declared.answer.Outcome.{Outcome}
use Rattle.plan.specs.declared.refusal.Refusal.{Refusal}
use Rattle.calls.specs.declared.answer.Outcome.TheVariants.{Done, Ordered}
use Rattle.image_order.specs.Firsts.{or_told, first_told}

pub or_told_done : (a : Result Outcome Refusal) → or_told a (Ok Done) ≡ a
or_told_done (Ok Done) = refl
or_told_done (Err e) = refl
or_told_done (Ok (Ordered n r)) = refl

or_told_assoc : (a b c : Result Outcome Refusal) → or_told a (or_told b c) ≡ or_told (or_told a b) c
or_told_assoc (Ok Done) b c = refl
or_told_assoc (Err e) b c = refl
or_told_assoc (Ok (Ordered n r)) b c = refl

pub first_told-append : (hs : List Heard) (h : Heard) → first_told (hs ++ h ∷ []) ≡ or_told (first_told hs) h.answer
first_told-append [] h = or_told_done h.answer
first_told-append (x ∷ hs) h = ap (or_told x.answer) (first_told-append hs h) ∙ or_told_assoc x.answer (first_told hs) h.answer
