use Rattle.std.proofs.Common.{refl, rules}
use Rattle.sheet.specs.declared.call.Call.TheVariants.{New, Join, Cut, Shut, Open}
use Rattle.sheet.proofs.Spelling.{with_one, with_two}
use Rattle.sheet.proofs.call.call_by.Goals as goal

pub returns-in-N : goal.returns-in-N
returns-in-N c = rw c.in-N.is (with_one 78 _ _ _ (λ n. New n) refl (λ n h. h) c.one_argument.ensures (search rules))

pub returns-in-J : goal.returns-in-J
returns-in-J c = rw c.in-J.is (with_two 74 _ _ _ (λ x. Join (record { 0 = x.0 }) (record { 0 = x.1 })) refl (λ x h. h) c.two_arguments.ensures (search rules))

pub returns-in-C : goal.returns-in-C
returns-in-C c = rw c.in-C.is (with_two 67 _ _ _ (λ x. Cut (record { 0 = x.0 }) (record { 0 = x.1 })) refl (λ x h. h) c.two_arguments-in-C.ensures (search rules))

pub returns-in-S : goal.returns-in-S
returns-in-S c = rw c.in-S.is (with_one 83 _ _ _ (λ v. Shut (record { 0 = v })) refl (λ v h. h) c.one_argument-in-S.ensures (search rules))

pub returns-in-O : goal.returns-in-O
returns-in-O c = rw c.in-O.is (with_one 79 _ _ _ (λ v. Open (record { 0 = v })) refl (λ v h. h) c.one_argument-in-O.ensures (search rules))
