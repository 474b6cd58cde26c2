use Rattle.std.proofs.Common.{◌≡◌, true, false, rules, tests}
use Rattle.std.specs.Option.{option_map}
use Rattle.std.proofs.lemmas.Iterator.{first_from_Range}
use Rattle.image.specs.Checked.{plan_in}
use Rattle.image.specs.CheckedPlans.{checked_sound}
use Rattle.image.proofs.CheckedReadings.{first_below}
use Rattle.image.proofs.checked.CheckedImage.next_lower.Goals as goal

pub returns : goal.returns
returns c =
    let mapped : c.map.result ≡ option_map (λ u. record { 0 = u }) c.find.result = search rules in
    rw mapped
    (first_below (plan_in c.args.self.now) (checked_sound c.args.self.now) c.args.v.0 c.args.w.0 c.find.result
    (first_from_Range _ _ _ c.find.result (λ u. (plan_in c.args.self.now).joins u c.args.v.0 ≡ true) (λ u. (plan_in c.args.self.now).joins u c.args.v.0 ≡ false) c.find.ensures.ran (λ x q k. search (rules, tests)) (λ x q k. search (rules, tests))))
