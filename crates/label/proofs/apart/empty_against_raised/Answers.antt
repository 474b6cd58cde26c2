use Rattle.std.proofs.Common.{◌≡◌, Less}
use Rattle.label.proofs.Differing.{empty_less, not_all_equal}
use Rattle.label.proofs.apart.empty_against_raised.Goals as goal

pub returns : goal.returns
returns g c =
    let law = g.met.K.Kind.lawful c.args.kind.now in
    let less : g.K.Kind.compared c.args.kind.now (g.K.Kind.blank c.args.kind.now) (g.K.Kind.raised c.args.kind.now (g.K.Kind.blank c.args.kind.now) 1) ≡ Less = empty_less _ _ _ _ law in
    record { less = cc; apart = not_all_equal _ _ _ _ law }
