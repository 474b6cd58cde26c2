use Rattle.std.proofs.Common.{◌≡◌, ◌-◌, ◌≤◌, true, false, sym, refl, ap, ◌∙◌, arith}
use Rattle.plan.specs.Refusals.{heard}
use Rattle.isolation.specs.States.{opens}
use Rattle.image.specs.Images.{image_of}
use Rattle.set.specs.Kept.{ledger}
use Rattle.set.specs.Ledgers.{Ledger, seen, clear, with_records}
use Rattle.set.proofs.Steps.{seen-through}
use Rattle.set.proofs.Loads.{Loadable, load_not_new, load_no_spare, load_passes, records_start, record_joined, record_there}
use Rattle.set.proofs.set.Set.load.Goals as goal
use Rattle.set.proofs.set.Set.load.Goals.{in-Some, in_default}

pub returns-then-not-is_clear : goal.returns-then-not-is_clear
returns-then-not-is_clear g c =
    let l : Ledger = ledger g.R.ReadablePlan.meaning g.R.Register.left c.args.self.now in
    let h : clear (seen l) ≡ false = ap clear (seen-through l.base l.spare (opens c.args.self.now.layer.states.table)) ∙ sym c.if-not-is_clear.ensures in
    let n : (image_of c.args.image.now).size ≡ l.base.size = omega (arith, c.in_ok-header.ensures.header.size, c.if-header-size.false, c.size.ensures.value) in
    record { answer = sym (load_not_new l c.args.image.now (sym c.in_ok-header.ensures.says) n h); ledger = refl }

pub returns-then-spare-from : goal.returns-then-spare-from
returns-then-spare-from g c =
    let l : Ledger = ledger g.R.ReadablePlan.meaning g.R.Register.left c.args.self.now in
    let h : clear (seen l) ≡ true = ap clear (seen-through l.base l.spare (opens c.args.self.now.layer.states.table)) ∙ sym c.if-not-is_clear.ensures in
    let n : (image_of c.args.image.now).size ≡ l.base.size = omega (arith, c.in_ok-header.ensures.header.size, c.if-header-size.false, c.size.ensures.value) in
    record {
      answer = sym (load_no_spare l c.args.image.now (sym c.in_ok-header.ensures.says) n h (omega (arith, c.spare.ensures, c.if-spare-from.true, c.in_ok-header.ensures.header.records)));
      ledger = refl;
    }

pub loop-i-init : goal.loop-i-init
loop-i-init g c = sym (records_start (ledger g.R.ReadablePlan.meaning g.R.Register.left c.args.self.now) (image_of c.args.image.now))

pub loop-i-preserved : goal.loop-i-preserved
loop-i-preserved g c =
    let l : Ledger = ledger g.R.ReadablePlan.meaning g.R.Register.left c.args.self.now in
    let h : clear (seen l) ≡ true = ap clear (seen-through l.base l.spare (opens c.args.self.now.layer.states.table)) ∙ sym c.if-not-is_clear.ensures in
    let n : (image_of c.args.image.now).size ≡ l.base.size = omega (arith, c.in_ok-header.ensures.header.size, c.if-header-size.false, c.size.ensures.value) in
    let ok : Loadable l c.args.image.now = record { sound = sym c.in_ok-header.ensures.says; size = n; new = h; room = omega (arith, c.spare.ensures, c.if-spare-from.false, c.in_ok-header.ensures.header.records) } in
    let some : 1 ≤ c.loop-i.i = c.loop-i.auto.i in
    let most : c.loop-i.i ≤ (image_of c.args.image.now).records = omega (arith, c.loop-i-test.true, c.in_ok-header.ensures.header.records) in
    elim c.match-record_ends.branch [
      | in-Some w ↦ ap (ledger g.R.ReadablePlan.meaning g.R.Register.left) w.self-is ∙ record_joined l c.args.image.now ok c.loop-i.i w.in-Some.near.0 w.in-Some.far.0 (ledger g.R.ReadablePlan.meaning g.R.Register.left c.loop-i.self) (ledger g.R.ReadablePlan.meaning g.R.Register.left w.join.new.self) (heard w.join.result) some most c.loop-i.invariant w.in-Some.ensures.1 w.in-Some.ensures.2 w.join.ensures.answer w.join.ensures.ledger
      | in_default w ↦ absurd (record_there l c.args.image.now ok c.loop-i.i some most w.in_default.ensures)
    ]

pub returns : goal.returns
returns g c =
    let l : Ledger = ledger g.R.ReadablePlan.meaning g.R.Register.left c.args.self.now in
    let h : clear (seen l) ≡ true = ap clear (seen-through l.base l.spare (opens c.args.self.now.layer.states.table)) ∙ sym c.if-not-is_clear.ensures in
    let n : (image_of c.args.image.now).size ≡ l.base.size = omega (arith, c.in_ok-header.ensures.header.size, c.if-header-size.false, c.size.ensures.value) in
    let ok : Loadable l c.args.image.now = record { sound = sym c.in_ok-header.ensures.says; size = n; new = h; room = omega (arith, c.spare.ensures, c.if-spare-from.false, c.in_ok-header.ensures.header.records) } in
    let end : c.loop-i.i - 1 ≡ (image_of c.args.image.now).records = omega (arith, c.loop-i-test.false, c.loop-i.auto.i-end, c.in_ok-header.ensures.header.records) in
    record { answer = sym (load_passes l c.args.image.now ok); ledger = c.loop-i.invariant ∙ ap (with_records l (image_of c.args.image.now)) end }
