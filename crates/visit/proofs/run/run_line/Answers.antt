use Rattle.std.proofs.Common.{Option, refl, ap, ◌∙◌, subst, Err}
use Rattle.order.specs.Reports.{short}
use Rattle.set.specs.Ledgers.{Ledger}
use Rattle.set.specs.Kept.{ledger}
use Rattle.calls.specs.Deeds.{Deed, deed}
use Rattle.calls.specs.Heard.{lists_of, heard_with}
use Rattle.plan.specs.declared.refusal.Refusal.TheVariants.{NoCall}
use Rattle.calls.proofs.Runs.{next-size}
use Rattle.visit.specs.Kinds.{SheetKind, empty_label, raised_label, compared_labels}
use Rattle.visit.specs.Visits.{CallHeard, with_set}
use Rattle.visit.proofs.Visiting.{single}
use Rattle.visit.proofs.run.run_line.Goals as goal

pub returns-in-Some : goal.returns-in-Some
returns-in-Some g c =
    let l : Ledger = ledger g.R.ReadablePlan.meaning g.R.Register.left c.args.set.now in
    let s = single empty_label raised_label compared_labels l (lists_of c.args.places.now c.args.ring.now c.args.rows.now) (deed (short l.base.size c.args.places.now c.args.ring.now c.args.rows.now c.args.labels.now c.args.scratch.now) c.in-Some.call) _ _ (g.L.Listener.log c.args.listener.now) (g.L.Listener.log c.run.new.listener) c.run.result c.run.ensures.kept in
    let same = c.in-Some.ensures.same (short l.base.size c.args.places.now c.args.ring.now c.args.rows.now c.args.labels.now c.args.scratch.now) in
    record {
      heard = λ spare full. record {
        answer = s.answer;
        heard = record {
          call = c.in-Some.ensures.call;
          spelled = c.in-Some.ensures.spelled;
          at_stage = subst (λ (d : Option (Deed SheetKind)). CallHeard (λ n. short n c.args.places.now c.args.ring.now c.args.rows.now c.args.labels.now c.args.scratch.now) spare full l (lists_of c.args.places.now c.args.ring.now c.args.rows.now) d s.answer (with_set (ledger g.R.ReadablePlan.meaning g.R.Register.left c.run.new.set))) same (s.answered, ap with_set s.ledger);
        };
        lists = s.lists;
        told = s.told;
      };
      size = ap (λ (x : Ledger). x.base.size) s.ledger ∙ next-size l (deed (short l.base.size c.args.places.now c.args.ring.now c.args.rows.now c.args.labels.now c.args.scratch.now) c.in-Some.call);
      labels = c.run.ensures.labels;
      scratch = c.run.ensures.scratch;
    }

pub returns-in-None : goal.returns-in-None
returns-in-None g c =
    let l : Ledger = ledger g.R.ReadablePlan.meaning g.R.Register.left c.args.set.now in
    let same = c.in-None.ensures.same (short l.base.size c.args.places.now c.args.ring.now c.args.rows.now c.args.labels.now c.args.scratch.now) in
    record {
      heard = λ spare full. record {
        answer = heard_with (Err NoCall) c.args.places.now c.args.ring.now c.args.rows.now;
        heard = record {
          call = c.in-None.ensures.call;
          spelled = c.in-None.ensures.spelled;
          at_stage = subst (λ (d : Option (Deed SheetKind)). CallHeard (λ n. short n c.args.places.now c.args.ring.now c.args.rows.now c.args.labels.now c.args.scratch.now) spare full l (lists_of c.args.places.now c.args.ring.now c.args.rows.now) d (heard_with (Err NoCall) c.args.places.now c.args.ring.now c.args.rows.now) (with_set l)) same (record { answers = refl; leaves = refl }, refl);
        };
        lists = refl;
        told = c.hear.ensures;
      };
      size = refl;
      labels = λ k d h. refl;
      scratch = λ k d h. refl;
    }
