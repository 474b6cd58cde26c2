use Rattle.std.proofs.Common.{◌≡◌, ℕ, ◌*◌, Bool, List, [], ◌++◌, map, take, sym, refl, ap, ◌∙◌, subst, arith}
use Rattle.std.proofs.lemmas.List.{append-nil, append_assoc, length-map, take_all}
use Rattle.std.proofs.lemmas.Result.{err_from_is_err_and}
use Rattle.order.specs.Reports.{short}
use Rattle.set.specs.Kept.{ledger}
use Rattle.set.specs.Ledgers.{Ledger}
use Rattle.calls.specs.Deeds.{deed, idle}
use Rattle.calls.specs.Heard.{Heard}
use Rattle.calls.proofs.Runs.{new-started, idle-at, take-map-next, fed-size, short_same, kept-both, ran_next}
use Rattle.calls.proofs.runner.run.Goals as goal

pub loop-call-init : goal.loop-call-init
loop-call-init g c = (
  record {
    answers = [];
    ran = record { run = tt; ledger = refl; lists = refl };
    told = λ old h. subst (λ (xs : List Heard). g.L.Listener.log c.args.listener.now xs) (sym (append-nil old)) h;
  },
  (λ k d h. refl),
  (λ k d h. refl),
  λ h. (refl, refl),
)

pub returns-in_err-hear : goal.returns-in_err-hear
returns-in_err-hear g c =
    let inv = c.loop-call.invariant in
    let size : (ledger g.R.ReadablePlan.meaning g.R.Register.left c.loop-call.set).base.size ≡ (ledger g.R.ReadablePlan.meaning g.R.Register.left c.args.set.now).base.size = ap (λ (l : Ledger). l.base.size) inv.0.ran.ledger ∙ fed-size _ (take c.loop-call.call-index (map (deed (short (g.R.ReadablePlan.meaning c.args.set.now.layer.below).size c.args.places.now c.args.ring.now c.args.rows.now c.args.labels.now c.args.scratch.now)) c.args.calls.now)) in
    let same = short_same _ _ _ _ _ _ _ _ _ _ _ _ size c.loop-call.auto.places c.loop-call.auto.ring c.loop-call.auto.rows c.loop-call.auto.labels c.loop-call.auto.scratch in
    let d = ap (λ (b : Bool). deed b c.call-item.result) same in
    let more = take-map-next (deed (short (g.R.ReadablePlan.meaning c.args.set.now.layer.below).size c.args.places.now c.args.ring.now c.args.rows.now c.args.labels.now c.args.scratch.now)) c.args.calls.now c.loop-call.call-index c.call-item.result c.call-item.is c.loop-call-test.true in
    let ran = ran_next _ _ _ _ _ _ _ _ _ _ _ _ _ _ inv.0.ran more d c.carry_out-answer.ensures.answered c.carry_out-answer.ensures.ledger in
    let failed = err_from_is_err_and c.from_residual.result c.from_residual.ensures.1 in
    record {
      new = new-started (ledger g.R.ReadablePlan.meaning g.R.Register.left c.args.set.now);
      kept = rw failed.1 (c.loop-call.call-index, omega (arith, c.loop-call-test.true, length-map c.args.calls.now (deed (short (g.R.ReadablePlan.meaning c.args.set.now.layer.below).size c.args.places.now c.args.ring.now c.args.rows.now c.args.labels.now c.args.scratch.now))), _, ran, (λ old h. subst (λ (xs : List Heard). g.L.Listener.log c.hear.new.self xs) (append_assoc old inv.0.answers _) (c.hear.ensures (old ++ inv.0.answers) (inv.0.told old h))));
      labels = kept-both _ _ _ _ _ size inv.1 c.carry_out-answer.ensures.labels;
      scratch = kept-both _ _ _ _ _ (ap (λ (n : ℕ). 2 * n) size) inv.2 c.carry_out-answer.ensures.scratch;
      idle = λ h.
          (let now = c.carry_out-answer.ensures.idle (ap idle d ∙ idle-at (deed (short (g.R.ReadablePlan.meaning c.args.set.now.layer.below).size c.args.places.now c.args.ring.now c.args.rows.now c.args.labels.now c.args.scratch.now)) c.args.calls.now c.loop-call.call-index c.call-item.result h c.call-item.is c.loop-call-test.true) in
          let was = inv.3 h in
          (now.0 ∙ was.0, now.1 ∙ was.1));
    }

pub loop-call-preserved : goal.loop-call-preserved
loop-call-preserved g c =
    let inv = c.loop-call.invariant in
    let size : (ledger g.R.ReadablePlan.meaning g.R.Register.left c.loop-call.set).base.size ≡ (ledger g.R.ReadablePlan.meaning g.R.Register.left c.args.set.now).base.size = ap (λ (l : Ledger). l.base.size) inv.0.ran.ledger ∙ fed-size _ (take c.loop-call.call-index (map (deed (short (g.R.ReadablePlan.meaning c.args.set.now.layer.below).size c.args.places.now c.args.ring.now c.args.rows.now c.args.labels.now c.args.scratch.now)) c.args.calls.now)) in
    let same = short_same _ _ _ _ _ _ _ _ _ _ _ _ size c.loop-call.auto.places c.loop-call.auto.ring c.loop-call.auto.rows c.loop-call.auto.labels c.loop-call.auto.scratch in
    let d = ap (λ (b : Bool). deed b c.call-item.result) same in
    let more = take-map-next (deed (short (g.R.ReadablePlan.meaning c.args.set.now.layer.below).size c.args.places.now c.args.ring.now c.args.rows.now c.args.labels.now c.args.scratch.now)) c.args.calls.now c.loop-call.call-index c.call-item.result c.call-item.is c.loop-call-test.true in
    let ran = ran_next _ _ _ _ _ _ _ _ _ _ _ _ _ _ inv.0.ran more d c.carry_out-answer.ensures.answered c.carry_out-answer.ensures.ledger in (
      record { answers = _; ran = ran; told = λ old h. subst (λ (xs : List Heard). g.L.Listener.log c.hear.new.self xs) (append_assoc old inv.0.answers _) (c.hear.ensures (old ++ inv.0.answers) (inv.0.told old h)) },
      kept-both _ _ _ _ _ size inv.1 c.carry_out-answer.ensures.labels,
      kept-both _ _ _ _ _ (ap (λ (n : ℕ). 2 * n) size) inv.2 c.carry_out-answer.ensures.scratch,
      λ h.
          (let now = c.carry_out-answer.ensures.idle (ap idle d ∙ idle-at (deed (short (g.R.ReadablePlan.meaning c.args.set.now.layer.below).size c.args.places.now c.args.ring.now c.args.rows.now c.args.labels.now c.args.scratch.now)) c.args.calls.now c.loop-call.call-index c.call-item.result h c.call-item.is c.loop-call-test.true) in
          let was = inv.3 h in
          (now.0 ∙ was.0, now.1 ∙ was.1)),
    )

pub returns : goal.returns
returns g c =
    let inv = c.loop-call.invariant in
    let all = take_all c.loop-call.call-index (map (deed (short (g.R.ReadablePlan.meaning c.args.set.now.layer.below).size c.args.places.now c.args.ring.now c.args.rows.now c.args.labels.now c.args.scratch.now)) c.args.calls.now) (omega (arith, c.loop-call-test.false, length-map c.args.calls.now (deed (short (g.R.ReadablePlan.meaning c.args.set.now.layer.below).size c.args.places.now c.args.ring.now c.args.rows.now c.args.labels.now c.args.scratch.now)))) in
    record {
      new = new-started (ledger g.R.ReadablePlan.meaning g.R.Register.left c.args.set.now);
      kept = (inv.0.answers, rw all at inv.0.ran, inv.0.told);
      labels = inv.1;
      scratch = inv.2;
      idle = inv.3;
    }
