use Rattle.std.proofs.Common.{◌≡◌, ℕ, ◌*◌, refl, ap, ◌∙◌}
use mathlib.Core.Path.{fun_ext}
use Rattle.std.proofs.lemmas.Result.{err_from_is_err_and}
use Rattle.order.specs.Reports.{short}
use Rattle.calls.proofs.Runs.{kept-both, short_same}
use Rattle.visit.proofs.Visiting.{none_gone, heard_same, gone_next, all_gone}
use Rattle.visit.proofs.run.run_lines.Goals as goal

pub loop-line-init : goal.loop-line-init
loop-line-init g c = rw c.into_iter-line-iterator.ensures.into_iter_gives ((λ spare full. none_gone _ spare full _ _ _ _), refl, (λ k d h. refl), λ k d h. refl)

pub returns-in_err-run_line : goal.returns-in_err-run_line
returns-in_err-run_line g c =
    let inv = c.loop-line.invariant in
    let run = c.run_line.ensures in
    let same : (λ n. short n c.loop-line.places c.loop-line.ring c.loop-line.rows c.loop-line.labels c.loop-line.scratch) ≡ (λ n. short n c.args.places.now c.args.ring.now c.args.rows.now c.args.labels.now c.args.scratch.now) = fun_ext (λ n. short_same n n _ _ _ _ _ _ _ _ _ _ refl c.loop-line.auto.places c.loop-line.auto.ring c.loop-line.auto.rows c.loop-line.auto.labels c.loop-line.auto.scratch) in
    record {
      heard = λ spare full.
          (let failed = err_from_is_err_and c.from_residual.result c.from_residual.ensures.1 in
          let l = run.heard spare full in
          let p = gone_next _ spare full _ _ _ _ _ _ _ _ c.next.new.self.rest.now c.in-Some.line.now _ _ (g.L.Listener.log c.run_line.new.listener) l.answer c.in-Some.ensures.steps l.lists (inv.0 spare full) (heard_same _ spare full _ _ _ _ _ _ _ l.answer same refl refl l.heard) l.told in
          rw failed.1 (p.done, _, p.answers, p.parts, p.visited, p.lists, p.told));
      size = run.size ∙ inv.1;
      labels = kept-both _ _ _ _ _ inv.1 inv.2 run.labels;
      scratch = kept-both _ _ _ _ _ (ap (λ (n : ℕ). 2 * n) inv.1) inv.3 run.scratch;
    }

pub loop-line-preserved : goal.loop-line-preserved
loop-line-preserved g c =
    let inv = c.loop-line.invariant in
    let run = c.run_line.ensures in
    let same : (λ n. short n c.loop-line.places c.loop-line.ring c.loop-line.rows c.loop-line.labels c.loop-line.scratch) ≡ (λ n. short n c.args.places.now c.args.ring.now c.args.rows.now c.args.labels.now c.args.scratch.now) = fun_ext (λ n. short_same n n _ _ _ _ _ _ _ _ _ _ refl c.loop-line.auto.places c.loop-line.auto.ring c.loop-line.auto.rows c.loop-line.auto.labels c.loop-line.auto.scratch) in (
      (λ spare full.
          (let l = run.heard spare full in
          gone_next _ spare full _ _ _ _ _ _ _ _ c.next.new.self.rest.now c.in-Some.line.now _ _ _ l.answer c.in-Some.ensures.steps l.lists (inv.0 spare full) (heard_same _ spare full _ _ _ _ _ _ _ l.answer same refl refl l.heard) l.told)),
      run.size ∙ inv.1,
      kept-both _ _ _ _ _ inv.1 inv.2 run.labels,
      kept-both _ _ _ _ _ (ap (λ (n : ℕ). 2 * n) inv.1) inv.3 run.scratch,
    )

pub returns : goal.returns
returns g c =
    let inv = c.loop-line.invariant in
    record {
      heard = λ spare full.
          (let gone = inv.0 spare full in
          (gone.answers, all_gone _ spare full _ _ _ _ _ _ _ _ c.in-None.ensures.steps.0 gone, gone.lists, gone.told));
      size = inv.1;
      labels = inv.2;
      scratch = inv.3;
    }
