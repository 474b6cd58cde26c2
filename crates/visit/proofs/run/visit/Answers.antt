use Rattle.std.proofs.Common.{ℕ, Bool, ◌*◌, length, Option, sym, refl, subst}
use Rattle.std.proofs.lemmas.Bool.{lt-ltb, le-ltb}
use Rattle.std.proofs.lemmas.Result.{err_from_is_err_and}
use Rattle.plan.specs.Memory.{KeptFrom}
use Rattle.order.specs.Reports.{short}
use Rattle.set.specs.Kept.{ledger}
use Rattle.set.specs.declared.set.Set.{Set}
use Rattle.sheet.specs.declared.line.Lines as sheet_lines
use Rattle.calls.specs.Heard.{lists_of}
use Rattle.visit.specs.Openings.{OpenedOf}
use Rattle.visit.specs.Visits.{no_set, with_set}
use Rattle.visit.proofs.Sheets.{sheet_too_long, sheet_ended, sheet_stopped, sheet_made}
use Rattle.visit.proofs.run.visit.Goals as goal

pub returns-then-sheet-gt-SHEET_LIMIT : goal.returns-then-sheet-gt-SHEET_LIMIT
returns-then-sheet-gt-SHEET_LIMIT g c = λ spare full makes. record {
  stage = no_set;
  heard_lines = sheet_too_long _ _ _ _ c.args.sheet.now (g.L.Listener.log c.args.listener.now) (g.L.Listener.log c.hear.new.self) c.hear.result (lt-ltb 16384 (length c.args.sheet.now) c.if-sheet-gt-SHEET_LIMIT.true) c.hear.ensures;
  labels_behind = λ k d h. refl;
  scratch_behind = λ k d h. refl;
}

pub returns-in_err-set : goal.returns-in_err-set
returns-in_err-set g c = λ spare full makes.
    (let tight : ℕ → Bool = λ n. short n c.args.places.now c.args.ring.now c.args.rows.now c.args.labels.now c.args.scratch.now in
    let opening = rw c.new.ensures at (c.in_err-set.ensures tight spare full makes) in
    let failed = err_from_is_err_and c.from_residual.result c.from_residual.ensures.1 in
    record {
      stage = opening.3;
      heard_lines = rw failed.1 (sheet_stopped tight _ _ _ c.args.sheet.now (le-ltb 16384 (length c.args.sheet.now) c.if-sheet-gt-SHEET_LIMIT.false) g.M.Made.ReadablePlan.meaning g.M.Made.Register.left (g.L.Listener.log c.args.listener.now) (g.L.Listener.log c.open_set.new.listener) failed.0 opening);
      labels_behind = λ k d h. refl;
      scratch_behind = λ k d h. refl;
    })

pub returns-in-Some : goal.returns-in-Some
returns-in-Some g c = λ spare full makes.
    (let tight : ℕ → Bool = λ n. short n c.args.places.now c.args.ring.now c.args.rows.now c.args.labels.now c.args.scratch.now in
    let before = lists_of c.args.places.now c.args.ring.now c.args.rows.now in
    let opened = subst (λ (o : Option (Set g.row.M-Made.Denot × sheet_lines.Lines)). OpenedOf tight (spare c.args.maker) (full c.args.maker) g.M.Made.ReadablePlan.meaning g.M.Made.Register.left before c.args.sheet.now (g.L.Listener.log c.args.listener.now) (g.L.Listener.log c.open_set.new.listener) o) c.in-Some.is (rw c.new.ensures at (c.in_ok-set.ensures tight spare full makes)) in
    record {
      stage = with_set (ledger g.M.Made.ReadablePlan.meaning g.M.Made.Register.left c.run_lines.new.set);
      heard_lines = sheet_made tight _ _ before c.args.sheet.now (le-ltb 16384 (length c.args.sheet.now) c.if-sheet-gt-SHEET_LIMIT.false) g.M.Made.ReadablePlan.meaning g.M.Made.Register.left (g.L.Listener.log c.args.listener.now) (g.L.Listener.log c.open_set.new.listener) (g.L.Listener.log c.run_lines.new.listener) c.in-Some.set c.in-Some.lines _ _ c.run_lines.result opened (c.run_lines.ensures.heard (spare c.args.maker) (full c.args.maker));
      labels_behind = subst (λ (n : ℕ). KeptFrom n c.args.labels.now c.run_lines.new.labels) (sym c.run_lines.ensures.size) c.run_lines.ensures.labels;
      scratch_behind = subst (λ (n : ℕ). KeptFrom (2 * n) c.args.scratch.now c.run_lines.new.scratch) (sym c.run_lines.ensures.size) c.run_lines.ensures.scratch;
    })

pub returns-in-None : goal.returns-in-None
returns-in-None g c = λ spare full makes.
    (let tight : ℕ → Bool = λ n. short n c.args.places.now c.args.ring.now c.args.rows.now c.args.labels.now c.args.scratch.now in
    let before = lists_of c.args.places.now c.args.ring.now c.args.rows.now in
    let opened = subst (λ (o : Option (Set g.row.M-Made.Denot × sheet_lines.Lines)). OpenedOf tight (spare c.args.maker) (full c.args.maker) g.M.Made.ReadablePlan.meaning g.M.Made.Register.left before c.args.sheet.now (g.L.Listener.log c.args.listener.now) (g.L.Listener.log c.open_set.new.listener) o) c.in-None.is (rw c.new.ensures at (c.in_ok-set.ensures tight spare full makes)) in
    record {
      stage = no_set;
      heard_lines = sheet_ended tight _ _ before c.args.sheet.now (le-ltb 16384 (length c.args.sheet.now) c.if-sheet-gt-SHEET_LIMIT.false) g.row.L-Error.Denot g.M.Made.ReadablePlan.meaning g.M.Made.Register.left (g.L.Listener.log c.args.listener.now) (g.L.Listener.log c.open_set.new.listener) opened;
      labels_behind = λ k d h. refl;
      scratch_behind = λ k d h. refl;
    })
