use Rattle.std.proofs.Common.{◌≡◌, ℕ, Bool, length}
use Rattle.sheet.specs.Lines.{lines}
use Rattle.calls.specs.Heard.{lists_of}
use Rattle.visit.specs.Visits.{no_set, Makes}
use Rattle.visit.proofs.Visiting.{Gone}
use Rattle.visit.proofs.run.open_set.Given as goal

abbrev pub invariant-loop-line : goal.invariant-loop-line
invariant-loop-line g l =
    (tight : ℕ → Bool) (spare : g.row.M.Denot → ℕ → ℕ) (full : g.row.M.Denot → ℕ → Bool) → Makes g.M.Maker.makes g.M.Made.ReadablePlan.meaning g.M.Made.Register.left spare full
    → Gone tight (spare l.initial.maker) (full l.initial.maker) no_set (lists_of l.lists.places.now l.lists.ring.now l.lists.rows.now) l.initial.lines.rest.now l.lines.rest.now no_set (lists_of l.lists.places.now l.lists.ring.now l.lists.rows.now) (g.L.Listener.log l.initial.listener) (g.L.Listener.log l.listener)
    × (l.maker ≡ l.initial.maker)

abbrev pub decreases-loop-line : goal.decreases-loop-line
decreases-loop-line g l = length (lines l.lines.rest.now)
