use Rattle.std.proofs.Common.{refl, ap, ◌∙◌}
use Rattle.std.proofs.lemmas.Result.{err_from_is_err_and}
use Rattle.visit.proofs.Visiting.{none_gone, heard_same, gone_next, all_gone}
use Rattle.visit.proofs.run.open_set.Goals as goal

pub loop-line-init : goal.loop-line-init
loop-line-init g c = λ tight spare full makes. (none_gone tight _ _ _ _ _ _, refl)

pub returns-in_err-hear-in-Ok : goal.returns-in_err-hear-in-Ok
returns-in_err-hear-in-Ok g c = λ tight spare full makes.
    (let inv = c.loop-line.invariant tight spare full makes in
    let line = heard_same tight _ _ tight _ _ _ _ _ _ _ refl (ap spare inv.1) (ap full inv.1) (c.in-Ok.ensures tight _ spare full makes) in
    let gone = gone_next tight _ _ _ _ _ _ _ _ _ _ c.next.new.self.rest.now c.in-Some.line.now _ _ (g.L.Listener.log c.hear.new.self) _ c.in-Some.ensures.steps refl inv.0 line c.hear.ensures in
    let failed = err_from_is_err_and c.from_residual.result c.from_residual.ensures.1 in
    rw failed.1 (gone.done, _, gone.answers, _, gone.parts, gone.visited, gone.lists, gone.told))

pub returns-in-Ok : goal.returns-in-Ok
returns-in-Ok g c = λ tight spare full makes.
    (let inv = c.loop-line.invariant tight spare full makes in
    let line = heard_same tight _ _ tight _ _ _ _ _ _ _ refl (ap spare inv.1) (ap full inv.1) (c.in-Ok.ensures tight _ spare full makes) in
    let gone = gone_next tight _ _ _ _ _ _ _ _ _ _ c.next.new.self.rest.now c.in-Some.line.now _ _ (g.L.Listener.log c.hear.new.self) _ c.in-Some.ensures.steps refl inv.0 line c.hear.ensures in
    (gone.done, gone.answers, gone.parts, gone.visited, gone.lists, gone.told))

pub returns-in_err-hear-in-Err : goal.returns-in_err-hear-in-Err
returns-in_err-hear-in-Err g c = λ tight spare full makes.
    (let inv = c.loop-line.invariant tight spare full makes in
    let line = heard_same tight _ _ tight _ _ _ _ _ _ _ refl (ap spare inv.1) (ap full inv.1) (c.in-Err.ensures tight _ spare full makes).0 in
    let gone = gone_next tight _ _ _ _ _ _ _ _ _ _ c.next.new.self.rest.now c.in-Some.line.now _ _ (g.L.Listener.log c.hear-in-Err.new.self) _ c.in-Some.ensures.steps refl inv.0 line c.hear-in-Err.ensures in
    let failed = err_from_is_err_and c.from_residual-in_err-hear-in-Err.result c.from_residual-in_err-hear-in-Err.ensures.1 in
    rw failed.1 (gone.done, _, gone.answers, _, gone.parts, gone.visited, gone.lists, gone.told))

pub loop-line-preserved : goal.loop-line-preserved
loop-line-preserved g c = λ tight spare full makes.
    (let inv = c.loop-line.invariant tight spare full makes in
    let back = c.in-Err.ensures tight _ spare full makes in
    let line = heard_same tight _ _ tight _ _ _ _ _ _ _ refl (ap spare inv.1) (ap full inv.1) back.0 in
    (gone_next tight _ _ _ _ _ _ _ _ _ _ c.next.new.self.rest.now c.in-Some.line.now _ _ (g.L.Listener.log c.hear-in-Err.new.self) _ c.in-Some.ensures.steps refl inv.0 line c.hear-in-Err.ensures, back.1 ∙ inv.1))

pub returns : goal.returns
returns g c = λ tight spare full makes.
    (let gone = (c.loop-line.invariant tight spare full makes).0 in
    (gone.answers, all_gone tight _ _ _ _ _ _ _ _ _ _ c.in_default.ensures.steps.0 gone, gone.lists, gone.told))
