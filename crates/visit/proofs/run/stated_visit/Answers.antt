use Rattle.visit.proofs.run.stated_visit.Goals as goal

pub returns : goal.returns
returns g c = c.visit.ensures g.M.StatedMaker.spare g.M.StatedMaker.full g.met.M.StatedMaker.stated
