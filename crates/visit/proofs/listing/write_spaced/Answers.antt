use Rattle.std.proofs.Common.{true, ◌∷◌, get_or, take, decimal, refl}
use Rattle.std.proofs.Output.{has_written_append}
use Rattle.std.specs.Fmt.{HasWritten}
use Rattle.visit.specs.Listings.{spaced}
use Rattle.visit.proofs.Listed.{spaced_more}
use Rattle.visit.proofs.listing.write_spaced.Goals as goal

pub loop-j-preserved : goal.loop-j-preserved
loop-j-preserved g c plain =
    let before : HasWritten g.W.Write.write_str_gives c.args.f.now (spaced (take c.loop-j.j-index c.args.list.now)) c.loop-j.f = c.loop-j.invariant plain in
    rw (spaced_more c.args.list.now c.loop-j.j-index (record { 0 = 0 }) c.loop-j-test.true)
    (has_written_append g.W.Write.write_str_gives c.args.f.now (spaced (take c.loop-j.j-index c.args.list.now)) c.loop-j.f (32 ∷ decimal (get_or c.args.list.now c.loop-j.j-index (record { 0 = 0 })).0) c.write.new.self before (c.in_ok-write.ensures.writes before.plain (refl {a = true})))
