use Rattle.std.proofs.Common.{◌≡◌, ◌*◌, take}
use Rattle.image.specs.Images.{bytes_of}
use Rattle.image.proofs.fields.put_all.Given as goal

abbrev pub invariant-loop-i : goal.invariant-loop-i
invariant-loop-i l = take (2 * l.i) l.part ≡ bytes_of (take l.i l.fields)
