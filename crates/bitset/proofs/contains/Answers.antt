use Rattle.std.proofs.Common.{rules}
use Rattle.bitset.proofs.Held.{read_bit, holds_past}
use Rattle.bitset.proofs.contains.Goals as goal

pub returns : goal.returns
returns c = search (rules, read_bit c.args.words.now c.args.i, holds_past c.args.words.now c.args.i)
