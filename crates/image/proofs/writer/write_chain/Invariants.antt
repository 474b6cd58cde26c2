use Rattle.std.proofs.Common.{◌≡◌, ◌*◌, take}
use Rattle.std.specs.Iterator.Adapters.{enumerate_source, enumerate_count}
use Rattle.image.specs.Images.{bytes_of}
use Rattle.image.specs.Writing.{chain_to}
use Rattle.image.proofs.UpperWalks.{Past}
use Rattle.image.proofs.writer.write_chain.Given as goal

abbrev pub invariant-loop-k : goal.invariant-loop-k
invariant-loop-k g l =
    record {
      can_next : (goal.iterator-loop-k g).can_next l.k-iterator;
      is_finite : (goal.iterator-loop-k g).is_finite l.k-iterator;
      past : Past g.P.ReadablePlan.meaning l.plan l.fn.v (enumerate_source l.k-iterator) (enumerate_count l.k-iterator);
      front : take (6 * enumerate_count l.k-iterator) l.part ≡ bytes_of (chain_to (g.P.ReadablePlan.meaning l.plan) l.fn.v.0 (enumerate_source l.k-iterator).last.0);
    }
