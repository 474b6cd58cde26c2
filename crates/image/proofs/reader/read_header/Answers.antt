use Rattle.std.proofs.Common.{Ok, arith, length-drop, length-take}
use Rattle.std.proofs.lemmas.Bool.{ltb-true, ltb-false}
use Rattle.image.specs.Headers.{InRange, in_range, header_read, verdict_short, verdict_header, verdict_length}
use Rattle.image.specs.Reading.{HeaderRead}
use Rattle.image.proofs.reader.read_header.Goals as goal
use Rattle.image.proofs.reader.read_header.Goals.{Else-zero-ne0, Else-rest-from}

pub returns-in_default-clause-header : goal.returns-in_default-clause-header
returns-in_default-clause-header c = verdict_short c.args.bytes.now (omega (arith, ltb-true))

pub returns-then-n-eq0-clause-header : goal.returns-then-n-eq0-clause-header
returns-then-n-eq0-clause-header c =
    verdict_header c.args.bytes.now (omega (arith, ltb-false))
    (λ h. omega (arith, h.some, h.few, h.most, h.edition, h.zero, c.number-n.ensures, c.number-records.ensures, c.number-edition.ensures, c.number-zero.ensures, c.then-n-eq0.either))

-- where every field passed its test
ranged : (c : Else-zero-ne0) → InRange c.args.bytes.now
ranged c =
    in_range c.args.bytes.now c.number-n.result c.number-records.result c.number-edition.result c.number-zero.result c.number-n.ensures c.number-records.ensures c.number-edition.ensures c.number-zero.ensures c.if-n-eq0.false c.if-n-gt-MOST_JUNCTIONS.false c.if-records-gt-MOST_RECORDS.false c.if-edition-ne-EDITION.false c.if-zero-ne0.false

pub returns-then-rest-from-clause-header : goal.returns-then-rest-from-clause-header
returns-then-rest-from-clause-header c =
    verdict_length c.args.bytes.now (omega (arith, ltb-false)) (ranged (goal.at.returns-then-rest-from-clause-header c).Else-zero-ne0)
    (λ e. c.if-rest-from.true (simp (length-take, length-drop) (omega (arith, c.number-n.ensures, c.number-records.ensures))))

-- and the length is the one that they say
headed : (c : Else-rest-from) → InRange c.args.bytes.now → HeaderRead c.args.bytes.now (Ok (record { n = c.number-n.result; records = c.number-records.result }))
headed c range =
    header_read c.args.bytes.now (record { n = c.number-n.result; records = c.number-records.result }) (omega (arith, ltb-false)) c.number-n.ensures c.number-records.ensures range
    (omega (arith, ltb-false, simp (length-take, length-drop) at c.if-rest-from.false))

pub invariant_of-result : goal.invariant_of-result
invariant_of-result c = record { laid = (headed c (ranged (goal.at.invariant_of-result c).Else-zero-ne0)).0 }

pub returns-clause-header : goal.returns-clause-header
returns-clause-header c = headed (goal.at.returns-clause-header c).Else-rest-from (ranged (goal.at.returns-clause-header c).Else-zero-ne0)
