use Rattle.bitset.proofs.Held.{insert_word}
use Rattle.bitset.proofs.insert.Goals as goal

pub returns-then-word-words : goal.returns-then-word-words
returns-then-word-words c = insert_word c.args.words.now c.args.i c.if-word-words.true
