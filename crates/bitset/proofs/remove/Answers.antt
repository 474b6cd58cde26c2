use Rattle.bitset.proofs.Held.{remove_word, remove_nothing}
use Rattle.bitset.proofs.remove.Goals as goal

pub returns-then-word-words : goal.returns-then-word-words
returns-then-word-words c = remove_word c.args.words.now c.args.i c.if-word-words.true

pub returns-else-word-words : goal.returns-else-word-words
returns-else-word-words c = remove_nothing c.args.words.now c.args.i c.if-word-words.false
