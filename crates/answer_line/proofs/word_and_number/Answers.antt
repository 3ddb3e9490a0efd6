use Rattle.std.proofs.Common.{rules}
use Rattle.answer_line.proofs.Writing.{appended_then, finished}
use Rattle.answer_line.proofs.word_and_number.Goals as goal

pub returns : goal.returns
returns c =
    finished (appended_then c.word.ensures (appended_then c.number.ensures.appended c.byte.ensures)) (search rules)
