use Rattle.answer_words.specs.AnswerWords.{answer_word}
use mathlib.Core.Path.{refl}
use Rattle.answer_words.proofs.answer_word.Goals as goal

pub returns : goal.returns
unfolding answer_word
returns c =
    refl
