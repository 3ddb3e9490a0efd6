-- The fields below the count are the digits of the word to the base 256; the count is what is above them.
use native.Mathlib.Omega.{arith}
use Rattle.answer_words.specs.AnswerWords.{answer_word}
use Rattle.answer_words.specs.Fields.{FieldsReadBack}

pub fields_read_back : FieldsReadBack
unfolding answer_word
fields_read_back refusal code state world count refusal< code< state< world< =
    record {
      refusal_read = omega arith;
      code_read = omega arith;
      state_read = omega arith;
      world_read = omega arith;
      count_read = omega arith;
    }
