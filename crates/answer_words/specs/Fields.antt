-- What a caller reads from an answer (include/nessflurry.h): the five fields, and that a refusal cannot be mistaken for an answer.
use Rattle.std.specs.Prelude.{◌≡◌, ◌≢◌, ◌↔◌, List, ℕ, ◌/◌, ◌%◌, ◌<◌}
use Rattle.lamp_line.specs.declared.ProgramState.{ProgramState}
use Rattle.lamp_line.specs.declared.WorldState.{WorldState}
use Rattle.lamp_line.specs.declared.Cabinet.{Cabinet}
use Rattle.lamp_line.specs.Tables.{Line}
use Rattle.lamp_line.specs.Run.{pair}
use Rattle.job_layout.specs.declared.Sizes.{Sizes}
use Rattle.job_file.specs.Reading.{reading_of}
use Rattle.lamp_walk.specs.WalkAnswers.{walk_answer}
use Rattle.line_run.specs.RunAnswers.{run_answer}
use Rattle.plan_check.specs.CheckAnswers.{Lent}
use Rattle.cabinet.specs.CabinetAnswers.{begin_answer, action_answer, report_answer}
use Rattle.cell_filling.specs.FillAnswers.{fill_answer}
use Rattle.answer_words.specs.AnswerWords.{answer_word, refused_code, read_word, walk_word, run_word, CheckedWord, CheckedUpToWord, begin_word, action_word, report_word, ReplayedWord, fill_word}

-- ---- the fields, as the header extracts them

abbrev pub refusal_field : ℕ → ℕ
refusal_field n = n % 256

abbrev pub code_field : ℕ → ℕ
code_field n = n / 256 % 256

abbrev pub state_field : ℕ → ℕ
state_field n = n / 65536 % 256

abbrev pub world_field : ℕ → ℕ
world_field n = n / 16777216 % 256

abbrev pub count_field : ℕ → ℕ
count_field n = n / 4294967296

-- The fields of the number n are these.
pub record Fields (n refusal code state world count : ℕ) : Type 0 where
  pub refusal_read : refusal_field n ≡ refusal
  pub code_read : code_field n ≡ code
  pub state_read : state_field n ≡ state
  pub world_read : world_field n ≡ world
  pub count_read : count_field n ≡ count

-- What is put into a word is read back, provided every part but the count is a byte.
abbrev pub FieldsReadBack : Type 0
FieldsReadBack =
    (refusal code state world count : ℕ) → refusal < 256 → code < 256 → state < 256 → world < 256 →
    Fields (answer_word refusal code state world count) refusal code state world count

-- ---- refusals

-- A caller can test the code or the refusal field: the code is 255 exactly when the refusal field is not 0.
abbrev pub RefusalShown : ℕ → Type 0
RefusalShown n = (code_field n ≡ refused_code) ↔ (refusal_field n ≢ 0)

-- It is so for every number that an exported function answers by its contract, whatever it is handed.
pub record RefusalsShown : Type 0 where
  pub of_read : (s : List ℕ) → RefusalShown (read_word (reading_of s))
  pub of_walk : (s : List ℕ) (q : ProgramState) (w : WorldState) (column : ℕ) → RefusalShown (walk_word (walk_answer s (pair q w) column))
  pub of_run : (s : List ℕ) (start : WorldState) (line : Line) (limit : ℕ) → RefusalShown (run_word (run_answer s start line limit))
  pub of_check : (s : List ℕ) (n : ℕ) (before after : Lent) → CheckedWord s n before after → RefusalShown n
  pub of_check_up_to : (s : List ℕ) (longest n : ℕ) (before after : Lent) → CheckedUpToWord s longest n before after → RefusalShown n
  pub of_begin : (s : List ℕ) (lamps : ℕ) → RefusalShown (begin_word (begin_answer s lamps))
  pub of_action : (s : List ℕ) (m : Cabinet) → RefusalShown (action_word (action_answer s m))
  pub of_report : (s : List ℕ) (m : Cabinet) (result : ℕ) → RefusalShown (report_word (report_answer s m result))
  pub of_replay : (s log : List ℕ) (n : ℕ) → ReplayedWord s log n → RefusalShown n
  pub of_fill : (s : List ℕ) (n : Sizes) (size : ℕ) → RefusalShown (fill_word (fill_answer s n size))
