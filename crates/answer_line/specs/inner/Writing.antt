-- For the functions that write the line piece by piece.
use Rattle.std.specs.Prelude.{◌≡◌, List, ℕ, ◌+◌, length}
use Rattle.std.proofs.lemmas.List.Edits.{sets}
use Rattle.answer_line.specs.declared.text.Line.{Line}

-- The text is written into the buffer from the index `at` on, and `next` is the index after it.
pub record Wrote (before : List ℕ) (at : ℕ) (text : List ℕ) (next : ℕ) (after : List ℕ) : Type 0 where
  pub place : next ≡ at + length text
  pub content : after ≡ sets before at text

-- The text is appended to the line, in the same buffer.
pub record Appended (before : Line) (text : List ℕ) (after : Line) : Type 0 where
  pub same : after.bytes.ghost_name ≡ before.bytes.ghost_name
  pub size : length after.bytes.now ≡ length before.bytes.now
  pub wrote : Wrote before.bytes.now before.len text after.len after.bytes.now
