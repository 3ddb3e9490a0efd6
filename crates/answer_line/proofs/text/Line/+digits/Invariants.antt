use Rattle.answer_line.proofs.text.Line.+digits.Given as goal

abbrev pub decreases-digits : goal.decreases-digits
decreases-digits l = l.n
