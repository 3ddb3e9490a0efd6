use Rattle.std.proofs.Common.{arith, refl, rules}
use Rattle.answer_line.proofs.Writing.{copied}
use Rattle.answer_line.proofs.text.Line.word.Goals as goal

pub returns : goal.returns
returns c =
    record {
      same = refl;
      size = search rules;
      wrote =
          record {
            place = refl;
            content = copied c.args.self.now.bytes.now c.args.word.now _ c.args.self.now.len _ c.copy_from_slice.ensures.after (omega arith) c.requires;
          };
    }
