-- `library_writing::write::write_file` meets its contract.
-- Assumes nothing.
use Rattle.library_writing.proofs.Answers.{file-asked}
use Rattle.library_writing.proofs.write.write_file.Goals as goal

pub returns-in-Some : goal.returns-in-Some
returns-in-Some c =
    file-asked c.args.entries.now c.args.words.now c.requires.0.pairs c.requires.2 c.write_start.new.start c.write_bodies.new.out
    c.write_start.ensures c.write_bodies.ensures
