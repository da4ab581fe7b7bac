-- `byte_reader::Reader::new` meets its contract: of a new reader every word is formed.
use Rattle.byte_reader.proofs.Formed.{words-formed}
use Rattle.byte_reader.proofs.Reader.new.Goals as goal

pub returns-clause-formed : goal.returns-clause-formed
returns-clause-formed c = words-formed
