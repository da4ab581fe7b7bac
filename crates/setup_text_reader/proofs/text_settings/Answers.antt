-- `setup_text_reader::text_settings` meets its contract: what is claimed of all texts.
use Rattle.setup_text.proofs.Form.{text-form}
use Rattle.setup_text.proofs.Faults.{first-fault}
use Rattle.setup_text.proofs.Examples.{texts-as-tabled}
use Rattle.setup_text_reader.proofs.text_settings.Goals as goal

pub returns-in_err-read-clause-form : goal.returns-in_err-read-clause-form
returns-in_err-read-clause-form c = text-form

pub returns-in_err-read-clause-fault : goal.returns-in_err-read-clause-fault
returns-in_err-read-clause-fault c = first-fault

pub returns-in_err-read-clause-examples : goal.returns-in_err-read-clause-examples
returns-in_err-read-clause-examples c = texts-as-tabled

pub returns-clause-form : goal.returns-clause-form
returns-clause-form c = text-form

pub returns-clause-fault : goal.returns-clause-fault
returns-clause-fault c = first-fault

pub returns-clause-examples : goal.returns-clause-examples
returns-clause-examples c = texts-as-tabled
