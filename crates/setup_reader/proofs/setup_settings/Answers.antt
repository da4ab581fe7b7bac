-- `setup_reader::setup_settings` meets its contract: what is claimed of all files.
use Rattle.setup_file.proofs.OnlyForm.{only-form}
use Rattle.setup_file.proofs.Seen.{seen-is-shown}
use Rattle.setup_file.proofs.Leftmost.{leftmost}
use Rattle.setup_file.proofs.Course.{course-shown}
use Rattle.setup_file.proofs.Examples.{files-as-tabled}
use Rattle.setup_reader.proofs.setup_settings.Goals as goal

pub returns-in_err-read-clause-form : goal.returns-in_err-read-clause-form
returns-in_err-read-clause-form c = only-form

pub returns-in_err-read-clause-seen : goal.returns-in_err-read-clause-seen
returns-in_err-read-clause-seen c = seen-is-shown

pub returns-in_err-read-clause-leftmost : goal.returns-in_err-read-clause-leftmost
returns-in_err-read-clause-leftmost c = leftmost

pub returns-in_err-read-clause-course : goal.returns-in_err-read-clause-course
returns-in_err-read-clause-course c = course-shown c.args.file.now

pub returns-in_err-read-clause-examples : goal.returns-in_err-read-clause-examples
returns-in_err-read-clause-examples c = files-as-tabled

pub returns-clause-form : goal.returns-clause-form
returns-clause-form c = only-form

pub returns-clause-seen : goal.returns-clause-seen
returns-clause-seen c = seen-is-shown

pub returns-clause-leftmost : goal.returns-clause-leftmost
returns-clause-leftmost c = leftmost

pub returns-clause-course : goal.returns-clause-course
returns-clause-course c = course-shown c.args.file.now

pub returns-clause-examples : goal.returns-clause-examples
returns-clause-examples c = files-as-tabled
