-- Each file is what its caller spelled.
use Rattle.hm_agreement.proofs.Parts.{part_of_history, files_of_history}
use Rattle.hm_agreement.proofs.laws.each_file_is_what_its_caller_spelled.Goals as goal

pub returns-clause-parts : goal.returns-clause-parts
returns-clause-parts c = λ limits lengths start history begins lawful q. part_of_history limits lengths q start history begins lawful

pub returns-clause-files : goal.returns-clause-files
returns-clause-files c = λ limits lengths start history begins lawful n within. files_of_history limits lengths n start history begins lawful within
