-- The board of a report of an interleaving has the lengths of its files.
use Rattle.hm_book.proofs.Parts.{rows-interleaved}
use Rattle.hm_book.proofs.laws.a_report_of_an_interleaving_counts_its_files.Goals as goal

pub returns : goal.returns
returns c = λ limits files orders parts. rows-interleaved files orders parts
