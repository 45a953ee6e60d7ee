-- Contents have at most one book.
use Rattle.hm_agreement.proofs.OneBook.{one_book}
use Rattle.hm_agreement.proofs.laws.contents_have_at_most_one_book.Goals as goal

pub returns : goal.returns
returns c = record { one = one_book }
