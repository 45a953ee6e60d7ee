-- The words of a version: its link, its stamp, four references and ten numbers.
use Rattle.std.specs.Prelude.{ℕ}

-- the first word is the link
abbrev pub link_at : ℕ
link_at = 0

-- the next is the stamp
abbrev pub stamp_at : ℕ
stamp_at = 1

-- then come the references
abbrev pub first_reference : ℕ
first_reference = 2

-- and behind the four of them the numbers
abbrev pub first_number : ℕ
first_number = 6

-- with ten numbers a version has so many words
abbrev pub version_words : ℕ
version_words = 16
