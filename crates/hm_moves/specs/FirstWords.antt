-- The words of a fresh Table, and what they say.
use Rattle.std.specs.Prelude.{◌≡◌, ℕ, ◌+◌, ◌-◌, List, [], ◌∷◌, ◌++◌, length, map, replicate, Option, Some, None}
use Rattle.std.specs.List.{flat_map}
use Rattle.hm_shape.specs.declared.shape.Shape.{Shape}
use Rattle.hm_shape.specs.Words.{word_count, roles_word}
use Rattle.hm_model.specs.declared.object.Name.{Name}
use Rattle.hm_model.specs.declared.object.Start.{Start}
use Rattle.hm_model.specs.Store.{Numbers}
use Rattle.hm_model.specs.History.{side_names, IsSizedStart}
use Rattle.hm_moves.specs.declared.part.Known.{Known}
use Rattle.hm_moves.specs.Chain.{IsPublished, AreTrue, link_of}
use Rattle.hm_moves.specs.Fresh.{all_known, fresh_index, side_known, HasHead, fresh_roles}

-- the stage is 0, and so is each caller's reply; each caller's roles are those of To at region 0
-- alone
abbrev pub head_words : Shape → List ℕ
head_words s = replicate (s.callers + 1) 0 ++ replicate s.callers (roles_word fresh_roles)

-- a reference to a starting object is the word that names its version, which has the object's count
-- as number
abbrev pub count_word : Option Name → ℕ
count_word None = 0
count_word (Some n) = n.count + 1

-- the words of a starting version: link 0, stamp 0, the references and the numbers
abbrev pub known_words : Known → List ℕ
known_words k = 0 ∷ 0 ∷ map count_word k.contents.refs ++ k.contents.numbers

-- behind the head come the starting versions in order
abbrev pub laid_words : Shape → Start → List ℕ
laid_words s start = head_words s ++ flat_map known_words (all_known start)

-- and all words behind them are 0
abbrev pub first_words : Shape → Start → List ℕ
first_words s start =
    laid_words s start ++ replicate (word_count s - length (laid_words s start)) 0

-- words are those of a fresh heap where their head is, and say what the starting objects hold with
-- each link 0
pub record AreFirst (s : Shape) (start : Start) (words : List ℕ) : Type 0 where
  pub sized : IsSizedStart start
  pub wide : length words ≡ word_count s
  pub head : HasHead s words
  pub contents : AreTrue s words (fresh_index start)
  pub links : (k : Known) → IsPublished (fresh_index start) k → link_of s words k ≡ 0

-- the k-th starting object is the side object that is given, if it is: its words come next, its
-- word is the one that names it, and the next starting object has the next number
pub record LaysSide (before : List ℕ) (k : ℕ) (side : Option Numbers) (word : ℕ)
    (after : List ℕ) (next : ℕ) : Type 0 where
  pub words : after ≡ before ++ flat_map known_words (side_known k (side ∷ []))
  pub count : next ≡ k + length (side_known k (side ∷ []))
  pub name : word ∷ [] ≡ map count_word (side_names k (side ∷ []))
